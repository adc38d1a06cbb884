-- Which files the writer gives, and that the files that are read are just those.
use Rattle.std.specs.Prelude.{◌≡◌, ℕ, ◌^◌, ◌<◌, ◌≤◌, List, length, is_ok, Ok, Decides}
use Rattle.std.specs.List.{AllByRecursion}
use Rattle.columns.specs.Layouts as layouts
use Rattle.columns.specs.Layouts.{Layout}
use Rattle.reports.specs.Answers.{Subject, answer, text_about}
use Rattle.grammar.specs.Files.{read_file}

-- the writer gives the file under a scheme with this layout, for some titles, some count table, and some header
pub record Given (l : Layout) (file : List ℕ) : Type 0 where
  pub subject : Subject
  -- the scheme is the ledger's
  pub layout : subject.layout ≡ l
  -- 1 to 512 titles, as many as the ledger was opened with
  pub some : 1 ≤ length subject.entries
  pub most : length subject.entries ≤ 512
  pub count : length subject.entries ≡ subject.titles
  -- a cell of the count table is a number of 32 bits
  pub cells : AllByRecursion (λ c. c < 2 ^ 32) subject.cells
  -- a buffer just as long as the file is written full, and what is written is the file
  pub granted : answer subject (length file) ≡ Ok (length file)
  pub text : text_about subject ≡ file

-- under every layout that a scheme may have, a file is read just where the writer gives it
abbrev pub AcceptedIsGiven : Type 0
AcceptedIsGiven = (l : Layout) (file : List ℕ) → layouts.Sound l → Decides (is_ok (read_file l file)) (Given l file)
