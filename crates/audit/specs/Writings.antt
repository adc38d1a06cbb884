-- What writing the report of a settled ledger promises.
use Rattle.std.specs.Prelude.{◌≡◌, ℕ, true, List, length, is_ok, IfOk, IfErr, Result}
use Rattle.records.specs.declared.request.Request.{Request}
use Rattle.runs.specs.Past.{Past}
use Rattle.runs.specs.Rules.{Setup}
use Rattle.runs.specs.Books.{Books}
use Rattle.runs.specs.Law.{Stands}
use Rattle.reports.specs.declared.refusal.WriteRefusal.{WriteRefusal}
use Rattle.reports.specs.Answers.{Subject, answer, buffer_after, columns_of, refusal_number, report_about, text_about}
use Rattle.grammar.specs.Shown.{shown_of}
use Rattle.readback.specs.Answers.{ReadAs, map_both}
use Rattle.audit.specs.declared.writing.Written.{Written}
use Rattle.audit.specs.Figures.{Counts, Sums, total, unfollowed}

abbrev pub length_of : Result Written WriteRefusal → Result ℕ WriteRefusal
length_of r = map_both (λ w. w.length) (λ e. e) r

-- a report about s was written into a buffer that held `old` and then holds `new`, or was refused
pub record Writes (s : Subject) (old new : List ℕ) (r : Result Written WriteRefusal) : Type 0 where
  -- the length of the report, or the first ground to refuse it
  pub answer : length_of r ≡ answer s (length old)
  pub numbered : IfErr r (λ e. refusal_number e ≡ 11)
  -- the report from the buffer's first byte on, or the buffer as it was
  pub buffer : new ≡ buffer_after (length_of r) (text_about s) old
  -- what is written sums up the count table
  pub sums : is_ok r ≡ true → Sums s.cells s.titles (columns_of s) (report_about s).lines
  -- the reader, given the same scheme and tables of full size, accepts it, and reads out what it shows of the report
  pub accepted : is_ok r ≡ true → ReadAs s.layout (text_about s) (shown_of s.layout (report_about s))
  -- what was found in it when it was read back: every title, and the report's total
  pub found : IfOk r (λ w. (w.titles ≡ s.titles) × (w.total ≡ total (columns_of s) (report_about s).lines))

-- and with whatever past the ledger stood, what is written counts the requests of that past that have no follower;
-- `held` are the ledger's books with a waiting table
pub record Reports (u : Setup) (held : List Request → Books) (s : Subject) (old new : List ℕ) (r : Result Written WriteRefusal) : Type 0 where
  pub writing : Writes s old new r
  pub law : (p : Past) (w : List Request) → Stands u p (held w) → is_ok r ≡ true → Counts u s.layout.ytd (unfollowed u p) (report_about s).lines
  -- its total is then the ledger's tally of counted requests
  pub tally : (p : Past) (w : List Request) → Stands u p (held w) → is_ok r ≡ true → total u.columns (report_about s).lines ≡ (held w).counted
