-- What a whole run with its report promises. `at` says what the terms of a ledger fix, and `layout` what a scheme's
-- columns are; the tables, the items that the source has still to come, the entries and the buffer are named as they were
-- before the run, and with a prime as they are after it.
use Rattle.std.specs.Prelude.{◌≡◌, ℕ, true, List, ◌∷◌, length, is_ok, IfOk, Ok, Err, Result}
use Rattle.records.specs.Items.{Item}
use Rattle.records.specs.declared.request.Request.{Request}
use Rattle.columns.specs.Layouts.{Layout}
use Rattle.titles.specs.declared.title.Title.{Title}
use Rattle.runs.specs.Rules.{Setup}
use Rattle.runs.specs.Past.{granted, Past, settling}
use Rattle.runs.specs.Law.{Stands}
use Rattle.ledger.specs.declared.state.Terms.{Terms}
use Rattle.ledger.specs.declared.state.Unopened.{Unopened}
use Rattle.ledger.specs.Answers.{number}
use Rattle.ledger.specs.Openings.{openable}
use Rattle.ledger.specs.Views.{settled_books_of}
use Rattle.replay.specs.declared.row.Entry.{Entry}
use Rattle.replay.specs.Rows.{steps_of, Told}
use Rattle.reports.specs.declared.header.Header.{Header}
use Rattle.reports.specs.Answers.{report_about, subject_of}
use Rattle.audit.specs.declared.audit.Audit.{Audit}
use Rattle.audit.specs.Figures.{Counts, total, unfollowed}
use Rattle.audit.specs.Writings.{Writes}

-- the run was led to its end, and its report was written or refused
pub record Ends {R S : Type 0} (at : Terms R S → Setup) (layout : S → Layout) (rule : R) (scheme : S) (limit : ℕ) (waiting waiting' : List Request) (cells' : List ℕ) (xs xs' : List Item) (entries' : List Entry) (titles : List Title) (header : Header) (out out' : List ℕ) (a : Audit R S) : Type 0 where
  -- the ledger is the one that was asked for
  pub rule_is : a.ledger.last.terms.rule ≡ rule
  pub scheme_is : a.ledger.last.terms.scheme ≡ scheme
  pub titles_are : a.ledger.last.terms.titles ≡ length titles
  pub limit_is : a.ledger.last.terms.limit ≡ limit
  pub slots_are : a.ledger.last.terms.slots ≡ length waiting
  -- all calls before the settling: those that the entries tell, with their replies
  pub past : Past
  pub told : Told xs entries' past xs'
  -- with them and the settling the ledger stands: each reply, each tally and each cell is what they call for
  pub stands : Stands (at a.ledger.last.terms) (settling true granted ∷ past) (settled_books_of a.ledger waiting' cells')
  -- the report is that of this ledger, its count table and the titles
  pub writing : Writes (subject_of layout a.ledger cells' titles header) out out' a.written
  -- and counts the accepted requests of those calls that have no follower
  pub counts : is_ok a.written ≡ true → Counts (at a.ledger.last.terms) (layout scheme).ytd (unfollowed (at a.ledger.last.terms) past) (report_about (subject_of layout a.ledger cells' titles header)).lines
  -- the total that was read back from it is the number of all of them
  pub read_total : IfOk a.written (λ w. w.total ≡ length (unfollowed (at a.ledger.last.terms) past))
  -- so that its total is the ledger's tally of counted requests
  pub tally : is_ok a.written ≡ true → total (at a.ledger.last.terms).columns (report_about (subject_of layout a.ledger cells' titles header)).lines ≡ a.ledger.last.tallies.counted

-- the ledger was not opened, and everything is as it was
pub record Stays {R S : Type 0} (rule : R) (scheme : S) (waiting : List Request) (cells : List ℕ) (waiting' : List Request) (cells' : List ℕ) (xs xs' : List Item) (entries entries' : List Entry) (out out' : List ℕ) (e : Unopened R S) : Type 0 where
  pub rule_is : e.rule ≡ rule
  pub scheme_is : e.scheme ≡ scheme
  pub numbered : number e.refusal ≡ 9
  pub tables : (waiting' ≡ waiting) × (cells' ≡ cells)
  pub source : xs' ≡ xs
  pub row : entries' ≡ entries
  pub buffer : out' ≡ out

-- how the run ended, or that it did not begin
abbrev pub Led : {R S : Type 0} → (Terms R S → Setup) → (S → Layout) → R → S → ℕ → List Request → List ℕ → List Request → List ℕ → List Item → List Item → List Entry → List Entry → List Title → Header → List ℕ → List ℕ → Result (Audit R S) (Unopened R S) → Type 0
Led at layout rule scheme limit waiting cells waiting' cells' xs xs' entries entries' titles header out out' (Ok a) =
    Ends at layout rule scheme limit waiting waiting' cells' xs xs' entries' titles header out out' a
Led at layout rule scheme limit waiting cells waiting' cells' xs xs' entries entries' titles header out out' (Err e) =
    Stays rule scheme waiting cells waiting' cells' xs xs' entries entries' out out' e

-- a whole run with its report
pub record Audits {R S : Type 0} (at : Terms R S → Setup) (layout : S → Layout) (rule : R) (scheme : S) (limit : ℕ) (waiting : List Request) (cells : List ℕ) (waiting' : List Request) (cells' : List ℕ) (xs xs' : List Item) (entries entries' : List Entry) (titles : List Title) (header : Header) (out out' : List ℕ) (r : Result (Audit R S) (Unopened R S)) : Type 0 where
  -- the ledger is opened exactly for sizes that it may have
  pub opened : is_ok r ≡ openable (length titles) (length (layout scheme).headings) limit (length waiting) (length cells)
  -- the steps stay what they were, and only the replies are entered
  pub steps : steps_of entries' ≡ steps_of entries
  pub led : Led at layout rule scheme limit waiting cells waiting' cells' xs xs' entries entries' titles header out out' r
