-- What a reading tells, from its answer and the tables it leaves.
use Rattle.std.proofs.Common.{◌≡◌, ℕ, Bool, true, cond, List, is_ok, Ok, Err, Decides, Result, sym, refl, ap, ◌∙◌, subst}
use Rattle.columns.specs.Layouts as layouts
use Rattle.columns.specs.Layouts.{Layout}
use Rattle.grammar.specs.Files.{Reading, read_file, reported}
use Rattle.grammar.specs.Given.{Given}
use Rattle.grammar.proofs.Files.{exact}
use Rattle.grammar.proofs.Gives.{accepted_is_given}
use Rattle.readback.specs.declared.answer.ReadOut.{ReadOut}
use Rattle.readback.specs.declared.answer.ReadRefusal.{ReadRefusal}
use Rattle.readback.specs.declared.answer.ReadRefusal.TheVariants.{Faulty, ShortTables}
use Rattle.readback.specs.Answers.{ReadAs, Summary, Tables, Told, answer, filled_with, held_report, map_both, roomy, summary, summary_of, tables_after}
use Rattle.readback.proofs.Holding.{held_is, told}
use Rattle.readback.proofs.Rows.{read_fit}

pub told_by : (l : Layout) → layouts.Sound l → (t : Tables) (file : List ℕ) (after : Tables) (r : Result Summary ReadRefusal) → r ≡ answer l t file → after ≡ tables_after l t file → Told l file after r
told_by l sound t file after r a b =
    subst (λ (x : Result Summary ReadRefusal). Told l file after x) (sym a)
    (subst (λ (x : Tables). Told l file x (answer l t file)) (sym b) (told l t file (exact l file sound)))

ok_both : {A B E F : Type 0} (f : A → B) (g : E → F) (r : Result A E) → is_ok (map_both f g r) ≡ is_ok r
ok_both f g (Ok x) = refl
ok_both f g (Err e) = refl

-- given tables of full size, a file is read just where the writer gives it
pub given_by : (l : Layout) → layouts.Sound l → (t : Tables) (file : List ℕ) (r : Result ReadOut ReadRefusal) → map_both summary_of (λ e. e) r ≡ answer l t file → roomy l t ≡ true → Decides (is_ok r) (Given l file)
given_by l sound t file r a room =
    let e : is_ok r ≡ is_ok (read_file l file) =
    sym (ok_both summary_of (λ e. e) r) ∙ ap is_ok a ∙ ap (λ (b : Bool). is_ok (cond b (map_both summary Faulty (read_file l file)) (Err ShortTables))) room ∙ ok_both summary Faulty (read_file l file) in
    subst (λ (b : Bool). Decides b (Given l file)) (sym e) (accepted_is_given l file sound)

-- the reader accepts a file that can be read, whatever tables of full size it is given, and reads out the report
pub read_as : (l : Layout) (file : List ℕ) (rd : Reading) → read_file l file ≡ Ok rd → ReadAs l file (reported rd)
read_as l file rd e t room = (
  summary rd,
  ap (λ (b : Bool). cond b (map_both summary Faulty (read_file l file)) (Err ShortTables)) room ∙ ap (map_both summary Faulty) e,
  ap (λ (x : Tables). held_report l (summary rd) x) (ap (λ (b : Bool). cond b (filled_with l t (read_file l file)) t) room ∙ ap (filled_with l t) e) ∙ held_is l t rd (read_fit l file rd e).each,
)
