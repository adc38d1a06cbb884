-- What a row of steps says once it is performed.
use Rattle.std.specs.Prelude.{◌≡◌, ℕ, Bool, true, false, List, [], ◌∷◌, ◌++◌, map, length, drop, Some, Ok, Err, Result}
use Rattle.records.specs.Items.{Item}
use Rattle.ledger.specs.declared.answer.Refusal.{Refusal}
use Rattle.ledger.specs.Answers.{number}
use Rattle.runs.specs.Past.{Answer, granted, passed_over, refused, Call, offered, drew, noticed, settling, Past}
use Rattle.replay.specs.declared.row.Entry.{Entry}
use Rattle.replay.specs.declared.row.Reply.{Reply}
use Rattle.replay.specs.declared.row.Reply.TheVariants.{Granted, PassedOver, Took}
use Rattle.replay.specs.declared.row.Step.{Step}
use Rattle.replay.specs.declared.row.Step.TheVariants.{Offer, Draw, Notice, Settle}

-- whether a step's call is lent the ledger's own tables
abbrev pub is_lent : Step → Bool
is_lent (Offer x lent) = lent
is_lent (Draw n lent) = lent
is_lent (Notice t lent) = lent
is_lent Settle = false

-- the step, whose call is lent them or not
abbrev pub with_lent : Bool → Step → Step
with_lent b (Offer x lent) = Offer x b
with_lent b (Draw n lent) = Draw n b
with_lent b (Notice t lent) = Notice t b
with_lent b Settle = Settle

-- the reply says the answer
abbrev pub Says : Result Reply Refusal → Answer → Type 0
Says (Ok Granted) a = a ≡ granted
Says (Ok PassedOver) a = a ≡ passed_over
Says (Ok (Took k)) a = ⊥
Says (Err e) a = a ≡ refused (number e)

-- the reply tells how many items a draw presented
abbrev pub Tells : Bool → Result Reply Refusal → ℕ → Type 0
Tells lent (Ok (Took k)) m = (lent ≡ true) × (k ≡ m)
Tells lent (Err e) m = (lent ≡ false) × (number e ≡ 8) × (m ≡ 0)
Tells lent (Ok Granted) m = ⊥
Tells lent (Ok PassedOver) m = ⊥

-- the call that a step made, which was replied to so; the run's source had the items ys still to come, and then zs
abbrev pub Made : Step → Result Reply Refusal → Call → List Item → List Item → Type 0
Made (Offer x lent) r c ys zs = (a : Answer) × Says r a × (c ≡ offered lent x a) × (zs ≡ ys)
Made (Draw n lent) r c ys zs = (answers : List Answer) × Tells lent r (length answers) × (c ≡ drew lent ys n answers) × (zs ≡ drop (length answers) ys)
Made (Notice t lent) r c ys zs = (a : Answer) × Says r a × (c ≡ noticed lent t a) × (zs ≡ ys)
Made Settle r c ys zs = (a : Answer) × Says r a × (c ≡ settling false a) × (zs ≡ ys)

-- the calls p, the newest first, are those that the entries' steps made, in their order, and each entry has its reply;
-- the run's source had the items xs at first
pub data Told (xs : List Item) : List Entry → Past → List Item → Type 0 where
  none : Told xs [] [] xs
  more : {entries : List Entry} {p : Past} {ys : List Item} (e : Entry) (c : Call) (zs : List Item) (r : Result Reply Refusal) → Told xs entries p ys → e.reply ≡ Some r → Made e.step r c ys zs → Told xs (entries ++ (e ∷ [])) (c ∷ p) zs

-- what a row asks for
abbrev pub steps_of : List Entry → List Step
steps_of entries = map (λ e. e.step) entries
