-- Calls that are lent the ledger's tables, and calls that are lent none.
use Rattle.std.proofs.Common.{◌≡◌, ◌≤◌, Bool, false, eqb, List, length, sym, refl, ap, subst, arith, Result}
use Rattle.std.proofs.lemmas.Bool.{and_left, ne_eqb}
use Rattle.records.specs.Items.{Item}
use Rattle.runs.specs.Rules.{Setup, cell_count}
use Rattle.runs.specs.Past.{Call}
use Rattle.runs.specs.Books.{Books, fits}
use Rattle.ledger.specs.declared.answer.Refusal.{Refusal}
use Rattle.replay.specs.declared.row.Reply.{Reply}
use Rattle.replay.specs.declared.row.Step.{Step}
use Rattle.replay.specs.declared.row.Step.TheVariants.{Offer, Draw, Notice, Settle}
use Rattle.replay.specs.Rows.{Made, is_lent, with_lent}

-- a waiting table without entries does not fit
pub unlent : (u : Setup) (b : Books) → 1 ≤ u.slots → b.slots ≡ 0 → fits u b ≡ false
unlent u b some none = and_left (eqb b.slots u.slots) (eqb (length b.cells) (cell_count u)) (ne_eqb b.slots u.slots (λ e. omega arith))

lent_so : (s : Step) (b : Bool) → is_lent s ≡ b → with_lent b s ≡ s
lent_so (Offer x lent) b e = ap (Offer x) (sym e)
lent_so (Draw n lent) b e = ap (Draw n) (sym e)
lent_so (Notice t lent) b e = ap (Notice t) (sym e)
lent_so Settle b e = refl

-- a call by the flag that its step has
pub made_so : (s : Step) (b : Bool) (r : Result Reply Refusal) (c : Call) (ys zs : List Item) → is_lent s ≡ b → Made (with_lent b s) r c ys zs → Made s r c ys zs
made_so s b r c ys zs e m = subst (λ z. Made z r c ys zs) (lent_so s b e) m
