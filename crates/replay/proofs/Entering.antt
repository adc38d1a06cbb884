-- Replies entered one after another.
use Rattle.std.proofs.Common.{◌≡◌, ℕ, ◌+◌, ◌<◌, ◌≤◌, List, ◌∷◌, length, get_or, take, set, Some, sym, refl, ap, ◌∙◌, subst, Result}
use Rattle.std.proofs.lemmas.List.{get_or-map, map-set, set-get_or, take_all, take_more_set}
use Rattle.records.specs.Items.{Item}
use Rattle.runs.specs.Past.{Call, Past}
use Rattle.ledger.specs.declared.answer.Refusal.{Refusal}
use Rattle.replay.specs.declared.row.Entry.{Entry}
use Rattle.replay.specs.declared.row.Reply.{Reply}
use Rattle.replay.specs.declared.row.Step.{Step}
use Rattle.replay.specs.Rows.{Made, more, steps_of, Told}

-- the entry at i with a reply
abbrev pub entered : List Entry → ℕ → Entry → Result Reply Refusal → Entry
entered entries i d r = record { step = (get_or entries i d).step; reply = Some r }

pub told_more : (xs : List Item) (entries : List Entry) (p : Past) (ys zs : List Item) (i : ℕ) (d : Entry) (r : Result Reply Refusal) (c : Call) → i < length entries → Told xs (take i entries) p ys → Made (get_or entries i d).step r c ys zs → Told xs (take (i + 1) (set entries i (entered entries i d r))) (c ∷ p) zs
told_more xs entries p ys zs i d r c lt t m =
    subst (λ (es : List Entry). Told xs es (c ∷ p) zs) (sym (take_more_set entries i (entered entries i d r) lt)) (more (entered entries i d r) c zs r t refl m)

pub steps_kept : (entries : List Entry) (i : ℕ) (d : Entry) (r : Result Reply Refusal) → i < length entries → steps_of (set entries i (entered entries i d r)) ≡ steps_of entries
steps_kept entries i d r lt =
    let step : Entry → Step = λ e. e.step in
    map-set step entries i (entered entries i d r)
    ∙ ap (set (steps_of entries) i) (sym (get_or-map step entries i d d.step lt))
    ∙ set-get_or (steps_of entries) i d.step

pub told_all : (xs : List Item) (entries : List Entry) (p : Past) (ys : List Item) (i : ℕ) → length entries ≤ i → Told xs (take i entries) p ys → Told xs entries p ys
told_all xs entries p ys i le t = subst (λ (es : List Entry). Told xs es p ys) (take_all i entries le) t
