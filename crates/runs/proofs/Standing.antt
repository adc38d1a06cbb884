-- Requests without a follower, when one more is accepted.
use Rattle.std.proofs.Common.{◌≡◌, ◌+◌, ◌≤◌, Bool, true, false, not, ◌&&◌, ◌||◌, List, [], ◌∷◌, ◌++◌, length, filter, refl, ap, ◌∙◌, arith}
use Rattle.std.proofs.Math.Bool.{or-false}
use Rattle.std.proofs.lemmas.List.Folds.{list_any-append}
use Rattle.std.proofs.lemmas.Grind.{common_steps}
use Rattle.std.specs.List.{AllByRecursion}
use Rattle.records.specs.declared.request.Request.{Request}
use Rattle.runs.specs.Rules.{Setup, follows, outlived}
use Rattle.runs.specs.Past.{followed, standing, superseded_of}
use Rattle.runs.specs.Checks.{supersedes}

pub and_true : (a : Bool) → (a && true) ≡ a
and_true true = refl
and_true false = refl

followed_push : (u : Setup) (a : Request) (xs : List Request) (q : Request) → followed u a (xs ++ (q ∷ [])) ≡ (followed u a xs || follows u a q)
followed_push u a xs q = list_any-append (follows u a) xs (q ∷ []) ∙ ap (λ t. followed u a xs || t) (or-false (follows u a q))

-- of the requests before it, one more leaves standing those that it does not follow
pub standing_push : (u : Setup) (xs : List Request) (q : Request) → standing u (xs ++ (q ∷ [])) ≡ filter (λ a. not (follows u a q)) (standing u xs) ++ (q ∷ [])
standing_push u [] q = refl
standing_push u (a ∷ xs) q = let ih = standing_push u xs q in grind (arith, common_steps, ih, followed_push u a xs q)

-- each accepted request is superseded or stands
pub standing_or_superseded : (u : Setup) (xs : List Request) → length (superseded_of u xs) + length (standing u xs) ≡ length xs
standing_or_superseded u [] = refl
standing_or_superseded u (a ∷ xs) = let ih = standing_or_superseded u xs in grind (arith, common_steps, ih)

pub all_standing : (u : Setup) (P : Request → Type 0) (xs : List Request) → AllByRecursion P xs → AllByRecursion P (standing u xs)
all_standing u P [] h = tt
all_standing u P (a ∷ xs) h = let ih = all_standing u P xs h.1 in grind (arith, common_steps, ih, h.0)

-- what is superseded is inside its window
pub outlived_stays : (u : Setup) (q a : Request) → supersedes u q a ≡ true → outlived q.time a ≡ false
outlived_stays u q a e = grind (arith, common_steps)

-- among requests no later than q, those that q follows are those that it supersedes
pub follows_is : (u : Setup) (q a : Request) → a.time ≤ q.time → follows u a q ≡ supersedes u q a
follows_is u q a le = grind (arith, common_steps)
