-- A part of a list written over.
use Rattle.std.proofs.Common.{◌≡◌, ℕ, suc, ◌+◌, ◌<◌, ◌≤◌, List, [], ◌∷◌, ◌++◌, length, take, drop, set, sym, ap, ◌∙◌, append_assoc, add-zero, add_assoc, arith}
use Rattle.std.proofs.lemmas.List.{drop_at, drop-drop, length-append, length-drop, length-take-le, set_split, take-append-drop, take_at}

-- from a place on
abbrev pub put : {A : Type 0} → ℕ → List A → List A → List A
put at xs old = take at old ++ (xs ++ drop (at + length xs) old)

module _ {A : Type 0} (at : ℕ) where
  pub length_put : (xs old : List A) → at + length xs ≤ length old → length (put at xs old) ≡ length old
  length_put xs old h =
      simp (length-append, length-drop) (let e = length-take-le at old (omega arith) in omega arith)

  pub put_none : (old : List A) → put at [] old ≡ old
  put_none old = ap (λ k. take at old ++ drop k old) (add-zero at) ∙ take-append-drop at old

  module _ (xs old : List A) (h : at ≤ length old) where
    abbrev front : List A
    front = take at old ++ xs

    front_long : length front ≡ at + length xs
    front_long = length-append (take at old) xs ∙ ap (λ k. k + length xs) (length-take-le at old h)

    grouped : put at xs old ≡ front ++ drop (at + length xs) old
    grouped = sym (append_assoc (take at old) xs (drop (at + length xs) old))

    before : take (at + length xs) (put at xs old) ≡ front
    before = ap (take (at + length xs)) grouped ∙ take_at front (drop (at + length xs) old) (at + length xs) front_long

    behind : (k : ℕ) → drop (at + length xs + k) (put at xs old) ≡ drop (at + length xs + k) old
    behind k =
        sym (drop-drop k (at + length xs) (put at xs old))
        ∙ ap (drop k) (ap (drop (at + length xs)) grouped ∙ drop_at front (drop (at + length xs) old) (at + length xs) front_long)
        ∙ drop-drop k (at + length xs) old

    -- one part right behind another
    pub put_put : (ys : List A) (next : ℕ) → next ≡ at + length xs → put next ys (put at xs old) ≡ put at (xs ++ ys) old
    put_put ys next e =
        ap (λ k. put k ys (put at xs old)) e
        ∙ (λ i. before i ++ (ys ++ behind (length ys) i))
        ∙ append_assoc (take at old) xs (ys ++ drop (at + length xs + length ys) old)
        ∙ ap (λ l. take at old ++ l) (sym (append_assoc xs ys (drop (at + length xs + length ys) old)) ∙ ap (λ k. (xs ++ ys) ++ drop k old) (add_assoc at (length xs) (length ys) ∙ ap (λ k. at + k) (sym (length-append xs ys))))

  pub set_put : (x : A) (old : List A) → at < length old → set old at x ≡ put at (x ∷ []) old
  set_put x old h = set_split old at x h ∙ ap (λ k. take at old ++ x ∷ drop k old) (let e : suc at ≡ at + 1 = omega arith in e)
