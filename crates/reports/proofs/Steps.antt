-- One text written after another.
use Rattle.std.proofs.Common.{◌≡◌, ℕ, ◌+◌, ◌-◌, ◌^◌, ◌<◌, ◌≤◌, min, List, [], ◌++◌, length, take, drop, sym, ap, ◌∙◌, subst, append_assoc, add_assoc, arith, length-append}
use Rattle.std.proofs.lemmas.Grind.{common_steps}
use Rattle.std.proofs.lemmas.List.{append-nil, drop-drop, take_at, drop_at}
use Rattle.reports.specs.declared.page.Page.{Page}
use Rattle.reports.specs.Puts.{Put, put}

length_put : (old : List ℕ) (at : ℕ) (text : List ℕ) → at + length text ≤ length old → length (put old at text) ≡ length old
length_put old at text h = grind (arith, common_steps)

module _ (old : List ℕ) (at : ℕ) (text : List ℕ) (h : at ≤ length old) where
  front_length : length (take at old ++ text) ≡ at + length text
  front_length = grind (arith, common_steps)

  grouped : put old at text ≡ (take at old ++ text) ++ drop (at + length text) old
  grouped = sym (append_assoc (take at old) text (drop (at + length text) old))

  front : take (at + length text) (put old at text) ≡ take at old ++ text
  front = ap (take (at + length text)) grouped ∙ take_at (take at old ++ text) (drop (at + length text) old) (at + length text) front_length

  behind : (k : ℕ) → drop (at + length text + k) (put old at text) ≡ drop (at + length text + k) old
  behind k =
      sym (drop-drop k (at + length text) (put old at text)) ∙ ap (drop k) (ap (drop (at + length text)) grouped ∙ drop_at (take at old ++ text) (drop (at + length text) old) (at + length text) front_length) ∙ drop-drop k (at + length text) old

put_put : (old : List ℕ) (at : ℕ) (a b : List ℕ) → at ≤ length old → put (put old at a) (at + length a) b ≡ put old at (a ++ b)
put_put old at a b h =
    (λ i. front old at a h i ++ (b ++ behind old at a h (length b) i))
    ∙ append_assoc (take at old) a (b ++ drop (at + length a + length b) old)
    ∙ ap (λ l. take at old ++ l) (sym (append_assoc a b (drop (at + length a + length b) old)) ∙ ap (λ n. (a ++ b) ++ drop n old) (add_assoc at (length a) (length b) ∙ ap (λ n. at + n) (sym (length-append a b))))

-- one text and then another
pub next : (old mid new : Page) (a b : List ℕ) → Put old a mid → Put mid b new → Put old (a ++ b) new
next old mid new a b p q = record {
  lent = q.lent ∙ p.lent;
  ends = omega (arith, length-append a b, p.ends, q.ends);
  holds = λ small room.
      let l = length-append a b in
      let at_m : mid.at ≡ old.at + length a = omega (arith, p.ends) in
      let mid_is = p.holds (omega arith) (omega arith) in
      let long = ap length mid_is ∙ length_put old.out.now old.at a (omega arith) in
      q.holds (omega arith) (omega arith) ∙ (λ i. put (mid_is i) (at_m i) b) ∙ put_put old.out.now old.at a b (omega arith);
}

-- the last text of a row
pub last : (old new : Page) (a : List ℕ) → Put old a new → Put old (a ++ []) new
last old new a p = subst (λ text. Put old text new) (sym (append-nil a)) p

-- a text that is measured on a page of its own
module _ (old text written : List ℕ) (blank measured : Page) (put : Put blank written measured) (is : written ≡ text) (start : blank.at ≡ 0) (short : length old < 2 ^ 63) where
  length_is : measured.at ≡ min (length text) (2 ^ 64 - 1)
  length_is = omega (arith, put.ends, ap length is)

  pub too_long : length old < measured.at → length old < length text
  too_long over = omega (arith, length_is)

  pub fits : measured.at ≤ length old → length text ≤ length old
  fits room = omega (arith, length_is)

-- and then written from the first byte on
pub given : (text written : List ℕ) (page new : Page) → Put page written new → written ≡ text → page.at ≡ 0 → length page.out.now < 2 ^ 63 → length text ≤ length page.out.now → (new.at ≡ length text) × (new.out.now ≡ text ++ drop new.at page.out.now)
given text written page new put is start short room =
    let p : Put page text new = subst (λ t. Put page t new) is put in
    let at : new.at ≡ length text = omega (arith, p.ends) in
    (at, grind (arith, common_steps, p.holds))
