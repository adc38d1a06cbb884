-- The turns of the loop over the columns' headings.
use Rattle.std.proofs.Common.{◌≡◌, ℕ, ◌+◌, ◌<◌, ◌≤◌, Bool, true, false, not, ◌&&◌, eqb, List, [], ◌∷◌, ◌++◌, length, get_or, drop, Ok, Err, Result, sym, refl, ap, ◌∙◌, arith}
use Rattle.std.proofs.lemmas.List.{append-nil, at_drop_all, at_drop_more, length-drop}
use Rattle.std.proofs.lemmas.Bool.{ne_eqb}
use Rattle.cells.specs.declared.fault.LineFault.{LineFault}
use Rattle.cells.specs.Judged.{word_at}
use Rattle.cells.specs.Places.{Place, and_then}
use Rattle.reports.specs.Written.{ytd_headings}
use Rattle.grammar.specs.Lines.{none, words_at}
use Rattle.readback.specs.Tops.{label_words}
use Rattle.readback.proofs.Numbers.{none_left}

none_empty : (ws : List (List ℕ)) → none ws ≡ eqb (length ws) 0
none_empty [] = refl
none_empty (w ∷ ws) = sym (ne_eqb (length (w ∷ ws)) 0 (λ z. omega arith))

none_before : (ws : List (List ℕ)) (v : List ℕ) (vs : List (List ℕ)) → none (ws ++ (v ∷ vs)) ≡ false
none_before [] v vs = refl
none_before (w ∷ ws) v vs = refl

module _ (hs : List (List ℕ)) (i : ℕ) (h : i < length hs) where
  -- whether the line ends with the heading of the column i
  pub last_heading : (ytd : Bool) → none (drop (i + 1) hs ++ ytd_headings ytd) ≡ (not ytd && eqb (i + 1) (length hs))
  last_heading true = none_before (drop (i + 1) hs) _ _
  last_heading false =
      ap none (append-nil (drop (i + 1) hs)) ∙ none_empty (drop (i + 1) hs) ∙ ap (λ n. eqb n 0) (length-drop (i + 1) hs) ∙ none_left (length hs) i h

  turn : (ytd : Bool) (p : Place) → words_at (drop i hs ++ ytd_headings ytd) p ≡ and_then (word_at (get_or hs i []) (not ytd && eqb (i + 1) (length hs)) p) (λ x. words_at (drop (i + 1) hs ++ ytd_headings ytd) x.1)
  turn ytd p =
      at_drop_more (λ ws. words_at (ws ++ ytd_headings ytd) p) hs i [] h
      ∙ ap (λ b. and_then (word_at (get_or hs i []) b p) (λ x. words_at (drop (i + 1) hs ++ ytd_headings ytd) x.1)) (last_heading ytd)

  pub heading_read : (ytd : Bool) (p q : Place) → Ok (tt, q) ≡ word_at (get_or hs i []) (not ytd && eqb (i + 1) (length hs)) p → words_at (drop (i + 1) hs ++ ytd_headings ytd) q ≡ words_at (drop i hs ++ ytd_headings ytd) p
  heading_read ytd p q e = ap (λ r. and_then r (λ x. words_at (drop (i + 1) hs ++ ytd_headings ytd) x.1)) e ∙ sym (turn ytd p)

  pub heading_wrong : (ytd : Bool) (p : Place) (f : LineFault) → Err f ≡ word_at (get_or hs i []) (not ytd && eqb (i + 1) (length hs)) p → Err f ≡ words_at (drop i hs ++ ytd_headings ytd) p
  heading_wrong ytd p f e = ap (λ r. and_then r (λ x. words_at (drop (i + 1) hs ++ ytd_headings ytd) x.1)) e ∙ sym (turn ytd p)

-- the labels before at least one heading
pub labels_before : (r : Result (Unit {0} × Place) LineFault) (p : Place) (hs more : List (List ℕ)) → 1 ≤ length hs → ((w : List ℕ) (ws : List (List ℕ)) → and_then r (λ x. words_at (w ∷ ws) x.1) ≡ words_at (label_words ++ (w ∷ ws)) p) → and_then r (λ x. words_at (hs ++ more) x.1) ≡ words_at (label_words ++ (hs ++ more)) p
labels_before r p [] more some labels = absurd (omega arith)
labels_before r p (h ∷ hs) more some labels = labels h (hs ++ more)
