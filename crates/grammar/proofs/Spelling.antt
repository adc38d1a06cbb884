-- Readings that read just the texts of the good values, one after another.
use Rattle.std.proofs.Common.{◌≡◌, ℕ, List, [], ◌++◌, Ok, sym, refl, ap, ◌∙◌, subst, append_assoc}
use Rattle.cells.specs.Places.{Place, and_then}
use Rattle.cells.proofs.Granted.{ok_same, then_ok}
use Rattle.grammar.specs.Lines.{Reads}

-- what is read is good, and its text stood there; and where the text of a good value stands, that value is read.
-- Known is what the readings before say of the value.
pub record Spells {A : Type 0} (read : Reads A) (Known Good : A → Type 0) (text : A → List ℕ) : Type 0 where
  pub sound : (p : Place) (y : A × Place) → read p ≡ Ok y → Known y.0 × Good y.0 × (p.rest ≡ text y.0 ++ y.1.rest)
  pub complete : (v : A) (p : Place) (m : List ℕ) → Known v → Good v → p.rest ≡ text v ++ m → (q : Place) × (read p ≡ Ok (v, q)) × (q.rest ≡ m)

abbrev pub Anything : {A : Type 0} → A → Type 0
Anything v = Unit {0}

-- one reading, and another by what it gave
abbrev pub following : {A B : Type 0} → Reads A → (A → Reads B) → Reads B
following f g p = and_then (f p) (λ x. g x.0 x.1)

abbrev pub giving : {A : Type 0} → A → Reads A
giving v p = Ok (v, p)

-- what the first reading gives is a part of the value, and tells the second what to read
pub follow : {A B : Type 0} {f : Reads A} {g : A → Reads B} {Known : B → Type 0} {GoodA : A → Type 0} {GoodB : A → B → Type 0} {text_a : A → List ℕ} {text_b : A → B → List ℕ} (part : B → A) → Spells f Anything GoodA text_a → ((a : A) → GoodA a → Spells (g a) (λ b. (part b ≡ a) × Known b) (GoodB a) (text_b a)) → Spells (following f g) Known (λ b. GoodA (part b) × GoodB (part b) b) (λ b. text_a (part b) ++ text_b (part b) b)
follow {f = f} {g = g} {GoodA = GoodA} {GoodB = GoodB} {text_a = text_a} {text_b = text_b} part first next = record {
  sound = λ p y h.
      let a = then_ok (f p) (λ x. g x.0 x.1) y h in
      let s = first.sound p a.0 a.1 in
      let t = (next a.0.0 s.1).sound a.0.1 y a.2 in
      let tie = sym t.0.0 in (
        t.0.1,
        (subst GoodA tie s.1, subst (λ x. GoodB x y.0) tie t.1),
        s.2 ∙ ap (λ m. text_a a.0.0 ++ m) t.2 ∙ ap (λ x. text_a x ++ (text_b x y.0 ++ y.1.rest)) tie ∙ sym (append_assoc (text_a (part y.0)) (text_b (part y.0) y.0) y.1.rest),
      );
  complete = λ v p m known good e.
      let s = first.complete (part v) p (text_b (part v) v ++ m) tt good.0 (e ∙ append_assoc (text_a (part v)) (text_b (part v) v) m) in
      let t = (next (part v) good.0).complete v s.0 m (refl, known) good.1 s.2 in
      (t.0, ap (λ r. and_then r (λ x. g x.0 x.1)) s.1 ∙ t.1, t.2);
}

-- in the end all is known of the value
pub give : {A : Type 0} {Known : A → Type 0} (v : A) → Known v → ((w : A) → Known w → w ≡ v) → Spells (giving v) Known Anything (λ w. [])
give {Known = Known} v known only = record {
  sound = λ p y h. let e = ok_same (v, p) y h in (subst (λ z. Known z.0) e known, tt, ap (λ z. z.1.rest) e);
  complete = λ w p m known h e. (p, ap (λ z. Ok (z, p)) (sym (only w known)), e);
}

-- what is known of every value anyway
pub knowing : {A : Type 0} {read : Reads A} {Known Good : A → Type 0} {text : A → List ℕ} → ((v : A) → Known v) → Spells read Anything Good text → Spells read Known Good text
knowing known s = record {
  sound = λ p y h. let t = s.sound p y h in (known y.0, t.1, t.2);
  complete = λ v p m known good e. s.complete v p m tt good e;
}

module _ {A : Type 0} {read : Reads A} {Known Good : A → Type 0} {text : A → List ℕ} where
  -- what is known is good too
  pub close : Spells read Known Good text → Spells read Anything (λ v. Known v × Good v) text
  close s = record {
    sound = λ p y h. let t = s.sound p y h in (tt, (t.0, t.1), t.2);
    complete = λ v p m known good e. s.complete v p m good.0 good.1 e;
  }

  pub restate : {Better : A → Type 0} {new_text : A → List ℕ} → ((v : A) → Good v → Better v) → ((v : A) → Better v → Good v) → ((v : A) → Better v → text v ≡ new_text v) → Spells read Known Good text → Spells read Known Better new_text
  restate up down same s = record {
    sound = λ p y h. let t = s.sound p y h in (t.0, up y.0 t.1, t.2 ∙ ap (λ l. l ++ y.1.rest) (same y.0 (up y.0 t.1)));
    complete = λ v p m known better e. s.complete v p m known (down v better) (e ∙ ap (λ l. l ++ m) (sym (same v better)));
  }
