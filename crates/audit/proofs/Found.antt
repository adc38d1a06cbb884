-- What is found in a report that is read back.
use Rattle.std.proofs.Common.{◌≡◌, ℕ, ◌+◌, ◌*◌, ◌≤◌, Bool, true, cond, leb, List, [], ◌∷◌, ◌++◌, length, take, drop, Ok, Err, sum_by, sum, Result, sym, refl, ap, ◌∙◌, mul-le-mul_right, suc-mul, zero-mul, arith, length-append}
use Rattle.std.proofs.lemmas.List.{take_at}
use Rattle.std.proofs.lemmas.List.Sums.{sum_by-append, sum_by-cons}
use Rattle.std.proofs.lemmas.Bool.{and_parts, leb-true}
use Rattle.std.specs.List.{flat_map}
use Rattle.columns.specs.Layouts.{Layout}
use Rattle.cells.specs.declared.fault.LineFault.{LineFault}
use Rattle.cells.proofs.Granted.{no_ok, ok_same}
use Rattle.grammar.specs.Files.{Reading, column_count, read_file}
use Rattle.grammar.specs.Lines.{Row}
use Rattle.readback.specs.declared.answer.ReadRefusal.{ReadRefusal}
use Rattle.readback.specs.declared.answer.ReadRefusal.TheVariants.{Faulty, ShortTables}
use Rattle.readback.specs.Answers.{Summary, Tables, answer, filled_with, map_both, roomy, summary, tables_after}
use Rattle.readback.proofs.Rows.{EachFits, read_fit}
use Rattle.audit.specs.declared.checking.Found.{Found}
use Rattle.audit.specs.Readings.{found_in}

-- all numbers of some rows, one after another
abbrev pub numbers_of : List Row → List ℕ
numbers_of rows = flat_map (λ r. r.usage.columns) rows

err_same : {A E : Type 0} (x y : E) → ◌≡◌ {A = Result A E} (Err x) (Err y) → x ≡ y
err_same x y p = cc

sum_joined : (rows : List Row) → sum (numbers_of rows) ≡ sum_by (λ r. sum r.usage.columns) rows
sum_joined [] = refl
sum_joined (r ∷ rows) =
    sum_by-append (λ x. x) r.usage.columns (numbers_of rows) ∙ ap (λ n. sum r.usage.columns + n) (sum_joined rows) ∙ sym (sum_by-cons (λ (q : Row). sum q.usage.columns) r rows)

-- what the reader's answer and the tables that it leaves say of the reading
pub record Held (l : Layout) (file : List ℕ) (after : Tables) (titles : ℕ) : Type 0 where
  pub reading : Reading
  pub read : read_file l file ≡ Ok reading
  pub many : titles ≡ length reading.rows
  pub most : length reading.rows ≤ 512
  pub numbers : take (titles * column_count l) after.numbers ≡ numbers_of reading.rows

length_numbers : (l : Layout) (rows : List Row) → EachFits l rows → length (numbers_of rows) ≡ length rows * column_count l
length_numbers l [] fits = sym (zero-mul (column_count l))
length_numbers l (r ∷ rows) fits =
    let e = length-append r.usage.columns (numbers_of rows) in
    let h = length_numbers l rows fits.1 in
    let m = suc-mul (length rows) (column_count l) in
    omega (arith, e, h, m, fits.0.columns)

module _ (l : Layout) (t : Tables) (file : List ℕ) (room : roomy l t ≡ true) where
  by_file : answer l t file ≡ map_both summary Faulty (read_file l file)
  by_file = ap (λ (b : Bool). cond b (map_both summary Faulty (read_file l file)) (Err ShortTables)) room

  refused_as : (r : Result Reading LineFault) (e : ReadRefusal) → ◌≡◌ {A = Result Summary ReadRefusal} (Err e) (map_both summary Faulty r) → ◌≡◌ {A = Result Found ReadRefusal} (Err e) (map_both found_in Faulty r)
  refused_as (Ok rd) e a = absurd (no_ok e (summary rd) a)
  refused_as (Err f) e a = ap (λ (x : ReadRefusal). Err x) (err_same e (Faulty f) a)

  pub refused_found : (e : ReadRefusal) → Err e ≡ answer l t file → Err e ≡ map_both found_in Faulty (read_file l file)
  refused_found e a = refused_as (read_file l file) e (a ∙ by_file)

  granted_as : (r : Result Reading LineFault) (s : Summary) → ◌≡◌ {A = Result Summary ReadRefusal} (Ok s) (map_both summary Faulty r) → (rd : Reading) × (r ≡ Ok rd) × (s ≡ summary rd)
  granted_as (Ok rd) s a = (rd, refl, ok_same s (summary rd) a)
  granted_as (Err f) s a = absurd (no_ok (Faulty f) s (sym a))

  pub held : (s : Summary) (after : Tables) → Ok s ≡ answer l t file → after ≡ tables_after l t file → Held l file after s.titles
  held s after a b =
      let g = granted_as (read_file l file) s (a ∙ by_file) in
      let rd = g.0 in
      let fit = read_fit l file rd g.1 in
      let many : s.titles ≡ length rd.rows = ap (λ (x : Summary). x.titles) g.2 in
      let filled : after.numbers ≡ numbers_of rd.rows ++ drop (length rd.rows * column_count l) t.numbers =
      ap (λ (x : Tables). x.numbers) (b ∙ ap (λ (y : Bool). cond y (filled_with l t (read_file l file)) t) room ∙ ap (filled_with l t) g.1) in
      record {
        reading = rd;
        read = g.1;
        many = many;
        most = fit.most;
        numbers = (λ i. take (many i * column_count l) (filled i)) ∙ take_at (numbers_of rd.rows) (drop (length rd.rows * column_count l) t.numbers) (length rd.rows * column_count l) (length_numbers l rd.rows fit.each);
      }

pub found_is : (l : Layout) (file : List ℕ) (after : Tables) (titles total : ℕ) → Held l file after titles → total ≡ sum (take (titles * column_count l) after.numbers) → ◌≡◌ {A = Result Found ReadRefusal} (Ok (record { titles = titles; total = total })) (map_both found_in Faulty (read_file l file))
found_is l file after titles total h e =
    let sums : total ≡ sum_by (λ (r : Row). sum r.usage.columns) h.reading.rows = e ∙ ap sum h.numbers ∙ sum_joined h.reading.rows in
    (λ i. Ok (record { titles = h.many i; total = sums i })) ∙ sym (ap (map_both found_in Faulty) h.read)

-- the numbers of all titles lie within the table
pub within : (l : Layout) (t : Tables) (file : List ℕ) (after : Tables) (titles columns : ℕ) → roomy l t ≡ true → Held l file after titles → columns ≡ column_count l → titles * columns ≤ length t.numbers
within l t file after titles columns room h e =
    let parts = and_parts (leb 512 (length t.titles)) _ room in
    let numbers = leb-true (512 * column_count l) (length t.numbers) (and_parts (leb (512 * column_count l) (length t.numbers)) _ parts.1).0 in
    let few : titles ≤ 512 = omega (arith, h.many, h.most) in
    let m : titles * column_count l ≤ 512 * column_count l = mul-le-mul_right (column_count l) few in
    let f : titles * columns ≡ titles * column_count l = ap (λ (n : ℕ). titles * n) e in
    omega (arith, m, numbers, f)
