-- Lines 1 to 6: what stands above the titles.
use Rattle.std.proofs.Common.{◌≡◌, ℕ, ◌≤◌, Bool, true, false, ◌⊎◌, List, [], ◌∷◌, ◌++◌, map, codes, decimal, refl, ap, ◌∙◌, append_assoc, append-nil, arith}
use Rattle.std.proofs.ByRecursion.{All-append, All-from_get_or, All-weaker}
use Rattle.std.specs.List.{AllByRecursion}
use Rattle.texts.specs.Texts.{is_text}
use Rattle.columns.specs.Calendar.{is_date}
use Rattle.columns.specs.Layouts as layouts
use Rattle.columns.specs.Layouts.{Layout}
use Rattle.reports.specs.Written.{date_text, heading_line, line_end, line_text, ytd_headings}
use Rattle.cells.proofs.Judges.{date_judge, note_judge, text_clean, text_judge, word_judge}
use Rattle.cells.proofs.Reading.{Clean}
use Rattle.grammar.specs.Files.{Top, column_count, top_at}
use Rattle.grammar.specs.Lines.{Occasion, Shown, figure_count, heading_words, kind_at, occasion_at, total_label_at, totals_at, words_at}
use Rattle.grammar.proofs.Cells.{cell, ended, ended_parts, five_cells, line_cells}
use Rattle.grammar.proofs.Numbers.{Figures, numbers_spell, some_figures}
use Rattle.grammar.proofs.Spelling.{Anything, Spells, follow, give, knowing, restate}
use Rattle.grammar.proofs.Words.{words_spell}

-- line 1
abbrev pub kind_text : Layout → List ℕ
kind_text l = line_text l.report (l.description ∷ [])

pub kind_spell : (l : Layout) → layouts.Sound l → Spells (kind_at l) Anything Anything (λ v. kind_text l)
kind_spell l sound =
    restate (λ v good. tt) (λ v good. (tt, tt)) (λ v good. append_assoc l.report (44 ∷ []) (l.description ++ line_end) ∙ line_cells l.report (l.description ∷ []))
    (follow (λ v. tt) (cell (word_judge l.report (text_clean l.report sound.report)) false) (λ u good. knowing (λ v. (refl, tt)) (cell (word_judge l.description (text_clean l.description sound.description)) true)))

-- lines 2 to 4
abbrev pub GoodOccasion : Occasion → Type 0
GoodOccasion o = (is_text o.criteria ≡ true) × (is_date o.date.year o.date.month o.date.day ≡ true)

abbrev pub occasion_text : Occasion → List ℕ
occasion_text o = line_text o.criteria [] ++ (line_text (codes "Date run:") [] ++ line_text (date_text o.date.year o.date.month o.date.day) [])

pub occasion_spell : Spells occasion_at Anything GoodOccasion occasion_text
occasion_spell =
    restate (λ o good. (good.0, good.1.1.0)) (λ o good. (good.0, (tt, (good.1, tt)))) (λ o good. ap (λ l. line_text o.criteria [] ++ (line_text (codes "Date run:") [] ++ l)) (append-nil (line_text (date_text o.date.year o.date.month o.date.day) [])))
    (follow (λ (o : Occasion). o.criteria) (cell text_judge true) (λ c good. follow (λ o. tt) (cell (word_judge (codes "Date run:") (text_clean (codes "Date run:") refl)) true) (λ w good. follow (λ o. o.date) (cell date_judge true) (λ d good. give (record { criteria = c; date = d }) (refl, (refl, (refl, tt))) (λ o k i. record { criteria = k.1.1.0 i; date = k.0 i })))))

-- line 5
ytd_clean : (ytd : Bool) → AllByRecursion Clean (ytd_headings ytd)
ytd_clean true = (text_clean (codes "YTD Total") refl, (text_clean (codes "YTD HTML") refl, (text_clean (codes "YTD PDF") refl, tt)))
ytd_clean false = tt

headings_clean : (l : Layout) → layouts.Sound l → AllByRecursion Clean (heading_words l)
headings_clean l sound =
    let own = All-weaker (λ t. is_text t ≡ true) Clean text_clean l.headings (All-from_get_or (λ t. is_text t ≡ true) l.headings [] sound.texts) in
    (tt, (text_clean (codes "Publisher") refl, (text_clean (codes "Platform") refl, (text_clean (codes "Print ISSN") refl, (text_clean (codes "Online ISSN") refl, All-append Clean l.headings (ytd_headings l.ytd) own (ytd_clean l.ytd))))))

pub headings_spell : (l : Layout) → layouts.Sound l → Spells (words_at (heading_words l)) Anything Anything (λ v. heading_line l)
headings_spell l sound =
    restate (λ v good. tt) (λ v good. tt) (λ v good. line_cells [] (codes "Publisher" ∷ codes "Platform" ∷ codes "Print ISSN" ∷ codes "Online ISSN" ∷ (l.headings ++ ytd_headings l.ytd))) (words_spell (heading_words l) (headings_clean l sound))

-- line 6
abbrev pub GoodShown : Bool → ℕ → Shown → Type 0
GoodShown ytd n s = ((s.publisher ≡ []) ⊎ (is_text s.publisher ≡ true)) × (is_text s.platform ≡ true) × Figures (figure_count ytd n) s.figures

abbrev pub shown_text : Shown → List ℕ
shown_text s = line_text (codes "Total for all journals") (s.publisher ∷ s.platform ∷ [] ∷ [] ∷ map decimal s.figures)

label_spell : Spells total_label_at Anything (λ v. ((v.0 ≡ []) ⊎ (is_text v.0 ≡ true)) × (is_text v.1 ≡ true)) (λ v. ended false (codes "Total for all journals" ∷ v.0 ∷ v.1 ∷ []))
label_spell =
    restate (λ v good. (good.1.0, good.1.1.0)) (λ v good. (tt, (good.0, (good.1, tt)))) (λ v good. simp append_assoc)
    (follow (λ (v : List ℕ × List ℕ). tt) (cell (word_judge (codes "Total for all journals") (text_clean (codes "Total for all journals") refl)) false) (λ w good. follow (λ v. v.0) (cell note_judge false) (λ b good. follow (λ v. v.1) (cell text_judge false) (λ t good. give (b, t) (refl, (refl, (refl, tt))) (λ v k i. (k.1.0 i, k.0 i))))))

some_count : (ytd : Bool) (n : ℕ) → 1 ≤ n → 1 ≤ figure_count ytd n
some_count true n some = omega arith
some_count false n some = some

-- the line as it is read: five cells, and the numbers
totals_text : (ytd : Bool) (n : ℕ) (s : Shown) → 1 ≤ n → GoodShown ytd n s → ended false (codes "Total for all journals" ∷ s.publisher ∷ s.platform ∷ []) ++ (44 ∷ 44 ∷ (ended true (map decimal s.figures) ++ [])) ≡ shown_text s
totals_text ytd n s some good =
    let label = codes "Total for all journals" ∷ s.publisher ∷ s.platform ∷ [] ∷ [] ∷ [] in
    let numbers = map decimal s.figures in
    five_cells (codes "Total for all journals") s.publisher s.platform [] [] (ended true numbers ++ [])
    ∙ ap (λ m. ended false label ++ m) (append-nil (ended true numbers))
    ∙ ended_parts label numbers (some_figures s.figures (figure_count ytd n) (some_count ytd n some) good.2.0)
    ∙ line_cells (codes "Total for all journals") (s.publisher ∷ s.platform ∷ [] ∷ [] ∷ numbers)

pub totals_spell : (ytd : Bool) (n : ℕ) → 1 ≤ n → Spells (totals_at ytd n) Anything (GoodShown ytd n) shown_text
totals_spell ytd n some =
    restate (λ s good. (good.0.0, good.0.1, good.1.1.1.0)) (λ s good. ((good.0, good.1), (tt, (tt, (good.2, tt))))) (λ s good. totals_text ytd n s some good)
    (follow (λ (s : Shown). (s.publisher, s.platform)) label_spell (λ x good. follow (λ s. tt) (cell (word_judge [] tt) false) (λ y good. follow (λ s. tt) (cell (word_judge [] tt) false) (λ z good. follow (λ s. s.figures) (numbers_spell true (figure_count ytd n)) (λ f good. give (record { publisher = x.0; platform = x.1; figures = f }) (refl, (refl, (refl, (refl, tt)))) (λ s k i. record { publisher = (k.1.1.1.0 i).0; platform = (k.1.1.1.0 i).1; figures = k.0 i }))))))

-- lines 1 to 6
abbrev pub GoodTop : Layout → Top → Type 0
GoodTop l t = GoodOccasion t.occasion × GoodShown l.ytd (column_count l) t.shown

abbrev pub top_text : Layout → Top → List ℕ
top_text l t = kind_text l ++ (occasion_text t.occasion ++ (heading_line l ++ shown_text t.shown))

pub top_spell : (l : Layout) → layouts.Sound l → Spells (top_at l) Anything (GoodTop l) (top_text l)
top_spell l sound =
    restate (λ t good. (good.1.0, good.1.1.1.0)) (λ t good. (tt, (good.0, (tt, (good.1, tt))))) (λ t good. ap (λ m. kind_text l ++ (occasion_text t.occasion ++ (heading_line l ++ m))) (append-nil (shown_text t.shown)))
    (follow (λ (t : Top). tt) (kind_spell l sound) (λ k good. follow (λ t. t.occasion) occasion_spell (λ o good. follow (λ t. tt) (headings_spell l sound) (λ h good. follow (λ t. t.shown) (totals_spell l.ytd (column_count l) sound.some) (λ s good. give (record { occasion = o; shown = s }) (refl, (refl, (refl, (refl, tt)))) (λ t k i. record { occasion = k.1.1.0 i; shown = k.0 i }))))))
