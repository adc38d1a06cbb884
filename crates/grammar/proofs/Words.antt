-- A line of fixed words.
use Rattle.std.proofs.Common.{ℕ, true, List, [], ◌∷◌, refl, append_assoc}
use Rattle.std.specs.List.{AllByRecursion}
use Rattle.cells.specs.Cells.{end_text}
use Rattle.cells.proofs.Judges.{word_judge}
use Rattle.cells.proofs.Reading.{Clean}
use Rattle.grammar.specs.Lines.{none, words_at}
use Rattle.grammar.proofs.Cells.{cell, ended}
use Rattle.grammar.proofs.Spelling.{Anything, Spells, follow, give, knowing, restate}

pub words_spell : (ws : List (List ℕ)) → AllByRecursion Clean ws → Spells (words_at ws) Anything Anything (λ v. ended true ws)
words_spell [] clean = give tt tt (λ w k. refl)
words_spell (w ∷ ws) clean =
    restate (λ v good. tt) (λ v good. (tt, tt)) (λ v good. append_assoc w (end_text (none ws)) (ended true ws))
    (follow (λ v. tt) (cell (word_judge w clean.0) (none ws)) (λ u good. knowing (λ v. (refl, tt)) (words_spell ws clean.1)))
