-- The table, while the titles of a list are read.
use Rattle.std.proofs.Common.{◌≡◌, ℕ, ◌+◌, ◌<◌, ◌≤◌, List, [], ◌∷◌, ◌++◌, map, length, take, drop, set, Ok, Result, sym, ap, ◌∙◌, arith, length-append, length-set}
use Rattle.std.proofs.lemmas.Grind.{common_steps}
use Rattle.std.proofs.lemmas.List.{drop-drop, drop-set-lt, map_push, take_more_set}
use Rattle.titles.specs.declared.title.Title.{Title}
use Rattle.titles.specs.Places.{map_ok}
use Rattle.titles.specs.Titles.{Entry, entry_of}
use Rattle.lists.specs.declared.fault.ListFault.{ListFault}
use Rattle.lists.specs.Lists.{before}

-- n titles are read, into the table as far as it has room, and what is left says the others
pub record Filling (said left : Result (List Entry) ListFault) (n : ℕ) (old new : List Title) : Type 0 where
  pub entries : List Entry
  pub whole : said ≡ map_ok (λ es. entries ++ es) left
  pub count : length entries ≡ n
  pub read : n ≤ length old → map entry_of (take n new) ≡ entries
  pub others : n ≤ length old → drop n new ≡ drop n old
  pub size : length new ≡ length old

one_more : (entries : List Entry) (e : Entry) (others : Result (List Entry) ListFault) → map_ok (λ es. entries ++ es) (before (Ok e) others) ≡ map_ok (λ es. (entries ++ e ∷ []) ++ es) others
one_more entries e others = grind (arith, common_steps)

module _ (said others : Result (List Entry) ListFault) (n : ℕ) (old new : List Title) (t : Title) (s : Filling said (before (Ok (entry_of t)) others) n old new) where
  -- with the next title, where there is room
  pub filling_more : n < length new → Filling said others (n + 1) old (set new n t)
  filling_more room = record {
    entries = s.entries ++ entry_of t ∷ [];
    whole = s.whole ∙ one_more s.entries (entry_of t) others;
    count = omega (arith, s.count, length-append s.entries (entry_of t ∷ []));
    read = λ h. ap (map entry_of) (take_more_set new n t room) ∙ map_push entry_of (take n new) t ∙ ap (λ es. es ++ entry_of t ∷ []) (s.read (omega arith));
    others = λ h. drop-set-lt (n + 1) new n t (omega arith) ∙ sym (drop-drop 1 n new) ∙ ap (drop 1) (s.others (omega arith)) ∙ drop-drop 1 n old;
    size = length-set new n t ∙ s.size;
  }

  -- and where there is none
  pub filling_past : length new ≤ n → Filling said others (n + 1) old new
  filling_past full = record {
    entries = s.entries ++ entry_of t ∷ [];
    whole = s.whole ∙ one_more s.entries (entry_of t) others;
    count = omega (arith, s.count, length-append s.entries (entry_of t ∷ []));
    read = λ h. absurd (omega (arith, s.size));
    others = λ h. absurd (omega (arith, s.size));
    size = s.size;
  }
