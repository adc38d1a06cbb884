-- A group is read exactly where its contents spell an entry.
use Rattle.std.proofs.Common.{◌≡◌, ℕ, ◌<◌, ◌≤◌, true, List, [], ◌∷◌, map, Some, None, Ok, Option, sym, refl, ap, ◌∙◌, arith}
use Rattle.std.proofs.lemmas.List.{append-nil}
use Rattle.std.specs.List.{AllByRecursion}
use Rattle.groups.specs.Frames.{Frame, bytes_of, frames}
use Rattle.groups.specs.Written.{Bytes, placed}
use Rattle.groups.proofs.Spelling.{row_spelled}
use Rattle.groups.proofs.Whole.{Whole, pair_of, whole_blocks_close}
use Rattle.groups.proofs.Writing.{whole_row_written}
use Rattle.texts.specs.Texts.{is_text}
use Rattle.titles.specs.Titles.{Entry, is_blank_or_issn, is_entry, issn_bytes}
use Rattle.lists.specs.declared.fault.ListCause.{ListCause}
use Rattle.lists.specs.Broken.{Proper}
use Rattle.lists.specs.Entries.{Known, complete, entry_or, known_at, noted, nothing_known, read_fields, read_group}
use Rattle.lists.specs.Fields.{cause_of, field_fault, issn_of}
use Rattle.lists.specs.Written.{Spells, behind}
use Rattle.lists.proofs.Fielding.{faulty_field, next_field, stands_if_clear}
use Rattle.lists.proofs.Proper.{issn_found, parts, proper_if_held, proper_passed, rising_if_proper, text_found, text_there}
use Rattle.lists.proofs.Values.{clear_if_issn, clear_if_text, issn_if_clear, text_if_clear, text_not_empty}

complete_by : (k : Known) (e : Entry) → k.name ≡ Some e.name → k.publisher ≡ Some e.publisher → k.print ≡ e.print → k.online ≡ e.online → complete k ≡ Ok e
complete_by k e a b c d = grind arith

-- the parts of an entry that is right
record RightParts (e : Entry) : Type 0 where
  name : is_text e.name ≡ true
  publisher : is_text e.publisher ≡ true
  print : is_blank_or_issn e.print ≡ true
  online : is_blank_or_issn e.online ≡ true

right_parts : (e : Entry) → is_entry e ≡ true → RightParts e
right_parts e h = grind arith

right_by : (e : Entry) → is_text e.name ≡ true → is_text e.publisher ≡ true → is_blank_or_issn e.print ≡ true → is_blank_or_issn e.online ≡ true → is_entry e ≡ true
right_by e a b c d = grind arith

each_tag : (P : ℕ → Type 0) → P 1 → P 2 → P 3 → P 4 → (t : ℕ) → 0 < t → t ≤ 4 → P t
each_tag P a b c d t g h = grind arith

-- a group that spells an entry says it
pub spelled_group : (n place : ℕ) (p : List ℕ) (e : Entry) → Spells p e → read_group n place p ≡ Ok e
spelled_group n place p e s =
    let fields = s.fields in
    let r = right_parts e s.right in
    let print = clear_if_issn e.print r.print in
    let online = clear_if_issn e.online r.online in
    let held = each_tag (λ t. field_fault t (behind t fields) ≡ None)
    (ap (field_fault 1) s.name ∙ clear_if_text e.name r.name)
    (ap (field_fault 2) s.publisher ∙ clear_if_text e.publisher r.publisher)
    (ap (field_fault 3) s.print ∙ print.0)
    (ap (field_fault 4) s.online ∙ online.0) in
    let proper = proper_if_held 0 fields s.rising held in
    let known = parts 0 nothing_known fields in
    let all = complete_by (known_at nothing_known (placed 0 fields)) e
    (known.name ∙ text_there 1 0 fields e.name proper s.name (text_not_empty e.name r.name))
    (known.publisher ∙ text_there 2 0 fields e.publisher proper s.publisher (text_not_empty e.publisher r.publisher))
    (known.print ∙ (issn_found 3 0 fields proper refl).0 ∙ ap issn_of s.print ∙ print.1)
    (known.online ∙ (issn_found 4 0 fields proper refl).0 ∙ ap issn_of s.online ∙ online.1) in
    ap (read_group n place) s.bytes
    ∙ ap (read_fields n place 0 nothing_known) (whole_row_written 0 fields ∙ sym (append-nil (placed 0 fields)))
    ∙ proper_passed n place 0 0 nothing_known fields [] proper
    ∙ ap (entry_or n place) all

-- what is known of fields that are read as an entry
record Clear (last : ℕ) (known : Known) (fs : List Frame) (e : Entry) : Type 0 where
  whole : AllByRecursion Whole fs
  proper : Proper last (map pair_of fs)
  says : complete (known_at known fs) ≡ Ok e

-- with a field that may stand
abbrev with_field_lem : Frame → Known → Known
with_field_lem f known = noted f.tag (bytes_of f.contents) known

clear_field : (n place last : ℕ) (known : Known) (f : Frame) (fs : List Frame) (e : Entry) (o : Option ListCause) → cause_of last f ≡ o → (read_fields n place f.tag (with_field_lem f known) fs ≡ Ok e → Clear f.tag (with_field_lem f known) fs e) → read_fields n place last known (f ∷ fs) ≡ Ok e → Clear last known (f ∷ fs) e
clear_field n place last known f fs e (Some cause) h others r =
    let told = faulty_field n place last known f fs cause h in cc
clear_field n place last known f fs e None h others r =
    let s = stands_if_clear last f h in
    let k = others (sym (next_field n place last known f fs h) ∙ r) in
    record { whole = (s.whole, k.whole); proper = ((s.rises, s.known, s.clear), k.proper); says = k.says }

clear_fields : (n place last : ℕ) (known : Known) (fs : List Frame) (e : Entry) → read_fields n place last known fs ≡ Ok e → Clear last known fs e
clear_fields n place last known [] e r = record { whole = tt; proper = tt; says = grind arith }
clear_fields n place last known (f ∷ fs) e r = clear_field n place last known f fs e (cause_of last f) refl (clear_fields n place f.tag (with_field_lem f known) fs e) r

-- the parts of what is complete
record Completed (k : Known) (e : Entry) : Type 0 where
  name : k.name ≡ Some e.name
  publisher : k.publisher ≡ Some e.publisher
  print : k.print ≡ e.print
  online : k.online ≡ e.online

completed : (k : Known) (e : Entry) → complete k ≡ Ok e → Completed k e
completed k e h = grind arith

-- and one that says an entry spells it
pub spells_if_read : (n place : ℕ) (p : List ℕ) (e : Entry) → Bytes p → read_group n place p ≡ Ok e → Spells p e
spells_if_read n place p e b r =
    let fields : List (ℕ × List ℕ) = map pair_of (frames 0 p) in
    let k = clear_fields n place 0 nothing_known (frames 0 p) e r in
    let close = whole_blocks_close 0 p k.whole in
    let known = parts 0 nothing_known fields in
    let all = completed (known_at nothing_known (placed 0 fields)) e (ap (λ fs. complete (known_at nothing_known fs)) (sym close) ∙ k.says) in
    let name = text_found 1 0 fields e.name k.proper (sym known.name ∙ all.name) in
    let publisher = text_found 2 0 fields e.publisher k.proper (sym known.publisher ∙ all.publisher) in
    let print = issn_found 3 0 fields k.proper refl in
    let online = issn_found 4 0 fields k.proper refl in
    let print_is = sym all.print ∙ known.print ∙ print.0 in
    let online_is = sym all.online ∙ known.online ∙ online.0 in
    let print_shown = issn_if_clear (behind 3 fields) print.1 in
    let online_shown = issn_if_clear (behind 4 fields) online.1 in
    record {
      fields = fields;
      bytes = row_spelled 0 p fields b close;
      rising = rising_if_proper 0 fields k.proper;
      name = name.0;
      publisher = publisher.0;
      print = sym print_shown.0 ∙ ap issn_bytes (sym print_is);
      online = sym online_shown.0 ∙ ap issn_bytes (sym online_is);
      right = right_by e (text_if_clear e.name name.1) (text_if_clear e.publisher publisher.1) (ap is_blank_or_issn print_is ∙ print_shown.1) (ap is_blank_or_issn online_is ∙ online_shown.1);
    }
