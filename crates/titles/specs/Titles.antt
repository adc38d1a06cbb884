-- What a title says, and what is wrong with one.
use Rattle.std.specs.Prelude.{ℕ, Bool, true, ◌&&◌, List, [], Some, None, Ok, Err, Option, Result}
use Rattle.texts.specs.Texts.{is_text}
use Rattle.titles.specs.declared.issn.Issn.{Issn}
use Rattle.titles.specs.declared.issn.IssnFault.{IssnFault}
use Rattle.titles.specs.declared.title.Title.{Title}
use Rattle.titles.specs.declared.title.TitleFault.{TitleFault}
use Rattle.titles.specs.declared.title.TitleFault.TheVariants.{Name, Publisher, Print, Online}
use Rattle.titles.specs.Issns.{is_issn, read_issn}
use Rattle.titles.specs.Places.{map_ok}
use Rattle.titles.specs.Texts.{read_text}

-- what a title says, wherever its bytes lie
pub record Entry : Type 0 where
  pub name : List ℕ
  pub publisher : List ℕ
  pub print : Option Issn
  pub online : Option Issn

abbrev pub new_entry : List ℕ → List ℕ → Option Issn → Option Issn → Entry
new_entry name publisher print online = record { name = name; publisher = publisher; print = print; online = online }

abbrev pub entry_of : Title → Entry
entry_of t = new_entry t.name.now t.publisher.now t.print t.online

-- an ISSN as it is shown; a blank one shows no byte
abbrev pub issn_bytes : Option Issn → List ℕ
issn_bytes None = []
issn_bytes (Some issn) = issn.bytes

abbrev pub check_issn : Option Issn → Result (Option Issn) IssnFault
check_issn None = Ok None
check_issn (Some issn) = map_ok Some (read_issn issn.bytes)

-- the second answer where the first is no fault
abbrev pub unless_fault : {A B E : Type 0} → (E → TitleFault) → Result A E → Result B TitleFault → Result B TitleFault
unless_fault which (Ok x) next = next
unless_fault which (Err fault) next = Err (which fault)

-- the entry itself where each part is what it should be, else the first fault: name, publisher, print and online ISSN
abbrev pub judge : Entry → Result Entry TitleFault
judge e =
    unless_fault Name (read_text e.name) (unless_fault Publisher (read_text e.publisher) (unless_fault Print (check_issn e.print) (unless_fault Online (check_issn e.online) (Ok e))))

-- blank, or a right ISSN
abbrev pub is_blank_or_issn : Option Issn → Bool
is_blank_or_issn None = true
is_blank_or_issn (Some issn) = is_issn issn.bytes

-- the name and the publisher are texts, and each ISSN is a right one or blank
abbrev pub is_entry : Entry → Bool
is_entry e = is_text e.name && is_text e.publisher && is_blank_or_issn e.print && is_blank_or_issn e.online
