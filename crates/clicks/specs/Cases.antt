-- The worked cases of the rules.
use Rattle.std.specs.Prelude.{◌≡◌, ℕ, ◌+◌, Bool, true, false, List, [], ◌∷◌, Some, None, codes, Ok}
use Rattle.records.specs.declared.request.Request.{Request}
use Rattle.records.specs.Readers.{same_address, same_best}
use Rattle.columns.specs.Places.{month_place, year_place}
use Rattle.titles.specs.Issns.{is_issn}
use Rattle.runs.specs.Rules.{Setup}
use Rattle.runs.specs.Past.{granted, offered, settling, Past, Facts, facts, cell_holds, counted, superseded}
use Rattle.runs.specs.Checks.{answer_to}

-- the start of 2009
abbrev pub start : ℕ
start = 284083200

-- a request by the reader at address 1 for article 5 of the journal 0
abbrev pub click : ℕ → ℕ → ℕ → ℕ → Request
click format time status cookie = record { time = time; status = status; format = format; journal = 0; article = 5; published = 0; address = 1; session_cookie = 0; user_cookie = cookie; user_name = 0 }

abbrev pub html : ℕ → Request
html t = click 1 t 200 0

abbrev pub pdf : ℕ → Request
pdf t = click 2 t 200 0

-- one title, January and February 2009
abbrev pub under : (Request → Request → Bool) → Setup
under same = record { same = same; place = λ r. month_place 2009 2 r.time; columns = 2; titles = 1; limit = 100; slots = 8 }

-- requests offered one after another, each answered as the checks decide on the past before it
abbrev pub offering : Setup → Past → List Request → Past
offering u p [] = p
offering u p (r ∷ rs) = offering u (offered true (Ok r) (answer_to u true (facts p) (Ok r)) ∷ p) rs

-- what is told of them under a reader rule, once the ledger is settled
abbrev pub told : (Request → Request → Bool) → List Request → Facts
told same rs = facts (settling true granted ∷ offering (under same) [] rs)

-- of the accepted ones, those that are counted and those that are superseded
pub record Fates (same : Request → Request → Bool) (rs stand gone : List Request) : Type 0 where
  pub counted_are : counted (under same) (told same rs) ≡ stand
  pub superseded_are : superseded (under same) (told same rs) ≡ gone
  pub refused_none : (told same rs).refused ≡ 0

pub record Cases : Type 0 where
  -- two HTML clicks within 10 seconds are one, and the later stands; after 11 seconds both do
  pub html_10 : Fates same_best (html start ∷ html (start + 10) ∷ []) (html (start + 10) ∷ []) (html start ∷ [])
  pub html_11 : Fates same_best (html start ∷ html (start + 11) ∷ []) (html start ∷ html (start + 11) ∷ []) []
  -- two PDF clicks within 30 seconds are one; after 31 seconds both stand
  pub pdf_30 : Fates same_best (pdf start ∷ pdf (start + 30) ∷ []) (pdf (start + 30) ∷ []) (pdf start ∷ [])
  pub pdf_31 : Fates same_best (pdf start ∷ pdf (start + 31) ∷ []) (pdf start ∷ pdf (start + 31) ∷ []) []
  -- of a chain of clicks only the last stands
  pub chain : Fates same_best (html start ∷ html (start + 8) ∷ html (start + 16) ∷ []) (html (start + 16) ∷ []) (html start ∷ html (start + 8) ∷ [])
  -- HTML and PDF are two links
  pub formats : Fates same_best (html start ∷ pdf start ∷ []) (html start ∷ pdf start ∷ []) []
  -- over the end of January: one, in the cell of February and PDF, and none in January's
  pub month_end : Fates same_best (pdf 286761595 ∷ pdf 286761605 ∷ []) (pdf 286761605 ∷ []) (pdf 286761595 ∷ [])
  pub january : cell_holds (under same_best) (told same_best (pdf 286761595 ∷ pdf 286761605 ∷ [])) 0 0 2 ≡ 0
  pub february : cell_holds (under same_best) (told same_best (pdf 286761595 ∷ pdf 286761605 ∷ [])) 0 1 2 ≡ 1
  -- what is not found is passed over, and the clock stays
  pub missing : Fates same_best (html start ∷ click 1 (start + 5) 404 0 ∷ []) (html start ∷ []) []
  pub passed_over : (told same_best (html start ∷ click 1 (start + 5) 404 0 ∷ [])).passed_over ≡ 1
  pub clock_stays : (told same_best (html start ∷ click 1 (start + 5) 404 0 ∷ [])).clock ≡ start
  -- one address with two user cookies: two readers by the best rule, one by the address
  pub cookies_best : Fates same_best (click 1 start 200 5 ∷ click 1 (start + 1) 200 6 ∷ []) (click 1 start 200 5 ∷ click 1 (start + 1) 200 6 ∷ []) []
  pub cookies_address : Fates same_address (click 1 start 200 5 ∷ click 1 (start + 1) 200 6 ∷ []) (click 1 (start + 1) 200 6 ∷ []) (click 1 start 200 5 ∷ [])
  -- by years of publication, 2009 back to 2005: 2004 has the last column, 2010 none
  pub years : (year_place 2009 2005 start 2004 ≡ Some 5) × (year_place 2009 2005 start 2010 ≡ None)
  -- two right ISSNs and a wrong one
  pub issns : (is_issn (codes "0317-8471") ≡ true) × (is_issn (codes "1050-124X") ≡ true) × (is_issn (codes "0317-8472") ≡ false)
