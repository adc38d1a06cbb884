-- A request of the year has the column of its year of publication.
use Rattle.std.proofs.Common.{◌≡◌, sym, ◌∙◌, refl, arith, rules}
use Rattle.columns.specs.Days.{in_year}
use Rattle.columns.specs.Places.{publication_place}
use Rattle.columns.specs.Placing.{year_place_lem, year_within}
use Rattle.columns.proofs.year_scheme.YearSchemeColumnScheme.column.Goals as goal

pub returns : goal.returns
returns c =
    let s = c.args.self.now in
    let t = c.args.request.now.time in
    let q = c.args.request.now.published in
    let i = c.in_ok-month_in.ensures.lies c.in_ok-month_in.field-0 refl in
    let published : c.publication_column.result ≡ publication_place s.year s.first q = search rules in
    let e = published ∙ sym (year_within s.year s.first t q s.known (in_year s.year _ t i)) in
    record { place = e; year = rw e (year_place_lem s.year s.first t q s.known (omega arith) (omega arith)) }
