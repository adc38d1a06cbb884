-- Bytes that break the pattern or hold no digits are no date, and of the others the calendar decides.
use Rattle.std.proofs.Common.{◌≡◌, ◌+◌, ◌*◌, length, get_or, Some, ap, ◌∙◌, rules}
use Rattle.std.specs.Bool.{then_some}
use Rattle.cells.proofs.Dating.{new_date, not_formed, not_patterned, pair_none, pairs_read}
use Rattle.cells.proofs.date.read_date.Goals as goal

pub returns-in_default : goal.returns-in_default
returns-in_default c = not_patterned c.args.bytes.now (search rules)

pub returns-in_default-2 : goal.returns-in_default-2
returns-in_default-2 c = not_patterned c.args.bytes.now (search rules)

pub returns-in_default-3 : goal.returns-in_default-3
returns-in_default-3 c = not_patterned c.args.bytes.now (search rules)

pub returns-in_default-4 : goal.returns-in_default-4
returns-in_default-4 c = not_patterned c.args.bytes.now (search rules)

pub returns-in_err-century : goal.returns-in_err-century
returns-in_err-century c =
    let bytes = c.args.bytes.now in
    c.from_residual.ensures ∙ not_formed bytes (λ f. pair_none (get_or bytes 0 0) (get_or bytes 1 0) c.in_err-century.ensures f.century)

pub returns-in_err-years : goal.returns-in_err-years
returns-in_err-years c =
    let bytes = c.args.bytes.now in
    c.from_residual-in_err-years.ensures ∙ not_formed bytes (λ f. pair_none (get_or bytes 2 0) (get_or bytes 3 0) c.in_err-years.ensures f.years)

pub returns-in_err-month : goal.returns-in_err-month
returns-in_err-month c =
    let bytes = c.args.bytes.now in
    c.from_residual-in_err-month.ensures ∙ not_formed bytes (λ f. pair_none (get_or bytes 5 0) (get_or bytes 6 0) c.in_err-month.ensures f.month)

pub returns-in_err-day : goal.returns-in_err-day
returns-in_err-day c =
    let bytes = c.args.bytes.now in
    c.from_residual-in_err-day.ensures ∙ not_formed bytes (λ f. pair_none (get_or bytes 8 0) (get_or bytes 9 0) c.in_err-day.ensures f.day)

pub returns : goal.returns
returns c =
    let bytes = c.args.bytes.now in
    let long : length bytes ≡ 10 = search rules in
    let first : get_or bytes 4 0 ≡ 45 = search rules in
    let second : get_or bytes 7 0 ≡ 45 = search rules in
    let century = ap (λ n. Some n) c.from.ensures ∙ c.in_ok-century.ensures in
    let years = ap (λ n. Some n) c.from-2.ensures ∙ c.in_ok-years.ensures in
    c.then_some.ensures
    ∙ ap (λ t. then_some t (new_date (c.from.result * 100 + c.from-2.result) c.in_ok-month.month c.in_ok-day.day)) c.is_date.ensures
    ∙ pairs_read bytes c.from.result c.from-2.result c.in_ok-month.month c.in_ok-day.day long (first, second) century years c.in_ok-month.ensures c.in_ok-day.ensures
