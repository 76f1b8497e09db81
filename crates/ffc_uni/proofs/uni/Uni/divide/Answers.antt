use Rattle.std.proofs.Common.{◌%◌, map, ap, ◌∙◌}
use Rattle.ffc_uni.specs.Univariate.{SameUnivariate, coefficient_at, plus, times}
use Rattle.ffc_uni.proofs.Divisions.{division_alike}
use Rattle.ffc_uni.proofs.uni.Uni.divide.Goals as goal

pub returns-clause-division : goal.returns-clause-division
returns-clause-division g c =
    let value = g.F.Field.value in
    let p = g.F.Field.ORDER in
    let row = map value c.args.row.now in
    let by = c.args.self.now in
    let quotient = map value c.in_ok-quotient.quotient.items in
    let remainder = map value c.in_ok-quotient.remainder.items in
    let whole : SameUnivariate p row (plus (times quotient by) remainder) = λ k.
    c.in_ok-quotient.ensures.division k
    ∙ ap (λ l. coefficient_at (plus (times quotient l) remainder) k % p) c.coefs.ensures.value in
    division_alike p row by quotient remainder c.from_row.result c.from_row-2.result whole c.from_row.ensures.same c.from_row-2.ensures.same
