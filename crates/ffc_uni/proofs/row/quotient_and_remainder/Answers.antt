use Rattle.std.proofs.Common.{◌≡◌, ◌+◌, ◌-◌, ◌%◌, ◌<◌, ◌≤◌, [], length, map, ap, ◌∙◌, sym, arith}
use Rattle.std.proofs.lemmas.List.{nil_from_length}
use Rattle.ffc_uni.specs.Univariate.{coefficient_at, times}
use Rattle.ffc_uni.proofs.Divisions.{divided}
use Rattle.ffc_uni.proofs.Rows.{length-residues}
use Rattle.ffc_uni.proofs.row.quotient_and_remainder.Goals as goal

pub returns-clause-division : goal.returns-clause-division
returns-clause-division g c =
    let value = g.F.Field.value in
    let p = g.F.Field.ORDER in
    let row = map value c.args.row.now in
    let by = map value c.args.by.now in
    let quotient = c.in_ok-quotient.quotient.items in
    let remainder = c.in_ok-remainder.remainder.items in
    let degree = length c.args.by.now - 1 in
    divided p degree (length c.args.row.now) row (times (map value quotient) by) (map value remainder)
    (length-residues value remainder ∙ c.in_ok-remainder.ensures.long)
    (length-residues value c.args.row.now)
    (λ k h. c.in_ok-quotient.ensures.cancels k (omega (arith, h)))
    (λ h k. ap (λ l. coefficient_at (times (map value l) by) k) (nil_from_length quotient (c.in_ok-quotient.ensures.long ∙ omega (arith, h))))
    (λ k h.
    ap (λ l. (coefficient_at (times (map value l) by) k + coefficient_at (map value remainder) k) % p) (sym c.as_slice.ensures.value)
    ∙ c.in_ok-remainder.ensures.left k (omega (arith, h, length-residues value remainder)))
