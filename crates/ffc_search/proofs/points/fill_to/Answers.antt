use Rattle.std.proofs.Common.{◌≡◌, ◌+◌, ◌-◌, ◌≤◌, length, vec_len, ap, ◌∙◌, arith, mod-eq_of_lt}
use Rattle.ffc_poly.specs.Ordered.{point_of}
use Rattle.ffc_search.proofs.ZeroLemmas.{point_filled}
use Rattle.ffc_search.proofs.points.fill_to.Goals as goal

pub returns-in_ok-resize-clause-same : goal.returns-in_ok-resize-clause-same
returns-in_ok-resize-clause-same g c = λ y.
    let value = g.F.Field.value in
    let old = c.args.point.now.items in
    let n = c.args.x + 1 in
    let none : value c.of.result ≡ 0 = c.of.ensures ∙ mod-eq_of_lt (omega (arith, g.met.F.Field.prime.least)) in
    let short : length old ≤ n = omega (arith, c.if-len-x.true, c.len.ensures, c.args.point.now.ok.0) in
    ap (λ l. point_of value l y) c.in_ok-resize.ensures.items
    ∙ point_filled value c.of.result none old n (n - vec_len c.args.point.now) y short
