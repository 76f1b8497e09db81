use Rattle.std.proofs.Common.{◌≡◌, ◌+◌, ◌-◌, subst, arith}
use Rattle.ffc_macaulay.specs.Matrix.{AddsOfDegree}
use Rattle.ffc_macaulay.proofs.ListLemmas.{above_more}
use Rattle.ffc_macaulay.proofs.columns.unknowns.Goals as goal

pub loop-below-preserved : goal.loop-below-preserved
loop-below-preserved c =
    let ms = c.args.monomials.now in
    let d = c.loop-below.below in
    let old = c.loop-below.unknowns.keys in
    let new = c.insert_of_degree.new.unknowns.keys in
    above_more d (d - 1) ms old new (omega (arith, c.loop-below-test.true)) c.loop-below.invariant
    (subst (λ n. AddsOfDegree n ms old new) (let e : d - 1 + 1 ≡ d = omega (arith, c.loop-below-test.true) in e) c.in_ok-insert_of_degree.ensures)
