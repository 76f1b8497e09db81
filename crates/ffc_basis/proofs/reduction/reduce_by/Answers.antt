use Rattle.std.proofs.Common.{ℕ, sym, subst, Option, IfSome, IfNone}
use Rattle.ffc_ring.specs.Monomial.{Monomial}
use Rattle.ffc_ring.specs.Polynomial.{Terms}
use Rattle.ffc_line.specs.Lines.{Parts, polys_of}
use Rattle.ffc_basis.specs.Reduction.{IsReduction, IsReduced, IsStopped}
use Rattle.ffc_basis.proofs.Lists.{if_some}
use Rattle.ffc_basis.proofs.RecordLemmas.{finished_reduction, finished_stops}
use Rattle.ffc_basis.proofs.reduction.reduce_by.Goals as goal

pub returns-clause-reduction : goal.returns-clause-reduction
returns-clause-reduction g c =
    let p = g.F.Field.ORDER in
    let cmp = g.O.MonoOrder.cmp in
    let gs = polys_of c.args.lines.now in
    let poly : Terms = c.args.poly.now in
    let found : Parts = c.in_ok-reduced.reduced.parts.items in
    subst (λ (ts : Terms). IsReduction p cmp gs poly ts found) (sym c.in_ok-reduced.ensures.rest)
    (finished_reduction p cmp gs poly c.in_ok-recorded.recorded.rest c.in_ok-recorded.recorded.parts found c.in_ok-reduced.ensures.same c.in_ok-reduced.ensures.polynomials c.in_ok-recorded.ensures.reduction)

pub returns-clause-reduced : goal.returns-clause-reduced
returns-clause-reduced g c =
    let p = g.F.Field.ORDER in
    let cmp = g.O.MonoOrder.cmp in
    let gs = polys_of c.args.lines.now in
    subst (λ (ts : Terms). IfNone c.in_ok-reduced.reduced.over (IsReduced p cmp gs ts)) (sym c.in_ok-reduced.ensures.rest)
    (subst (λ (o : Option (ℕ × Monomial)). IfNone o (IsReduced p cmp gs c.in_ok-recorded.recorded.rest)) (sym c.in_ok-reduced.ensures.over) c.in_ok-recorded.ensures.reduced)

pub returns-clause-over : goal.returns-clause-over
returns-clause-over g c =
    let p = g.F.Field.ORDER in
    let cmp = g.O.MonoOrder.cmp in
    let gs = polys_of c.args.lines.now in
    let rest : Terms = c.in_ok-recorded.recorded.rest in
    let parts : Parts = c.in_ok-recorded.recorded.parts in
    let found : Parts = c.in_ok-reduced.reduced.parts.items in
    subst (λ (ts : Terms). IfSome c.in_ok-reduced.reduced.over (λ t. IsStopped p cmp gs ts found t.0 t.1)) (sym c.in_ok-reduced.ensures.rest)
    (subst (λ (o : Option (ℕ × Monomial)). IfSome o (λ t. IsStopped p cmp gs rest found t.0 t.1)) (sym c.in_ok-reduced.ensures.over)
    (if_some c.in_ok-recorded.recorded.over (λ t. IsStopped p cmp gs rest parts t.0 t.1) (λ t. IsStopped p cmp gs rest found t.0 t.1)
    (λ t. finished_stops p cmp gs rest parts found t.0 t.1 c.in_ok-reduced.ensures.same) c.in_ok-recorded.ensures.over))
