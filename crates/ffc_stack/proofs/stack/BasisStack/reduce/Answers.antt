use Rattle.std.proofs.Common.{◌≡◌, [], subst, IfOk, IfSome, IfNone}
use Rattle.ffc_basis.specs.Completion.{ReducesToZero}
use Rattle.ffc_line.specs.Lines.{polys_of}
use Rattle.ffc_basis.specs.Reduction.{ArePartsAtMost, IsReduced, IsStopped}
use Rattle.ffc_basis.specs.Units.{IsReductionBound}
use Rattle.ffc_stack.specs.Stacks.{Stack}
use Rattle.ffc_stack.proofs.stack.BasisStack.reduce.Goals as goal

pub returns-clause-at_most : goal.returns-clause-at_most
returns-clause-at_most g c =
    subst (λ (s : Stack g.row.F.Denot g.row.O.Denot). IfOk c.reduce.result (λ r. ArePartsAtMost g.F.Field.ORDER g.O.MonoOrder.cmp (polys_of s.lines) c.args.poly.now r.parts.items)) c.self.view_is c.reduce.ensures.at_most

pub returns-clause-zero : goal.returns-clause-zero
returns-clause-zero g c =
    subst (λ (s : Stack g.row.F.Denot g.row.O.Denot). IfOk c.reduce.result (λ r. r.rest ≡ [] → ReducesToZero g.F.Field.ORDER g.O.MonoOrder.cmp (polys_of s.lines) c.args.poly.now)) c.self.view_is c.reduce.ensures.zero

pub returns-clause-reduced : goal.returns-clause-reduced
returns-clause-reduced g c =
    subst (λ (s : Stack g.row.F.Denot g.row.O.Denot). IfOk c.reduce.result (λ r. IfNone r.over (IsReduced g.F.Field.ORDER g.O.MonoOrder.cmp (polys_of s.lines) r.rest))) c.self.view_is c.reduce.ensures.reduced

pub returns-clause-over : goal.returns-clause-over
returns-clause-over g c =
    subst (λ (s : Stack g.row.F.Denot g.row.O.Denot). IfOk c.reduce.result (λ r. IfSome r.over (λ t. IsStopped g.F.Field.ORDER g.O.MonoOrder.cmp (polys_of s.lines) r.rest r.parts.items t.0 t.1))) c.self.view_is c.reduce.ensures.over

pub returns-clause-bound : goal.returns-clause-bound
returns-clause-bound g c =
    subst (λ (s : Stack g.row.F.Denot g.row.O.Denot). IsReductionBound g.F.Field.ORDER g.O.MonoOrder.cmp (polys_of s.lines) c.args.poly.now c.args.meter.now c.reduce.new.meter) c.self.view_is c.reduce.ensures.bound
