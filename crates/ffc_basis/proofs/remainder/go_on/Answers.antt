use Rattle.std.proofs.Common.{List, refl, subst, IfSome}
use Rattle.ffc_ring.specs.Polynomial.{Terms}
use Rattle.ffc_dense.specs.Tables.{AreMultiplesOf}
use Rattle.ffc_line.specs.Lines.{Parts, polys_of}
use Rattle.ffc_basis.proofs.Lists.{always_on_err}
use Rattle.ffc_basis.proofs.SplitLemmas.{stays_bounded}
use Rattle.ffc_basis.proofs.UnitLemmas.{takes_nothing}
use Rattle.ffc_basis.proofs.remainder.go_on.Goals as goal

pub returns-in_err-left-clause-bound : goal.returns-in_err-left-clause-bound
returns-in_err-left-clause-bound g c =
    let poly : Terms = c.args.rest.0 in
    let items : Parts = c.args.parts.now in
    let s = c.args.meter.now in
    always_on_err c.from_residual.result
    (stays_bounded g.F.Field.ORDER g.O.MonoOrder.cmp (polys_of c.args.lines.now) poly poly items items s s s (λ q old h. h) (takes_nothing s) refl)

pub returns-in_default-clause-table : goal.returns-in_default-clause-table
returns-in_default-clause-table g c = c.begun.ensures.rest (polys_of c.args.lines.now) c.requires.table

pub reduce_in_place-requires-clause-multiples : goal.reduce_in_place-requires-clause-multiples
reduce_in_place-requires-clause-multiples g c =
    let p = g.F.Field.ORDER in
    subst (λ o. IfSome o (λ l. (gs : List Terms) → AreMultiplesOf p gs c.args.table.now.1 → AreMultiplesOf p gs l.1)) c.in-Some.is c.in_ok-left.ensures.multiples
    (polys_of c.args.lines.now) c.requires.table

pub reduce_in_place-requires-clause-table : goal.reduce_in_place-requires-clause-table
reduce_in_place-requires-clause-table g c = c.begun.ensures.rest (polys_of c.args.lines.now) c.requires.table
