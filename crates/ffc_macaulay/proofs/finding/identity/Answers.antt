use Rattle.std.proofs.Common.{◌+◌, ◌-◌, ◌*◌, subst}
use Rattle.ffc_base.specs.declared.meter.Unit.TheVariants as unit
use Rattle.ffc_base.specs.declared.stop.Stop.TheVariants as stops
use Rattle.ffc_echelon.proofs.TrialLemmas.{not_spent}
use Rattle.ffc_bounds.specs.Monomials.{columns, rows}
use Rattle.ffc_macaulay.specs.Finding.{IsFound}
use Rattle.ffc_macaulay.proofs.MatrixLemmas.{within_one, fewer_units}
use Rattle.ffc_macaulay.proofs.SolvingLemmas.{no_identity}
use Rattle.ffc_macaulay.proofs.finding.identity.Goals as goal

pub returns-clause-none : goal.returns-clause-none
returns-clause-none g c = λ lines lines_are.
    let p = g.F.Field.ORDER in
    let d = c.args.degree in
    let xs = c.args.variables.now in
    let degrees = c.args.degrees.now in
    let generators = c.args.generators.now in
    let m = c.in-Form.field-0 in
    let found = subst (IsFound p d xs degrees generators) c.in-Form.is c.in_ok-summands.ensures.found in
    no_identity p d xs degrees generators c.requires.generators m.unknowns.keys m.multiples.items m.rows.items found.0 g.met.F.Field.prime.least c.in-Form.field-1 found.1 lines lines_are

pub returns-clause-units : goal.returns-clause-units
returns-clause-units g c =
    let m = rows c.args.degree c.args.variables.now c.args.degrees.now in
    let n = columns c.args.degree c.args.variables.now in
    within_one unit.Reduction (m * (n - 1)) (m * n + n) stops.Spent c.eliminated.result _ c.args.meter.now c.eliminated.new.meter (fewer_units m n)
    (λ e. absurd (not_spent _ stops.Spent e)) c.eliminated.ensures.units
