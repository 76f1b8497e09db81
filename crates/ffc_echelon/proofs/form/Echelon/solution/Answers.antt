use Rattle.std.proofs.Common.{◌+◌, ◌*◌, List, length, map, get_or, sym, ap, ◌∙◌, subst}
use Rattle.std.proofs.lemmas.Result.{IfOk-weaker}
use Rattle.ffc_base.specs.declared.meter.Unit.TheVariants as unit
use Rattle.ffc_base.specs.declared.stop.Stop.TheVariants as stops
use Rattle.ffc_echelon.specs.Forms.{Form, Kept, AreLeading}
use Rattle.ffc_echelon.specs.Progress.{AreLeads}
use Rattle.ffc_echelon.specs.Units.{TakesAtMost}
use Rattle.ffc_echelon.proofs.PlacingLemmas.{avoided_by_rows, solution_by_rows}
use Rattle.ffc_echelon.proofs.form.Echelon.solution.Goals as goal

pub solve-requires-clause-leading : goal.solve-requires-clause-leading
solve-requires-clause-leading g c = subst (λ (r : List Kept). AreLeading c.self.inside.unknowns r) (sym c.as_slice-rows.ensures.value) c.self.invariant.0

pub solve-requires-clause-leads : goal.solve-requires-clause-leads
solve-requires-clause-leads g c =
    subst (λ (r : List Kept). AreLeads c.self.inside.unknowns r c.as_slice-leads.result.now) (sym c.as_slice-rows.ensures.value)
    (subst (AreLeads c.self.inside.unknowns c.self.inside.rows.items) (sym c.as_slice-leads.ensures.value) c.self.invariant.1)

pub solve-requires-clause-forms : goal.solve-requires-clause-forms
solve-requires-clause-forms g c = λ k d inside.
    avoided_by_rows c.self.inside.unknowns c.as_slice-rows.result.now c.args.self.now (get_or c.args.forms.now k d) (ap (λ (f : Form). f.unknowns) (sym c.self.view_is))
    (ap (λ (f : Form). f.kept) (sym c.self.view_is) ∙ sym c.as_slice-rows.ensures.value) (c.requires.forms k d inside)

pub returns-clause-found : goal.returns-clause-found
returns-clause-found g c =
    IfOk-weaker c.solve.result _ _
    (λ values solution. solution_by_rows g.F.Field.ORDER c.self.inside.unknowns c.as_slice-rows.result.now c.args.self.now c.args.forms.now (map g.F.Field.value values.items)
    (ap (λ (f : Form). f.unknowns) (sym c.self.view_is)) (ap (λ (f : Form). f.kept) (sym c.self.view_is) ∙ sym c.as_slice-rows.ensures.value) solution) c.solve.ensures.found

pub returns-clause-units : goal.returns-clause-units
returns-clause-units g c =
    subst (λ n. TakesAtMost unit.Trial (n * (length c.args.forms.now + 1)) stops.Spent c.solve.result c.args.meter.now c.solve.new.meter) (ap (λ (f : Form). f.unknowns) c.self.view_is) c.solve.ensures.units
