use Rattle.std.proofs.Common.{rules, ◌≡◌, ◌+◌, ◌∙◌, [], None, length, replicate, sym, ap, subst, arith}
use Rattle.std.proofs.lemmas.List.{length-replicate}
use Rattle.std.proofs.lemmas.Result.{err_from_is_err_and}
use Rattle.std.specs.Prelude.{IfNone, Ok}
use Rattle.ffc_base.specs.declared.stop.Stop.TheVariants.{Spent}
use Rattle.ffc_echelon.specs.declared.elimination.Elimination.TheVariants.{Contradiction}
use Rattle.ffc_echelon.specs.Progress.{IsFormOfFirst}
use Rattle.ffc_echelon.proofs.Growing.{form_of_none, form_of_all}
use Rattle.ffc_echelon.proofs.UnitLemmas.{more_more, more_none, takes_in_turn}
use Rattle.ffc_echelon.proofs.elimination.eliminate.Goals as goal

pub loop-number-init : goal.loop-number-init
loop-number-init g c =
    let leads : c.in_ok-leads.leads.items ≡ replicate c.args.unknowns None = c.in_ok-leads.ensures.items_if_clones_equal (λ y h. search rules) in
    record {
      long = ap length leads ∙ length-replicate c.args.unknowns None;
      form = subst (λ l. IsFormOfFirst g.F.Field.ORDER c.args.unknowns c.args.inputs.now 0 l c.in_ok-leads.leads.items) (sym c.new-rows.ensures.items)
          (subst (IsFormOfFirst g.F.Field.ORDER c.args.unknowns c.args.inputs.now 0 []) (sym leads) (form_of_none g.F.Field.ORDER c.args.unknowns c.args.inputs.now));
      units = (0, omega arith, more_none c.args.meter.now);
    }

pub returns-in_err-found-clause-units : goal.returns-in_err-found-clause-units
returns-in_err-found-clause-units g c =
    let known = c.loop-number.invariant in
    let why = err_from_is_err_and c.from_residual-in_err-found.result c.from_residual-in_err-found.ensures.1 in
    takes_in_turn Spent c.from_residual-in_err-found.result c.args.meter.now c.loop-number.meter c.eliminate_next.new.meter
    known.units.0 c.loop-number.number (length c.loop-number.leads.items) c.args.unknowns (length c.args.inputs.now) known.long known.units.2 known.units.1 c.loop-number-test.true
    c.in_err-found.ensures.units (λ spent. cc (why.1, why.2, spent))

pub returns-in-Some-clause-units : goal.returns-in-Some-clause-units
returns-in-Some-clause-units g c =
    let known = c.loop-number.invariant in
    takes_in_turn Spent (Ok (Contradiction c.in-Some.coefficients)) c.args.meter.now c.loop-number.meter c.eliminate_next.new.meter
    known.units.0 c.loop-number.number (length c.loop-number.leads.items) c.args.unknowns (length c.args.inputs.now) known.long known.units.2 known.units.1 c.loop-number-test.true
    c.in_ok-found.ensures.units (λ spent. cc)

pub loop-number-preserved : goal.loop-number-preserved
loop-number-preserved g c =
    let p = g.F.Field.ORDER in
    let known = c.loop-number.invariant in
    let number = c.loop-number.number in
    let unknowns = c.args.unknowns in
    let inputs = c.args.inputs.now in
    let here = c.in_ok-found.ensures.units in
    let form : IsFormOfFirst p unknowns inputs (number + 1) c.eliminate_next.new.rows.items c.eliminate_next.new.leads.items =
    subst (λ n. IsFormOfFirst p n inputs (number + 1) c.eliminate_next.new.rows.items c.eliminate_next.new.leads.items) known.long
    (subst (λ o. IfNone o (IsFormOfFirst p (length c.loop-number.leads.items) inputs (number + 1) c.eliminate_next.new.rows.items c.eliminate_next.new.leads.items)) c.in_default.is c.in_ok-found.ensures.form) in
    record {
      long = form.table.long;
      form = form;
      units = (known.units.0 + here.units, omega (arith, known.long, known.units.1, here.within), more_more c.args.meter.now c.loop-number.meter c.eliminate_next.new.meter known.units.0 here.units known.units.2 here.taken);
    }

pub returns-clause-found : goal.returns-clause-found
returns-clause-found g c =
    form_of_all g.F.Field.ORDER c.args.unknowns c.loop-number.number c.args.inputs.now c.loop-number.rows.items c.loop-number.leads.items c.loop-number-test.false (omega (arith, c.loop-number.auto.number-end)) c.loop-number.invariant.form
