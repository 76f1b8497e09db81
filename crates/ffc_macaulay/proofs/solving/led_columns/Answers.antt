use Rattle.std.proofs.Common.{List, ℕ, take, sym, subst, ◌+◌}
use Rattle.std.specs.List.{AllZip}
use Rattle.ffc_macaulay.specs.Solving.{IsLed}
use Rattle.ffc_macaulay.proofs.ZipLemmas.{zip_more}
use Rattle.ffc_macaulay.proofs.solving.led_columns.Goals as goal

pub loop-variable-preserved : goal.loop-variable-preserved
loop-variable-preserved g c =
    let keys = c.args.unknowns.now.keys in
    let kept = c.args.form.now.kept in
    let xs = c.args.variables.now in
    let i = c.loop-variable.variable-index in
    subst (λ (cs : List ℕ). AllZip (IsLed keys kept) (take (i + 1) xs) cs) (sym c.in_ok-push.ensures.items)
    (zip_more (IsLed keys kept) xs i c.loop-variable.columns.items 0 c.in_ok-column.column c.loop-variable-test.true c.loop-variable.invariant
    (record { column = c.in_ok-column.ensures; row = c.leads_in.ensures.0 c.if-not-leads_in.false }))
