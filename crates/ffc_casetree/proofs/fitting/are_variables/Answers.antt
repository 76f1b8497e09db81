use Rattle.std.proofs.Common.{ℕ, ◌+◌, get_or, take, sym, subst, arith}
use Rattle.std.proofs.lemmas.List.{get_or_default}
use Rattle.ffc_casetree.proofs.RangeLemmas.{AreBelow, one_more_below, whole_below}
use Rattle.ffc_casetree.proofs.fitting.are_variables.Goals as goal

pub returns : goal.returns
returns c = λ yes.
    let whole = whole_below c.loop-variable.least c.args.variables.now c.loop-variable.variable-index (omega (arith, c.loop-variable-test.false, c.loop-variable.auto.variable-index-end)) c.loop-variable.invariant in
    record { counted = record { few = c.is_counted.ensures yes; each = whole.each }; increasing = whole.increasing }

pub loop-variable-preserved : goal.loop-variable-preserved
loop-variable-preserved c =
    let xs = c.args.variables.now in
    let i = c.loop-variable.variable-index in
    let x : ℕ = get_or xs i 0 in
    subst (λ n. AreBelow (n + 1) (take (i + 1) xs)) (sym c.from-least.ensures)
    (one_more_below c.loop-variable.least xs i x c.loop-variable-test.true (get_or_default xs i 0 x c.loop-variable-test.true) c.loop-variable.invariant
    (c.is_narrow.ensures c.if-not-is_narrow.false) (omega (arith, c.if-from-least.false, c.from.ensures)))
