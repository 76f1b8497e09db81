use Rattle.std.proofs.Common.{ℕ, ◌+◌, get_or, take, sym, subst, arith}
use Rattle.std.proofs.lemmas.List.{get_or_default}
use Rattle.ffc_casetree.proofs.RangeLemmas.{ArePowers, more_powers, powers_whole}
use Rattle.ffc_casetree.proofs.fitting.is_monomial.Goals as goal

pub returns : goal.returns
returns c = λ yes.
    let whole = powers_whole c.loop-power.least c.args.powers.now c.loop-power.power-index (omega (arith, c.loop-power-test.false, c.loop-power.auto.power-index-end)) c.loop-power.invariant in
    record { counted = record { few = c.is_counted.ensures yes; each = whole.each }; increasing = whole.increasing }

pub loop-power-preserved : goal.loop-power-preserved
loop-power-preserved c =
    let xs = c.args.powers.now in
    let i = c.loop-power.power-index in
    let x : ℕ × ℕ = get_or xs i (0, 0) in
    subst (λ n. ArePowers (n + 1) (take (i + 1) xs)) (sym c.from-least.ensures)
    (more_powers c.loop-power.least xs i x c.loop-power-test.true (get_or_default xs i (0, 0) x c.loop-power-test.true) c.loop-power.invariant
    (c.is_power.ensures c.if-not-is_power.false) (omega (arith, c.if-from-least.false, c.from.ensures)))
