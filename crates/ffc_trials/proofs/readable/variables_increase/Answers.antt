use Rattle.std.proofs.Common.{subst, sym, arith}
use Rattle.std.proofs.lemmas.List.{drop_all}
use Rattle.ffc_trials.proofs.ReadableLemmas.{IncreaseFrom, increase}
use Rattle.ffc_trials.proofs.readable.variables_increase.Goals as goal

pub returns : goal.returns
returns c _ =
    increase 0 c.args.powers.now
    (c.loop-power.invariant (subst (IncreaseFrom c.loop-power.least) (sym (drop_all c.loop-power.power-index c.args.powers.now (let over = c.loop-power-test.false in omega arith))) tt))
