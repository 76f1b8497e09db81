use Rattle.std.proofs.Common.{subst, sym, arith}
use Rattle.std.proofs.lemmas.List.{drop_all}
use Rattle.ffc_trials.proofs.ReadableLemmas.{NumbersFrom, numbers_increase}
use Rattle.ffc_trials.proofs.readable.increase.Goals as goal

pub returns : goal.returns
returns c _ =
    numbers_increase 0 c.args.numbers.now
    (c.loop-number.invariant (subst (NumbersFrom c.loop-number.least) (sym (drop_all c.loop-number.number-index c.args.numbers.now (let over = c.loop-number-test.false in omega arith))) tt))
