use Rattle.std.proofs.Common.{length, ap, ◌∙◌, arith}
use Rattle.std.proofs.lemmas.Result.{err_from_is_err_and}
use Rattle.ffc_uni.specs.Chains.{last_remainder}
use Rattle.ffc_uni.proofs.StepLemmas.{last_remainder-push, last_short, with_square, with_next}
use Rattle.ffc_uni.proofs.UnitLemmas.{chained_later, stopped_later}
use Rattle.ffc_uni.proofs.chain.append_digit.Goals as goal

pub returns-in_err-next-clause-counted : goal.returns-in_err-next-clause-counted
returns-in_err-next-clause-counted g c =
    let stop = err_from_is_err_and c.from_residual-in_err-next.result c.from_residual-in_err-next.ensures.1
    in rw (stop.1, stop.2, c.if-one.true)
    (stopped_later 2 1 1 _ _ _ _ (omega arith) c.in_ok-square.ensures.counted.0 c.in_err-next.ensures.counted)

pub returns-in_err-push-2-clause-counted : goal.returns-in_err-push-2-clause-counted
returns-in_err-push-2-clause-counted g c =
    let stop = err_from_is_err_and c.from_residual-in_err-push-2.result c.from_residual-in_err-push-2.ensures.1
    in rw (stop.1, stop.2, c.if-one.true)
    (2, omega arith, chained_later _ _ _ 1 1 c.in_ok-square.ensures.counted.0 c.in_ok-next.ensures.counted.0)

pub returns-in_ok-push-2-clause-steps : goal.returns-in_ok-push-2-clause-steps
returns-in_ok-push-2-clause-steps g c =
    with_next _ _ _ _ _ _ _ _ _ _ _ c.requires.x c.last_remainder.ensures c.last_remainder-then-one.ensures c.if-one.true
    c.in_ok-square.ensures.division c.in_ok-square.ensures.lower
    (omega (arith, c.in_ok-square.ensures.short, c.requires.f, ap length c.last_remainder.ensures, last_short c.args.f.now c.args.x.now c.args.steps.now (omega (arith, c.requires.short, c.requires.f)) c.requires.lower)) c.in_ok-push.ensures.ok
    c.in_ok-next.ensures.division c.in_ok-next.ensures.lower
    (omega (arith, c.in_ok-next.ensures.short, c.requires.short, c.requires.f, c.in_ok-square.ensures.lower, ap length (c.last_remainder-then-one.ensures ∙ ap (last_remainder c.args.x.now) c.in_ok-push.ensures.ok ∙ last_remainder-push c.args.x.now c.args.steps.now c.in_ok-square.square))) c.in_ok-push-2.ensures.ok

pub returns-else-one-clause-steps : goal.returns-else-one-clause-steps
returns-else-one-clause-steps g c =
    with_square _ _ _ _ _ _ _ _ c.requires.x c.last_remainder.ensures c.if-one.false
    c.in_ok-square.ensures.division c.in_ok-square.ensures.lower
    (omega (arith, c.in_ok-square.ensures.short, c.requires.f, ap length c.last_remainder.ensures, last_short c.args.f.now c.args.x.now c.args.steps.now (omega (arith, c.requires.short, c.requires.f)) c.requires.lower)) c.in_ok-push.ensures.ok
