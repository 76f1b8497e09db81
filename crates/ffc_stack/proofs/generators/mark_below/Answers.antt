use Rattle.std.proofs.Common.{◌≡◌, ◌-◌, subst, arith}
use Rattle.ffc_stack.specs.Marks.{IsReachedTo}
use Rattle.ffc_stack.proofs.MarkLemmas.{reached_first, reached_step}
use Rattle.ffc_stack.proofs.generators.mark_below.Goals as goal

pub loop-place-init : goal.loop-place-init
loop-place-init g c = reached_first c.args.lines.now c.args.line c.args.reached.now c.mark.new.reached c.requires.len c.requires.none c.mark.ensures

pub loop-place-preserved : goal.loop-place-preserved
loop-place-preserved g c =
    let place = c.loop-place.place in
    reached_step g.F.Field.ORDER c.args.lines.now c.args.line (place - 1) place c.loop-place.reached c.mark_from.new.reached c.requires.lines
    (omega (arith, c.loop-place-test.true, c.loop-place.auto.place)) (omega (arith, c.loop-place-test.true)) c.loop-place.invariant c.mark_from.ensures

pub returns : goal.returns
returns g c =
    let end : c.loop-place.place ≡ 0 = omega (arith, c.loop-place-test.false) in
    subst (λ n. IsReachedTo c.args.lines.now c.args.line n c.loop-place.reached) end c.loop-place.invariant
