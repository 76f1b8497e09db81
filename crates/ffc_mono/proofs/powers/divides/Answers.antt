use Rattle.std.proofs.Common.{◌<◌, sym, arith, true≢false}
use Rattle.ffc_ring.proofs.PowerLemmas.{rest_is}
use Rattle.ffc_mono.proofs.PowerLemmas.{divides_nothing, divides_not_below, divides_not_higher, divides_behind_both, divides_behind_right}
use Rattle.ffc_mono.proofs.powers.divides.Goals as goal

pub returns-in_default-split_first : goal.returns-in_default-split_first
returns-in_default-split_first c =
    let i = c.loop-p.invariant in (
      λ h. absurd (true≢false (sym h)),
      λ d. absurd (divides_nothing _ _ _ _ c.in-Some.ensures.cases.0 i.left_is c.in_default-split_first.ensures.cases (i.same.1 d)),
    )

pub returns-then-p-q : goal.returns-then-p-q
returns-then-p-q c =
    let i = c.loop-p.invariant in (
      λ h. absurd (true≢false (sym h)),
      λ d. absurd (divides_not_below _ _ _ _ _ _ c.in-Some.ensures.cases.0 c.in-Some-split_first.ensures.cases.0 i.left_is i.right_is c.if-p-q.true (i.same.1 d)),
    )

pub returns-then-p-q-3 : goal.returns-then-p-q-3
returns-then-p-q-3 c =
    let i = c.loop-p.invariant in (
      λ h. absurd (true≢false (sym h)),
      λ d. absurd (divides_not_higher _ _ _ _ _ _ c.in-Some.ensures.cases.0 c.in-Some-split_first.ensures.cases.0 i.left_is i.right_is c.if-p-q-2.true c.if-p-q-3.true (i.same.1 d)),
    )

pub loop-p-preserved-else-p-q-3 : goal.loop-p-preserved-else-p-q-3
loop-p-preserved-else-p-q-3 c =
    let i = c.loop-p.invariant in
    let left = c.in-Some.ensures.cases.0 in
    let right = c.in-Some-split_first.ensures.cases.0 in
    let step = divides_behind_both _ _ _ _ _ _ left right i.left_is i.right_is c.if-p-q-2.true c.if-p-q-3.false in
    record {
      left_is = rest_is _ _ _ left i.left_is;
      right_is = rest_is _ _ _ right i.right_is;
      same = (λ d. i.same.0 (step.0 d), λ d. step.1 (i.same.1 d));
    }

pub loop-p-preserved : goal.loop-p-preserved
loop-p-preserved c =
    let i = c.loop-p.invariant in
    let left = c.in-Some.ensures.cases.0 in
    let right = c.in-Some-split_first.ensures.cases.0 in
    let below : c.in-Some-split_first.q.now.0 < c.in-Some.p.now.0 = omega (arith, c.if-p-q.false, c.if-p-q-2.false) in
    let step = divides_behind_right _ _ _ _ _ _ left right i.left_is i.right_is below in
    record {
      left_is = i.left_is;
      right_is = rest_is _ _ _ right i.right_is;
      same = (λ d. i.same.0 (step.0 d), λ d. step.1 (i.same.1 d));
    }
