use Rattle.std.proofs.Common.{◌<◌, refl, sym, arith, true≢false}
use Rattle.ffc_ring.proofs.PowerLemmas.{rest_is}
use Rattle.ffc_mono.proofs.PowerLemmas.{coprime_not_both, coprime_behind_left, coprime_behind_right, coprime_at_left_end, coprime_at_right_end}
use Rattle.ffc_mono.proofs.powers.are_coprime.Goals as goal

pub loop-p-init : goal.loop-p-init
loop-p-init c = record {
  left_is = c.requires.first_is;
  right_is = c.requires.second_is;
  same = (λ d. d, λ d. d);
}

pub returns-then-p-q : goal.returns-then-p-q
returns-then-p-q c =
    let at = c.in-Some-Some in
    let i = c.loop-p.invariant in (
      λ h. absurd (true≢false (sym h)),
      λ d. absurd (coprime_not_both _ _ _ _ _ _ at.ensures.cases.0 at.ensures'.cases.0 i.left_is i.right_is c.if-p-q.true (i.same.1 d)),
    )

pub loop-p-preserved-then-p-q-2 : goal.loop-p-preserved-then-p-q-2
loop-p-preserved-then-p-q-2 c =
    let at = c.in-Some-Some in
    let i = c.loop-p.invariant in
    let left = at.ensures.cases.0 in
    let right = at.ensures'.cases.0 in
    let step = coprime_behind_left _ _ _ _ _ _ left right i.left_is i.right_is c.if-p-q-2.true in
    record {
      left_is = rest_is _ _ _ left i.left_is;
      right_is = i.right_is;
      same = (λ d. i.same.0 (step.0 d), λ d. step.1 (i.same.1 d));
    }

pub loop-p-preserved : goal.loop-p-preserved
loop-p-preserved c =
    let at = c.in-Some-Some in
    let i = c.loop-p.invariant in
    let left = at.ensures.cases.0 in
    let right = at.ensures'.cases.0 in
    let below : at.q.now.0 < at.p.now.0 = omega (arith, c.if-p-q.false, c.if-p-q-2.false) in
    let step = coprime_behind_right _ _ _ _ _ _ left right i.left_is i.right_is below in
    record {
      left_is = i.left_is;
      right_is = rest_is _ _ _ right i.right_is;
      same = (λ d. i.same.0 (step.0 d), λ d. step.1 (i.same.1 d));
    }

pub returns-in_default : goal.returns-in_default
returns-in_default c =
    (λ _. c.loop-p.invariant.same.0 (coprime_at_right_end _ _ c.in_default.ensures'.cases), λ _. refl)

pub returns-in_default-2 : goal.returns-in_default-2
returns-in_default-2 c = (λ _. c.loop-p.invariant.same.0 (coprime_at_left_end _ _ c.in_default.ensures.cases), λ _. refl)
