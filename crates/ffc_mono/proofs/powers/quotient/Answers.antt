use Rattle.std.proofs.Common.{◌≡◌, ◌++◌, sym, ap, ◌∙◌, arith, inl, inr}
use Rattle.std.proofs.lemmas.Bool.{cases_lt}
use Rattle.ffc_ring.proofs.PowerLemmas.{rest_is, pushed}
use Rattle.ffc_mono.proofs.PowerLemmas.{quotient_above, quotient_keeps_first, quotient_lowers_first, quotient_drops_first, divides_behind_first, divides_behind_same, quotient_at_left_end, quotient_at_right_end}
use Rattle.ffc_mono.proofs.powers.quotient.Goals as goal
use Rattle.ffc_mono.proofs.powers.quotient.Goals.{in_default, in_default-2}

pub loop-p-preserved-in_ok-push : goal.loop-p-preserved-in_ok-push
loop-p-preserved-in_ok-push c =
    let at = c.in-Some-Some in
    let i = c.loop-p.invariant in
    let left = at.ensures.cases.0 in
    let right = at.ensures'.cases.0 in
    record {
      left_is = rest_is _ _ _ left i.left_is;
      right_is = i.right_is;
      divides = divides_behind_first _ _ _ _ _ _ left right i.left_is i.right_is c.if-p-q.true i.divides;
      so_far = pushed _ _ _ _ _ c.in_ok-push.ensures.ok
          (ap (λ k. c.loop-p.out.items ++ k) (sym (quotient_keeps_first _ _ _ _ _ _ left right i.left_is i.right_is c.if-p-q.true)) ∙ i.so_far);
    }

pub loop-p-preserved-in_ok-push-2 : goal.loop-p-preserved-in_ok-push-2
loop-p-preserved-in_ok-push-2 c =
    let at = c.in-Some-Some in
    let i = c.loop-p.invariant in
    let left = at.ensures.cases.0 in
    let right = at.ensures'.cases.0 in
    let same : at.p.now.0 ≡ at.q.now.0 = elim (cases_lt at.q.now.0 at.p.now.0) [
      | inl above ↦ absurd (quotient_above _ _ _ _ _ _ left right i.left_is i.right_is above i.divides)
      | inr not_above ↦ omega (arith, c.if-p-q.false)
    ] in
    record {
      left_is = rest_is _ _ _ left i.left_is;
      right_is = rest_is _ _ _ right i.right_is;
      divides = divides_behind_same _ _ _ _ _ _ left right i.left_is i.right_is same i.divides;
      so_far = pushed _ _ _ _ _ c.in_ok-push-2.ensures.ok
          (ap (λ k. c.loop-p.out.items ++ k) (sym (quotient_lowers_first _ _ _ _ _ _ left right i.left_is i.right_is same c.if-q-p.true)) ∙ i.so_far);
    }

pub loop-p-preserved : goal.loop-p-preserved
loop-p-preserved c =
    let at = c.in-Some-Some in
    let i = c.loop-p.invariant in
    let left = at.ensures.cases.0 in
    let right = at.ensures'.cases.0 in
    let same : at.p.now.0 ≡ at.q.now.0 = elim (cases_lt at.q.now.0 at.p.now.0) [
      | inl above ↦ absurd (quotient_above _ _ _ _ _ _ left right i.left_is i.right_is above i.divides)
      | inr not_above ↦ omega (arith, c.if-p-q.false)
    ] in
    record {
      left_is = rest_is _ _ _ left i.left_is;
      right_is = rest_is _ _ _ right i.right_is;
      divides = divides_behind_same _ _ _ _ _ _ left right i.left_is i.right_is same i.divides;
      so_far = ap (λ k. c.loop-p.out.items ++ k) (sym (quotient_drops_first _ _ _ _ _ _ left right i.left_is i.right_is same c.if-q-p.false)) ∙ i.so_far;
    }

pub returns : goal.returns
returns c =
    let i = c.loop-p.invariant in
    elim c.match-split_first.branch [
      | in_default w ↦
          c.in_ok-extend_from_slice.ensures.ok ∙ ap (λ k. c.loop-p.out.items ++ k) (sym (quotient_at_right_end _ _ i.left_is w.in_default.ensures'.cases)) ∙ i.so_far
      | in_default-2 w ↦
          c.in_ok-extend_from_slice.ensures.ok ∙ ap (λ k. c.loop-p.out.items ++ k) (sym (quotient_at_left_end _ _ w.in_default.ensures.cases)) ∙ i.so_far
    ]
