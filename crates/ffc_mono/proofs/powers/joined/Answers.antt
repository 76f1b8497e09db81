use Rattle.std.proofs.Common.{◌≡◌, ℕ, ◌∷◌, ◌++◌, sym, ap, ◌∙◌, arith, append_assoc}
use Rattle.ffc_ring.specs.Monomial.{joined}
use Rattle.ffc_mono.specs.Joining.{joining_of}
use Rattle.ffc_ring.proofs.PowerLemmas.{rest_is, degree_is, pushed, joined_by_left, joined_by_right, joined_by_both, joined_at_left_end, joined_at_right_end}
use Rattle.ffc_mono.proofs.PowerLemmas.{joins_of}
use Rattle.ffc_mono.proofs.powers.joined.Goals as goal
use Rattle.ffc_mono.proofs.powers.joined.Goals.{in_default, in_default-2}

pub loop-p-preserved-in_ok-push : goal.loop-p-preserved-in_ok-push
loop-p-preserved-in_ok-push c =
    let at = c.in-Some-Some in
    let i = c.loop-p.invariant in
    let left = at.ensures.cases.0 in
    let right = at.ensures'.cases.0 in
    record {
      left_is = rest_is _ _ _ left i.left_is;
      right_is = i.right_is;
      fits = omega (arith, degree_is _ _ _ left, i.fits);
      so_far = pushed _ _ _ _ _ c.in_ok-push.ensures.ok
          (ap (λ k. c.loop-p.out.items ++ k) (sym (joined_by_left _ (joins_of c.args.joining) _ _ _ _ _ _ left right i.left_is i.right_is c.if-p-q.true)) ∙ i.so_far);
    }

pub loop-p-preserved-in_ok-push-2 : goal.loop-p-preserved-in_ok-push-2
loop-p-preserved-in_ok-push-2 c =
    let at = c.in-Some-Some in
    let i = c.loop-p.invariant in
    let left = at.ensures.cases.0 in
    let right = at.ensures'.cases.0 in
    record {
      left_is = i.left_is;
      right_is = rest_is _ _ _ right i.right_is;
      fits = omega (arith, degree_is _ _ _ right, i.fits);
      so_far = pushed _ _ _ _ _ c.in_ok-push-2.ensures.ok
          (ap (λ k. c.loop-p.out.items ++ k) (sym (joined_by_right _ (joins_of c.args.joining) _ _ _ _ _ _ left right i.left_is i.right_is c.if-q-p.true)) ∙ i.so_far);
    }

pub loop-p-preserved : goal.loop-p-preserved
loop-p-preserved c =
    let at = c.in-Some-Some in
    let i = c.loop-p.invariant in
    let left = at.ensures.cases.0 in
    let right = at.ensures'.cases.0 in
    let same : at.p.now.0 ≡ at.q.now.0 = omega (arith, c.if-p-q.false, c.if-q-p.false) in
    record {
      left_is = rest_is _ _ _ left i.left_is;
      right_is = rest_is _ _ _ right i.right_is;
      fits = omega (arith, degree_is _ _ _ left, degree_is _ _ _ right, i.fits);
      so_far = pushed _ _ _ _ _ c.in_ok-push-3.ensures.ok
          (ap (λ (e : ℕ). c.loop-p.out.items ++ ((at.p.now.0, e) ∷ joined (joining_of c.args.joining) at.left_rest.now at.right_rest.now)) c.of.ensures
          ∙ ap (λ k. c.loop-p.out.items ++ k) (sym (joined_by_both _ (joins_of c.args.joining) _ _ _ _ _ _ left right i.left_is i.right_is same)) ∙ i.so_far);
    }

pub returns : goal.returns
returns c =
    let i = c.loop-p.invariant in
    let out : c.extend_from_slice-2.new.self.items ≡ c.loop-p.out.items ++ (c.loop-p.left.now ++ c.loop-p.right.now) =
    c.in_ok-extend_from_slice-2.ensures.ok ∙ ap (λ k. k ++ c.loop-p.right.now) c.in_ok-extend_from_slice.ensures.ok ∙ simp append_assoc in
    elim c.match-split_first.branch [
      | in_default w ↦
          out ∙ ap (λ k. c.loop-p.out.items ++ k) (sym (joined_at_right_end _ (joins_of c.args.joining) _ _ i.left_is w.in_default.ensures'.cases)) ∙ i.so_far
      | in_default-2 w ↦
          out ∙ ap (λ k. c.loop-p.out.items ++ k) (sym (joined_at_left_end _ _ _ w.in_default.ensures.cases)) ∙ i.so_far
    ]
