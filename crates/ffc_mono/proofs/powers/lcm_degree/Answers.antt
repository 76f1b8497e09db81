use Rattle.std.proofs.Common.{◌≡◌, ◌++◌, max, ap, arith}
use Rattle.ffc_ring.specs.Monomial.{degree, mono_lcm}
use Rattle.ffc_ring.proofs.MonomialLemmas.{greater_ones}
use Rattle.ffc_ring.proofs.PowerLemmas.{rest_is, degree_is, joined_by_left, joined_by_right, joined_by_both, joined_at_left_end, joined_at_right_end}
use Rattle.ffc_mono.proofs.PowerLemmas.{degree-append}
use Rattle.ffc_mono.proofs.powers.lcm_degree.Goals as goal
use Rattle.ffc_mono.proofs.powers.lcm_degree.Goals.{in_default, in_default-2}

pub loop-p-preserved-then-p-q : goal.loop-p-preserved-then-p-q
loop-p-preserved-then-p-q c =
    let at = c.in-Some-Some in
    let i = c.loop-p.invariant in
    let left = at.ensures.cases.0 in
    let right = at.ensures'.cases.0 in
    record {
      left_is = rest_is _ _ _ left i.left_is;
      right_is = i.right_is;
      fits = omega (arith, degree_is _ _ _ left, i.fits);
      so_far = omega (arith, ap degree (joined_by_left max greater_ones _ _ _ _ _ _ left right i.left_is i.right_is c.if-p-q.true), i.so_far);
    }

pub loop-p-preserved-then-q-p : goal.loop-p-preserved-then-q-p
loop-p-preserved-then-q-p c =
    let at = c.in-Some-Some in
    let i = c.loop-p.invariant in
    let left = at.ensures.cases.0 in
    let right = at.ensures'.cases.0 in
    record {
      left_is = i.left_is;
      right_is = rest_is _ _ _ right i.right_is;
      fits = omega (arith, degree_is _ _ _ right, i.fits);
      so_far = omega (arith, ap degree (joined_by_right max greater_ones _ _ _ _ _ _ left right i.left_is i.right_is c.if-q-p.true), i.so_far);
    }

pub loop-p-preserved : goal.loop-p-preserved
loop-p-preserved c =
    let at = c.in-Some-Some in
    let i = c.loop-p.invariant in
    let left = at.ensures.cases.0 in
    let right = at.ensures'.cases.0 in
    let same : at.p.now.0 ≡ at.q.now.0 = omega (arith, c.if-p-q.false, c.if-q-p.false) in
    record {
      left_is = rest_is _ _ _ left i.left_is;
      right_is = rest_is _ _ _ right i.right_is;
      fits = omega (arith, degree_is _ _ _ left, degree_is _ _ _ right, i.fits);
      so_far = omega (arith, ap degree (joined_by_both max greater_ones _ _ _ _ _ _ left right i.left_is i.right_is same), i.so_far);
    }

pub returns : goal.returns
returns c =
    let i = c.loop-p.invariant in
    let left = c.loop-p.left.now in
    let right = c.loop-p.right.now in
    let whole : mono_lcm left right ≡ left ++ right =
    elim c.match-split_first.branch [
      | in_default w ↦ joined_at_right_end max greater_ones _ _ i.left_is w.in_default.ensures'.cases
      | in_default-2 w ↦ joined_at_left_end max _ _ w.in_default.ensures.cases
    ] in
    omega (arith, i.so_far, ap degree whole, degree-append left right, c.degree_of.ensures, c.degree_of-2.ensures)
