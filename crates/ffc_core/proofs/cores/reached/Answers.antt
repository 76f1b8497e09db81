use Rattle.std.proofs.Common.{length, ap, arith}
use Rattle.ffc_core.proofs.MarkLemmas.{first_reached}
use Rattle.ffc_core.proofs.cores.reached.Goals as goal

pub reach_all-requires-clause-last : goal.reach_all-requires-clause-last
reach_all-requires-clause-last c =
    λ h inside.
    first_reached c.as_mut_slice.result.now c.in_ok-marks.marks.items c.clause_count.result h c.as_mut_slice.ensures.value c.in_ok-marks.ensures.len
    (c.in_ok-marks.ensures.last h (omega (arith, inside, ap length c.as_mut_slice.ensures.value, c.in_ok-marks.ensures.len)))
