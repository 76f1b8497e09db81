use Rattle.ffc_basis.proofs.FewLemmas.{few_same}
use Rattle.ffc_basis.proofs.pairing.pair_lines.Goals as goal

pub returns-in_err-leave_out-clause-few : goal.returns-in_err-leave_out-clause-few
returns-in_err-leave_out-clause-few g c =
    few_same c.loop-pairing.pairing.records.items c.leave_out.new.pairing.records.items c.loop-pairing.pairing.paired c.leave_out.new.pairing.paired c.leave_out.ensures.left_out.seconds c.leave_out.ensures.paired c.loop-pairing.invariant.few

pub returns-clause-few : goal.returns-clause-few
returns-clause-few g c =
    few_same c.loop-pairing.pairing.records.items c.leave_out.new.pairing.records.items c.loop-pairing.pairing.paired c.leave_out.new.pairing.paired c.leave_out.ensures.left_out.seconds c.leave_out.ensures.paired c.loop-pairing.invariant.few
