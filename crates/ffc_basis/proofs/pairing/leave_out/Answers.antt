use Rattle.std.proofs.Common.{◌∙◌}
use Rattle.ffc_line.specs.Lines.{polys_of}
use Rattle.ffc_basis.proofs.AddedLemmas.{left_out_both}
use Rattle.ffc_basis.proofs.pairing.leave_out.Goals as goal

pub loop-preserved : goal.loop-preserved
loop-preserved g c = record {
  left_out = left_out_both g.F.Field.ORDER g.O.MonoOrder.cmp (polys_of c.args.lines.now) c.args.pairing.now.records.items c.loop.pairing.records.items c.leave_out_next.new.pairing.records.items c.loop.pairing.paired c.leave_out_next.new.pairing.paired
      c.loop.invariant.left_out c.leave_out_next.ensures.left_out;
  paired = c.leave_out_next.ensures.paired ∙ c.loop.invariant.paired;
}

pub returns-in_err-leave_out_next-clause-left_out : goal.returns-in_err-leave_out_next-clause-left_out
returns-in_err-leave_out_next-clause-left_out g c =
    left_out_both g.F.Field.ORDER g.O.MonoOrder.cmp (polys_of c.args.lines.now) c.args.pairing.now.records.items c.loop.pairing.records.items c.leave_out_next.new.pairing.records.items c.loop.pairing.paired c.leave_out_next.new.pairing.paired
    c.loop.invariant.left_out c.leave_out_next.ensures.left_out

pub returns-then-not-branch-clause-left_out : goal.returns-then-not-branch-clause-left_out
returns-then-not-branch-clause-left_out g c =
    left_out_both g.F.Field.ORDER g.O.MonoOrder.cmp (polys_of c.args.lines.now) c.args.pairing.now.records.items c.loop.pairing.records.items c.leave_out_next.new.pairing.records.items c.loop.pairing.paired c.leave_out_next.new.pairing.paired
    c.loop.invariant.left_out c.leave_out_next.ensures.left_out
