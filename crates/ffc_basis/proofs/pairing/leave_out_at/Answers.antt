use Rattle.std.proofs.Common.{sym, arith}
use Rattle.ffc_line.specs.Lines.{polys_of}
use Rattle.ffc_basis.proofs.AddedLemmas.{left_out}
use Rattle.ffc_basis.proofs.FewLemmas.{pending_within}
use Rattle.ffc_basis.proofs.Lists.{length-polys}
use Rattle.ffc_basis.proofs.PairTableLemmas.{record_is}
use Rattle.ffc_basis.proofs.pairing.leave_out_at.Goals as goal

pub index-pair-requires : goal.index-pair-requires
index-pair-requires g c = omega (arith, pending_within c.args.pairing.now.records.items c.args.place c.requires.pending)

pub follows_from_others-requires-clause-first : goal.follows_from_others-requires-clause-first
follows_from_others-requires-clause-first g c =
    let ls = c.args.lines.now in
    let pairing = c.args.pairing.now in
    let r = record_is g.F.Field.ORDER g.O.MonoOrder.cmp (polys_of ls) pairing.records.items pairing.paired c.args.place c.index-pair.result.now c.requires.pairs (pending_within pairing.records.items c.args.place c.requires.pending) (sym c.index-pair.ensures) in
    omega (arith, r.ordered, r.within, length-polys ls)

pub follows_from_others-requires-clause-second : goal.follows_from_others-requires-clause-second
follows_from_others-requires-clause-second g c =
    let ls = c.args.lines.now in
    let pairing = c.args.pairing.now in
    let r = record_is g.F.Field.ORDER g.O.MonoOrder.cmp (polys_of ls) pairing.records.items pairing.paired c.args.place c.index-pair.result.now c.requires.pairs (pending_within pairing.records.items c.args.place c.requires.pending) (sym c.index-pair.ensures) in
    omega (arith, r.within, length-polys ls)

pub mark-requires : goal.mark-requires
mark-requires g c = omega (arith, pending_within c.args.pairing.now.records.items c.args.place c.requires.pending)

pub returns-then-branch-clause-left_out : goal.returns-then-branch-clause-left_out
returns-then-branch-clause-left_out g c =
    let pairing = c.args.pairing.now in
    left_out g.F.Field.ORDER g.O.MonoOrder.cmp c.args.lines.now pairing.records.items c.mark.new.records.items pairing.paired c.args.place c.index-pair.result.now
    c.mark.ensures c.requires.pending (sym c.index-pair.ensures) (c.in_ok-follows_from_others.ensures c.if-branch.true) c.requires.pairs
