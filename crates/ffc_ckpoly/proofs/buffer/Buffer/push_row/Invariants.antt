use Rattle.std.proofs.Common.{◌≡◌, ◌++◌, drop}
use Rattle.ffc_ckpoly.specs.Flat.{cut, Parts, RowFits, times}
use Rattle.ffc_ckpoly.proofs.buffer.Buffer.push_row.Given as goal

abbrev pub invariant-loop-mark : goal.invariant-loop-mark
invariant-loop-mark g l =
    let value = g.F.Field.value in
    let p = g.F.Field.ORDER in
    let left = cut value l.start (drop l.mark-index l.marks) l.rest in
    record {
      parts : Parts 0 l.self.marks.items l.self.powers.items;
      row : Parts l.start (drop l.mark-index l.marks) l.rest;
      fits : RowFits l.m left;
      so_far :
          cut value 0 l.self.marks.items l.self.powers.items ++ times p (value l.c) l.m left
          ≡ cut value 0 l.fn.self.marks.items l.fn.self.powers.items ++ times p (value l.c) l.m (cut value 0 l.marks l.powers);
    }
