use Rattle.ffc_echelon.proofs.Buffers.{raised_at}
use Rattle.ffc_echelon.proofs.buffer.add_at.Goals as goal

pub returns-then-place-buffer : goal.returns-then-place-buffer
returns-then-place-buffer g c =
    raised_at g.F.Field.value g.F.Field.ORDER c.args.buffer.now c.args.place c.index-buffer-place.result c.add.result
    (g.F.Field.value c.args.more) c.if-place-buffer.true c.index-buffer-place.is c.add.ensures
