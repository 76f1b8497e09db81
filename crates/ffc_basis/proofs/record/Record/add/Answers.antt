use Rattle.ffc_basis.proofs.PlaceLemmas.{part_over}
use Rattle.ffc_basis.proofs.record.Record.add.Goals as goal

pub returns-clause-over : goal.returns-clause-over
returns-clause-over g c = λ over.
    part_over g.F.Field.ORDER c.args.self.now c.args.line (g.F.Field.value c.args.c, c.args.m.now) c.place_of-place.result c.place_of-place.ensures.some (c.add_at.ensures.over over)
