use Rattle.std.proofs.Common.{ap, Err}
use Rattle.ffc_line.specs.Lines.{Parts}
use Rattle.ffc_basis.proofs.Lists.{only_memory}
use Rattle.ffc_basis.proofs.PlaceLemmas.{room_for_one}
use Rattle.ffc_basis.proofs.remainder.record_within.Goals as goal

pub only_memory-requires : goal.only_memory-requires
only_memory-requires g c =
    let step = c.args.step.now in
    let items : Parts = c.args.parts.now in
    only_memory c.in-Err.stop (λ e. c.in-Err.ensures.no_product (ap (λ stop. Err stop) e))
    (λ e. room_for_one g.F.Field.ORDER items (g.F.Field.value step.coefficient, step.monomial) c.args.place c.requires.room (c.in-Err.ensures.over (ap (λ stop. Err stop) e)))
