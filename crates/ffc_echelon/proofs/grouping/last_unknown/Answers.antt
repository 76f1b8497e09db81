use Rattle.std.proofs.Common.{◌≡◌, ◌-◌, suc, drop, sym, subst, arith}
use Rattle.ffc_echelon.specs.Vectors.{AreCoordinates}
use Rattle.ffc_echelon.specs.Placing.{EndsBefore, IsLastUnknown}
use Rattle.ffc_echelon.proofs.ColumnLemmas.{last_here, ends_later}
use Rattle.ffc_echelon.proofs.PointLemmas.{residues}
use Rattle.ffc_echelon.proofs.grouping.last_unknown.Goals as goal

pub returns-then-entry-unknowns-clause-last : goal.returns-then-entry-unknowns-clause-last
returns-then-entry-unknowns-clause-last g c =
    let value = g.F.Field.value in
    let items = c.coordinates-coordinates.result.now in
    let i = c.loop-place.place - 1 in
    let next : c.loop-place.place ≡ suc i = omega arith in
    let valid = subst (AreCoordinates g.F.Field.ORDER) (sym c.coordinates-coordinates.ensures.value) c.coordinates-coordinates.ensures.valid in
    let ends = subst (λ k. EndsBefore c.args.unknowns 0 (residues value (drop k items))) next c.loop-place.invariant in
    subst (λ v. IsLastUnknown c.args.unknowns v c.index-coordinates-place.result.0 (value c.index-coordinates-place.result.1)) c.coordinates-coordinates.ensures.value
    (last_here value g.F.Field.ORDER c.args.unknowns i items c.index-coordinates-place.result valid (omega arith) c.index-coordinates-place.is c.if-entry-unknowns.true ends)

pub loop-place-preserved : goal.loop-place-preserved
loop-place-preserved g c =
    let value = g.F.Field.value in
    let items = c.coordinates-coordinates.result.now in
    let i = c.loop-place.place - 1 in
    let next : c.loop-place.place ≡ suc i = omega arith in
    let ends = subst (λ k. EndsBefore c.args.unknowns 0 (residues value (drop k items))) next c.loop-place.invariant in
    ends_later value c.args.unknowns i items c.index-coordinates-place.result (omega arith) c.index-coordinates-place.is c.if-entry-unknowns.false ends
