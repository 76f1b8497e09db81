use Rattle.std.proofs.Common.{get_or, set, ap, ◌∙◌, arith}
use Rattle.ffc_basis.specs.PairTable.{forgotten, with_state}
use Rattle.ffc_basis.proofs.Mapped.{mapped_next, mapped_all}
use Rattle.ffc_basis.proofs.pairing.forget_after.Goals as goal

pub loop-place-preserved : goal.loop-place-preserved
loop-place-preserved c =
    let old = c.args.records.now.items in
    let place = c.loop-place.place in
    let r = c.index-r.result.now in
    let so_far = c.loop-place.invariant in
    ap (λ xs. set xs place (with_state r c.known_by.result)) so_far
    ∙ mapped_next (forgotten c.args.len) old place r (with_state r c.known_by.result) (omega (arith, c.loop-place-test.true, c.len-place-end.ensures, c.args.records.now.ok.0))
    (c.index-r.ensures ∙ ap (λ xs. get_or xs place r) so_far) (ap (with_state r) c.known_by.ensures)

pub returns : goal.returns
returns c =
    c.loop-place.invariant
    ∙ mapped_all (forgotten c.args.len) c.loop-place.place c.args.records.now.items (omega (arith, c.loop-place-test.false, c.loop-place.auto.place-end, c.len-place-end.ensures, c.args.records.now.ok.0))
