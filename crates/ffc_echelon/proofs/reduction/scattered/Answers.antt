use Rattle.std.proofs.Common.{◌≡◌, get_or, map, ap, ap₂, ◌∙◌, arith, mod-eq_of_lt}
use Rattle.ffc_echelon.specs.Buffers.{with_multiple}
use Rattle.ffc_echelon.proofs.Buffers.{get_or-scattered, written_back}
use Rattle.ffc_echelon.proofs.reduction.scattered.Goals as goal

pub returns-clause-same : goal.returns-clause-same
returns-clause-same g c = λ k.
    let value = g.F.Field.value in
    let p = g.F.Field.ORDER in
    let n = c.args.columns in
    let one : value c.of.result ≡ 1 = c.of.ensures ∙ mod-eq_of_lt (omega (arith, g.met.F.Field.prime.least)) in
    let back = written_back c.in_ok-buffer.buffer.len c.add_multiple.new.buffer c.in_ok-buffer.buffer.items (c.add_multiple.auto.buffer ∙ c.as_mut_slice.ensures.len) in
    ap (λ l. get_or (map value l) k 0) back
    ∙ ap (λ l. get_or l k 0)
    (c.add_multiple.ensures
    ∙ ap₂ (λ s v. with_multiple p s v (map value c.as_mut_slice.result.now)) one c.coordinates.ensures.value
    ∙ ap (with_multiple p 1 c.args.vector.now) (ap (map value) c.as_mut_slice.ensures.value ∙ c.in_ok-buffer.ensures))
    ∙ get_or-scattered p n c.args.vector.now k (omega (arith, g.met.F.Field.prime.least)) c.coordinates.ensures.valid c.requires
