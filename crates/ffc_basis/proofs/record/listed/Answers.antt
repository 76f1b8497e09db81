use Rattle.std.proofs.Common.{ℕ, ◌<◌, ◌∷◌, [], ◌++◌, length, get_or, take, sym, ap, ap₂, ◌∙◌, arith}
use Rattle.ffc_ring.specs.Monomial.{Monomial}
use Rattle.ffc_ring.specs.Polynomial.{Terms}
use Rattle.ffc_basis.proofs.Lists.{any_default}
use Rattle.ffc_basis.proofs.LineLemmas.{taken_more}
use Rattle.ffc_basis.proofs.SplitLemmas.{front_pushed}
use Rattle.ffc_basis.proofs.record.listed.Goals as goal

pub loop-place-preserved : goal.loop-place-preserved
loop-place-preserved g c =
    let value = g.F.Field.value in
    let poly : Terms = c.args.poly.now in
    let place = c.loop-place.place in
    let within : place < length poly = omega (arith, c.loop-place-test.true, c.len-place-end.ensures.value) in
    let k = value c.term-c.result.0 in
    let m : Monomial = c.in_ok-to_mono.field-0 in
    front_pushed value c.loop-place.terms.items c.push.new.self.items (c.term-c.result.0, m) c.in_ok-push.ensures.items
    ∙ ap (λ (ts : Terms). ts ++ (k, m) ∷ []) c.loop-place.invariant
    ∙ ap (λ (t : ℕ × Monomial). take place poly ++ t ∷ []) (ap₂ (λ (a : ℕ) (n : Monomial). (a, n)) c.term-c.ensures.coefficient (c.in_ok-to_mono.ensures.value ∙ c.term-c.ensures.monomial))
    ∙ sym (taken_more poly place (get_or poly place (0, [])) within (any_default poly place (0, []) (get_or poly place (0, [])) within))
