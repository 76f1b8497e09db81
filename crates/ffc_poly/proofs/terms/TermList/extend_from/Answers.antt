use Rattle.std.proofs.Common.{◌≡◌, ◌++◌, length, sym, ap, ap₂, ◌∙◌, arith}
use Rattle.std.specs.Prelude.{slice_range}
use Rattle.ffc_poly.specs.Ordered.{zipped}
use Rattle.ffc_poly.proofs.TermLemmas.{length-zipped, zipped-append, zipped-range}
use Rattle.ffc_poly.proofs.terms.TermList.extend_from.Goals as goal

pub part-coefficients-requires-clause-within : goal.part-coefficients-requires-clause-within
part-coefficients-requires-clause-within g c =
    omega (
      arith,
      length-zipped g.F.Field.value c.other.inside.coefficients.items c.other.inside.monomials c.other.invariant,
      ap length c.other.view_is,
      c.requires.within,
      c.other.invariant,
      ap length c.as_slice.ensures.value,
    )

pub extend_from-requires-clause-within : goal.extend_from-requires-clause-within
extend_from-requires-clause-within g c =
    omega (
      arith,
      length-zipped g.F.Field.value c.other.inside.coefficients.items c.other.inside.monomials c.other.invariant,
      ap length c.other.view_is,
      c.requires.within,
    )

pub returns : goal.returns
returns g c =
    let value = g.F.Field.value in
    let cs = c.self.inside.coefficients.items in
    let ms = c.self.inside.monomials in
    let ds = c.other.inside.coefficients.items in
    let ns = c.other.inside.monomials in
    let from = c.args.from in
    let to = c.args.to in
    let part : c.part-coefficients.result.now ≡ slice_range ds from to = c.part-coefficients.ensures ∙ ap (λ k. slice_range k from to) c.as_slice.ensures.value in
    ap₂ (zipped value)
    (c.in_ok-extend_from_slice.ensures.items ∙ ap₂ (λ x y. x ++ y) c.in_ok-reserve.ensures.items part)
    c.in_ok-extend_from.ensures.appended
    ∙ zipped-append value cs (slice_range ds from to) ms (slice_range ns from to) c.self.invariant
    ∙ ap₂ (λ x y. x ++ y) c.self.view_is (sym (zipped-range value from to ds ns) ∙ ap (λ k. slice_range k from to) c.other.view_is)
