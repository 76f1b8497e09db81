use Rattle.std.proofs.Common.{◌≡◌, ◌++◌, map, length, sym, ap, ap₂, ◌∙◌, arith, length-append}
use Rattle.std.specs.Prelude.{slice_range}
use Rattle.ffc_field.specs.Modular.{mul_mod}
use Rattle.ffc_poly.specs.Ordered.{zipped, values_of, multiplied}
use Rattle.ffc_poly.proofs.TermLemmas.{length-zipped, length-more, length-multiples, length-range, zipped-multiples, zipped-range}
use Rattle.ffc_poly.proofs.terms.TermList.extend_multiple.Goals as goal

pub part-coefficients-requires-clause-within : goal.part-coefficients-requires-clause-within
part-coefficients-requires-clause-within g c =
    omega (
      arith,
      length-zipped g.F.Field.value c.other.inside.coefficients.items c.other.inside.monomials c.other.invariant,
      ap length c.other.view_is,
      c.requires.within,
      c.other.invariant,
      ap length c.as_slice.ensures.value,
    )

pub extend_from-requires-clause-within : goal.extend_from-requires-clause-within
extend_from-requires-clause-within g c =
    omega (
      arith,
      length-zipped g.F.Field.value c.other.inside.coefficients.items c.other.inside.monomials c.other.invariant,
      ap length c.other.view_is,
      c.requires.within,
    )

pub invariant_of-self-2 : goal.invariant_of-self-2
invariant_of-self-2 g c =
    let value = g.F.Field.value in
    let p = g.F.Field.ORDER in
    let k = value c.args.c in
    let cs = c.self.inside.coefficients.items in
    let ds = c.part-coefficients.result.now in
    let ns = c.other.inside.monomials in
    let out = c.append_multiples.ensures ∙ ap (λ x. values_of value x ++ map (mul_mod p k) (values_of value ds)) c.in_ok-reserve.ensures.items in
    omega (
      arith,
      length-more value c.append_multiples.new.out.items cs (map (mul_mod p k) (values_of value ds)) out,
      length-multiples value p k ds,
      c.self.invariant,
      ap length c.in_ok-extend_from.ensures.appended,
      length-append c.self.inside.monomials (slice_range ns c.args.from c.args.to),
      ap length c.part-coefficients.ensures,
      ap length c.as_slice.ensures.value,
      length-range c.as_slice.result.now c.args.from c.args.to,
      length-range ns c.args.from c.args.to,
      c.other.invariant,
    )

pub returns : goal.returns
returns g c =
    let value = g.F.Field.value in
    let p = g.F.Field.ORDER in
    let k = value c.args.c in
    let cs = c.self.inside.coefficients.items in
    let ms = c.self.inside.monomials in
    let ds = c.other.inside.coefficients.items in
    let ns = c.other.inside.monomials in
    let from = c.args.from in
    let to = c.args.to in
    let part : c.part-coefficients.result.now ≡ slice_range ds from to = c.part-coefficients.ensures ∙ ap (λ k. slice_range k from to) c.as_slice.ensures.value in
    let out = c.append_multiples.ensures ∙ ap₂ (λ x y. values_of value x ++ map (mul_mod p k) (values_of value y)) c.in_ok-reserve.ensures.items part in
    ap (zipped value c.append_multiples.new.out.items) c.in_ok-extend_from.ensures.appended
    ∙ zipped-multiples value p k c.append_multiples.new.out.items cs (slice_range ds from to) ms (slice_range ns from to) c.self.invariant out
    ∙ ap₂ (λ x y. x ++ multiplied p k y) c.self.view_is (sym (zipped-range value from to ds ns) ∙ ap (λ k. slice_range k from to) c.other.view_is)
