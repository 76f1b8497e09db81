use Rattle.std.proofs.Common.{◌≡◌, ◌<◌, suc, length, sym, ap, ap₂, ◌∙◌, subst, arith, get_or, []}
use Rattle.std.specs.Prelude.{slice_range}
use Rattle.ffc_ring.specs.Monomial.{IsMonomial, degree}
use Rattle.ffc_mono.specs.Masks.{mask_of}
use Rattle.ffc_mono.specs.Rows.{cut_at, start_at}
use Rattle.ffc_mono.proofs.RowLemmas.{length-cut, part_at, degree_at, mask_at, end_of, starts_rise, start_within, AreMonomials-at}
use Rattle.ffc_mono.proofs.row.MonoRow.get.Goals as goal

pub start_of-start-requires : goal.start_of-start-requires
start_of-start-requires c =
    omega (arith, length-cut 0 c.self.inside.marks.items c.self.inside.powers.items, ap length c.self.view_is, c.requires, ap length c.as_slice.ensures.value)

pub index-mark-requires : goal.index-mark-requires
index-mark-requires c =
    omega (arith, length-cut 0 c.self.inside.marks.items c.self.inside.powers.items, ap length c.self.view_is, c.requires, ap length c.as_slice.ensures.value, c.as_slice.ensures.len)

pub part-requires-clause-ordered : goal.part-requires-clause-ordered
part-requires-clause-ordered c =
    let ks = c.self.inside.marks.items in
    let ps = c.self.inside.powers.items in
    let size = ap length c.self.view_is in
    let within : c.args.i < length ks = omega (arith, length-cut 0 ks ps, size, c.requires) in
    omega (
      arith,
      c.start_of-start.ensures ∙ ap (λ k. start_at k c.args.i) c.as_slice.ensures.value,
      end_of ks c.args.i c.index-mark.result.now within c.index-mark.ensures,
      starts_rise ps ks _ c.self.invariant c.args.i (suc c.args.i) (omega arith) (omega (arith, size, c.requires)),
    )

pub part-requires-clause-within : goal.part-requires-clause-within
part-requires-clause-within c =
    let ks = c.self.inside.marks.items in
    let ps = c.self.inside.powers.items in
    let size = ap length c.self.view_is in
    let within : c.args.i < length ks = omega (arith, length-cut 0 ks ps, size, c.requires) in
    omega (
      arith,
      end_of ks c.args.i c.index-mark.result.now within c.index-mark.ensures,
      start_within ps ks _ c.self.invariant (suc c.args.i) (omega (arith, size, c.requires)),
      ap length c.as_slice-2.ensures.value,
    )

pub invariant_of-result : goal.invariant_of-result
invariant_of-result c =
    let ks = c.self.inside.marks.items in
    let ps = c.self.inside.powers.items in
    let size = ap length c.self.view_is in
    let i = c.args.i in
    let low : i < length (cut_at 0 ks ps) = omega (arith, size, c.requires) in
    let within : i < length ks = omega (arith, length-cut 0 ks ps, low) in
    let start : c.start_of-start.result ≡ start_at ks i = c.start_of-start.ensures ∙ ap (λ k. start_at k i) c.as_slice.ensures.value in
    let end : c.index-mark.result.now.end ≡ start_at ks (suc i) = end_of ks i c.index-mark.result.now within c.index-mark.ensures in
    let is : c.part.result.now ≡ get_or (cut_at 0 ks ps) i [] =
    c.part.ensures ∙ ap (λ v. slice_range v c.start_of-start.result c.index-mark.result.now.end) c.as_slice-2.ensures.value
    ∙ ap₂ (slice_range ps) start end ∙ part_at ps ks _ c.self.invariant i low in
    let good = AreMonomials-at (cut_at 0 ks ps) i c.self.invariant.monomials low in
    let total : c.index-mark.result.now.total_degree ≡ degree c.part.result.now =
    ap (λ k. k.total_degree) c.index-mark.ensures ∙ degree_at ps ks _ c.self.invariant i c.index-mark.result.now low ∙ sym (ap degree is) in
    record {
      is_monomial = subst IsMonomial (sym is) good.0;
      degree_is = total;
      within = omega (arith, total, ap degree is, good.1);
      mask_is = ap (λ k. k.mask) c.index-mark.ensures ∙ mask_at ps ks _ c.self.invariant i c.index-mark.result.now low ∙ sym (ap mask_of is);
    }

pub returns : goal.returns
returns c =
    let ks = c.self.inside.marks.items in
    let ps = c.self.inside.powers.items in
    let size = ap length c.self.view_is in
    let i = c.args.i in
    let low : i < length (cut_at 0 ks ps) = omega (arith, size, c.requires) in
    let within : i < length ks = omega (arith, length-cut 0 ks ps, low) in
    let start : c.start_of-start.result ≡ start_at ks i = c.start_of-start.ensures ∙ ap (λ k. start_at k i) c.as_slice.ensures.value in
    let end : c.index-mark.result.now.end ≡ start_at ks (suc i) = end_of ks i c.index-mark.result.now within c.index-mark.ensures in
    c.part.ensures ∙ ap (λ v. slice_range v c.start_of-start.result c.index-mark.result.now.end) c.as_slice-2.ensures.value
    ∙ ap₂ (slice_range ps) start end ∙ part_at ps ks _ c.self.invariant i low ∙ ap (λ v. get_or v i []) c.self.view_is
