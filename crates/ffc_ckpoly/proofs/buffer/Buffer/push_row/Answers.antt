use Rattle.std.proofs.Common.{ℕ, ◌+◌, ◌-◌, ◌^◌, ◌<◌, ◌++◌, ◌∷◌, [], drop, take, sym, ap, ap₂, ◌∙◌, subst}
use Rattle.ffc_field.specs.Modular.{mul_mod}
use Rattle.ffc_ring.specs.Monomial.{Monomial, IsMonomial, degree, mono_mul}
use Rattle.ffc_ckpoly.specs.Flat.{cut, Parts, RowFits, times}
use Rattle.ffc_ckpoly.proofs.Lists.{pushed, left_at}
use Rattle.ffc_ckpoly.proofs.buffer.Buffer.push_row.Goals as goal

pub push_product-requires-clause-n_is : goal.push_product-requires-clause-n_is
push_product-requires-clause-n_is g c =
    let value = g.F.Field.value in
    let item = c.mark-item.result in
    let start = c.loop-mark.start in
    let rest = c.loop-mark.rest.now in
    let more = drop (c.loop-mark.mark-index + 1) c.args.marks.now in
    let left = left_at c.args.marks.now c.loop-mark.mark-index item c.loop-mark-test.true c.mark-item.is in
    let fits : RowFits c.args.m.now (cut value start (item ∷ more) rest) = subst (λ x. RowFits c.args.m.now (cut value start x rest)) left c.loop-mark.invariant.fits in
    subst IsMonomial (sym c.split_at.ensures.front) fits.0

pub push_product-requires-clause-fits : goal.push_product-requires-clause-fits
push_product-requires-clause-fits g c =
    let value = g.F.Field.value in
    let item = c.mark-item.result in
    let start = c.loop-mark.start in
    let rest = c.loop-mark.rest.now in
    let more = drop (c.loop-mark.mark-index + 1) c.args.marks.now in
    let left = left_at c.args.marks.now c.loop-mark.mark-index item c.loop-mark-test.true c.mark-item.is in
    let fits : RowFits c.args.m.now (cut value start (item ∷ more) rest) = subst (λ x. RowFits c.args.m.now (cut value start x rest)) left c.loop-mark.invariant.fits in
    subst (λ x. degree c.args.m.now + degree x < 2 ^ 64) (sym c.split_at.ensures.front) fits.1

pub loop-mark-preserved : goal.loop-mark-preserved
loop-mark-preserved g c =
    let value = g.F.Field.value in
    let p = g.F.Field.ORDER in
    let k = value c.args.c in
    let m = c.args.m.now in
    let item = c.mark-item.result in
    let i = c.loop-mark.invariant in
    let start = c.loop-mark.start in
    let rest = c.loop-mark.rest.now in
    let out = cut value 0 c.loop-mark.self.marks.items c.loop-mark.self.powers.items in
    let more = drop (c.loop-mark.mark-index + 1) c.args.marks.now in
    let head = take (item.1 - start) rest in
    let left = left_at c.args.marks.now c.loop-mark.mark-index item c.loop-mark-test.true c.mark-item.is in
    let row : Parts start (item ∷ more) rest = subst (λ x. Parts start x rest) left i.row in
    let fits : RowFits m (cut value start (item ∷ more) rest) = subst (λ x. RowFits m (cut value start x rest)) left i.fits in
    record {
      parts = c.in_ok-push_product.ensures.parts;
      row = subst (Parts item.1 more) (sym c.split_at.ensures.back) row.2;
      fits = subst (λ x. RowFits m (cut value item.1 more x)) (sym c.split_at.ensures.back) fits.2;
      so_far = pushed _ _ _ _ _
          (c.in_ok-push_product.ensures.terms ∙ ap₂ (λ (x : ℕ) (y : Monomial). out ++ (x, mono_mul m y) ∷ []) c.mul.ensures c.split_at.ensures.front)
          (ap (λ x. out ++ ((mul_mod p k (value item.0), mono_mul m head) ∷ times p k m (cut value item.1 more x))) c.split_at.ensures.back
          ∙ ap (λ x. out ++ times p k m (cut value start x rest)) (sym left) ∙ i.so_far);
    }
