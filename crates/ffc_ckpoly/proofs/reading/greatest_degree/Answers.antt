use Rattle.std.proofs.Common.{◌+◌, ◌∷◌, max, drop, sym, ap, ap₂, ◌∙◌, subst}
use Rattle.ffc_ring.specs.Monomial.{degree}
use Rattle.ffc_ckpoly.specs.Flat.{cut, Parts, HaveMonomials}
use Rattle.ffc_ckpoly.proofs.Lists.{left_at}
use Rattle.ffc_ckpoly.proofs.SortedLemmas.{degree_from, max_turned}
use Rattle.ffc_ckpoly.proofs.reading.greatest_degree.Goals as goal

pub loop-mark-preserved : goal.loop-mark-preserved
loop-mark-preserved g c =
    let value = g.F.Field.value in
    let item = c.mark-item.result in
    let i = c.loop-mark.invariant in
    let start = c.loop-mark.start in
    let rest = c.loop-mark.rest.now in
    let more = drop (c.loop-mark.mark-index + 1) c.args.marks.now in
    let left = left_at c.args.marks.now c.loop-mark.mark-index item c.loop-mark-test.true c.mark-item.is in
    let parts : Parts start (item ∷ more) rest = subst (λ k. Parts start k rest) left i.parts in
    let monomials : HaveMonomials (cut value start (item ∷ more) rest) = subst (λ k. HaveMonomials (cut value start k rest)) left i.monomials in
    record {
      parts = subst (Parts item.1 more) (sym c.split_at.ensures.back) parts.2;
      monomials = subst (λ k. HaveMonomials (cut value item.1 more k)) (sym c.split_at.ensures.back) monomials.2;
      so_far =
          ap₂ (λ s k. degree_from s (cut value item.1 more k))
          (c.max-greatest.ensures ∙ max_turned c.degree.result c.loop-mark.greatest ∙ ap (max c.loop-mark.greatest) (c.degree.ensures ∙ ap degree c.split_at.ensures.front)) c.split_at.ensures.back
          ∙ ap (λ k. degree_from c.loop-mark.greatest (cut value start k rest)) (sym left) ∙ i.so_far;
    }
