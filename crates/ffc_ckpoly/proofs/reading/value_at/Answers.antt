use Rattle.std.proofs.Common.{◌+◌, ◌-◌, ◌%◌, ◌∷◌, drop, take, sym, ap, ◌∙◌, subst}
use Rattle.ffc_ring.specs.Monomial.{mono_value}
use Rattle.ffc_ring.specs.Polynomial.{value_sum}
use Rattle.ffc_ckpoly.specs.Flat.{cut, Parts}
use Rattle.ffc_ckpoly.specs.Sorted.{point_of}
use Rattle.ffc_ckpoly.proofs.Lists.{left_at}
use Rattle.ffc_ring.proofs.ValueLemmas.{term_taken}
use Rattle.ffc_ckpoly.proofs.reading.value_at.Goals as goal

pub loop-mark-preserved : goal.loop-mark-preserved
loop-mark-preserved g c =
    let value = g.F.Field.value in
    let p = g.F.Field.ORDER in
    let point = point_of value c.args.at.now in
    let item = c.mark-item.result in
    let i = c.loop-mark.invariant in
    let start = c.loop-mark.start in
    let rest = c.loop-mark.rest.now in
    let sum = value c.loop-mark.sum in
    let more = drop (c.loop-mark.mark-index + 1) c.args.marks.now in
    let left = left_at c.args.marks.now c.loop-mark.mark-index item c.loop-mark-test.true c.mark-item.is in
    let parts : Parts start (item ∷ more) rest = subst (λ k. Parts start k rest) left i.parts in
    record {
      parts = subst (Parts item.1 more) (sym c.split_at.ensures.back) parts.2;
      so_far =
          term_taken p point sum (value c.add-sum.result) (value c.monomial_value.result) (value c.mul.result) (value item.0, take (item.1 - start) rest) (cut value item.1 more c.split_at.result.1.now)
          (c.monomial_value.ensures ∙ ap (λ k. mono_value point k % p) c.split_at.ensures.front) c.mul.ensures c.add-sum.ensures
          ∙ ap (λ k. (sum + value_sum point ((value item.0, take (item.1 - start) rest) ∷ cut value item.1 more k)) % p) c.split_at.ensures.back
          ∙ ap (λ k. (sum + value_sum point (cut value start k rest)) % p) (sym left) ∙ i.so_far;
    }
