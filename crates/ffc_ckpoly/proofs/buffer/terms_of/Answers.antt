use Rattle.std.proofs.Common.{◌+◌, ◌-◌, ◌++◌, ◌∷◌, drop, take, refl, sym, ap, ◌∙◌, subst}
use Rattle.ffc_ckpoly.specs.Flat.{cut, Parts}
use Rattle.ffc_ckpoly.specs.Sorted.{residues}
use Rattle.ffc_ckpoly.proofs.Lists.{pushed, left_at, residues-push}
use Rattle.ffc_ckpoly.proofs.buffer.terms_of.Goals as goal

pub loop-mark-preserved : goal.loop-mark-preserved
loop-mark-preserved g c =
    let value = g.F.Field.value in
    let item = c.mark-item.result in
    let i = c.loop-mark.invariant in
    let start = c.loop-mark.start in
    let rest = c.loop-mark.rest.now in
    let more = drop (c.loop-mark.mark-index + 1) c.args.marks.now in
    let left = left_at c.args.marks.now c.loop-mark.mark-index item c.loop-mark-test.true c.mark-item.is in
    let parts : Parts start (item ∷ more) rest = subst (λ k. Parts start k rest) left i.parts in
    record {
      parts = subst (Parts item.1 more) (sym c.split_at.ensures.back) parts.2;
      so_far = pushed _ _ _ _ _
          (residues-push value _ _ item.0 c.split_at.result.0 (value item.0) (take (item.1 - start) rest) c.in_ok-push.ensures.items refl c.split_at.ensures.front)
          (ap (λ k. residues value c.loop-mark.out.items ++ ((value item.0, take (item.1 - start) rest) ∷ cut value item.1 more k)) c.split_at.ensures.back
          ∙ ap (λ k. residues value c.loop-mark.out.items ++ cut value start k rest) (sym left) ∙ i.so_far);
    }
