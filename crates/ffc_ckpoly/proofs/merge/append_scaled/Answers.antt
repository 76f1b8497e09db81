use Rattle.std.proofs.Common.{◌++◌, sym, ap, ◌∙◌, refl}
use Rattle.ffc_field.specs.Modular.{mul_mod}
use Rattle.ffc_ckpoly.specs.Sorted.{residues, multiplied}
use Rattle.ffc_ckpoly.proofs.Lists.{pushed, left_at, residues-push}
use Rattle.ffc_ckpoly.proofs.merge.append_scaled.Goals as goal

pub loop-term-preserved : goal.loop-term-preserved
loop-term-preserved g c =
    let value = g.F.Field.value in
    let p = g.F.Field.ORDER in
    let item = c.term-item.result in
    let left = left_at c.args.terms.now c.loop-term.term-index item c.loop-term-test.true c.term-item.is in
    pushed _ _ _ _ _
    (residues-push value _ _ c.mul.result item.1 (mul_mod p (value c.args.c) (value item.0)) item.1.now c.in_ok-push.ensures.items c.mul.ensures refl)
    (ap (λ k. residues value c.loop-term.out.items ++ multiplied p (value c.args.c) (residues value k)) (sym left) ∙ c.loop-term.invariant)
