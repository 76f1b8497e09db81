use Rattle.std.proofs.Common.{◌≡◌, ◌-◌, ◌∷◌, ◌++◌, [], true, drop, sym, ap, ◌∙◌, subst}
use Rattle.std.specs.List.{slice_get}
use Rattle.ffc_trees.specs.BitLines.{is_linear, variables_of}
use Rattle.ffc_ckpoly.specs.Sorted.{residues, IsSorted, word_order}
use Rattle.ffc_ckpoly.proofs.Lists.{left_before, sorted_drop}
use Rattle.ffc_cktree.proofs.BitLemmas.{next_from, linear_drop}
use Rattle.ffc_cktree.proofs.bits.variables_of.Goals as goal

pub loop-place-preserved-in-Continue-1 : goal.loop-place-preserved-in-Continue-1
loop-place-preserved-in-Continue-1 g c =
    let value = g.F.Field.value in
    let p = g.F.Field.ORDER in
    let terms = c.args.terms.now in
    let place = c.loop-place.place in
    let t = c.index-terms-place.result in
    let left = left_before terms place t c.loop-place-test.true c.loop-place.auto.place c.index-terms-place.is in
    let sorted : IsSorted p (residues value (t ∷ drop place terms)) =
    subst (λ ts. IsSorted p (residues value ts)) left (sorted_drop value p word_order (place - 1) terms c.requires.sorted) in
    let linear : is_linear (residues value (t ∷ drop place terms)) ≡ true =
    ap (λ ts. is_linear (residues value ts)) (sym left) ∙ linear_drop value (place - 1) terms c.requires.linear in
    c.in_ok-push.ensures.items
    ∙ ap (λ xs. xs ++ c.in-Some.power.now.0 ∷ []) c.loop-place.invariant
    ∙ sym (next_from p (value t.0) t.1.now c.in-Some.power.now (residues value (drop place terms)) (c.in-Some.ensures.value ∙ ap (λ u. slice_get u.1.now 0) (sym c.index-terms-place.is)) sorted linear)
    ∙ ap (λ ts. variables_of (residues value ts)) (sym left)
