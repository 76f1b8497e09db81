use Rattle.std.proofs.Common.{◌≡◌, ◌≢◌, ◌+◌, ◌<◌, take, ◌++◌, ◌∷◌, [], length, vec_len, sym, ap, ◌∙◌, subst, arith}
use Rattle.std.proofs.lemmas.Bool.{eqb-true, eqb-false}
use Rattle.ffc_trees.specs.Same.{AreSameLines}
use Rattle.ffc_stack.specs.Stacks.{generators}
use Rattle.ffc_cktree.specs.Lines.{AreLines}
use Rattle.ffc_cktree.proofs.WalkLemmas.{lines_push}
use Rattle.ffc_search.proofs.TreeLemmas.{lines_more, lines_kept}
use Rattle.ffc_search.proofs.accepting.first_lines.Goals.{then-is_empty+in_ok-first_line+in_ok-push, else-is_empty}
use Rattle.ffc_search.proofs.accepting.first_lines.Goals as goal

pub loop-line-preserved : goal.loop-line-preserved
loop-line-preserved g c =
    let p = g.F.Field.ORDER in
    let i = c.loop-line.line-index in
    let l = c.line-item.result in
    let old = c.loop-line.first.items in
    let inv = c.loop-line.invariant in
    let lines = c.args.lines.now in
    elim c.if-is_empty.branch [
      | then-is_empty+in_ok-first_line+in_ok-push w ↦
          let r = w.in_ok-first_line.field-0 in
          let empty : vec_len l.parts ≡ 0 = eqb-true (vec_len l.parts) 0 (sym c.is_empty.ensures ∙ w.if-is_empty.true) in
          let none : length l.parts.items ≡ 0 = omega (arith, empty, l.parts.ok.0) in
          let items : c.if-is_empty.first.items ≡ old ++ r ∷ [] = ap (λ v. v.items) w.first-is ∙ w.in_ok-push.ensures.items in
          record {
            same = subst (λ k. AreSameLines p k (generators (take (i + 1) lines))) (sym items) (lines_more p lines i l c.loop-line-test.true c.line-item.is old inv.same r none w.in_ok-first_line.ensures.same);
            low = subst (AreLines p) (sym items) (lines_push p old r inv.low w.in_ok-first_line.ensures.same.one w.in_ok-first_line.ensures.low);
          }
      | else-is_empty w ↦
          let full : vec_len l.parts ≢ 0 = eqb-false (vec_len l.parts) 0 (sym c.is_empty.ensures ∙ w.if-is_empty.false) in
          let some : 0 < length l.parts.items = omega (arith, full, l.parts.ok.0) in
          let items : c.if-is_empty.first.items ≡ old = ap (λ v. v.items) w.first-is in
          record {
            same = subst (λ k. AreSameLines p k (generators (take (i + 1) lines))) (sym items) (lines_kept p lines i l c.loop-line-test.true c.line-item.is old inv.same some);
            low = subst (AreLines p) (sym items) inv.low;
          }
    ]
