use Rattle.std.proofs.Common.{◌≡◌, [], ◌∷◌, ◌++◌, All, length, map, reverse, sym, ap, ◌∙◌, subst, arith, length-append}
use Rattle.std.proofs.lemmas.List.{length-reverse, reverse-reverse}
use Rattle.ffc_refutation.specs.Written.{multiple_of, sums_tree, IsNumbered}
use Rattle.ffc_refutation.proofs.Steps.{popped, numbered_popped}
use Rattle.ffc_refutation.proofs.combination.with_tree.Goals as goal

pub loop-summand-init : goal.loop-summand-init
loop-summand-init c =
    let ss = c.args.summands.items in
    let e : reverse c.reverse.new.self.items ≡ ss = ap reverse c.reverse.ensures.items ∙ reverse-reverse ss in
    record {
      tree = ap (λ xs. c.args.lines.items ++ sums_tree c.args.first c.new.result.items (map multiple_of xs)) e ∙ ap (λ ps. c.args.lines.items ++ sums_tree c.args.first ps (map multiple_of ss)) c.new.ensures.items;
      numbered = λ all. subst (All IsNumbered) e all;
      room = omega (arith, ap length c.reverse.ensures.items, length-reverse ss);
    }

pub loop-summand-preserved : goal.loop-summand-preserved
loop-summand-preserved c =
    let s = c.in-Some.summand in
    let left = c.pop.new.self.items in
    let old = c.loop-summand.sums in
    let e : c.loop-summand.left.items ≡ left ++ s ∷ [] = c.in-Some.ensures.items in
    let i = c.loop-summand.invariant in
    record {
      tree =
          c.in_ok-add.ensures.tree (map multiple_of (reverse left))
          ∙ ap (λ m. old.lines.items ++ sums_tree old.next old.pending.items (m ∷ map multiple_of (reverse left))) c.in_ok-multiple_of.ensures.multiple
          ∙ ap (λ xs. old.lines.items ++ sums_tree old.next old.pending.items (map multiple_of xs)) (sym (popped c.loop-summand.left.items left s e))
          ∙ i.tree;
      numbered = numbered_popped c.loop-summand.left.items left s c.args.summands.items e c.in_ok-multiple_of.ensures.numbered i.numbered;
      room = omega (arith, c.in_ok-add.ensures.next, ap length e, length-append left (s ∷ []), i.room);
    }
