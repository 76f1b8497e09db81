use Rattle.std.proofs.Common.{◌≡◌, ◌+◌, ◌∷◌, ◌++◌, [], false, List, length, get_or, take, subst, sym, ap, ◌∙◌, arith, length-take}
use Rattle.ffc_uni.proofs.Rows.{taken_at}
use Rattle.ffc_term.specs.declared.node.Node.{Node}
use Rattle.ffc_trees.specs.FirstLines.{Literal, first_line, first_lines_from}
use Rattle.ffc_trees.specs.Laws.{IsOnEquality}
use Rattle.ffc_trees.specs.Same.{IsSameLine, AreSameLines}
use Rattle.ffc_cktree.specs.Lines.{AreLines}
use Rattle.ffc_cktree.proofs.SumLemmas.{get_or-any}
use Rattle.ffc_cktree.proofs.WalkLemmas.{lines_push}
use Rattle.ffc_cktree.proofs.FirstLemmas.{first_lines-push, same_push}
use Rattle.ffc_cktree.proofs.lemma.first_lines.Goals as goal

pub first_line-requires-clause-equality : goal.first_line-requires-clause-equality
first_line-requires-clause-equality g c =
    let lits = c.args.lits.now in
    let i = c.loop-lit.lit-index in
    let none : Literal = (false, 0) in
    subst (λ (ns : List Node). IsOnEquality ns g.F.Field.ORDER (get_or lits i none)) (sym c.loop-lit.invariant.nodes) (c.requires.equalities i none c.loop-lit-test.true)

pub loop-lit-preserved : goal.loop-lit-preserved
loop-lit-preserved g c =
    let p = g.F.Field.ORDER in
    let ns = c.args.polys.now in
    let lits = c.args.lits.now in
    let i = c.loop-lit.lit-index in
    let none : Literal = (false, 0) in
    let lit : Literal = get_or lits i none in
    let inv = c.loop-lit.invariant in
    let old = c.loop-lit.lines.items in
    let line = c.in_ok-first_line.field-0 in
    let before = first_lines_from p ns (length ns) (take i lits) in
    let taken : take (i + 1) lits ≡ take i lits ++ lit ∷ [] = taken_at lits i lit c.loop-lit-test.true (get_or-any lits i none lit c.loop-lit-test.true) in
    let number : c.loop-lit.w ≡ length ns + length (take i lits) = omega (arith, inv.number, length-take i lits, c.loop-lit-test.true) in
    let same : IsSameLine p line (first_line p ns (length ns + length (take i lits)) lit) =
    subst (λ w. IsSameLine p line (first_line p ns w lit)) number (subst (λ (k : List Node). IsSameLine p line (first_line p k c.loop-lit.w lit)) inv.nodes c.in_ok-first_line.ensures.same) in
    let items = c.in_ok-push.ensures.items in
    record {
      nodes = c.in_ok-first_line.ensures.nodes ∙ inv.nodes;
      number = omega (arith, inv.number);
      same = subst (λ ls. AreSameLines p ls (first_lines_from p ns (length ns) (take (i + 1) lits))) (sym items)
          (subst (λ ls. AreSameLines p (old ++ line ∷ []) ls) (sym (ap (first_lines_from p ns (length ns)) taken ∙ first_lines-push p ns (length ns) (take i lits) lit))
          (same_push p old before line (first_line p ns (length ns + length (take i lits)) lit) inv.same same));
      are = subst (AreLines p) (sym items) (lines_push p old line inv.are same.one c.in_ok-first_line.ensures.small);
    }
