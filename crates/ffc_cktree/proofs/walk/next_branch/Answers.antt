use Rattle.std.proofs.Common.{◌≡◌, ◌<◌, ◌≤◌, ◌∷◌, ◌++◌, [], length, reverse, take, sym, ap, ◌∙◌, subst, arith, length-append, length-take}
use Rattle.std.proofs.lemmas.List.Elements.{All-take}
use Rattle.ffc_ring.specs.Polynomial.{Terms}
use Rattle.ffc_trees.specs.Normal.{IsNormal, degree_of}
use Rattle.ffc_trees.specs.TreeLines.{root_line}
use Rattle.ffc_trees.specs.Same.{AreSameLines, AreSameCases}
use Rattle.ffc_cktree.specs.Lines.{AreLines}
use Rattle.ffc_cktree.specs.Waiting.{branches_of, AreStacked}
use Rattle.ffc_cktree.proofs.WalkLemmas.{first_case, lines_push, stacked_more, branches_cut, branches_alike, push_alike}
use Rattle.ffc_cktree.proofs.walk.next_branch.Goals as goal

pub root_line-requires : goal.root_line-requires
root_line-requires g c =
    let p = g.F.Field.ORDER in
    let first = first_case c.args.waiting.items c.pop.new.self.items c.pop.result c.in-Some.case c.in-Some.is c.pop.ensures.items in
    let stacked : AreStacked p (length c.args.lines.items) (c.in-Some.case ∷ reverse c.pop.new.self.items) = subst (AreStacked p (length c.args.lines.items)) first c.requires.stacked in
    stacked.1

pub invariant_of-result-2 : goal.invariant_of-result-2
invariant_of-result-2 g c =
    let p = g.F.Field.ORDER in
    let lines = c.args.lines.items in
    let case = c.in-Some.case in
    let rest = reverse c.pop.new.self.items in
    let line = c.in_ok-root_line.field-0 in
    let first = first_case c.args.waiting.items c.pop.new.self.items c.pop.result case c.in-Some.is c.pop.ensures.items in
    let stacked : AreStacked p (length lines) (case ∷ rest) = subst (AreStacked p (length lines)) first c.requires.stacked in
    let items : c.push.new.self.items ≡ take case.mark lines ++ line ∷ [] = c.in_ok-push.ensures.items ∙ ap (λ l. l ++ line ∷ []) c.truncate.ensures.items in (
      subst (AreLines p) (sym items) (lines_push p (take case.mark lines) line (All-take (λ (f : Terms). IsNormal p f × (degree_of f ≤ 1024)) case.mark lines c.requires.lines) c.in_ok-root_line.ensures.same.one c.in_ok-root_line.ensures.low),
      stacked_more p case.mark (length c.push.new.self.items) rest (omega (arith, ap length items, length-append (take case.mark lines) (line ∷ []), length-take case.mark lines, stacked.0)) stacked.2,
      tt,
    )

pub returns : goal.returns
returns g c =
    let p = g.F.Field.ORDER in
    let some : 0 < p = omega (arith, g.met.F.Field.prime.least) in
    let lines = c.args.lines.items in
    let case = c.in-Some.case in
    let rest = reverse c.pop.new.self.items in
    let line = c.in_ok-root_line.field-0 in
    let first = first_case c.args.waiting.items c.pop.new.self.items c.pop.result case c.in-Some.is c.pop.ensures.items in
    let stacked : AreStacked p (length lines) (case ∷ rest) = subst (AreStacked p (length lines)) first c.requires.stacked in
    let items : c.push.new.self.items ≡ take case.mark lines ++ line ∷ [] = c.in_ok-push.ensures.items ∙ ap (λ l. l ++ line ∷ []) c.truncate.ensures.items in
    let same : AreSameLines p (take case.mark lines ++ line ∷ []) (take case.mark lines ++ root_line p case.variable case.root ∷ []) =
    push_alike p (take case.mark lines) line (root_line p case.variable case.root) (All-take (λ (f : Terms). IsNormal p f × (degree_of f ≤ 1024)) case.mark lines c.requires.lines) c.in_ok-root_line.ensures.same in
    subst (λ ls. AreSameCases p (ls ∷ branches_of p ls rest) (branches_of p lines (reverse c.args.waiting.items))) (sym items)
    (subst (λ cs. AreSameCases p ((take case.mark lines ++ line ∷ []) ∷ branches_of p (take case.mark lines ++ line ∷ []) rest) (branches_of p lines cs)) (sym first)
    (same, subst (λ bs. AreSameCases p bs (branches_of p lines rest)) (sym (branches_cut p case.mark lines line rest stacked.0 stacked.2)) (branches_alike p lines rest some c.requires.lines)))
