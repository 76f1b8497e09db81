use Rattle.std.proofs.Common.{◌≡◌, ◌++◌, ◌∷◌, [], get_or, not, ap, ◌∙◌, arith, rules}
use Rattle.std.proofs.lemmas.Grind.{common_steps}
use Rattle.ffc_encode.specs.Clauses.{clause_of}
use Rattle.ffc_encode.proofs.ListingLemmas.{children_more}
use Rattle.ffc_encode.proofs.WaitingLemmas.{get_or-any}
use Rattle.ffc_encode.proofs.clauses.push_children.Goals as goal

pub loop-index-preserved : goal.loop-index-preserved
loop-index-preserved c =
    let v = c.args.node in
    let all = c.args.all in
    let ids = c.args.ids.now in
    let i = c.loop-index.index in
    let id = get_or ids i 0 in
    let now = c.loop-index.clauses.items in
    let same : c.in-Ok.index ≡ i = first_of (search rules, grind (arith, common_steps)) in
    children_more v i all ids id c.args.clauses.now.items now c.push_clause.new.clauses.items c.loop-index-test.true (get_or-any ids i 0 id c.loop-index-test.true) c.loop-index.invariant
    (c.in_ok-push_clause.ensures ∙ ap (λ k. now ++ clause_of v 0 k ((not all, v) ∷ (all, id) ∷ []) ∷ []) same)
