use Rattle.std.proofs.Common.{All, Contains, IsTrue, sym, subst, rules}
use Rattle.ffc_term.proofs.RootLemmas.{roots_among}
use Rattle.rows_checker.proofs.queries.are_true.Goals as goal

pub nodes_of-requires : goal.nodes_of-requires
nodes_of-requires c =
    let holds : IsTrue c.are_boolean.result = search rules in
    λ k d inside. (c.are_boolean.ensures holds k d inside).0

pub are_true-requires-clause-among : goal.are_true-requires-clause-among
are_true-requires-clause-among c =
    let nodes = c.in_ok-nodes.nodes.items in
    subst (λ xs. All (Contains xs) c.deref-2.result.now) (sym c.deref.ensures.value)
    (subst (λ xs. All (Contains nodes) xs) (sym c.deref-2.ensures.value)
    (roots_among c.args.table.now c.args.ids.now nodes c.in_ok-roots.roots.items c.in_ok-nodes.ensures.nodes c.in_ok-roots.ensures.same))
