use Rattle.std.proofs.Common.{◌≡◌, All, sym, ap, ◌∙◌, subst, take_all}
use Rattle.ffc_encode.specs.Clauses.{node_clauses, IsTrueAlways}
use Rattle.ffc_encode.proofs.ListingLemmas.{clauses_true}
use Rattle.ffc_encode.proofs.clauses.clauses_of.Goals as goal

pub returns-clause-always : goal.returns-clause-always
returns-clause-always c =
    let table = c.args.table.now in
    let nodes = c.args.nodes.now in
    let listed : c.loop-id.clauses.items ≡ node_clauses table nodes = c.loop-id.invariant ∙ ap (node_clauses table) (take_all c.loop-id.id-index nodes c.loop-id-test.false) in
    subst (All (IsTrueAlways table)) (sym listed) (clauses_true table nodes c.len-nodes.ensures.valid)
