use Rattle.ffc_terms.proofs.IndexLemmas.{indexed_after}
use Rattle.ffc_terms.proofs.environment.set.Goals as goal

pub returns-clause-ok : goal.returns-clause-ok
returns-clause-ok c = indexed_after c.args.name.items c.args.index.now c.insert.new.self _ c.in_ok-insert.ensures.updates
