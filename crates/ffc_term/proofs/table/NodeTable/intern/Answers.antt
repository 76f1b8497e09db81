use Rattle.ffc_term.proofs.TableLemmas.{HasEqualities-result}
use Rattle.ffc_term.proofs.table.NodeTable.intern.Goals as goal

pub invariant_of-self : goal.invariant_of-self
invariant_of-self c =
    HasEqualities-result c.put.result c.self.inside.store c.put.new.self c.args.node c.self.invariant c.requires.plain c.put.ensures.ok c.put.ensures.err
