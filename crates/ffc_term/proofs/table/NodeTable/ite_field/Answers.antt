use Rattle.ffc_term.proofs.IteLemmas.{HasEqualities-ite_result}
use Rattle.ffc_term.proofs.table.NodeTable.ite_field.Goals as goal

pub invariant_of-self : goal.invariant_of-self
invariant_of-self c =
    HasEqualities-ite_result c.put_ite.result c.self.inside.store c.put_ite.new.self c.args.c c.args.a c.args.b c.self.invariant c.put_ite.ensures.ok c.put_ite.ensures.err
