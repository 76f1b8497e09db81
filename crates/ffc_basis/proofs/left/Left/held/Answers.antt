use Rattle.std.proofs.Common.{List, IfOk, IfSome, ap}
use Rattle.ffc_ring.specs.Polynomial.{Terms}
use Rattle.ffc_dense.specs.Tables.{AreMultiplesOf, LeadsMultiple, Multiple}
use Rattle.ffc_basis.proofs.KeptLemmas.{multiple_in_table}
use Rattle.ffc_basis.proofs.left.Left.held.Goals as goal

pub returns-then-self-clause-held : goal.returns-then-self-clause-held
returns-then-self-clause-held g c =
    let i = c.self.inside in
    multiple_in_table
    (λ ts ks. IfOk c.held.result (λ o. IfSome o (λ t. (gs : List Terms) → AreMultiplesOf g.F.Field.ORDER gs ks → LeadsMultiple g.F.Field.ORDER g.O.MonoOrder.cmp gs ts t.0 (g.F.Field.value t.1) t.2)))
    i.is_in_table i.table.0 i.sum i.table.1 c.args.self.now.0 c.args.self.now.1 c.if-self.true (ap (λ (v : Terms × List Multiple). v.0) c.self.view_is) (ap (λ (v : Terms × List Multiple). v.1) c.self.view_is) c.held.ensures.held
