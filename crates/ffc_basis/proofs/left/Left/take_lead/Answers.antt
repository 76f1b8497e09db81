use Rattle.std.proofs.Common.{List, IfOk, IfSome, IsNone, MatchOption, ◌↔◌, [], ◌∷◌, ap}
use Rattle.ffc_ring.specs.Polynomial.{Terms, SamePolynomial}
use Rattle.ffc_mono.specs.Leading.{IsLeading}
use Rattle.ffc_dense.specs.Tables.{Multiple}
use Rattle.ffc_basis.proofs.KeptLemmas.{in_table, in_sum}
use Rattle.ffc_basis.proofs.left.Left.take_lead.Goals as goal

pub returns-then-self-clause-zero : goal.returns-then-self-clause-zero
returns-then-self-clause-zero g c =
    let i = c.self.inside in
    in_table (λ new old. IfOk c.take_lead.result (λ o. IsNone o ↔ SamePolynomial g.F.Field.ORDER old [])) i.is_in_table i.table.0 c.take_lead.new.self.0 i.sum c.args.self.now.0 c.if-self.true (ap (λ (v : Terms × List Multiple). v.0) c.self.view_is) c.take_lead.ensures.zero

pub returns-else-self-clause-zero : goal.returns-else-self-clause-zero
returns-else-self-clause-zero g c =
    let i = c.self.inside in
    in_sum (λ new old. IfOk c.take_lead-else-self.result (λ o. IsNone o ↔ SamePolynomial g.F.Field.ORDER old [])) i.is_in_table i.table.0 i.sum c.take_lead-else-self.new.self c.args.self.now.0 c.if-self.false (ap (λ (v : Terms × List Multiple). v.0) c.self.view_is) c.take_lead-else-self.ensures.zero

pub returns-then-self-clause-leading : goal.returns-then-self-clause-leading
returns-then-self-clause-leading g c =
    let i = c.self.inside in
    in_table (λ new old. IfOk c.take_lead.result (λ o. IfSome o (λ t. IsLeading g.F.Field.ORDER g.O.MonoOrder.cmp old (g.F.Field.value t.0) t.1))) i.is_in_table i.table.0 c.take_lead.new.self.0 i.sum c.args.self.now.0 c.if-self.true (ap (λ (v : Terms × List Multiple). v.0) c.self.view_is) c.take_lead.ensures.leading

pub returns-else-self-clause-leading : goal.returns-else-self-clause-leading
returns-else-self-clause-leading g c =
    let i = c.self.inside in
    in_sum (λ new old. IfOk c.take_lead-else-self.result (λ o. IfSome o (λ t. IsLeading g.F.Field.ORDER g.O.MonoOrder.cmp old (g.F.Field.value t.0) t.1))) i.is_in_table i.table.0 i.sum c.take_lead-else-self.new.self c.args.self.now.0 c.if-self.false (ap (λ (v : Terms × List Multiple). v.0) c.self.view_is) c.take_lead-else-self.ensures.leading

pub returns-then-self-clause-rest : goal.returns-then-self-clause-rest
returns-then-self-clause-rest g c =
    let i = c.self.inside in
    in_table (λ new old. IfOk c.take_lead.result (λ o. MatchOption o (SamePolynomial g.F.Field.ORDER new []) (λ t. SamePolynomial g.F.Field.ORDER old ((g.F.Field.value t.0, t.1) ∷ new)))) i.is_in_table i.table.0 c.take_lead.new.self.0 i.sum c.args.self.now.0 c.if-self.true (ap (λ (v : Terms × List Multiple). v.0) c.self.view_is) c.take_lead.ensures.rest

pub returns-else-self-clause-rest : goal.returns-else-self-clause-rest
returns-else-self-clause-rest g c =
    let i = c.self.inside in
    in_sum (λ new old. IfOk c.take_lead-else-self.result (λ o. MatchOption o (SamePolynomial g.F.Field.ORDER new []) (λ t. SamePolynomial g.F.Field.ORDER old ((g.F.Field.value t.0, t.1) ∷ new)))) i.is_in_table i.table.0 i.sum c.take_lead-else-self.new.self c.args.self.now.0 c.if-self.false (ap (λ (v : Terms × List Multiple). v.0) c.self.view_is) c.take_lead-else-self.ensures.rest
