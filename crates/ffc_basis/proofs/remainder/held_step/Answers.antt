use Rattle.std.proofs.Common.{List, get_or, IfSome, subst, arith}
use Rattle.ffc_ring.specs.Polynomial.{Terms}
use Rattle.ffc_line.specs.Lines.{polys_of}
use Rattle.ffc_dense.specs.Tables.{AreMultiplesOf, LeadsMultiple}
use Rattle.ffc_basis.proofs.Lists.{length-polys, poly_at}
use Rattle.ffc_basis.proofs.OrderedTerms.{AreTerms-ordered}
use Rattle.ffc_basis.proofs.SplitLemmas.{held_leads}
use Rattle.ffc_basis.proofs.remainder.held_step.Goals as goal

pub bounds-lines-line : goal.bounds-lines-line
bounds-lines-line g c =
    let gs = polys_of c.args.lines.now in
    let held = subst (λ o. IfSome o (λ t. (hs : List Terms) → AreMultiplesOf g.F.Field.ORDER hs c.args.left.now.1 → LeadsMultiple g.F.Field.ORDER g.O.MonoOrder.cmp hs c.args.left.now.0 t.0 (g.F.Field.value t.1) t.2)) c.in-Some.is c.in_ok-held.ensures.held in
    omega (arith, (held gs c.requires).0, length-polys c.args.lines.now)

pub offset_bounds-lines-line : goal.offset_bounds-lines-line
offset_bounds-lines-line g c =
    let gs = polys_of c.args.lines.now in
    let held = subst (λ o. IfSome o (λ t. (hs : List Terms) → AreMultiplesOf g.F.Field.ORDER hs c.args.left.now.1 → LeadsMultiple g.F.Field.ORDER g.O.MonoOrder.cmp hs c.args.left.now.0 t.0 (g.F.Field.value t.1) t.2)) c.in-Some.is c.in_ok-held.ensures.held in
    omega (arith, (held gs c.requires).0, length-polys c.args.lines.now)

pub returns-clause-step : goal.returns-clause-step
returns-clause-step g c =
    let p = g.F.Field.ORDER in
    let value = g.F.Field.value in
    let cmp = g.O.MonoOrder.cmp in
    let ls = c.args.lines.now in
    let gs = polys_of ls in
    let h = c.in-Some.held in
    let held = subst (λ o. IfSome o (λ t. (hs : List Terms) → AreMultiplesOf p hs c.args.left.now.1 → LeadsMultiple p cmp hs c.args.left.now.0 t.0 (value t.1) t.2)) c.in-Some.is c.in_ok-held.ensures.held in
    let found = held gs c.requires in
    let is = poly_at ls h.0 c.index-lines-line.result (omega (arith, found.0, length-polys ls)) in
    let line : Terms = (get_or ls h.0 c.index-lines-line.result).poly in
    held_leads p cmp gs c.args.left.now.0 c.held.new.self.0 line h.0 (value h.1) (value c.quotient_of.result) (value c.in-Some-lead.lead.0) c.in-Some-lead.lead.1.powers.now h.2 is c.held.ensures.same
    found (AreTerms-ordered p cmp 1024 line c.len-length.ensures.ordered) c.in-Some-lead.lead.1.is_monomial c.in-Some-lead.ensures.leading c.quotient_of.ensures
