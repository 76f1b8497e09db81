use Rattle.std.proofs.Common.{List, refl, sym, subst}
use Rattle.ffc_ring.specs.Polynomial.{Terms}
use Rattle.ffc_dense.specs.Tables.{AreMultiplesOf, Multiple}
use Rattle.ffc_line.specs.Lines.{Parts, polys_of}
use Rattle.ffc_basis.specs.Remainders.{front_of, whole_of}
use Rattle.ffc_basis.proofs.Lists.{always_on_err}
use Rattle.ffc_basis.proofs.SplitLemmas.{continues_same, stays_bounded, nothing_is_reduced}
use Rattle.ffc_basis.proofs.remainder.reduce_in_place.Goals as goal

pub reduce_leads-requires-clause-reduced : goal.reduce_leads-requires-clause-reduced
reduce_leads-requires-clause-reduced g c =
    nothing_is_reduced g.F.Field.ORDER g.O.MonoOrder.cmp (polys_of c.args.lines.now) (front_of g.F.Field.value c.begun-rest.result) c.begun-rest.ensures.none

pub returns-in_err-reduce_leads-clause-bound : goal.returns-in_err-reduce_leads-clause-bound
returns-in_err-reduce_leads-clause-bound g c =
    let p = g.F.Field.ORDER in
    let cmp = g.O.MonoOrder.cmp in
    let gs = polys_of c.args.lines.now in
    let poly : Terms = c.args.poly.now in
    let items : Parts = c.args.parts.now in
    let s = c.args.meter.now in
    always_on_err c.from_residual.result
    (λ q old takes h. c.in_err-reduce_leads.ensures.bound q old takes
    (continues_same p cmp gs poly (whole_of g.F.Field.value c.begun-rest.result) items items s s (λ m. sym (c.begun-rest.ensures.same m)) refl refl q old h))

pub returns-in_err-reduced-clause-bound : goal.returns-in_err-reduced-clause-bound
returns-in_err-reduced-clause-bound g c =
    let p = g.F.Field.ORDER in
    let cmp = g.O.MonoOrder.cmp in
    let gs = polys_of c.args.lines.now in
    let poly : Terms = c.args.poly.now in
    let items : Parts = c.args.parts.now in
    let s = c.args.meter.now in
    let t = c.reduce_leads.new.meter in
    always_on_err c.from_residual-in_err-reduced.result
    (stays_bounded p cmp gs poly (whole_of g.F.Field.value c.reduce_leads.new.rest) items c.reduce_leads.new.parts s t t
    (λ q old h. c.in_ok-reduce_leads.ensures.continues q old
    (continues_same p cmp gs poly (whole_of g.F.Field.value c.begun-rest.result) items items s s (λ m. sym (c.begun-rest.ensures.same m)) refl refl q old h))
    c.reduce_leads.ensures.takes refl)

pub returns-clause-continues : goal.returns-clause-continues
returns-clause-continues g c =
    let p = g.F.Field.ORDER in
    let cmp = g.O.MonoOrder.cmp in
    let gs = polys_of c.args.lines.now in
    let poly : Terms = c.args.poly.now in
    let items : Parts = c.args.parts.now in
    let more : Parts = c.reduce_leads.new.parts in
    let s = c.args.meter.now in
    let t = c.reduce_leads.new.meter in λ q old h.
    continues_same p cmp gs (whole_of g.F.Field.value c.reduce_leads.new.rest) c.in_ok-reduced.reduced.0 more more t t (λ m. sym (c.in_ok-reduced.ensures.same m)) refl refl q old
    (c.in_ok-reduce_leads.ensures.continues q old
    (continues_same p cmp gs poly (whole_of g.F.Field.value c.begun-rest.result) items items s s (λ m. sym (c.begun-rest.ensures.same m)) refl refl q old h))

pub returns-clause-irreducible : goal.returns-clause-irreducible
returns-clause-irreducible g c = c.in_ok-reduced.ensures.first (polys_of c.args.lines.now) c.in_ok-reduce_leads.ensures.reduced

pub reduce_leads-requires-clause-multiples : goal.reduce_leads-requires-clause-multiples
reduce_leads-requires-clause-multiples g c = subst (λ (l : Terms × List Multiple). AreMultiplesOf g.F.Field.ORDER (polys_of c.args.lines.now) l.1) (sym c.begun-rest.ensures.left) c.requires.multiples

pub returns-in_err-reduced-clause-table : goal.returns-in_err-reduced-clause-table
returns-in_err-reduced-clause-table g c = c.joined.ensures.multiples (polys_of c.args.lines.now) c.in_ok-reduce_leads.ensures.multiples c.requires.table

pub returns-clause-table : goal.returns-clause-table
returns-clause-table g c = c.joined.ensures.multiples (polys_of c.args.lines.now) c.in_ok-reduce_leads.ensures.multiples c.requires.table
