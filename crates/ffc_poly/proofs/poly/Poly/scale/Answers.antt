use Rattle.std.proofs.Common.{[], ◌%◌, sym, ap, ◌∙◌}
use Rattle.ffc_ring.specs.Polynomial.{written, scaled}
use Rattle.ffc_poly.proofs.Clauses.{nothing_times, value_of_scaled}
use Rattle.ffc_poly.proofs.poly.Poly.scale.Goals as goal

pub returns-then-residue-eq0-clause-product : goal.returns-then-residue-eq0-clause-product
returns-then-residue-eq0-clause-product g c =
    let p = g.F.Field.ORDER in
    let none = sym c.residue.ensures.value ∙ c.if-residue-eq0.true in
    λ m. ap (λ ts. written ts m % p) c.zero.ensures ∙ nothing_times p (g.F.Field.value c.args.c) [] c.args.self.now none m

pub returns-clause-value : goal.returns-clause-value
returns-clause-value g c =
    let p = g.F.Field.ORDER in
    let k = g.F.Field.value c.args.c in
    value_of_scaled p k c.in_ok-terms.terms c.args.self.now (λ m. c.in_ok-terms.ensures.same m ∙ ap (λ ts. written (scaled k ts) m % p) c.listed.ensures.value)
