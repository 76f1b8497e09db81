use Rattle.std.proofs.Common.{◌%◌, sym, ap, ◌∙◌}
use Rattle.ffc_ring.specs.Polynomial.{written, term_product}
use Rattle.ffc_poly.proofs.Clauses.{nothing_times, value_of_term}
use Rattle.ffc_poly.proofs.poly.Poly.times.Goals as goal

pub returns-then-residue-eq0-clause-product : goal.returns-then-residue-eq0-clause-product
returns-then-residue-eq0-clause-product g c =
    let p = g.F.Field.ORDER in
    let none = sym c.residue.ensures.value ∙ c.if-residue-eq0.true in
    λ n. ap (λ ts. written ts n % p) c.zero.ensures ∙ nothing_times p (g.F.Field.value c.args.c) c.args.m.powers.now c.args.self.now none n

pub returns-clause-value : goal.returns-clause-value
returns-clause-value g c =
    let p = g.F.Field.ORDER in
    let k = g.F.Field.value c.args.c in
    let m = c.args.m.powers.now in
    value_of_term p k m c.in_ok-terms.terms c.args.self.now (λ n. c.in_ok-terms.ensures.same n ∙ ap (λ ts. written (term_product k m ts) n % p) c.listed-own.ensures.value)
