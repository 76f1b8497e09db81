use Rattle.std.proofs.Common.{◌≡◌, ◌++◌, ◌∷◌, sym, ap, ◌∙◌}
use Rattle.ffc_ring.specs.Monomial.{Monomial}
use Rattle.ffc_ring.specs.Polynomial.{coefficient}
use Rattle.ffc_poly.specs.Ordered.{residues}
use Rattle.ffc_dense.proofs.DenseLemmas.{zero_adds_nothing, pushed_adds}
use Rattle.ffc_dense.proofs.dense.push_nonzero.Goals as goal

pub returns-then-residue-eq0-clause-sum : goal.returns-then-residue-eq0-clause-sum
returns-then-residue-eq0-clause-sum g c = λ rest.
    zero_adds_nothing g.F.Field.ORDER (g.F.Field.value c.args.c) c.args.m.now (residues g.F.Field.value c.args.terms.now.items) rest (sym c.residue.ensures.value ∙ c.if-residue-eq0.true)

pub returns-clause-sum : goal.returns-clause-sum
returns-clause-sum g c = λ rest x.
    let value = g.F.Field.value in
    let items = c.args.terms.now.items in
    pushed_adds value g.F.Field.ORDER items c.push.new.self.items (c.args.c, c.in_ok-clone.field-0) rest c.in_ok-push.ensures.items x
    ∙ ap (λ (m : Monomial). coefficient g.F.Field.ORDER (residues value items ++ (value c.args.c, m) ∷ rest) x) c.in_ok-clone.ensures.cases
