use Rattle.std.proofs.Common.{[], ◌∙◌}
use Rattle.ffc_ring.proofs.PolynomialLemmas.{same_term_products}
use Rattle.ffc_basis.proofs.record.Multiples.times.Goals as goal

pub returns-in-Ok : goal.returns-in-Ok
returns-in-Ok g c = λ m.
    c.in-Ok.ensures.product m ∙ same_term_products g.F.Field.ORDER (g.F.Field.value c.args.c) [] c.in_ok-whole.whole c.args.self.now.1 c.in_ok-whole.ensures m
