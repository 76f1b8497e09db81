use Rattle.std.proofs.Common.{ap, ◌∙◌}
use Rattle.ffc_poly.specs.Ordered.{residues}
use Rattle.ffc_roots.proofs.SparseLemmas.{term_pushed}
use Rattle.ffc_roots.proofs.sparse.terms_of.Goals as goal

pub loop-place-preserved : goal.loop-place-preserved
loop-place-preserved g c =
    let value = g.F.Field.value in
    ap (residues value) c.in_ok-push.ensures.items
    ∙ term_pushed value c.args.variable c.loop-place.terms.items c.args.coefs.now c.loop-place.place c.index-coefs-place.result c.in_ok-m.m
    c.loop-place-test.true c.index-coefs-place.is c.in_ok-m.ensures c.loop-place.invariant
