use Rattle.std.proofs.Common.{◌≡◌, ◌==◌, length, ap, ◌∙◌, arith}
use Rattle.ffc_trees.specs.TreeLines.{is_nonzero_constant}
use Rattle.ffc_ckpoly.proofs.SortedLemmas.{length-cut}
use Rattle.ffc_ckpoly.proofs.UnivariateLemmas.{constant_is}
use Rattle.ffc_ckpoly.proofs.poly.CkPoly.is_nonzero_constant.Goals as goal

pub returns-then-terms-eq1 : goal.returns-then-terms-eq1
returns-then-terms-eq1 g c =
    let marks = c.self.inside.buffer.marks.items in
    let powers = c.self.inside.buffer.powers.items in
    let one : length marks ≡ 1 = omega (arith, length-cut g.F.Field.value 0 marks powers, ap length c.self.view_is, c.terms.ensures.count, c.if-terms-eq1.true) in
    let size : c.self.inside.buffer.powers.len ≡ length powers = omega (arith, c.self.inside.buffer.powers.ok) in
    c.is_empty.ensures ∙ ap (λ n. n == 0) size
    ∙ constant_is g.F.Field.value g.F.Field.ORDER g.met.F.Field.below marks powers c.self.invariant.0 c.self.invariant.1 one
    ∙ ap (is_nonzero_constant g.F.Field.ORDER) c.self.view_is
