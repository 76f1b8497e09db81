use Rattle.std.proofs.Common.{◌≡◌, List, length, inr, sym, ap, ◌∙◌, arith}
use Rattle.std.proofs.lemmas.Bool.{cond-true}
use Rattle.ffc_ring.specs.Polynomial.{Terms}
use Rattle.ffc_dense.specs.Tables.{Multiple}
use Rattle.ffc_basis.proofs.left.Left.bound.Goals as goal

pub returns-then-count-most : goal.returns-then-count-most
returns-then-count-most g c =
    let i = c.self.inside in
    let same : i.table.0 ≡ c.args.self.now.0 = sym (cond-true i.is_in_table i.table.0 i.sum c.if-not-self.false) ∙ ap (λ (v : Terms × List Multiple). v.0) c.self.view_is in
    inr (omega (arith, ap length same, c.len-count.ensures.terms), omega arith)
