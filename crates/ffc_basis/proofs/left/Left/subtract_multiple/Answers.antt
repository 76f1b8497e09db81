use Rattle.std.proofs.Common.{◌≡◌, List, sym, ap, subst}
use Rattle.ffc_ring.specs.Polynomial.{Terms}
use Rattle.ffc_dense.specs.Tables.{AreMultiplesOf, Multiple}
use Rattle.ffc_basis.proofs.left.Left.subtract_multiple.Goals as goal

pub returns-then-self-clause-multiples : goal.returns-then-self-clause-multiples
returns-then-self-clause-multiples g c = λ gs all there.
    let kept : c.self.inside.table.1 ≡ c.args.self.now.1 = ap (λ (v : Terms × List Multiple). v.1) c.self.view_is in
    c.subtract_multiple.ensures.multiples gs (subst (AreMultiplesOf g.F.Field.ORDER gs) (sym kept) all) there
