use Rattle.std.proofs.Common.{[], get_or, sym, subst, IfSome}
use Rattle.ffc_basis.specs.Chains.{IsTop}
use Rattle.ffc_line.specs.Lines.{polys_of}
use Rattle.ffc_basis.proofs.Lists.{poly_at}
use Rattle.ffc_basis.proofs.chain.is_chained.Goals as goal

pub loop-third-init : goal.loop-third-init
loop-third-init g c =
    let p = g.F.Field.ORDER in
    let cmp = g.O.MonoOrder.cmp in
    let lines = c.args.lines.now in
    let i = c.args.i in
    let j = c.args.j in
    let a = (get_or lines i c.index-lines-i.result).poly in
    let b = (get_or lines j c.index-lines-j.result).poly in
    let found : IsTop p cmp a b c.in-Some.top = subst (λ o. IfSome o (IsTop p cmp a b)) c.in-Some.is c.in_ok-top.ensures in
    subst (λ x. IsTop p cmp x (get_or (polys_of lines) j []) c.in-Some.top) (sym (poly_at lines i c.index-lines-i.result c.requires.first))
    (subst (λ y. IsTop p cmp a y c.in-Some.top) (sym (poly_at lines j c.index-lines-j.result c.requires.second)) found)
