use Rattle.std.proofs.Common.{IsTrue, get_or, sym, subst}
use Rattle.ffc_ring.specs.Polynomial.{Terms}
use Rattle.ffc_basis.specs.Chains.{IsUnder}
use Rattle.ffc_line.specs.Lines.{polys_of}
use Rattle.ffc_basis.specs.PairTable.{AreBothClosed}
use Rattle.ffc_basis.proofs.ChainLemmas.{chain_closes}
use Rattle.ffc_basis.proofs.Lists.{if_ok, poly_at}
use Rattle.ffc_basis.proofs.chain.is_chained_by.Goals as goal

pub returns : goal.returns
returns g c =
    let p = g.F.Field.ORDER in
    let cmp = g.O.MonoOrder.cmp in
    let ls = c.args.lines.now in
    let gs = polys_of ls in
    let i = c.args.i in
    let j = c.args.j in
    let k = c.args.third in
    let top = c.args.top.now in
    let ts : Terms = (get_or ls k c.index-lines-third.result).poly in
    if_ok c.is_under.result (λ b. IsTrue b → IsUnder p cmp ts top.lcm top.lead) (λ b. IsTrue b → AreBothClosed p cmp gs i j)
    (λ b under is.
    chain_closes p g.met.F.Field.prime cmp g.met.O.MonoOrder.laws gs c.requires.lists i j k top c.requires.top
    (subst (λ us. IsUnder p cmp us top.lcm top.lead) (sym (poly_at ls k c.index-lines-third.result c.requires.third)) (under is))
    (c.is_closed_between.ensures c.if-not-is_closed_between.false).0 (c.is_closed_between-2.ensures c.if-not-is_closed_between-2.false).0)
    c.is_under.ensures
