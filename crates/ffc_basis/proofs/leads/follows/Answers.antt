use Rattle.std.proofs.Common.{IfSome, subst}
use Rattle.ffc_basis.specs.Chains.{IsWholeOfPair, IsNoHigher}
use Rattle.ffc_line.specs.Lines.{polys_of}
use Rattle.ffc_basis.proofs.ChainLemmas.{whole_chain_closes}
use Rattle.ffc_basis.proofs.leads.follows.Goals as goal

pub returns : goal.returns
returns g c = λ _.
    let p = g.F.Field.ORDER in
    let cmp = g.O.MonoOrder.cmp in
    let gs = polys_of c.args.lines.now in
    let i = c.args.i in
    let j = c.args.j in
    let k = c.args.third in
    let whole = c.args.whole.now in
    let first = c.in-Some-2.first in
    let second = c.in-Some-3.second in
    let lead = c.in-Some.lead in
    let one : IsWholeOfPair p cmp gs i k first = subst (λ o. IfSome o (IsWholeOfPair p cmp gs i k)) c.in-Some-2.is c.in_ok-first.ensures in
    let two : IsWholeOfPair p cmp gs k j second = subst (λ o. IfSome o (IsWholeOfPair p cmp gs k j)) c.in-Some-3.is c.in_ok-second.ensures in
    let one_raised : IsNoHigher cmp first whole.lcm lead = c.in_ok-is_no_higher.ensures c.if-not-branch.false in
    let two_raised : IsNoHigher cmp second whole.lcm lead = c.in_ok-is_no_higher-2.ensures c.if-not-branch-2.false in
    whole_chain_closes p g.met.F.Field.prime cmp g.met.O.MonoOrder.laws gs c.requires.lists i j k whole first second lead c.requires.whole one two c.in-Some.is one_raised two_raised c.requires.first_closed c.requires.second_closed
