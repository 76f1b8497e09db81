use Rattle.std.proofs.Common.{[], get_or, sym, subst, arith, IfSome}
use Rattle.ffc_ring.specs.Polynomial.{AreTerms}
use Rattle.ffc_mono.specs.declared.mono.TheConstants.{DEGREE_LIMIT}
use Rattle.ffc_line.specs.Lines.{polys_of}
use Rattle.ffc_basis.specs.Outcomes.{IsSum}
use Rattle.ffc_basis.proofs.BoundLemmas.{pair_is_bounded}
use Rattle.ffc_basis.proofs.Lists.{poly_at}
use Rattle.ffc_basis.proofs.OrderedTerms.{AreTerms-ordered}
use Rattle.ffc_basis.proofs.spoly.reduce_pair.Goals as goal

pub outcome_of-requires-clause-sum : goal.outcome_of-requires-clause-sum
outcome_of-requires-clause-sum g c =
    subst (λ o. IfSome o (IsSum g.F.Field.ORDER g.F.Field.value g.O.MonoOrder.cmp (polys_of c.args.lines.now) c.args.i c.args.j)) c.in-Some.is c.in-Ok.ensures.made

pub returns-in_err-recorded-clause-bound : goal.returns-in_err-recorded-clause-bound
returns-in_err-recorded-clause-bound g c =
    let p = g.F.Field.ORDER in
    let cmp = g.O.MonoOrder.cmp in
    let ls = c.args.lines.now in
    let gs = polys_of ls in
    let i = c.args.i in
    let j = c.args.j in
    let spoly = c.in-Some.spoly in
    let sum : IsSum p g.F.Field.value cmp gs i j spoly = subst (λ o. IfSome o (IsSum p g.F.Field.value cmp gs i j)) c.in-Some.is c.in-Ok.ensures.made in
    let x : AreTerms (get_or gs i []) =
    subst AreTerms (sym (poly_at ls i c.index-lines-i.result c.requires.first)) (AreTerms-ordered p cmp DEGREE_LIMIT (get_or ls i c.index-lines-i.result).poly c.len.ensures.ordered) in
    let y : AreTerms (get_or gs j []) =
    subst AreTerms (sym (poly_at ls j c.index-lines-j.result c.requires.second)) (AreTerms-ordered p cmp DEGREE_LIMIT (get_or ls j c.index-lines-j.result).poly c.len-2.ensures.ordered) in
    pair_is_bounded p cmp (omega (arith, g.met.F.Field.prime.least)) gs i j spoly.poly c.args.meter.now c.reduce_recorded.new.meter x y sum.polynomial c.in_err-recorded.ensures.bound

pub returns-in_err-outcome-clause-bound : goal.returns-in_err-outcome-clause-bound
returns-in_err-outcome-clause-bound g c =
    let p = g.F.Field.ORDER in
    let cmp = g.O.MonoOrder.cmp in
    let ls = c.args.lines.now in
    let gs = polys_of ls in
    let i = c.args.i in
    let j = c.args.j in
    let spoly = c.in-Some.spoly in
    let sum : IsSum p g.F.Field.value cmp gs i j spoly = subst (λ o. IfSome o (IsSum p g.F.Field.value cmp gs i j)) c.in-Some.is c.in-Ok.ensures.made in
    let x : AreTerms (get_or gs i []) =
    subst AreTerms (sym (poly_at ls i c.index-lines-i.result c.requires.first)) (AreTerms-ordered p cmp DEGREE_LIMIT (get_or ls i c.index-lines-i.result).poly c.len.ensures.ordered) in
    let y : AreTerms (get_or gs j []) =
    subst AreTerms (sym (poly_at ls j c.index-lines-j.result c.requires.second)) (AreTerms-ordered p cmp DEGREE_LIMIT (get_or ls j c.index-lines-j.result).poly c.len-2.ensures.ordered) in
    pair_is_bounded p cmp (omega (arith, g.met.F.Field.prime.least)) gs i j spoly.poly c.args.meter.now c.reduce_recorded.new.meter x y sum.polynomial c.in_ok-recorded.ensures.bound

pub returns-clause-bound : goal.returns-clause-bound
returns-clause-bound g c =
    let p = g.F.Field.ORDER in
    let cmp = g.O.MonoOrder.cmp in
    let ls = c.args.lines.now in
    let gs = polys_of ls in
    let i = c.args.i in
    let j = c.args.j in
    let spoly = c.in-Some.spoly in
    let sum : IsSum p g.F.Field.value cmp gs i j spoly = subst (λ o. IfSome o (IsSum p g.F.Field.value cmp gs i j)) c.in-Some.is c.in-Ok.ensures.made in
    let x : AreTerms (get_or gs i []) =
    subst AreTerms (sym (poly_at ls i c.index-lines-i.result c.requires.first)) (AreTerms-ordered p cmp DEGREE_LIMIT (get_or ls i c.index-lines-i.result).poly c.len.ensures.ordered) in
    let y : AreTerms (get_or gs j []) =
    subst AreTerms (sym (poly_at ls j c.index-lines-j.result c.requires.second)) (AreTerms-ordered p cmp DEGREE_LIMIT (get_or ls j c.index-lines-j.result).poly c.len-2.ensures.ordered) in
    pair_is_bounded p cmp (omega (arith, g.met.F.Field.prime.least)) gs i j spoly.poly c.args.meter.now c.reduce_recorded.new.meter x y sum.polynomial c.in_ok-recorded.ensures.bound
