use Rattle.std.proofs.Common.{sym, ap₂, ◌∙◌, subst}
use Rattle.std.specs.Bool.{OnFalse}
use Rattle.ffc_ring.specs.Monomial.{Monomial}
use Rattle.ffc_ring.specs.Polynomial.{Terms}
use Rattle.ffc_mono.specs.declared.mono.TheConstants.{DEGREE_LIMIT}
use Rattle.ffc_basis.specs.Chains.{AreApart, IsTop}
use Rattle.ffc_basis.proofs.OrderedTerms.{AreTerms-ordered}
use Rattle.ffc_basis.proofs.RaisedLemmas.{top_first_alone, top_second_alone, top_first_above, top_second_above, top_of_both}
use Rattle.ffc_basis.proofs.chain.top_by.Goals as goal

pub returns-in_default : goal.returns-in_default
returns-in_default g c =
    let p = g.F.Field.ORDER in
    let cmp = g.O.MonoOrder.cmp in
    let a : Terms = c.args.a.now in
    let b : Terms = c.args.b.now in
    top_second_alone p g.met.F.Field.prime cmp g.met.O.MonoOrder.laws a b (AreTerms-ordered p cmp DEGREE_LIMIT a c.len.ensures.ordered) (AreTerms-ordered p cmp DEGREE_LIMIT b c.len-2.ensures.ordered) c.args.lcm c.in_ok-lead.lead c.args.first c.args.second
    c.requires.multiple c.requires.first c.requires.second c.in_default.is c.in_ok-lead.was

pub returns-in_default-second : goal.returns-in_default-second
returns-in_default-second g c =
    let p = g.F.Field.ORDER in
    let cmp = g.O.MonoOrder.cmp in
    let a : Terms = c.args.a.now in
    let b : Terms = c.args.b.now in
    subst (λ (x : Monomial). IsTop p cmp a b record { lcm = c.args.lcm; lead = x }) (sym c.in-Some.own-is)
    (top_first_alone p g.met.F.Field.prime cmp g.met.O.MonoOrder.laws a b (AreTerms-ordered p cmp DEGREE_LIMIT a c.len.ensures.ordered) (AreTerms-ordered p cmp DEGREE_LIMIT b c.len-2.ensures.ordered) c.args.lcm c.in-Some.own c.args.first c.args.second
    c.requires.multiple c.requires.first c.requires.second c.in-Some.is c.in_default-second.is)

pub returns-in-Greater : goal.returns-in-Greater
returns-in-Greater g c =
    let p = g.F.Field.ORDER in
    let cmp = g.O.MonoOrder.cmp in
    let a : Terms = c.args.a.now in
    let b : Terms = c.args.b.now in
    subst (λ (x : Monomial). IsTop p cmp a b record { lcm = c.args.lcm; lead = x }) (sym c.in-Some.own-is)
    (top_first_above p g.met.F.Field.prime cmp g.met.O.MonoOrder.laws a b (AreTerms-ordered p cmp DEGREE_LIMIT a c.len.ensures.ordered) (AreTerms-ordered p cmp DEGREE_LIMIT b c.len-2.ensures.ordered) c.args.lcm c.in-Some.own c.in-Some-second.other c.args.first c.args.second
    c.requires.multiple c.requires.first c.requires.second c.in-Some.is c.in-Some-second.is (sym (c.compare.ensures ∙ ap₂ cmp c.in-Some.own-is c.in-Some-second.other-is) ∙ c.in-Greater.is))

pub returns-in-Less : goal.returns-in-Less
returns-in-Less g c =
    let p = g.F.Field.ORDER in
    let cmp = g.O.MonoOrder.cmp in
    let a : Terms = c.args.a.now in
    let b : Terms = c.args.b.now in
    subst (λ (x : Monomial). IsTop p cmp a b record { lcm = c.args.lcm; lead = x }) (sym c.in-Some-second.other-is)
    (top_second_above p g.met.F.Field.prime cmp g.met.O.MonoOrder.laws a b (AreTerms-ordered p cmp DEGREE_LIMIT a c.len.ensures.ordered) (AreTerms-ordered p cmp DEGREE_LIMIT b c.len-2.ensures.ordered) c.args.lcm c.in-Some-second.other c.in-Some.own c.args.first c.args.second
    c.requires.multiple c.requires.first c.requires.second c.in-Some.is c.in-Some-second.is (sym (c.compare.ensures ∙ ap₂ cmp c.in-Some.own-is c.in-Some-second.other-is) ∙ c.in-Less.is))

pub returns-else-cancel : goal.returns-else-cancel
returns-else-cancel g c =
    let p = g.F.Field.ORDER in
    let cmp = g.O.MonoOrder.cmp in
    let a : Terms = c.args.a.now in
    let b : Terms = c.args.b.now in
    subst (λ (x : Monomial). IsTop p cmp a b record { lcm = c.args.lcm; lead = x }) (sym c.in-Some.own-is)
    (top_of_both p g.met.F.Field.prime cmp g.met.O.MonoOrder.laws a b (AreTerms-ordered p cmp DEGREE_LIMIT a c.len.ensures.ordered) (AreTerms-ordered p cmp DEGREE_LIMIT b c.len-2.ensures.ordered) c.args.lcm c.in-Some.own c.in-Some-second.other c.args.first c.args.second
    c.requires.multiple c.requires.first c.requires.second c.in-Some.is c.in-Some-second.is (sym (c.compare.ensures ∙ ap₂ cmp c.in-Some.own-is c.in-Some-second.other-is) ∙ c.in-Equal.is)
    (subst (λ r. OnFalse r (AreApart p cmp a b)) c.if-cancel.false c.cancel.ensures))
