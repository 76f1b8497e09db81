use Rattle.std.proofs.Common.{[], ◌∷◌, ◌++◌, length, map, Contains, sym, ap, ◌∙◌, subst, arith}
use Rattle.std.proofs.lemmas.List.{length-map}
use Rattle.ffc_check.specs.Judged.{judged_check}
use Rattle.ffc_lemmatree.specs.declared.endings.Ending.TheVariants as ending
use Rattle.ffc_single.specs.Outcomes.{IsOutcomeOf, AreCasesAt}
use Rattle.ffc_single.proofs.CommonRootLemmas.{forms_long, forms_within}
use Rattle.ffc_single.proofs.EndingLemmas.{few_zeros, refuted_by_roots, refuted_as}
use Rattle.ffc_single.proofs.FlatLemmas.{disequations_in}
use Rattle.ffc_single.proofs.ModelLemmas.{root_is_model}
use Rattle.ffc_single.proofs.deciding.at_roots.Goals as goal

pub try_roots-requires-clause-few : goal.try_roots-requires-clause-few
try_roots-requires-clause-few g c =
    let value = g.F.Field.value in
    let has = c.requires.roots in
    let few = few_zeros (judged_check c.args.check.now) g.F.Field.ORDER c.args.variable c.args.conjunction.now c.args.divisor.now has.divisor_is c.args.roots c.args.unequal.now has in
    let long = sym (length-map c.as_slice-zeros.result.now value) ∙ ap length c.as_slice-zeros.ensures in
    omega (arith, few, long)

pub try_roots-requires-clause-same : goal.try_roots-requires-clause-same
try_roots-requires-clause-same g c =
    ap length c.as_slice-disequations.ensures.value
    ∙ sym (forms_long g.F.Field.ORDER c.args.check.now.table.now c.args.variable c.args.conjunction.now.disequations.items c.args.unequal.now c.requires.roots.forms)

pub try_roots-requires-clause-low : goal.try_roots-requires-clause-low
try_roots-requires-clause-low g c =
    let has = c.requires.roots in
    forms_within g.F.Field.ORDER c.args.check.now.table.now c.args.variable c.args.conjunction.now.disequations.items c.args.unequal.now has.forms
    (disequations_in (judged_check c.args.check.now) g.F.Field.ORDER c.args.variable c.args.conjunction.now has.divisor_is.flat)

pub returns-in-Value-clause-answer : goal.returns-in-Value-clause-answer
returns-in-Value-clause-answer g c = λ units.
    (let p = g.F.Field.ORDER in
    let value = g.F.Field.value in
    let found = subst (IsOutcomeOf p value c.as_slice-zeros.result.now c.as_slice-disequations.result.now c.args.unequal.now) c.in-Value.is c.in_ok-x.ensures.outcome in
    let pairs = c.in_ok-push-in-Value.ensures.items ∙ ap (λ xs. xs ++ (c.args.variable, c.residue.result) ∷ []) c.new-pairs.ensures.items in (
      ap (map (λ p. p.0)) pairs ∙ sym c.requires.roots.divisor_is.flat.constant,
      root_is_model (judged_check c.args.check.now) p c.args.variable c.residue.result (value c.in-Value.x) c.args.conjunction.now c.args.divisor.now c.args.roots c.args.unequal.now c.push.new.self.items c.requires.roots
          c.residue.ensures.value (subst (λ zs. Contains zs (value c.in-Value.x)) c.as_slice-zeros.ensures found.0) found.1
          pairs,
    ))

pub by_roots-requires-clause-short : goal.by_roots-requires-clause-short
by_roots-requires-clause-short g c =
    let p = g.F.Field.ORDER in
    let value = g.F.Field.value in
    let has = c.requires.roots in
    let few = few_zeros (judged_check c.args.check.now) p c.args.variable c.args.conjunction.now c.args.divisor.now has.divisor_is c.args.roots c.args.unequal.now has in
    let found : AreCasesAt {F = g.row.F.Denot} p (map value c.as_slice-zeros.result.now) c.as_slice-disequations.result.now c.args.unequal.now c.in-Cases.found =
    subst (IsOutcomeOf p value c.as_slice-zeros.result.now c.as_slice-disequations.result.now c.args.unequal.now) c.in-Cases.is c.in_ok-x.ensures.outcome in
    let equations = ap length c.as_slice-2.ensures.value in
    let equations_are = ap length has.divisor_is.flat.literals.equations_are in
    let most = has.divisor_is.flat.few in
    let picked = ap length c.as_slice-3.ensures.value in
    let count = found.count ∙ ap length c.as_slice-zeros.ensures in
    omega (arith, few, equations, equations_are, most, picked, count)

pub returns-clause-answer : goal.returns-clause-answer
returns-clause-answer g c = λ units.
    (let check = judged_check c.args.check.now in
    let p = g.F.Field.ORDER in
    let value = g.F.Field.value in
    let conjunction = c.args.conjunction.now in
    let divisor = c.args.divisor.now in
    let nodes = c.len.result in
    let cases = c.in-Cases.found in
    let found : AreCasesAt {F = g.row.F.Denot} p (map value c.as_slice-zeros.result.now) c.as_slice-disequations.result.now c.args.unequal.now cases =
    subst (IsOutcomeOf p value c.as_slice-zeros.result.now c.as_slice-disequations.result.now c.args.unequal.now) c.in-Cases.is c.in_ok-x.ensures.outcome in
    let at : AreCasesAt {F = g.row.F.Denot} p c.args.roots.zeros conjunction.disequations.items c.args.unequal.now cases =
    subst (λ ids. AreCasesAt p c.args.roots.zeros ids c.args.unequal.now cases) c.as_slice-disequations.ensures.value
    (subst (λ zs. AreCasesAt p zs c.as_slice-disequations.result.now c.args.unequal.now cases) c.as_slice-zeros.ensures found) in
    let refuted = refuted_as {F = g.row.F.Denot} check p conjunction.reasons.items c.as_slice.result.now nodes c.args.variable conjunction.equations.items c.as_slice-2.result.now cases.disequations.items c.as_slice-3.result.now divisor.start divisor.steps.items c.as_slice-4.result.now (ending.Roots c.args.roots cases.cases)
    c.as_slice.ensures.value c.as_slice-2.ensures.value c.as_slice-3.ensures.value c.as_slice-4.ensures.value
    (refuted_by_roots check p c.args.variable conjunction divisor c.requires.roots.divisor_is nodes c.args.roots c.args.unequal.now cases c.len.ensures.count c.requires.roots at) in
    (c.in_ok-lines.ensures.readable check refuted, c.in_ok-lines.ensures.right check refuted))
