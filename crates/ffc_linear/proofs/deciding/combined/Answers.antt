use Rattle.std.proofs.Common.{◌≤◌, ◌∙◌, List, ℕ, length, map, sym, ap, subst, arith}
use Rattle.std.proofs.lemmas.List.{length-map}
use Rattle.ffc_check.specs.Judged.{judged_check}
use Rattle.ffc_linear.specs.Refuting.{AreForcedForms}
use Rattle.ffc_linear.proofs.DecisionLemmas.{combined_coefficients, combined_equations, combined_inside, combined_decides}
use Rattle.ffc_linear.proofs.deciding.combined.Goals as goal

pub index-disequation-requires : goal.index-disequation-requires
index-disequation-requires g c =
    let conjunction = c.args.conjunction.now in
    omega (arith, conjunction.disequations.ok.0, combined_inside (judged_check c.args.check.now) g.F.Field.ORDER conjunction c.args.place (map g.F.Field.value c.args.coefficients.now) c.requires)

pub refute_disequation-requires-clause-equations : goal.refute_disequation-requires-clause-equations
refute_disequation-requires-clause-equations g c =
    subst (λ (ids : List ℕ). length ids ≤ 4096) (sym c.as_slice-equations.ensures.value)
    (combined_equations (judged_check c.args.check.now) g.F.Field.ORDER c.args.conjunction.now c.args.place (map g.F.Field.value c.args.coefficients.now) c.requires)

pub refute_disequation-requires-clause-coefficients : goal.refute_disequation-requires-clause-coefficients
refute_disequation-requires-clause-coefficients g c =
    sym (length-map c.args.coefficients.now g.F.Field.value)
    ∙ combined_coefficients (judged_check c.args.check.now) g.F.Field.ORDER c.args.conjunction.now c.args.place (map g.F.Field.value c.args.coefficients.now) c.requires
    ∙ ap length (sym c.as_slice-equations.ensures.value)

pub returns : goal.returns
returns g c =
    let p = g.F.Field.ORDER in
    let conjunction = c.args.conjunction.now in
    combined_decides (judged_check c.args.check.now) p conjunction c.args.place (map g.F.Field.value c.args.coefficients.now) c.requires c.len-nodes.result c.index-disequation.result.now c.in_ok-lines.lines c.len-nodes.ensures.count c.index-disequation.ensures
    (λ k forced names vectors vector count are.
    c.in_ok-lines.ensures k forced names vectors vector count
    (subst (λ rs. AreForcedForms k p rs forced names c.as_slice-equations.result.now vectors) (sym c.as_slice-reasons.ensures.value)
    (subst (λ ids. AreForcedForms k p conjunction.reasons.items forced names ids vectors) (sym c.as_slice-equations.ensures.value) are)))
