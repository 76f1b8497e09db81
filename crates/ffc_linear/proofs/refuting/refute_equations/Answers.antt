use Rattle.std.proofs.Common.{◌≡◌, ℕ, ◌<◌, [], List, length, map, get_or, All, sym, ◌∙◌, subst, arith}
use Rattle.std.proofs.lemmas.List.{length-map}
use Rattle.std.proofs.lemmas.List.Elements.{All-map}
use Rattle.ffc_clause.specs.Clauses.{Literal}
use Rattle.ffc_echelon.specs.Vectors.{Coordinates}
use Rattle.ffc_echelon.specs.Forms.{IsContradiction}
use Rattle.ffc_refutation.specs.Combinations.{IsRefuted}
use Rattle.ffc_refutation.specs.Given.{AreReadable, AreRight}
use Rattle.ffc_rules.specs.Entries.{NodeCheck}
use Rattle.ffc_linear.specs.Refuting.{literals_of, AreForcedForms}
use Rattle.ffc_linear.proofs.StepLemmas.{few_literals, few_summands, both_if_ok}
use Rattle.ffc_linear.proofs.RefutingLemmas.{equations_refuted}
use Rattle.ffc_linear.proofs.refuting.refute_equations.Goals as goal

pub by_combination-requires-clause-short : goal.by_combination-requires-clause-short
by_combination-requires-clause-short g c =
    let short = few_literals c.args.equations.now (map g.F.Field.value c.args.coefficients.now) c.in_ok-lits.lits.items c.in_ok-lits.ensures c.requires.equations in
    omega (arith, short)

pub by_combination-requires-clause-terms : goal.by_combination-requires-clause-terms
by_combination-requires-clause-terms g c =
    let value = g.F.Field.value in
    let short = few_summands [] (map value c.args.coefficients.now) c.in_ok-summands.summands.items (length c.args.equations.now) c.in_ok-summands.ensures (length-map c.args.coefficients.now value ∙ c.requires.coefficients) c.requires.equations in
    omega (arith, short)

pub returns : goal.returns
returns g c =
    let value = g.F.Field.value in
    let p = g.F.Field.ORDER in
    let ids = c.args.equations.now in
    let cs = map value c.args.coefficients.now in
    let rs = c.args.reasons.now in
    let order = c.ORDER.result in
    let lits = c.in_ok-lits.lits.items in
    let summands = c.in_ok-summands.summands.items in
    let below : All (λ x. x < p) cs = All-map (λ x. x < p) value c.args.coefficients.now (λ k d inside. g.met.F.Field.below (get_or c.args.coefficients.now k d)) in
    let long : length cs ≡ length ids = length-map c.args.coefficients.now value ∙ c.requires.coefficients in
    let refuted : (k : NodeCheck) (forced : List Literal) (constants : List ℕ) (vectors : List Coordinates) → AreForcedForms k p rs forced constants ids vectors → IsContradiction p (length constants) vectors cs → IsRefuted k rs order lits summands
    = λ k forced constants vectors are is.
    subst (λ q. IsRefuted k rs q lits summands) (sym c.ORDER.ensures)
    (subst (λ ls. IsRefuted k rs p ls summands) (sym c.in_ok-lits.ensures)
    (subst (IsRefuted k rs p (literals_of ids cs)) (sym c.in_ok-summands.ensures)
    (equations_refuted k p rs forced constants ids vectors are cs below long is))) in
    both_if_ok c.by_combination.result
    (λ lines. (k : NodeCheck) → IsRefuted k rs order lits summands → AreReadable lines)
    (λ lines. (k : NodeCheck) → IsRefuted k rs order lits summands → AreRight k lines)
    (λ lines. (k : NodeCheck) (forced : List Literal) (constants : List ℕ) (vectors : List Coordinates) → AreForcedForms k p rs forced constants ids vectors → IsContradiction p (length constants) vectors cs → AreReadable lines × AreRight k lines)
    (λ lines readable right k forced constants vectors are is. let r = refuted k forced constants vectors are is in (readable k r, right k r))
    c.by_combination.ensures.readable c.by_combination.ensures.right
