use Rattle.std.proofs.Common.{◌≡◌, ℕ, ◌+◌, ◌-◌, ◌<◌, true, [], ◌∷◌, ◌++◌, List, length, map, get_or, All, sym, ◌∙◌, subst, arith}
use Rattle.std.proofs.lemmas.List.{length-map}
use Rattle.std.proofs.lemmas.List.Elements.{All-map}
use Rattle.ffc_clause.specs.Clauses.{Literal, plus, minus, is_among}
use Rattle.ffc_echelon.specs.Vectors.{Coordinates}
use Rattle.ffc_echelon.specs.Forms.{IsCombination}
use Rattle.ffc_refutation.specs.Combinations.{IsRefuted}
use Rattle.ffc_refutation.specs.Given.{AreReadable, AreRight}
use Rattle.ffc_rules.specs.Entries.{NodeCheck}
use Rattle.ffc_linear.specs.Affine.{IsAffineForm}
use Rattle.ffc_linear.specs.Refuting.{literals_of, summands_from, IsUsable, AreForcedForms}
use Rattle.ffc_linear.proofs.StepLemmas.{few_literals, few_summands, one_longer, count_is, literals_with, both_if_ok, last_step}
use Rattle.ffc_linear.proofs.RefutingLemmas.{disequation_refuted}
use Rattle.ffc_linear.proofs.refuting.refute_disequation.Goals as goal

pub overflow_cast-place : goal.overflow_cast-place
overflow_cast-place g c =
    let lits = c.in_ok-lits.lits in
    let short = few_literals c.args.equations.now (map g.F.Field.value c.args.coefficients.now) lits.items c.in_ok-lits.ensures c.requires.equations in
    omega (arith, c.len-place.ensures, lits.ok.0, short)

pub overflow_add-nodes : goal.overflow_add-nodes
overflow_add-nodes g c =
    let lits = c.in_ok-lits.lits in
    let short = few_literals c.args.equations.now (map g.F.Field.value c.args.coefficients.now) lits.items c.in_ok-lits.ensures c.requires.equations in
    omega (arith, c.len-place.ensures, lits.ok.0, short, c.requires.nodes)

pub by_combination-requires-clause-short : goal.by_combination-requires-clause-short
by_combination-requires-clause-short g c =
    let lits = c.in_ok-lits.lits.items in
    let short = few_literals c.args.equations.now (map g.F.Field.value c.args.coefficients.now) lits c.in_ok-lits.ensures c.requires.equations in
    let longer = one_longer lits c.push.new.self.items (true, c.args.disequation) 4096 c.in_ok-push.ensures.items short in
    omega (arith, longer)

pub by_combination-requires-clause-terms : goal.by_combination-requires-clause-terms
by_combination-requires-clause-terms g c =
    let value = g.F.Field.value in
    let summands = c.in_ok-summands.summands.items in
    let short = few_summands ((c.args.nodes + c.len-place.result, 1) ∷ []) (map value c.args.coefficients.now) summands (length c.args.equations.now) c.in_ok-summands.ensures (length-map c.args.coefficients.now value ∙ c.requires.coefficients) c.requires.equations in
    let longer = one_longer summands c.push-2.new.self.items (c.len-place.result, (c.ORDER.result - 1, c.new.result)) 4096 c.in_ok-push-2.ensures.items short in
    omega (arith, longer)

pub returns : goal.returns
returns g c =
    let value = g.F.Field.value in
    let p = g.F.Field.ORDER in
    let ids = c.args.equations.now in
    let cs = map value c.args.coefficients.now in
    let rs = c.args.reasons.now in
    let d = c.args.disequation in
    let order = c.ORDER-2.result in
    let lits = c.push.new.self.items in
    let summands = c.push-2.new.self.items in
    let count = length (literals_of ids cs) in
    let below : All (λ x. x < p) cs = All-map (λ x. x < p) value c.args.coefficients.now (λ k i inside. g.met.F.Field.below (get_or c.args.coefficients.now k i)) in
    let long : length cs ≡ length ids = length-map c.args.coefficients.now value ∙ c.requires.coefficients in
    let place = count_is ids cs c.in_ok-lits.lits.items c.len-place.result c.in_ok-lits.lits.len c.len-place.ensures c.in_ok-lits.lits.ok.0 c.in_ok-lits.ensures in
    let lits_are = literals_with ids cs (plus d) c.in_ok-lits.lits.items lits c.in_ok-push.ensures.items c.in_ok-lits.ensures in
    let refuted : (k : NodeCheck) (forced : List Literal) (constants : List ℕ) (vectors : List Coordinates) (vector : Coordinates) → length k.nodes ≡ c.args.nodes → AreForcedForms k p rs forced constants ids vectors
    → IsUsable k p d → is_among forced (minus d) ≡ true → IsAffineForm p k.nodes constants d vector → IsCombination p vectors vector [] cs → IsRefuted k rs order lits summands
    = λ k forced constants vectors vector nodes are usable denied form is.
    let summands_are : summands ≡ summands_from 0 ((length k.nodes + count, 1) ∷ []) cs ++ (count, (p - 1, [])) ∷ [] =
    last_step (length k.nodes) count cs p c.ORDER.result c.len-place.result c.args.nodes c.new.result c.in_ok-summands.summands.items summands c.in_ok-push-2.ensures.items c.in_ok-summands.ensures c.new.ensures c.ORDER.ensures (sym nodes) place in
    subst (λ q. IsRefuted k rs q lits summands) (sym c.ORDER-2.ensures)
    (subst (λ ls. IsRefuted k rs p ls summands) (sym lits_are)
    (subst (IsRefuted k rs p (literals_of ids cs ++ plus d ∷ [])) (sym summands_are)
    (disequation_refuted k p rs forced constants ids vectors are cs below long d vector usable denied form is))) in
    both_if_ok c.by_combination.result
    (λ lines. (k : NodeCheck) → IsRefuted k rs order lits summands → AreReadable lines)
    (λ lines. (k : NodeCheck) → IsRefuted k rs order lits summands → AreRight k lines)
    (λ lines. (k : NodeCheck) (forced : List Literal) (constants : List ℕ) (vectors : List Coordinates) (vector : Coordinates) → length k.nodes ≡ c.args.nodes → AreForcedForms k p rs forced constants ids vectors
    → IsUsable k p d → is_among forced (minus d) ≡ true → IsAffineForm p k.nodes constants d vector → IsCombination p vectors vector [] cs → AreReadable lines × AreRight k lines)
    (λ lines readable right k forced constants vectors vector nodes are usable denied form is.
    let r = refuted k forced constants vectors vector nodes are usable denied form is in
    (readable k r, right k r))
    c.by_combination.ensures.readable c.by_combination.ensures.right
