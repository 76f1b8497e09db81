-- What is true under the values that were given to constants.
use Rattle.std.proofs.Common.{◌≡◌, ℕ, Bool, true, false, List, length, Contains, refl, sym, ◌∙◌}
use Rattle.ffc_term.specs.declared.node.Node.{Node}
use Rattle.ffc_term.specs.declared.value.Value.{Value}
use Rattle.ffc_term.specs.Tables.{IsTable, constant_count}
use Rattle.ffc_term.specs.Checks.{AreConstantsOf}
use Rattle.ffc_rules.specs.Assignments.{listed_assignment, are_true}
use Rattle.ffc_rules.proofs.AssignmentLemmas.{AreConstants, AreDifferent, Among, constant_listed, constant_agrees}
use Rattle.ffc_rules.proofs.CaseLemmas.{AreTrue-from_test, test-from_AreTrue, true_alike}
use Rattle.ffc_check.specs.Assigning.{with_values}
use Rattle.ffc_check.proofs.AssignLemmas.{value_given}

-- two truth values are one where each is true if the other is
same_truths : (a b : Bool) → (a ≡ true → b ≡ true) → (b ≡ true → a ≡ true) → a ≡ b
same_truths true b there back = sym (there refl)
same_truths false true there back = back refl
same_truths false false there back = refl

-- The constants of a check were given the values of a list: then what is true is what is true with that list.
pub same_model : (ns : List Node) (ids constants : List ℕ) (pairs : List (ℕ × ℕ)) (values : List Value) → IsTable ns → AreConstantsOf ns ids constants → length values ≡ constant_count ns
    → AreConstants ns pairs → AreDifferent pairs → ((id : ℕ) → Contains constants id → (n : ℕ) × Among (id, n) pairs)
    → are_true ns ids (with_values ns values pairs) ≡ are_true ns ids (listed_assignment ns pairs)
same_model ns ids constants pairs values table of long are differ named =
    let given = with_values ns values pairs in
    let listed = listed_assignment ns pairs in
    let alike = λ (id : ℕ) (has : Contains constants id).
    let pair = named id has in
    constant_agrees ns given listed id table ((of.each id).0 has).1
    (value_given ns table.well_formed pairs (id, pair.0) values long are differ pair.1 ∙ sym (constant_listed ns pairs (id, pair.0) table.well_formed are differ pair.1)) in
    same_truths (are_true ns ids given) (are_true ns ids listed)
    (λ e. test-from_AreTrue ns ids listed (true_alike ns ids constants given listed table of alike (AreTrue-from_test ns ids given e)))
    (λ e. test-from_AreTrue ns ids given (true_alike ns ids constants listed given table of (λ id has. sym (alike id has)) (AreTrue-from_test ns ids listed e)))
