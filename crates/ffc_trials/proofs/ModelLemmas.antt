-- What is true under an assignment is determined by the numbers that it gives constants.
use Rattle.std.proofs.Common.{◌≡◌, ℕ, ◌/◌, ◌<◌, Bool, true, false, cond, List, [], ◌∷◌, length, All, Contains, refl, sym, ap, ◌∙◌, subst, arith}
use Rattle.std.specs.List.{AllByRecursion}
use Rattle.std.proofs.Math.Nat.{mod-lt}
use Rattle.std.proofs.lemmas.Bool.{false≢true}
use Rattle.ffc_term.specs.declared.node.Node.{Node}
use Rattle.ffc_term.specs.declared.node.Node.TheVariants.{BoolConst, FieldConst}
use Rattle.ffc_term.specs.declared.value.Value.{Value}
use Rattle.ffc_term.specs.declared.value.Value.TheVariants as value
use Rattle.ffc_term.specs.Nodes.{IsConstantAt, is_constant, node_at}
use Rattle.ffc_term.specs.Tables.{IsTable, IsWellFormed}
use Rattle.ffc_term.specs.Checks.{AreConstantsOf}
use Rattle.ffc_term.specs.Values.{value_at, value_in, value_of_node, truth_in}
use Rattle.ffc_term.specs.Measuring.{value_count}
use Rattle.ffc_term.proofs.ValueLemmas.{value_at-is}
use Rattle.ffc_rules.specs.Assignments.{number_of_constant, digits, listed_assignment, numbered_assignment, are_true}
use Rattle.ffc_rules.specs.Cones.{cone_constants}
use Rattle.ffc_rules.proofs.AssignmentLemmas.{AreConstants, AreDifferent, Among, from_each, node_at-is, constant_listed}
use Rattle.ffc_rules.proofs.CaseLemmas.{AreTrue-from_test, test-from_AreTrue, true_alike, named_among, increasing_apart}
use Rattle.ffc_check.proofs.CaseLemmas.{one_list, constants_each}
use Rattle.ffc_trials.specs.Counting.{number_for, number_given, GivesNumbers, HasDigits}
use Rattle.ffc_trials.proofs.CountingLemmas.{number_for-value, constant_node, count_positive, digits_each, digits_named, digits_differ}

same_bool : (a b : Bool) → (let one : ℕ = 1 in let none : ℕ = 0 in cond a one none ≡ cond b one none) → a ≡ b
same_bool true true e = refl
same_bool false false e = refl
same_bool true false e = absurd (omega arith)
same_bool false true e = absurd (omega arith)

-- constants' nodes have one value where they are given one number
node_same : (p : ℕ) (A B known other : List Value) (n : Node) → is_constant n ≡ true → number_for n (value_in A (number_of_constant n)) ≡ number_for n (value_in B (number_of_constant n)) → value_of_node p A known n ≡ value_of_node p B other n
node_same p A B known other (BoolConst k) const same = ap value.Bool (same_bool (truth_in A k) (truth_in B k) same)
node_same p A B known other (FieldConst k q) const same = ap value.Field same
node_same p A B known other _ const same = absurd (false≢true const)

constant_same : (ns : List Node) (A B : List Value) (id : ℕ) → IsTable ns → IsConstantAt ns id → number_given ns A id ≡ number_given ns B id → value_at ns A id ≡ value_at ns B id
constant_same ns A B id table (n, at, const) same =
    let here = subst (λ m. number_for m (value_in A (number_of_constant m)) ≡ number_for m (value_in B (number_of_constant m))) (node_at-is ns id n at) same in
    value_at-is ns A id n table.well_formed at ∙ node_same _ A B _ _ n const here ∙ sym (value_at-is ns B id n table.well_formed at)

same_truths : (a b : Bool) → (a ≡ true → b ≡ true) → (b ≡ true → a ≡ true) → a ≡ b
same_truths true b there back = sym (there refl)
same_truths false true there back = back refl
same_truths false false there back = refl

-- where an assignment gives numbers to the constants of a check, what is true is what is true under the assignment that lists them
pub same_model : (ns : List Node) (ids constants : List ℕ) (pairs : List (ℕ × ℕ)) (values : List Value) → IsTable ns → AreConstantsOf ns ids constants
    → AreConstants ns pairs → AreDifferent pairs → AllByRecursion (λ p. p.1 < value_count (node_at ns p.0)) pairs → GivesNumbers ns values pairs
    → ((id : ℕ) → Contains constants id → (n : ℕ) × Among (id, n) pairs)
    → are_true ns ids values ≡ are_true ns ids (listed_assignment ns pairs)
same_model ns ids constants pairs values table of are differ fit gives named =
    let listed = listed_assignment ns pairs in
    let alike = λ (id : ℕ) (has : Contains constants id).
    let pair = named id has in
    let is = ((of.each id).0 has).1 in
    let given : number_given ns values id ≡ pair.0 = from_each (λ p. number_given ns values p.0 ≡ p.1) pairs (id, pair.0) gives pair.1 in
    let small : pair.0 < value_count (node_at ns id) = from_each (λ p. p.1 < value_count (node_at ns p.0)) pairs (id, pair.0) fit pair.1 in
    let stated : number_given ns listed id ≡ pair.0 =
    ap (number_for (node_at ns id)) (constant_listed ns pairs (id, pair.0) table.well_formed are differ pair.1) ∙ number_for-value (node_at ns id) pair.0 (constant_node ns id is) small in
    constant_same ns values listed id table is (given ∙ sym stated) in
    same_truths (are_true ns ids values) (are_true ns ids listed)
    (λ e. test-from_AreTrue ns ids listed (true_alike ns ids constants values listed table of alike (AreTrue-from_test ns ids values e)))
    (λ e. test-from_AreTrue ns ids values (true_alike ns ids constants listed values table of (λ id has. sym (alike id has)) (AreTrue-from_test ns ids listed e)))

digits_fit : (ns : List Node) (formed : IsWellFormed ns) (ids : List ℕ) (k : ℕ) → AllByRecursion (IsConstantAt ns) ids → AllByRecursion (λ p. p.1 < value_count (node_at ns p.0)) (digits ns ids k)
digits_fit ns formed [] k are = tt
digits_fit ns formed (id ∷ ids) k are = (mod-lt k (count_positive ns formed id are.0), digits_fit ns formed ids (k / value_count (node_at ns id)) are.1)

-- an assignment with the digits of a number makes true what the assignment of that number does
pub digits_true : (ns : List Node) (ids constants : List ℕ) → IsTable ns → All (λ id. id < length ns) ids → AreConstantsOf ns ids constants
    → (values : List Value) (k : ℕ) → HasDigits ns constants values k → are_true ns ids values ≡ are_true ns ids (numbered_assignment ns (cone_constants ns ids) k)
unfolding numbered_assignment
digits_true ns ids constants table inside of values k has =
    let pairs = digits ns constants k in
    let each = constants_each ns ids constants table inside of in
    same_model ns ids constants pairs values table of
    (digits_each (IsConstantAt ns) ns constants k each) (digits_differ ns constants k (increasing_apart constants of.increasing)) (digits_fit ns table.well_formed constants k each) has
    (λ id there. named_among constants pairs id (digits_named ns constants k) there)
    ∙ ap (λ cs. are_true ns ids (listed_assignment ns (digits ns cs k))) (one_list ns ids constants table inside of)
