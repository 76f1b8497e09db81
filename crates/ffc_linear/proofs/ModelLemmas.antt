-- Values that solve the system of a check make all its assertions true.
use Rattle.std.proofs.Common.{inl, inr, ◌≡◌, ◌≢◌, ℕ, ◌<◌, ◌==◌, nat_lt, true, false, List, [], ◌∷◌, ◌++◌, length, map, All, Contains, refl, sym, ap, ◌∙◌, subst, eqb-true}
use Rattle.std.specs.List.{AllByRecursion}
use Rattle.std.specs.List.Sorted.{IsStrictlyIncreasing}
use Rattle.std.proofs.lemmas.Bool.{false≢true, cases_lt, lt-ltb}
use Rattle.std.proofs.lemmas.List.{get_or_past}
use Rattle.std.proofs.lemmas.List.Elements.{All-contains, All-weaker, All-from_recursion, recursion_from_All}
use Rattle.std.proofs.lemmas.List.Kept.{IsStrictlyIncreasing-filter}
use Rattle.std.proofs.lemmas.List.Sums.{AllPass-from_list_all}
use Rattle.ffc_bounds.specs.Conjunctions.{equations, disequations, field_nodes, field_constants, has_order, is_field_constant}
use Rattle.ffc_echelon.specs.Vectors.{Coordinates, AreCoordinates, dot}
use Rattle.ffc_rules.specs.Assignments.{value_of_constant, value_of_number}
use Rattle.ffc_rules.specs.Clauses.{AreTrue}
use Rattle.ffc_rules.specs.Cones.{cone}
use Rattle.ffc_rules.specs.Entries.{NodeCheck, is_equality_at}
use Rattle.ffc_rules.specs.Laws.{Agrees}
use Rattle.ffc_rules.proofs.AssignmentLemmas.{node_at-is}
use Rattle.ffc_rules.proofs.CaseLemmas.{each_contained, named_each}
use Rattle.ffc_rules.proofs.ConeLemmas.{cone_nodes}
use Rattle.ffc_term.specs.declared.node.Node.{Node}
use Rattle.ffc_term.specs.declared.node.Node.TheVariants.{True, FieldConst}
use Rattle.ffc_term.specs.declared.value.Value.{Value}
use Rattle.ffc_term.specs.declared.value.Value.TheVariants as value
use Rattle.ffc_term.specs.Measuring.{value_count}
use Rattle.ffc_term.specs.Nodes.{IsNodeAt, IsConstantAt, node_at, order_at, order_of_sort}
use Rattle.ffc_term.specs.Tables.{IsTable, IsBooleanAt}
use Rattle.ffc_term.specs.Values.{value_at}
use Rattle.ffc_term.proofs.ListLemmas.{Contains-filter, Contains-from_filter}
use Rattle.ffc_term.proofs.NodeLemmas.{IsNodeAt-get_or}
use Rattle.ffc_term.proofs.TableLemmas.{sort_at-is}
use Rattle.ffc_term.proofs.ValueLemmas.{IsOrder-positive}
use Rattle.ffc_trials.specs.Known.{AreModelValuesOf}
use Rattle.ffc_linear.specs.Refuting.{IsUsable}
use Rattle.ffc_linear.specs.Systems.{IsSystemOf, Solves}
use Rattle.ffc_linear.proofs.AssertedTruthLemmas.{conjunction_true}
use Rattle.ffc_linear.proofs.FormValueLemmas.{residue_at, IsFieldConstantAt, distinct_from_increasing, given_residues, equalities_true, equalities_false}

-- a node that passes the test is a field constant
constant_of : (ns : List Node) (id : ℕ) (n : Node) → IsNodeAt ns id n → is_field_constant n ≡ true → (p : ℕ) × IsFieldConstantAt ns p id
constant_of ns id (FieldConst k p) at is = (p, (k, at))
constant_of ns id _ at is = absurd (false≢true is)

constant_at : (ns : List Node) (id : ℕ) → is_field_constant (node_at ns id) ≡ true → (p : ℕ) × IsFieldConstantAt ns p id
constant_at ns id is =
    elim (cases_lt id (length ns)) as (λ _. (p : ℕ) × IsFieldConstantAt ns p id) [
      | inl inside ↦ constant_of ns id (node_at ns id) (IsNodeAt-get_or ns id True inside) is
      | inr past ↦ absurd (false≢true (ap is_field_constant (sym (get_or_past ns id True past)) ∙ is))
    ]

module _ (ns : List Node) (ids : List ℕ) (p : ℕ) (table : IsTable ns) (field : has_order ns ids p ≡ true) where
  -- a field constant among the nodes of a check is of the order of all of them
  constant_in : (id : ℕ) → Contains (field_constants ns ids) id → IsFieldConstantAt ns p id
  constant_in id has =
      let (in_cone, is) = Contains-from_filter (λ i. is_field_constant (node_at ns i)) (cone ns ids) id has in
      let found = constant_at ns id is in
      let q = found.0 in
      let (k, at) = found.1 in
      let order : order_at ns id ≡ q = ap order_of_sort (sort_at-is ns id (FieldConst k q) at) in
      let positive : 0 < q = IsOrder-positive q (table.well_formed.fits id (FieldConst k q) at) in
      let tested : nat_lt 0 (order_at ns id) ≡ true = ap (nat_lt 0) order ∙ lt-ltb 0 q positive in
      let among : Contains (field_nodes ns ids) id = Contains-filter (λ i. nat_lt 0 (order_at ns i)) (cone ns ids) id in_cone tested in
      let passes : (order_at ns id == p) ≡ true =
      All-contains (λ i. (order_at ns i == p) ≡ true) (field_nodes ns ids) id (AllPass-from_list_all (λ i. order_at ns i == p) (field_nodes ns ids) field) among in
      let same : q ≡ p = sym order ∙ eqb-true (order_at ns id) p passes in
      subst (λ r. IsFieldConstantAt ns r id) same (k, at)

  constants_of_order : AllByRecursion (IsFieldConstantAt ns p) (field_constants ns ids)
  constants_of_order = each_contained (IsFieldConstantAt ns p) (field_constants ns ids) constant_in

are_constants : (ns : List Node) (p : ℕ) (pairs : List (ℕ × ℕ)) → AllByRecursion (λ q. IsFieldConstantAt ns p q.0) pairs → AllByRecursion (λ q. IsConstantAt ns q.0) pairs
are_constants ns p [] are = tt
are_constants ns p (q ∷ pairs) are = ((FieldConst are.0.0 p, are.0.1, refl), are_constants ns p pairs are.1)

values_fit : (ns : List Node) (p : ℕ) (pairs : List (ℕ × ℕ)) → AllByRecursion (λ q. IsFieldConstantAt ns p q.0) pairs → AllByRecursion (λ q. q.1 < p) pairs → AllByRecursion (λ q. q.1 < value_count (node_at ns q.0)) pairs
values_fit ns p [] are below = tt
values_fit ns p (q ∷ pairs) are below = (
  subst (λ n. q.1 < value_count n) (sym (node_at-is ns q.0 (FieldConst are.0.0 p) are.0.1)) below.0,
  values_fit ns p pairs are.1 below.1,
)

usable_equalities : (c : NodeCheck) (p : ℕ) (ids : List ℕ) → All (IsUsable c p) ids → AllByRecursion (λ id. is_equality_at c.nodes p id ≡ true) ids
usable_equalities c p ids usable =
    recursion_from_All (λ id. is_equality_at c.nodes p id ≡ true) ids
    (All-weaker (IsUsable c p) (λ id. is_equality_at c.nodes p id ≡ true) (λ id is. is.equality) ids usable)

module _ (c : NodeCheck) (p : ℕ) (pairs : List (ℕ × ℕ)) (equal unequal : List Coordinates) (system : IsSystemOf c p (map (λ q. q.0) pairs) equal unequal)
    (below : AllByRecursion (λ q. q.1 < p) pairs) where
  within : All (λ id. id < length c.nodes) c.in_force
  within = All-weaker (IsBooleanAt c.nodes) (λ id. id < length c.nodes) (λ id is. is.0) c.in_force system.valid.boolean

  names_increase : IsStrictlyIncreasing (map (λ q. q.0) pairs)
  names_increase =
      subst IsStrictlyIncreasing (sym system.constants_are)
      (IsStrictlyIncreasing-filter (λ id. is_field_constant (node_at c.nodes id)) (cone c.nodes c.in_force) (cone_nodes c.nodes c.in_force system.valid.table within).increasing)

  names_constants : AllByRecursion (λ q. IsFieldConstantAt c.nodes p q.0) pairs
  names_constants =
      named_each (IsFieldConstantAt c.nodes p) pairs
      (subst (AllByRecursion (IsFieldConstantAt c.nodes p)) (sym system.constants_are) (constants_of_order c.nodes c.in_force p system.valid.table system.field))

  all_true : Solves p equal unequal (map (λ q. q.1) pairs) → (A : List Value) → Agrees c.nodes pairs A → AreTrue c.nodes c.in_force A
  all_true solves A agrees =
      let table = system.valid.table in
      let names = map (λ (q : ℕ × ℕ). q.0) pairs in
      let distinct = distinct_from_increasing names names_increase in
      let Given : ℕ × ℕ → Type 0 = λ q. value_of_constant c.nodes A q.0 ≡ value_of_number (node_at c.nodes q.0) q.1 in
      let given = given_residues c.nodes A p table pairs names_constants below (recursion_from_All Given pairs agrees) in
      let Zero : List ℕ → Coordinates → Type 0 = λ vs v. dot p (vs ++ 1 ∷ []) v ≡ 0 in
      let Apart : List ℕ → Coordinates → Type 0 = λ vs v. dot p (vs ++ 1 ∷ []) v ≢ 0 in
      let zeros = subst (λ vs. All (Zero vs) equal) (sym given) solves.zeros in
      let some = subst (λ vs. All (Apart vs) unequal) (sym given) solves.apart in
      let points = map (residue_at c.nodes A) names in
      let equations_true = equalities_true c.nodes A p table names distinct (equations c.nodes c.in_force) equal (usable_equalities c p (equations c.nodes c.in_force) system.equal_usable) system.equal_forms
      (recursion_from_All (AreCoordinates p) equal system.equal_valid) (recursion_from_All (Zero points) equal zeros) in
      let disequations_false = equalities_false c.nodes A p table names distinct (disequations c.nodes c.in_force) unequal (usable_equalities c p (disequations c.nodes c.in_force) system.unequal_usable) system.unequal_forms
      (recursion_from_All (AreCoordinates p) unequal system.unequal_valid) (recursion_from_All (Apart points) unequal some) in
      conjunction_true c.nodes c.in_force A table
      (All-from_recursion (λ id. value_at c.nodes A id ≡ value.Bool true) (equations c.nodes c.in_force) equations_true)
      (All-from_recursion (λ id. value_at c.nodes A id ≡ value.Bool false) (disequations c.nodes c.in_force) disequations_false)
      system.plain within

  model_values : Solves p equal unequal (map (λ q. q.1) pairs) → AreModelValuesOf c pairs
  model_values solves = record {
    increasing = names_increase;
    constants = All-from_recursion (λ q. IsConstantAt c.nodes q.0) pairs (are_constants c.nodes p pairs names_constants);
    fit = All-from_recursion (λ q. q.1 < value_count (node_at c.nodes q.0)) pairs (values_fit c.nodes p pairs names_constants below);
    true_of = all_true solves;
  }

-- pairs of the constants with values below the order
pub paired_values : (c : NodeCheck) (p : ℕ) (constants values : List ℕ) (pairs : List (ℕ × ℕ)) (equal unequal : List Coordinates)
    → map (λ q. q.0) pairs ≡ constants → map (λ q. q.1) pairs ≡ values → All (λ q. q.1 < p) pairs
    → IsSystemOf c p constants equal unequal → Solves p equal unequal values → AreModelValuesOf c pairs
paired_values c p constants values pairs equal unequal names numbers below system solves =
    model_values c p pairs equal unequal (subst (λ ids. IsSystemOf c p ids equal unequal) (sym names) system)
    (recursion_from_All (λ q. q.1 < p) pairs below) (subst (λ vs. Solves p equal unequal vs) (sym numbers) solves)
