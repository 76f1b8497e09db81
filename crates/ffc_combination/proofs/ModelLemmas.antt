-- Values of the constants of a flat check at which no literal of what is forced is false make all assertions true.
use Rattle.std.proofs.Common.{inl, inr, None, ◌≡◌, ℕ, ◌+◌, ◌<◌, ◌≤◌, ◌==◌, Bool, true, false, cond, if◌then◌else◌, List, [], ◌∷◌, length, map, filter, take, get_or, All, Contains, Some, refl, sym, ap, ap₂, ◌∙◌, subst, eqb-true}
use Rattle.std.specs.List.{AllByRecursion, range_with_len}
use Rattle.std.specs.List.Sorted.{IsStrictlyIncreasing}
use Rattle.std.proofs.Math.Seq.{take-append_seam}
use Rattle.std.proofs.lemmas.Bool.{false≢true, and_parts, cases_lt, le-ltb, lt-ltb}
use Rattle.std.proofs.lemmas.List.Elements.{All-contains, All-from_recursion, Contains-append_left, Contains-append_right, Contains-get_or, recursion_from_All}
use Rattle.std.proofs.lemmas.List.Sums.{AllPass-from_list_all}
use Rattle.std.proofs.lemmas.Option.{none-some, same_Some}
use Rattle.ffc_bounds.specs.Combinations.{literals_of, node_variables}
use Rattle.ffc_bounds.specs.Conjunctions.{disequations, equations, field_constants, field_nodes, has_no_ite, is_conjunction, is_field_constant, is_field_ite}
use Rattle.ffc_check.proofs.CaseLemmas.{within}
use Rattle.ffc_clause.specs.Clauses.{Literal, plus, minus}
use Rattle.ffc_linear.proofs.AssertedTruthLemmas.{conjunction_true}
use Rattle.ffc_linear.proofs.FormValueLemmas.{IsFieldConstantAt, given_residues}
use Rattle.ffc_refutation.specs.declared.reason.Reason.{Reason}
use Rattle.ffc_rules.proofs.AssignmentLemmas.{node_at-is}
use Rattle.ffc_rules.proofs.CaseLemmas.{each_contained, named_each}
use Rattle.ffc_rules.specs.Assignments.{value_of_constant, value_of_number}
use Rattle.ffc_rules.specs.Clauses.{AreTrue}
use Rattle.ffc_rules.specs.Cones.{atoms, cone, is_equality}
use Rattle.ffc_rules.specs.Entries.{NodeCheck}
use Rattle.ffc_rules.specs.Laws.{Agrees}
use Rattle.ffc_term.proofs.ListLemmas.{Contains-from_filter}
use Rattle.ffc_term.proofs.TableLemmas.{sort_at-is}
use Rattle.ffc_term.specs.declared.node.Node.{Node}
use Rattle.ffc_term.specs.declared.node.Node.TheVariants.{FieldConst, IteField}
use Rattle.ffc_term.specs.declared.value.Value.{Value}
use Rattle.ffc_term.specs.declared.value.Value.TheVariants as value
use Rattle.ffc_term.specs.Measuring.{value_count}
use Rattle.ffc_term.specs.Nodes.{IsNodeAt, IsConstantAt, node_at, order_at, order_of_sort}
use Rattle.ffc_term.specs.Values.{is_same_truth, truth, value_at}
use Rattle.ffc_trees.specs.NodePolynomials.{is_variable}
use Rattle.ffc_trials.specs.Known.{AreModelValuesOf}
use Rattle.ffc_combination.specs.Choices.{constants_at, constants_if}
use Rattle.ffc_combination.specs.declared.choices.Choice.{Choice}
use Rattle.ffc_combination.specs.Flat.{is_flat}
use Rattle.ffc_combination.specs.Search.{IsChosen, IsInField}
use Rattle.ffc_combination.specs.Solving.{residue_at}
use Rattle.ffc_combination.specs.Values.{AreValuesUnder, IsFieldConstant, truth_by}
use Rattle.ffc_combination.proofs.AssertedLemmas.{equation_forced, disequation_forced, in_mapped}
use Rattle.ffc_combination.proofs.ForcedLemmas.{atom_usable, cone_inside, field_listed, node_in_cone, variable_listed, variables_rise}
use Rattle.ffc_combination.proofs.TruthLemmas.{equality_alike, mapped_alike, value_from_truth}

-- ---- the constants

-- a variable is a constant where there is no `ite`
variable_constant : (n : Node) → (if is_field_ite n then false else true) ≡ true → is_variable n ≡ is_field_constant n
variable_constant (IteField d a b) none = absurd (false≢true none)
variable_constant (FieldConst k q) none = refl
variable_constant _ none = refl

same_filter : (ns : List Node) (xs : List ℕ) → AllByRecursion (λ id. (if is_field_ite (node_at ns id) then false else true) ≡ true) xs → filter (λ id. is_variable (node_at ns id)) xs ≡ filter (λ id. is_field_constant (node_at ns id)) xs
same_filter ns [] none = refl
same_filter ns (x ∷ xs) none = ap₂ (λ b rest. cond b (x ∷ rest) rest) (variable_constant (node_at ns x) none.0) (same_filter ns xs none.1)

pub variables_are_constants : (c : NodeCheck) → has_no_ite c.nodes c.in_force ≡ true → node_variables c.nodes c.in_force ≡ field_constants c.nodes c.in_force
variables_are_constants c none =
    let test = λ (id : ℕ). if is_field_ite (node_at c.nodes id) then false else true in
    same_filter c.nodes (cone c.nodes c.in_force) (recursion_from_All (λ id. test id ≡ true) (cone c.nodes c.in_force) (AllPass-from_list_all test (cone c.nodes c.in_force) none))

-- a flat check whose variables are the first ones of a choice, so many
pub record IsFlatFor (c : NodeCheck) (xs : List ℕ) (count : ℕ) : Type 0 where
  pub no_ite : has_no_ite c.nodes c.in_force ≡ true
  pub conjunction : is_conjunction c.nodes c.in_force ≡ true
  pub count_is : count ≡ length (node_variables c.nodes c.in_force)
  pub first_are : take count xs ≡ node_variables c.nodes c.in_force

counted : (b : Bool) (own : List ℕ) (count : ℕ) → constants_if b own ≡ Some count → (b ≡ true) × (count ≡ length own)
counted true own count is = (refl, sym (same_Some (length own) count is))
counted false own count is = absurd (none-some count is)

-- where constants are solved for at a degree, they are those of the choice, and it is no lower one
pub solved_at : (d : ℕ) (x : Choice) (count : ℕ) → constants_at d x ≡ Some count → (x.constants ≡ Some count) × (x.lowest ≤ d)
solved_at d x count some =
    elim (cases_lt d x.lowest) as (λ _. (x.constants ≡ Some count) × (x.lowest ≤ d)) [
      | inl below ↦ absurd (none-some count (sym (ap (λ b. cond b None x.constants) (lt-ltb d x.lowest below)) ∙ some))
      | inr above ↦ (sym (ap (λ b. cond b None x.constants) (le-ltb d x.lowest above)) ∙ some, above)
    ]

pub flat_for : (c : NodeCheck) (p d : ℕ) (reasons : List Reason) (x : Choice) (tested : List Literal) (count : ℕ) → IsChosen c p d reasons x tested → constants_at d x ≡ Some count → IsFlatFor c x.variables.items count
flat_for c p d reasons x tested count chosen some =
    let own = node_variables c.nodes c.in_force in
    let known = counted (is_flat c) own count (sym chosen.choice.constants ∙ (solved_at d x count some).0) in
    let parts = and_parts (has_no_ite c.nodes c.in_force) (is_conjunction c.nodes c.in_force) known.0 in
    record {
      no_ite = parts.0;
      conjunction = parts.1;
      count_is = known.1;
      first_are =
          ap₂ take known.1 chosen.choice.variables
          ∙ take-append_seam own (range_with_len (length c.nodes + length chosen.equal) (length chosen.other));
    }

module _ (c : NodeCheck) (p : ℕ) (check : IsInField c p) (no_ite : has_no_ite c.nodes c.in_force ≡ true) where
  abbrev own : List ℕ
  own = node_variables c.nodes c.in_force

  constant_in_cone : (id : ℕ) → Contains (node_variables c.nodes c.in_force) id → Contains (cone c.nodes c.in_force) id × (is_field_constant (node_at c.nodes id) ≡ true)
  constant_in_cone id has =
      Contains-from_filter (λ i. is_field_constant (node_at c.nodes i)) (cone c.nodes c.in_force) id (subst (λ ids. Contains ids id) (variables_are_constants c no_ite) has)

  pub are_field_constants : AllByRecursion (IsFieldConstant c.nodes) (node_variables c.nodes c.in_force)
  are_field_constants =
      each_contained (IsFieldConstant c.nodes) (node_variables c.nodes c.in_force)
      (λ id has. let is = constant_in_cone id has in record { inside = cone_inside c check.valid id is.0; constant = is.1 })

  of_order : (id : ℕ) (n : Node) → Contains (cone c.nodes c.in_force) id → IsNodeAt c.nodes id n → is_field_constant n ≡ true → IsFieldConstantAt c.nodes p id
  of_order id (FieldConst k q) in_cone at is =
      let inside = cone_inside c check.valid id in_cone in
      let listed = field_listed c check.valid id q in_cone (inside, sort_at-is c.nodes id (FieldConst k q) at) in
      let passes : (order_at c.nodes id == p) ≡ true =
      All-contains (λ i. (order_at c.nodes i == p) ≡ true) (field_nodes c.nodes c.in_force) id (AllPass-from_list_all (λ i. order_at c.nodes i == p) (field_nodes c.nodes c.in_force) check.field) listed in
      let order : order_at c.nodes id ≡ q = ap order_of_sort (sort_at-is c.nodes id (FieldConst k q) at) in
      let same : q ≡ p = sym order ∙ eqb-true (order_at c.nodes id) p passes in
      subst (λ r. IsFieldConstantAt c.nodes r id) same (k, at)
  of_order id _ in_cone at is = absurd (false≢true is)

  are_of_order : AllByRecursion (IsFieldConstantAt c.nodes p) (node_variables c.nodes c.in_force)
  are_of_order =
      each_contained (IsFieldConstantAt c.nodes p) (node_variables c.nodes c.in_force)
      (λ id has. let is = constant_in_cone id has in of_order id (node_at c.nodes id) is.0 (node_in_cone c check.valid id is.0) is.1)

  module _ (pairs : List (ℕ × ℕ)) (names : map (λ q. q.0) pairs ≡ node_variables c.nodes c.in_force) (below : AllByRecursion (λ q. q.1 < p) pairs) where
    named_of_order : AllByRecursion (λ q. IsFieldConstantAt c.nodes p q.0) pairs
    named_of_order = named_each (IsFieldConstantAt c.nodes p) pairs (subst (AllByRecursion (IsFieldConstantAt c.nodes p)) (sym names) are_of_order)

    -- the constants have the values that they are given
    pub residues_given : (A : List Value) → Agrees c.nodes pairs A → map (residue_at c A) (node_variables c.nodes c.in_force) ≡ map (λ q. q.1) pairs
    residues_given A agrees =
        let Given : ℕ × ℕ → Type 0 = λ q. value_of_constant c.nodes A q.0 ≡ value_of_number (node_at c.nodes q.0) q.1 in
        ap (map (residue_at c A)) (sym names) ∙ given_residues c.nodes A p check.valid.table pairs named_of_order below (recursion_from_All Given pairs agrees)

    residues_alike : (A B : List Value) → Agrees c.nodes pairs A → Agrees c.nodes pairs B → (x : ℕ) → Contains (node_variables c.nodes c.in_force) x → residue_at c A x ≡ residue_at c B x
    residues_alike A B one two x has = mapped_alike (residue_at c A) (residue_at c B) (node_variables c.nodes c.in_force) x (residues_given A one ∙ sym (residues_given B two)) has

    -- so an equality has one value
    atom_alike : (A B : List Value) → Agrees c.nodes pairs A → Agrees c.nodes pairs B → (id : ℕ) → Contains (atoms c.nodes c.in_force) id → value_at c.nodes A id ≡ value_at c.nodes B id
    atom_alike A B one two id has =
        let u = atom_usable c check.valid p check.field check.limit id has in
        equality_alike p c.nodes check.valid.table id u.equality A B (node_variables c.nodes c.in_force) (variable_listed c check.valid p check.field id has) (residues_alike A B one two)

-- ---- the model

are_constants : (ns : List Node) (p : ℕ) (pairs : List (ℕ × ℕ)) → AllByRecursion (λ q. IsFieldConstantAt ns p q.0) pairs → AllByRecursion (λ q. IsConstantAt ns q.0) pairs
are_constants ns p [] are = tt
are_constants ns p (q ∷ pairs) are = ((FieldConst are.0.0 p, are.0.1, refl), are_constants ns p pairs are.1)

values_fit : (ns : List Node) (p : ℕ) (pairs : List (ℕ × ℕ)) → AllByRecursion (λ q. IsFieldConstantAt ns p q.0) pairs → AllByRecursion (λ q. q.1 < p) pairs → AllByRecursion (λ q. q.1 < value_count (node_at ns q.0)) pairs
values_fit ns p [] are below = tt
values_fit ns p (q ∷ pairs) are below = (
  subst (λ n. q.1 < value_count n) (sym (node_at-is ns q.0 (FieldConst are.0.0 p) are.0.1)) below.0,
  values_fit ns p pairs are.1 below.1,
)

-- a literal that is false
true_where_denied : (b : Bool) → is_same_truth false b ≡ false → b ≡ true
true_where_denied true is = refl
true_where_denied false is = absurd (false≢true (sym is))

false_where_claimed : (b : Bool) → is_same_truth true b ≡ false → b ≡ false
false_where_claimed true is = is
false_where_claimed false is = refl

module _ (c : NodeCheck) (p d : ℕ) (reasons : List Reason) (x : Choice) (tested : List Literal) (count : ℕ) (chosen : IsChosen c p d reasons x tested) (some : constants_at d x ≡ Some count)
    (pairs : List (ℕ × ℕ)) (names : map (λ q. q.0) pairs ≡ node_variables c.nodes c.in_force) (below : AllByRecursion (λ q. q.1 < p) pairs)
    (values : List Value) (under : AreValuesUnder c pairs values) (none : All (λ l. truth_by values l ≡ false) tested) where
  flat : IsFlatFor c x.variables.items count
  flat = flat_for c p d reasons x tested count chosen some

  abbrev A : List Value
  A = under.assignment

  tested_false : (l : Literal) → Contains (literals_of chosen.equal chosen.unequal) l → Contains (cone c.nodes c.in_force) l.1 → is_same_truth l.0 (truth (value_at c.nodes under.assignment l.1)) ≡ false
  tested_false l has in_cone =
      ap (λ v. is_same_truth l.0 (truth v)) (sym (under.each l.1 in_cone))
      ∙ All-contains (λ l. truth_by values l ≡ false) tested l none (subst (λ ls. Contains ls l) (sym chosen.tested_are) has)

  atom_in_cone : (id : ℕ) → Contains (atoms c.nodes c.in_force) id → Contains (cone c.nodes c.in_force) id
  atom_in_cone id has = (Contains-from_filter (λ i. is_equality (node_at c.nodes i)) (cone c.nodes c.in_force) id has).0

  equal_true : (B : List Value) → Agrees c.nodes pairs B → (id : ℕ) → Contains chosen.equal id → value_at c.nodes B id ≡ value.Bool true
  equal_true B agrees id has =
      let atom = ((chosen.forced.equal_are id).0 has).0 in
      let u = atom_usable c chosen.check.valid p chosen.check.field chosen.check.limit id atom in
      let is = true_where_denied (truth (value_at c.nodes under.assignment id))
      (tested_false (minus id) (Contains-append_left (map minus chosen.equal) (map plus chosen.unequal) (minus id) (in_mapped minus chosen.equal id has)) (atom_in_cone id atom)) in
      atom_alike c p chosen.check flat.no_ite pairs names below B under.assignment agrees under.agrees id atom
      ∙ value_from_truth p c.nodes chosen.check.valid.table id u.equality under.assignment true is

  unequal_false : (B : List Value) → Agrees c.nodes pairs B → (id : ℕ) → Contains chosen.unequal id → value_at c.nodes B id ≡ value.Bool false
  unequal_false B agrees id has =
      let atom = ((chosen.forced.unequal_are id).0 has).0 in
      let u = atom_usable c chosen.check.valid p chosen.check.field chosen.check.limit id atom in
      let is = false_where_claimed (truth (value_at c.nodes under.assignment id))
      (tested_false (plus id) (Contains-append_right (map minus chosen.equal) (map plus chosen.unequal) (plus id) (in_mapped plus chosen.unequal id has)) (atom_in_cone id atom)) in
      atom_alike c p chosen.check flat.no_ite pairs names below B under.assignment agrees under.agrees id atom
      ∙ value_from_truth p c.nodes chosen.check.valid.table id u.equality under.assignment false is

  all_true : (B : List Value) → Agrees c.nodes pairs B → AreTrue c.nodes c.in_force B
  all_true B agrees =
      let valid = chosen.check.valid in
      conjunction_true c.nodes c.in_force B valid.table
      (λ k e inside.
      equal_true B agrees (get_or (equations c.nodes c.in_force) k e)
      (equation_forced c valid chosen.equal chosen.unequal chosen.forced (get_or (equations c.nodes c.in_force) k e) (Contains-get_or (equations c.nodes c.in_force) k e inside)))
      (λ k e inside.
      unequal_false B agrees (get_or (disequations c.nodes c.in_force) k e)
      (disequation_forced c valid chosen.equal chosen.unequal chosen.forced (get_or (disequations c.nodes c.in_force) k e) (Contains-get_or (disequations c.nodes c.in_force) k e inside)))
      flat.conjunction (within c valid)

  pub is_model : (map (λ q. q.0) pairs ≡ field_constants c.nodes c.in_force) × AreModelValuesOf c pairs
  is_model =
      let are = named_of_order c p chosen.check flat.no_ite pairs names below in (
        names ∙ variables_are_constants c flat.no_ite,
        record {
          increasing = subst IsStrictlyIncreasing (sym names) (variables_rise c chosen.check.valid);
          constants = All-from_recursion (λ q. IsConstantAt c.nodes q.0) pairs (are_constants c.nodes p pairs are);
          fit = All-from_recursion (λ q. q.1 < value_count (node_at c.nodes q.0)) pairs (values_fit c.nodes p pairs are below);
          true_of = all_true;
        },
      )
