-- A value of the only constant at which all equations are true and no equality of a disequation is.
use Rattle.std.proofs.Common.{inl, inr, ◌≡◌, ◌≢◌, ℕ, ◌<◌, ◌==◌, nat_lt, true, false, List, [], ◌∷◌, length, get_or, All, Contains, refl, sym, ap, ap₂, ◌∙◌, subst, arith, eq-eqb, ne_eqb, eqb-true, take_all}
use Rattle.std.specs.List.Sorted.{IsStrictlyIncreasing}
use Rattle.std.proofs.lemmas.Bool.{false≢true, cases_lt, lt-ltb}
use Rattle.std.proofs.lemmas.List.{get_or_past}
use Rattle.std.proofs.lemmas.List.Elements.{All-nil, All-cons, All-contains, recursion_from_All}
use Rattle.std.proofs.lemmas.List.Sums.{AllPass-from_list_all}
use Rattle.ffc_bounds.specs.Conjunctions.{field_nodes, field_constants, has_order, is_field_constant}
use Rattle.ffc_check.proofs.CaseLemmas.{within}
use Rattle.ffc_conjunction.specs.declared.conjunction.Conjunction.{Conjunction}
use Rattle.ffc_field.specs.Modular.{sub_mod}
use Rattle.ffc_field.proofs.ModularLaws.{sub_mod-self, same_from_sub_mod}
use Rattle.ffc_linear.proofs.AssertedTruthLemmas.{conjunction_true}
use Rattle.ffc_linear.proofs.FormValueLemmas.{residue_at, IsFieldConstantAt, given_residues}
use Rattle.ffc_linear.proofs.SystemLemmas.{constants_increase}
use Rattle.ffc_linear.proofs.TermLemmas.{other_side}
use Rattle.ffc_ring.specs.Polynomial.{poly_value}
use Rattle.ffc_ring.proofs.PolynomialLemmas.{poly_value-difference}
use Rattle.ffc_rules.specs.Assignments.{value_of_constant, value_of_number}
use Rattle.ffc_rules.specs.Clauses.{AreTrue}
use Rattle.ffc_rules.specs.Cones.{cone}
use Rattle.ffc_rules.specs.Entries.{NodeCheck, is_equality_at}
use Rattle.ffc_rules.specs.Laws.{Agrees}
use Rattle.ffc_rules.proofs.AssignmentLemmas.{node_at-is}
use Rattle.ffc_rules.proofs.GivenLemmas.{equality_at}
use Rattle.ffc_term.specs.declared.node.Node.{Node}
use Rattle.ffc_term.specs.declared.node.Node.TheVariants.{True, FieldConst, Eq}
use Rattle.ffc_term.specs.declared.value.Value.{Value}
use Rattle.ffc_term.specs.declared.value.Value.TheVariants as value
use Rattle.ffc_term.specs.Measuring.{value_count}
use Rattle.ffc_term.specs.Nodes.{IsNodeAt, IsConstantAt, node_at, order_at, order_of_sort}
use Rattle.ffc_term.specs.Tables.{IsTable, IsFieldAt}
use Rattle.ffc_term.specs.Values.{value_at}
use Rattle.ffc_term.proofs.ListLemmas.{Contains-filter, Contains-from_filter}
use Rattle.ffc_term.proofs.NodeLemmas.{IsNodeAt-get_or}
use Rattle.ffc_term.proofs.TableLemmas.{sort_at-is}
use Rattle.ffc_term.proofs.ValueLemmas.{value_at-is, IsOrder-positive, IsOrder-from_IsFieldAt}
use Rattle.ffc_trees.specs.FirstLines.{difference_of}
use Rattle.ffc_trees.specs.Laws.{IsPointOf}
use Rattle.ffc_trees.specs.NodePolynomials.{poly_at}
use Rattle.ffc_trees.proofs.NodePolyLemmas.{poly_at-value, node_below}
use Rattle.ffc_trials.specs.Known.{AreModelValuesOf}
use Rattle.ffc_uni.specs.Univariate.{Coefficients, value_of}
use Rattle.ffc_roots.specs.declared.found.Roots.{Roots}
use Rattle.ffc_single.specs.declared.divisor.Divisor.{Divisor}
use Rattle.ffc_single.specs.Decisions.{IsFlatInOne, HasRoots}
use Rattle.ffc_single.specs.Univariate.{AreFormsOf}
use Rattle.ffc_single.proofs.CommonRootLemmas.{form_value, each_difference}
use Rattle.ffc_single.proofs.FlatLemmas.{equations_in, disequations_in}

-- ---- the constant

-- a node that passes the test is a field constant
constant_of : (ns : List Node) (id : ℕ) (n : Node) → IsNodeAt ns id n → is_field_constant n ≡ true → (p : ℕ) × IsFieldConstantAt ns p id
constant_of ns id (FieldConst k p) at is = (p, (k, at))
constant_of ns id _ at is = absurd (false≢true is)

constant_at : (ns : List Node) (id : ℕ) → is_field_constant (node_at ns id) ≡ true → (p : ℕ) × IsFieldConstantAt ns p id
constant_at ns id is =
    elim (cases_lt id (length ns)) as (λ _. (p : ℕ) × IsFieldConstantAt ns p id) [
      | inl inside ↦ constant_of ns id (node_at ns id) (IsNodeAt-get_or ns id True inside) is
      | inr past ↦ absurd (false≢true (ap is_field_constant (sym (get_or_past ns id True past)) ∙ is))
    ]

-- a field constant among the nodes of a check is of the order of all of them
constant_in : (ns : List Node) (ids : List ℕ) (p id : ℕ) → IsTable ns → has_order ns ids p ≡ true → Contains (field_constants ns ids) id → IsFieldConstantAt ns p id
constant_in ns ids p id table field has =
    let (in_cone, is) = Contains-from_filter (λ i. is_field_constant (node_at ns i)) (cone ns ids) id has in
    let found = constant_at ns id is in
    let q = found.0 in
    let (k, at) = found.1 in
    let order : order_at ns id ≡ q = ap order_of_sort (sort_at-is ns id (FieldConst k q) at) in
    let positive : 0 < q = IsOrder-positive q (table.well_formed.fits id (FieldConst k q) at) in
    let tested : nat_lt 0 (order_at ns id) ≡ true = ap (nat_lt 0) order ∙ lt-ltb 0 q positive in
    let among : Contains (field_nodes ns ids) id = Contains-filter (λ i. nat_lt 0 (order_at ns i)) (cone ns ids) id in_cone tested in
    let passes : (order_at ns id == p) ≡ true =
    All-contains (λ i. (order_at ns i == p) ≡ true) (field_nodes ns ids) id (AllPass-from_list_all (λ i. order_at ns i == p) (field_nodes ns ids) field) among in
    let same : q ≡ p = sym order ∙ eqb-true (order_at ns id) p passes in
    subst (λ r. IsFieldConstantAt ns r id) same (k, at)

-- ---- equalities under an assignment

module _ (nodes : List Node) (A : List Value) (p : ℕ) (table : IsTable nodes) where
  -- what an equality says of its sides
  record HasResidues (id : ℕ) : Type 0 where
    left : ℕ
    right : ℕ
    left_below : residue_at nodes A left < p
    right_below : residue_at nodes A right < p
    difference : poly_value p (residue_at nodes A) (difference_of p nodes (node_at nodes id)) ≡ sub_mod p (residue_at nodes A left) (residue_at nodes A right)
    value_is : value_at nodes A id ≡ value.Bool (residue_at nodes A left == residue_at nodes A right)

  residues_of : (id : ℕ) → is_equality_at nodes p id ≡ true → HasResidues id
  residues_of id is =
      let (s, t, at, side) = equality_at nodes p (true, id) table is in
      let other : IsFieldAt nodes p t = other_side nodes id p s t table at side in
      let points : IsPointOf nodes A p (residue_at nodes A) = λ x there. refl in
      record {
        left = s;
        right = t;
        left_below = node_below nodes A p s table side;
        right_below = node_below nodes A p t table other;
        difference =
            ap (λ n. poly_value p (residue_at nodes A) (difference_of p nodes n)) (node_at-is nodes id (Eq s t) at)
            ∙ poly_value-difference p (IsOrder-positive p (IsOrder-from_IsFieldAt nodes s p table.well_formed side)) (residue_at nodes A) (poly_at nodes s) (poly_at nodes t)
            ∙ ap₂ (sub_mod p) (poly_at-value nodes A p (residue_at nodes A) s table points side) (poly_at-value nodes A p (residue_at nodes A) t table points other);
        value_is = value_at-is nodes A id (Eq s t) table.well_formed at;
      }

  -- an equality is true where the difference of its sides is 0, and else false
  equality_true : (id : ℕ) → is_equality_at nodes p id ≡ true → poly_value p (residue_at nodes A) (difference_of p nodes (node_at nodes id)) ≡ 0 → value_at nodes A id ≡ value.Bool true
  equality_true id is none =
      let h = residues_of id is in
      let same = same_from_sub_mod p (residue_at nodes A h.left) (residue_at nodes A h.right) h.left_below h.right_below (sym h.difference ∙ none) in
      h.value_is ∙ ap value.Bool (eq-eqb (residue_at nodes A h.left) (residue_at nodes A h.right) same)

  equality_false : (id : ℕ) → is_equality_at nodes p id ≡ true → poly_value p (residue_at nodes A) (difference_of p nodes (node_at nodes id)) ≢ 0 → value_at nodes A id ≡ value.Bool false
  equality_false id is some =
      let h = residues_of id is in
      let below = h.right_below in
      let self : sub_mod p (residue_at nodes A h.right) (residue_at nodes A h.right) ≡ 0 = sub_mod-self p (residue_at nodes A h.right) (omega arith) in
      h.value_is
      ∙ ap value.Bool (ne_eqb (residue_at nodes A h.left) (residue_at nodes A h.right) (λ same. some (h.difference ∙ ap (λ r. sub_mod p r (residue_at nodes A h.right)) same ∙ self)))

-- ---- the model

module _ (c : NodeCheck) (p x r : ℕ) (conjunction : Conjunction) (flat : IsFlatInOne c p x conjunction) (below : r < p) (equal unequal : List Coefficients)
    (equal_forms : AreFormsOf p c.nodes x conjunction.equations.items equal) (unequal_forms : AreFormsOf p c.nodes x conjunction.disequations.items unequal)
    (zeros : All (λ f. value_of p r f ≡ 0) equal) (apart : All (λ f. value_of p r f ≢ 0) unequal) where
  constant : IsFieldConstantAt c.nodes p x
  constant = constant_in c.nodes c.in_force p x flat.valid.table flat.field (subst (λ ids. Contains ids x) (sym flat.constant) (0, omega arith, refl))

  all_true : (A : List Value) → Agrees c.nodes ((x, r) ∷ []) A → AreTrue c.nodes c.in_force A
  all_true A agrees =
      let table = flat.valid.table in
      let Given : ℕ × ℕ → Type 0 = λ q. value_of_constant c.nodes A q.0 ≡ value_of_number (node_at c.nodes q.0) q.1 in
      let pairs : List (ℕ × ℕ) = (x, r) ∷ [] in
      let given : residue_at c.nodes A x ∷ [] ≡ r ∷ [] = given_residues c.nodes A p table pairs (constant, tt) (below, tt) (recursion_from_All Given pairs agrees) in
      let has : residue_at c.nodes A x ≡ r = cc in
      let point = residue_at c.nodes A in
      let Zero : Coefficients → Type 0 = λ f. value_of p r f ≡ 0 in
      let Some : Coefficients → Type 0 = λ f. value_of p r f ≢ 0 in
      let Equal : ℕ → Type 0 = λ id. poly_value p point (difference_of p c.nodes (node_at c.nodes id)) ≡ 0 in
      let Unequal : ℕ → Type 0 = λ id. poly_value p point (difference_of p c.nodes (node_at c.nodes id)) ≢ 0 in
      let one : All Equal conjunction.equations.items =
      each_difference p c.nodes x Zero Equal conjunction.equations.items equal (λ id f form zero. form_value p c.nodes x id f point form ∙ ap (λ n. value_of p n f) has ∙ zero) equal_forms zeros in
      let two : All Unequal conjunction.disequations.items =
      each_difference p c.nodes x Some Unequal conjunction.disequations.items unequal (λ id f form some none. some (sym (form_value p c.nodes x id f point form ∙ ap (λ n. value_of p n f) has) ∙ none)) unequal_forms apart in
      let first : All (λ id. value_at c.nodes A id ≡ value.Bool true) conjunction.equations.items =
      λ k d inside. equality_true c.nodes A p table (get_or conjunction.equations.items k d) (equations_in c p x conjunction flat k d inside).equality (one k d inside) in
      let second : All (λ id. value_at c.nodes A id ≡ value.Bool false) conjunction.disequations.items =
      λ k d inside. equality_false c.nodes A p table (get_or conjunction.disequations.items k d) (disequations_in c p x conjunction flat k d inside).equality (two k d inside) in
      conjunction_true c.nodes c.in_force A table
      (subst (All (λ id. value_at c.nodes A id ≡ value.Bool true)) flat.literals.equations_are first)
      (subst (All (λ id. value_at c.nodes A id ≡ value.Bool false)) flat.literals.disequations_are second)
      flat.literals.plain (within c flat.valid)

  model : AreModelValuesOf c ((x, r) ∷ [])
  model = record {
    increasing = subst IsStrictlyIncreasing flat.constant (constants_increase c flat.valid);
    constants = All-cons (λ (q : ℕ × ℕ). IsConstantAt c.nodes q.0) (x, r) [] (FieldConst constant.0 p, constant.1, refl) (All-nil (λ (q : ℕ × ℕ). IsConstantAt c.nodes q.0));
    fit = All-cons (λ (q : ℕ × ℕ). q.1 < value_count (node_at c.nodes q.0)) (x, r) [] (subst (λ n. r < value_count n) (sym (node_at-is c.nodes x (FieldConst constant.0 p) constant.1)) below)
        (All-nil (λ (q : ℕ × ℕ). q.1 < value_count (node_at c.nodes q.0)));
    true_of = all_true;
  }

  pub is_model : (pairs : List (ℕ × ℕ)) → pairs ≡ (x, r) ∷ [] → AreModelValuesOf c pairs
  is_model pairs is = subst (AreModelValuesOf c) (sym is) model

-- a root at which no equality of a disequation is true
pub root_is_model : {F : Type 0} (c : NodeCheck) (p x r v : ℕ) (conjunction : Conjunction) (divisor : Divisor F) (roots : Roots F) (unequal : List Coefficients) (pairs : List (ℕ × ℕ)) → HasRoots c p x conjunction divisor roots unequal
    → r ≡ v → Contains roots.zeros v → All (λ f. value_of p v f ≢ 0) unequal → pairs ≡ (x, r) ∷ [] → AreModelValuesOf c pairs
root_is_model c p x r v conjunction divisor roots unequal pairs has same among apart is =
    let known = has.divisor_is in
    let (below, zero) = (has.found.roots v).0 among in
    let zeros : All (λ f. value_of p v f ≡ 0) known.equal = subst (All (λ f. value_of p v f ≡ 0)) (take_all (length known.equal) known.equal (omega arith)) (known.is.roots v zero) in
    is_model c p x v conjunction known.flat below known.equal unequal known.forms has.forms zeros apart pairs (is ∙ ap (λ n. (x, n) ∷ []) same)
