-- Linear checks as systems of affine forms.
use Rattle.std.proofs.Common.{inl, inr, ◌≡◌, ℕ, zero, suc, ◌+◌, ◌<◌, ◌≤◌, ◌==◌, ◌&&◌, nat_lt, nat_le, Bool, true, false, cond, if◌then◌else◌, List, [], ◌∷◌, length, take, flat_map, get_or, slice_get, Some, All, Contains, refl, sym, ap, ap₂, ◌∙◌, subst, arith}
use Rattle.std.specs.List.{list_all}
use Rattle.std.specs.List.Sorted.{IsStrictlyIncreasing}
use Rattle.std.proofs.lemmas.Bool.{false≢true, and_parts, eqb-true, leb-true, lt-ltb, ltb-true, le-ltb}
use Rattle.std.proofs.lemmas.List.Elements.{All-contains, All-nil, All-cons, Contains-get_or, Contains-append_left, Contains-append_right, Contains-append_cases}
use Rattle.std.proofs.lemmas.List.Kept.{IsStrictlyIncreasing-filter}
use Rattle.std.proofs.lemmas.List.Sums.{AllPass-from_list_all}
use Rattle.std.proofs.lemmas.Option.{slice_get-get_or, none-some, same_Some}
use Rattle.ffc_bounds.specs.Conjunctions.{asserted, negated_node, equations, disequations, is_conjunction, field_nodes, field_order, first_order_of, has_order, has_one_order, is_field_constant, field_constants, is_field_ite, has_no_ite}
use Rattle.ffc_bounds.specs.Linear.{most_linear, is_affine, is_linear, is_linear_within, constant_number, equation_number, disequation_number, linear_units}
use Rattle.ffc_check.proofs.CaseLemmas.{within}
use Rattle.ffc_conjunction.proofs.AssertedLemmas.{kept_asserted, cone_within}
use Rattle.ffc_conjunction.specs.Walks.{kept_from, found_from}
use Rattle.ffc_echelon.specs.Vectors.{Coordinates, IsBelow}
use Rattle.ffc_field.specs.Orders.{IsOrder}
use Rattle.ffc_rules.proofs.AssignmentLemmas.{node_at-is}
use Rattle.ffc_rules.proofs.ConeLemmas.{cone_nodes, listed-from_Contains}
use Rattle.ffc_rules.specs.Cones.{is_listed, cone, is_equality, atoms}
use Rattle.ffc_rules.specs.Entries.{NodeCheck, limits, is_equality_at, is_equality_over}
use Rattle.ffc_rules.specs.Laws.{IsValid}
use Rattle.ffc_smt.proofs.ConeLemmas.{cone_through}
use Rattle.ffc_smt.proofs.OrderLemmas.{order_tested}
use Rattle.ffc_smt.specs.Numbers.{is_order}
use Rattle.ffc_term.proofs.ListLemmas.{nothing_in, Contains-filter, Contains-from_filter}
use Rattle.ffc_term.proofs.TableLemmas.{sort_at-take}
use Rattle.ffc_term.proofs.ValueLemmas.{IsOrder-positive, IsOrder-from_IsFieldAt}
use Rattle.ffc_term.proofs.WalkLemmas.{child_below, IsNodeOf-within}
use Rattle.ffc_term.specs.Checks.{IsNodeOf}
use Rattle.ffc_term.specs.Checks.IsNodeOf.{child}
use Rattle.ffc_term.specs.declared.node.Node.{Node}
use Rattle.ffc_term.specs.declared.node.Node.TheVariants.{True, FieldConst, IteField, Not, Eq}
use Rattle.ffc_term.specs.declared.node.Sort.TheVariants as sort
use Rattle.ffc_term.specs.Measuring.{degree_at, length_at}
use Rattle.ffc_term.specs.Nodes.{IsNodeAt, children, node_at, order_at, sort_at, order_of_sort}
use Rattle.ffc_term.specs.Tables.{IsTable, IsFieldAt, AreOfOneField}
use Rattle.ffc_trees.specs.NodePolynomials.{is_variable, IsVariableAt}
use Rattle.ffc_trials.proofs.FieldLemmas.{one_of_eight}
use Rattle.ffc_linear.specs.Affine.{IsAffineForm, AreAffineForms}
use Rattle.ffc_linear.specs.Forming.{IsAffineIn}
use Rattle.ffc_linear.specs.Refuting.{IsUsable}

-- The literals of a check are among its nodes

from_flat_map : (f : ℕ → List ℕ) (xs : List ℕ) (y : ℕ) → Contains (flat_map f xs) y → (x : ℕ) × Contains xs x × Contains (f x) y
from_flat_map f [] y has = absurd (nothing_in y has)
from_flat_map f (x ∷ xs) y has =
    elim (Contains-append_cases (f x) (flat_map f xs) y has) as (λ _. (z : ℕ) × Contains (x ∷ xs) z × Contains (f z) y) [
      | inl here ↦ (x, (0, omega arith, refl), here)
      | inr later ↦ let (z, inside, at) = from_flat_map f xs y later in (z, Contains-append_right (x ∷ []) xs z inside, at)
    ]

-- what is kept of nodes is among them
kept_among : (ns : List Node) (ids xs : List ℕ) (x : ℕ) → Contains (kept_from ns ids xs) x → Contains xs x
unfolding kept_from
kept_among ns ids [] x has = has
kept_among ns ids (y ∷ xs) x has = by_case (is_listed (found_from ns ids xs) y) has (kept_among ns ids xs x)
  where
    by_case : (b : Bool) → Contains (cond b (y ∷ kept_from ns ids xs) (kept_from ns ids xs)) x → (Contains (kept_from ns ids xs) x → Contains xs x) → Contains (y ∷ xs) x
    by_case true now rest =
        elim (Contains-append_cases (y ∷ []) (kept_from ns ids xs) x now) as (λ _. Contains (y ∷ xs) x) [
          | inl here ↦ Contains-append_left (y ∷ []) xs x here
          | inr later ↦ Contains-append_right (y ∷ []) xs x (rest later)
        ]
    by_case false now rest = Contains-append_right (y ∷ []) xs x (rest now)

negated_child : (n : Node) (x : ℕ) → Contains (negated_node n) x → Contains (children n) x
negated_child (Not a) x has = has
negated_child _ x has = absurd (nothing_in x has)

-- an equality is one of two nodes
equality_is : (n : Node) → is_equality n ≡ true → (a : ℕ) × (b : ℕ) × (n ≡ Eq a b)
equality_is (Eq a b) is = (a, b, refl)
equality_is _ is = absurd (false≢true is)

-- a variable is a constant where there is no `ite`
variable_constant : (n : Node) → is_variable n ≡ true → (if is_field_ite n then false else true) ≡ true → is_field_constant n ≡ true
variable_constant (FieldConst k q) is none = refl
variable_constant (IteField c a b) is none = absurd (false≢true none)
variable_constant _ is none = absurd (false≢true is)

-- an equality with one side, which is a field node
record HasSide (ns : List Node) (ids : List ℕ) (id : ℕ) : Type 0 where
  one : ℕ
  other : ℕ
  at : IsNodeAt ns id (Eq one other)
  side : Contains (field_nodes ns ids) one

module _ (ns : List Node) (ids : List ℕ) (table : IsTable ns) (inside : All (λ id. id < length ns) ids) where
  abbrev IsInCone : ℕ → Type 0
  IsInCone id = Contains (cone ns ids) id

  in_cone_of : (id : ℕ) → IsInCone id → IsNodeOf ns ids id
  in_cone_of id = ((cone_nodes ns ids table inside).each id).0

  node_in_cone : (id : ℕ) → IsInCone id → IsNodeAt ns id (node_at ns id)
  node_in_cone id has = slice_get-get_or ns id True (IsNodeOf-within ns ids id table inside (in_cone_of id has))

  child_in_cone : (id c : ℕ) (n : Node) → IsInCone id → IsNodeAt ns id n → Contains (children n) c → IsInCone c
  child_in_cone id c n has at of = ((cone_nodes ns ids table inside).each c).1 (child n (in_cone_of id has) at of)

  asserted_in_cone : (id : ℕ) → Contains (asserted ns ids) id → IsInCone id
  asserted_in_cone id has = kept_among ns ids (cone ns ids) id (subst (λ xs. Contains xs id) (sym (kept_asserted ns ids table)) has)

  equation_atom : (id : ℕ) → Contains (equations ns ids) id → Contains (atoms ns ids) id
  equation_atom id has =
      let was = Contains-from_filter (λ x. is_equality (node_at ns x)) (asserted ns ids) id has in
      Contains-filter (λ x. is_equality (node_at ns x)) (cone ns ids) id (asserted_in_cone id was.0) was.1

  disequation_atom : (id : ℕ) → Contains (disequations ns ids) id → Contains (atoms ns ids) id
  disequation_atom id has =
      let was = Contains-from_filter (λ x. is_equality (node_at ns x)) (flat_map (λ x. negated_node (node_at ns x)) (asserted ns ids)) id has in
      let (x, on, of) = from_flat_map (λ x. negated_node (node_at ns x)) (asserted ns ids) id was.0 in
      let there = asserted_in_cone x on in
      Contains-filter (λ y. is_equality (node_at ns y)) (cone ns ids) id
      (child_in_cone x id (node_at ns x) there (node_in_cone x there) (negated_child (node_at ns x) id of)) was.1

  -- each literal's equality has what each equality of the check has
  pub each_equation : (P : ℕ → Type 0) → ((id : ℕ) → Contains (atoms ns ids) id → P id) → All P (equations ns ids)
  each_equation P f k d below = f (get_or (equations ns ids) k d) (equation_atom _ (Contains-get_or (equations ns ids) k d below))

  pub each_disequation : (P : ℕ → Type 0) → ((id : ℕ) → Contains (atoms ns ids) id → P id) → All P (disequations ns ids)
  each_disequation P f k d below = f (get_or (disequations ns ids) k d) (disequation_atom _ (Contains-get_or (disequations ns ids) k d below))

  atom_side : (id : ℕ) → Contains (atoms ns ids) id → HasSide ns ids id
  atom_side id has =
      let was = Contains-from_filter (λ x. is_equality (node_at ns x)) (cone ns ids) id has in
      let (a, b, is) = equality_is (node_at ns id) was.1 in
      let at : IsNodeAt ns id (Eq a b) = subst (IsNodeAt ns id) is (node_in_cone id was.0) in
      let fits : AreOfOneField (take id ns) (a ∷ b ∷ []) = table.well_formed.fits id (Eq a b) at in
      let first : IsFieldAt (take id ns) fits.order a = fits.each 0 0 (omega arith) in
      let below : a < id = child_below ns id a (Eq a b) table.well_formed at (0, omega arith, refl) in
      let of : sort_at ns a ≡ sort.Field fits.order = sym (sort_at-take id ns a below) ∙ first.1 in
      let in_cone : IsInCone a = child_in_cone id a (Eq a b) was.0 at (0, omega arith, refl) in
      let some : 0 < fits.order =
      IsOrder-positive fits.order (IsOrder-from_IsFieldAt ns a fits.order table.well_formed (IsNodeOf-within ns ids a table inside (in_cone_of a in_cone), of)) in
      record {
        one = a;
        other = b;
        at = at;
        side = Contains-filter (λ x. nat_lt 0 (order_at ns x)) (cone ns ids) a in_cone (ap (λ s. nat_lt 0 (order_of_sort s)) of ∙ lt-ltb 0 fits.order some);
      }

-- The field of a check

-- where all field nodes are of an order, that is the first one's
first_order : (ns : List Node) (p : ℕ) (xs : List ℕ) (x : ℕ) → list_all (λ id. order_at ns id == p) xs ≡ true → Contains xs x → first_order_of ns xs ≡ p
first_order ns p [] x are has = absurd (nothing_in x has)
first_order ns p (y ∷ xs) x are has = eqb-true (order_at ns y) p (and_parts (order_at ns y == p) (list_all (λ id. order_at ns id == p) xs) are).0

-- the order of the first field node is one of the eight
pub order_known : (c : NodeCheck) (p : ℕ) → IsValid c → field_order c.nodes c.in_force ≡ p → is_order p ≡ true
order_known c p valid same = order_tested p (subst IsOrder same (one_of_eight c.nodes (cone c.nodes c.in_force) valid.table.well_formed (cone_within c.nodes c.in_force)))

-- only conjunctions are linear
pub not_linear : (c : NodeCheck) (units : ℕ) → is_conjunction c.nodes c.in_force ≡ false → is_linear_within limits c units ≡ false
unfolding is_linear_within is_linear
not_linear c units other =
    ap (λ b. (b && (has_no_ite c.nodes c.in_force && (has_one_order c.nodes c.in_force && is_affine limits c)))
    && (nat_lt (disequation_number c) (field_order c.nodes c.in_force)
    && (nat_le (constant_number c) most_linear && (nat_le (equation_number c + disequation_number c) most_linear && nat_le (linear_units c) units)))) other

-- What is known of a check that is linear within some units

module _ (c : NodeCheck) (units : ℕ) (is : is_linear_within limits c units ≡ true) where
  abbrev are_few : Bool
  are_few =
      nat_lt (disequation_number c) (field_order c.nodes c.in_force)
      && (nat_le (constant_number c) most_linear
      && (nat_le (equation_number c + disequation_number c) most_linear
      && nat_le (linear_units c) units))

  within_parts : (is_linear limits c && are_few) ≡ true
  unfolding is_linear_within
  within_parts = is

  linear_parts : (is_conjunction c.nodes c.in_force && (has_no_ite c.nodes c.in_force && (has_one_order c.nodes c.in_force && is_affine limits c))) ≡ true
  unfolding is_linear
  linear_parts = (and_parts (is_linear limits c) are_few within_parts).0

  shape_parts : (has_no_ite c.nodes c.in_force && (has_one_order c.nodes c.in_force && is_affine limits c)) ≡ true
  shape_parts = (and_parts (is_conjunction c.nodes c.in_force) _ linear_parts).1

  number_parts : are_few ≡ true
  number_parts = (and_parts (is_linear limits c) are_few within_parts).1

  count_parts : (nat_le (constant_number c) most_linear && (nat_le (equation_number c + disequation_number c) most_linear && nat_le (linear_units c) units)) ≡ true
  count_parts = (and_parts (nat_lt (disequation_number c) (field_order c.nodes c.in_force)) _ number_parts).1

  sum_parts : (nat_le (equation_number c + disequation_number c) most_linear && nat_le (linear_units c) units) ≡ true
  sum_parts = (and_parts (nat_le (constant_number c) most_linear) _ count_parts).1

  pub without_ite : has_no_ite c.nodes c.in_force ≡ true
  without_ite = (and_parts (has_no_ite c.nodes c.in_force) _ shape_parts).0

  pub affine_atoms : is_affine limits c ≡ true
  affine_atoms = (and_parts (has_one_order c.nodes c.in_force) (is_affine limits c) (and_parts (has_no_ite c.nodes c.in_force) _ shape_parts).1).1

  pub values_left : disequation_number c < field_order c.nodes c.in_force
  values_left = ltb-true (disequation_number c) (field_order c.nodes c.in_force) (and_parts (nat_lt (disequation_number c) (field_order c.nodes c.in_force)) _ number_parts).0

  pub few_constants : constant_number c ≤ 4096
  few_constants = leb-true (constant_number c) most_linear (and_parts (nat_le (constant_number c) most_linear) _ count_parts).0

  pub few_literals : equation_number c + disequation_number c ≤ 4096
  few_literals = leb-true (equation_number c + disequation_number c) most_linear (and_parts (nat_le (equation_number c + disequation_number c) most_linear) _ sum_parts).0

  pub enough_units : linear_units c ≤ units
  enough_units = leb-true (linear_units c) units (and_parts (nat_le (equation_number c + disequation_number c) most_linear) _ sum_parts).1

-- its equalities, where its field is that of order p
module _ (c : NodeCheck) (p : ℕ) (valid : IsValid c) (field : has_order c.nodes c.in_force p ≡ true) where
  abbrev IsAtom : ℕ → Type 0
  IsAtom id = Contains (atoms c.nodes c.in_force) id

  atom_equality : (id : ℕ) → IsAtom id → is_equality_at c.nodes p id ≡ true
  atom_equality id has =
      let s = atom_side c.nodes c.in_force valid.table (within c valid) id has in
      ap (is_equality_over c.nodes p) (node_at-is c.nodes id (Eq s.one s.other) s.at)
      ∙ All-contains (λ x. (order_at c.nodes x == p) ≡ true) (field_nodes c.nodes c.in_force) s.one (AllPass-from_list_all (λ x. order_at c.nodes x == p) (field_nodes c.nodes c.in_force) field) s.side

  -- where there is an equality, there is a field node
  atom_order : (id : ℕ) → IsAtom id → field_order c.nodes c.in_force ≡ p
  atom_order id has =
      let s = atom_side c.nodes c.in_force valid.table (within c valid) id has in
      first_order c.nodes p (field_nodes c.nodes c.in_force) s.one field s.side

  pub enough_residues : (units : ℕ) → is_linear_within limits c units ≡ true → 0 < p → disequation_number c < p
  enough_residues units is some = by_list (disequations c.nodes c.in_force) (each_disequation c.nodes c.in_force valid.table (within c valid) (λ id. field_order c.nodes c.in_force ≡ p) atom_order) (values_left c units is)
    where
      by_list : (xs : List ℕ) → All (λ id. field_order c.nodes c.in_force ≡ p) xs → length xs < field_order c.nodes c.in_force → length xs < p
      by_list [] each less = some
      by_list (x ∷ xs) each less = let same : field_order c.nodes c.in_force ≡ p = each 0 0 (omega arith) in omega (arith, same, less)

  module _ (affine : is_affine limits c ≡ true) where
    atom_affine : (id : ℕ) → IsAtom id → (degree_at c.nodes id ≤ 1) × (length_at c.nodes id ≤ 65536)
    atom_affine id has =
        let both = All-contains (λ x. (nat_le (degree_at c.nodes x) 1 && nat_le (length_at c.nodes x) 65536) ≡ true) (atoms c.nodes c.in_force) id (AllPass-from_list_all (λ x. nat_le (degree_at c.nodes x) 1 && nat_le (length_at c.nodes x) 65536) (atoms c.nodes c.in_force) affine) has in
        let parts = and_parts (nat_le (degree_at c.nodes id) 1) (nat_le (length_at c.nodes id) 65536) both in
        (leb-true (degree_at c.nodes id) 1 parts.0, leb-true (length_at c.nodes id) 65536 parts.1)

    pub atom_usable : (id : ℕ) → IsAtom id → IsUsable c p id
    atom_usable id has =
        let are = atom_affine id has in
        record {
          equality = atom_equality id has;
          within = ap₂ (λ a b. cond a false (cond b false true)) (le-ltb 255 (degree_at c.nodes id) (omega (arith, are.0))) (le-ltb 65536 (length_at c.nodes id) are.1);
        }

    module _ (none : has_no_ite c.nodes c.in_force ≡ true) where
      variable_listed : (id : ℕ) → IsAtom id → (x : ℕ) → IsNodeOf c.nodes (id ∷ []) x → IsVariableAt c.nodes p x → is_listed (field_constants c.nodes c.in_force) x ≡ true
      variable_listed id has x of variable =
          let nodes = (cone_nodes c.nodes c.in_force valid.table (within c valid)).each in
          let root = (nodes id).0 (Contains-from_filter (λ y. is_equality (node_at c.nodes y)) (cone c.nodes c.in_force) id has).0 in
          let there : Contains (cone c.nodes c.in_force) x = (nodes x).1 (cone_through c.nodes c.in_force id root x of) in
          let test : (if is_field_ite (node_at c.nodes x) then false else true) ≡ true =
          All-contains (λ y. (if is_field_ite (node_at c.nodes y) then false else true) ≡ true) (cone c.nodes c.in_force) x (AllPass-from_list_all (λ y. if is_field_ite (node_at c.nodes y) then false else true) (cone c.nodes c.in_force) none) there in
          listed-from_Contains (field_constants c.nodes c.in_force) x
          (Contains-filter (λ y. is_field_constant (node_at c.nodes y)) (cone c.nodes c.in_force) x there (variable_constant (node_at c.nodes x) variable.1 test))

      pub atom_in_constants : (id : ℕ) → IsAtom id → IsAffineIn p c.nodes (field_constants c.nodes c.in_force) id
      atom_in_constants id has =
          let are = atom_affine id has in
          record {
            equality = atom_equality id has;
            low = are.0;
            short = are.1;
            variables = variable_listed id has;
          }

pub constants_increase : (c : NodeCheck) → IsValid c → IsStrictlyIncreasing (field_constants c.nodes c.in_force)
constants_increase c valid = IsStrictlyIncreasing-filter (λ id. is_field_constant (node_at c.nodes id)) (cone c.nodes c.in_force) (cone_nodes c.nodes c.in_force valid.table (within c valid)).increasing

-- Lists of affine forms

module _ (p : ℕ) (ns : List Node) (constants : List ℕ) where
  pub length_forms : (ids : List ℕ) (vs : List Coordinates) → AreAffineForms p ns constants ids vs → length vs ≡ length ids
  length_forms [] [] are = refl
  length_forms [] (v ∷ vs) are = absurd are
  length_forms (id ∷ ids) [] are = absurd are
  length_forms (id ∷ ids) (v ∷ vs) are = ap suc (length_forms ids vs are.1)

  pub forms_below : (ids : List ℕ) (vs : List Coordinates) → AreAffineForms p ns constants ids vs → All (IsBelow (length constants + 1)) vs
  forms_below [] [] are = All-nil (IsBelow (length constants + 1))
  forms_below [] (v ∷ vs) are = absurd are
  forms_below (id ∷ ids) [] are = absurd are
  forms_below (id ∷ ids) (v ∷ vs) are = All-cons (IsBelow (length constants + 1)) v vs are.0.below (forms_below ids vs are.1)

  pub form_at : (ids : List ℕ) (vs : List Coordinates) (k d : ℕ) (v : Coordinates) → AreAffineForms p ns constants ids vs → slice_get vs k ≡ Some v → (k < length ids) × IsAffineForm p ns constants (get_or ids k d) v
  form_at [] [] k d v are at = absurd (none-some v at)
  form_at [] (w ∷ vs) k d v are at = absurd are
  form_at (id ∷ ids) [] k d v are at = absurd are
  form_at (id ∷ ids) (w ∷ vs) zero d v are at = (omega arith, subst (IsAffineForm p ns constants id) (same_Some w v at) are.0)
  form_at (id ∷ ids) (w ∷ vs) (suc k) d v are at = let rest = form_at ids vs k d v are.1 at in (omega (arith, rest.0), rest.1)
