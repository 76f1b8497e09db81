-- Constants that get values, one after another.
use Rattle.std.proofs.Common.{inl, inr, ◌≡◌, ◌≢◌, ℕ, ◌<◌, ◌≤◌, true, false, List, [], ◌∷◌, length, map, All, Some, refl, sym, ap, ◌∙◌, subst, arith, slice_get, get_or-set_same, get_or-set_other}
use Rattle.std.specs.List.{AllByRecursion}
use Rattle.std.specs.List.Sorted.{IsStrictlyIncreasing}
use Rattle.std.proofs.Math.ListN.{length-set}
use Rattle.std.proofs.lemmas.Bool.{false≢true}
use Rattle.std.proofs.lemmas.List.Elements.{All-from_recursion, recursion_from_All}
use Rattle.std.proofs.lemmas.List.Sums.{count_by-le-length}
use Rattle.std.proofs.lemmas.Option.{slice_get-get_or, get_or_from_slice_get}
use Rattle.ffc_bounds.specs.Conjunctions.{is_field_constant}
use Rattle.ffc_check.specs.Assigning.{with_value, with_values}
use Rattle.ffc_rules.proofs.AssignmentLemmas.{node_at-is, same_number, number_below, AreConstants, AreDifferent, Among, each_among}
use Rattle.ffc_rules.proofs.CaseLemmas.{increasing_apart, named_apart}
use Rattle.ffc_rules.specs.Assignments.{number_of_constant, value_of_constant, value_of_number}
use Rattle.ffc_rules.specs.Laws.{Agrees}
use Rattle.ffc_term.specs.declared.node.Node.{Node}
use Rattle.ffc_term.specs.declared.node.Node.TheVariants.{True, FieldConst}
use Rattle.ffc_term.specs.declared.value.Value.{Value}
use Rattle.ffc_term.specs.declared.value.Value.TheVariants as value
use Rattle.ffc_term.specs.Nodes.{IsNodeAt, IsConstantAt, is_constant, node_at}
use Rattle.ffc_term.specs.Tables.{IsWellFormed, constant_count}
use Rattle.ffc_term.specs.Values.{value_in}
use Rattle.ffc_combination.specs.Values.{IsFieldConstant}

constant_is : (n : Node) → is_field_constant n ≡ true → is_constant n ≡ true
constant_is (FieldConst k p) is = refl
constant_is _ is = absurd (false≢true is)

-- a field constant is a constant
pub constant_at : (ns : List Node) (id : ℕ) → IsFieldConstant ns id → IsConstantAt ns id
constant_at ns id is = (node_at ns id, slice_get-get_or ns id True is.inside, constant_is (node_at ns id) is.constant)

-- a node that passes the test is a field constant
pub field_constant_is : (n : Node) → is_field_constant n ≡ true → (k : ℕ) × (q : ℕ) × (n ≡ FieldConst k q)
field_constant_is (FieldConst k q) is = (k, q, refl)
field_constant_is _ is = absurd (false≢true is)

-- a field constant is none of the other nodes
pub only_constant : (ns : List Node) (id : ℕ) (n : Node) → IsFieldConstant ns id → IsNodeAt ns id n → is_field_constant n ≡ true
only_constant ns id n is at = ap is_field_constant (sym (node_at-is ns id n at)) ∙ is.constant

module _ (ns : List Node) (formed : IsWellFormed ns) where
  numbers_apart : (i j : ℕ) → IsConstantAt ns i → IsConstantAt ns j → i ≢ j → number_of_constant (node_at ns j) ≢ number_of_constant (node_at ns i)
  numbers_apart i j (n, n_at, n_const) (m, m_at, m_const) differ same =
      differ (same_number ns formed i j n m n_at m_at n_const m_const (ap number_of_constant (sym (node_at-is ns i n n_at)) ∙ sym same ∙ ap number_of_constant (node_at-is ns j m m_at)))

  number_within : (i : ℕ) → IsConstantAt ns i → number_of_constant (node_at ns i) < constant_count ns
  number_within i (n, at, const) = rw (node_at-is ns i n at) (number_below ns formed i n at const)

  -- a constant that is given no value keeps its own
  others_keep : (pairs : List (ℕ × ℕ)) (id : ℕ) (values : List Value) → IsConstantAt ns id → AreConstants ns pairs → AllByRecursion (λ q. id ≢ q.0) pairs
      → value_of_constant ns (with_values ns values pairs) id ≡ value_of_constant ns values id
  others_keep [] id values is are differ = refl
  others_keep (q ∷ pairs) id values is are differ =
      others_keep pairs id (with_value ns values q) is are.1 differ.1
      ∙ get_or-set_other values (number_of_constant (node_at ns q.0)) (number_of_constant (node_at ns id)) (value_of_number (node_at ns q.0) q.1) (value.Bool false) (numbers_apart q.0 id are.0 is (λ e. differ.0 (sym e)))

  -- each constant has the value that it is given, where there is room for all
  value_given : (pairs : List (ℕ × ℕ)) (p : ℕ × ℕ) (values : List Value) → constant_count ns ≤ length values → AreConstants ns pairs → AreDifferent pairs → Among p pairs
      → value_of_constant ns (with_values ns values pairs) p.0 ≡ value_of_number (node_at ns p.0) p.1
  value_given [] p values room are differ has = absurd has
  value_given (q ∷ pairs) p values room are differ (inl e) =
      let Has : ℕ × ℕ → Type 0 = λ r. value_of_constant ns (with_values ns (with_value ns values q) pairs) r.0 ≡ value_of_number (node_at ns r.0) r.1 in
      let within = number_within q.0 are.0 in
      subst Has (sym e)
      (others_keep pairs q.0 (with_value ns values q) are.0 are.1 differ.0
      ∙ get_or-set_same values (number_of_constant (node_at ns q.0)) (value_of_number (node_at ns q.0) q.1) (value.Bool false) (omega arith))
  value_given (q ∷ pairs) p values room are differ (inr later) =
      value_given pairs p (with_value ns values q)
      (subst (λ n. constant_count ns ≤ n) (sym (length-set values (number_of_constant (node_at ns q.0)) (value_of_number (node_at ns q.0) q.1))) room) are.1 differ.1 later

  are_constants : (pairs : List (ℕ × ℕ)) → AllByRecursion (λ q. IsFieldConstant ns q.0) pairs → AreConstants ns pairs
  are_constants [] are = tt
  are_constants (q ∷ pairs) are = (constant_at ns q.0 are.0, are_constants pairs are.1)

  -- constants that are given their values one after another have them
  pub given_agree : (pairs : List (ℕ × ℕ)) (values : List Value) → All (λ q. IsFieldConstant ns q.0) pairs → IsStrictlyIncreasing (map (λ q. q.0) pairs) → length ns ≤ length values
      → Agrees ns pairs (with_values ns values pairs)
  given_agree pairs values constants increasing room =
      let after = with_values ns values pairs in
      let Given : ℕ × ℕ → Type 0 = λ p. value_of_constant ns after p.0 ≡ value_of_number (node_at ns p.0) p.1 in
      let are = are_constants pairs (recursion_from_All (λ q. IsFieldConstant ns q.0) pairs constants) in
      let differ = named_apart pairs (increasing_apart (map (λ q. q.0) pairs) increasing) in
      let few : constant_count ns ≤ length ns = count_by-le-length is_constant ns in
      All-from_recursion Given pairs (each_among Given pairs (λ p has. value_given pairs p values (omega arith) are differ has))

-- what is written at a place is read there
pub read_value : (values : List Value) (id : ℕ) (v : Value) → slice_get values id ≡ Some v → value_in values id ≡ v
read_value values id v at = get_or_from_slice_get values id v (value.Bool false) at
