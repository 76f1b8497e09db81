-- Values that are known of some constants make all that is active true.
use Rattle.std.proofs.Common.{◌≡◌, ◌≢◌, ℕ, ◌<◌, ◌≤◌, true, false, List, [], ◌∷◌, length, refl, sym, ap, ◌∙◌, subst, arith, inl, inr, get_or-set_same, get_or-set_other}
use Rattle.std.specs.List.{AllByRecursion}
use Rattle.std.proofs.Math.ListN.{length-set}
use Rattle.std.proofs.lemmas.List.Elements.{All-from_recursion, recursion_from_All}
use Rattle.ffc_term.specs.declared.node.Node.{Node}
use Rattle.ffc_term.specs.declared.value.Value.{Value}
use Rattle.ffc_term.specs.declared.value.Value.TheVariants as value
use Rattle.ffc_term.specs.Nodes.{IsConstantAt, node_at}
use Rattle.ffc_term.specs.Tables.{IsWellFormed, constant_count}
use Rattle.ffc_rules.specs.Assignments.{number_of_constant, value_of_constant, value_of_number, are_true}
use Rattle.ffc_rules.specs.Entries.{NodeCheck}
use Rattle.ffc_rules.specs.Laws.{IsValid, Agrees}
use Rattle.ffc_rules.proofs.AssignmentLemmas.{node_at-is, same_number, number_below, AreConstants, AreDifferent, Among, each_among}
use Rattle.ffc_rules.proofs.CaseLemmas.{increasing_apart, named_apart, test-from_AreTrue}
use Rattle.ffc_check.specs.Assigning.{with_value, with_values}
use Rattle.ffc_trials.specs.Known.{AreModelValuesOf}

module _ (ns : List Node) (formed : IsWellFormed ns) where
  numbers_apart : (i j : ℕ) → IsConstantAt ns i → IsConstantAt ns j → i ≢ j → number_of_constant (node_at ns j) ≢ number_of_constant (node_at ns i)
  numbers_apart i j (n, n_at, n_const) (m, m_at, m_const) differ same =
      differ (same_number ns formed i j n m n_at m_at n_const m_const (ap number_of_constant (sym (node_at-is ns i n n_at)) ∙ sym same ∙ ap number_of_constant (node_at-is ns j m m_at)))

  number_within : (i : ℕ) → IsConstantAt ns i → number_of_constant (node_at ns i) < constant_count ns
  number_within i (n, at, const) = rw (node_at-is ns i n at) (number_below ns formed i n at const)

  -- a constant that is given no value keeps its own
  others_keep : (pairs : List (ℕ × ℕ)) (id : ℕ) (values : List Value) → IsConstantAt ns id → AreConstants ns pairs → AllByRecursion (λ q. id ≢ q.0) pairs
      → value_of_constant ns (with_values ns values pairs) id ≡ value_of_constant ns values id
  others_keep [] id values is are differ = refl
  others_keep (q ∷ pairs) id values is are differ =
      others_keep pairs id (with_value ns values q) is are.1 differ.1
      ∙ get_or-set_other values (number_of_constant (node_at ns q.0)) (number_of_constant (node_at ns id)) (value_of_number (node_at ns q.0) q.1) (value.Bool false) (numbers_apart q.0 id are.0 is (λ e. differ.0 (sym e)))

  -- each constant has the value that it is given, where there is room for all
  value_given : (pairs : List (ℕ × ℕ)) (p : ℕ × ℕ) (values : List Value) → constant_count ns ≤ length values → AreConstants ns pairs → AreDifferent pairs → Among p pairs
      → value_of_constant ns (with_values ns values pairs) p.0 ≡ value_of_number (node_at ns p.0) p.1
  value_given [] p values room are differ has = absurd has
  value_given (q ∷ pairs) p values room are differ (inl e) =
      let Has : ℕ × ℕ → Type 0 = λ r. value_of_constant ns (with_values ns (with_value ns values q) pairs) r.0 ≡ value_of_number (node_at ns r.0) r.1 in
      let within = number_within q.0 are.0 in
      subst Has (sym e)
      (others_keep pairs q.0 (with_value ns values q) are.0 are.1 differ.0
      ∙ get_or-set_same values (number_of_constant (node_at ns q.0)) (value_of_number (node_at ns q.0) q.1) (value.Bool false) (omega arith))
  value_given (q ∷ pairs) p values room are differ (inr later) =
      value_given pairs p (with_value ns values q)
      (subst (λ n. constant_count ns ≤ n) (sym (length-set values (number_of_constant (node_at ns q.0)) (value_of_number (node_at ns q.0) q.1))) room) are.1 differ.1 later

-- constants that are given their values one after another have them
given_agree : (c : NodeCheck) (pairs : List (ℕ × ℕ)) (values : List Value) → IsValid c → AreModelValuesOf c pairs → constant_count c.nodes ≤ length values
    → Agrees c.nodes pairs (with_values c.nodes values pairs)
given_agree c pairs values valid known room =
    let after = with_values c.nodes values pairs in
    let Given : ℕ × ℕ → Type 0 = λ p. value_of_constant c.nodes after p.0 ≡ value_of_number (node_at c.nodes p.0) p.1 in
    let are = recursion_from_All (λ p. IsConstantAt c.nodes p.0) pairs known.constants in
    let differ = named_apart pairs (increasing_apart _ known.increasing) in
    All-from_recursion Given pairs (each_among Given pairs (λ p has. value_given c.nodes valid.table.well_formed pairs p values room are differ has))

pub known_true : (c : NodeCheck) (pairs : List (ℕ × ℕ)) (values : List Value) → IsValid c → AreModelValuesOf c pairs → constant_count c.nodes ≤ length values
    → are_true c.nodes c.in_force (with_values c.nodes values pairs) ≡ true
known_true c pairs values valid known room =
    test-from_AreTrue c.nodes c.in_force (with_values c.nodes values pairs)
    (known.true_of (with_values c.nodes values pairs) (given_agree c pairs values valid known room))
