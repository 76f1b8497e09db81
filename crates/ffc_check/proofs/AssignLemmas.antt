-- Constants that get values, one after another.
use Rattle.std.proofs.Common.{◌≡◌, ◌≢◌, inl, inr, ℕ, ◌+◌, ◌/◌, ◌%◌, ◌<◌, ◌≤◌, false, List, [], ◌∷◌, length, get_or, drop, refl, sym, ap, ◌∙◌, subst, arith, get_or-set_same, get_or-set_other}
use Rattle.std.specs.List.{AllByRecursion}
use Rattle.std.proofs.Math.ListN.{length-set}
use Rattle.std.proofs.lemmas.List.{drop_more, set_past}
use Rattle.ffc_term.specs.declared.node.Node.{Node}
use Rattle.ffc_term.specs.declared.node.Node.TheVariants.{FieldConst}
use Rattle.ffc_term.specs.declared.value.Value.{Value}
use Rattle.ffc_term.specs.declared.value.Value.TheVariants as value
use Rattle.ffc_term.specs.Nodes.{IsNodeAt, IsConstantAt, node_at}
use Rattle.ffc_term.specs.Tables.{Fits, IsWellFormed, constant_count}
use Rattle.ffc_term.specs.Measuring.{value_count}
use Rattle.ffc_term.proofs.ValueLemmas.{IsOrder-positive}
use Rattle.ffc_rules.specs.Assignments.{number_of_constant, value_of_number, value_of_constant, digits}
use Rattle.ffc_rules.proofs.AssignmentLemmas.{node_at-is, same_number, number_below, AreConstants, AreDifferent, Among}
use Rattle.ffc_check.specs.Assigning.{with_value, with_values}

-- a place past the end keeps all values
pub with_value-past : (ns : List Node) (values : List Value) (id number : ℕ) (n : Node) → IsNodeAt ns id n → length values ≤ number_of_constant n → values ≡ with_value ns values (id, number)
with_value-past ns values id number n at past = rw (node_at-is ns id n at) (sym (set_past values (number_of_constant n) (value_of_number n number) past))

-- each node has a value at least
counted : (n : Node) (before : List Node) → Fits before n → 0 < value_count n
counted (FieldConst k p) before h = IsOrder-positive p h
counted _ before h = omega arith

pub value_count-positive : (ns : List Node) (id : ℕ) (n : Node) → IsWellFormed ns → IsNodeAt ns id n → 0 < value_count n
value_count-positive ns id n formed at = counted n _ (formed.fits id n at)

-- one digit more is given
pub digits_step : (ns : List Node) (constants : List ℕ) (i count left : ℕ) (n : Node) (values new all : List Value) → i < length constants → IsNodeAt ns (get_or constants i 0) n → count ≡ value_count n
    → new ≡ with_value ns values (get_or constants i 0, left % count) → with_values ns values (digits ns (drop i constants) left) ≡ all → with_values ns new (digits ns (drop (i + 1) constants) (left / count)) ≡ all
digits_step ns constants i count left n values new all inside at same given so_far =
    let Step : ℕ → Type 0 = λ k. with_values ns (with_value ns values (get_or constants i 0, left % k)) (digits ns (drop (i + 1) constants) (left / k)) ≡ all in
    let begun : with_values ns values (digits ns (get_or constants i 0 ∷ drop (i + 1) constants) left) ≡ all = subst (λ ids. with_values ns values (digits ns ids left) ≡ all) (drop_more constants i 0 inside) so_far in
    let here : count ≡ value_count (node_at ns (get_or constants i 0)) = same ∙ ap value_count (sym (node_at-is ns (get_or constants i 0) n at)) in
    ap (λ v. with_values ns v (digits ns (drop (i + 1) constants) (left / count))) given ∙ subst Step (sym here) begun

pub length-with_values : (ns : List Node) (values : List Value) (pairs : List (ℕ × ℕ)) → length (with_values ns values pairs) ≡ length values
length-with_values ns values [] = refl
length-with_values ns values (p ∷ pairs) =
    length-with_values ns (with_value ns values p) pairs ∙ length-set values (number_of_constant (node_at ns p.0)) (value_of_number (node_at ns p.0) p.1)

module _ (ns : List Node) (formed : IsWellFormed ns) where
  apart : (i j : ℕ) → IsConstantAt ns i → IsConstantAt ns j → i ≢ j → number_of_constant (node_at ns j) ≢ number_of_constant (node_at ns i)
  apart i j (n, n_at, n_const) (m, m_at, m_const) differ same =
      differ (same_number ns formed i j n m n_at m_at n_const m_const (ap number_of_constant (sym (node_at-is ns i n n_at)) ∙ sym same ∙ ap number_of_constant (node_at-is ns j m m_at)))

  below : (i : ℕ) → IsConstantAt ns i → number_of_constant (node_at ns i) < constant_count ns
  below i (n, at, const) = rw (node_at-is ns i n at) (number_below ns formed i n at const)

  -- a constant that gets no value keeps its own
  others_keep : (pairs : List (ℕ × ℕ)) (id : ℕ) (values : List Value) → IsConstantAt ns id → AreConstants ns pairs → AllByRecursion (λ q. id ≢ q.0) pairs
      → value_of_constant ns (with_values ns values pairs) id ≡ value_of_constant ns values id
  others_keep [] id values is are differ = refl
  others_keep (q ∷ pairs) id values is are differ =
      others_keep pairs id (with_value ns values q) is are.1 differ.1
      ∙ get_or-set_other values (number_of_constant (node_at ns q.0)) (number_of_constant (node_at ns id)) (value_of_number (node_at ns q.0) q.1) (value.Bool false) (apart q.0 id are.0 is (λ e. differ.0 (sym e)))

  -- each listed constant has its value afterwards
  pub value_given : (pairs : List (ℕ × ℕ)) (p : ℕ × ℕ) (values : List Value) → length values ≡ constant_count ns → AreConstants ns pairs → AreDifferent pairs → Among p pairs
      → value_of_constant ns (with_values ns values pairs) p.0 ≡ value_of_number (node_at ns p.0) p.1
  value_given [] p values long are differ has = absurd has
  value_given (q ∷ pairs) p values long are differ (inl e) =
      let Has : ℕ × ℕ → Type 0 = λ r. value_of_constant ns (with_values ns (with_value ns values q) pairs) r.0 ≡ value_of_number (node_at ns r.0) r.1 in
      subst Has (sym e)
      (others_keep pairs q.0 (with_value ns values q) are.0 are.1 differ.0
      ∙ get_or-set_same values (number_of_constant (node_at ns q.0)) (value_of_number (node_at ns q.0) q.1) (value.Bool false) (subst (λ n. number_of_constant (node_at ns q.0) < n) (sym long) (below q.0 are.0)))
  value_given (q ∷ pairs) p values long are differ (inr later) =
      value_given pairs p (with_value ns values q) (length-set values (number_of_constant (node_at ns q.0)) (value_of_number (node_at ns q.0) q.1) ∙ long) are.1 differ.1 later
