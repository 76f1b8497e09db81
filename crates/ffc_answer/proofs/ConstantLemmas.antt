-- An assignment is filled from the last listed value to the first.
use Rattle.std.proofs.Common.{◌≡◌, ⊎_elim, ℕ, ◌+◌, ◌-◌, ◌<◌, false, List, ◌∷◌, length, get_or, set, drop, refl, sym, ap, ◌∙◌, subst, arith, get_or-set_same, get_or-set_other}
use Rattle.std.proofs.lemmas.Bool.{cases_eq, eq-eqb, ne_eqb}
use Rattle.std.proofs.lemmas.List.{drop_more}
use Rattle.ffc_term.specs.declared.node.Node.{Node}
use Rattle.ffc_term.specs.declared.value.Value.{Value}
use Rattle.ffc_term.specs.declared.value.Value.TheVariants as value
use Rattle.ffc_term.specs.Nodes.{IsNodeAt, node_at}
use Rattle.ffc_rules.specs.Assignments.{number_of_constant, value_of_number, listed_value}
use Rattle.ffc_rules.proofs.AssignmentLemmas.{node_at-is}

abbrev none : Value
none = value.Bool false

-- the values below a count are those that these pairs list
abbrev pub AreListed : List Node → List (ℕ × ℕ) → ℕ → List Value → Type 0
AreListed nodes pairs count values = (k : ℕ) → k < count → get_or values k none ≡ listed_value nodes pairs k

listed_here : (nodes : List Node) (p : ℕ × ℕ) (pairs : List (ℕ × ℕ)) (k : ℕ) → number_of_constant (node_at nodes p.0) ≡ k → listed_value nodes (p ∷ pairs) k ≡ value_of_number (node_at nodes p.0) p.1
listed_here nodes p pairs k e = rw (eq-eqb (number_of_constant (node_at nodes p.0)) k e) refl

listed_later : (nodes : List Node) (p : ℕ × ℕ) (pairs : List (ℕ × ℕ)) (k : ℕ) → (number_of_constant (node_at nodes p.0) ≡ k → ⊥) → listed_value nodes (p ∷ pairs) k ≡ listed_value nodes pairs k
listed_later nodes p pairs k differ = rw (ne_eqb (number_of_constant (node_at nodes p.0)) k differ) refl

one_more : (nodes : List Node) (p : ℕ × ℕ) (pairs : List (ℕ × ℕ)) (count : ℕ) (values : List Value) → length values ≡ count → AreListed nodes pairs count values
    → AreListed nodes (p ∷ pairs) count (set values (number_of_constant (node_at nodes p.0)) (value_of_number (node_at nodes p.0) p.1))
one_more nodes p pairs count values long given k inside =
    let j = number_of_constant (node_at nodes p.0) in
    let x = value_of_number (node_at nodes p.0) p.1 in
    ⊎_elim
    (λ (e : j ≡ k). ap (λ i. get_or (set values j x) i none) (sym e) ∙ get_or-set_same values j x none (omega arith) ∙ sym (listed_here nodes p pairs k e))
    (λ (differ : j ≡ k → ⊥). get_or-set_other values j k x none (λ e. differ (sym e)) ∙ given k inside ∙ sym (listed_later nodes p pairs k differ))
    (cases_eq j k)

-- the pair before those that were given their values
pub given_more : (nodes : List Node) (pairs : List (ℕ × ℕ)) (i count : ℕ) (n : Node) (values new : List Value) → i < length pairs → IsNodeAt nodes (get_or pairs (length pairs - 1 - i) (0, 0)).0 n
    → length values ≡ count → AreListed nodes (drop (length pairs - i) pairs) count values → new ≡ set values (number_of_constant n) (value_of_number n (get_or pairs (length pairs - 1 - i) (0, 0)).1)
    → AreListed nodes (drop (length pairs - (i + 1)) pairs) count new
given_more nodes pairs i count n values new h at long given written =
    let j = length pairs - 1 - i in
    let p = get_or pairs j (0, 0) in
    let same : length pairs - (i + 1) ≡ j = omega arith in
    let next : length pairs - i ≡ j + 1 = omega arith in
    let rest = subst (λ m. AreListed nodes (drop m pairs) count values) next given in
    let here : drop j pairs ≡ p ∷ drop (j + 1) pairs = drop_more pairs j (0, 0) (omega arith) in
    let step = one_more nodes p (drop (j + 1) pairs) count values long rest in
    let is : new ≡ set values (number_of_constant (node_at nodes p.0)) (value_of_number (node_at nodes p.0) p.1) =
    written ∙ ap (λ m. set values (number_of_constant m) (value_of_number m p.1)) (sym (node_at-is nodes p.0 n at)) in
    subst (λ ps. AreListed nodes ps count new) (sym (ap (λ m. drop m pairs) same ∙ here)) (subst (AreListed nodes (p ∷ drop (j + 1) pairs) count) (sym is) step)
