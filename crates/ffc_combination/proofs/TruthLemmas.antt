-- The truth of equalities by the values of their polynomials.
use Rattle.std.proofs.Common.{inl, inr, ◌≡◌, ◌≢◌, ℕ, ◌*◌, ◌+◌, ◌%◌, ◌^◌, ◌==◌, Bool, true, false, List, [], ◌∷◌, map, Contains, refl, sym, ap, ap₂, ◌∙◌, subst, arith, eq-eqb, eqb-true}
use Rattle.std.proofs.lemmas.Bool.{false≢true}
use Rattle.ffc_field.specs.Modular.{sub_mod}
use Rattle.ffc_field.proofs.ModularLaws.{sub_mod-self, same_from_sub_mod}
use Rattle.ffc_macaulay.proofs.MemberLemmas.{contains_cases, contains_none}
use Rattle.ffc_ring.specs.Monomial.{Monomial, IsMonomial, mono_value}
use Rattle.ffc_ring.specs.Polynomial.{Terms, SamePolynomial, poly_value, value_sum}
use Rattle.ffc_ring.proofs.PolynomialLemmas.{one_value, poly_value-difference}
use Rattle.ffc_rules.specs.Entries.{is_equality_at}
use Rattle.ffc_term.specs.Checks.{IsNodeOf}
use Rattle.ffc_term.specs.declared.node.Node.{Node}
use Rattle.ffc_term.specs.declared.node.Node.TheVariants.{Eq}
use Rattle.ffc_term.specs.declared.value.Value.{Value}
use Rattle.ffc_term.specs.declared.value.Value.TheVariants as value
use Rattle.ffc_term.specs.Nodes.{IsNodeAt, node_at}
use Rattle.ffc_term.specs.Tables.{IsTable, IsFieldAt}
use Rattle.ffc_term.specs.Values.{residue, truth, value_at}
use Rattle.ffc_term.proofs.ValueLemmas.{value_at-is, IsOrder-positive, IsOrder-from_IsFieldAt}
use Rattle.ffc_trees.specs.FirstLines.{difference_of}
use Rattle.ffc_trees.specs.Laws.{IsPointOf}
use Rattle.ffc_trees.specs.NodePolynomials.{poly_at, EachMonomial, HasVariables, IsVariableAt}
use Rattle.ffc_trees.proofs.NodePolyLemmas.{poly_at-value, node_below}
use Rattle.ffc_trees.proofs.VariableLemmas.{poly_at-variables}
use Rattle.ffc_combination.proofs.SideLemmas.{has_sides, difference_is}
use Rattle.ffc_combination.proofs.WithinLemmas.{nodes_of_child}

-- ---- points that are alike

-- numbers of a list that two functions take alike
pub mapped_alike : (f g : ℕ → ℕ) (xs : List ℕ) (x : ℕ) → map f xs ≡ map g xs → Contains xs x → f x ≡ g x
mapped_alike f g [] x same has = absurd (contains_none x has)
mapped_alike f g (y ∷ xs) x same has = elim (contains_cases y xs x has) as (λ _. f x ≡ g x) [
  | inl here ↦ subst (λ z. f z ≡ g z) here (let e : f y ≡ g y = cc in e)
  | inr later ↦ mapped_alike f g xs x (let e : map f xs ≡ map g xs = cc in e) later
]

module _ (f g : ℕ → ℕ) (P : ℕ → Type 0) (alike : (x : ℕ) → P x → f x ≡ g x) where
  monomial_alike : (m : Monomial) → HasVariables P m → mono_value f m ≡ mono_value g m
  monomial_alike [] has = refl
  monomial_alike (q ∷ m) has = ap₂ (λ a b. a ^ q.1 * b) (alike q.0 has.0) (monomial_alike m has.1)

  -- a polynomial has one value at points that are alike at its variables
  terms_alike : (ts : Terms) → EachMonomial (λ m. IsMonomial m × HasVariables P m) ts → value_sum f ts ≡ value_sum g ts
  terms_alike [] each = refl
  terms_alike (t ∷ ts) each = ap₂ (λ a b. t.0 * a + b) (monomial_alike t.1 each.0.1) (terms_alike ts each.1)

-- ---- equalities under an assignment

module _ (p : ℕ) (nodes : List Node) (table : IsTable nodes) (id : ℕ) (is : is_equality_at nodes p id ≡ true) where
  abbrev residues : List Value → ℕ → ℕ
  residues A x = residue (value_at nodes A x)

  equality_value : (A : List Value) → (let h = has_sides p nodes id table is in value_at nodes A id ≡ value.Bool (residues A h.left == residues A h.right))
  equality_value A = let h = has_sides p nodes id table is in value_at-is nodes A id (Eq h.left h.right) table.well_formed h.at

  pub value_from_truth : (A : List Value) (b : Bool) → truth (value_at nodes A id) ≡ b → value_at nodes A id ≡ value.Bool b
  value_from_truth A b is = equality_value A ∙ ap value.Bool (sym (ap truth (equality_value A)) ∙ is)

  -- the difference of the sides has the difference of their residues
  gap : (A : List Value) → (let h = has_sides p nodes id table is in poly_value p (residues A) (difference_of p nodes (node_at nodes id)) ≡ sub_mod p (residues A h.left) (residues A h.right))
  gap A =
      let h = has_sides p nodes id table is in
      let points : IsPointOf nodes A p (residues A) = λ x there. refl in
      ap (poly_value p (residues A)) (difference_is p nodes id h.left h.right table h.at h.sides)
      ∙ poly_value-difference p (IsOrder-positive p (IsOrder-from_IsFieldAt nodes h.left p table.well_formed h.sides.first)) (residues A) (poly_at nodes h.left) (poly_at nodes h.right)
      ∙ ap₂ (sub_mod p) (poly_at-value nodes A p (residues A) h.left table points h.sides.first) (poly_at-value nodes A p (residues A) h.right table points h.sides.second)

  pub zero_where_true : (A : List Value) → truth (value_at nodes A id) ≡ true → poly_value p (residues A) (difference_of p nodes (node_at nodes id)) ≡ 0
  zero_where_true A holds =
      let h = has_sides p nodes id table is in
      let same : residues A h.left ≡ residues A h.right = eqb-true (residues A h.left) (residues A h.right) (sym (ap truth (equality_value A)) ∙ holds) in
      let below = node_below nodes A p h.right table h.sides.second in
      gap A ∙ ap (λ r. sub_mod p r (residues A h.right)) same ∙ sub_mod-self p (residues A h.right) (omega (arith, below))

  pub nonzero_where_false : (A : List Value) → truth (value_at nodes A id) ≡ false → poly_value p (residues A) (difference_of p nodes (node_at nodes id)) ≢ 0
  nonzero_where_false A fails none =
      let h = has_sides p nodes id table is in
      let same = same_from_sub_mod p (residues A h.left) (residues A h.right) (node_below nodes A p h.left table h.sides.first) (node_below nodes A p h.right table h.sides.second) (sym (gap A) ∙ none) in
      false≢true (sym fails ∙ ap truth (equality_value A) ∙ eq-eqb (residues A h.left) (residues A h.right) same)

  -- the same of a polynomial that is that difference
  pub zero_by_truth : (A : List Value) (sides : Terms) → SamePolynomial p sides (difference_of p nodes (node_at nodes id)) → truth (value_at nodes A id) ≡ true → poly_value p (residues A) sides ≡ 0
  zero_by_truth A sides same holds = one_value p (residues A) sides (difference_of p nodes (node_at nodes id)) same ∙ zero_where_true A holds

  pub nonzero_by_falsehood : (A : List Value) (sides : Terms) → SamePolynomial p sides (difference_of p nodes (node_at nodes id)) → truth (value_at nodes A id) ≡ false → poly_value p (residues A) sides ≢ 0
  nonzero_by_falsehood A sides same fails none = nonzero_where_false A fails (sym (one_value p (residues A) sides (difference_of p nodes (node_at nodes id)) same) ∙ none)

  module _ (A B : List Value) (xs : List ℕ) (variables : (x : ℕ) → IsNodeOf nodes (id ∷ []) x → IsVariableAt nodes p x → Contains xs x) (alike : (x : ℕ) → Contains xs x → residues A x ≡ residues B x) where
    side_alike : (c s t : ℕ) → IsNodeAt nodes id (Eq s t) → Contains (s ∷ t ∷ []) c → IsFieldAt nodes p c → residues A c ≡ residues B c
    side_alike c s t at has field =
        let P : ℕ → Type 0 = λ x. IsVariableAt nodes p x × IsNodeOf nodes (c ∷ []) x in
        let same : value_sum (residues A) (poly_at nodes c) ≡ value_sum (residues B) (poly_at nodes c) =
        terms_alike (residues A) (residues B) P (λ x there. alike x (variables x (nodes_of_child nodes id c x (Eq s t) at has there.1) there.0)) (poly_at nodes c) (poly_at-variables nodes p c table field) in
        sym (poly_at-value nodes A p (residues A) c table (λ x there. refl) field)
        ∙ ap (λ n. n % p) same
        ∙ poly_at-value nodes B p (residues B) c table (λ x there. refl) field

    -- an equality has one value where the variables of its sides have one value each
    pub equality_alike : value_at nodes A id ≡ value_at nodes B id
    equality_alike =
        let h = has_sides p nodes id table is in
        equality_value A
        ∙ ap₂ (λ m n. value.Bool (m == n)) (side_alike h.left h.left h.right h.at (0, omega arith, refl) h.sides.first) (side_alike h.right h.left h.right h.at (1, omega arith, refl) h.sides.second)
        ∙ sym (equality_value B)
