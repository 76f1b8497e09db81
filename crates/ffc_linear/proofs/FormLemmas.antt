-- Sums of affine forms as polynomials.
use Rattle.std.proofs.Common.{inl, inr, ◌⊎◌, ◌≡◌, ℕ, suc, ◌+◌, ◌*◌, ◌%◌, ◌<◌, ◌==◌, Bool, true, false, cond, List, [], ◌∷◌, length, All, Option, Some, None, option_map, refl, sym, ap, ◌∙◌, arith, mul-zero, mul_comm}
use Rattle.std.proofs.Math.Nat.{zero-mod, mod-mod}
use Rattle.std.proofs.lemmas.Bool.{cases_eq}
use Rattle.std.proofs.lemmas.List.Elements.{All-head, All-tail}
use Rattle.std.proofs.lemmas.Option.{same_Some}
use Rattle.ffc_echelon.specs.Vectors.{Coordinates, coordinate, sum_in}
use Rattle.ffc_echelon.specs.Forms.{IsContradiction, IsCombination}
use Rattle.ffc_ring.specs.Monomial.{Monomial, IsMonomial}
use Rattle.ffc_ring.specs.Polynomial.{Terms, AreTerms, written, coefficient, SamePolynomial, scaled}
use Rattle.ffc_ring.proofs.PolynomialLemmas.{sum_alike, times_alike, written-append, written-scaled, monomial_of_coefficient}
use Rattle.ffc_rules.specs.Entries.{is_equality_at}
use Rattle.ffc_term.specs.declared.node.Node.{Node}
use Rattle.ffc_term.specs.Tables.{IsTable}
use Rattle.ffc_trees.specs.NodePolynomials.{constant}
use Rattle.ffc_linear.specs.Affine.{column_of, monomial_column, coordinate_if, IsAffineForm, AreAffineForms}
use Rattle.ffc_linear.proofs.SumLemmas.{difference_at, plain_sum}
use Rattle.ffc_linear.proofs.TermLemmas.{difference_terms, terms-append, terms-scaled}

-- the sum of the vectors' coordinates in a column, where there is one
abbrev pub sum_if : List ℕ → List Coordinates → Option ℕ → ℕ
sum_if [] vs col = 0
sum_if (c ∷ cs) [] col = 0
sum_if (c ∷ cs) (v ∷ vs) col = c * coordinate_if v col + sum_if cs vs col

sum_if-none : (cs : List ℕ) (vs : List Coordinates) → sum_if cs vs None ≡ 0
sum_if-none [] vs = refl
sum_if-none (c ∷ cs) [] = refl
sum_if-none (c ∷ cs) (v ∷ vs) = omega (arith, mul-zero c, sum_if-none cs vs)

sum_if-some : (cs : List ℕ) (vs : List Coordinates) (k : ℕ) → sum_if cs vs (Some k) ≡ sum_in cs vs k
sum_if-some [] vs k = refl
sum_if-some (c ∷ cs) [] k = refl
sum_if-some (c ∷ cs) (v ∷ vs) k = ap (λ x. c * coordinate v k + x) (sum_if-some cs vs k)

-- a column of a constant is below the number of constants
column_below : (constants : List ℕ) (x k : ℕ) → column_of constants x ≡ Some k → k < length constants
column_below [] x k is = absurd (none_some k is)
  where
    none_some : (k : ℕ) → None ≡ Some k → ⊥
    none_some k e = cc
column_below (id ∷ ids) x k is = by_case (id == x) (λ j at. column_below ids x j at) is
  where
    by_rest : (o : Option ℕ) → ((j : ℕ) → o ≡ Some j → j < length ids) → option_map suc o ≡ Some k → k < suc (length ids)
    by_rest None below e = absurd cc
    by_rest (Some j) below e = let is : suc j ≡ k = same_Some (suc j) k e in let less = below j refl in omega arith

    by_case : (b : Bool) → ((j : ℕ) → column_of ids x ≡ Some j → j < length ids) → cond b (Some 0) (option_map suc (column_of ids x)) ≡ Some k → k < suc (length ids)
    by_case true below e = let is : 0 ≡ k = same_Some 0 k e in omega arith
    by_case false below e = by_rest (column_of ids x) below e

-- the column of a monomial other than 1, if it has one, is that of a constant
pub other_column : (constants : List ℕ) (f : ℕ × ℕ) (m : Monomial) → (monomial_column constants (f ∷ m) ≡ None) ⊎ ((k : ℕ) × (k < length constants) × (monomial_column constants (f ∷ m) ≡ Some k))
other_column constants (x, e) (g ∷ m) = inl refl
other_column constants (x, e) [] = by_case (e == 1)
  where
    by_column : (o : Option ℕ) → column_of constants x ≡ o → (o ≡ None) ⊎ ((k : ℕ) × (k < length constants) × (o ≡ Some k))
    by_column None is = inl refl
    by_column (Some k) is = inr (k, column_below constants x k is, refl)

    by_case : (b : Bool) → (cond b (column_of constants x) None ≡ None) ⊎ ((k : ℕ) × (k < length constants) × (cond b (column_of constants x) None ≡ Some k))
    by_case true = by_column (column_of constants x) refl
    by_case false = inl refl

module _ (p : ℕ) (nodes : List Node) (constants : List ℕ) where
  -- a coefficient of the sum of the differences
  coefficient-plain_sum : (ids cs : List ℕ) (vs : List Coordinates) (m : Monomial) → AreAffineForms p nodes constants ids vs → IsMonomial m
      → coefficient p (plain_sum p nodes ids cs) m ≡ sum_if cs vs (monomial_column constants m) % p
  coefficient-plain_sum [] [] [] m forms is = refl
  coefficient-plain_sum [] (c ∷ cs) [] m forms is = refl
  coefficient-plain_sum [] cs (v ∷ vs) m forms is = absurd forms
  coefficient-plain_sum (id ∷ ids) cs [] m forms is = absurd forms
  coefficient-plain_sum (id ∷ ids) [] (v ∷ vs) m forms is = refl
  coefficient-plain_sum (id ∷ ids) (c ∷ cs) (v ∷ vs) m forms is =
      let col = monomial_column constants m in
      let here : written (difference_at p nodes id) m % p ≡ coordinate_if v col % p =
      sym (mod-mod (written (difference_at p nodes id) m) p) ∙ ap (λ x. x % p) (forms.0.same m is) in
      ap (λ x. x % p) (written-append (scaled c (difference_at p nodes id)) (plain_sum p nodes ids cs) m ∙ ap (λ x. x + written (plain_sum p nodes ids cs) m) (written-scaled c (difference_at p nodes id) m))
      ∙ sum_alike p (c * written (difference_at p nodes id) m) (c * coordinate_if v col) (written (plain_sum p nodes ids cs) m) (sum_if cs vs col)
      (ap (λ x. x % p) (mul_comm c _) ∙ times_alike p (written (difference_at p nodes id) m) (coordinate_if v col) c here ∙ ap (λ x. x % p) (mul_comm _ c))
      (coefficient-plain_sum ids cs vs m forms.1 is)

  module _ (table : IsTable nodes) where
    plain_terms : (ids cs : List ℕ) → All (λ id. is_equality_at nodes p id ≡ true) ids → AreTerms (plain_sum p nodes ids cs)
    plain_terms [] cs are = tt
    plain_terms (id ∷ ids) [] are = tt
    plain_terms (id ∷ ids) (c ∷ cs) are =
        terms-append (scaled c (difference_at p nodes id)) (plain_sum p nodes ids cs)
        (terms-scaled c (difference_at p nodes id) (difference_terms nodes p id table (All-head (λ i. is_equality_at nodes p i ≡ true) id ids are)))
        (plain_terms ids cs (All-tail (λ i. is_equality_at nodes p i ≡ true) id ids are))

    -- two polynomials that agree at monomials are the same
    pub same_at_monomials : (a b : Terms) → AreTerms a → AreTerms b → ((m : Monomial) → IsMonomial m → coefficient p a m ≡ coefficient p b m) → SamePolynomial p a b
    same_at_monomials a b one two same m =
        elim (cases_eq (coefficient p a m) 0) as (λ _. coefficient p a m ≡ coefficient p b m) [
          | inr some ↦ same m (monomial_of_coefficient p a m one some)
          | inl none ↦ elim (cases_eq (coefficient p b m) 0) as (λ _. coefficient p a m ≡ coefficient p b m) [
            | inr some ↦ same m (monomial_of_coefficient p b m two some)
            | inl also ↦ none ∙ sym also
          ]
        ]

    -- a combination that is a constant
    pub sum_is_constant : (ids cs : List ℕ) (vs : List Coordinates) → All (λ id. is_equality_at nodes p id ≡ true) ids → AreAffineForms p nodes constants ids vs
        → IsContradiction p (length constants) vs cs → SamePolynomial p (plain_sum p nodes ids cs) (constant (sum_in cs vs (length constants) % p))
    sum_is_constant ids cs vs are forms is =
        same_at_monomials (plain_sum p nodes ids cs) (constant (sum_in cs vs (length constants) % p)) (plain_terms ids cs are) (tt, tt) at
      where
        value : ℕ
        value = sum_in cs vs (length constants) % p

        at : (m : Monomial) → IsMonomial m → coefficient p (plain_sum p nodes ids cs) m ≡ coefficient p (constant (sum_in cs vs (length constants) % p)) m
        at [] mono =
            coefficient-plain_sum ids cs vs [] forms mono ∙ ap (λ x. x % p) (sum_if-some cs vs (length constants))
            ∙ sym (mod-mod (sum_in cs vs (length constants)) p) ∙ ap (λ x. x % p) (let e : sum_in cs vs (length constants) % p ≡ sum_in cs vs (length constants) % p + 0 = omega arith in e)
        at (f ∷ m) mono =
            coefficient-plain_sum ids cs vs (f ∷ m) forms mono
            ∙ elim (other_column constants f m) as (λ _. sum_if cs vs (monomial_column constants (f ∷ m)) % p ≡ (0 + 0) % p) [
              | inl none ↦ ap (λ col. sum_if cs vs col % p) none ∙ ap (λ x. x % p) (sum_if-none cs vs)
              | inr (k, below, some) ↦ ap (λ col. sum_if cs vs col % p) some ∙ ap (λ x. x % p) (sum_if-some cs vs k) ∙ is.unknowns k below ∙ sym (zero-mod p)
            ]

    -- a combination that is the form of another equality
    pub sum_is_form : (ids cs : List ℕ) (vs : List Coordinates) (id : ℕ) (v : Coordinates) → All (λ i. is_equality_at nodes p i ≡ true) ids → AreAffineForms p nodes constants ids vs
        → is_equality_at nodes p id ≡ true → IsAffineForm p nodes constants id v → IsCombination p vs v [] cs → SamePolynomial p (plain_sum p nodes ids cs) (difference_at p nodes id)
    sum_is_form ids cs vs id v are forms equal form is =
        same_at_monomials (plain_sum p nodes ids cs) (difference_at p nodes id) (plain_terms ids cs are) (difference_terms nodes p id table equal)
        (λ m mono.
        coefficient-plain_sum ids cs vs m forms mono ∙ by_column (monomial_column constants m) ∙ sym (ap (λ x. x % p) (form.same m mono))
        ∙ mod-mod (written (difference_at p nodes id) m) p)
      where
        by_column : (col : Option ℕ) → sum_if cs vs col % p ≡ coordinate_if v col % p
        by_column None = ap (λ x. x % p) (sum_if-none cs vs)
        by_column (Some k) = ap (λ x. x % p) (sum_if-some cs vs k ∙ (let e : sum_in cs vs k ≡ 0 + sum_in cs vs k = omega arith in e)) ∙ is.sum k
