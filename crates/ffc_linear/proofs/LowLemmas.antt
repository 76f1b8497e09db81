-- Polynomials of degree at most 1 in listed variables: what they write is in columns.
use Rattle.std.proofs.Common.{◌≡◌, ◌≢◌, ℕ, ◌-◌, ◌*◌, ◌%◌, ◌≤◌, max, true, List, [], ◌∷◌, None, fold, refl, ap, ◌∙◌, arith, mul-zero}
use Rattle.std.proofs.Math.Nat.{zero-mod}
use Rattle.ffc_ring.specs.Monomial.{Monomial, IsMonomial, degree}
use Rattle.ffc_ring.specs.Polynomial.{Terms, written, coefficient, scaled, difference}
use Rattle.ffc_ring.proofs.PolynomialLemmas.{written-off, written-append, written-scaled}
use Rattle.ffc_rules.specs.Cones.{is_listed}
use Rattle.ffc_trees.specs.Normal.{degree_of}
use Rattle.ffc_trees.specs.NodePolynomials.{EachMonomial, HasVariables}
use Rattle.ffc_linear.specs.Affine.{monomial_column}
use Rattle.ffc_linear.proofs.ColumnLemmas.{low_column}

-- a monomial has a column
abbrev pub HasColumn : List ℕ → Monomial → Type 0
HasColumn ids m = monomial_column ids m ≢ None

-- where each monomial of some terms has a column, nothing is written for one without
none_written : (ids : List ℕ) (ts : Terms) (m : Monomial) → EachMonomial (HasColumn ids) ts → monomial_column ids m ≡ None → written ts m ≡ 0
none_written ids [] m each none = refl
none_written ids (t ∷ ts) m each none =
    written-off m t ts (λ e. each.0 (ap (monomial_column ids) e ∙ none)) ∙ none_written ids ts m each.1 none

-- nor in the difference of such terms
pub difference_without_column : (p : ℕ) (ids : List ℕ) (a b : Terms) (m : Monomial) → EachMonomial (HasColumn ids) a → EachMonomial (HasColumn ids) b → monomial_column ids m ≡ None → coefficient p (difference p a b) m ≡ 0
difference_without_column p ids a b m first second none =
    let left = none_written ids a m first none in
    let right = none_written ids b m second none in
    let product : (p - 1) * written b m ≡ 0 = ap (λ x. (p - 1) * x) right ∙ mul-zero (p - 1) in
    let all : written (difference p a b) m ≡ 0 = omega (arith, written-append a (scaled (p - 1) b) m, written-scaled (p - 1) b m, left, product) in
    ap (λ x. x % p) all ∙ zero-mod p

-- variables that are all listed
listed_variables : (P : ℕ → Type 0) (ids : List ℕ) (m : Monomial) → ((x : ℕ) → P x → is_listed ids x ≡ true) → HasVariables P m → HasVariables (λ x. is_listed ids x ≡ true) m
listed_variables P ids [] listed has = tt
listed_variables P ids (f ∷ m) listed has = (listed f.0 has.0, listed_variables P ids m listed has.1)

greatest_from : (a : ℕ) (ts : Terms) → a ≤ fold (λ b t. max b (degree t.1)) a ts
greatest_from a [] = omega arith
greatest_from a (t ∷ ts) = let rest : max a (degree t.1) ≤ fold (λ b u. max b (degree u.1)) (max a (degree t.1)) ts = greatest_from (max a (degree t.1)) ts in omega arith

module _ (P : ℕ → Type 0) (ids : List ℕ) (listed : (x : ℕ) → P x → is_listed ids x ≡ true) where
  columns_from : (a : ℕ) (ts : Terms) → fold (λ b t. max b (degree t.1)) a ts ≤ 1 → EachMonomial (λ m. IsMonomial m × HasVariables P m) ts → EachMonomial (HasColumn ids) ts
  columns_from a [] low each = tt
  columns_from a (t ∷ ts) low each =
      let most : max a (degree t.1) ≤ fold (λ b u. max b (degree u.1)) (max a (degree t.1)) ts = greatest_from (max a (degree t.1)) ts in (
        low_column ids t.1 each.0.0 (omega arith) (listed_variables P ids t.1 listed each.0.1),
        columns_from (max a (degree t.1)) ts low each.1,
      )

  pub low_columns : (ts : Terms) → degree_of ts ≤ 1 → EachMonomial (λ m. IsMonomial m × HasVariables P m) ts → EachMonomial (HasColumn ids) ts
  low_columns ts low each = columns_from 0 ts low each
