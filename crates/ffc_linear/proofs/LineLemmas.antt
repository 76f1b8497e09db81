-- The lines of a lemma over affine equalities, and their multiples by one term.
use Rattle.std.proofs.Common.{inl, inr, ◌≡◌, ◌≢◌, ℕ, suc, ◌+◌, ◌-◌, ◌%◌, ◌<◌, ◌≤◌, ◌==◌, Bool, true, false, cond, List, [], ◌∷◌, ◌++◌, length, map, Contains, Option, Some, None, option_map, refl, sym, ap, ◌∙◌, subst, arith, length-append, append_assoc, append-nil, ap₂}
use Rattle.std.specs.List.{AllByRecursion, list_any}
use Rattle.std.proofs.Math.Nat.{zero-mod}
use Rattle.std.proofs.lemmas.Bool.{false≢true, eqb-true, or_left, or_right, or_cases}
use Rattle.std.proofs.lemmas.List.{get_or_at, length_push, length-map}
use Rattle.std.proofs.lemmas.List.Elements.{Contains-append_right}
use Rattle.ffc_refutation.specs.Combinations.{IsAmong, IsSummand}
use Rattle.ffc_ring.specs.Monomial.{Monomial, IsMonomial, degree, mono_mul, same_monomial}
use Rattle.ffc_ring.specs.Polynomial.{Terms, coefficient, product, difference, scaled, term_product}
use Rattle.ffc_field.specs.Modular.{add_mod}
use Rattle.ffc_ring.specs.Counting.{AreDifferent}
use Rattle.ffc_ring.proofs.PolynomialLemmas.{same_monomial-true, same_monomial-self, monomial_of_coefficient, product_commutes, shifted_monomial, coefficient-append}
use Rattle.ffc_rules.specs.Entries.{is_equality_at}
use Rattle.ffc_term.specs.declared.node.Node.{Node}
use Rattle.ffc_term.specs.Tables.{IsTable}
use Rattle.ffc_trees.specs.Normal.{normal, IsNormal, monomials_of}
use Rattle.ffc_trees.specs.NodePolynomials.{variable, constant}
use Rattle.ffc_trees.specs.TreeLines.{line_at}
use Rattle.ffc_trees.proofs.NormalLemmas.{normal_same, normal_is_normal}
use Rattle.ffc_linear.specs.Affine.{column_of, monomial_column, coordinate_if, IsAffineForm}
use Rattle.ffc_linear.specs.Refuting.{summands_from}
use Rattle.ffc_linear.proofs.SumLemmas.{difference_at, lines_of}
use Rattle.ffc_linear.proofs.TermLemmas.{difference_terms, normal_nonzero, few_different}

-- 1 and the variables
abbrev pub affine_monomials : List ℕ → List Monomial
affine_monomials constants = [] ∷ map (λ x. (x, 1) ∷ []) constants

pub length-affine_monomials : (constants : List ℕ) → length (affine_monomials constants) ≡ suc (length constants)
length-affine_monomials constants = ap suc (length-map constants _)

-- 1 and their products with another variable
abbrev pub inverse_monomials : List ℕ → ℕ → List Monomial
inverse_monomials constants w = [] ∷ map (mono_mul ((w, 1) ∷ [])) (affine_monomials constants)

abbrev pub is_in : List Monomial → Monomial → Bool
is_in ms m = list_any (same_monomial m) ms

pub is_in-contains : (ms : List Monomial) (m : Monomial) → is_in ms m ≡ true → Contains ms m
is_in-contains [] m is = absurd (false≢true is)
is_in-contains (n ∷ ms) m is =
    elim (or_cases (same_monomial m n) (is_in ms m) is) as (λ _. Contains (n ∷ ms) m) [
      | inl here ↦ (0, omega arith, sym (same_monomial-true m n here))
      | inr later ↦ Contains-append_right (n ∷ []) ms m (is_in-contains ms m later)
    ]

-- a product with a monomial is among the products with it
pub is_in-times : (w : Monomial) (ms : List Monomial) (m : Monomial) → is_in ms m ≡ true → is_in (map (mono_mul w) ms) (mono_mul w m) ≡ true
is_in-times w [] m is = absurd (false≢true is)
is_in-times w (n ∷ ms) m is =
    elim (or_cases (same_monomial m n) (is_in ms m) is) as (λ _. is_in (map (mono_mul w) (n ∷ ms)) (mono_mul w m) ≡ true) [
      | inl here ↦
          or_left (same_monomial (mono_mul w m) (mono_mul w n)) (is_in (map (mono_mul w) ms) (mono_mul w m))
          (ap (λ k. same_monomial (mono_mul w k) (mono_mul w n)) (same_monomial-true m n here) ∙ same_monomial-self (mono_mul w n))
      | inr later ↦ or_right (same_monomial (mono_mul w m) (mono_mul w n)) (is_in (map (mono_mul w) ms) (mono_mul w m)) (is_in-times w ms m later)
    ]

-- a variable with a column is one of the constants
column_in : (constants : List ℕ) (x k : ℕ) → column_of constants x ≡ Some k → is_in (map (λ y. (y, 1) ∷ []) constants) ((x, 1) ∷ []) ≡ true
column_in [] x k is = absurd (none k is)
  where
    none : (k : ℕ) → None ≡ Some k → ⊥
    none k e = cc
column_in (id ∷ ids) x k is = by_case (id == x) refl (λ j at. column_in ids x j at) is
  where
    by_rest : (o : Option ℕ) → ((j : ℕ) → o ≡ Some j → is_in (map (λ y. (y, 1) ∷ []) ids) ((x, 1) ∷ []) ≡ true) → option_map suc o ≡ Some k → is_in (map (λ y. (y, 1) ∷ []) ids) ((x, 1) ∷ []) ≡ true
    by_rest None then e = absurd cc
    by_rest (Some j) then e = then j refl

    by_case : (b : Bool) → (id == x) ≡ b → ((j : ℕ) → column_of ids x ≡ Some j → is_in (map (λ y. (y, 1) ∷ []) ids) ((x, 1) ∷ []) ≡ true) → cond b (Some 0) (option_map suc (column_of ids x)) ≡ Some k
        → is_in (map (λ y. (y, 1) ∷ []) (id ∷ ids)) ((x, 1) ∷ []) ≡ true
    by_case true same then e =
        or_left (same_monomial ((x, 1) ∷ []) ((id, 1) ∷ [])) (is_in (map (λ y. (y, 1) ∷ []) ids) ((x, 1) ∷ []))
        (ap (λ y. same_monomial ((x, 1) ∷ []) ((y, 1) ∷ [])) (eqb-true id x same) ∙ same_monomial-self ((x, 1) ∷ []))
    by_case false other then e =
        or_right (same_monomial ((x, 1) ∷ []) ((id, 1) ∷ [])) (is_in (map (λ y. (y, 1) ∷ []) ids) ((x, 1) ∷ []))
        (by_rest (column_of ids x) then e)

-- a monomial with a column is 1 or a variable
monomial_in : (constants : List ℕ) (m : Monomial) (k : ℕ) → monomial_column constants m ≡ Some k → is_in (affine_monomials constants) m ≡ true
monomial_in constants [] k is = refl
monomial_in constants ((x, e) ∷ (g ∷ m)) k is = absurd cc
monomial_in constants ((x, e) ∷ []) k is = by_case (e == 1) refl is
  where
    by_case : (b : Bool) → (e == 1) ≡ b → cond b (column_of constants x) None ≡ Some k → is_in (affine_monomials constants) ((x, e) ∷ []) ≡ true
    by_case true one at = subst (λ i. is_in (map (λ y. (y, 1) ∷ []) constants) ((x, i) ∷ []) ≡ true) (sym (eqb-true e 1 one)) (column_in constants x k at)
    by_case false other at = absurd cc

each_mapped : (p : ℕ) (test : Monomial → Bool) (us ts : Terms) → ((m : Monomial) → coefficient p us m ≢ 0 → test m ≡ true) → AllByRecursion (λ t. coefficient p us t.1 ≢ 0) ts → AllByRecursion (λ t. test t.1 ≡ true) ts
each_mapped p test us [] f are = tt
each_mapped p test us (t ∷ ts) f are = (f t.1 are.0, each_mapped p test us ts f are.1)

monomials_each : (test : Monomial → Bool) (ts : Terms) → AllByRecursion (λ t. test t.1 ≡ true) ts → AllByRecursion (λ m. test m ≡ true) (monomials_of ts)
monomials_each test [] are = tt
monomials_each test (t ∷ ts) are = (are.0, monomials_each test ts are.1)

normal_different : (p : ℕ) (ts : Terms) → IsNormal p ts → AreDifferent (monomials_of ts)
normal_different p [] is = tt
normal_different p (t ∷ ts) is = (is.2, normal_different p ts is.3)

length-monomials_of : (ts : Terms) → length (monomials_of ts) ≡ length ts
length-monomials_of [] = refl
length-monomials_of (t ∷ ts) = ap suc (length-monomials_of ts)

-- A line is short whose polynomial has only some monomials.
module _ (p : ℕ) (ts : Terms) (ms : List Monomial) (positive : 0 < p) (among : (m : Monomial) → coefficient p ts m ≢ 0 → is_in ms m ≡ true) where
  pub line_among : AllByRecursion (λ t. is_in ms t.1 ≡ true) (normal p ts)
  line_among =
      each_mapped p (is_in ms) (normal p ts) (normal p ts) (λ m some. among m (λ none. some (normal_same p ts m ∙ none)))
      (normal_nonzero p (normal p ts) (normal_is_normal p ts positive))

  pub line_short : length (normal p ts) ≤ length ms
  line_short =
      let few = few_different (monomials_of (normal p ts)) ms (normal_different p (normal p ts) (normal_is_normal p ts positive)) (monomials_each (is_in ms) (normal p ts) line_among) in
      omega (arith, few, length-monomials_of (normal p ts))

pub contained : (ms : List Monomial) (w : Monomial) (others : List Monomial) (ts : Terms) → ((m : Monomial) → is_in ms m ≡ true → Contains others (mono_mul w m)) → AllByRecursion (λ t. is_in ms t.1 ≡ true) ts → AllByRecursion (λ t. Contains others (mono_mul w t.1)) ts
contained ms w others [] f are = tt
contained ms w others (t ∷ ts) f are = (f t.1 are.0, contained ms w others ts f are.1)

module _ (p : ℕ) (nodes : List Node) (table : IsTable nodes) (positive : 0 < p) (constants : List ℕ) (id : ℕ) (v : List (ℕ × ℕ)) (equal : is_equality_at nodes p id ≡ true) (form : IsAffineForm p nodes constants id v) where
  -- the monomials of an affine difference
  difference_in : (m : Monomial) → coefficient p (difference_at p nodes id) m ≢ 0 → is_in (affine_monomials constants) m ≡ true
  difference_in m some =
      let mono : IsMonomial m = monomial_of_coefficient p (difference_at p nodes id) m (difference_terms nodes p id table equal) some in
      by_column (monomial_column constants m) refl (λ none. some (form.same m mono ∙ none))
    where
      by_column : (col : Option ℕ) → monomial_column constants m ≡ col → coordinate_if v col ≢ 0 → is_in (affine_monomials constants) m ≡ true
      by_column None at other = absurd (other refl)
      by_column (Some k) at other = monomial_in constants m k at

  pub equation_among : AllByRecursion (λ t. is_in (affine_monomials constants) t.1 ≡ true) (normal p (difference_at p nodes id))
  equation_among = line_among p (difference_at p nodes id) (affine_monomials constants) positive difference_in

  pub equation_short : length (normal p (difference_at p nodes id)) ≤ length (affine_monomials constants)
  equation_short = line_short p (difference_at p nodes id) (affine_monomials constants) positive difference_in

  module _ (w : ℕ) where
    product_in : (m : Monomial) → coefficient p (product (difference_at p nodes id) (variable w)) m ≢ 0 → is_in (map (mono_mul ((w, 1) ∷ [])) (affine_monomials constants)) m ≡ true
    product_in m some =
        let d = difference_at p nodes id in
        let terms = difference_terms nodes p id table equal in
        let same = product_commutes p d (variable w) terms ((omega arith, omega arith, tt), tt) m in
        let one : coefficient p (term_product 1 ((w, 1) ∷ []) d) m ≢ 0 = λ none. some (same ∙ ap (λ ts. coefficient p ts m) (append-nil (term_product 1 ((w, 1) ∷ []) d)) ∙ none) in
        let (n, mono, has, is) = shifted_monomial p 1 ((w, 1) ∷ []) m d (omega arith, omega arith, tt) terms one in
        ap (is_in (map (mono_mul ((w, 1) ∷ [])) (affine_monomials constants))) is ∙ is_in-times ((w, 1) ∷ []) (affine_monomials constants) n (difference_in n has)

    inverse_in : (m : Monomial) → coefficient p (difference p (product (difference_at p nodes id) (variable w)) (constant 1)) m ≢ 0 → is_in (inverse_monomials constants w) m ≡ true
    inverse_in [] some = refl
    inverse_in (f ∷ m) some =
        product_in (f ∷ m) (λ none. some
        (coefficient-append p (product (difference_at p nodes id) (variable w)) (scaled (p - 1) (constant 1)) (f ∷ m)
        ∙ ap₂ (add_mod p) none (zero-mod p) ∙ ap (λ x. x % p) (let e : 0 + 0 ≡ 0 = refl in e) ∙ zero-mod p))

    pub disequation_among : AllByRecursion (λ t. is_in (inverse_monomials constants w) t.1 ≡ true) (normal p (difference p (product (difference_at p nodes id) (variable w)) (constant 1)))
    disequation_among = line_among p (difference p (product (difference_at p nodes id) (variable w)) (constant 1)) (inverse_monomials constants w) positive inverse_in

    pub disequation_short : length (normal p (difference p (product (difference_at p nodes id) (variable w)) (constant 1))) ≤ length (inverse_monomials constants w)
    disequation_short = line_short p (difference p (product (difference_at p nodes id) (variable w)) (constant 1)) (inverse_monomials constants w) positive inverse_in

-- The multiples of the lines of equations

-- a line that may be multiplied by the monomial
pub record IsLineFor (m : Monomial) (monomials : List Monomial) (line : Terms) : Type 0 where
  pub short : length line ≤ 8192
  pub among : IsAmong monomials m line

module _ (p : ℕ) (nodes : List Node) (m : Monomial) (monomials : List Monomial) (mono : IsMonomial m) (powers : length m ≤ 16) (low : degree m ≤ 1024) where
  summand_at : (lines : List Terms) (k c : ℕ) (line : Terms) → k < length lines → line_at lines k ≡ line → c < p → IsLineFor m monomials line → IsSummand p lines monomials (k, (c, m))
  summand_at lines k c line there at below for = record {
    there = there;
    residue = below;
    monomial = mono;
    powers = powers;
    low = low;
    short = subst (λ ts. length ts ≤ 8192) (sym at) for.short;
    among = subst (IsAmong monomials m) (sym at) for.among;
  }

  pub each_summand : (front back : List Terms) (k : ℕ) (ids cs : List ℕ) → k ≡ length front → length cs ≡ length ids
      → AllByRecursion (λ id. IsLineFor m monomials (normal p (difference_at p nodes id))) ids → AllByRecursion (λ c. c < p) cs
      → AllByRecursion (IsSummand p (front ++ (lines_of p nodes ids cs ++ back)) monomials) (summands_from k m cs)
  each_summand front back k [] [] at long each below = tt
  each_summand front back k [] (c ∷ cs) at long each below = absurd (omega arith)
  each_summand front back k (id ∷ ids) [] at long each below = tt
  each_summand front back k (id ∷ ids) (c ∷ cs) at long each below =
      by_case (c == 0) (each_summand front back k ids cs at (omega arith) each.1 below.1)
      (each_summand (front ++ normal p (difference_at p nodes id) ∷ []) back (k + 1) ids cs
      (let e : k + 1 ≡ length (front ++ normal p (difference_at p nodes id) ∷ []) = omega (arith, length_push front (normal p (difference_at p nodes id))) in e) (omega arith) each.1 below.1)
    where
      by_case : (b : Bool)
          → AllByRecursion (IsSummand p (front ++ (lines_of p nodes ids cs ++ back)) monomials) (summands_from k m cs)
          → AllByRecursion (IsSummand p ((front ++ normal p (difference_at p nodes id) ∷ []) ++ (lines_of p nodes ids cs ++ back)) monomials) (summands_from (k + 1) m cs)
          → AllByRecursion (IsSummand p (front ++ (cond b (lines_of p nodes ids cs) (normal p (difference_at p nodes id) ∷ lines_of p nodes ids cs) ++ back)) monomials) (cond b (summands_from k m cs) ((k, (c, m)) ∷ summands_from (k + 1) m cs))
      by_case true one two = one
      by_case false one two =
          let line = normal p (difference_at p nodes id) in
          let rest = lines_of p nodes ids cs ++ back in
          let there : k < length (front ++ (line ∷ rest)) = omega (arith, length-append front (line ∷ rest)) in (
            summand_at (front ++ (line ∷ rest)) k c line there (get_or_at front line rest [] k (sym at)) below.0 each.0,
            subst (λ ls. AllByRecursion (IsSummand p ls monomials) (summands_from (k + 1) m cs)) (append_assoc front (line ∷ []) rest) two,
          )
