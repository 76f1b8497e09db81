-- Sums of multiples of generators are sums of multiples of the rows of an echelon form.
use Rattle.std.proofs.Common.{◌≡◌, ℕ, zero, suc, ◌+◌, ◌*◌, ◌%◌, ◌<◌, ◌≤◌, ◌==◌, Bool, true, false, cond, List, [], ◌∷◌, ◌++◌, length, All, Contains, get_or, inl, inr, refl, sym, ap, ap₂, ◌∙◌, subst, arith, length-append, eq-eqb, ne_eqb}
use Rattle.std.specs.List.{AllByRecursion, IsDistinct, position_or_len}
use Rattle.std.proofs.lemmas.Bool.{cases_eq, false≢true}
use Rattle.std.proofs.lemmas.List.{get_or_at, get_or_append_left}
use Rattle.std.proofs.lemmas.List.Elements.{All-append, All-contains, All-cons, All-head, All-nil, All-tail, Contains-append_right, Contains-get_or}
use Rattle.std.proofs.lemmas.List.Sums.{position_or_len_is}
use Rattle.ffc_echelon.specs.Vectors.{Coordinates, coordinate}
use Rattle.ffc_echelon.specs.Forms.{Kept, Multiplier, IsSpanned, multiple_in, coordinates_of}
use Rattle.ffc_echelon.proofs.Congruences.{sum_alike, multiple_alike}
use Rattle.ffc_echelon.proofs.Dots.{product_below, product_below-same, product_below-alike, product_below-zero, product_below-sum, product_below-multiple}
use Rattle.ffc_refutation.specs.Combinations.{Summand, sum_of}
use Rattle.ffc_ring.specs.Monomial.{Monomial, degree, mono_mul, same_monomial}
use Rattle.ffc_ring.specs.Polynomial.{Terms, SamePolynomial, term_product}
use Rattle.ffc_ring.proofs.PolynomialLemmas.{weighted, weighted-append, weighted-term_product, one_weighted, same_monomial-self, same_monomial-other}
use Rattle.ffc_trees.specs.TreeLines.{line_at}
use Rattle.ffc_macaulay.specs.Matrix.{multiples_from, weight_of, AreRows, AreUnknowns, IsMatrix, IsRow}
use Rattle.ffc_macaulay.specs.Identities.{AreGenerators, AreLinesOf, IsMultiple}
use Rattle.ffc_macaulay.proofs.MemberLemmas.{contained_each, contains_cases, contains_first, contains_none}
use Rattle.ffc_macaulay.proofs.ListLemmas.{label_listed}

-- ---- multiples of multiples

abbrev pub times : ℕ → List Multiplier → List Multiplier
times c [] = []
times c (m ∷ ms) = (m.0, c * m.1) ∷ times c ms

pub there-times : (n c : ℕ) (ms : List Multiplier) → All (λ m. m.0 < n) ms → All (λ m. m.0 < n) (times c ms)
there-times n c [] there = All-nil (λ m. m.0 < n)
there-times n c (m ∷ ms) there =
    All-cons (λ m. m.0 < n) (m.0, c * m.1) (times c ms) (All-head (λ m. m.0 < n) m ms there) (there-times n c ms (All-tail (λ m. m.0 < n) m ms there))

pub multiple_in-times : (kept : List Kept) (c : ℕ) (ms : List Multiplier) (k : ℕ) → multiple_in kept (times c ms) k ≡ c * multiple_in kept ms k
multiple_in-times kept c [] k = omega arith
multiple_in-times kept c (m ∷ ms) k =
    let rest = multiple_in-times kept c ms k in
    let x = coordinate (coordinates_of kept m.0) k in
    let first : c * m.1 * x ≡ c * (m.1 * x) = omega arith in
    ap₂ (λ a b. a + b) first rest ∙ (let e : c * (m.1 * x) + c * multiple_in kept ms k ≡ c * (m.1 * x + multiple_in kept ms k) = omega arith in e)

pub multiple_in-append : (kept : List Kept) (a b : List Multiplier) (k : ℕ) → multiple_in kept (a ++ b) k ≡ multiple_in kept a k + multiple_in kept b k
multiple_in-append kept [] b k = omega arith
multiple_in-append kept (m ∷ a) b k =
    let rest = multiple_in-append kept a b k in
    let x = m.1 * coordinate (coordinates_of kept m.0) k in
    ap (λ y. x + y) rest ∙ (let e : x + (multiple_in kept a k + multiple_in kept b k) ≡ x + multiple_in kept a k + multiple_in kept b k = omega arith in e)

-- ---- terms as sums of multiples of rows

-- multiples of kept rows whose sum has the same value as the terms under every linear function
pub record IsSpanOf (p : ℕ) (columns : List Monomial) (kept : List Kept) (terms : Terms) : Type 0 where
  pub multipliers : List Multiplier
  pub there : All (λ m. m.0 < length kept) multipliers
  pub same : (f : Monomial → ℕ) → weight_of f columns (multiple_in kept multipliers) % p ≡ weighted f terms % p

span_none : (p : ℕ) (columns : List Monomial) (kept : List Kept) → IsSpanOf p columns kept []
span_none p columns kept = record {
  multipliers = [];
  there = All-nil (λ m. m.0 < length kept);
  same = λ f. ap (λ x. x % p) (product_below-zero (λ k. f (get_or columns k [])) (length columns));
}

-- a multiple of a line whose row is spanned, and more
span_more : (p : ℕ) (columns : List Monomial) (kept : List Kept) (c : ℕ) (m : Monomial) (line generator ts : Terms) (v : Coordinates) → IsRow p columns generator m v → SamePolynomial p line generator → IsSpanned p kept v
    → IsSpanOf p columns kept ts → IsSpanOf p columns kept (term_product c m line ++ ts)
span_more p columns kept c m line generator ts v row same spanned rest = record {
  multipliers = times c spanned.0 ++ rest.multipliers;
  there = All-append (λ m. m.0 < length kept) (times c spanned.0) rest.multipliers (there-times (length kept) c spanned.0 spanned.1.there) rest.there;
  same = λ f.
      let g : ℕ → ℕ = λ k. f (get_or columns k []) in
      let n = length columns in
      let one = multiple_in kept spanned.0 in
      let others = multiple_in kept rest.multipliers in
      let whole : product_below g (multiple_in kept (times c spanned.0 ++ rest.multipliers)) n ≡ c * product_below g one n + product_below g others n =
      product_below-same g (multiple_in kept (times c spanned.0 ++ rest.multipliers)) (λ k. c * one k + others k) n
      (λ k less. multiple_in-append kept (times c spanned.0) rest.multipliers k ∙ ap (λ x. x + others k) (multiple_in-times kept c spanned.0 k))
      ∙ product_below-sum g (λ k. c * one k) others n
      ∙ ap (λ x. x + product_below g others n) (product_below-multiple g one c n) in
      let first : product_below g one n % p ≡ weighted (λ k. f (mono_mul m k)) line % p =
      product_below-alike p g one (coordinate v) n (λ k. ap (λ x. x % p) (let e : one k ≡ 0 + one k = omega arith in e) ∙ spanned.1.sum k)
      ∙ row.same f ∙ sym (one_weighted p (λ k. f (mono_mul m k)) line generator same) in
      ap (λ x. x % p) whole
      ∙ sum_alike p (c * product_below g one n) (c * weighted (λ k. f (mono_mul m k)) line) (product_below g others n) (weighted f ts)
      (multiple_alike p c (product_below g one n) (weighted (λ k. f (mono_mul m k)) line) first) (rest.same f)
      ∙ ap (λ x. x % p) (ap (λ x. x + weighted f ts) (sym (weighted-term_product f c m line)) ∙ sym (weighted-append f (term_product c m line) ts));
}

-- the row of a multiple
pub record IsRowFor (p : ℕ) (columns : List Monomial) (generators : List Terms) (vs : List Coordinates) (m : ℕ × Monomial) : Type 0 where
  pub row : Coordinates
  pub is : IsRow p columns (get_or generators m.0 []) m.1 row
  pub listed : Contains vs row

row_for : (p : ℕ) (columns : List Monomial) (generators : List Terms) (ms : List (ℕ × Monomial)) (vs : List Coordinates) (m : ℕ × Monomial) → AreRows p columns generators ms vs → Contains ms m → IsRowFor p columns generators vs m
row_for p columns generators [] vs m are has = absurd (contains_none m has)
row_for p columns generators (n ∷ ms) [] m are has = absurd are
row_for p columns generators (n ∷ ms) (v ∷ vs) m are has = elim (contains_cases n ms m has) as (λ _. IsRowFor p columns generators (v ∷ vs) m) [
  | inl here ↦ subst (IsRowFor p columns generators (v ∷ vs)) here (record { row = v; is = are.0; listed = contains_first v vs })
  | inr later ↦
      let found = row_for p columns generators ms vs m are.1 later in
      record { row = found.row; is = found.is; listed = Contains-append_right (v ∷ []) vs found.row found.listed }
]

module _ (p d : ℕ) (xs degrees : List ℕ) (generators : List Terms) (are : AreGenerators d xs degrees generators) (unknowns : List Monomial) (ms : List (ℕ × Monomial)) (vs : List Coordinates) (matrix : IsMatrix p d xs degrees generators unknowns ms vs) where
  label_there : (s : Summand) → IsMultiple p d xs degrees s → Contains {X = ℕ × Monomial} ms (s.0, s.1.1)
  label_there s multiple =
      subst (λ ls. Contains {X = ℕ × Monomial} ls (s.0, s.1.1)) (sym matrix.multiples_are)
      (subst (λ i. Contains {X = ℕ × Monomial} (multiples_from d xs 0 degrees) (i, s.1.1)) (let e : 0 + s.0 ≡ s.0 = omega arith in e) (label_listed d xs 0 s.0 degrees s.1.1 multiple.there multiple.monomial))

  -- a sum of multiples is spanned where the rows are
  pub sum_spanned : (kept : List Kept) → All (IsSpanned p kept) vs → (lines : List Terms) → AreLinesOf p generators lines → (ss : List Summand) → AllByRecursion (IsMultiple p d xs degrees) ss
      → IsSpanOf p (unknowns ++ [] ∷ []) kept (sum_of lines ss)
  sum_spanned kept spans lines lines_are [] each = span_none p (unknowns ++ [] ∷ []) kept
  sum_spanned kept spans lines lines_are (s ∷ ss) each =
      let row = row_for p (unknowns ++ [] ∷ []) generators ms vs (s.0, s.1.1) matrix.rows_are (label_there s each.0) in
      span_more p (unknowns ++ [] ∷ []) kept s.1.0 s.1.1 (line_at lines s.0) (get_or generators s.0 []) (sum_of lines ss) row.row row.is
      (lines_are.same s.0 (let there = each.0.there in omega (arith, there, are.long)))
      (All-contains (IsSpanned p kept) vs row.row spans row.listed)
      (sum_spanned kept spans lines lines_are ss each.1)

-- ---- the coordinates of what is spanned

-- the linear function that is 1 at the monomial of one column and 0 at those of the others
abbrev pub at_column : List Monomial → ℕ → Monomial → ℕ
at_column unknowns k m = cond (position_or_len (same_monomial m) unknowns == k) 1 0

pub at_column-same : (unknowns : List Monomial) (k : ℕ) (m : Monomial) → position_or_len (same_monomial m) unknowns ≡ k → at_column unknowns k m ≡ 1
at_column-same unknowns k m is = ap (λ b. cond b 1 0) (eq-eqb (position_or_len (same_monomial m) unknowns) k is)

pub at_column-other : (unknowns : List Monomial) (k : ℕ) (m : Monomial) → (position_or_len (same_monomial m) unknowns ≡ k → ⊥) → at_column unknowns k m ≡ 0
at_column-other unknowns k m other = ap (λ b. cond b 1 0) (ne_eqb (position_or_len (same_monomial m) unknowns) k other)

-- a function that is 1 in one column and 0 in the others
one_column : (g h : ℕ → ℕ) (k n : ℕ) → k < n → g k ≡ 1 → ((j : ℕ) → j < n → (j ≡ k → ⊥) → g j ≡ 0) → product_below g h n ≡ h k
one_column g h k zero inside one others = absurd (omega (arith, inside))
one_column g h k (suc n) inside one others = elim (cases_eq n k) as (λ _. product_below g h (suc n) ≡ h k) [
  | inl same ↦
      let none = no_column g h n (λ j less. others j (omega (arith, less)) (λ e. omega (arith, e, less, same))) in
      let here : h n * g n ≡ h k = ap₂ (λ a b. h a * b) same (ap g same ∙ one) ∙ (let e : h k * 1 ≡ h k = omega arith in e) in
      omega (arith, none, here)
  | inr other ↦
      let before = one_column g h k n (omega (arith, inside, other)) one (λ j less. others j (omega (arith, less))) in
      let here : h n * g n ≡ 0 = ap (λ b. h n * b) (others n (omega arith) other) ∙ (let e : h n * 0 ≡ 0 = omega arith in e) in
      omega (arith, before, here)
]
  where
    no_column : (g h : ℕ → ℕ) (n : ℕ) → ((j : ℕ) → j < n → g j ≡ 0) → product_below g h n ≡ 0
    no_column g h zero zeros = refl
    no_column g h (suc n) zeros =
        let before = no_column g h n (λ j less. zeros j (omega (arith, less))) in
        let here : h n * g n ≡ 0 = ap (λ b. h n * b) (zeros n (omega arith)) ∙ (let e : h n * 0 ≡ 0 = omega arith in e) in
        omega (arith, before, here)

module _ (ms unknowns : List Monomial) (are : AreUnknowns 0 ms unknowns) where
  earlier_other : (ks : List Monomial) → IsDistinct same_monomial ks → (j k : ℕ) → j < k → k < length ks → same_monomial (get_or ks k []) (get_or ks j []) ≡ false
  unfolding IsDistinct
  earlier_other [] distinct j k less inside = absurd (omega arith)
  earlier_other (x ∷ ks) distinct j zero less inside = absurd (omega arith)
  earlier_other (x ∷ ks) distinct zero (suc k) less inside =
      same_monomial-other (get_or ks k []) x (λ e. absurd (both (same_monomial x (get_or ks k []))
      (contained_each (λ y. same_monomial x y ≡ false) ks (get_or ks k []) distinct.0 (Contains-get_or ks k [] (omega arith)))
      (ap (same_monomial x) e ∙ same_monomial-self x)))
    where
      both : (b : Bool) → b ≡ false → b ≡ true → ⊥
      both b denied claimed = false≢true (sym denied ∙ claimed)
  earlier_other (x ∷ ks) distinct (suc j) (suc k) less inside = earlier_other ks distinct.1 j k (omega arith) (omega arith)

  -- the place of the monomial of a column is the column
  pub unknown_place : (k : ℕ) → k < length unknowns → position_or_len (same_monomial (get_or unknowns k [])) unknowns ≡ k
  unknown_place k inside =
      position_or_len_is (same_monomial (get_or unknowns k [])) unknowns k [] (omega arith)
      (λ j less. earlier_other unknowns are.once j k less inside) (λ _. same_monomial-self (get_or unknowns k []))

  pub constant_place : position_or_len (same_monomial []) unknowns ≡ length unknowns
  constant_place =
      position_or_len_is (same_monomial []) unknowns (length unknowns) [] (omega arith)
      (λ j less. same_monomial-other [] (get_or unknowns j []) (λ e.
      let some = (are.above.only (get_or unknowns j []) (Contains-get_or unknowns j [] less)).1 in
      omega (arith, some, ap degree e)))
      (λ less. absurd (omega arith))

  column_place : (k : ℕ) → k < length (unknowns ++ [] ∷ []) → position_or_len (same_monomial (get_or (unknowns ++ [] ∷ []) k [])) unknowns ≡ k
  column_place k inside =
      let wide = length-append unknowns ([] ∷ []) in
      elim (cases_eq k (length unknowns)) as (λ _. position_or_len (same_monomial (get_or (unknowns ++ [] ∷ []) k [])) unknowns ≡ k) [
        | inl same ↦ ap (λ m. position_or_len (same_monomial m) unknowns) (get_or_at unknowns [] [] [] k (sym same)) ∙ constant_place ∙ sym same
        | inr other ↦
            let before : k < length unknowns = omega (arith, wide, inside, other) in
            ap (λ m. position_or_len (same_monomial m) unknowns) (get_or_append_left unknowns ([] ∷ []) [] k before) ∙ unknown_place k before
      ]

  -- the coordinate in a column is the weight under its function
  pub weight_at : (h : ℕ → ℕ) (k : ℕ) → k ≤ length unknowns → weight_of (at_column unknowns k) (unknowns ++ [] ∷ []) h ≡ h k
  weight_at h k inside =
      let wide = length-append unknowns ([] ∷ []) in
      let within : k < length (unknowns ++ [] ∷ []) = omega (arith, wide, inside) in
      one_column (λ j. at_column unknowns k (get_or (unknowns ++ [] ∷ []) j [])) h k (length (unknowns ++ [] ∷ [])) within
      (at_column-same unknowns k (get_or (unknowns ++ [] ∷ []) k []) (column_place k within))
      (λ j less other. at_column-other unknowns k (get_or (unknowns ++ [] ∷ []) j []) (λ e. other (sym (column_place j less) ∙ e)))

  -- what terms have in a column the multiples that span them have there
  pub span_at : (p : ℕ) (kept : List Kept) (terms : Terms) (span : IsSpanOf p (unknowns ++ [] ∷ []) kept terms) (k : ℕ) → k ≤ length unknowns → multiple_in kept span.multipliers k % p ≡ weighted (at_column unknowns k) terms % p
  span_at p kept terms span k inside = ap (λ x. x % p) (sym (weight_at (multiple_in kept span.multipliers) k inside)) ∙ span.same (at_column unknowns k)
