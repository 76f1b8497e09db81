-- The multiples in a combination of rows, and what they sum to.
use Rattle.std.proofs.Common.{◌≡◌, ◌≢◌, ℕ, zero, suc, ◌+◌, ◌*◌, ◌%◌, ◌<◌, ◌≤◌, ◌==◌, Bool, true, false, cond, List, [], ◌∷◌, ◌++◌, length, All, get_or, refl, sym, ap, ◌∙◌, subst, arith, append-nil, eq-eqb, ne_eqb}
use Rattle.std.specs.List.{AllByRecursion}
use Rattle.std.proofs.Math.Nat.{mod-lt, mod-mod}
use Rattle.std.proofs.lemmas.Bool.{eqb-true}
use Rattle.std.proofs.lemmas.List.Elements.{All-from_recursion}
use Rattle.ffc_echelon.specs.Vectors.{Coordinates, coordinate, sum_in}
use Rattle.ffc_echelon.specs.Forms.{IsContradiction}
use Rattle.ffc_echelon.proofs.Congruences.{sum_alike, multiple_alike, scale_alike}
use Rattle.ffc_echelon.proofs.Dots.{product_below-zero}
use Rattle.ffc_refutation.specs.Combinations.{sum_of, IsSummand, IsNonzeroConstant}
use Rattle.ffc_ring.specs.Monomial.{Monomial, degree, mono_mul}
use Rattle.ffc_ring.specs.Polynomial.{Terms, term_product}
use Rattle.ffc_ring.proofs.PolynomialLemmas.{weighted, weighted-append, weighted-term_product, one_weighted, SamePolynomial-from_weighted}
use Rattle.ffc_trees.specs.NodePolynomials.{constant}
use Rattle.ffc_trees.specs.TreeLines.{line_at}
use Rattle.ffc_bounds.specs.Monomials.{monomials, columns}
use Rattle.ffc_macaulay.specs.MonomialLaws.{IsUpTo}
use Rattle.ffc_macaulay.specs.Matrix.{weight_of, IsRow, AreRows, IsMatrix}
use Rattle.ffc_macaulay.specs.Identities.{AreGenerators, AreLinesOf, IsMultiple}
use Rattle.ffc_macaulay.specs.Refuting.{summands_of}
use Rattle.ffc_macaulay.proofs.MemberLemmas.{each_weaker, are_up_to}
use Rattle.ffc_macaulay.proofs.ListLemmas.{IsLabel, are_labels}
use Rattle.ffc_macaulay.proofs.LineLemmas.{is_summand}
use Rattle.ffc_macaulay.proofs.WeightLemmas.{weight-sum_in, weight_of_constant}

module _ (p : ℕ) (generators lines : List Terms) (are : AreLinesOf p generators lines) where
  -- a multiple of a line has the weight of its row
  row_weight : (f : Monomial → ℕ) (cols : List Monomial) (m : ℕ × Monomial) (v : Coordinates) → m.0 < length generators → IsRow p cols (get_or generators m.0 []) m.1 v
      → weighted (λ n. f (mono_mul m.1 n)) (line_at lines m.0) % p ≡ weight_of f cols (coordinate v) % p
  row_weight f cols m v there is =
      one_weighted p (λ n. f (mono_mul m.1 n)) (line_at lines m.0) (get_or generators m.0 []) (are.same m.0 there) ∙ sym (is.same f)

  -- the sum of multiples has the weight of the sum of their rows
  sum_weight : (f : Monomial → ℕ) (cols : List Monomial) (ms : List (ℕ × Monomial)) (vs : List Coordinates) (cs : List ℕ) → AllByRecursion (λ m. m.0 < length generators) ms → AreRows p cols generators ms vs → length cs ≡ length ms
      → weighted f (sum_of lines (summands_of ms cs)) % p ≡ weight_of f cols (sum_in cs vs) % p
  sum_weight f cols [] [] [] there rows long = ap (λ x. x % p) (sym (product_below-zero (λ k. f (get_or cols k [])) (length cols)))
  sum_weight f cols [] [] (c ∷ cs) there rows long = absurd (omega arith)
  sum_weight f cols [] (v ∷ vs) cs there rows long = absurd rows
  sum_weight f cols (m ∷ ms) [] cs there rows long = absurd rows
  sum_weight f cols (m ∷ ms) (v ∷ vs) [] there rows long = absurd (omega arith)
  sum_weight f cols (m ∷ ms) (v ∷ vs) (c ∷ cs) there rows long =
      by_case (c == 0) refl (sum_weight f cols ms vs cs there.1 rows.1 (omega arith)) ∙ sym (ap (λ x. x % p) (weight-sum_in f cols c v cs vs))
    where
      by_case : (b : Bool) → (c == 0) ≡ b → weighted f (sum_of lines (summands_of ms cs)) % p ≡ weight_of f cols (sum_in cs vs) % p
          → weighted f (sum_of lines (cond b (summands_of ms cs) ((m.0, (c, m.1)) ∷ summands_of ms cs))) % p ≡ (c * weight_of f cols (coordinate v) + weight_of f cols (sum_in cs vs)) % p
      by_case true zero_is rest =
          rest
          ∙ ap (λ x. x % p) (let e : weight_of f cols (sum_in cs vs) ≡ 0 * weight_of f cols (coordinate v) + weight_of f cols (sum_in cs vs) = omega arith in e)
          ∙ ap (λ x. (x * weight_of f cols (coordinate v) + weight_of f cols (sum_in cs vs)) % p) (sym (eqb-true c 0 zero_is))
      by_case false some rest =
          ap (λ x. x % p) (weighted-append f (term_product c m.1 (line_at lines m.0)) (sum_of lines (summands_of ms cs))
          ∙ ap (λ x. x + weighted f (sum_of lines (summands_of ms cs))) (weighted-term_product f c m.1 (line_at lines m.0)))
          ∙ sum_alike p (c * weighted (λ n. f (mono_mul m.1 n)) (line_at lines m.0)) (c * weight_of f cols (coordinate v)) (weighted f (sum_of lines (summands_of ms cs))) (weight_of f cols (sum_in cs vs))
          (multiple_alike p c (weighted (λ n. f (mono_mul m.1 n)) (line_at lines m.0)) (weight_of f cols (coordinate v)) (row_weight f cols m v there.0 rows.0)) rest

-- the summands of a contradiction are multiples
multiples_each : (p d : ℕ) (xs degrees : List ℕ) (ms : List (ℕ × Monomial)) (cs : List ℕ) → AllByRecursion (IsLabel d xs degrees) ms → AllByRecursion (λ c. c < p) cs → AllByRecursion (IsMultiple p d xs degrees) (summands_of ms cs)
multiples_each p d xs degrees [] cs labels below = tt
multiples_each p d xs degrees (m ∷ ms) [] labels below = tt
multiples_each p d xs degrees (m ∷ ms) (c ∷ cs) labels below = by_case (c == 0) (multiples_each p d xs degrees ms cs labels.1 below.1)
  where
    by_case : (b : Bool) → AllByRecursion (IsMultiple p d xs degrees) (summands_of ms cs) → AllByRecursion (IsMultiple p d xs degrees) (cond b (summands_of ms cs) ((m.0, (c, m.1)) ∷ summands_of ms cs))
    by_case true rest = rest
    by_case false rest = (record { there = labels.0.there; residue = below.0; monomial = labels.0.monomial }, rest)

pub few_summands : (ms : List (ℕ × Monomial)) (cs : List ℕ) → length (summands_of ms cs) ≤ length ms
few_summands [] cs = omega arith
few_summands (m ∷ ms) [] = omega arith
few_summands (m ∷ ms) (c ∷ cs) = by_case (c == 0) (few_summands ms cs)
  where
    by_case : (b : Bool) → length (summands_of ms cs) ≤ length ms → length (cond b (summands_of ms cs) ((m.0, (c, m.1)) ∷ summands_of ms cs)) ≤ suc (length ms)
    by_case true rest = omega arith
    by_case false rest = omega arith

positive : (n : ℕ) → n ≢ 0 → 0 < n
positive zero other = absurd (other refl)
positive (suc n) other = omega arith

module _ (p d : ℕ) (xs degrees : List ℕ) (generators : List Terms) (are : AreGenerators d xs degrees generators) (unknowns : List Monomial) (ms : List (ℕ × Monomial)) (vs : List Coordinates) (matrix : IsMatrix p d xs degrees generators unknowns ms vs) where
  labels : AllByRecursion (IsLabel d xs degrees) ms
  labels = subst (AllByRecursion (IsLabel d xs degrees)) (sym matrix.multiples_are) (are_labels d xs degrees)

  there_each : AllByRecursion (λ m. m.0 < length generators) ms
  there_each = each_weaker (IsLabel d xs degrees) (λ m. m.0 < length generators) (λ m is. omega (arith, is.there, are.long)) ms labels

  -- the summands of residues are multiples
  pub are_multiples : (cs : List ℕ) → AllByRecursion (λ c. c < p) cs → AllByRecursion (IsMultiple p d xs degrees) (summands_of ms cs)
  are_multiples cs below = multiples_each p d xs degrees ms cs labels below

  -- which are summands of a lemma's lines
  pub are_summands : (lines : List Terms) (cs : List ℕ) → AreLinesOf p generators lines → d ≤ 1024 → columns d xs ≤ 4096 → AllByRecursion (λ c. c < p) cs → All (IsSummand p lines (monomials d xs)) (summands_of ms cs)
  are_summands lines cs lines_are limit few below =
      All-from_recursion (IsSummand p lines (monomials d xs)) (summands_of ms cs)
      (each_weaker (IsMultiple p d xs degrees) (IsSummand p lines (monomials d xs)) (is_summand p d xs degrees generators lines are lines_are limit few) (summands_of ms cs) (are_multiples cs below))

  pub low_monomials : d ≤ 1024 → All (λ m. degree m ≤ 1024) (monomials d xs)
  low_monomials limit = All-from_recursion (λ m. degree m ≤ 1024) (monomials d xs) (each_weaker (IsUpTo d xs) (λ m. degree m ≤ 1024) (λ m up. omega (arith, up.low)) (monomials d xs) (are_up_to d xs))

  -- their sum has the weight of the sum of the rows
  pub summands_weight : (lines : List Terms) (cs : List ℕ) → AreLinesOf p generators lines → length cs ≡ length ms → (f : Monomial → ℕ)
      → weighted f (sum_of lines (summands_of ms cs)) % p ≡ weight_of f (unknowns ++ [] ∷ []) (sum_in cs vs) % p
  summands_weight lines cs lines_are long f = sum_weight p generators lines lines_are f (unknowns ++ [] ∷ []) ms vs cs there_each matrix.rows_are long

  -- a contradiction is a sum of multiples that is a constant other than 0
  pub contradicted : (lines : List Terms) (cs : List ℕ) → 2 ≤ p → AreLinesOf p generators lines → d ≤ 1024 → columns d xs ≤ 4096 → AllByRecursion (λ c. c < p) cs → length cs ≡ length ms → IsContradiction p (length unknowns) vs cs → IsNonzeroConstant p lines (summands_of ms cs)
  contradicted lines cs least lines_are limit few below long is =
      let n = length unknowns in
      let value = sum_in cs vs n % p in
      record {
        monomials = monomials d xs;
        few = omega (arith, few);
        low = low_monomials limit;
        each = are_summands lines cs lines_are limit few below;
        value = value;
        nonzero = positive value is.constant;
        residue = mod-lt (sum_in cs vs n) (omega arith);
        sum = SamePolynomial-from_weighted p (sum_of lines (summands_of ms cs)) (constant value) (λ f.
            summands_weight lines cs lines_are long f
            ∙ weight_of_constant p f unknowns (sum_in cs vs) is.unknowns
            ∙ scale_alike p (sum_in cs vs n) value (f []) (sym (mod-mod (sum_in cs vs n) p))
            ∙ ap (λ x. x % p) (let e : value * f [] ≡ value * f [] + 0 = omega arith in e));
      }

-- ---- the summands, one more

summands_push : (ms : List (ℕ × Monomial)) (cs : List ℕ) (m : ℕ × Monomial) (c : ℕ) → length cs ≡ length ms → summands_of (ms ++ m ∷ []) (cs ++ c ∷ []) ≡ summands_of ms cs ++ cond (c == 0) [] ((m.0, (c, m.1)) ∷ [])
summands_push [] [] m c long = refl
summands_push [] (b ∷ cs) m c long = absurd (omega arith)
summands_push (n ∷ ms) [] m c long = absurd (omega arith)
summands_push (n ∷ ms) (b ∷ cs) m c long = by_case (b == 0) (summands_push ms cs m c (omega arith))
  where
    by_case : (t : Bool) → summands_of (ms ++ m ∷ []) (cs ++ c ∷ []) ≡ summands_of ms cs ++ cond (c == 0) [] ((m.0, (c, m.1)) ∷ [])
        → cond t (summands_of (ms ++ m ∷ []) (cs ++ c ∷ [])) ((n.0, (b, n.1)) ∷ summands_of (ms ++ m ∷ []) (cs ++ c ∷ []))
        ≡ cond t (summands_of ms cs) ((n.0, (b, n.1)) ∷ summands_of ms cs) ++ cond (c == 0) [] ((m.0, (c, m.1)) ∷ [])
    by_case true rest = rest
    by_case false rest = ap (λ ss. (n.0, (b, n.1)) ∷ ss) rest

pub summands_more : (ms : List (ℕ × Monomial)) (cs : List ℕ) (m : ℕ × Monomial) (c : ℕ) → length cs ≡ length ms → c ≢ 0 → summands_of (ms ++ m ∷ []) (cs ++ c ∷ []) ≡ summands_of ms cs ++ (m.0, (c, m.1)) ∷ []
summands_more ms cs m c long some = summands_push ms cs m c long ∙ ap (λ b. summands_of ms cs ++ cond b [] ((m.0, (c, m.1)) ∷ [])) (ne_eqb c 0 some)

pub summands_same : (ms : List (ℕ × Monomial)) (cs : List ℕ) (m : ℕ × Monomial) (c : ℕ) → length cs ≡ length ms → c ≡ 0 → summands_of (ms ++ m ∷ []) (cs ++ c ∷ []) ≡ summands_of ms cs
summands_same ms cs m c long none =
    summands_push ms cs m c long ∙ ap (λ b. summands_of ms cs ++ cond b [] ((m.0, (c, m.1)) ∷ [])) (eq-eqb c 0 none) ∙ append-nil (summands_of ms cs)
