-- Lines of a tree that are polynomials in one variable, and sums of them.
use Rattle.std.proofs.Common.{◌≡◌, ℕ, zero, suc, ◌+◌, ◌*◌, ◌%◌, ◌<◌, ◌≤◌, max, fold, true, List, [], ◌∷◌, ◌++◌, length, All, Ok, refl, sym, ap, ap₂, ◌∙◌, arith, length-append}
use Rattle.std.specs.List.{AllByRecursion}
use Rattle.std.proofs.Math.Nat.{mul-le-mul}
use Rattle.std.proofs.lemmas.List.{append-nil}
use Rattle.std.proofs.lemmas.List.Elements.{All-from_recursion}
use Rattle.std.proofs.lemmas.List.Sums.{sum_by-cons}
use Rattle.ffc_ring.specs.Monomial.{Monomial, degree}
use Rattle.ffc_ring.specs.Polynomial.{Terms, SamePolynomial, coefficient, product}
use Rattle.ffc_ring.proofs.PolynomialLemmas.{weighted, one_weighted, same_sums, same_products}
use Rattle.ffc_uni.specs.Univariate.{Coefficients, SameUnivariate, IsNormal as IsNormalIn, coefficient_at, plus, times, power_of, terms_from, terms_in}
use Rattle.ffc_uni.specs.Rows.{shifted}
use Rattle.ffc_uni.proofs.Coefficients.{coefficient_at-plus}
use Rattle.ffc_uni.proofs.RingLemmas.{same_in_ring, sum_in_ring, product_in_ring}
use Rattle.ffc_trees.specs.Normal.{normal, degree_of, IsNormal}
use Rattle.ffc_trees.specs.TreeLines.{limits, Multiple, line_at, sum_of_multiples, products_in, combined, combine_line, is_in, coefficients_of}
use Rattle.ffc_trees.specs.Same.{IsSameLine}
use Rattle.ffc_trees.proofs.NormalLemmas.{normal_same, normal_is_normal}
use Rattle.ffc_trees.proofs.SameLemmas.{one_length, one_degree, one_is_in}
use Rattle.ffc_trees.proofs.RuleLemmas.{sum_to}
use Rattle.ffc_refutation.proofs.Monomials.{each_append, each_normal, degree_low}
use Rattle.ffc_lemmatree.specs.Written.{written_in}
use Rattle.ffc_lemmatree.proofs.Polynomials.{AreLow, length-normal, length-product, low_by_degree, low-product, length-terms_from, low-terms_in, alone-normal, nonzero_same, low-written_in, length-written_in, residues-written_in}

-- ---- the coefficients of a line

-- the coefficient of a monomial of this degree at a place
at_degree : ℕ → Monomial → ℕ
at_degree k m = coefficient_at (shifted (degree m) (1 ∷ [])) k

coefficient_at-shifted_one : (n k c : ℕ) → coefficient_at (shifted n (c ∷ [])) k ≡ c * coefficient_at (shifted n (1 ∷ [])) k
coefficient_at-shifted_one zero zero c = omega arith
coefficient_at-shifted_one zero (suc k) c = omega arith
coefficient_at-shifted_one (suc n) zero c = omega arith
coefficient_at-shifted_one (suc n) (suc k) c = coefficient_at-shifted_one n k c

coefficients_weighted : (ts : Terms) (k : ℕ) → coefficient_at (coefficients_of ts) k ≡ weighted (at_degree k) ts
unfolding at_degree
coefficients_weighted [] k = refl
coefficients_weighted (t ∷ ts) k =
    coefficient_at-plus (shifted (degree t.1) (t.0 ∷ [])) (coefficients_of ts) k
    ∙ ap₂ ◌+◌ (coefficient_at-shifted_one (degree t.1) k t.0) (coefficients_weighted ts k)

one_shifted : (j k c : ℕ) (cs : Coefficients) → coefficient_at (shifted j (c ∷ [])) k + coefficient_at (shifted (suc j) cs) k ≡ coefficient_at (shifted j (c ∷ cs)) k
one_shifted zero zero c cs = omega arith
one_shifted zero (suc k) c cs = omega arith
one_shifted (suc j) zero c cs = omega arith
one_shifted (suc j) (suc k) c cs = one_shifted j k c cs

degree-power : (x j : ℕ) → degree (power_of x j) ≡ j
degree-power x zero = refl
degree-power x (suc j) = omega arith

nothing_shifted : (j k : ℕ) → coefficient_at (shifted j []) k ≡ 0
nothing_shifted zero k = refl
nothing_shifted (suc j) zero = refl
nothing_shifted (suc j) (suc k) = nothing_shifted j k

coefficients-terms_from : (x j : ℕ) (f : Coefficients) (k : ℕ) → coefficient_at (coefficients_of (terms_from x j f)) k ≡ coefficient_at (shifted j f) k
coefficients-terms_from x j [] k = sym (nothing_shifted j k)
coefficients-terms_from x j (c ∷ f) k =
    coefficient_at-plus (shifted (degree (power_of x j)) (c ∷ [])) (coefficients_of (terms_from x (suc j) f)) k
    ∙ ap₂ ◌+◌ (ap (λ n. coefficient_at (shifted n (c ∷ [])) k) (degree-power x j)) (coefficients-terms_from x (suc j) f k)
    ∙ one_shifted j k c f

-- ---- a line that is the polynomial f in x

pub record IsLineIn (p x : ℕ) (f : Coefficients) (line : Terms) : Type 0 where
  pub normal : IsNormal p line
  pub same : SamePolynomial p line (terms_in x f)

module _ (p x : ℕ) (positive : 0 < p) (f : Coefficients) (line : Terms) (is : IsLineIn p x f line) where
  as_normal : IsSameLine p line (normal p (terms_in x f))
  as_normal = record {
    one = is.normal;
    other = normal_is_normal p (terms_in x f) positive;
    same = λ m. is.same m ∙ sym (normal_same p (terms_in x f) m);
  }

  pub line_short : length line ≤ length f
  line_short =
      let e = one_length p line (normal p (terms_in x f)) positive as_normal in
      let h = length-normal p (terms_in x f) in
      let s = length-terms_from x 0 f in
      omega arith

  pub line_low : (d : ℕ) → length f ≤ d + 1 → AreLow d line
  line_low d h =
      let e = one_degree p line (normal p (terms_in x f)) positive as_normal in
      let low = degree_low d (normal p (terms_in x f)) (each_normal (λ m. degree m ≤ d) p (terms_in x f) (low-terms_in d x f h)) in
      low_by_degree d line (omega arith)

  pub line_alone : is_in x line ≡ true
  line_alone = one_is_in x p line (normal p (terms_in x f)) positive as_normal ∙ alone-normal p x f

  pub line_coefficients : SameUnivariate p (coefficients_of line) f
  line_coefficients k =
      ap (λ n. n % p) (coefficients_weighted line k)
      ∙ one_weighted p (at_degree k) line (terms_in x f) is.same
      ∙ ap (λ n. n % p) (sym (coefficients_weighted (terms_in x f) k) ∙ coefficients-terms_from x 0 f k)

-- ---- sums within the limits

greatest_within : {A : Type 0} (f : A → ℕ) (d s : ℕ) (xs : List A) → s ≤ d → AllByRecursion (λ x. f x ≤ d) xs → fold (λ a x. max a (f x)) s xs ≤ d
greatest_within f d s [] low all = low
greatest_within f d s (x ∷ xs) low all = greatest_within f d (max s (f x)) xs (omega (arith, all.0)) all.1

-- a multiple of a line that is there, by residues, both of low degree
pub record IsLowMultiple (p : ℕ) (lines : List Terms) (m : Multiple) : Type 0 where
  pub there : m.0 < length lines
  pub residues : AllByRecursion (λ (t : ℕ × Monomial). t.0 < p) m.1
  pub factor : AreLow 512 m.1
  pub line : AreLow 512 (line_at lines m.0)

module _ (p : ℕ) (lines : List Terms) where
  length-sum : (ms : List Multiple) → length (sum_of_multiples lines ms) ≡ products_in lines ms
  length-sum [] = refl
  length-sum (m ∷ ms) =
      length-append (product m.1 (line_at lines m.0)) (sum_of_multiples lines ms)
      ∙ ap₂ ◌+◌ (length-product m.1 (line_at lines m.0)) (length-sum ms)
      ∙ sym (sum_by-cons (λ (n : Multiple). length n.1 * length (line_at lines n.0)) m ms)

  low-sum : (ms : List Multiple) → AllByRecursion (IsLowMultiple p lines) ms → AreLow 1024 (sum_of_multiples lines ms)
  low-sum [] all = tt
  low-sum (m ∷ ms) all =
      each_append (λ k. degree k ≤ 1024) (product m.1 (line_at lines m.0)) (sum_of_multiples lines ms)
      (low-product 512 512 m.1 (line_at lines m.0) all.0.factor all.0.line) (low-sum ms all.1)

  all_there : (ms : List Multiple) → AllByRecursion (IsLowMultiple p lines) ms → AllByRecursion (λ (m : Multiple). m.0 < length lines) ms
  all_there [] all = tt
  all_there (m ∷ ms) all = (all.0.there, all_there ms all.1)

  all_residues : (ms : List Multiple) → AllByRecursion (IsLowMultiple p lines) ms → AllByRecursion (λ (m : Multiple). All (λ (t : ℕ × Monomial). t.0 < p) m.1) ms
  all_residues [] all = tt
  all_residues (m ∷ ms) all = (All-from_recursion (λ (t : ℕ × Monomial). t.0 < p) m.1 all.0.residues, all_residues ms all.1)

  all_low : (ms : List Multiple) → AllByRecursion (IsLowMultiple p lines) ms → AllByRecursion (λ (m : Multiple). degree_of m.1 ≤ 1024) ms
  all_low [] all = tt
  all_low (m ∷ ms) all = (let low = degree_low 512 m.1 all.0.factor in omega arith, all_low ms all.1)

  -- a sum of few products of low degree keeps its rule
  pub sum_keeps : (ms : List Multiple) → AllByRecursion (IsLowMultiple p lines) ms → products_in lines ms ≤ 131072 → combine_line limits p lines ms ≡ Ok (combined p lines ms)
  unfolding combined
  sum_keeps ms all few =
      let sum : Terms = sum_of_multiples lines ms in
      sum_to limits p lines ms (combined p lines ms) (record {
        there = All-from_recursion (λ (m : Multiple). m.0 < length lines) ms (all_there ms all);
        products = omega arith;
        written = greatest_within (λ (m : Multiple). degree_of m.1) 1024 0 ms (omega arith) (all_low ms all);
        degree = degree_low 1024 (normal p sum) (each_normal (λ k. degree k ≤ 1024) p sum (low-sum ms all));
        terms = (let h = length-normal p sum in let e = length-sum ms in omega arith);
        residues = All-from_recursion (λ (m : Multiple). All (λ (t : ℕ × Monomial). t.0 < p) m.1) ms (all_residues ms all);
        sum = refl;
      })

  pub combined_same : (ms : List Multiple) → SamePolynomial p (combined p lines ms) (sum_of_multiples lines ms)
  unfolding combined
  combined_same ms = normal_same p (sum_of_multiples lines ms)

  pub combined_is_normal : (ms : List Multiple) → 0 < p → IsNormal p (combined p lines ms)
  unfolding combined
  combined_is_normal ms positive = normal_is_normal p (sum_of_multiples lines ms) positive

-- ---- a times one line plus b times another

-- a line that is there is a polynomial with few coefficients
pub record IsAt (p x : ℕ) (lines : List Terms) (f : Coefficients) (k : ℕ) : Type 0 where
  pub there : k < length lines
  pub low : length f ≤ 256
  pub line : IsLineIn p x f (line_at lines k)

module _ (p x : ℕ) (positive : 0 < p) (lines : List Terms) where
  pub product_of_line : (a f : Coefficients) (line : Terms) → IsLineIn p x f line → SamePolynomial p (product (written_in x a) line) (terms_in x (times a f))
  product_of_line a f line is m =
      same_products p (written_in x a) (terms_in x a) line (terms_in x f) (nonzero_same p (terms_in x a)) is.same m
      ∙ sym (product_in_ring p x a f m)

  nothing_more : (ts : Terms) → SamePolynomial p (ts ++ []) ts
  nothing_more ts m = ap (λ us. coefficient p us m) (append-nil ts)

  low_multiple : (a f : Coefficients) (k : ℕ) → IsNormalIn p a → length a ≤ 256 → IsAt p x lines f k → IsLowMultiple p lines (k, written_in x a)
  low_multiple a f k is short at = record {
    there = at.there;
    residues = residues-written_in p x a is;
    factor = low-written_in 512 x a (omega arith);
    line = line_low p x positive f (line_at lines k) at.line 512 (let h = at.low in omega arith);
  }

  few_products : (a f : Coefficients) (k : ℕ) → length a ≤ 256 → IsAt p x lines f k → length (written_in x a) * length (line_at lines k) ≤ 65536
  few_products a f k short at =
      let one : length (written_in x a) ≤ 256 = (let h = length-written_in x a in omega arith) in
      let other : length (line_at lines k) ≤ 256 = (let h = line_short p x positive f (line_at lines k) at.line in let low = at.low in omega arith) in
      let both : length (written_in x a) * length (line_at lines k) ≤ 256 * 256 = mul-le-mul one other in
      omega arith

  module _ (j k : ℕ) (a f b h g : Coefficients) (normal_a : IsNormalIn p a) (normal_b : IsNormalIn p b) (short_a : length a ≤ 256) (short_b : length b ≤ 256) (first : IsAt p x lines f j) (second : IsAt p x lines h k) where
    pub sum_of_two_keeps : combine_line limits p lines ((j, written_in x a) ∷ (k, written_in x b) ∷ []) ≡ Ok (combined p lines ((j, written_in x a) ∷ (k, written_in x b) ∷ []))
    sum_of_two_keeps =
        let ms : List Multiple = (j, written_in x a) ∷ (k, written_in x b) ∷ [] in
        let count : products_in lines ms ≡ length (written_in x a) * length (line_at lines j) + (length (written_in x b) * length (line_at lines k) + 0) =
        sum_by-cons (λ (n : Multiple). length n.1 * length (line_at lines n.0)) (j, written_in x a) ((k, written_in x b) ∷ [])
        ∙ ap (λ n. length (written_in x a) * length (line_at lines j) + n) (sum_by-cons (λ (n : Multiple). length n.1 * length (line_at lines n.0)) (k, written_in x b) []) in
        let one = few_products a f j short_a first in
        let other = few_products b h k short_b second in
        sum_keeps p lines ms (low_multiple a f j normal_a short_a first, (low_multiple b h k normal_b short_b second, tt)) (omega arith)

    pub sum_of_two_is : SameUnivariate p (plus (times a f) (times b h)) g → IsLineIn p x g (combined p lines ((j, written_in x a) ∷ (k, written_in x b) ∷ []))
    sum_of_two_is same =
        let ms : List Multiple = (j, written_in x a) ∷ (k, written_in x b) ∷ [] in
        let left : Terms = product (written_in x a) (line_at lines j) in
        let right : Terms = product (written_in x b) (line_at lines k) in
        record {
          normal = combined_is_normal p lines ms positive;
          same = λ m.
              combined_same p lines ms m
              ∙ same_sums p left (terms_in x (times a f)) (right ++ []) (terms_in x (times b h) ++ []) (product_of_line a f (line_at lines j) first.line)
              (same_sums p right (terms_in x (times b h)) [] [] (product_of_line b h (line_at lines k) second.line) (λ n. refl)) m
              ∙ same_sums p (terms_in x (times a f)) (terms_in x (times a f)) (terms_in x (times b h) ++ []) (terms_in x (times b h)) (λ n. refl) (nothing_more (terms_in x (times b h))) m
              ∙ sym (sum_in_ring p x (times a f) (times b h) m)
              ∙ same_in_ring p x (plus (times a f) (times b h)) g same m;
        }
