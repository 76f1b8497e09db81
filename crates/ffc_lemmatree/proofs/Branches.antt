-- The case of a root closes: X less the root, times the quotient and the inverse, less the line of the disequation, is 1.
use Rattle.std.proofs.Common.{◌≡◌, ℕ, zero, suc, ◌+◌, ◌-◌, ◌*◌, ◌%◌, ◌<◌, ◌≤◌, true, List, [], ◌∷◌, ◌++◌, length, Ok, refl, sym, ap, ap₂, ◌∙◌, arith, subst, length-append, mul-one}
use Rattle.std.specs.List.{AllByRecursion}
use Rattle.std.proofs.Math.Nat.{mul-le-mul, mul-add-mod_self_left, mod-eq_of_lt}
use Rattle.std.proofs.lemmas.Bool.{lt-ltb}
use Rattle.std.proofs.lemmas.List.{append-nil}
use Rattle.std.proofs.lemmas.List.Sums.{sum_by-cons}
use Rattle.ffc_ring.specs.Monomial.{Monomial, IsMonomial, degree, mono_mul}
use Rattle.ffc_ring.specs.Polynomial.{Terms, AreTerms, SamePolynomial, coefficient, product, scaled, difference}
use Rattle.ffc_ring.proofs.MonomialLemmas.{with_power-less}
use Rattle.ffc_ring.proofs.PolynomialLemmas.{weighted, weighted-append, weighted-term_product, SamePolynomial-from_weighted, same_sums, same_products, product_commutes, product_associates}
use Rattle.ffc_uni.specs.Univariate.{Coefficients, SameUnivariate, IsNormal as IsNormalIn, times, power_of, terms_from, terms_in}
use Rattle.ffc_uni.proofs.RingLemmas.{same_in_ring, product_in_ring}
use Rattle.ffc_trees.specs.Normal.{normal, IsNormal}
use Rattle.ffc_trees.specs.NodePolynomials.{variable, constant}
use Rattle.ffc_trees.specs.TreeLines.{limits, Multiple, line_at, products_in, combined, combine_line, closes, last_line, is_nonzero_constant, root_line}
use Rattle.ffc_trees.specs.Same.{IsSameLine}
use Rattle.ffc_trees.proofs.NormalLemmas.{normal_same, normal_is_normal}
use Rattle.ffc_trees.proofs.SameLemmas.{one_constant, one_length, one_degree}
use Rattle.ffc_refutation.proofs.Monomials.{each_append, each_normal, degree_low}
use Rattle.ffc_lemmatree.specs.Written.{nonzero, written_in, appended}
use Rattle.ffc_lemmatree.proofs.Polynomials.{AreLow, length-normal, length-product, low_by_degree, low-product, length-terms_from, low-terms_in, weighted-nonzero, low-written_in, length-written_in, residues-written_in}
use Rattle.ffc_lemmatree.proofs.Lines.{IsLineIn, line_short, line_low, sum_keeps, combined_same, combined_is_normal}

-- ---- the last line closes

last_pushed : (lines : List Terms) (line : Terms) → last_line (lines ++ line ∷ []) ≡ line
last_pushed [] line = refl
last_pushed (f ∷ []) line = refl
last_pushed (f ∷ g ∷ lines) line = last_pushed (g ∷ lines) line

-- a normal line that is a constant other than 0 closes
pub constant_closes : (p value : ℕ) (lines : List Terms) (line : Terms) → 0 < value → value < p → IsNormal p line → SamePolynomial p line (constant value) → closes p (lines ++ line ∷ []) ≡ true
unfolding closes
constant_closes p value lines line nonzero below is same =
    ap (is_nonzero_constant p) (last_pushed lines line)
    ∙ one_constant p line (constant value) (omega arith) (record { one = is; other = (nonzero, below, tt, tt); same = same })
    ∙ lt-ltb 0 (value % p) (subst (λ n. 0 < n) (sym (mod-eq_of_lt below)) nonzero)

-- ---- times a variable

module _ (x w : ℕ) (above : x < w) where
  times_variable : (k : ℕ) → mono_mul (power_of x k) ((w, 1) ∷ []) ≡ power_of x k ++ (w, 1) ∷ []
  times_variable zero = refl
  times_variable (suc k) = with_power-less ◌+◌ x (suc k) (w, 1) [] above

  -- terms in x times w, term by term
  appended_is_product : (k : ℕ) (a : Coefficients) → product (terms_from x k a) (variable w) ≡ appended ((w, 1) ∷ []) (terms_from x k a)
  appended_is_product k [] = refl
  appended_is_product k (c ∷ a) = ap₂ (λ (t : ℕ × Monomial) (ts : Terms). t ∷ ts) (ap₂ (λ (n : ℕ) (m : Monomial). (n, m)) (mul-one c) (times_variable k)) (appended_is_product (suc k) a)

weighted-appended : (g : Monomial → ℕ) (m : Monomial) (ts : Terms) → weighted g (appended m ts) ≡ weighted (λ n. g (n ++ m)) ts
weighted-appended g m [] = refl
weighted-appended g m (t ∷ ts) = ap (λ n. t.0 * g (t.1 ++ m) + n) (weighted-appended g m ts)

-- as they are written, they are the product with w
written_times : (p x w : ℕ) (a : Coefficients) → x < w → SamePolynomial p (appended ((w, 1) ∷ []) (written_in x a)) (product (terms_in x a) (variable w))
written_times p x w a above =
    SamePolynomial-from_weighted p (appended ((w, 1) ∷ []) (written_in x a)) (product (terms_in x a) (variable w)) (λ g. ap (λ n. n % p)
    (weighted-appended g ((w, 1) ∷ []) (written_in x a)
    ∙ weighted-nonzero (λ n. g (n ++ (w, 1) ∷ [])) (terms_in x a)
    ∙ sym (weighted-appended g ((w, 1) ∷ []) (terms_in x a))
    ∙ ap (weighted g) (sym (appended_is_product x w above 0 a))))

-- ---- monomials

power_is_monomial : (x k : ℕ) → IsMonomial (power_of x k)
power_is_monomial x zero = tt
power_is_monomial x (suc k) = (omega arith, omega arith, tt)

are_terms_from : (x k : ℕ) (a : Coefficients) → AreTerms (terms_from x k a)
are_terms_from x k [] = tt
are_terms_from x k (c ∷ a) = (power_is_monomial x k, are_terms_from x (suc k) a)

variable_is_terms : (w : ℕ) → AreTerms (variable w)
variable_is_terms w = ((omega arith, omega arith, tt), tt)

-- ---- the identity

-- e less (e less k) is k, modulo p
cancels : (p e k : ℕ) → 1 < p → (e + (p - 1) * (e + (p - 1) * k)) % p ≡ k % p
cancels zero e k more = absurd (omega arith)
cancels (suc zero) e k more = absurd (omega arith)
cancels (suc (suc s)) e k more =
    let p : ℕ = suc (suc s) in
    let less : p - 1 ≡ suc s = omega arith in
    ap (λ (n : ℕ). (e + n * (e + n * k)) % p) less
    ∙ ap (λ (n : ℕ). n % p) (let same : e + suc s * (e + suc s * k) ≡ p * (e + s * k) + k = omega arith in same)
    ∙ mul-add-mod_self_left p (e + s * k) k

module _ (p x w : ℕ) (more : 1 < p) (above : x < w) (q r h : Coefficients) (division : SameUnivariate p h (times q r)) where
  -- the polynomial h times w
  abbrev pub inverted : Terms
  inverted = product (terms_in x h) (variable w)

  -- the quotient times w times the other factor
  factors_are : (factor : Terms) → SamePolynomial p factor (terms_in x r) → SamePolynomial p (product (appended ((w, 1) ∷ []) (written_in x q)) factor) inverted
  factors_are factor same m =
      let A : Terms = terms_in x q in
      let B : Terms = terms_in x r in
      let W : Terms = variable w in
      same_products p (appended ((w, 1) ∷ []) (written_in x q)) (product A W) factor B (written_times p x w q above) same m
      ∙ product_associates p A W B (are_terms_from x 0 q) (variable_is_terms w) (are_terms_from x 0 r) m
      ∙ same_products p A A (product W B) (product B W) (λ n. refl) (product_commutes p W B (variable_is_terms w) (are_terms_from x 0 r)) m
      ∙ sym (product_associates p A B W (are_terms_from x 0 q) (are_terms_from x 0 r) (variable_is_terms w) m)
      ∙ same_products p (product A B) (terms_in x h) W W (λ n. sym (product_in_ring p x q r n) ∙ sym (same_in_ring p x h (times q r) division n)) (λ n. refl) m

  -- the sum with the negative of h*w - 1 is 1
  pub sum_is_one : (factor line : Terms) → SamePolynomial p factor (terms_in x r) → SamePolynomial p line (difference p inverted (constant 1))
      → SamePolynomial p (product (appended ((w, 1) ∷ []) (written_in x q)) factor ++ (product ((p - 1, []) ∷ []) line ++ [])) (constant 1)
  sum_is_one factor line same_factor same_line =
      let left : Terms = product (appended ((w, 1) ∷ []) (written_in x q)) factor in
      let right : Terms = product ((p - 1, []) ∷ []) line ++ [] in
      let rest : Terms = scaled (p - 1) (inverted ++ scaled (p - 1) (constant 1)) in
      let to_scaled : SamePolynomial p right rest = λ m.
      ap (λ ts. coefficient p ts m) (append-nil (product ((p - 1, []) ∷ []) line) ∙ append-nil (scaled (p - 1) line))
      ∙ sym (ap (λ ts. coefficient p ts m) (append-nil (scaled (p - 1) line)))
      ∙ same_products p ((p - 1, []) ∷ []) ((p - 1, []) ∷ []) line (inverted ++ scaled (p - 1) (constant 1)) (λ n. refl) same_line m
      ∙ ap (λ ts. coefficient p ts m) (append-nil rest) in
      let whole : SamePolynomial p (inverted ++ rest) (constant 1) =
      SamePolynomial-from_weighted p (inverted ++ rest) (constant 1) (λ g.
      let e : ℕ = weighted g inverted in
      ap (λ (n : ℕ). n % p)
      (weighted-append g inverted rest
      ∙ ap (λ n. e + n) (weighted-term_product g (p - 1) [] (inverted ++ scaled (p - 1) (constant 1))
      ∙ ap (λ n. (p - 1) * n) (weighted-append g inverted (scaled (p - 1) (constant 1))
      ∙ ap (λ n. e + n) (weighted-term_product g (p - 1) [] (constant 1)))))
      ∙ cancels p e (weighted g (constant 1)) more) in
      λ m. same_sums p left inverted right rest (factors_are factor same_factor) to_scaled m ∙ whole m

-- ---- the line of a disequation and that of a root

module _ (p x w : ℕ) (positive : 0 < p) (d : Terms) (h : Coefficients) (same : SamePolynomial p d (terms_in x h)) where
  -- of the line h*w - 1
  pub unequal_same : SamePolynomial p (normal p (difference p (product d (variable w)) (constant 1))) (difference p (product (terms_in x h) (variable w)) (constant 1))
  unequal_same m =
      normal_same p (difference p (product d (variable w)) (constant 1)) m
      ∙ same_sums p (product d (variable w)) (product (terms_in x h) (variable w)) (scaled (p - 1) (constant 1)) (scaled (p - 1) (constant 1))
      (same_products p d (terms_in x h) (variable w) (variable w) same (λ n. refl)) (λ n. refl) m

  as_line : IsSameLine p (normal p (difference p (product d (variable w)) (constant 1))) (normal p (difference p (product (terms_in x h) (variable w)) (constant 1)))
  as_line = record {
    one = normal_is_normal p (difference p (product d (variable w)) (constant 1)) positive;
    other = normal_is_normal p (difference p (product (terms_in x h) (variable w)) (constant 1)) positive;
    same = λ m. unequal_same m ∙ sym (normal_same p (difference p (product (terms_in x h) (variable w)) (constant 1)) m);
  }

  -- it has few terms of low degree
  pub unequal_short : length (normal p (difference p (product d (variable w)) (constant 1))) ≤ length h + 1
  unequal_short =
      let e = one_length p (normal p (difference p (product d (variable w)) (constant 1))) (normal p (difference p (product (terms_in x h) (variable w)) (constant 1))) positive as_line in
      let few = length-normal p (difference p (product (terms_in x h) (variable w)) (constant 1)) in
      let long = length-append (product (terms_in x h) (variable w)) (scaled (p - 1) (constant 1)) in
      let count : length (product (terms_in x h) (variable w)) ≡ length (terms_in x h) * 1 = length-product (terms_in x h) (variable w) in
      let size = length-terms_from x 0 h in
      omega arith

  pub unequal_low : length h ≤ 256 → AreLow 512 (normal p (difference p (product d (variable w)) (constant 1)))
  unequal_low short =
      let e = one_degree p (normal p (difference p (product d (variable w)) (constant 1))) (normal p (difference p (product (terms_in x h) (variable w)) (constant 1))) positive as_line in
      let front : AreLow 512 (product (terms_in x h) (variable w)) = low-product 511 1 (terms_in x h) (variable w) (low-terms_in 511 x h (omega arith)) (omega arith, tt) in
      let all : AreLow 512 (difference p (product (terms_in x h) (variable w)) (constant 1)) =
      each_append (λ m. degree m ≤ 512) (product (terms_in x h) (variable w)) (scaled (p - 1) (constant 1)) front (omega arith, tt) in
      let low = degree_low 512 (normal p (difference p (product (terms_in x h) (variable w)) (constant 1))) (each_normal (λ m. degree m ≤ 512) p (difference p (product (terms_in x h) (variable w)) (constant 1)) all) in
      low_by_degree 512 (normal p (difference p (product d (variable w)) (constant 1))) (omega arith)

pub root_is_line : (p x a : ℕ) → 0 < p → IsLineIn p x ((p - a) ∷ 1 ∷ []) (root_line p x a)
unfolding root_line
root_is_line p x a positive = record {
  normal = normal_is_normal p (terms_in x ((p - a) ∷ 1 ∷ [])) positive;
  same = normal_same p (terms_in x ((p - a) ∷ 1 ∷ []));
}

-- ---- the sum of a case

length-appended : (m : Monomial) (ts : Terms) → length (appended m ts) ≡ length ts
length-appended m [] = refl
length-appended m (t ∷ ts) = ap suc (length-appended m ts)

residues-appended : (p : ℕ) (m : Monomial) (ts : Terms) → AllByRecursion (λ (t : ℕ × Monomial). t.0 < p) ts → AllByRecursion (λ (t : ℕ × Monomial). t.0 < p) (appended m ts)
residues-appended p m [] all = tt
residues-appended p m (t ∷ ts) all = (all.0, residues-appended p m ts all.1)

degree-append : (m n : Monomial) → degree (m ++ n) ≡ degree m + degree n
degree-append [] n = omega arith
degree-append (f ∷ m) n = omega (arith, degree-append m n)

low-appended : (d w : ℕ) (ts : Terms) → AreLow d ts → AreLow (d + 1) (appended ((w, 1) ∷ []) ts)
low-appended d w [] low = tt
low-appended d w (t ∷ ts) low = (let e = degree-append t.1 ((w, 1) ∷ []) in let one = low.0 in omega arith, low-appended d w ts low.1)

module _ (p x w root : ℕ) (more : 1 < p) (above : x < w) (q h : Coefficients) (normal_q : IsNormalIn p q) (short_q : length q ≤ 256) (short_h : length h ≤ 256)
    (division : SameUnivariate p h (times q ((p - root) ∷ 1 ∷ []))) (d : Terms) (same : SamePolynomial p d (terms_in x h))
    (lines : List Terms) (at other : ℕ) (there : at < length lines) (other_there : other < length lines)
    (at_is : line_at lines at ≡ root_line p x root) (other_is : line_at lines other ≡ normal p (difference p (product d (variable w)) (constant 1))) where
  pub case_keeps : combine_line limits p lines ((at, appended ((w, 1) ∷ []) (written_in x q)) ∷ (other, (p - 1, []) ∷ []) ∷ []) ≡ Ok (combined p lines ((at, appended ((w, 1) ∷ []) (written_in x q)) ∷ (other, (p - 1, []) ∷ []) ∷ []))
  case_keeps =
      let factor : Terms = appended ((w, 1) ∷ []) (written_in x q) in
      let ms : List Multiple = (at, factor) ∷ (other, (p - 1, []) ∷ []) ∷ [] in
      let positive : 0 < p = omega arith in
      let r : Coefficients = (p - root) ∷ 1 ∷ [] in
      let of_root : IsLineIn p x r (root_line p x root) = root_is_line p x root positive in
      let count : products_in lines ms ≡ length factor * length (line_at lines at) + (1 * length (line_at lines other) + 0) =
      sum_by-cons (λ (n : Multiple). length n.1 * length (line_at lines n.0)) (at, factor) ((other, (p - 1, []) ∷ []) ∷ [])
      ∙ ap (λ n. length factor * length (line_at lines at) + n) (sum_by-cons (λ (n : Multiple). length n.1 * length (line_at lines n.0)) (other, (p - 1, []) ∷ []) []) in
      let few_factor : length factor ≤ 256 = (let e = length-appended ((w, 1) ∷ []) (written_in x q) in let f = length-written_in x q in omega arith) in
      let few_root : length (line_at lines at) ≤ 2 = subst (λ (f : Terms). length f ≤ 2) (sym at_is) (line_short p x positive r (root_line p x root) of_root) in
      let few_other : length (line_at lines other) ≤ 257 = subst (λ (f : Terms). length f ≤ 257) (sym other_is) (let e = unequal_short p x w positive d h same in omega arith) in
      let both : length factor * length (line_at lines at) ≤ 256 * 2 = mul-le-mul few_factor few_root in
      sum_keeps p lines ms (
        record {
          there = there;
          residues = residues-appended p ((w, 1) ∷ []) (written_in x q) (residues-written_in p x q normal_q);
          factor = low-appended 511 w (written_in x q) (low-written_in 511 x q (omega arith));
          line = subst (AreLow 512) (sym at_is) (line_low p x positive r (root_line p x root) of_root 512 (omega arith));
        },
        (
          record {
            there = other_there;
            residues = (omega arith, tt);
            factor = (omega arith, tt);
            line = subst (AreLow 512) (sym other_is) (unequal_low p x w positive d h same short_h);
          },
          tt,
        ),
      )
      (omega arith)

  pub case_closes : closes p (lines ++ combined p lines ((at, appended ((w, 1) ∷ []) (written_in x q)) ∷ (other, (p - 1, []) ∷ []) ∷ []) ∷ []) ≡ true
  case_closes =
      let factor : Terms = appended ((w, 1) ∷ []) (written_in x q) in
      let ms : List Multiple = (at, factor) ∷ (other, (p - 1, []) ∷ []) ∷ [] in
      let positive : 0 < p = omega arith in
      let of_root = root_is_line p x root positive in
      constant_closes p 1 lines (combined p lines ms) (omega arith) more (combined_is_normal p lines ms positive)
      (λ m. combined_same p lines ms m
      ∙ sum_is_one p x w more above q ((p - root) ∷ 1 ∷ []) h division (line_at lines at) (line_at lines other)
      (subst (λ f. SamePolynomial p f (terms_in x ((p - root) ∷ 1 ∷ []))) (sym at_is) of_root.same)
      (subst (λ f. SamePolynomial p f (difference p (product (terms_in x h) (variable w)) (constant 1))) (sym other_is) (unequal_same p x w positive d h same)) m)
