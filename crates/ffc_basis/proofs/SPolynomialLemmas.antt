-- The S-polynomial of two lines, by the terms that a body finds.
use Rattle.std.proofs.Common.{◌≡◌, ◌≢◌, ℕ, ◌+◌, ◌-◌, ◌*◌, ◌%◌, ◌<◌, List, [], ◌∷◌, ◌++◌, length, get_or, refl, sym, ap, ◌∙◌, subst, inl, inr, arith, mod-lt, mod-eq_of_lt, mul_assoc, take}
use Rattle.std.specs.declared.cmp.Ordering.{Ordering}
use Rattle.ffc_field.specs.Modular.{IsPrime, mul_mod, neg_mod}
use Rattle.ffc_ring.specs.Monomial.{Monomial, IsMonomial, exponent, degree, Divides, mono_mul, mono_lcm, mono_quotient}
use Rattle.ffc_ring.specs.Polynomial.{Terms, AreTerms, coefficient, SamePolynomial, product, term_product, scaled, difference, PassesDegree, PassesTerms}
use Rattle.ffc_ring.proofs.MonomialLemmas.{one_monomial, exponent-mono_mul, exponent-mono_lcm, exponent-mono_quotient, IsMonomialFrom-mono_quotient, IsMonomial-mono_lcm, degree-mono_mul, mono_mul-mono_quotient}
use Rattle.ffc_ring.proofs.PolynomialLemmas.{weighted, weighted-term_product, SamePolynomial-from_weighted, weighted-product, written-at, negated_mod, cases_monomial, monomial_of_coefficient, times_alike, same_sums, same_products}
use Rattle.ffc_mono.specs.Leading.{IsLeading}
use Rattle.ffc_poly.specs.declared.stop.PolyStop.{PolyStop}
use Rattle.ffc_poly.specs.declared.stop.PolyStop.TheVariants.{DegreeOver, TermsOver, Memory}
use Rattle.ffc_basis.proofs.LineLemmas.{taken_more}
use Rattle.ffc_basis.proofs.OrderedTerms.{coefficient-none, coefficient-other, PassesTerms-same}
use Rattle.ffc_line.specs.Lines.{Parts, combination, AreBefore}
use Rattle.ffc_basis.specs.Reduction.{IsRecorded}
use Rattle.ffc_basis.specs.Completion.{IsSPolynomial, PassesSPolynomial}
use Rattle.ffc_basis.specs.Outcomes.{PassesDifference, AreScaled, AreSubtracted}

-- ---- cofactors

-- a monomial divides a least common multiple of it
pub divides_lcm_first : (m n : Monomial) → IsMonomial m → IsMonomial n → Divides m (mono_lcm m n)
divides_lcm_first m n v w x = omega (arith, exponent-mono_lcm m n v w x)

pub divides_lcm_second : (m n : Monomial) → IsMonomial m → IsMonomial n → Divides n (mono_lcm m n)
divides_lcm_second m n v w x = omega (arith, exponent-mono_lcm m n v w x)

-- what times a monomial is a multiple of it is the quotient
pub quotient_is : (m q n : Monomial) → IsMonomial m → IsMonomial q → IsMonomial n → IsMonomial (mono_quotient n m) → mono_mul m q ≡ n → q ≡ mono_quotient n m
quotient_is m q n v u w t is =
    one_monomial 0 q (mono_quotient n m) u t
    (λ x. omega (arith, exponent-mono_mul m q v u x, ap (λ k. exponent k x) is, exponent-mono_quotient 0 n m x w))

-- ---- multiples

-- a multiple with the negated factor is the negated multiple
pub negated_multiple : (p l : ℕ) (v : Monomial) (b : Terms) → 0 < p → l < p → SamePolynomial p (scaled (p - 1) (term_product l v b)) (term_product (neg_mod p l) v b)
negated_multiple p l v b h g =
    let same : ((p - 1) * l) % p ≡ neg_mod p l % p =
    negated_mod p l h ∙ ap (λ k. (p - k) % p) (mod-eq_of_lt g) ∙ sym (mod-eq_of_lt (mod-lt (p - l) h)) in
    SamePolynomial-from_weighted p (scaled (p - 1) (term_product l v b)) (term_product (neg_mod p l) v b)
    (λ f.
    let w = weighted (λ n. f (mono_mul v n)) b in
    ap (λ k. k % p) (weighted-term_product f (p - 1) [] (term_product l v b) ∙ ap (λ k. (p - 1) * k) (weighted-term_product f l v b) ∙ sym (mul_assoc (p - 1) l w))
    ∙ times_alike p ((p - 1) * l) (neg_mod p l) w same
    ∙ ap (λ k. k % p) (sym (weighted-term_product f (neg_mod p l) v b)))

-- ---- one S-polynomial

module _ (p : ℕ) (prime : IsPrime p) (cmp : Monomial → Monomial → Ordering) (a b : Terms) (c d : ℕ) (m n : Monomial) (first : IsLeading p cmp a c m) (second : IsLeading p cmp b d n) (x : AreTerms a) (y : AreTerms b) where
  positive : 0 < p
  positive = omega (arith, prime.least)

  m_monomial : IsMonomial m
  m_monomial = monomial_of_coefficient p a m x (λ none. first.1 (sym first.0 ∙ none))

  n_monomial : IsMonomial n
  n_monomial = monomial_of_coefficient p b n y (λ none. second.1 (sym second.0 ∙ none))

  abbrev top : Monomial
  top = mono_lcm m n

  top_monomial : IsMonomial top
  top_monomial = IsMonomial-mono_lcm m n m_monomial n_monomial

  some_unit : (q : Monomial) → coefficient p ((1, q) ∷ []) q ≢ 0
  some_unit q none =
      let one : coefficient p ((1, q) ∷ []) q ≡ 1 = ap (λ e. e % p) (written-at q (1, q) [] refl) ∙ mod-eq_of_lt (omega (arith, prime.least)) in
      omega arith

  module _ (k l : ℕ) (u v : Monomial) (kc : mul_mod p k c ≡ 1) (ld : mul_mod p l d ≡ 1) (w : IsMonomial u) (z : IsMonomial v) (first_up : mono_mul m u ≡ top) (second_up : mono_mul n v ≡ top) where
    u_is : u ≡ mono_quotient top m
    u_is = quotient_is m u top m_monomial w top_monomial (IsMonomialFrom-mono_quotient 0 top m top_monomial) first_up

    v_is : v ≡ mono_quotient top n
    v_is = quotient_is n v top n_monomial z top_monomial (IsMonomialFrom-mono_quotient 0 top n top_monomial) second_up

    abbrev over : Terms
    over = difference p (term_product k u a) (term_product l v b)

    in_quotients : (s : Terms) → SamePolynomial p s over → SamePolynomial p s (difference p (term_product k (mono_quotient top m) a) (term_product l (mono_quotient top n) b))
    in_quotients s is =
        subst (λ q. SamePolynomial p s (difference p (term_product k q a) (term_product l (mono_quotient top n) b))) u_is
        (subst (λ q. SamePolynomial p s (difference p (term_product k u a) (term_product l q b))) v_is is)

    pub is_s_polynomial : (s : Terms) → SamePolynomial p s over → IsSPolynomial p cmp a b s
    is_s_polynomial s is = (c, m, d, n, first, second, k, l, kc, ld, in_quotients s is)

    pub is_sum : l < p → (s : Terms) → SamePolynomial p s over → SamePolynomial p s (term_product k u a ++ term_product (neg_mod p l) v b)
    is_sum low s is q =
        is q
        ∙ same_sums p (term_product k u a) (term_product k u a) (scaled (p - 1) (term_product l v b)) (term_product (neg_mod p l) v b) (λ _. refl) (negated_multiple p l v b positive low) q

    with_one : (e : ℕ) (q : Monomial) (g : Terms) → PassesDegree p 1024 ((e, q) ∷ []) g → PassesDegree p 1024 ((1, q) ∷ []) g
    with_one e q g (r, t, some, other, high) =
        elim (cases_monomial q r) [
          | inl here ↦ (q, t, some_unit q, other, subst (λ h. 1024 < degree h + degree t) (sym here) high)
          | inr apart ↦ absurd (some (coefficient-other p (e, q) [] r apart ∙ coefficient-none p r))
        ]

    pub passes_difference : PassesDifference p a k u b l v → PassesSPolynomial p cmp a b
    passes_difference (inl passes) = (c, m, d, n, first, second, inl (subst (λ q. PassesDegree p 1024 ((1, q) ∷ []) a) u_is (with_one k u a passes)))
    passes_difference (inr (inl passes)) = (c, m, d, n, first, second, inr (inl (subst (λ q. PassesDegree p 1024 ((1, q) ∷ []) b) v_is (with_one l v b passes))))
    passes_difference (inr (inr passes)) = (
      c,
      m,
      d,
      n,
      first,
      second,
      inr (inr (
        k,
        l,
        kc,
        ld,
        PassesTerms-same p 131072 over (difference p (term_product k (mono_quotient top m) a) (term_product l (mono_quotient top n) b)) (in_quotients over (λ _. refl)) passes,
      )),
    )

  -- the least common multiple has too high a degree
  pub passes_lcm : 1024 < degree top → PassesSPolynomial p cmp a b
  passes_lcm high =
      let q = mono_quotient top m in
      let whole : mono_mul m q ≡ top = mono_mul-mono_quotient top m top_monomial m_monomial (divides_lcm_first m n m_monomial n_monomial) in
      let sum : degree m + degree q ≡ degree top = sym (degree-mono_mul m q) ∙ ap degree whole in
      (c, m, d, n, first, second, inl (q, m, some_unit q, (λ none. first.1 (sym first.0 ∙ none)), (let up : 1024 < degree q + degree m = omega arith in up)))

-- ---- parts

pub scaled_combination : (p c : ℕ) (gs : List Terms) (ts us : Parts) → AreScaled p c ts us → SamePolynomial p (combination gs us) (scaled c (combination gs ts))
scaled_combination p c gs [] [] v q = refl
scaled_combination p c gs [] (u ∷ us) v q = absurd v
scaled_combination p c gs (t ∷ ts) [] v q = absurd v
scaled_combination p c gs (t ∷ ts) (u ∷ us) v q =
    let g = get_or gs t.0 [] in
    ap (λ i. coefficient p (product u.1 (get_or gs i []) ++ combination gs us) q) v.0
    ∙ same_sums p (product u.1 g) (scaled c (product t.1 g)) (combination gs us) (scaled c (combination gs ts))
    (λ r. same_products p u.1 (scaled c t.1) g g v.1 (λ _. refl) r ∙ scaled_product p c t.1 g r) (scaled_combination p c gs ts us v.2) q
    ∙ ap (λ l. coefficient p l q) (sym (scaled-append c (product t.1 g) (combination gs ts)))
  where
    scaled_product : (p c : ℕ) (a b : Terms) → SamePolynomial p (product (scaled c a) b) (scaled c (product a b))
    scaled_product p c a b =
        SamePolynomial-from_weighted p (product (scaled c a) b) (scaled c (product a b))
        (λ f. ap (λ k. k % p) (weighted-product f (scaled c a) b ∙ weighted-term_product (λ m. weighted (λ n. f (mono_mul m n)) b) c [] a
        ∙ ap (λ k. c * k) (sym (weighted-product f a b)) ∙ sym (weighted-term_product f c [] (product a b))))

    scaled-append : (c : ℕ) (a b : Terms) → scaled c (a ++ b) ≡ scaled c a ++ scaled c b
    scaled-append c [] b = refl
    scaled-append c (t ∷ a) b = ap (λ l. (c * t.0, mono_mul [] t.1) ∷ l) (scaled-append c a b)

pub scaled_before : (p c n : ℕ) (ts us : Parts) → AreScaled p c ts us → AreBefore n ts → AreBefore n us
scaled_before p c n [] [] v w = tt
scaled_before p c n [] (u ∷ us) v w = absurd v
scaled_before p c n (t ∷ ts) [] v w = absurd v
scaled_before p c n (t ∷ ts) (u ∷ us) v w = (subst (λ i. i < n) (sym v.0) w.0, scaled_before p c n ts us v.2 w.1)

pub scaled_push : (p c : ℕ) (ts us : Parts) (t u : ℕ × Terms) → AreScaled p c ts us → u.0 ≡ t.0 → SamePolynomial p u.1 (scaled c t.1) → AreScaled p c (ts ++ t ∷ []) (us ++ u ∷ [])
scaled_push p c [] [] t u v e same = (e, same, tt)
scaled_push p c [] (y ∷ us) t u v e same = absurd v
scaled_push p c (x ∷ ts) [] t u v e same = absurd v
scaled_push p c (x ∷ ts) (y ∷ us) t u v e same = (v.0, v.1, scaled_push p c ts us t u v.2 e same)

pub scaled_next : (p c : ℕ) (ts us vs : Parts) (i : ℕ) (t : ℕ × Terms) (u : Terms) → i < length ts → t ≡ get_or ts i t → vs ≡ us ++ (t.0, u) ∷ [] → SamePolynomial p u (scaled c t.1) → AreScaled p c (take i ts) us → AreScaled p c (take (i + 1) ts) vs
scaled_next p c ts us vs i t u h is are same v =
    subst (AreScaled p c (take (i + 1) ts)) (sym are)
    (subst (λ l. AreScaled p c l (us ++ (t.0, u) ∷ [])) (sym (taken_more ts i t h is)) (scaled_push p c (take i ts) us t (t.0, u) v refl same))

-- two multiples are recorded besides
pub both_recorded : (p : ℕ) (old middle new : Parts) (i k : ℕ) (u : Monomial) (j l : ℕ) (v : Monomial) → IsRecorded p old middle i (neg_mod p k) u → IsRecorded p middle new j (neg_mod p l) v → AreSubtracted p old i k u j l v new
both_recorded p old middle new i k u j l v first second = record {
  sum = λ gs q.
      let x = term_product (neg_mod p k) u (get_or gs i []) in
      let y = term_product (neg_mod p l) v (get_or gs j []) in
      second.sum gs q ∙ same_sums p (combination gs middle) (combination gs old ++ x) y y (first.sum gs) (λ _. refl) q;
  before = λ n h g w. second.before n g (first.before n h w);
}

-- which limit a difference passes
pub first_passes : (p : ℕ) (a : Terms) (k : ℕ) (u : Monomial) (b : Terms) (l : ℕ) (v : Monomial) (stop : PolyStop) → (stop ≡ DegreeOver → PassesDegree p 1024 ((k, u) ∷ []) a) → (stop ≡ TermsOver → ⊥) → stop ≢ Memory → PassesDifference p a k u b l v
first_passes p a k u b l v DegreeOver degree terms some = inl (degree refl)
first_passes p a k u b l v TermsOver degree terms some = absurd (terms refl)
first_passes p a k u b l v Memory degree terms some = absurd (some refl)

pub second_passes : (p : ℕ) (a : Terms) (k : ℕ) (u : Monomial) (b : Terms) (l : ℕ) (v : Monomial) (raised : Terms) (stop : PolyStop) → SamePolynomial p raised (term_product k u a) → (stop ≡ DegreeOver → PassesDegree p 1024 ((l, v) ∷ []) b)
    → (stop ≡ TermsOver → PassesTerms p 131072 (difference p raised (term_product l v b))) → stop ≢ Memory → PassesDifference p a k u b l v
second_passes p a k u b l v raised DegreeOver up degree terms some = inr (inl (degree refl))
second_passes p a k u b l v raised TermsOver up degree terms some =
    let y = scaled (p - 1) (term_product l v b) in
    inr (inr (PassesTerms-same p 131072 (difference p raised (term_product l v b)) (difference p (term_product k u a) (term_product l v b)) (same_sums p raised (term_product k u a) y y up (λ _. refl)) (terms refl)))
second_passes p a k u b l v raised Memory up degree terms some = absurd (some refl)

pub raised_difference : (p : ℕ) (a raised s y : Terms) → SamePolynomial p raised a → SamePolynomial p s (difference p raised y) → SamePolynomial p s (difference p a y)
raised_difference p a raised s y up is q = is q ∙ same_sums p raised a (scaled (p - 1) y) (scaled (p - 1) y) up (λ _. refl) q
