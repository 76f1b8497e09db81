-- The laws of leading terms, and of graded orders.
use Rattle.std.proofs.Common.{◌≡◌, ◌≢◌, ◌⊎◌, ℕ, ◌+◌, ◌<◌, ◌≤◌, ◌%◌, List, length, [], ◌∷◌, ◌++◌, refl, sym, ap, ap₂, ◌∙◌, subst, inl, inr, arith, append-nil, mod-eq_of_lt, mod-lt}
use Rattle.std.proofs.Math.Nat.{mod-mod, zero-mod}
use Rattle.std.proofs.lemmas.Bool.{cases_lt, cases_eq}
use Rattle.std.proofs.lemmas.Cmp.{tied_itself}
use Rattle.std.specs.Ordering.{ordering_reverse}
use Rattle.std.specs.declared.cmp.Ordering.{Ordering}
use Rattle.std.specs.declared.cmp.Ordering.TheVariants.{Less, Equal, Greater}
use Rattle.ffc_field.specs.Modular.{IsPrime, add_mod, sub_mod, mul_mod}
use Rattle.ffc_field.proofs.ModularLaws.{sub_mod-self}
use Rattle.ffc_field.proofs.Primes.{no_zero_product}
use Rattle.ffc_ring.specs.Monomial.{Monomial, IsMonomial, exponent, degree, mono_mul, mono_quotient, Divides}
use Rattle.ffc_ring.specs.Polynomial.{Terms, AreTerms, coefficient, term_product, product, difference}
use Rattle.ffc_ring.specs.Polynomial.{IsNoneOf}
use Rattle.ffc_ring.specs.Counting.{IsIn, AreUpTo, AreDifferent}
use Rattle.ffc_field.specs.Binomial.{choose}
use Rattle.ffc_ring.proofs.CountingLemmas.{count_of_monomials}
use Rattle.ffc_ring.proofs.MonomialLemmas.{mono_mul_comm, exponent-here, exponent-there, IsMonomialFrom-mono_quotient, mono_mul-mono_quotient}
use Rattle.ffc_ring.proofs.PolynomialLemmas.{coefficient-append, coefficient-difference, coefficient-no_product, coefficient-one_product, monomial_of_coefficient, cases_monomial, written-at, written-off}
use Rattle.ffc_mono.specs.MonomialOrder.{IsMonomialOrder}
use Rattle.ffc_mono.specs.Orders.{graded_reverse_lex_cmp}
use Rattle.ffc_mono.specs.OrderLaws.{graded_reverse_lex_words}
use Rattle.ffc_mono.specs.Leading.{IsLeading}
use Rattle.ffc_mono.specs.Graded.{IsGraded, IsGradedIn, Descends, AreIn}

add-none : (x : ℕ) → x + 0 ≡ x
add-none x = omega arith

-- ---- the order

module _ (cmp : Monomial → Monomial → Ordering) (laws : IsMonomialOrder cmp) where
  pub turned : (m n : Monomial) → cmp m n ≡ Less → cmp n m ≡ Greater
  turned m n e = laws.total.antisymm n m ∙ ap ordering_reverse e

  pub turned_back : (m n : Monomial) → cmp m n ≡ Greater → cmp n m ≡ Less
  turned_back m n e = laws.total.antisymm n m ∙ ap ordering_reverse e

  pub greater_trans : (m n k : Monomial) → cmp m n ≡ Greater → cmp n k ≡ Greater → cmp m k ≡ Greater
  greater_trans m n k e f = turned k m (laws.total.trans k n m (turned_back n k f) (turned_back m n e))

  pub not_itself : (m n : Monomial) → cmp m n ≡ Greater → m ≢ n
  not_itself m n e same =
      let tied : Equal ≡ Greater = sym (tied_itself laws.total m) ∙ ap (cmp m) same ∙ e in absurd (cc tied)

  -- the second is the first, or below it
  abbrev AtMost : Monomial → Monomial → Type 0
  AtMost m x = (x ≡ m) ⊎ (cmp m x ≡ Greater)

  times_right : (m x n : Monomial) → IsMonomial m → IsMonomial x → IsMonomial n → cmp m x ≡ Greater → cmp (mono_mul m n) (mono_mul x n) ≡ Greater
  times_right m x n v u w e = laws.kept m x n v u w ∙ e

  times_left : (m n y : Monomial) → IsMonomial m → IsMonomial n → IsMonomial y → cmp n y ≡ Greater → cmp (mono_mul m n) (mono_mul m y) ≡ Greater
  times_left m n y v w t e = ap₂ cmp (mono_mul_comm m n v w) (mono_mul_comm m y v t) ∙ laws.kept n y m w t v ∙ e

  products_below : (m x n y : Monomial) → IsMonomial m → IsMonomial x → IsMonomial n → IsMonomial y → cmp m x ≡ Greater → AtMost n y → cmp (mono_mul m n) (mono_mul x y) ≡ Greater
  products_below m x n y v u w t e (inl same) = ap (λ k. cmp (mono_mul m n) (mono_mul x k)) same ∙ times_right m x n v u w e
  products_below m x n y v u w t e (inr less) =
      greater_trans (mono_mul m n) (mono_mul x n) (mono_mul x y) (times_right m x n v u w e) (times_left x n y u w t less)

  products_at_most : (m x n y : Monomial) → IsMonomial m → IsMonomial x → IsMonomial n → IsMonomial y → AtMost m x → AtMost n y → AtMost (mono_mul m n) (mono_mul x y)
  products_at_most m x n y v u w t (inl same) (inl alike) = inl (ap₂ mono_mul same alike)
  products_at_most m x n y v u w t (inl same) (inr less) =
      inr (ap (λ k. cmp (mono_mul m n) (mono_mul k y)) same ∙ times_left m n y v w t less)
  products_at_most m x n y v u w t (inr e) at = inr (products_below m x n y v u w t e at)

  -- what is at most m is not above what is not below m
  above_at_most : (o : Ordering) (m k x : Monomial) → cmp m k ≡ o → k ≢ m → AtMost m x → x ≡ k → o ≡ Greater
  above_at_most Greater m k x e ne at same = refl
  above_at_most Equal m k x e ne at same = absurd (ne (sym (laws.exact m k e)))
  above_at_most Less m k x e ne (inl is) same = absurd (ne (sym same ∙ is))
  above_at_most Less m k x e ne (inr less) same =
      let both : Less ≡ Greater = sym e ∙ ap (cmp m) (sym same) ∙ less in absurd (cc both)

  module _ (p : ℕ) where
    pub leading_at_most : (a : Terms) (c : ℕ) (m : Monomial) → IsLeading p cmp a c m → (x : Monomial) → coefficient p a x ≢ 0 → AtMost m x
    leading_at_most a c m l x some =
        elim (cases_monomial x m) [
          | inl same ↦ inl same
          | inr other ↦ inr (l.2 x some other)
        ]

    leading_some : (a : Terms) (c : ℕ) (m : Monomial) → IsLeading p cmp a c m → coefficient p a m ≢ 0
    leading_some a c m l none = l.1 (sym l.0 ∙ none)

    pub one_leading : (a : Terms) (c d : ℕ) (m n : Monomial) → IsLeading p cmp a c m → IsLeading p cmp a d n → (c ≡ d) × (m ≡ n)
    one_leading a c d m n l k =
        elim (leading_at_most a c m l n (leading_some a d n k)) [
          | inl same ↦ (sym l.0 ∙ ap (coefficient p a) (sym same) ∙ k.0, sym same)
          | inr below ↦
              elim (leading_at_most a d n k m (leading_some a c m l)) [
                | inl same ↦ (sym l.0 ∙ ap (coefficient p a) same ∙ k.0, same)
                | inr above ↦
                    let both : Less ≡ Greater = sym (turned_back n m above) ∙ below in absurd (cc both)
              ]
        ]

    -- a monomial of the product other than that of the leading ones is below it
    above_product : (a b : Terms) → AreTerms a → AreTerms b → (c d : ℕ) (m n : Monomial) → IsLeading p cmp a c m → IsLeading p cmp b d n → IsMonomial m → IsMonomial n → (q : Monomial) → coefficient p (product a b) q ≢ 0 → q ≢ mono_mul m n → (o : Ordering) → cmp (mono_mul m n) q ≡ o → cmp (mono_mul m n) q ≡ Greater
    above_product a b v w c d m n l k u t q some off Greater e = e
    above_product a b v w c d m n l k u t q some off Equal e = absurd (off (sym (laws.exact (mono_mul m n) q e)))
    above_product a b v w c d m n l k u t q some off Less e =
        absurd (
        some
        (coefficient-no_product p a b q v w
        (λ x y s r sx sy same.
        let both : Less ≡ Greater =
        above_at_most Less (mono_mul m n) q (mono_mul x y) e off
        (products_at_most m x n y u s t r (leading_at_most a c m l x sx) (leading_at_most b d n k y sy)) same in
        absurd (cc both)))
        )

    pub leading_of_product : IsPrime p → (a b : Terms) → AreTerms a → AreTerms b → (c d : ℕ) (m n : Monomial) → IsLeading p cmp a c m → IsLeading p cmp b d n → IsLeading p cmp (product a b) (mul_mod p c d) (mono_mul m n)
    leading_of_product prime a b v w c d m n l k =
        let u : IsMonomial m = monomial_of_coefficient p a m v (leading_some a c m l) in
        let t : IsMonomial n = monomial_of_coefficient p b n w (leading_some b d n k) in
        let below_c : c < p = subst (λ x. x < p) l.0 (mod-lt _ (omega (arith, prime.least))) in
        let below_d : d < p = subst (λ x. x < p) k.0 (mod-lt _ (omega (arith, prime.least))) in (
          coefficient-one_product p a b m n v w u t
              (λ x y s r some other off same.
              elim (leading_at_most a c m l x some) [
                | inl is ↦ absurd (off (sym is))
                | inr less ↦
                    not_itself (mono_mul m n) (mono_mul x y) (products_below m x n y u s t r less (leading_at_most b d n k y other)) (sym same)
              ])
              ∙ ap₂ (mul_mod p) l.0 k.0,
          (λ none. elim (no_zero_product p c d prime below_c below_d none) [ inl e ↦ l.1 e | inr e ↦ k.1 e ]),
          λ q some off. above_product a b v w c d m n l k u t q some off (cmp (mono_mul m n) q) refl,
        )

    -- the leading term of one term is itself
    one_term : (k : ℕ) (m : Monomial) → 0 < k → k < p → IsLeading p cmp ((k, m) ∷ []) k m
    one_term k m h g = (
      ap (λ x. x % p) (written-at m (k, m) [] refl ∙ omega arith) ∙ mod-eq_of_lt g,
      (λ none. omega (arith, none)),
      λ n some off. absurd (some (ap (λ x. x % p) (written-off n (k, m) [] (λ e. off (sym e))) ∙ zero-mod p)),
    )

    pub leading_of_multiple : IsPrime p → (a : Terms) → AreTerms a → (k c : ℕ) (m n : Monomial) → IsMonomial m → 0 < k → k < p → IsLeading p cmp a c n → IsLeading p cmp (term_product k m a) (mul_mod p k c) (mono_mul m n)
    leading_of_multiple prime a v k c m n u h g l =
        subst (λ ts. IsLeading p cmp ts (mul_mod p k c) (mono_mul m n)) (append-nil (term_product k m a))
        (leading_of_product prime ((k, m) ∷ []) a (u, tt) v k c m n (one_term k m h g) l)

    -- ---- sums

    some_of_sum : (a b : Terms) (n : Monomial) → coefficient p (a ++ b) n ≢ 0 → (coefficient p a n ≢ 0) ⊎ (coefficient p b n ≢ 0)
    some_of_sum a b n some =
        elim (cases_eq (coefficient p a n) 0) [
          | inl none ↦
              inr (λ nothing. some (coefficient-append p a b n ∙ ap₂ (add_mod p) none nothing ∙ ap (λ k. k % p) (omega arith) ∙ zero-mod p))
          | inr found ↦ inl found
        ]

    -- a monomial above the leading one has no coefficient
    none_above : (b : Terms) (d : ℕ) (m n : Monomial) → IsLeading p cmp b d n → cmp m n ≡ Greater → coefficient p b m ≡ 0
    none_above b d m n k e =
        elim (cases_eq (coefficient p b m) 0) [
          | inl none ↦ none
          | inr some ↦
              elim (leading_at_most b d n k m some) [
                | inl same ↦ absurd (not_itself m n e same)
                | inr above ↦
                    let both : Less ≡ Greater = sym (turned_back n m above) ∙ e in absurd (cc both)
              ]
        ]

    pub leading_of_sum : (a b : Terms) (c d : ℕ) (m n : Monomial) → IsLeading p cmp a c m → IsLeading p cmp b d n → cmp m n ≡ Greater → IsLeading p cmp (a ++ b) c m
    leading_of_sum a b c d m n l k e = (
      coefficient-append p a b m ∙ ap₂ (add_mod p) refl (none_above b d m n k e) ∙ ap (λ x. x % p) (add-none (coefficient p a m)) ∙ mod-mod _ p ∙ l.0,
      l.1,
      λ q some off.
          elim (some_of_sum a b q some) [
            | inl in_a ↦ l.2 q in_a off
            | inr in_b ↦
                elim (leading_at_most b d n k q in_b) [
                  | inl same ↦ ap (cmp m) same ∙ e
                  | inr below ↦ greater_trans m n q e below
                ]
          ],
    )

    pub leading_of_equal_sum : (a b : Terms) (c d : ℕ) (m : Monomial) → IsLeading p cmp a c m → IsLeading p cmp b d m → add_mod p c d ≢ 0 → IsLeading p cmp (a ++ b) (add_mod p c d) m
    leading_of_equal_sum a b c d m l k some = (
      coefficient-append p a b m ∙ ap₂ (add_mod p) l.0 k.0,
      some,
      λ q found off.
          elim (some_of_sum a b q found) [
            | inl in_a ↦ l.2 q in_a off
            | inr in_b ↦ k.2 q in_b off
          ],
    )

    pub cancelled_sum : (a b : Terms) (c d : ℕ) (m : Monomial) → IsLeading p cmp a c m → IsLeading p cmp b d m → add_mod p c d ≡ 0 → (n : Monomial) → coefficient p (a ++ b) n ≢ 0 → cmp m n ≡ Greater
    cancelled_sum a b c d m l k none n some =
        let off : n ≢ m = λ same. some (ap (coefficient p (a ++ b)) same ∙ coefficient-append p a b m ∙ ap₂ (add_mod p) l.0 k.0 ∙ none) in
        elim (some_of_sum a b n some) [
          | inl in_a ↦ l.2 n in_a off
          | inr in_b ↦ k.2 n in_b off
        ]

    -- ---- a step of a reduction

    some_of_difference : 0 < p → (a b : Terms) (x : Monomial) → coefficient p (difference p a b) x ≢ 0 → (coefficient p a x ≢ 0) ⊎ (coefficient p b x ≢ 0)
    some_of_difference h a b x some =
        elim (cases_eq (coefficient p a x) 0) [
          | inl none ↦
              inr (λ nothing. some (coefficient-difference p h a b x ∙ ap₂ (sub_mod p) none nothing ∙ sub_mod-self p 0 (omega arith)))
          | inr found ↦ inl found
        ]

    pub cancelled_step : IsPrime p → (a b : Terms) → AreTerms b → (k c d : ℕ) (m n : Monomial) → IsMonomial m → 0 < k → k < p → IsLeading p cmp b c n → IsLeading p cmp a d (mono_mul m n) → mul_mod p k c ≡ d → (x : Monomial) → coefficient p (difference p a (term_product k m b)) x ≢ 0 → cmp (mono_mul m n) x ≡ Greater
    cancelled_step prime a b w k c d m n u h g l lead same x some =
        let positive : 0 < p = omega (arith, prime.least) in
        let multiple = term_product k m b in
        let below : IsLeading p cmp multiple (mul_mod p k c) (mono_mul m n) = leading_of_multiple prime b w k c m n u h g l in
        let low : d < p = subst (λ y. y < p) lead.0 (mod-lt _ positive) in
        let off : x ≢ mono_mul m n =
        λ is. some (ap (coefficient p (difference p a multiple)) is ∙ coefficient-difference p positive a multiple (mono_mul m n)
        ∙ ap₂ (sub_mod p) lead.0 (below.0 ∙ same) ∙ sub_mod-self p d (omega arith)) in
        elim (some_of_difference positive a multiple x some) [
          | inl in_a ↦ lead.2 x in_a off
          | inr in_b ↦ below.2 x in_b off
        ]

-- ---- graded orders

pub graded_reverse_lex_is_graded : IsGraded graded_reverse_lex_cmp
graded_reverse_lex_is_graded m n v w h = (graded_reverse_lex_words m n v w).is_greater.1 (inl h)

pub greater_is_no_lower : (cmp : Monomial → Monomial → Ordering) → IsMonomialOrder cmp → IsGraded cmp → (m n : Monomial) → IsMonomial m → IsMonomial n → cmp m n ≡ Greater → degree n ≤ degree m
greater_is_no_lower cmp laws graded m n v w e =
    elim (cases_lt (degree m) (degree n)) [
      | inl lower ↦
          let both : Less ≡ Greater = sym (turned_back cmp laws n m (graded n m w v lower)) ∙ e in absurd (cc both)
      | inr no_lower ↦ no_lower
    ]

-- ---- divisors

pub divisor_is_no_greater : (cmp : Monomial → Monomial → Ordering) → IsMonomialOrder cmp → (m n : Monomial) → IsMonomial m → IsMonomial n → Divides m n → cmp m n ≢ Greater
divisor_is_no_greater cmp laws m n v w divides e =
    let q = mono_quotient n m in
    let u : IsMonomial q = IsMonomialFrom-mono_quotient 0 n m w in
    let whole : mono_mul q m ≡ n = mono_mul_comm q m u v ∙ mono_mul-mono_quotient n m w v divides in
    laws.least q u (sym (laws.kept [] q m tt u v) ∙ ap (cmp m) whole ∙ e)

-- in one variable a monomial is a power
variable_is : (v : ℕ) (p : ℕ × ℕ) (m : Monomial) → IsMonomial (p ∷ m) → IsIn (v ∷ []) (p ∷ m) → p.0 ≡ v
variable_is v p m u only =
    elim (only p.0 (λ none. omega (arith, u.1, exponent-here p m p.0 refl, none))) [ inl same ↦ same | inr none ↦ absurd none ]

degree_in_one : (v : ℕ) (m : Monomial) → IsMonomial m → IsIn (v ∷ []) m → degree m ≡ exponent m v
degree_in_one v [] u only = refl
degree_in_one v (p ∷ []) u only = omega (arith, exponent-here p [] v (sym (variable_is v p [] u only)))
degree_in_one v (p ∷ q ∷ m) u only =
    let first : p.0 ≡ v = variable_is v p (q ∷ m) u only in
    let other : q.0 ≢ p.0 = λ same. omega (arith, u.2.0, same) in
    let there : exponent (p ∷ q ∷ m) q.0 ≡ q.1 = exponent-there p (q ∷ m) q.0 other ∙ exponent-here q m q.0 refl in
    elim (only q.0 (λ none. omega (arith, u.2.1, there, none))) [ inl same ↦ absurd (other (same ∙ sym first)) | inr none ↦ absurd none ]

none_of_others : (v x : ℕ) (m : Monomial) → IsIn (v ∷ []) m → x ≢ v → exponent m x ≡ 0
none_of_others v x m only other =
    elim (cases_eq (exponent m x) 0) [
      | inl none ↦ none
      | inr some ↦ elim (only x some) [ inl same ↦ absurd (other same) | inr none ↦ absurd none ]
    ]

divides_in_one : (v : ℕ) (m n : Monomial) → IsMonomial m → IsMonomial n → IsIn (v ∷ []) m → IsIn (v ∷ []) n → degree n ≤ degree m → Divides n m
divides_in_one v m n u w in_m in_n h x =
    elim (cases_eq x v) [
      | inl here ↦
          rw here (omega (arith, degree_in_one v m u in_m, degree_in_one v n w in_n, h))
      | inr there ↦ omega (arith, none_of_others v x n in_n there)
    ]

-- what is neither less nor equal is greater
greater_of : (cmp : Monomial → Monomial → Ordering) → IsMonomialOrder cmp → (m n : Monomial) (o : Ordering) → cmp n m ≡ o → o ≢ Greater → n ≢ m → cmp m n ≡ Greater
greater_of cmp laws m n Less e no_greater other = turned cmp laws n m e
greater_of cmp laws m n Equal e no_greater other = absurd (other (laws.exact n m e))
greater_of cmp laws m n Greater e no_greater other = absurd (no_greater refl)

pub one_variable_is_graded : (cmp : Monomial → Monomial → Ordering) → IsMonomialOrder cmp → (v : ℕ) → IsGradedIn (v ∷ []) cmp
one_variable_is_graded cmp laws v m n u w in_m in_n h =
    greater_of cmp laws m n (cmp n m) refl
    (divisor_is_no_greater cmp laws n m w u (divides_in_one v m n u w in_m in_n (omega arith)))
    (λ same. omega (arith, ap degree same, h))

-- ---- descents

-- what is above the first of a descent is above all of it
above_descent : (cmp : Monomial → Monomial → Ordering) → IsMonomialOrder cmp → (k m : Monomial) (ms : List Monomial) → cmp k m ≡ Greater → Descends cmp m ms → IsNoneOf (m ∷ ms) k
above_descent cmp laws k m [] e h = ((λ same. not_itself cmp laws k m e (sym same)), tt)
above_descent cmp laws k m (n ∷ ns) e h =
    ((λ same. not_itself cmp laws k m e (sym same)), above_descent cmp laws k n ns (greater_trans cmp laws k m n e h.0) h.1)

different_descent : (cmp : Monomial → Monomial → Ordering) → IsMonomialOrder cmp → (m : Monomial) (ms : List Monomial) → Descends cmp m ms → AreDifferent (m ∷ ms)
different_descent cmp laws m [] h = (tt, tt)
different_descent cmp laws m (n ∷ ns) h = (above_descent cmp laws m n ns h.0 h.1, different_descent cmp laws n ns h.1)

no_lower_in : (cmp : Monomial → Monomial → Ordering) → IsMonomialOrder cmp → (vs : List ℕ) → IsGradedIn vs cmp → (m n : Monomial) → IsMonomial m → IsMonomial n → IsIn vs m → IsIn vs n → cmp m n ≡ Greater → degree n ≤ degree m
no_lower_in cmp laws vs graded m n v w in_m in_n e =
    elim (cases_lt (degree m) (degree n)) [
      | inl lower ↦
          let both : Less ≡ Greater = sym (turned_back cmp laws n m (graded n m w v in_n in_m lower)) ∙ e in absurd (cc both)
      | inr no_lower ↦ no_lower
    ]

up_to_descent : (cmp : Monomial → Monomial → Ordering) → IsMonomialOrder cmp → (vs : List ℕ) → IsGradedIn vs cmp → (d : ℕ) (m : Monomial) (ms : List Monomial) → AreIn vs (m ∷ ms) → degree m ≤ d → Descends cmp m ms → AreUpTo vs d (m ∷ ms)
up_to_descent cmp laws vs graded d m [] v l h = (v.0, v.1, l, tt)
up_to_descent cmp laws vs graded d m (n ∷ ns) v l h =
    let lower : degree n ≤ degree m = no_lower_in cmp laws vs graded m n v.0 v.2.0 v.1 v.2.1 h.0 in
    (v.0, v.1, l, up_to_descent cmp laws vs graded d n ns v.2 (omega arith) h.1)

short_descent : (cmp : Monomial → Monomial → Ordering) → IsMonomialOrder cmp → (vs : List ℕ) → IsGradedIn vs cmp → (d : ℕ) (m : Monomial) (ms : List Monomial) → AreIn vs (m ∷ ms) → degree m ≤ d → Descends cmp m ms → length (m ∷ ms) ≤ choose (length vs + d) d
short_descent cmp laws vs graded d m ms v l h =
    count_of_monomials vs d (m ∷ ms) (different_descent cmp laws m ms h) (up_to_descent cmp laws vs graded d m ms v l h)

pub descent_is_short : (cmp : Monomial → Monomial → Ordering) → IsMonomialOrder cmp → IsGraded cmp → (vs : List ℕ) (d : ℕ) (m : Monomial) (ms : List Monomial) → AreIn vs (m ∷ ms) → degree m ≤ d → Descends cmp m ms → length (m ∷ ms) ≤ choose (length vs + d) d
descent_is_short cmp laws graded vs = short_descent cmp laws vs (λ m n v w _ _ h. graded m n v w h)

pub descent_in_one_is_short : (cmp : Monomial → Monomial → Ordering) → IsMonomialOrder cmp → (v d : ℕ) (m : Monomial) (ms : List Monomial) → AreIn (v ∷ []) (m ∷ ms) → degree m ≤ d → Descends cmp m ms → length (m ∷ ms) ≤ choose (1 + d) d
descent_in_one_is_short cmp laws v = short_descent cmp laws (v ∷ []) (one_variable_is_graded cmp laws v)
