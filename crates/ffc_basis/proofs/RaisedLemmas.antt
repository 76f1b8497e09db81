-- Polynomials times the monomials that make their leading monomials one multiple of both: the monomials of their
-- S-polynomial are among the others (Cox, Little and O'Shea, chapter 2, section 6).
use Rattle.std.proofs.Common.{◌≡◌, ◌≢◌, ◌⊎◌, ℕ, ◌<◌, ◌≤◌, [], ◌∷◌, length, get_or, refl, sym, ap, ap₂, ◌∙◌, subst, inl, inr, arith, mod-lt, Option, Some, None, IfSome, true, false, nat_eq}
use Rattle.std.proofs.lemmas.Bool.{cases_eq}
use Rattle.std.proofs.lemmas.Bool.Decides.{nat_tests}
use Rattle.std.specs.Bool.{OnFalse}
use Rattle.std.specs.declared.cmp.Ordering.{Ordering}
use Rattle.std.specs.declared.cmp.Ordering.TheVariants.{Less, Equal, Greater}
use Rattle.ffc_field.specs.Modular.{IsPrime, mul_mod, sub_mod}
use Rattle.ffc_field.proofs.ModularLaws.{mul_mod-comm, mul_mod-assoc, mul_mod-one_first, mul_mod-zero, sub_mod-self, same_from_sub_mod}
use Rattle.ffc_ring.specs.Monomial.{Monomial, IsMonomial, exponent, mono_mul, mono_lcm, mono_quotient, Divides}
use Rattle.ffc_ring.specs.Polynomial.{Terms, AreTerms, coefficient, term_product, difference}
use Rattle.ffc_ring.proofs.MonomialLemmas.{one_monomial, IsMonomial-mono_mul, exponent-mono_mul, IsMonomial-mono_lcm, mono_mul_comm, mono_mul_assoc, mono_mul_cancel, mono_mul_one, mono_mul-mono_quotient, IsMonomialFrom-mono_quotient, exponent-mono_quotient, first_divides_lcm, second_divides_lcm}
use Rattle.ffc_ring.proofs.PolynomialLemmas.{cases_monomial, coefficient-difference, coefficient-term_product, shifted_monomial, monomial_of_coefficient}
use Rattle.ffc_mono.specs.MonomialOrder.{IsMonomialOrder}
use Rattle.ffc_mono.specs.Leading.{IsLeading}
use Rattle.ffc_mono.proofs.LeadingLemmas.{turned, turned_back, greater_trans, not_itself, one_leading, leading_at_most}
use Rattle.ffc_poly.specs.Ordered.{IsOrdered}
use Rattle.ffc_basis.specs.declared.chain.Raised.{Raised}
use Rattle.ffc_basis.specs.Chains.{IsAtMost, IsSecond, IsRaised, IsUnder, AreApart, IsLeadLcm, IsLeadOfAll, IsTop}
use Rattle.ffc_basis.proofs.OrderedTerms.{coefficient-none, coefficient-other, coefficient-first, IsLeading-first}
use Rattle.ffc_basis.proofs.PairLemmas.{lcm_commutes}
use Rattle.ffc_basis.proofs.SPolynomialLemmas.{quotient_is}

-- ---- numbers modulo p

-- the middle factors change places
swapped_factors : (p a b c d : ℕ) → mul_mod p (mul_mod p a b) (mul_mod p c d) ≡ mul_mod p (mul_mod p a c) (mul_mod p b d)
swapped_factors p a b c d =
    mul_mod-assoc p a b (mul_mod p c d)
    ∙ ap (mul_mod p a) (sym (mul_mod-assoc p b c d) ∙ ap (λ x. mul_mod p x d) (mul_mod-comm p b c) ∙ mul_mod-assoc p c b d)
    ∙ sym (mul_mod-assoc p a c (mul_mod p b d))

-- where x/c is y/d, x*d is y*c
cross_products : (p x c y d k l : ℕ) → 0 < p → mul_mod p k c ≡ 1 → mul_mod p l d ≡ 1 → mul_mod p k x ≡ mul_mod p l y → mul_mod p x d ≡ mul_mod p y c
cross_products p x c y d k l h kc ld same =
    sym (mul_mod-one_first p (mul_mod p x d) (mod-lt _ h))
    ∙ ap (λ z. mul_mod p z (mul_mod p x d)) (sym kc)
    ∙ swapped_factors p k c x d
    ∙ ap₂ (mul_mod p) same (mul_mod-comm p c d)
    ∙ swapped_factors p l y d c
    ∙ ap (λ z. mul_mod p z (mul_mod p y c)) ld
    ∙ mul_mod-one_first p (mul_mod p y c) (mod-lt _ h)

-- a factor that has an inverse leaves what is not 0
inverse_keeps_some : (p k c x : ℕ) → 0 < p → x < p → mul_mod p k c ≡ 1 → x ≢ 0 → mul_mod p k x ≢ 0
inverse_keeps_some p k c x h low kc some none =
    some
    (sym (mul_mod-one_first p x low) ∙ ap (λ z. mul_mod p z x) (sym kc ∙ mul_mod-comm p k c) ∙ mul_mod-assoc p c k x
    ∙ ap (mul_mod p c) none ∙ mul_mod-zero p c)

-- what holds where two numbers are different
pub where_not_same : (x y : ℕ) (P : Type 0) → (x ≢ y → P) → OnFalse (nat_eq x y) P
where_not_same x y P h =
    elim (cases_eq x y) [
      | inl same ↦ rw (same_test x y same) tt
      | inr other ↦ rw (other_test x y other) (h other)
    ]
  where
    same_test : (x y : ℕ) → x ≡ y → nat_eq x y ≡ true
    same_test x y e = grind (arith, nat_tests)

    other_test : (x y : ℕ) → x ≢ y → nat_eq x y ≡ false
    other_test x y e = grind (arith, nat_tests)

-- ---- monomials

-- a quotient of a multiple
pub raised_quotient : (low top m u : Monomial) → IsMonomial low → IsMonomial top → IsMonomial m → IsMonomial u → Divides m low → mono_mul low u ≡ top → mono_mul u (mono_quotient low m) ≡ mono_quotient top m
raised_quotient low top m u v w x y divides is =
    let q = mono_quotient low m in
    let z : IsMonomial q = IsMonomialFrom-mono_quotient 0 low m v in
    one_monomial 0 (mono_mul u q) (mono_quotient top m) (IsMonomial-mono_mul u q y z) (IsMonomialFrom-mono_quotient 0 top m w)
    (λ i. omega (arith, exponent-mono_mul u q y z i, exponent-mono_quotient 0 low m i v, exponent-mono_quotient 0 top m i w, exponent-mono_mul low u v y i, ap (λ k. exponent k i) is, divides i))

-- a quotient times the divisor
quotient_times : (top m : Monomial) → IsMonomial top → IsMonomial m → Divides m top → mono_mul (mono_quotient top m) m ≡ top
quotient_times top m v w divides =
    mono_mul_comm (mono_quotient top m) m (IsMonomialFrom-mono_quotient 0 top m v) w ∙ mono_mul-mono_quotient top m v w divides

-- where both quotients times these are the same, and the second of these is the divisor, so is the first
same_divisors : (top m n u i t : Monomial) → IsMonomial top → IsMonomial m → IsMonomial n → IsMonomial u → Divides m top → Divides n top → mono_mul (mono_quotient top m) u ≡ t → t ≡ mono_mul (mono_quotient top n) i → i ≡ n → u ≡ m
same_divisors top m n u i t v mm nm um divides_first divides_second at also same =
    mono_mul_cancel (mono_quotient top m) u m (IsMonomialFrom-mono_quotient 0 top m v) um mm
    (at ∙ also ∙ ap (mono_mul (mono_quotient top n)) same ∙ quotient_times top n v nm divides_second ∙ sym (quotient_times top m v mm divides_first))

-- the monomial of a term that leads
pub lead_monomial : (p : ℕ) (cmp : Monomial → Monomial → Ordering) (ts : Terms) (c : ℕ) (m : Monomial) → AreTerms ts → IsLeading p cmp ts c m → IsMonomial m
lead_monomial p cmp ts c m v lead = monomial_of_coefficient p ts m v (λ none. lead.1 (sym lead.0 ∙ none))

module _ (p : ℕ) (prime : IsPrime p) (cmp : Monomial → Monomial → Ordering) (laws : IsMonomialOrder cmp) where
  positive : 0 < p
  positive = omega (arith, prime.least)

  -- ---- the order

  no_greater_by : (x y : Monomial) (o : Ordering) → cmp x y ≡ o → o ≢ Greater → (x ≡ y) ⊎ (cmp y x ≡ Greater)
  no_greater_by x y Less e ne = inr (turned cmp laws x y e)
  no_greater_by x y Equal e ne = inl (laws.exact x y e)
  no_greater_by x y Greater e ne = absurd (ne refl)

  pub no_greater_trans : (x y z : Monomial) → cmp x y ≢ Greater → cmp y z ≢ Greater → cmp x z ≢ Greater
  no_greater_trans x y z f g = λ above.
      elim (no_greater_by x y (cmp x y) refl f) [
        | inl same ↦ g (ap (λ k. cmp k z) (sym same) ∙ above)
        | inr below ↦ g (greater_trans cmp laws y x z below above)
      ]

  no_greater_itself : (x y : Monomial) → x ≡ y → cmp x y ≢ Greater
  no_greater_itself x y same above = not_itself cmp laws x y above same

  not_both : (x y : Monomial) → cmp x y ≡ Greater → cmp y x ≢ Greater
  not_both x y above under =
      let both : Less ≡ Greater = sym (turned_back cmp laws x y above) ∙ under in absurd (cc both)

  -- products with one monomial keep what is not above
  kept_no_greater : (u x y : Monomial) → IsMonomial u → IsMonomial x → IsMonomial y → cmp x y ≢ Greater → cmp (mono_mul u x) (mono_mul u y) ≢ Greater
  kept_no_greater u x y v w z low above =
      low (sym (ap₂ cmp (mono_mul_comm u x v w) (mono_mul_comm u y v z) ∙ laws.kept x y u w z v) ∙ above)

  -- ---- the second term

  others_are_lower : (limit : ℕ) (t u : ℕ × Monomial) (ts : Terms) → IsOrdered p cmp limit (t ∷ u ∷ ts) → (n : Monomial) → coefficient p (t ∷ u ∷ ts) n ≢ 0 → n ≢ t.1 → cmp n u.1 ≢ Greater
  others_are_lower limit t u ts h n some other =
      let rest : coefficient p (u ∷ ts) n ≢ 0 = λ none. some (coefficient-other p t (u ∷ ts) n (λ e. other (sym e)) ∙ none) in
      elim (cases_monomial n u.1) [
        | inl same ↦ no_greater_itself n u.1 same
        | inr off ↦ not_both u.1 n ((IsLeading-first p cmp laws limit u ts h.5).2 n rest off)
      ]

  -- a polynomial with one term
  pub raised_one : (limit : ℕ) (ts : Terms) → IsOrdered p cmp limit ts → length ts < 2 → (c : ℕ) (m top : Monomial) → IsLeading p cmp ts c m → Divides m top → IsRaised p cmp ts top record { second = None }
  raised_one limit [] h short c m top lead divides = absurd (lead.1 (sym lead.0 ∙ coefficient-none p m))
  raised_one limit (t ∷ []) h short c m top lead divides =
      let is = (one_leading cmp laws p (t ∷ []) c t.0 m t.1 lead (IsLeading-first p cmp laws limit t [] h)).1 in
      record {
        coefficient_first = c;
        first = m;
        leads = lead;
        divides = divides;
        others = λ n some other. some (coefficient-other p t [] n (λ e. other (sym e ∙ sym is)) ∙ coefficient-none p n);
        second = tt;
      }
  raised_one limit (t ∷ u ∷ ts) h short c m top lead divides = absurd (omega arith)

  -- a polynomial with more terms
  pub raised_more : (limit : ℕ) (ts : Terms) → IsOrdered p cmp limit ts → 2 ≤ length ts → (c : ℕ) (m top up : Monomial) → IsLeading p cmp ts c m → Divides m top → IsMonomial up → mono_mul m up ≡ top
      → IsRaised p cmp ts top record { second = Some (mono_mul up (get_or ts 1 (0, [])).1) }
  raised_more limit [] h long c m top up lead divides w is = absurd (omega arith)
  raised_more limit (t ∷ []) h long c m top up lead divides w is = absurd (omega arith)
  raised_more limit (t ∷ u ∷ ts) h long c m top up lead divides w is =
      let same = (one_leading cmp laws p (t ∷ u ∷ ts) c t.0 m t.1 lead (IsLeading-first p cmp laws limit t (u ∷ ts) h)).1 in
      let mm : IsMonomial m = subst IsMonomial (sym same) h.2 in
      let v : IsMonomial top = subst IsMonomial is (IsMonomial-mono_mul m up mm w) in
      let q : up ≡ mono_quotient top m = quotient_is m up top mm w v (IsMonomialFrom-mono_quotient 0 top m v) is in
      let off : u.1 ≢ m = λ e. not_itself cmp laws t.1 u.1 h.4.0 (sym (e ∙ same)) in
      record {
        coefficient_first = c;
        first = m;
        leads = lead;
        divides = divides;
        others = λ n some other.
            let nm : IsMonomial n = monomial_of_coefficient p (t ∷ u ∷ ts) n (h.2, (h.5.2, AreTerms-rest limit ts h.5.5)) some in
            subst (λ x. cmp (mono_mul x n) (mono_mul up u.1) ≢ Greater) q
            (kept_no_greater up n u.1 w nm h.5.2 (others_are_lower limit t u ts h n some (λ e. other (e ∙ sym same))));
        second = (
          coefficient-other p t (u ∷ ts) u.1 (λ e. off (sym e ∙ sym same)) ∙ coefficient-first p cmp laws limit u ts h.5,
          (λ none. omega (arith, h.5.0, none)),
          off,
          ap (λ x. mono_mul x u.1) (sym q),
        );
      }
    where
      AreTerms-rest : (limit : ℕ) (ts : Terms) → IsOrdered p cmp limit ts → AreTerms ts
      AreTerms-rest limit [] h = tt
      AreTerms-rest limit (t ∷ ts) h = (h.2, AreTerms-rest limit ts h.5)

  -- ---- no monomial above another one

  bounded_under : (ts : Terms) (top lead : Monomial) (o : Option Monomial) (r : Raised) → r.second ≡ o → ((k : Monomial) → o ≡ Some k → cmp k lead ≢ Greater) → IsRaised p cmp ts top r → IsUnder p cmp ts top lead
  bounded_under ts top lead o r is low v = record {
    coefficient_first = v.coefficient_first;
    first = v.first;
    leads = v.leads;
    divides = v.divides;
    others = λ n some other. by_bound o (mono_mul (mono_quotient top v.first) n) low (subst (λ k. IsAtMost cmp k (mono_mul (mono_quotient top v.first) n)) is (v.others n some other));
  }
    where
      by_bound : (o : Option Monomial) (x : Monomial) → ((k : Monomial) → o ≡ Some k → cmp k lead ≢ Greater) → IsAtMost cmp o x → cmp x lead ≢ Greater
      by_bound None x low at = absurd at
      by_bound (Some k) x low at = no_greater_trans x k lead at (low k refl)

  pub under_none : (ts : Terms) (top lead : Monomial) (r : Raised) → r.second ≡ None → IsRaised p cmp ts top r → IsUnder p cmp ts top lead
  under_none ts top lead r none v = bounded_under ts top lead None r none (λ k e. absurd (cc e)) v

  pub under_second : (ts : Terms) (top lead k : Monomial) (r : Raised) → r.second ≡ Some k → cmp k lead ≢ Greater → IsRaised p cmp ts top r → IsUnder p cmp ts top lead
  under_second ts top lead k r is low v =
      bounded_under ts top lead (Some k) r is (λ l e. let same : k ≡ l = cc e in λ above. low (ap (λ x. cmp x lead) same ∙ above)) v

  -- the leading monomial is one that leads
  under_at : (ts : Terms) (top lead : Monomial) (c : ℕ) (m : Monomial) → IsLeading p cmp ts c m → IsUnder p cmp ts top lead → (n : Monomial) → coefficient p ts n ≢ 0 → n ≢ m → cmp (mono_mul (mono_quotient top m) n) lead ≢ Greater
  under_at ts top lead c m leads v n some other =
      let same : v.first ≡ m = (one_leading cmp laws p ts v.coefficient_first c v.first m v.leads leads).1 in
      subst (λ x. cmp (mono_mul (mono_quotient top x) n) lead ≢ Greater) same (v.others n some (λ e. other (e ∙ same)))

  -- ---- monomials of an S-polynomial

  module _ (a b : Terms) (x : AreTerms a) (y : AreTerms b) (c d : ℕ) (m n : Monomial) (first : IsLeading p cmp a c m) (second : IsLeading p cmp b d n) (k l : ℕ) (kc : mul_mod p k c ≡ 1) (ld : mul_mod p l d ≡ 1) where
    abbrev low : Monomial
    low = mono_lcm m n

    m_monomial : IsMonomial m
    m_monomial = lead_monomial p cmp a c m x first

    n_monomial : IsMonomial n
    n_monomial = lead_monomial p cmp b d n y second

    low_monomial : IsMonomial low
    low_monomial = IsMonomial-mono_lcm m n m_monomial n_monomial

    abbrev left : Terms
    left = term_product k (mono_quotient low m) a

    abbrev right : Terms
    right = term_product l (mono_quotient low n) b

    -- the leading terms cancel
    none_at_lcm : coefficient p (difference p left right) low ≡ 0
    none_at_lcm =
        let one_left : coefficient p left low ≡ 1 =
        ap (coefficient p left) (sym (quotient_times low m low_monomial m_monomial (first_divides_lcm m n m_monomial n_monomial)))
        ∙ coefficient-term_product p k (mono_quotient low m) m a (IsMonomialFrom-mono_quotient 0 low m low_monomial) m_monomial x
        ∙ ap (mul_mod p k) first.0 ∙ kc in
        let one_right : coefficient p right low ≡ 1 =
        ap (coefficient p right) (sym (quotient_times low n low_monomial n_monomial (second_divides_lcm m n m_monomial n_monomial)))
        ∙ coefficient-term_product p l (mono_quotient low n) n b (IsMonomialFrom-mono_quotient 0 low n low_monomial) n_monomial y
        ∙ ap (mul_mod p l) second.0 ∙ ld in
        coefficient-difference p positive left right low ∙ ap₂ (sub_mod p) one_left one_right ∙ sub_mod-self p 1 (omega (arith, prime.least))

    some_of_difference : (z : Monomial) → coefficient p (difference p left right) z ≢ 0 → (coefficient p left z ≢ 0) ⊎ (coefficient p right z ≢ 0)
    some_of_difference z some =
        elim (cases_eq (coefficient p left z) 0) [
          | inl none ↦
              inr (λ nothing. some (coefficient-difference p positive left right z ∙ ap₂ (sub_mod p) none nothing ∙ sub_mod-self p 0 (omega arith)))
          | inr found ↦ inl found
        ]

    -- each monomial that is left is below the least common multiple
    pub below_lcm : (z : Monomial) → coefficient p (difference p left right) z ≢ 0 → cmp low z ≡ Greater
    below_lcm z some =
        let off : z ≢ low = λ e. some (ap (coefficient p (difference p left right)) e ∙ none_at_lcm) in
        elim (some_of_difference z some) [
          | inl there ↦ one_below a c m k x first m_monomial (first_divides_lcm m n m_monomial n_monomial) z there off
          | inr there ↦ one_below b d n l y second n_monomial (second_divides_lcm m n m_monomial n_monomial) z there off
        ]
      where
        one_below : (ts : Terms) (e : ℕ) (r : Monomial) (f : ℕ) → AreTerms ts → IsLeading p cmp ts e r → IsMonomial r → Divides r low
            → (z : Monomial) → coefficient p (term_product f (mono_quotient low r) ts) z ≢ 0 → z ≢ low → cmp low z ≡ Greater
        one_below ts e r f t leads rm divides z some off =
            let q = mono_quotient low r in
            let qm : IsMonomial q = IsMonomialFrom-mono_quotient 0 low r low_monomial in
            let found = shifted_monomial p f q z ts qm t some in
            let i = found.0 in
            let at : mono_mul q r ≡ low = quotient_times low r low_monomial rm divides in
            elim (leading_at_most cmp laws p ts e r leads i found.2) [
              | inl same ↦ absurd (off (found.3 ∙ ap (mono_mul q) same ∙ at))
              | inr lower ↦
                  ap₂ cmp (sym at ∙ mono_mul_comm q r qm rm) (found.3 ∙ mono_mul_comm q i qm found.1) ∙ laws.kept r i q rm found.1 qm ∙ lower
            ]

    -- Raised to this multiple, none of them is above what no other monomial of both polynomials is above.
    pub s_polynomial_under : (u top lead : Monomial) → IsMonomial u → IsMonomial top → mono_mul low u ≡ top → IsUnder p cmp a top lead → IsUnder p cmp b top lead
        → (z : Monomial) → coefficient p (difference p left right) z ≢ 0 → cmp (mono_mul u z) lead ≢ Greater
    s_polynomial_under u top lead v w up under also z some =
        let off : z ≢ low = λ e. some (ap (coefficient p (difference p left right)) e ∙ none_at_lcm) in
        elim (some_of_difference z some) [
          | inl there ↦ one_side a c m k x first m_monomial (first_divides_lcm m n m_monomial n_monomial) u top lead v w up under z there off
          | inr there ↦ one_side b d n l y second n_monomial (second_divides_lcm m n m_monomial n_monomial) u top lead v w up also z there off
        ]
      where
        one_side : (ts : Terms) (e : ℕ) (r : Monomial) (f : ℕ) → AreTerms ts → IsLeading p cmp ts e r → IsMonomial r → Divides r low → (u top lead : Monomial) → IsMonomial u → IsMonomial top → mono_mul low u ≡ top → IsUnder p cmp ts top lead
            → (z : Monomial) → coefficient p (term_product f (mono_quotient low r) ts) z ≢ 0 → z ≢ low → cmp (mono_mul u z) lead ≢ Greater
        one_side ts e r f t leads rm divides u top lead v w up under z some off =
            let q = mono_quotient low r in
            let qm : IsMonomial q = IsMonomialFrom-mono_quotient 0 low r low_monomial in
            let found = shifted_monomial p f q z ts qm t some in
            let i = found.0 in
            let other : i ≢ r = λ is. off (found.3 ∙ ap (mono_mul q) is ∙ quotient_times low r low_monomial rm divides) in
            let raised_is : mono_mul u z ≡ mono_mul (mono_quotient top r) i =
            ap (mono_mul u) found.3 ∙ sym (mono_mul_assoc u q i v qm found.1) ∙ ap (λ s. mono_mul s i) (raised_quotient low top r u low_monomial w rm v divides up) in
            λ above. under_at ts top lead e r leads under i found.2 other (sym (ap (λ s. cmp s lead) raised_is) ∙ above)

  -- ---- the leading monomial of an S-polynomial

  -- the coefficients of this monomial in both multiples are different
  abbrev IsDifferent : Terms → Terms → Monomial → Monomial → Type 0
  IsDifferent a b top t =
      (c : ℕ) (m : Monomial) (d : ℕ) (n : Monomial) (k l : ℕ) → IsLeading p cmp a c m → IsLeading p cmp b d n → mul_mod p k c ≡ 1 → mul_mod p l d ≡ 1 → top ≡ mono_lcm m n
      → coefficient p (term_product k (mono_quotient top m) a) t ≢ coefficient p (term_product l (mono_quotient top n) b) t

  -- where one multiple has its second monomial there, and the other has no monomial there whose coefficient cancels it
  abbrev IsNotCancelled : Terms → Terms → Monomial → Monomial → Type 0
  IsNotCancelled a b top t =
      (c : ℕ) (m : Monomial) (d : ℕ) (n i : Monomial) → IsLeading p cmp a c m → IsLeading p cmp b d n → coefficient p b i ≢ 0 → i ≢ n → mono_mul (mono_quotient top n) i ≡ t
      → mul_mod p (get_or a 1 (0, [])).0 d ≢ mul_mod p (coefficient p b i) c

  not_cancelled_differs : (a b : Terms) → AreTerms a → AreTerms b → (top t : Monomial) (r : Raised) → IsRaised p cmp a top r → r.second ≡ Some t → IsNotCancelled a b top t → IsDifferent a b top t
  not_cancelled_differs a b x y top t r v is apart c m d n k l first second kc ld multiple same =
      let mm : IsMonomial m = lead_monomial p cmp a c m x first in
      let nm : IsMonomial n = lead_monomial p cmp b d n y second in
      let tm : IsMonomial top = subst IsMonomial (sym multiple) (IsMonomial-mono_lcm m n mm nm) in
      let u = (get_or a 1 (0, [])).1 in
      let e = (get_or a 1 (0, [])).0 in
      let found : IsSecond p a v.first (mono_quotient top v.first) t = subst (λ z. IfSome z (IsSecond p a v.first (mono_quotient top v.first))) is v.second in
      let m_is : v.first ≡ m = (one_leading cmp laws p a v.coefficient_first c v.first m v.leads first).1 in
      let q = mono_quotient top m in
      let qm : IsMonomial q = IsMonomialFrom-mono_quotient 0 top m tm in
      let o = mono_quotient top n in
      let om : IsMonomial o = IsMonomialFrom-mono_quotient 0 top n tm in
      let some : coefficient p a u ≢ 0 = λ none. found.1 (sym found.0 ∙ none) in
      let um : IsMonomial u = monomial_of_coefficient p a u x some in
      let at : mono_mul q u ≡ t = ap (λ z. mono_mul (mono_quotient top z) u) (sym m_is) ∙ found.3 in
      let off : u ≢ m = λ z. found.2 (z ∙ sym m_is) in
      let low : e < p = subst (λ z. z < p) found.0 (mod-lt _ positive) in
      let here : coefficient p (term_product k q a) t ≡ mul_mod p k e =
      ap (coefficient p (term_product k q a)) (sym at) ∙ coefficient-term_product p k q u a qm um x ∙ ap (mul_mod p k) found.0 in
      let there : coefficient p (term_product l o b) t ≢ 0 = λ none. inverse_keeps_some p k c e positive low kc found.1 (sym here ∙ same ∙ none) in
      let shifted = shifted_monomial p l o t b om y there in
      let i = shifted.0 in
      let divides_first : Divides m top = subst (Divides m) (sym multiple) (first_divides_lcm m n mm nm) in
      let divides_second : Divides n top = subst (Divides n) (sym multiple) (second_divides_lcm m n mm nm) in
      let other : i ≢ n = λ z. off (same_divisors top m n u i t tm mm nm um divides_first divides_second at shifted.3 z) in
      let over : coefficient p (term_product l o b) t ≡ mul_mod p l (coefficient p b i) =
      ap (coefficient p (term_product l o b)) shifted.3 ∙ coefficient-term_product p l o i b om shifted.1 y in
      apart c m d n i first second shifted.2 other (sym shifted.3)
      (cross_products p e c (coefficient p b i) d k l positive kc ld (sym here ∙ same ∙ over))

  -- the other polynomial has no second monomial
  apart_from_none : (a b : Terms) (top t : Monomial) (s : Raised) → IsRaised p cmp b top s → s.second ≡ None → IsNotCancelled a b top t
  apart_from_none a b top t s w none c m d n i first second some other at =
      let n_is : w.first ≡ n = (one_leading cmp laws p b w.coefficient_first d w.first n w.leads second).1 in
      absurd (subst (λ o. IsAtMost cmp o (mono_mul (mono_quotient top w.first) i)) none (w.others i some (λ z. other (z ∙ n_is))))

  -- its second monomial is lower
  apart_from_lower : (a b : Terms) (top t k : Monomial) (s : Raised) → IsRaised p cmp b top s → s.second ≡ Some k → cmp t k ≡ Greater → IsNotCancelled a b top t
  apart_from_lower a b top t k s w is above c m d n i first second some other at =
      let n_is : w.first ≡ n = (one_leading cmp laws p b w.coefficient_first d w.first n w.leads second).1 in
      let low : cmp (mono_mul (mono_quotient top w.first) i) k ≢ Greater =
      subst (λ o. IsAtMost cmp o (mono_mul (mono_quotient top w.first) i)) is (w.others i some (λ z. other (z ∙ n_is))) in
      absurd (low (ap (λ z. cmp z k) (ap (λ z. mono_mul (mono_quotient top z) i) n_is ∙ at) ∙ above))

  -- its second monomial is the same, with another coefficient
  apart_from_same : (a b : Terms) → AreTerms b → (top t : Monomial) → IsMonomial top → (s : Raised) → IsRaised p cmp b top s → s.second ≡ Some t → AreApart p cmp a b → IsNotCancelled a b top t
  apart_from_same a b y top t tm s w is apart c m d n i first second some other at =
      let n_is : w.first ≡ n = (one_leading cmp laws p b w.coefficient_first d w.first n w.leads second).1 in
      let found : IsSecond p b w.first (mono_quotient top w.first) t = subst (λ z. IfSome z (IsSecond p b w.first (mono_quotient top w.first))) is w.second in
      let j = (get_or b 1 (0, [])).1 in
      let o = mono_quotient top n in
      let im : IsMonomial i = monomial_of_coefficient p b i y some in
      let jm : IsMonomial j = monomial_of_coefficient p b j y (λ none. found.1 (sym found.0 ∙ none)) in
      let same : i ≡ j =
      mono_mul_cancel o i j (IsMonomialFrom-mono_quotient 0 top n tm) im jm (at ∙ sym found.3 ∙ ap (λ z. mono_mul (mono_quotient top z) j) n_is) in
      λ e. apart c m d n first second (e ∙ ap (λ z. mul_mod p z c) (ap (coefficient p b) same ∙ found.0))

  turned_different : (a b : Terms) (top t : Monomial) → AreTerms a → AreTerms b → IsDifferent b a top t → IsDifferent a b top t
  turned_different a b top t x y v c m d n k l first second kc ld multiple same =
      v d n c m l k second first ld kc
      (multiple ∙ lcm_commutes m n (lead_monomial p cmp a c m x first) (lead_monomial p cmp b d n y second)) (sym same)

  -- such a monomial leads where no other one is above it
  different_leads : (a b : Terms) → AreTerms a → AreTerms b → (top lead : Monomial) → IsUnder p cmp a top lead → IsUnder p cmp b top lead → IsLeadLcm p cmp a b top → IsDifferent a b top lead → IsLeadOfAll p cmp a b lead
  different_leads a b x y top lead under also (e, u, f, v, third, fourth, multiple) different s (c, m, d, n, first, second, k, l, kc, ld, is) =
      let mm : IsMonomial m = lead_monomial p cmp a c m x first in
      let nm : IsMonomial n = lead_monomial p cmp b d n y second in
      let low = mono_lcm m n in
      let lm : IsMonomial low = IsMonomial-mono_lcm m n mm nm in
      let top_is : top ≡ low =
      multiple ∙ ap₂ mono_lcm (one_leading cmp laws p a e c u m third first).1 (one_leading cmp laws p b f d v n fourth second).1 in
      let one = term_product k (mono_quotient low m) a in
      let two = term_product l (mono_quotient low n) b in
      let there : coefficient p one lead ≢ coefficient p two lead =
      subst (λ z. coefficient p (term_product k (mono_quotient z m) a) lead ≢ coefficient p (term_product l (mono_quotient z n) b) lead) top_is (different c m d n k l first second kc ld top_is) in
      let some : coefficient p s lead ≢ 0 = λ none.
      there (same_from_sub_mod p (coefficient p one lead) (coefficient p two lead) (mod-lt _ positive) (mod-lt _ positive)
      (sym (coefficient-difference p positive one two lead) ∙ sym (is lead) ∙ none)) in
      let below : (z : Monomial) → coefficient p s z ≢ 0 → cmp z lead ≢ Greater = λ z found.
      s_polynomial_under a b x y c d m n first second k l kc ld [] low lead tt lm (mono_mul_one low lm) (subst (λ w. IsUnder p cmp a w lead) top_is under) (subst (λ w. IsUnder p cmp b w lead) top_is also) z
      (λ none. found (is z ∙ none)) in (
        coefficient p s lead,
        (
          refl,
          some,
          λ z found off.
              elim (no_greater_by z lead (cmp z lead) refl (below z found)) [ inl same ↦ absurd (off same) | inr lower ↦ lower ],
        ),
      )

  -- what is compared of two polynomials, by the second monomial of the first one
  top_from : (a b : Terms) → AreTerms a → AreTerms b → (top lead : Monomial) → IsLeadLcm p cmp a b top → IsUnder p cmp a top lead → IsUnder p cmp b top lead → IsDifferent a b top lead → IsTop p cmp a b record { lcm = top; lead = lead }
  top_from a b x y top lead multiple under also different = record {
    multiple = multiple;
    first = under;
    second = also;
    leading = different_leads a b x y top lead under also multiple different;
  }

  pub top_first_alone : (a b : Terms) → AreTerms a → AreTerms b → (top t : Monomial) (r s : Raised) → IsLeadLcm p cmp a b top → IsRaised p cmp a top r → IsRaised p cmp b top s → r.second ≡ Some t → s.second ≡ None → IsTop p cmp a b record { lcm = top; lead = t }
  top_first_alone a b x y top t r s multiple v w is none =
      top_from a b x y top t multiple (under_second a top t t r is (no_greater_itself t t refl) v) (under_none b top t s none w)
      (not_cancelled_differs a b x y top t r v is (apart_from_none a b top t s w none))

  pub top_second_alone : (a b : Terms) → AreTerms a → AreTerms b → (top t : Monomial) (r s : Raised) → IsLeadLcm p cmp a b top → IsRaised p cmp a top r → IsRaised p cmp b top s → r.second ≡ None → s.second ≡ Some t → IsTop p cmp a b record { lcm = top; lead = t }
  top_second_alone a b x y top t r s multiple v w none is =
      top_from a b x y top t multiple (under_none a top t r none v) (under_second b top t t s is (no_greater_itself t t refl) w)
      (turned_different a b top t x y (not_cancelled_differs b a y x top t s w is (apart_from_none b a top t r v none)))

  pub top_first_above : (a b : Terms) → AreTerms a → AreTerms b → (top t k : Monomial) (r s : Raised) → IsLeadLcm p cmp a b top → IsRaised p cmp a top r → IsRaised p cmp b top s → r.second ≡ Some t → s.second ≡ Some k → cmp t k ≡ Greater → IsTop p cmp a b record { lcm = top; lead = t }
  top_first_above a b x y top t k r s multiple v w is are above =
      top_from a b x y top t multiple (under_second a top t t r is (no_greater_itself t t refl) v) (under_second b top t k s are (not_both t k above) w)
      (not_cancelled_differs a b x y top t r v is (apart_from_lower a b top t k s w are above))

  pub top_second_above : (a b : Terms) → AreTerms a → AreTerms b → (top t k : Monomial) (r s : Raised) → IsLeadLcm p cmp a b top → IsRaised p cmp a top r → IsRaised p cmp b top s → r.second ≡ Some k → s.second ≡ Some t → cmp k t ≡ Less → IsTop p cmp a b record { lcm = top; lead = t }
  top_second_above a b x y top t k r s multiple v w are is below =
      let above : cmp t k ≡ Greater = turned cmp laws k t below in
      top_from a b x y top t multiple (under_second a top t k r are (not_both t k above) v) (under_second b top t t s is (no_greater_itself t t refl) w)
      (turned_different a b top t x y (not_cancelled_differs b a y x top t s w is (apart_from_lower b a top t k r v are above)))

  pub top_of_both : (a b : Terms) → AreTerms a → AreTerms b → (top t k : Monomial) (r s : Raised) → IsLeadLcm p cmp a b top → IsRaised p cmp a top r → IsRaised p cmp b top s → r.second ≡ Some t → s.second ≡ Some k → cmp t k ≡ Equal → AreApart p cmp a b → IsTop p cmp a b record { lcm = top; lead = t }
  top_of_both a b x y top t k r s multiple v w is are tied apart =
      let same : k ≡ t = sym (laws.exact t k tied) in
      let also : s.second ≡ Some t = are ∙ ap (λ z. Some z) same in
      let tm : IsMonomial top =
      subst IsMonomial (sym multiple.6) (IsMonomial-mono_lcm multiple.1 multiple.3 (lead_monomial p cmp a multiple.0 multiple.1 x multiple.4) (lead_monomial p cmp b multiple.2 multiple.3 y multiple.5)) in
      top_from a b x y top t multiple (under_second a top t t r is (no_greater_itself t t refl) v) (under_second b top t t s also (no_greater_itself t t refl) w)
      (not_cancelled_differs a b x y top t r v is (apart_from_same a b y top t tm s w also apart))
