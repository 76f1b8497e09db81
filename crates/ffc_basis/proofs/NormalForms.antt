-- Each polynomial is the sum of terms with different monomials and coefficients other than 0. The greatest of them leads.
use Rattle.std.proofs.Common.{◌≡◌, ◌≢◌, ◌⊎◌, ℕ, zero, suc, ◌+◌, ◌%◌, ◌≤◌, [], ◌∷◌, length, refl, sym, ap, ◌∙◌, inl, inr, arith}
use Rattle.std.proofs.Math.Nat.{zero-mod, mod-mod}
use Rattle.std.proofs.lemmas.Bool.{cond-true, cond-false, cases_eq}
use Rattle.std.specs.List.{AllByRecursion}
use Rattle.std.specs.declared.cmp.Ordering.{Ordering}
use Rattle.ffc_ring.specs.Monomial.{Monomial, IsMonomial}
use Rattle.ffc_ring.specs.Polynomial.{Terms, AreTerms, written, coefficient, SamePolynomial}
use Rattle.ffc_ring.proofs.PolynomialLemmas.{without, written-at, written-off, written-without_at, written-without_off, coefficient-without, sum_alike, cases_monomial, same_monomial-equal, same_monomial-other}
use Rattle.ffc_mono.specs.MonomialOrder.{IsMonomialOrder}
use Rattle.ffc_mono.specs.Leading.{IsLeading}
use Rattle.ffc_basis.proofs.OrderedTerms.{coefficient-none, coefficient-other}
use Rattle.ffc_basis.proofs.Greatest.{IsUpTo, greatest}
use Rattle.ffc_basis.proofs.Each.{each_weaker}

-- ---- the terms of one monomial taken out

without-here : (m : Monomial) (t : ℕ × Monomial) (ts : Terms) → t.1 ≡ m → without m (t ∷ ts) ≡ without m ts
without-here m t ts e = cond-true _ _ _ (same_monomial-equal t.1 m e)

without-there : (m : Monomial) (t : ℕ × Monomial) (ts : Terms) → t.1 ≢ m → without m (t ∷ ts) ≡ t ∷ without m ts
without-there m t ts e = cond-false _ _ _ (same_monomial-other t.1 m e)

no_longer : (m : Monomial) (ts : Terms) → length (without m ts) ≤ length ts
no_longer m [] = omega arith
no_longer m (t ∷ ts) =
    elim (cases_monomial t.1 m) [
      | inl here ↦ rw (without-here m t ts here) (omega (arith, no_longer m ts))
      | inr there ↦ rw (without-there m t ts there) (omega (arith, no_longer m ts))
    ]

still_terms : (m : Monomial) (ts : Terms) → AreTerms ts → AreTerms (without m ts)
still_terms m [] v = tt
still_terms m (t ∷ ts) v =
    elim (cases_monomial t.1 m) [
      | inl here ↦ rw (without-here m t ts here) (still_terms m ts v.1)
      | inr there ↦ rw (without-there m t ts there) (v.0, still_terms m ts v.1)
    ]

module _ (p : ℕ) where
  none_left : (m : Monomial) (ts us : Terms) → SamePolynomial p (without m ts) us → coefficient p us m ≡ 0
  none_left m ts us same = sym (same m) ∙ ap (λ k. k % p) (written-without_at m ts) ∙ zero-mod p

  others_left : (m : Monomial) (ts us : Terms) → SamePolynomial p (without m ts) us → (x : Monomial) → m ≢ x → coefficient p ts x ≡ coefficient p us x
  others_left m ts us same x apart = ap (λ k. k % p) (sym (written-without_off m x ts apart)) ∙ same x

  -- a monomial without a coefficient may be taken out
  taken_out : (m : Monomial) (ts us : Terms) → coefficient p ts m ≡ 0 → SamePolynomial p (without m ts) us → SamePolynomial p ts us
  taken_out m ts us none same x =
      elim (cases_monomial m x) [
        | inl here ↦
            ap (coefficient p ts) (sym here) ∙ none ∙ sym (none_left m ts us same) ∙ ap (coefficient p us) here
        | inr there ↦ others_left m ts us same x there
      ]

  -- a monomial with its coefficient may be written first
  written_first : (m : Monomial) (ts us : Terms) → SamePolynomial p (without m ts) us → SamePolynomial p ts ((coefficient p ts m, m) ∷ us)
  written_first m ts us same x =
      let c = coefficient p ts m in
      elim (cases_monomial m x) [
        | inl here ↦
            let nothing : written us x % p ≡ 0 % p = ap (coefficient p us) (sym here) ∙ none_left m ts us same ∙ sym (zero-mod p) in
            ap (coefficient p ts) (sym here) ∙ ap (λ k. k % p) (let none : written ts m ≡ written ts m + 0 = omega arith in none)
            ∙ sum_alike p (written ts m) c 0 (written us x) (sym (mod-mod (written ts m) p)) (sym nothing)
            ∙ ap (λ k. k % p) (sym (written-at x (c, m) us here))
        | inr there ↦ others_left m ts us same x there ∙ sym (ap (λ k. k % p) (written-off x (c, m) us there))
      ]

  -- ---- the normal form

  -- the polynomial has this monomial
  abbrev pub IsSome : Terms → (ℕ × Monomial) → Type 0
  IsSome ts u = coefficient p ts u.1 ≢ 0

  abbrev HasNormalForm : Terms → Type 0
  HasNormalForm ts = (us : Terms) × AreTerms us × SamePolynomial p ts us × AllByRecursion (IsSome ts) us

  next_form : (t : ℕ × Monomial) (ts : Terms) → IsMonomial t.1 → HasNormalForm (without t.1 (t ∷ ts)) → HasNormalForm (t ∷ ts)
  next_form t ts v (us, w, same, some) =
      let all = t ∷ ts in
      let still : AllByRecursion (IsSome all) us =
      each_weaker (IsSome (without t.1 all)) (IsSome all) (λ u found. (coefficient-without p t.1 u.1 all found).1) us some in
      elim (cases_eq (coefficient p all t.1) 0) [
        | inl none ↦ (us, w, taken_out t.1 all us none same, still)
        | inr found ↦ ((coefficient p all t.1, t.1) ∷ us, (v, w), written_first t.1 all us same, (found, still))
      ]

  normal_form_within : (bound : ℕ) (ts : Terms) → length ts ≤ bound → AreTerms ts → HasNormalForm ts
  normal_form_within bound [] h v = ([], tt, (λ m. refl), tt)
  normal_form_within zero (t ∷ ts) h v = absurd (omega arith)
  normal_form_within (suc bound) (t ∷ ts) h v =
      let shorter : length (without t.1 (t ∷ ts)) ≤ bound = rw (without-here t.1 t ts refl) (omega (arith, no_longer t.1 ts)) in
      next_form t ts v.0 (normal_form_within bound (without t.1 (t ∷ ts)) shorter (still_terms t.1 (t ∷ ts) v))

  pub normal_form : (ts : Terms) → AreTerms ts → (us : Terms) × AreTerms us × SamePolynomial p ts us × AllByRecursion (IsSome ts) us
  normal_form ts v = normal_form_within (length ts) ts (omega arith) v

-- ---- the leading term

module _ (cmp : Monomial → Monomial → Ordering) (laws : IsMonomialOrder cmp) (p : ℕ) where
  -- a monomial with a coefficient is written
  up_to_written : (m : Monomial) (us : Terms) (n : Monomial) → AllByRecursion (λ u. IsUpTo cmp m u.1) us → coefficient p us n ≢ 0 → IsUpTo cmp m n
  up_to_written m [] n all some = absurd (some (coefficient-none p n))
  up_to_written m (u ∷ us) n all some =
      elim (cases_monomial u.1 n) [
        | inl here ↦ rw (sym here) all.0
        | inr there ↦ up_to_written m us n all.1 (λ none. some (coefficient-other p u us n there ∙ none))
      ]

  leading_by_form : (ts us : Terms) → SamePolynomial p ts us → AllByRecursion (IsSome p ts) us → ((c : ℕ) × (m : Monomial) × IsLeading p cmp ts c m) ⊎ ((m : Monomial) → coefficient p ts m ≡ 0)
  leading_by_form ts [] same some = inr (λ m. same m ∙ coefficient-none p m)
  leading_by_form ts (u ∷ us) same some =
      let first = greatest cmp laws (λ t. t.1) (IsSome p ts) u us some.0 some.1 in
      let m = first.0.1 in
      inl (
        coefficient p ts m,
        m,
        (
          refl,
          first.1,
          λ n found off.
              elim (up_to_written m (u ∷ us) n first.2 (λ none. found (same n ∙ none))) [
                | inl is ↦ absurd (off is)
                | inr below ↦ below
              ],
        ),
      )

  pub leading_or_zero : (ts : Terms) → AreTerms ts → ((c : ℕ) × (m : Monomial) × IsLeading p cmp ts c m) ⊎ ((m : Monomial) → coefficient p ts m ≡ 0)
  leading_or_zero ts v =
      let form = normal_form p ts v in leading_by_form ts form.0 form.2 form.3
