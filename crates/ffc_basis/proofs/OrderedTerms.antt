-- What the list of an ordered polynomial says of its coefficients.
use Rattle.std.proofs.Common.{◌≡◌, ◌≢◌, ℕ, zero, suc, get_or, ◌+◌, ◌%◌, ◌<◌, List, [], ◌∷◌, length, refl, sym, ap, ◌∙◌, inl, inr, arith, mod-eq_of_lt}
use Rattle.std.proofs.Math.Nat.{zero-mod}
use Rattle.std.specs.declared.cmp.Ordering.{Ordering}
use Rattle.std.specs.declared.cmp.Ordering.TheVariants.{Greater}
use Rattle.ffc_ring.specs.Monomial.{Monomial}
use Rattle.ffc_ring.specs.Polynomial.{Terms, AreTerms, written, coefficient, SamePolynomial, scaled, AreItsMonomials, PassesTerms}
use Rattle.ffc_ring.proofs.PolynomialLemmas.{written-at, written-off, cases_monomial}
use Rattle.ffc_mono.specs.MonomialOrder.{IsMonomialOrder}
use Rattle.ffc_mono.specs.Leading.{IsLeading}
use Rattle.ffc_mono.proofs.LeadingLemmas.{not_itself}
use Rattle.ffc_poly.specs.Ordered.{IsAbove, IsOrdered}
use Rattle.ffc_line.specs.Lines.{Parts, AreTermLists, ArePolynomials}

pub AreTerms-ordered : (p : ℕ) (cmp : Monomial → Monomial → Ordering) (limit : ℕ) (ts : Terms) → IsOrdered p cmp limit ts → AreTerms ts
AreTerms-ordered p cmp limit [] h = tt
AreTerms-ordered p cmp limit (t ∷ ts) h = (h.2, AreTerms-ordered p cmp limit ts h.5)

pub AreTerms-scaled : (c : ℕ) (ts : Terms) → AreTerms ts → AreTerms (scaled c ts)
AreTerms-scaled c [] v = tt
AreTerms-scaled c (t ∷ ts) v = (v.0, AreTerms-scaled c ts v.1)

-- polynomials are lists of terms
pub lists_of_polynomials : (p : ℕ) (cmp : Monomial → Monomial → Ordering) (ts : Parts) → ArePolynomials p cmp ts → AreTermLists ts
lists_of_polynomials p cmp [] v = tt
lists_of_polynomials p cmp (t ∷ ts) v = (AreTerms-ordered p cmp 1024 t.1 v.0.0, lists_of_polynomials p cmp ts v.2)

pub coefficient-none : (p : ℕ) (m : Monomial) → coefficient p [] m ≡ 0
coefficient-none p m = zero-mod p

pub coefficient-other : (p : ℕ) (t : ℕ × Monomial) (ts : Terms) (m : Monomial) → t.1 ≢ m → coefficient p (t ∷ ts) m ≡ coefficient p ts m
coefficient-other p t ts m ne = ap (λ k. k % p) (written-off m t ts ne)

pub IsOrdered-at : (p : ℕ) (cmp : Monomial → Monomial → Ordering) (limit : ℕ) (a : Terms) (i : ℕ) → IsOrdered p cmp limit a → i < length a → (0 < (get_or a i (0, [])).0) × ((get_or a i (0, [])).0 < p)
IsOrdered-at p cmp limit [] i h g = absurd (omega arith)
IsOrdered-at p cmp limit (t ∷ a) zero h g = (h.0, h.1)
IsOrdered-at p cmp limit (t ∷ a) (suc i) h g = IsOrdered-at p cmp limit a i h.5 (omega arith)

AreItsMonomials-same : (p : ℕ) (ts us : Terms) → SamePolynomial p ts us → (ms : List Monomial) → AreItsMonomials p ts ms → AreItsMonomials p us ms
AreItsMonomials-same p ts us same [] d = tt
AreItsMonomials-same p ts us same (m ∷ ms) d = ((λ e. d.0 (same m ∙ e)), d.1, AreItsMonomials-same p ts us same ms d.2)

pub PassesTerms-same : (p limit : ℕ) (ts us : Terms) → SamePolynomial p ts us → PassesTerms p limit ts → PassesTerms p limit us
PassesTerms-same p limit ts us same (ms, long, d) = (ms, long, AreItsMonomials-same p ts us same ms d)

module _ (p : ℕ) (cmp : Monomial → Monomial → Ordering) (laws : IsMonomialOrder cmp) (limit : ℕ) where
  pub coefficient-above : (m : Monomial) (ts : Terms) → IsAbove cmp m ts → coefficient p ts m ≡ 0
  coefficient-above m [] h = coefficient-none p m
  coefficient-above m (t ∷ ts) h =
      coefficient-other p t ts m (λ e. not_itself cmp laws m t.1 h.0 (sym e)) ∙ coefficient-above m ts h.1

  written-above : (m : Monomial) (ts : Terms) → IsAbove cmp m ts → written ts m ≡ 0
  written-above m [] h = refl
  written-above m (t ∷ ts) h = written-off m t ts (λ e. not_itself cmp laws m t.1 h.0 (sym e)) ∙ written-above m ts h.1

  pub coefficient-first : (t : ℕ × Monomial) (ts : Terms) → IsOrdered p cmp limit (t ∷ ts) → coefficient p (t ∷ ts) t.1 ≡ t.0
  coefficient-first t ts h =
      ap (λ k. k % p) (written-at t.1 t ts refl ∙ ap (λ k. t.0 + k) (written-above t.1 ts h.4) ∙ omega arith) ∙ mod-eq_of_lt h.1

  pub first_nonzero : (t : ℕ × Monomial) (ts : Terms) → IsOrdered p cmp limit (t ∷ ts) → coefficient p (t ∷ ts) t.1 ≢ 0
  first_nonzero t ts h e = omega (arith, coefficient-first t ts h, h.0)

  pub above_with : (m : Monomial) (ts : Terms) → IsAbove cmp m ts → (n : Monomial) → coefficient p ts n ≢ 0 → cmp m n ≡ Greater
  above_with m [] h n ne = absurd (ne (coefficient-none p n))
  above_with m (t ∷ ts) h n ne =
      elim (cases_monomial t.1 n) [
        | inl here ↦ ap (cmp m) (sym here) ∙ h.0
        | inr there ↦ above_with m ts h.1 n (λ e. ne (coefficient-other p t ts n there ∙ e))
      ]

  pub IsLeading-first : (t : ℕ × Monomial) (ts : Terms) → IsOrdered p cmp limit (t ∷ ts) → IsLeading p cmp (t ∷ ts) t.0 t.1
  IsLeading-first t ts h = (
    coefficient-first t ts h,
    (λ e. omega (arith, h.0)),
    λ n ne off. above_with t.1 ts h.4 n (λ e. ne (coefficient-other p t ts n (λ k. off (sym k)) ∙ e)),
  )
