-- The tests for products that pass the limit on degrees, by the greatest degrees of both factors.
use Rattle.std.proofs.Common.{◌≡◌, ◌≢◌, ℕ, ◌+◌, ◌<◌, ◌≤◌, ◌↔◌, true, false, [], ◌∷◌, sym, ◌∙◌, arith, inl, inr, true≢false, nat_lt}
use Rattle.std.proofs.lemmas.Bool.{cases_lt, ltb-true, lt-ltb}
use Rattle.std.specs.declared.cmp.Ordering.{Ordering}
use Rattle.ffc_ring.specs.Monomial.{Monomial, degree}
use Rattle.ffc_ring.specs.Polynomial.{Terms, PassesDegree}
use Rattle.ffc_mono.specs.MonomialOrder.{IsMonomialOrder}
use Rattle.ffc_poly.specs.Ordered.{IsOrdered, AreWithin, HasDegree, RowFits, ProductFits}
use Rattle.ffc_poly.proofs.Coefficients.{PassesDegree-within, PassesDegree-reached, PassesDegree-reached_term, RowFits-within, ProductFits-within}

module _ (p : ℕ) (cmp : Monomial → Monomial → Ordering) (laws : IsMonomialOrder cmp) (limit : ℕ) where
  -- a product of c*m and some term passes the limit where the degree of m and the greatest of the terms do, and else all fit
  pub multiple_passes : (c : ℕ) (m : Monomial) (d e : ℕ) (ts : Terms) → c ≢ 0 → c < p → IsOrdered p cmp limit ts → d ≡ degree m → d ≤ limit → AreWithin e ts → (0 < e → HasDegree e ts) → (nat_lt limit (d + e) ≡ true ↔ PassesDegree p limit ((c, m) ∷ []) ts) × (nat_lt limit (d + e) ≡ false → RowFits limit m ts)
  multiple_passes c m d e ts c_is c_below ordered d_is d_low within reached =
      elim (cases_lt limit (d + e)) [
        | inl over ↦ (
          (λ _. PassesDegree-reached_term p cmp laws limit limit c m e ts c_is c_below ordered (reached (omega arith)) (omega arith), λ _. lt-ltb limit (d + e) over),
          λ test. absurd (true≢false (sym (lt-ltb limit (d + e) over) ∙ test)),
        )
        | inr low ↦ (
          (λ test. absurd (omega (arith, ltb-true limit (d + e) test)), λ passes. absurd (PassesDegree-within p limit d e ((c, m) ∷ []) ts (omega arith, tt) within low passes)),
          λ _. RowFits-within limit e m ts within (omega arith),
        )
      ]

  -- a product of two terms passes the limit where the greatest degrees do, and else all fit
  pub product_passes : (d e : ℕ) (a b : Terms) → IsOrdered p cmp limit a → IsOrdered p cmp limit b → d ≤ limit → e ≤ limit → AreWithin d a → (0 < d → HasDegree d a) → AreWithin e b → (0 < e → HasDegree e b) → (nat_lt limit (d + e) ≡ true ↔ PassesDegree p limit a b) × (nat_lt limit (d + e) ≡ false → ProductFits limit a b)
  product_passes d e a b a_is b_is d_low e_low a_within a_reached b_within b_reached =
      elim (cases_lt limit (d + e)) [
        | inl over ↦ (
          (λ _. PassesDegree-reached p cmp laws limit limit d e a b a_is b_is (a_reached (omega arith)) (b_reached (omega arith)) over, λ _. lt-ltb limit (d + e) over),
          λ test. absurd (true≢false (sym (lt-ltb limit (d + e) over) ∙ test)),
        )
        | inr low ↦ (
          (λ test. absurd (omega (arith, ltb-true limit (d + e) test)), λ passes. absurd (PassesDegree-within p limit d e a b a_within b_within low passes)),
          λ _. ProductFits-within limit d e a b a_within b_within low,
        )
      ]
