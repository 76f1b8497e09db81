-- The first of ordered terms leads.
use Rattle.std.proofs.Common.{◌≡◌, ◌≢◌, ℕ, ◌+◌, ◌%◌, List, [], ◌∷◌, inl, inr, refl, sym, ap, ◌∙◌, arith, mod-eq_of_lt}
use Rattle.std.proofs.Math.Nat.{zero-mod}
use Rattle.std.specs.declared.cmp.Ordering.{Ordering}
use Rattle.std.specs.declared.cmp.Ordering.TheVariants.{Greater}
use Rattle.ffc_ring.specs.Monomial.{Monomial}
use Rattle.ffc_ring.specs.Polynomial.{Terms, written, coefficient}
use Rattle.ffc_ring.proofs.PolynomialLemmas.{written-at, written-off, cases_monomial}
use Rattle.ffc_mono.specs.MonomialOrder.{IsMonomialOrder}
use Rattle.ffc_mono.specs.Leading.{IsLeading}
use Rattle.ffc_mono.proofs.LeadingLemmas.{not_itself}
use Rattle.ffc_poly.specs.Ordered.{IsAbove, IsOrdered}

module _ (p : ℕ) (cmp : Monomial → Monomial → Ordering) (laws : IsMonomialOrder cmp) where
  written_above : (m : Monomial) (ts : Terms) → IsAbove cmp m ts → written ts m ≡ 0
  written_above m [] h = refl
  written_above m (t ∷ ts) h = written-off m t ts (λ e. not_itself cmp laws m t.1 h.0 (sym e)) ∙ written_above m ts h.1

  some_after : (m : Monomial) (ts : Terms) → IsAbove cmp m ts → (n : Monomial) → coefficient p ts n ≢ 0 → cmp m n ≡ Greater
  some_after m [] h n some = absurd (some (zero-mod p))
  some_after m (t ∷ ts) h n some =
      elim (cases_monomial t.1 n) [
        | inl here ↦ ap (cmp m) (sym here) ∙ h.0
        | inr there ↦ some_after m ts h.1 n (λ none. some (ap (λ k. k % p) (written-off n t ts there) ∙ none))
      ]

  pub first_leads : (limit : ℕ) (t : ℕ × Monomial) (ts : Terms) → IsOrdered p cmp limit (t ∷ ts) → IsLeading p cmp (t ∷ ts) t.0 t.1
  first_leads limit t ts h = (
    ap (λ k. k % p) (written-at t.1 t ts refl ∙ ap (λ k. t.0 + k) (written_above t.1 ts h.4) ∙ omega arith) ∙ mod-eq_of_lt h.1,
    (λ none. omega (arith, h.0)),
    λ n some off. some_after t.1 ts h.4 n (λ none. some (ap (λ k. k % p) (written-off n t ts (λ same. off (sym same))) ∙ none)),
  )
