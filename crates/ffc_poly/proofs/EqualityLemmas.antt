-- Equal polynomials, and the one ordered list of each.
use Rattle.std.proofs.Common.{◌≡◌, ◌≢◌, ℕ, Bool, true, false, not, true≢false, [], ◌∷◌, refl, sym, ap, ap₂, ◌∙◌, subst, inl, inr, eqb-true, eq-eqb}
use Rattle.std.proofs.lemmas.Bool.{and_parts, and_from}
use Rattle.std.specs.Bool.{Decides}
use Rattle.std.specs.Cmp.Lexicographic.{pointwise_decides}
use Rattle.std.specs.declared.cmp.Ordering.{Ordering}
use Rattle.std.specs.declared.cmp.Ordering.TheVariants.{Greater}
use Rattle.ffc_ring.specs.Monomial.{Monomial, same_monomial}
use Rattle.ffc_ring.specs.Polynomial.{Terms, coefficient, SamePolynomial}
use Rattle.ffc_ring.proofs.PolynomialLemmas.{cases_monomial, same_monomial-true, same_monomial-equal, same_monomial-self}
use Rattle.ffc_mono.specs.MonomialOrder.{IsMonomialOrder}
use Rattle.ffc_poly.specs.Ordered.{IsOrdered}
use Rattle.ffc_poly.specs.Equality.{same_term, same_terms}
use Rattle.ffc_poly.proofs.Coefficients.{coefficient-none, coefficient-other, coefficient-above, coefficient-first, first_nonzero, not_itself, IsLeading-first}
use Rattle.ffc_poly.proofs.Merging.{greater_trans}

-- ---- the test

same_term-decides : (s t : ℕ × Monomial) → (same_term s t ≡ true → s ≡ t) × (s ≡ t → same_term s t ≡ true)
same_term-decides s t = (
  (λ h. let both = and_parts _ _ h in ap₂ (λ (k : ℕ) (m : Monomial). (k, m)) (eqb-true s.0 t.0 both.0) (same_monomial-true s.1 t.1 both.1)),
  λ e. subst (λ r. same_term s r ≡ true) e (and_from _ _ (eq-eqb s.0 s.0 refl) (same_monomial-self s.1)),
)

pub same_terms-decides : (a b : Terms) → Decides (same_terms a b) (a ≡ b)
same_terms-decides = pointwise_decides same_term-decides

-- ---- one list

module _ (p : ℕ) (cmp : Monomial → Monomial → Ordering) (laws : IsMonomialOrder cmp) (limit : ℕ) where
  rest_is_same : (s t : ℕ × Monomial) (a b : Terms) → IsOrdered p cmp limit (s ∷ a) → IsOrdered p cmp limit (t ∷ b) → s.1 ≡ t.1 → SamePolynomial p (s ∷ a) (t ∷ b) → SamePolynomial p a b
  rest_is_same s t a b h g here same n =
      elim (cases_monomial s.1 n) [
        | inl first ↦
            let none : coefficient p a n ≡ 0 = subst (λ m. coefficient p a m ≡ 0) first (coefficient-above p cmp laws limit s.1 a h.4) in
            let other : coefficient p b n ≡ 0 = subst (λ m. coefficient p b m ≡ 0) (sym here ∙ first) (coefficient-above p cmp laws limit t.1 b g.4) in
            none ∙ sym other
        | inr off ↦ sym (coefficient-other p s a n off) ∙ same n ∙ coefficient-other p t b n (λ e. off (here ∙ e))
      ]

  leads_above : (s t : ℕ × Monomial) (a b : Terms) → IsOrdered p cmp limit (s ∷ a) → IsOrdered p cmp limit (t ∷ b) → s.1 ≢ t.1 → SamePolynomial p (s ∷ a) (t ∷ b) → cmp s.1 t.1 ≡ Greater
  leads_above s t a b h g apart same =
      (IsLeading-first p cmp laws limit s a h).2 t.1 (λ e. first_nonzero p cmp laws limit t b g (sym (same t.1) ∙ e)) (λ e. apart (sym e))

  -- a polynomial has one ordered list
  pub one_list : (a b : Terms) → IsOrdered p cmp limit a → IsOrdered p cmp limit b → SamePolynomial p a b → a ≡ b
  one_list [] [] h g same = refl
  one_list [] (t ∷ b) h g same = absurd (first_nonzero p cmp laws limit t b g (sym (same t.1) ∙ coefficient-none p t.1))
  one_list (s ∷ a) [] h g same = absurd (first_nonzero p cmp laws limit s a h (same s.1 ∙ coefficient-none p s.1))
  one_list (s ∷ a) (t ∷ b) h g same =
      elim (cases_monomial s.1 t.1) [
        | inl here ↦
            let first : s.0 ≡ t.0 =
            sym (coefficient-first p cmp laws limit s a h) ∙ same s.1 ∙ ap (coefficient p (t ∷ b)) here ∙ coefficient-first p cmp laws limit t b g in
            ap₂ (λ (r : ℕ × Monomial) (rest : Terms). r ∷ rest) (ap₂ (λ (k : ℕ) (m : Monomial). (k, m)) first here) (one_list a b h.5 g.5 (rest_is_same s t a b h g here same))
        | inr apart ↦
            absurd (not_itself p cmp laws limit s.1 s.1
            (greater_trans cmp laws s.1 t.1 s.1 (leads_above s t a b h g apart same) (leads_above t s b a g h (λ e. apart (sym e)) (λ n. sym (same n)))) refl)
      ]

-- what the test for different monomials says
pub monomials_differ : (m n : Monomial) → true ≡ not (same_monomial m n) → m ≡ n → ⊥
monomials_differ m n h e = true≢false (h ∙ ap not (same_monomial-equal m n e))

not_false : (b : Bool) → false ≡ not b → b ≡ true
not_false true h = refl
not_false false h = absurd (true≢false (sym h))

pub monomials_agree : (m n : Monomial) → false ≡ not (same_monomial m n) → m ≡ n
monomials_agree m n h = same_monomial-true m n (not_false (same_monomial m n) h)
