-- One merge of two lists of terms in strictly decreasing order: a + c*b.
use Rattle.std.proofs.Common.{◌≡◌, ◌≢◌, ℕ, ◌+◌, ◌*◌, ◌%◌, ◌<◌, ◌≤◌, [], ◌∷◌, ◌++◌, refl, sym, ap, ◌∙◌, subst, inl, inr, arith, mod-lt, pos_of_ne-zero, mul_assoc, mul-add, add-mul, eq-eqb, ne_eqb}
use Rattle.std.proofs.lemmas.Nat.{mul-mod_first}
use Rattle.std.proofs.lemmas.Bool.{cases_eq}
use Rattle.std.specs.Ordering.{ordering_reverse, match_ordering}
use Rattle.std.specs.declared.cmp.Ordering.{Ordering}
use Rattle.std.specs.declared.cmp.Ordering.TheVariants.{Less, Equal, Greater}
use Rattle.ffc_field.specs.Modular.{add_mod, mul_mod, IsPrime}
use Rattle.ffc_field.proofs.Primes.{no_zero_product}
use Rattle.ffc_ring.specs.Monomial.{Monomial, IsMonomial, degree}
use Rattle.ffc_ring.specs.Polynomial.{Terms, SamePolynomial, scaled}
use Rattle.ffc_ring.proofs.PolynomialLemmas.{weighted, weighted-append, weighted-term_product, SamePolynomial-from_weighted, sum_alike}
use Rattle.ffc_mono.specs.MonomialOrder.{IsMonomialOrder}
use Rattle.ffc_poly.specs.Ordered.{IsAbove, IsOrdered, multiplied, kept}

module _ (p : ℕ) (cmp : Monomial → Monomial → Ordering) (c : ℕ) where
  -- s and what is after it, merged with c times the terms of b, where `rest` merges what is after s
  abbrev pub merged_with : (ℕ × Monomial) → Terms → (Terms → Terms) → Terms → Terms
  merged_with s a rest [] = s ∷ a
  merged_with s a rest (t ∷ b) =
      match_ordering (cmp s.1 t.1)
      ((mul_mod p c t.0, t.1) ∷ merged_with s a rest b)
      (kept (add_mod p s.0 (mul_mod p c t.0)) s.1 (rest b))
      (s ∷ rest (t ∷ b))

  abbrev pub merged : Terms → Terms → Terms
  merged [] b = multiplied p c b
  merged (s ∷ a) b = merged_with s a (merged a) b

-- ---- steps

module _ (p : ℕ) (cmp : Monomial → Monomial → Ordering) (c : ℕ) (s t : ℕ × Monomial) (a b : Terms) where
  pub merged-less : cmp s.1 t.1 ≡ Less → merged p cmp c (s ∷ a) (t ∷ b) ≡ (mul_mod p c t.0, t.1) ∷ merged p cmp c (s ∷ a) b
  merged-less e = ap (λ o. match_ordering o ((mul_mod p c t.0, t.1) ∷ merged p cmp c (s ∷ a) b) (kept (add_mod p s.0 (mul_mod p c t.0)) s.1 (merged p cmp c a b)) (s ∷ merged p cmp c a (t ∷ b))) e

  pub merged-equal : cmp s.1 t.1 ≡ Equal → merged p cmp c (s ∷ a) (t ∷ b) ≡ kept (add_mod p s.0 (mul_mod p c t.0)) s.1 (merged p cmp c a b)
  merged-equal e = ap (λ o. match_ordering o ((mul_mod p c t.0, t.1) ∷ merged p cmp c (s ∷ a) b) (kept (add_mod p s.0 (mul_mod p c t.0)) s.1 (merged p cmp c a b)) (s ∷ merged p cmp c a (t ∷ b))) e

  pub merged-greater : cmp s.1 t.1 ≡ Greater → merged p cmp c (s ∷ a) (t ∷ b) ≡ s ∷ merged p cmp c a (t ∷ b)
  merged-greater e = ap (λ o. match_ordering o ((mul_mod p c t.0, t.1) ∷ merged p cmp c (s ∷ a) b) (kept (add_mod p s.0 (mul_mod p c t.0)) s.1 (merged p cmp c a b)) (s ∷ merged p cmp c a (t ∷ b))) e

-- at an end
pub merged-end : (p : ℕ) (cmp : Monomial → Monomial → Ordering) (c : ℕ) (a : Terms) → merged p cmp c a [] ≡ a
merged-end p cmp c [] = refl
merged-end p cmp c (s ∷ a) = refl

-- ---- the order

module _ (cmp : Monomial → Monomial → Ordering) (laws : IsMonomialOrder cmp) where
  pub turned : (m n : Monomial) → cmp m n ≡ Less → cmp n m ≡ Greater
  turned m n e = laws.total.antisymm n m ∙ ap ordering_reverse e

  pub turned_back : (m n : Monomial) → cmp m n ≡ Greater → cmp n m ≡ Less
  turned_back m n e = laws.total.antisymm n m ∙ ap ordering_reverse e

  pub greater_trans : (m n k : Monomial) → cmp m n ≡ Greater → cmp n k ≡ Greater → cmp m k ≡ Greater
  greater_trans m n k e f = turned k m (laws.total.trans k n m (turned_back n k f) (turned_back m n e))

  pub IsAbove-trans : (m n : Monomial) (ts : Terms) → cmp m n ≡ Greater → IsAbove cmp n ts → IsAbove cmp m ts
  IsAbove-trans m n [] e h = tt
  IsAbove-trans m n (t ∷ ts) e h = (greater_trans m n t.1 e h.0, IsAbove-trans m n ts e h.1)

pub IsAbove-kept : (cmp : Monomial → Monomial → Ordering) (m : Monomial) (k : ℕ) (n : Monomial) (ts : Terms) → cmp m n ≡ Greater → IsAbove cmp m ts → IsAbove cmp m (kept k n ts)
IsAbove-kept cmp m k n ts e h =
    elim (cases_eq k 0) [
      | inl zero_k ↦ rw (eq-eqb k 0 zero_k) h
      | inr other ↦ rw (ne_eqb k 0 other) (e, h)
    ]

pub IsAbove-multiplied : (p : ℕ) (cmp : Monomial → Monomial → Ordering) (c : ℕ) (m : Monomial) (ts : Terms) → IsAbove cmp m ts → IsAbove cmp m (multiplied p c ts)
IsAbove-multiplied p cmp c m [] h = tt
IsAbove-multiplied p cmp c m (t ∷ ts) h = (h.0, IsAbove-multiplied p cmp c m ts h.1)

module _ (p : ℕ) (cmp : Monomial → Monomial → Ordering) (c : ℕ) (m : Monomial) where
  above_cases : (o : Ordering) (x y z : Terms) → IsAbove cmp m x → IsAbove cmp m y → IsAbove cmp m z → IsAbove cmp m (match_ordering o x y z)
  above_cases Less x y z h g k = h
  above_cases Equal x y z h g k = g
  above_cases Greater x y z h g k = k

  IsAbove-merged_with : (s : ℕ × Monomial) (a : Terms) (rest : Terms → Terms) → ((b : Terms) → IsAbove cmp m b → IsAbove cmp m (rest b)) → cmp m s.1 ≡ Greater → IsAbove cmp m a → (b : Terms) → IsAbove cmp m b → IsAbove cmp m (merged_with p cmp c s a rest b)
  IsAbove-merged_with s a rest ih e h [] g = (e, h)
  IsAbove-merged_with s a rest ih e h (t ∷ b) g =
      above_cases (cmp s.1 t.1) _ _ _
      (g.0, IsAbove-merged_with s a rest ih e h b g.1)
      (IsAbove-kept cmp m (add_mod p s.0 (mul_mod p c t.0)) s.1 (rest b) e (ih b g.1))
      (e, ih (t ∷ b) g)

  pub IsAbove-merged : (a b : Terms) → IsAbove cmp m a → IsAbove cmp m b → IsAbove cmp m (merged p cmp c a b)
  IsAbove-merged [] b h g = IsAbove-multiplied p cmp c m b g
  IsAbove-merged (s ∷ a) b h g =
      IsAbove-merged_with s a (merged p cmp c a) (λ k w. IsAbove-merged a k h.1 w) h.0 h.1 b g

module _ (p : ℕ) (prime : IsPrime p) (cmp : Monomial → Monomial → Ordering) (laws : IsMonomialOrder cmp) (limit c : ℕ) (c_is : c ≢ 0) (c_below : c < p) where
  pub product_nonzero : (k : ℕ) → 0 < k → k < p → 0 < mul_mod p c k
  product_nonzero k h g =
      pos_of_ne-zero (λ e. elim (no_zero_product p c k prime c_below g e) [ inl zero_c ↦ c_is zero_c | inr zero_k ↦ omega arith ])

  below : (k : ℕ) → k % p < p
  below k = mod-lt k (omega (arith, prime.least))

  pub IsOrdered-multiplied : (ts : Terms) → IsOrdered p cmp limit ts → IsOrdered p cmp limit (multiplied p c ts)
  IsOrdered-multiplied [] h = tt
  IsOrdered-multiplied (t ∷ ts) h =
      (product_nonzero t.0 h.0 h.1, below (c * t.0), h.2, h.3, IsAbove-multiplied p cmp c t.1 ts h.4, IsOrdered-multiplied ts h.5)

  IsOrdered-kept : (k : ℕ) (m : Monomial) (ts : Terms) → k < p → IsMonomial m → degree m ≤ limit → IsAbove cmp m ts → IsOrdered p cmp limit ts → IsOrdered p cmp limit (kept k m ts)
  IsOrdered-kept k m ts h v d a o =
      elim (cases_eq k 0) [
        | inl zero_k ↦ rw (eq-eqb k 0 zero_k) o
        | inr other ↦ rw (ne_eqb k 0 other) (pos_of_ne-zero other, h, v, d, a, o)
      ]

  -- the three cases of a step
  ordered_step : (s t : ℕ × Monomial) (a b : Terms) → IsOrdered p cmp limit (s ∷ a) → IsOrdered p cmp limit (t ∷ b) → IsOrdered p cmp limit (merged p cmp c (s ∷ a) b) → IsOrdered p cmp limit (merged p cmp c a b) → IsOrdered p cmp limit (merged p cmp c a (t ∷ b)) → (o : Ordering) → cmp s.1 t.1 ≡ o → IsOrdered p cmp limit (merged p cmp c (s ∷ a) (t ∷ b))
  ordered_step s t a b h g in_b in_both in_a Less e =
      rw (merged-less p cmp c s t a b e) (
        product_nonzero t.0 g.0 g.1,
        below (c * t.0),
        g.2,
        g.3,
        IsAbove-merged p cmp c t.1 (s ∷ a) b (turned cmp laws s.1 t.1 e, IsAbove-trans cmp laws t.1 s.1 a (turned cmp laws s.1 t.1 e) h.4) g.4,
        in_b,
      )
  ordered_step s t a b h g in_b in_both in_a Equal e =
      rw (merged-equal p cmp c s t a b e)
      (IsOrdered-kept (add_mod p s.0 (mul_mod p c t.0)) s.1 (merged p cmp c a b) (below (s.0 + mul_mod p c t.0)) h.2 h.3
      (IsAbove-merged p cmp c s.1 a b h.4 (subst (λ m. IsAbove cmp m b) (sym (laws.exact s.1 t.1 e)) g.4)) in_both)
  ordered_step s t a b h g in_b in_both in_a Greater e =
      rw (merged-greater p cmp c s t a b e)
      (h.0, h.1, h.2, h.3, IsAbove-merged p cmp c s.1 a (t ∷ b) h.4 (e, IsAbove-trans cmp laws s.1 t.1 b e g.4), in_a)

  ordered_with : (s : ℕ × Monomial) (a : Terms) → ((b : Terms) → IsOrdered p cmp limit b → IsOrdered p cmp limit (merged p cmp c a b)) → IsOrdered p cmp limit (s ∷ a) → (b : Terms) → IsOrdered p cmp limit b → IsOrdered p cmp limit (merged p cmp c (s ∷ a) b)
  ordered_with s a ih h [] g = h
  ordered_with s a ih h (t ∷ b) g =
      ordered_step s t a b h g (ordered_with s a ih h b g.5) (ih b g.5) (ih (t ∷ b) g) (cmp s.1 t.1) refl

  pub IsOrdered-merged : (a b : Terms) → IsOrdered p cmp limit a → IsOrdered p cmp limit b → IsOrdered p cmp limit (merged p cmp c a b)
  IsOrdered-merged [] b h g = IsOrdered-multiplied b g
  IsOrdered-merged (s ∷ a) b h g = ordered_with s a (λ k w. IsOrdered-merged a k h.5 w) h b g

-- ---- the polynomial

pub weighted-multiplied : (p c : ℕ) (g : Monomial → ℕ) (ts : Terms) → weighted g (multiplied p c ts) % p ≡ (c * weighted g ts) % p
weighted-multiplied p c g [] = ap (λ k. k % p) (omega arith)
weighted-multiplied p c g (t ∷ ts) =
    sum_alike p (mul_mod p c t.0 * g t.1) (c * (t.0 * g t.1)) (weighted g (multiplied p c ts)) (c * weighted g ts)
    (mul-mod_first (c * t.0) (g t.1) p ∙ ap (λ k. k % p) (mul_assoc c t.0 (g t.1))) (weighted-multiplied p c g ts)
    ∙ ap (λ k. k % p) (sym (mul-add c (t.0 * g t.1) (weighted g ts)))

pub weighted-kept : (g : Monomial → ℕ) (k : ℕ) (m : Monomial) (ts : Terms) → weighted g (kept k m ts) ≡ k * g m + weighted g ts
weighted-kept g k m ts =
    elim (cases_eq k 0) [
      | inl zero_k ↦ rw (eq-eqb k 0 zero_k) (sym (ap (λ j. j * g m + weighted g ts) zero_k ∙ omega arith))
      | inr other ↦ rw (ne_eqb k 0 other) refl
    ]

module _ (p : ℕ) (cmp : Monomial → Monomial → Ordering) (laws : IsMonomialOrder cmp) (c : ℕ) (g : Monomial → ℕ) where
  -- the coefficients of one monomial together
  joint_coefficient : (s t : ℕ × Monomial) → s.1 ≡ t.1 → (add_mod p s.0 (mul_mod p c t.0) * g s.1) % p ≡ (s.0 * g s.1 + c * (t.0 * g t.1)) % p
  joint_coefficient s t same =
      mul-mod_first (s.0 + mul_mod p c t.0) (g s.1) p ∙ ap (λ k. k % p) (add-mul s.0 (mul_mod p c t.0) (g s.1))
      ∙ sum_alike p (s.0 * g s.1) (s.0 * g s.1) (mul_mod p c t.0 * g s.1) (c * (t.0 * g t.1)) refl
      (mul-mod_first (c * t.0) (g s.1) p ∙ ap (λ k. k % p) (mul_assoc c t.0 (g s.1) ∙ ap (λ m. c * (t.0 * g m)) same))

  weighted_step : (s t : ℕ × Monomial) (a b : Terms) → weighted g (merged p cmp c (s ∷ a) b) % p ≡ (weighted g (s ∷ a) + c * weighted g b) % p → weighted g (merged p cmp c a b) % p ≡ (weighted g a + c * weighted g b) % p → weighted g (merged p cmp c a (t ∷ b)) % p ≡ (weighted g a + c * weighted g (t ∷ b)) % p → (o : Ordering) → cmp s.1 t.1 ≡ o → weighted g (merged p cmp c (s ∷ a) (t ∷ b)) % p ≡ (weighted g (s ∷ a) + c * weighted g (t ∷ b)) % p
  weighted_step s t a b in_b in_both in_a Less e =
      rw (merged-less p cmp c s t a b e)
      (sum_alike p (mul_mod p c t.0 * g t.1) (c * (t.0 * g t.1)) _ _ (mul-mod_first (c * t.0) (g t.1) p ∙ ap (λ k. k % p) (mul_assoc c t.0 (g t.1))) in_b
      ∙ ap (λ k. k % p) (omega (arith, mul-add c (t.0 * g t.1) (weighted g b))))
  weighted_step s t a b in_b in_both in_a Equal e =
      rw (merged-equal p cmp c s t a b e)
      (ap (λ k. k % p) (weighted-kept g (add_mod p s.0 (mul_mod p c t.0)) s.1 (merged p cmp c a b))
      ∙ sum_alike p (add_mod p s.0 (mul_mod p c t.0) * g s.1) (s.0 * g s.1 + c * (t.0 * g t.1)) _ _ (joint_coefficient s t (laws.exact s.1 t.1 e)) in_both
      ∙ ap (λ k. k % p) (omega (arith, mul-add c (t.0 * g t.1) (weighted g b))))
  weighted_step s t a b in_b in_both in_a Greater e =
      rw (merged-greater p cmp c s t a b e)
      (sum_alike p (s.0 * g s.1) (s.0 * g s.1) _ _ refl in_a ∙ ap (λ k. k % p) (omega arith))

  weighted_with : (s : ℕ × Monomial) (a : Terms) → ((b : Terms) → weighted g (merged p cmp c a b) % p ≡ (weighted g a + c * weighted g b) % p) → (b : Terms) → weighted g (merged p cmp c (s ∷ a) b) % p ≡ (weighted g (s ∷ a) + c * weighted g b) % p
  weighted_with s a ih [] = ap (λ k. k % p) (omega arith)
  weighted_with s a ih (t ∷ b) = weighted_step s t a b (weighted_with s a ih b) (ih b) (ih (t ∷ b)) (cmp s.1 t.1) refl

  pub weighted-merged : (a b : Terms) → weighted g (merged p cmp c a b) % p ≡ (weighted g a + c * weighted g b) % p
  weighted-merged [] b = weighted-multiplied p c g b ∙ ap (λ k. k % p) (omega arith)
  weighted-merged (s ∷ a) b = weighted_with s a (weighted-merged a) b

-- the merge is the sum
pub SamePolynomial-merged : (p : ℕ) (cmp : Monomial → Monomial → Ordering) → IsMonomialOrder cmp → (c : ℕ) (a b : Terms) → SamePolynomial p (merged p cmp c a b) (a ++ scaled c b)
SamePolynomial-merged p cmp laws c a b =
    SamePolynomial-from_weighted p (merged p cmp c a b) (a ++ scaled c b)
    (λ g. weighted-merged p cmp laws c g a b
    ∙ ap (λ k. k % p) (sym (weighted-append g a (scaled c b) ∙ ap (λ k. weighted g a + k) (weighted-term_product g c [] b))))
