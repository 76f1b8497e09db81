-- The normal list of terms is the same polynomial, and it is normal.
use Rattle.std.proofs.Common.{◌≡◌, ◌≢◌, ℕ, ◌+◌, ◌*◌, ◌%◌, ◌<◌, ◌==◌, [], ◌∷◌, refl, sym, ap, ◌∙◌, inl, inr, eq-eqb, eqb-true, arith, add-mul}
use Rattle.std.proofs.Math.Nat.{mod-mod, mod-lt, zero-mod}
use Rattle.std.proofs.lemmas.Bool.{cond-true, cond-false, cases_eq, false_from_ne_true}
use Rattle.ffc_ring.specs.Monomial.{Monomial, mono_value}
use Rattle.ffc_ring.specs.Polynomial.{Terms, SamePolynomial, IsNoneOf, poly_value}
use Rattle.ffc_ring.proofs.PolynomialLemmas.{weighted, sum_alike, times_alike, cases_monomial, same_monomial-equal, same_monomial-other, value_sum-is_weighted, SamePolynomial-from_weighted}
use Rattle.ffc_trees.specs.Normal.{term_before, with_term, normal, monomials_of, IsNormal}

-- what is 0 modulo p adds nothing
zero_part : (p c k w : ℕ) → c % p ≡ 0 → w % p ≡ (c * k + w) % p
zero_part p c k w none =
    ap (λ n. n % p) (let same : w ≡ 0 * k + w = omega arith in same)
    ∙ sum_alike p (0 * k) (c * k) w w (times_alike p 0 c k (zero-mod p ∙ sym none)) refl

pub none_before : (p c : ℕ) (m : Monomial) (ts : Terms) → c % p ≡ 0 → term_before p c m ts ≡ ts
none_before p c m ts none = cond-true _ _ _ (eq-eqb (c % p) 0 none)

pub some_before : (p c : ℕ) (m : Monomial) (ts : Terms) → (c % p ≡ 0 → ⊥) → term_before p c m ts ≡ (c % p, m) ∷ ts
some_before p c m ts some = cond-false _ _ _ (false_from_ne_true (c % p == 0) (λ e. some (eqb-true (c % p) 0 e)))

pub met : (p c : ℕ) (m : Monomial) (t : ℕ × Monomial) (ts : Terms) → m ≡ t.1 → with_term p c m (t ∷ ts) ≡ term_before p (c + t.0) m ts
met p c m t ts e = cond-true _ _ _ (same_monomial-equal m t.1 e)

pub passed_by : (p c : ℕ) (m : Monomial) (t : ℕ × Monomial) (ts : Terms) → m ≢ t.1 → with_term p c m (t ∷ ts) ≡ t ∷ with_term p c m ts
passed_by p c m t ts other = cond-false _ _ _ (same_monomial-other m t.1 other)

weighted-term_before : (p : ℕ) (g : Monomial → ℕ) (c : ℕ) (m : Monomial) (ts : Terms) → weighted g (term_before p c m ts) % p ≡ (c * g m + weighted g ts) % p
weighted-term_before p g c m ts =
    elim (cases_eq (c % p) 0) as (λ _. weighted g (term_before p c m ts) % p ≡ (c * g m + weighted g ts) % p) [
      | inl none ↦ ap (λ xs. weighted g xs % p) (none_before p c m ts none) ∙ zero_part p c (g m) (weighted g ts) none
      | inr some ↦
          ap (λ xs. weighted g xs % p) (some_before p c m ts some)
          ∙ sum_alike p (c % p * g m) (c * g m) (weighted g ts) (weighted g ts) (times_alike p (c % p) c (g m) (mod-mod c p)) refl
    ]

weighted-with_term : (p : ℕ) (g : Monomial → ℕ) (c : ℕ) (m : Monomial) (ts : Terms) → weighted g (with_term p c m ts) % p ≡ (c * g m + weighted g ts) % p
weighted-with_term p g c m [] = weighted-term_before p g c m []
weighted-with_term p g c m (t ∷ ts) =
    elim (cases_monomial m t.1) as (λ _. weighted g (with_term p c m (t ∷ ts)) % p ≡ (c * g m + (t.0 * g t.1 + weighted g ts)) % p) [
      | inl e ↦
          ap (λ xs. weighted g xs % p) (met p c m t ts e) ∙ weighted-term_before p g (c + t.0) m ts
          ∙ ap (λ n. n % p) (ap (λ k. k + weighted g ts) (add-mul c t.0 (g m)) ∙ ap (λ k. c * g m + t.0 * k + weighted g ts) (ap g e) ∙ omega arith)
      | inr other ↦
          ap (λ xs. weighted g xs % p) (passed_by p c m t ts other)
          ∙ sum_alike p (t.0 * g t.1) (t.0 * g t.1) (weighted g (with_term p c m ts)) (c * g m + weighted g ts) refl (weighted-with_term p g c m ts)
          ∙ ap (λ n. n % p) (omega arith)
    ]

pub weighted-normal : (p : ℕ) (g : Monomial → ℕ) (ts : Terms) → weighted g (normal p ts) % p ≡ weighted g ts % p
unfolding normal
weighted-normal p g [] = refl
weighted-normal p g (t ∷ ts) =
    weighted-with_term p g t.0 t.1 (normal p ts)
    ∙ sum_alike p (t.0 * g t.1) (t.0 * g t.1) (weighted g (normal p ts)) (weighted g ts) refl (weighted-normal p g ts)

pub normal_same : (p : ℕ) (ts : Terms) → SamePolynomial p (normal p ts) ts
normal_same p ts = SamePolynomial-from_weighted p (normal p ts) ts (λ g. weighted-normal p g ts)

pub poly_value-normal : (p : ℕ) (point : ℕ → ℕ) (ts : Terms) → poly_value p point (normal p ts) ≡ poly_value p point ts
poly_value-normal p point ts =
    ap (λ n. n % p) (value_sum-is_weighted point (normal p ts)) ∙ weighted-normal p (mono_value point) ts
    ∙ ap (λ n. n % p) (sym (value_sum-is_weighted point ts))

-- ---- it is normal

none_of-term_before : (p c : ℕ) (m n : Monomial) (ts : Terms) → m ≢ n → IsNoneOf (monomials_of ts) n → IsNoneOf (monomials_of (term_before p c m ts)) n
none_of-term_before p c m n ts other none =
    elim (cases_eq (c % p) 0) as (λ _. IsNoneOf (monomials_of (term_before p c m ts)) n) [
      | inl zero ↦ rw (none_before p c m ts zero) none
      | inr some ↦ rw (some_before p c m ts some) (other, none)
    ]

none_of-with_term : (p c : ℕ) (m n : Monomial) (ts : Terms) → m ≢ n → IsNoneOf (monomials_of ts) n → IsNoneOf (monomials_of (with_term p c m ts)) n
none_of-with_term p c m n [] other none = none_of-term_before p c m n [] other none
none_of-with_term p c m n (t ∷ ts) other none =
    elim (cases_monomial m t.1) as (λ _. IsNoneOf (monomials_of (with_term p c m (t ∷ ts))) n) [
      | inl e ↦ rw (met p c m t ts e) (none_of-term_before p (c + t.0) m n ts other none.1)
      | inr apart ↦ rw (passed_by p c m t ts apart) (none.0, none_of-with_term p c m n ts other none.1)
    ]

normal-term_before : (p c : ℕ) (m : Monomial) (ts : Terms) → 0 < p → IsNoneOf (monomials_of ts) m → IsNormal p ts → IsNormal p (term_before p c m ts)
normal-term_before p c m ts positive none is =
    elim (cases_eq (c % p) 0) as (λ _. IsNormal p (term_before p c m ts)) [
      | inl zero ↦ rw (none_before p c m ts zero) is
      | inr some ↦ rw (some_before p c m ts some) (omega arith, mod-lt c positive, none, is)
    ]

normal-with_term : (p c : ℕ) (m : Monomial) (ts : Terms) → 0 < p → IsNormal p ts → IsNormal p (with_term p c m ts)
normal-with_term p c m [] positive is = normal-term_before p c m [] positive tt is
normal-with_term p c m (t ∷ ts) positive is =
    elim (cases_monomial m t.1) as (λ _. IsNormal p (with_term p c m (t ∷ ts))) [
      | inl e ↦ rw (met p c m t ts e) (normal-term_before p (c + t.0) m ts positive (rw e is.2) is.3)
      | inr apart ↦ rw (passed_by p c m t ts apart) (is.0, is.1, none_of-with_term p c m t.1 ts apart is.2, normal-with_term p c m ts positive is.3)
    ]

pub normal_is_normal : (p : ℕ) (ts : Terms) → 0 < p → IsNormal p (normal p ts)
unfolding normal
normal_is_normal p [] positive = tt
normal_is_normal p (t ∷ ts) positive = normal-with_term p t.0 t.1 (normal p ts) positive (normal_is_normal p ts positive)
