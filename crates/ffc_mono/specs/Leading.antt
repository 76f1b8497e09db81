-- Leading terms (Cox, Little and O'Shea, chapter 2, section 2, definition 7), and their laws.
use Rattle.std.specs.Prelude.{◌≡◌, ◌≢◌, ℕ, ◌<◌, ◌++◌}
use Rattle.std.specs.declared.cmp.Ordering.{Ordering}
use Rattle.std.specs.declared.cmp.Ordering.TheVariants.{Greater}
use Rattle.ffc_field.specs.Modular.{IsPrime, add_mod, mul_mod}
use Rattle.ffc_ring.specs.Monomial.{Monomial, IsMonomial, mono_mul}
use Rattle.ffc_ring.specs.Polynomial.{Terms, AreTerms, coefficient, term_product, product, difference}
use Rattle.ffc_mono.specs.MonomialOrder.{IsMonomialOrder}

-- c is the coefficient of m, which is above each other monomial with a coefficient other than 0
abbrev pub IsLeading : ℕ → (Monomial → Monomial → Ordering) → Terms → ℕ → Monomial → Type 0
IsLeading p cmp ts c m =
    (coefficient p ts m ≡ c) × (c ≢ 0) × ((n : Monomial) → coefficient p ts n ≢ 0 → n ≢ m → cmp m n ≡ Greater)

-- over a prime order the leading term of a product is the product of the leading terms
abbrev pub LeadingOfProduct : Type 0
LeadingOfProduct =
    (p : ℕ) → IsPrime p → (cmp : Monomial → Monomial → Ordering) → IsMonomialOrder cmp → (a b : Terms) → AreTerms a → AreTerms b
    → (c d : ℕ) (m n : Monomial) → IsLeading p cmp a c m → IsLeading p cmp b d n
    → IsLeading p cmp (product a b) (mul_mod p c d) (mono_mul m n)

-- so that of a multiple by a term is the multiple of the leading term
abbrev pub LeadingOfMultiple : Type 0
LeadingOfMultiple =
    (p : ℕ) → IsPrime p → (cmp : Monomial → Monomial → Ordering) → IsMonomialOrder cmp → (a : Terms) → AreTerms a
    → (k c : ℕ) (m n : Monomial) → IsMonomial m → 0 < k → k < p → IsLeading p cmp a c n
    → IsLeading p cmp (term_product k m a) (mul_mod p k c) (mono_mul m n)

-- of a sum it is the greater of both leading terms
abbrev pub LeadingOfSum : Type 0
LeadingOfSum =
    (p : ℕ) (cmp : Monomial → Monomial → Ordering) → IsMonomialOrder cmp → (a b : Terms) (c d : ℕ) (m n : Monomial)
    → IsLeading p cmp a c m → IsLeading p cmp b d n → cmp m n ≡ Greater → IsLeading p cmp (a ++ b) c m

-- where both have the same monomial, it has the sum of the coefficients, unless that is 0
abbrev pub LeadingOfEqualSum : Type 0
LeadingOfEqualSum =
    (p : ℕ) (cmp : Monomial → Monomial → Ordering) → IsMonomialOrder cmp → (a b : Terms) (c d : ℕ) (m : Monomial)
    → IsLeading p cmp a c m → IsLeading p cmp b d m → add_mod p c d ≢ 0 → IsLeading p cmp (a ++ b) (add_mod p c d) m

-- where it is 0, each monomial of the sum is below
abbrev pub CancelledSumIsBelow : Type 0
CancelledSumIsBelow =
    (p : ℕ) (cmp : Monomial → Monomial → Ordering) → IsMonomialOrder cmp → (a b : Terms) (c d : ℕ) (m : Monomial)
    → IsLeading p cmp a c m → IsLeading p cmp b d m → add_mod p c d ≡ 0
    → (n : Monomial) → coefficient p (a ++ b) n ≢ 0 → cmp m n ≡ Greater

-- a step of a reduction: where a multiple of b has the leading term of a, each monomial of the difference is below it
abbrev pub CancelledStepIsBelow : Type 0
CancelledStepIsBelow =
    (p : ℕ) → IsPrime p → (cmp : Monomial → Monomial → Ordering) → IsMonomialOrder cmp → (a b : Terms) → AreTerms b
    → (k c d : ℕ) (m n : Monomial) → IsMonomial m → 0 < k → k < p → IsLeading p cmp b c n → IsLeading p cmp a d (mono_mul m n)
    → mul_mod p k c ≡ d → (x : Monomial) → coefficient p (difference p a (term_product k m b)) x ≢ 0 → cmp (mono_mul m n) x ≡ Greater

-- one polynomial has one leading term
abbrev pub OneLeading : Type 0
OneLeading =
    (p : ℕ) (cmp : Monomial → Monomial → Ordering) → IsMonomialOrder cmp → (a : Terms) (c d : ℕ) (m n : Monomial)
    → IsLeading p cmp a c m → IsLeading p cmp a d n → (c ≡ d) × (m ≡ n)
