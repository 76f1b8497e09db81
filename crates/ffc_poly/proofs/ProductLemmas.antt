-- Products with a term, and halves of a product and of a sum.
use Rattle.std.proofs.Common.{◌≡◌, ◌≢◌, ℕ, suc, ◌+◌, ◌*◌, ◌%◌, ◌<◌, ◌≤◌, [], ◌∷◌, ◌++◌, length, get_or, refl, sym, ap, ap₂, ◌∙◌, arith, mod-lt, one-mul, append-nil}
use Rattle.std.proofs.lemmas.Nat.{mul-mod_first}
use Rattle.std.specs.Prelude.{slice_range}
use Rattle.std.specs.declared.cmp.Ordering.{Ordering}
use Rattle.ffc_field.specs.Modular.{mul_mod, IsPrime}
use Rattle.ffc_ring.specs.Monomial.{Monomial, IsMonomial, mono_mul}
use Rattle.ffc_ring.specs.Polynomial.{Terms, written, SamePolynomial, term_product, product, scaled}
use Rattle.ffc_ring.proofs.MonomialLemmas.{mono_mul_comm, IsMonomial-mono_mul, degree-mono_mul}
use Rattle.ffc_ring.proofs.PolynomialLemmas.{weighted, weighted-term_product, SamePolynomial-from_weighted, sum_alike, same_sums, product-append}
use Rattle.ffc_mono.specs.MonomialOrder.{IsMonomialOrder}
use Rattle.ffc_poly.specs.Ordered.{IsAbove, IsOrdered, RowFits, multiplied, times}
use Rattle.ffc_poly.proofs.Merging.{product_nonzero, merged, SamePolynomial-merged, weighted-multiplied, IsOrdered-multiplied, IsOrdered-merged}
use Rattle.ffc_poly.proofs.TermLemmas.{range_at, range_split}

weighted-times : (p c : ℕ) (m : Monomial) (g : Monomial → ℕ) (ts : Terms) → weighted g (times p c m ts) % p ≡ weighted g (term_product c m ts) % p
weighted-times p c m g [] = refl
weighted-times p c m g (t ∷ ts) =
    sum_alike p (mul_mod p c t.0 * g (mono_mul m t.1)) (c * t.0 * g (mono_mul m t.1)) (weighted g (times p c m ts)) (weighted g (term_product c m ts))
    (mul-mod_first (c * t.0) (g (mono_mul m t.1)) p) (weighted-times p c m g ts)

SamePolynomial-times : (p c : ℕ) (m : Monomial) (ts : Terms) → SamePolynomial p (times p c m ts) (term_product c m ts)
SamePolynomial-times p c m ts = SamePolynomial-from_weighted p (times p c m ts) (term_product c m ts) (λ g. weighted-times p c m g ts)

pub length-times : (p c : ℕ) (m : Monomial) (ts : Terms) → length (times p c m ts) ≡ length ts
length-times p c m [] = refl
length-times p c m (t ∷ ts) = ap suc (length-times p c m ts)

length-multiplied : (p c : ℕ) (ts : Terms) → length (multiplied p c ts) ≡ length ts
length-multiplied p c [] = refl
length-multiplied p c (t ∷ ts) = ap suc (length-multiplied p c ts)

SamePolynomial-multiplied : (p c : ℕ) (ts : Terms) → SamePolynomial p (multiplied p c ts) (scaled c ts)
SamePolynomial-multiplied p c ts =
    SamePolynomial-from_weighted p (multiplied p c ts) (scaled c ts)
    (λ g. weighted-multiplied p c g ts ∙ ap (λ k. k % p) (sym (weighted-term_product g c [] ts)))

module _ (p : ℕ) (prime : IsPrime p) (cmp : Monomial → Monomial → Ordering) (laws : IsMonomialOrder cmp) (limit c : ℕ) (c_is : c ≢ 0) (c_below : c < p) (m : Monomial) (v : IsMonomial m) where
  cmp_times : (x y : Monomial) → IsMonomial x → IsMonomial y → cmp (mono_mul m x) (mono_mul m y) ≡ cmp x y
  cmp_times x y u w = ap₂ cmp (mono_mul_comm m x v u) (mono_mul_comm m y v w) ∙ laws.kept x y m u w v

  IsAbove-times : (n : Monomial) → IsMonomial n → (ts : Terms) → IsOrdered p cmp limit ts → IsAbove cmp n ts → IsAbove cmp (mono_mul m n) (times p c m ts)
  IsAbove-times n u [] h a = tt
  IsAbove-times n u (t ∷ ts) h a = (cmp_times n t.1 u h.2 ∙ a.0, IsAbove-times n u ts h.5 a.1)

  -- products with a term keep the order
  IsOrdered-times : (ts : Terms) → IsOrdered p cmp limit ts → RowFits limit m ts → IsOrdered p cmp limit (times p c m ts)
  IsOrdered-times [] h f = tt
  IsOrdered-times (t ∷ ts) h f = (
    product_nonzero p prime cmp laws limit c c_is c_below t.0 h.0 h.1,
    mod-lt (c * t.0) (omega (arith, prime.least)),
    IsMonomial-mono_mul m t.1 v h.2,
    omega (arith, degree-mono_mul m t.1, f.0),
    IsAbove-times t.1 h.2 ts h.5 h.4,
    IsOrdered-times ts h.5 f.1,
  )

  -- c*m times an ordered list is ordered, is the product with the term, and is as long
  pub times_is : (ts : Terms) → IsOrdered p cmp limit ts → RowFits limit m ts → IsOrdered p cmp limit (times p c m ts) × SamePolynomial p (times p c m ts) (term_product c m ts) × (length (times p c m ts) ≡ length ts)
  times_is ts h f = (IsOrdered-times ts h f, SamePolynomial-times p c m ts, length-times p c m ts)

-- c times an ordered list is ordered, is the multiple, and is as long
pub multiplied_is : (p : ℕ) → IsPrime p → (cmp : Monomial → Monomial → Ordering) → IsMonomialOrder cmp → (limit c : ℕ) → c ≢ 0 → c < p → (ts : Terms) → IsOrdered p cmp limit ts → IsOrdered p cmp limit (multiplied p c ts) × SamePolynomial p (multiplied p c ts) (scaled c ts) × (length (multiplied p c ts) ≡ length ts)
multiplied_is p prime cmp laws limit c c_is c_below ts h =
    (IsOrdered-multiplied p prime cmp laws limit c c_is c_below ts h, SamePolynomial-multiplied p c ts, length-multiplied p c ts)

pub SamePolynomial-scaled_one : (p : ℕ) (ts : Terms) → SamePolynomial p (scaled 1 ts) ts
SamePolynomial-scaled_one p ts =
    SamePolynomial-from_weighted p (scaled 1 ts) ts (λ g. ap (λ k. k % p) (weighted-term_product g 1 [] ts ∙ one-mul (weighted g ts)))

-- a merge of both is the sum
SamePolynomial-merged_one : (p : ℕ) (cmp : Monomial → Monomial → Ordering) → IsMonomialOrder cmp → (a b : Terms) → SamePolynomial p (merged p cmp 1 a b) (a ++ b)
SamePolynomial-merged_one p cmp laws a b m =
    SamePolynomial-merged p cmp laws 1 a b m ∙ same_sums p a a (scaled 1 b) b (λ n. refl) (SamePolynomial-scaled_one p b) m

-- a merge of an ordered list with c*m times another is ordered, and is the sum with the multiple
pub merged_times_is : (p : ℕ) → IsPrime p → (cmp : Monomial → Monomial → Ordering) → IsMonomialOrder cmp → (limit c : ℕ) → c ≢ 0 → c < p → (m : Monomial) → IsMonomial m → (a b : Terms) → IsOrdered p cmp limit a → IsOrdered p cmp limit b → RowFits limit m b → IsOrdered p cmp limit (merged p cmp 1 a (times p c m b)) × SamePolynomial p (merged p cmp 1 a (times p c m b)) (a ++ term_product c m b)
merged_times_is p prime cmp laws limit c c_is c_below m v a b a_is b_is fits = (
  IsOrdered-merged p prime cmp laws limit 1 (omega arith) (omega (arith, prime.least)) a (times p c m b) a_is (IsOrdered-times p prime cmp laws limit c c_is c_below m v b b_is fits),
  λ n. SamePolynomial-merged_one p cmp laws a (times p c m b) n ∙ same_sums p a a (times p c m b) (term_product c m b) (λ _. refl) (SamePolynomial-times p c m b) n,
)

-- two halves make the whole
pub SamePolynomial-halves : (p : ℕ) (r x y front back all : Terms) → SamePolynomial p r (x ++ y) → SamePolynomial p x front → SamePolynomial p y back → front ++ back ≡ all → SamePolynomial p r all
SamePolynomial-halves p r x y front back all h f b whole m =
    h m ∙ same_sums p x front y back f b m ∙ ap (λ k. written k m % p) whole

-- the product of a list of one term is that with the term
pub product_of_one : (a b : Terms) (from to k : ℕ) (m : Monomial) → k ≡ (get_or a from (0, [])).0 → m ≡ (get_or a from (0, [])).1 → to ≡ from + 1 → to ≤ length a → term_product k m b ≡ product (slice_range a from to) b
product_of_one a b from to k m k_is m_is one within =
    let term : (k, m) ≡ get_or a from (0, []) = ap₂ (λ x y. (x, y)) k_is m_is in
    sym (ap (λ ts. product ts b) (range_at a from to (0, []) one within ∙ ap (λ t. t ∷ []) (sym term)) ∙ append-nil (term_product k m b))

-- the products of two parts of a list, one after the other, are the product of both
pub product_of_halves : (p : ℕ) (a b : Terms) (from mid to : ℕ) (r x y : Terms) → from ≤ mid → mid ≤ to → SamePolynomial p r (x ++ y) → SamePolynomial p x (product (slice_range a from mid) b) → SamePolynomial p y (product (slice_range a mid to) b) → SamePolynomial p r (product (slice_range a from to) b)
product_of_halves p a b from mid to r x y low high both front back =
    SamePolynomial-halves p r x y (product (slice_range a from mid) b) (product (slice_range a mid to) b) (product (slice_range a from to) b) both front back
    (sym (product-append (slice_range a from mid) (slice_range a mid to) b) ∙ ap (λ ts. product ts b) (range_split a from mid to low high))
