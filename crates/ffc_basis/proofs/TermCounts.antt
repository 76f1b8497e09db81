-- A polynomial has at most as many terms as any list that it is written as.
use Rattle.std.proofs.Common.{◌≡◌, ◌≢◌, ℕ, suc, ◌+◌, ◌%◌, ◌<◌, ◌≤◌, cond, Bool, true, false, List, [], ◌∷◌, length, refl, sym, ap, ◌∙◌, arith}
use Rattle.std.proofs.Math.Nat.{zero-mod}
use Rattle.ffc_ring.specs.Monomial.{Monomial, same_monomial}
use Rattle.ffc_ring.specs.Polynomial.{Terms, SamePolynomial, written, coefficient, term_product, PassesTerms, IsNoneOf, AreItsMonomials}
use Rattle.ffc_ring.proofs.PolynomialLemmas.{without, written-without_off}
use Rattle.ffc_basis.proofs.OrderedTerms.{PassesTerms-same}

no_longer_if : (b : Bool) (t : ℕ × Monomial) (xs ts : Terms) → length xs ≤ length ts → length (cond b xs (t ∷ xs)) ≤ suc (length ts)
no_longer_if true t xs ts h = omega arith
no_longer_if false t xs ts h = omega arith

no_longer : (m : Monomial) (ts : Terms) → length (without m ts) ≤ length ts
no_longer m [] = omega arith
no_longer m (t ∷ ts) = no_longer_if (same_monomial t.1 m) t (without m ts) ts (no_longer m ts)

-- a monomial that is written is taken away with its terms
shorter_if : (b : Bool) (t : ℕ × Monomial) (xs ts : Terms) (k : ℕ) → cond b t.0 0 + k ≢ 0 → length xs ≤ length ts → (k ≢ 0 → length xs < length ts) → length (cond b xs (t ∷ xs)) < suc (length ts)
shorter_if true t xs ts k some h g = omega arith
shorter_if false t xs ts k some h g = let less : length xs < length ts = g (λ e. some (let none : 0 + k ≡ 0 = omega (arith, e) in none)) in omega (arith, less)

shorter : (m : Monomial) (ts : Terms) → written ts m ≢ 0 → length (without m ts) < length ts
shorter m [] some = absurd (some refl)
shorter m (t ∷ ts) some = shorter_if (same_monomial t.1 m) t (without m ts) ts (written ts m) some (no_longer m ts) (shorter m ts)

written_some : (p : ℕ) (ts : Terms) (m : Monomial) → coefficient p ts m ≢ 0 → written ts m ≢ 0
written_some p ts m some none = some (ap (λ k. k % p) none ∙ zero-mod p)

without_keeps : (p : ℕ) (m : Monomial) (ts : Terms) (ms : List Monomial) → IsNoneOf ms m → AreItsMonomials p ts ms → AreItsMonomials p (without m ts) ms
without_keeps p m ts [] none are = tt
without_keeps p m ts (n ∷ ms) none are =
    ((λ e. are.0 (sym (ap (λ k. k % p) (written-without_off m n ts (λ same. none.0 (sym same)))) ∙ e)), are.1, without_keeps p m ts ms none.1 are.2)

monomials_no_more : (p : ℕ) (ts : Terms) (ms : List Monomial) → AreItsMonomials p ts ms → length ms ≤ length ts
monomials_no_more p ts [] are = omega arith
monomials_no_more p ts (m ∷ ms) are =
    omega (arith, monomials_no_more p (without m ts) ms (without_keeps p m ts ms are.1 are.2), shorter m ts (written_some p ts m are.0))

-- so a polynomial that is written with few terms passes no limit
pub few_terms_pass_no_limit : (p limit : ℕ) (ts all : Terms) → SamePolynomial p ts all → length all ≤ limit → PassesTerms p limit ts → ⊥
few_terms_pass_no_limit p limit ts all same short passes =
    let over = PassesTerms-same p limit ts all same passes in
    omega (arith, monomials_no_more p all over.0 over.2, over.1)

pub length-term_product : (c : ℕ) (m : Monomial) (ts : Terms) → length (term_product c m ts) ≡ length ts
length-term_product c m [] = refl
length-term_product c m (t ∷ ts) = ap suc (length-term_product c m ts)
