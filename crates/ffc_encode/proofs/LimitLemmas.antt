-- A polynomial has at most as many terms as any list that it is written as, and no term of a higher degree.
use Rattle.std.proofs.Common.{◌≡◌, ◌≢◌, ℕ, suc, ◌+◌, ◌*◌, ◌%◌, ◌<◌, ◌≤◌, max, cond, Bool, true, false, List, [], ◌∷◌, ◌++◌, length, fold, refl, sym, ap, ◌∙◌, inl, inr, arith, length-append, Result, Err, IsErrOf}
use Rattle.std.proofs.Math.Nat.{zero-mod}
use Rattle.ffc_ring.specs.Monomial.{Monomial, degree, same_monomial}
use Rattle.ffc_ring.specs.Polynomial.{Terms, SamePolynomial, written, coefficient, term_product, product, PassesDegree, PassesTerms, IsNoneOf, AreItsMonomials}
use Rattle.ffc_ring.proofs.MonomialLemmas.{degree-mono_mul}
use Rattle.ffc_ring.proofs.PolynomialLemmas.{without, written-off, written-without_off, cases_monomial}
use Rattle.ffc_poly.specs.declared.stop.PolyStop.{PolyStop}
use Rattle.ffc_poly.specs.declared.stop.PolyStop.TheVariants.{DegreeOver, TermsOver, Memory}
use Rattle.ffc_poly.specs.Ordered.{AreWithin}
use Rattle.ffc_trees.specs.Normal.{degree_of}

-- ---- the number of terms

no_longer_if : (b : Bool) (t : ℕ × Monomial) (xs ts : Terms) → length xs ≤ length ts → length (cond b xs (t ∷ xs)) ≤ suc (length ts)
no_longer_if true t xs ts h = omega arith
no_longer_if false t xs ts h = omega arith

no_longer : (m : Monomial) (ts : Terms) → length (without m ts) ≤ length ts
no_longer m [] = omega arith
no_longer m (t ∷ ts) = no_longer_if (same_monomial t.1 m) t (without m ts) ts (no_longer m ts)

-- a monomial that is written is taken away with its terms
shorter_if : (b : Bool) (t : ℕ × Monomial) (xs ts : Terms) (k : ℕ) → cond b t.0 0 + k ≢ 0 → length xs ≤ length ts → (k ≢ 0 → length xs < length ts) → length (cond b xs (t ∷ xs)) < suc (length ts)
shorter_if true t xs ts k some h g = omega arith
shorter_if false t xs ts k some h g = let less : length xs < length ts = g (λ e. some (let none : 0 + k ≡ 0 = omega (arith, e) in none)) in omega (arith, less)

shorter : (m : Monomial) (ts : Terms) → written ts m ≢ 0 → length (without m ts) < length ts
shorter m [] some = absurd (some refl)
shorter m (t ∷ ts) some = shorter_if (same_monomial t.1 m) t (without m ts) ts (written ts m) some (no_longer m ts) (shorter m ts)

written_some : (p : ℕ) (ts : Terms) (m : Monomial) → coefficient p ts m ≢ 0 → written ts m ≢ 0
written_some p ts m some none = some (ap (λ k. k % p) none ∙ zero-mod p)

without_keeps : (p : ℕ) (m : Monomial) (ts : Terms) (ms : List Monomial) → IsNoneOf ms m → AreItsMonomials p ts ms → AreItsMonomials p (without m ts) ms
without_keeps p m ts [] none are = tt
without_keeps p m ts (n ∷ ms) none are =
    ((λ e. are.0 (sym (ap (λ k. k % p) (written-without_off m n ts (λ same. none.0 (sym same)))) ∙ e)), are.1, without_keeps p m ts ms none.1 are.2)

few : (p : ℕ) (ts : Terms) (ms : List Monomial) → AreItsMonomials p ts ms → length ms ≤ length ts
few p ts [] are = omega arith
few p ts (m ∷ ms) are =
    omega (arith, few p (without m ts) ms (without_keeps p m ts ms are.1 are.2), shorter m ts (written_some p ts m are.0))

alike : (p : ℕ) (ts us : Terms) (ms : List Monomial) → SamePolynomial p ts us → AreItsMonomials p ts ms → AreItsMonomials p us ms
alike p ts us [] same are = tt
alike p ts us (m ∷ ms) same are = ((λ e. are.0 (same m ∙ e)), are.1, alike p ts us ms same are.2)

pub terms_few : (p limit : ℕ) (ts us : Terms) → SamePolynomial p ts us → length us ≤ limit → PassesTerms p limit ts → ⊥
terms_few p limit ts us same short (ms, over, are) = omega (arith, few p us ms (alike p ts us ms same are))

-- ---- degrees

written_within : (d : ℕ) (ts : Terms) (m : Monomial) → AreWithin d ts → written ts m ≢ 0 → degree m ≤ d
written_within d [] m w some = absurd (some refl)
written_within d (t ∷ ts) m w some =
    elim (cases_monomial t.1 m) as (λ _. degree m ≤ d) [
      | inl here ↦ omega (arith, ap degree here, w.0)
      | inr there ↦ written_within d ts m w.1 (λ e. some (written-off m t ts there ∙ e))
    ]

pub degree_low : (p d e limit : ℕ) (a b us vs : Terms) → SamePolynomial p a us → SamePolynomial p b vs → AreWithin d us → AreWithin e vs → d + e ≤ limit → PassesDegree p limit a b → ⊥
degree_low p d e limit a b us vs f g w v low (m, n, hm, hn, over) =
    omega (
      arith,
      written_within d us m w (written_some p us m (λ none. hm (f m ∙ none))),
      written_within e vs n v (written_some p vs n (λ none. hn (g n ∙ none))),
    )

start_within : (s : ℕ) (ts : Terms) → s ≤ fold (λ a (t : ℕ × Monomial). max a (degree t.1)) s ts
start_within s [] = omega arith
start_within s (t ∷ ts) = omega (arith, start_within (max s (degree t.1)) ts)

fold_within : (d s : ℕ) (ts : Terms) → fold (λ a (t : ℕ × Monomial). max a (degree t.1)) s ts ≤ d → AreWithin d ts
fold_within d s [] h = tt
fold_within d s (t ∷ ts) h = (omega (arith, h, start_within (max s (degree t.1)) ts), fold_within d (max s (degree t.1)) ts h)

pub within_degree : (d : ℕ) (ts : Terms) → degree_of ts ≤ d → AreWithin d ts
within_degree d ts h = fold_within d 0 ts h

within-append : (d : ℕ) (a b : Terms) → AreWithin d a → AreWithin d b → AreWithin d (a ++ b)
within-append d [] b h k = k
within-append d (t ∷ a) b h k = (h.0, within-append d a b h.1 k)

within-term_product : (d e c : ℕ) (m : Monomial) (ts : Terms) → degree m ≤ d → AreWithin e ts → AreWithin (d + e) (term_product c m ts)
within-term_product d e c m [] h w = tt
within-term_product d e c m (t ∷ ts) h w = (omega (arith, degree-mono_mul m t.1, h, w.0), within-term_product d e c m ts h w.1)

pub within-product : (d e : ℕ) (a b : Terms) → AreWithin d a → AreWithin e b → AreWithin (d + e) (product a b)
within-product d e [] b w v = tt
within-product d e (t ∷ a) b w v = within-append (d + e) (term_product t.0 t.1 b) (product a b) (within-term_product d e t.0 t.1 b w.0 v) (within-product d e a b w.1 v)

length-term_product : (c : ℕ) (m : Monomial) (ts : Terms) → length (term_product c m ts) ≡ length ts
length-term_product c m [] = refl
length-term_product c m (t ∷ ts) = ap suc (length-term_product c m ts)

pub length-product : (a b : Terms) → length (product a b) ≡ length a * length b
length-product [] b = omega arith
length-product (t ∷ a) b =
    let rest : length (product a b) ≡ length a * length b = length-product a b in
    let step : suc (length a) * length b ≡ length b + length a * length b = omega arith in
    omega (arith, length-append (term_product t.0 t.1 b) (product a b), length-term_product t.0 t.1 b)

-- ---- refusals

-- an error that is none of a limit
pub only_memory : {T : Type 0} (r : Result T PolyStop) (stop : PolyStop) → r ≡ Err stop → (IsErrOf r DegreeOver → ⊥) → (IsErrOf r TermsOver → ⊥) → stop ≡ Memory
only_memory r DegreeOver e high long = absurd (high e)
only_memory r TermsOver e high long = absurd (long e)
only_memory r Memory e high long = refl
