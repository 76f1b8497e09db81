-- The degree of a polynomial is at most that of any list of terms for it.
use Rattle.std.proofs.Common.{ℕ, ◌+◌, ◌-◌, ◌%◌, ◌<◌, ◌≤◌, ◌==◌, max, fold, Bool, true, false, cond, [], ◌∷◌, ◌++◌, sym, ◌∙◌, arith}
use Rattle.ffc_ring.specs.Monomial.{Monomial, degree, same_monomial}
use Rattle.ffc_ring.specs.Polynomial.{Terms, SamePolynomial, scaled, difference}
use Rattle.ffc_trees.specs.Normal.{IsNormal, degree_of, term_before, with_term, normal}
use Rattle.ffc_trees.specs.Same.{IsSameLine}
use Rattle.ffc_trees.proofs.NormalLemmas.{normal_same, normal_is_normal}
use Rattle.ffc_trees.proofs.SameLemmas.{one_degree}

-- each degree is at most d
abbrev pub AreWithin : ℕ → Terms → Type 0
AreWithin d [] = Unit {0}
AreWithin d (t ∷ ts) = (degree t.1 ≤ d) × AreWithin d ts

greatest_within : (d s : ℕ) (ts : Terms) → s ≤ d → AreWithin d ts → fold (λ a (t : ℕ × Monomial). max a (degree t.1)) s ts ≤ d
greatest_within d s [] h w = h
greatest_within d s (t ∷ ts) h w = greatest_within d (max s (degree t.1)) ts (omega (arith, w.0)) w.1

pub degree_of-within : (d : ℕ) (ts : Terms) → AreWithin d ts → degree_of ts ≤ d
degree_of-within d ts w = greatest_within d 0 ts (omega arith) w

pub within-append : (d : ℕ) (a b : Terms) → AreWithin d a → AreWithin d b → AreWithin d (a ++ b)
within-append d [] b h k = k
within-append d (t ∷ a) b h k = (h.0, within-append d a b h.1 k)

within-cond : (d : ℕ) (b : Bool) (x y : Terms) → AreWithin d x → AreWithin d y → AreWithin d (cond b x y)
within-cond d true x y h k = h
within-cond d false x y h k = k

within-before : (d p c : ℕ) (m : Monomial) (ts : Terms) → degree m ≤ d → AreWithin d ts → AreWithin d (term_before p c m ts)
within-before d p c m ts h w = within-cond d (c % p == 0) ts ((c % p, m) ∷ ts) w (h, w)

within-with_term : (d p c : ℕ) (m : Monomial) (ts : Terms) → degree m ≤ d → AreWithin d ts → AreWithin d (with_term p c m ts)
within-with_term d p c m [] h w = within-before d p c m [] h w
within-with_term d p c m (t ∷ ts) h w =
    within-cond d (same_monomial m t.1) (term_before p (c + t.0) m ts) (t ∷ with_term p c m ts)
    (within-before d p (c + t.0) m ts h w.1) (w.0, within-with_term d p c m ts h w.1)

within-normal : (d p : ℕ) (ts : Terms) → AreWithin d ts → AreWithin d (normal p ts)
unfolding normal
within-normal d p [] w = tt
within-normal d p (t ∷ ts) w = within-with_term d p t.0 t.1 (normal p ts) w.0 (within-normal d p ts w.1)

-- a normal list has no higher degree than another list of the polynomial
pub degree_within : (d p : ℕ) (r ts : Terms) → 0 < p → IsNormal p r → SamePolynomial p r ts → AreWithin d ts → degree_of r ≤ d
degree_within d p r ts some n same w =
    let line : IsSameLine p r (normal p ts) = record { one = n; other = normal_is_normal p ts some; same = λ m. same m ∙ sym (normal_same p ts m) } in
    omega (arith, one_degree p r (normal p ts) some line, degree_of-within d (normal p ts) (within-normal d p ts w))

start_within : (s : ℕ) (ts : Terms) → s ≤ fold (λ a (t : ℕ × Monomial). max a (degree t.1)) s ts
start_within s [] = omega arith
start_within s (t ∷ ts) = omega (arith, start_within (max s (degree t.1)) ts)

fold_within : (d s : ℕ) (ts : Terms) → fold (λ a (t : ℕ × Monomial). max a (degree t.1)) s ts ≤ d → AreWithin d ts
fold_within d s [] h = tt
fold_within d s (t ∷ ts) h = (omega (arith, h, start_within (max s (degree t.1)) ts), fold_within d (max s (degree t.1)) ts h)

pub within_degree : (ts : Terms) → AreWithin (degree_of ts) ts
within_degree ts = fold_within (degree_of ts) 0 ts (omega arith)

pub within_more : (d e : ℕ) (ts : Terms) → d ≤ e → AreWithin d ts → AreWithin e ts
within_more d e [] h w = tt
within_more d e (t ∷ ts) h w = (omega (arith, w.0), within_more d e ts h w.1)

within-scaled : (d c : ℕ) (ts : Terms) → AreWithin d ts → AreWithin d (scaled c ts)
within-scaled d c [] w = tt
within-scaled d c (t ∷ ts) w = (w.0, within-scaled d c ts w.1)

-- the degree of a difference
pub degree_of_difference : (d p : ℕ) (r a b : Terms) → 0 < p → IsNormal p r → SamePolynomial p r (difference p a b) → degree_of a ≤ d → degree_of b ≤ d → degree_of r ≤ d
degree_of_difference d p r a b some n same h k =
    degree_within d p r (difference p a b) some n same
    (within-append d a (scaled (p - 1) b) (within_more (degree_of a) d a h (within_degree a)) (within-scaled d (p - 1) b (within_more (degree_of b) d b k (within_degree b))))
