-- What the list of an ordered polynomial says of its coefficients.
use Rattle.std.proofs.Common.{◌≡◌, ◌≢◌, ℕ, zero, suc, get_or, ◌+◌, ◌%◌, ◌<◌, ◌≤◌, cond, List, [], ◌∷◌, length, refl, sym, ap, ◌∙◌, subst, inl, inr, arith, mod-eq_of_lt}
use Rattle.std.proofs.Math.Nat.{zero-mod}
use Rattle.std.proofs.lemmas.Bool.{cond-true, cond-false}
use Rattle.std.proofs.lemmas.Cmp.{tied_itself}
use Rattle.std.specs.declared.cmp.Ordering.{Ordering}
use Rattle.std.specs.declared.cmp.Ordering.TheVariants.{Equal, Greater}
use Rattle.ffc_ring.specs.Monomial.{Monomial, IsMonomial, degree, same_monomial}
use Rattle.ffc_ring.specs.Polynomial.{Terms, AreTerms, written, coefficient, SamePolynomial, PassesDegree, IsNoneOf, AreItsMonomials, PassesTerms}
use Rattle.ffc_ring.proofs.PolynomialLemmas.{written-at, written-off, cases_monomial, same_monomial-equal, same_monomial-other}
use Rattle.ffc_mono.specs.MonomialOrder.{IsMonomialOrder}
use Rattle.ffc_mono.specs.Leading.{IsLeading}
use Rattle.ffc_poly.specs.Ordered.{IsAbove, IsOrdered, IsConstant, AreWithin, HasDegree, RowFits, ProductFits}

pub AreTerms-ordered : (p : ℕ) (cmp : Monomial → Monomial → Ordering) (limit : ℕ) (ts : Terms) → IsOrdered p cmp limit ts → AreTerms ts
AreTerms-ordered p cmp limit [] h = tt
AreTerms-ordered p cmp limit (t ∷ ts) h = (h.2, AreTerms-ordered p cmp limit ts h.5)

pub coefficient-none : (p : ℕ) (m : Monomial) → coefficient p [] m ≡ 0
coefficient-none p m = zero-mod p

pub coefficient-other : (p : ℕ) (t : ℕ × Monomial) (ts : Terms) (m : Monomial) → t.1 ≢ m → coefficient p (t ∷ ts) m ≡ coefficient p ts m
coefficient-other p t ts m ne = ap (λ k. k % p) (written-off m t ts ne)

-- a monomial with a coefficient is within the greatest degree
pub degree_within : (p d : ℕ) (ts : Terms) (m : Monomial) → AreWithin d ts → coefficient p ts m ≢ 0 → degree m ≤ d
degree_within p d [] m w h = absurd (h (coefficient-none p m))
degree_within p d (t ∷ ts) m w h =
    elim (cases_monomial t.1 m) [
      | inl here ↦ subst (λ k. degree k ≤ d) here w.0
      | inr there ↦ degree_within p d ts m w.1 (λ e. h (coefficient-other p t ts m there ∙ e))
    ]

pub PassesDegree-within : (p limit d e : ℕ) (a b : Terms) → AreWithin d a → AreWithin e b → d + e ≤ limit → PassesDegree p limit a b → ⊥
PassesDegree-within p limit d e a b v w h (m, n, hm, hn, over) =
    omega (arith, degree_within p d a m v hm, degree_within p e b n w hn)

pub RowFits-within : (limit d : ℕ) (m : Monomial) (ts : Terms) → AreWithin d ts → degree m + d ≤ limit → RowFits limit m ts
RowFits-within limit d m [] w h = tt
RowFits-within limit d m (t ∷ ts) w h = (omega (arith, w.0), RowFits-within limit d m ts w.1 h)

pub ProductFits-within : (limit d e : ℕ) (a b : Terms) → AreWithin d a → AreWithin e b → d + e ≤ limit → ProductFits limit a b
ProductFits-within limit d e [] b v w h = tt
ProductFits-within limit d e (t ∷ a) b v w h = (RowFits-within limit e t.1 b w (omega (arith, v.0)), ProductFits-within limit d e a b v.1 w h)

pub ProductFits-at : (limit : ℕ) (a b : Terms) (i : ℕ) → ProductFits limit a b → i < length a → RowFits limit (get_or a i (0, [])).1 b
ProductFits-at limit [] b i h g = absurd (omega arith)
ProductFits-at limit (t ∷ a) b zero h g = h.0
ProductFits-at limit (t ∷ a) b (suc i) h g = ProductFits-at limit a b i h.1 (omega arith)

pub IsOrdered-at : (p : ℕ) (cmp : Monomial → Monomial → Ordering) (limit : ℕ) (a : Terms) (i : ℕ) → IsOrdered p cmp limit a → i < length a → (0 < (get_or a i (0, [])).0) × ((get_or a i (0, [])).0 < p)
IsOrdered-at p cmp limit [] i h g = absurd (omega arith)
IsOrdered-at p cmp limit (t ∷ a) zero h g = (h.0, h.1)
IsOrdered-at p cmp limit (t ∷ a) (suc i) h g = IsOrdered-at p cmp limit a i h.5 (omega arith)

-- the monomials of a list
abbrev pub monomials_of : Terms → List Monomial
monomials_of [] = []
monomials_of (t ∷ ts) = t.1 ∷ monomials_of ts

pub length-monomials_of : (ts : Terms) → length (monomials_of ts) ≡ length ts
length-monomials_of [] = refl
length-monomials_of (t ∷ ts) = ap suc (length-monomials_of ts)

-- the monomials without one of them
abbrev removed : Monomial → List Monomial → List Monomial
removed m [] = []
removed m (n ∷ ns) = cond (same_monomial n m) (removed m ns) (n ∷ removed m ns)

removed-at : (m n : Monomial) (ns : List Monomial) → n ≡ m → removed m (n ∷ ns) ≡ removed m ns
removed-at m n ns e = cond-true _ _ _ (same_monomial-equal n m e)

removed-off : (m n : Monomial) (ns : List Monomial) → n ≢ m → removed m (n ∷ ns) ≡ n ∷ removed m ns
removed-off m n ns e = cond-false _ _ _ (same_monomial-other n m e)

-- of different monomials at most one is removed
length-removed_none : (m : Monomial) (ns : List Monomial) → IsNoneOf ns m → removed m ns ≡ ns
length-removed_none m [] h = refl
length-removed_none m (n ∷ ns) h = removed-off m n ns h.0 ∙ ap (λ k. n ∷ k) (length-removed_none m ns h.1)

length-removed : (p : ℕ) (all : Terms) (m : Monomial) (ns : List Monomial) → AreItsMonomials p all ns → length ns ≤ suc (length (removed m ns))
length-removed p all m [] d = omega arith
length-removed p all m (n ∷ ns) d =
    elim (cases_monomial n m) [
      | inl here ↦
          let none : removed m ns ≡ ns = length-removed_none m ns (subst (IsNoneOf ns) here d.1) in
          rw (removed-at m n ns here) (omega (arith, ap length none))
      | inr there ↦ rw (removed-off m n ns there) (omega (arith, length-removed p all m ns d.2))
    ]

IsNoneOf-removed : (m k : Monomial) (ns : List Monomial) → IsNoneOf ns k → IsNoneOf (removed m ns) k
IsNoneOf-removed m k [] h = tt
IsNoneOf-removed m k (n ∷ ns) h =
    elim (cases_monomial n m) [
      | inl here ↦ rw (removed-at m n ns here) (IsNoneOf-removed m k ns h.1)
      | inr there ↦ rw (removed-off m n ns there) (h.0, IsNoneOf-removed m k ns h.1)
    ]

-- the monomials but the first term's have coefficients after it
removed_after : (p : ℕ) (all : Terms) (t : ℕ × Monomial) (ts : Terms) (ns : List Monomial) → ((m : Monomial) → coefficient p all m ≢ 0 → coefficient p (t ∷ ts) m ≢ 0) → AreItsMonomials p all ns → AreItsMonomials p ts (removed t.1 ns)
removed_after p all t ts [] into d = tt
removed_after p all t ts (n ∷ ns) into d =
    elim (cases_monomial n t.1) [
      | inl here ↦ rw (removed-at t.1 n ns here) (removed_after p all t ts ns into d.2)
      | inr there ↦
          rw (removed-off t.1 n ns there)
          ((λ e. into n d.0 (coefficient-other p t ts n (λ k. there (sym k)) ∙ e)), IsNoneOf-removed t.1 n ns d.1, removed_after p all t ts ns into d.2)
    ]

-- so many different monomials with coefficients need as many terms
monomials_no_more : (p : ℕ) (all ts : Terms) (ns : List Monomial) → ((m : Monomial) → coefficient p all m ≢ 0 → coefficient p ts m ≢ 0) → AreItsMonomials p all ns → length ns ≤ length ts
monomials_no_more p all [] [] into d = omega arith
monomials_no_more p all [] (n ∷ ns) into d = absurd (into n d.0 (coefficient-none p n))
monomials_no_more p all (t ∷ ts) ns into d =
    omega (arith, length-removed p all t.1 ns d, monomials_no_more p ts ts (removed t.1 ns) (λ m h. h) (removed_after p all t ts ns into d))

pub PassesTerms-length : (p limit : ℕ) (ts : Terms) → length ts ≤ limit → PassesTerms p limit ts → ⊥
PassesTerms-length p limit ts h (ms, long, d) = omega (arith, monomials_no_more p ts ts ms (λ m k. k) d)

AreItsMonomials-same : (p : ℕ) (ts us : Terms) → SamePolynomial p ts us → (ms : List Monomial) → AreItsMonomials p ts ms → AreItsMonomials p us ms
AreItsMonomials-same p ts us same [] d = tt
AreItsMonomials-same p ts us same (m ∷ ms) d = ((λ e. d.0 (same m ∙ e)), d.1, AreItsMonomials-same p ts us same ms d.2)

pub PassesTerms-same : (p limit : ℕ) (ts us : Terms) → SamePolynomial p ts us → PassesTerms p limit ts → PassesTerms p limit us
PassesTerms-same p limit ts us same (ms, long, d) = (ms, long, AreItsMonomials-same p ts us same ms d)

module _ (p : ℕ) (cmp : Monomial → Monomial → Ordering) (laws : IsMonomialOrder cmp) (limit : ℕ) where
  pub not_itself : (m n : Monomial) → cmp m n ≡ Greater → m ≢ n
  not_itself m n e same =
      let tied : Equal ≡ Greater = sym (tied_itself laws.total m) ∙ ap (cmp m) same ∙ e in absurd (cc tied)

  -- a monomial above all terms has no coefficient
  pub coefficient-above : (m : Monomial) (ts : Terms) → IsAbove cmp m ts → coefficient p ts m ≡ 0
  coefficient-above m [] h = coefficient-none p m
  coefficient-above m (t ∷ ts) h =
      coefficient-other p t ts m (λ e. not_itself m t.1 h.0 (sym e)) ∙ coefficient-above m ts h.1

  written-above : (m : Monomial) (ts : Terms) → IsAbove cmp m ts → written ts m ≡ 0
  written-above m [] h = refl
  written-above m (t ∷ ts) h = written-off m t ts (λ e. not_itself m t.1 h.0 (sym e)) ∙ written-above m ts h.1

  pub coefficient-first : (t : ℕ × Monomial) (ts : Terms) → IsOrdered p cmp limit (t ∷ ts) → coefficient p (t ∷ ts) t.1 ≡ t.0
  coefficient-first t ts h =
      ap (λ k. k % p) (written-at t.1 t ts refl ∙ ap (λ k. t.0 + k) (written-above t.1 ts h.4) ∙ omega arith) ∙ mod-eq_of_lt h.1

  pub first_nonzero : (t : ℕ × Monomial) (ts : Terms) → IsOrdered p cmp limit (t ∷ ts) → coefficient p (t ∷ ts) t.1 ≢ 0
  first_nonzero t ts h e = omega (arith, coefficient-first t ts h, h.0)

  -- what has a coefficient after the first term has it in the whole
  pub nonzero_after : (t : ℕ × Monomial) (ts : Terms) → IsOrdered p cmp limit (t ∷ ts) → (m : Monomial) → coefficient p ts m ≢ 0 → coefficient p (t ∷ ts) m ≢ 0
  nonzero_after t ts h m ne e =
      elim (cases_monomial t.1 m) [
        | inl here ↦ ne (ap (coefficient p ts) (sym here) ∙ coefficient-above t.1 ts h.4)
        | inr there ↦ ne (sym (coefficient-other p t ts m there) ∙ e)
      ]

  -- some monomial with a coefficient has this degree
  pub monomial_of_degree : (d : ℕ) (ts : Terms) → IsOrdered p cmp limit ts → HasDegree d ts → (m : Monomial) × (coefficient p ts m ≢ 0) × (degree m ≡ d)
  monomial_of_degree d [] h e = absurd e
  monomial_of_degree d (t ∷ ts) h (inl e) = (t.1, first_nonzero t ts h, e)
  monomial_of_degree d (t ∷ ts) h (inr e) =
      let found = monomial_of_degree d ts h.5 e in (found.0, nonzero_after t ts h found.0 found.1, found.2)

  pub PassesDegree-reached : (bound d e : ℕ) (a b : Terms) → IsOrdered p cmp limit a → IsOrdered p cmp limit b → HasDegree d a → HasDegree e b → bound < d + e → PassesDegree p bound a b
  PassesDegree-reached bound d e a b v w h k over =
      let m = monomial_of_degree d a v h in
      let n = monomial_of_degree e b w k in
      (m.0, n.0, m.1, n.1, omega (arith, m.2, n.2))

  none_of_above : (m : Monomial) (ts : Terms) → IsAbove cmp m ts → IsNoneOf (monomials_of ts) m
  none_of_above m [] h = tt
  none_of_above m (t ∷ ts) h = (λ e. not_itself m t.1 h.0 (sym e), none_of_above m ts h.1)

  its_monomials : (all ts : Terms) → IsOrdered p cmp limit ts → ((m : Monomial) → coefficient p ts m ≢ 0 → coefficient p all m ≢ 0) → AreItsMonomials p all (monomials_of ts)
  its_monomials all [] h into = tt
  its_monomials all (t ∷ ts) h into =
      (into t.1 (first_nonzero t ts h), none_of_above t.1 ts h.4, its_monomials all ts h.5 (λ m ne. into m (nonzero_after t ts h m ne)))

  -- a list that is too long passes
  pub PassesTerms-long : (bound : ℕ) (ts all : Terms) → IsOrdered p cmp limit ts → SamePolynomial p ts all → bound < length ts → PassesTerms p bound all
  PassesTerms-long bound ts all h same long =
      (monomials_of ts, subst (λ k. bound < k) (sym (length-monomials_of ts)) long, its_monomials all ts h (λ m ne e. ne (same m ∙ e)))

  -- no more different monomials have coefficients than there are terms
  monomials_bounded : (ts all : Terms) (ms : List Monomial) → ((m : Monomial) → coefficient p all m ≢ 0 → coefficient p ts m ≢ 0) → AreItsMonomials p all ms → length ms ≤ length ts
  monomials_bounded [] all [] into d = omega arith
  monomials_bounded [] all (m ∷ ms) into d = absurd (into m d.0 (coefficient-none p m))
  monomials_bounded (t ∷ ts) all ms into d =
      let rest : length (removed t.1 ms) ≤ length ts = monomials_bounded ts ts (removed t.1 ms) (λ m ne. ne) (removed_after p all t ts ms into d) in
      omega (arith, length-removed p all t.1 ms d)

  pub PassesTerms-short : (bound : ℕ) (ts all : Terms) → SamePolynomial p ts all → length ts ≤ bound → PassesTerms p bound all → ⊥
  PassesTerms-short bound ts all same short (ms, long, d) =
      omega (arith, monomials_bounded ts all ms (λ m ne e. ne (sym (same m) ∙ e)) d)

  -- ---- the leading term

  pub above_with : (m : Monomial) (ts : Terms) → IsAbove cmp m ts → (n : Monomial) → coefficient p ts n ≢ 0 → cmp m n ≡ Greater
  above_with m [] h n ne = absurd (ne (coefficient-none p n))
  above_with m (t ∷ ts) h n ne =
      elim (cases_monomial t.1 n) [
        | inl here ↦ ap (cmp m) (sym here) ∙ h.0
        | inr there ↦ above_with m ts h.1 n (λ e. ne (coefficient-other p t ts n there ∙ e))
      ]

  pub IsLeading-first : (t : ℕ × Monomial) (ts : Terms) → IsOrdered p cmp limit (t ∷ ts) → IsLeading p cmp (t ∷ ts) t.0 t.1
  IsLeading-first t ts h = (
    coefficient-first t ts h,
    (λ e. omega (arith, h.0)),
    λ n ne off. above_with t.1 ts h.4 n (λ e. ne (coefficient-other p t ts n (λ k. off (sym k)) ∙ e)),
  )

-- ---- factors in the other order

column_fits : (limit : ℕ) (a : Terms) (t : ℕ × Monomial) (b : Terms) → ProductFits limit a (t ∷ b) → RowFits limit t.1 a × ProductFits limit a b
column_fits limit [] t b h = (tt, tt)
column_fits limit (s ∷ a) t b h =
    let rest = column_fits limit a t b h.1 in ((omega (arith, h.0.0), rest.0), (h.0.1, rest.1))

pub ProductFits-swap : (limit : ℕ) (a b : Terms) → ProductFits limit a b → ProductFits limit b a
ProductFits-swap limit a [] h = tt
ProductFits-swap limit a (t ∷ b) h =
    let column = column_fits limit a t b h in (column.0, ProductFits-swap limit a b column.1)

-- ---- constants

pub degree_zero : (m : Monomial) → IsMonomial m → degree m ≡ 0 → m ≡ []
degree_zero [] v e = refl
degree_zero (q ∷ m) v e = absurd (omega arith)

module _ (p : ℕ) (cmp : Monomial → Monomial → Ordering) (laws : IsMonomialOrder cmp) (limit : ℕ) where
  nothing_below_one : (ts : Terms) → IsOrdered p cmp limit ts → IsAbove cmp [] ts → ts ≡ []
  nothing_below_one [] o h = refl
  nothing_below_one (t ∷ ts) o h = absurd (laws.least t.1 o.2 h.0)

  -- a polynomial whose leading monomial is 1 is constant
  pub IsConstant-from_first : (t : ℕ × Monomial) (ts : Terms) → IsOrdered p cmp limit (t ∷ ts) → degree t.1 ≡ 0 → IsConstant p (t ∷ ts)
  IsConstant-from_first t ts o e m ne =
      let one : t.1 ≡ [] = degree_zero t.1 o.2 e in
      let alone : ts ≡ [] = nothing_below_one ts o.5 (subst (λ k. IsAbove cmp k ts) one o.4) in
      elim (cases_monomial t.1 m) [
        | inl here ↦ sym here ∙ one
        | inr there ↦ absurd (ne (coefficient-other p t ts m there ∙ ap (λ k. coefficient p k m) alone ∙ coefficient-none p m))
      ]

  pub first_of_constant : (t : ℕ × Monomial) (ts : Terms) → IsOrdered p cmp limit (t ∷ ts) → IsConstant p (t ∷ ts) → degree t.1 ≡ 0
  first_of_constant t ts o h = ap degree (h t.1 (first_nonzero p cmp laws limit t ts o))

-- one term and a term of that degree pass the limit
pub PassesDegree-reached_term : (p : ℕ) (cmp : Monomial → Monomial → Ordering) → IsMonomialOrder cmp → (limit bound c : ℕ) (m : Monomial) (e : ℕ) (b : Terms) → c ≢ 0 → c < p → IsOrdered p cmp limit b → HasDegree e b → bound < degree m + e → PassesDegree p bound ((c, m) ∷ []) b
PassesDegree-reached_term p cmp laws limit bound c m e b ne below o h over =
    let n = monomial_of_degree p cmp laws limit e b o h in
    (m, n.0, (λ z. ne (sym (ap (λ k. k % p) (written-at m (c, m) [] refl ∙ omega arith) ∙ mod-eq_of_lt below) ∙ z)), n.1, omega (arith, n.2))
