-- The count of the monomials in given variables up to a degree, by Pascal's rule: those without the first variable, and
-- the others divided by it.
use Rattle.std.proofs.Common.{◌≡◌, ◌≢◌, ℕ, zero, suc, ◌+◌, ◌-◌, ◌≤◌, cond, eqb, List, [], ◌∷◌, length, refl, sym, ap, ◌∙◌, inl, inr, arith, eq-eqb, ne_eqb}
use Rattle.std.proofs.lemmas.Bool.{cond-true, cond-false, cases_eq}
use Rattle.ffc_field.specs.Binomial.{choose, choose-none, choose-all}
use Rattle.ffc_ring.specs.Monomial.{Monomial, IsMonomial, exponent, degree, mono_mul, mono_quotient, Divides}
use Rattle.ffc_ring.specs.Polynomial.{IsNoneOf}
use Rattle.ffc_ring.specs.Counting.{IsIn, AreUpTo, AreDifferent}
use Rattle.ffc_ring.proofs.MonomialLemmas.{exponent-here, exponent-there, exponent-mono_quotient, IsMonomialFrom-mono_quotient, degree-mono_quotient, mono_mul-mono_quotient}

nothing_less : (x : ℕ) → 0 - x ≡ 0
nothing_less x = omega arith

pub pascal : (n k : ℕ) → choose (suc n) (suc k) ≡ choose n k + choose n (suc k)
unfolding choose
pascal n k = refl

-- ---- where 1 is the only monomial

no_power : (p : ℕ × ℕ) (m : Monomial) → IsMonomial (p ∷ m) → exponent (p ∷ m) p.0 ≢ 0
no_power p m v none = omega (arith, exponent-here p m p.0 refl, none, v.1)

of_no_degree : (m : Monomial) → IsMonomial m → degree m ≤ 0 → m ≡ []
of_no_degree [] v h = refl
of_no_degree (p ∷ m) v h = absurd (omega (arith, v.1))

in_no_variables : (m : Monomial) → IsMonomial m → IsIn [] m → m ≡ []
in_no_variables [] v h = refl
in_no_variables (p ∷ m) v h = absurd (h p.0 (no_power p m v))

only_one : (vs : List ℕ) (d : ℕ) (ms : List Monomial) → ((m : Monomial) → IsMonomial m → IsIn vs m → degree m ≤ d → m ≡ []) → AreDifferent ms → AreUpTo vs d ms → length ms ≤ 1
only_one vs d [] one different up_to = omega arith
only_one vs d (m ∷ []) one different up_to = omega arith
only_one vs d (m ∷ n ∷ ms) one different up_to =
    absurd (
    different.0.0
    (one n up_to.3.0 up_to.3.1 up_to.3.2 ∙ sym (one m up_to.0 up_to.1 up_to.2))
    )

-- ---- the monomials without the first variable

abbrev free : ℕ → List Monomial → List Monomial
free v [] = []
free v (m ∷ ms) = cond (eqb (exponent m v) 0) (m ∷ free v ms) (free v ms)

free-kept : (v : ℕ) (m : Monomial) (ms : List Monomial) → exponent m v ≡ 0 → free v (m ∷ ms) ≡ m ∷ free v ms
free-kept v m ms e = cond-true _ _ _ (eq-eqb (exponent m v) 0 e)

free-left : (v : ℕ) (m : Monomial) (ms : List Monomial) → exponent m v ≢ 0 → free v (m ∷ ms) ≡ free v ms
free-left v m ms e = cond-false _ _ _ (ne_eqb (exponent m v) 0 e)

IsNoneOf-free : (v : ℕ) (k : Monomial) (ms : List Monomial) → IsNoneOf ms k → IsNoneOf (free v ms) k
IsNoneOf-free v k [] h = tt
IsNoneOf-free v k (m ∷ ms) h =
    elim (cases_eq (exponent m v) 0) [
      | inl none ↦ rw (free-kept v m ms none) (h.0, IsNoneOf-free v k ms h.1)
      | inr some ↦ rw (free-left v m ms some) (IsNoneOf-free v k ms h.1)
    ]

different-free : (v : ℕ) (ms : List Monomial) → AreDifferent ms → AreDifferent (free v ms)
different-free v [] d = tt
different-free v (m ∷ ms) d =
    elim (cases_eq (exponent m v) 0) [
      | inl none ↦ rw (free-kept v m ms none) (IsNoneOf-free v m ms d.0, different-free v ms d.1)
      | inr some ↦ rw (free-left v m ms some) (different-free v ms d.1)
    ]

in_others : (v : ℕ) (vs : List ℕ) (m : Monomial) → exponent m v ≡ 0 → IsIn (v ∷ vs) m → IsIn vs m
in_others v vs m none h x some =
    elim (h x some) [
      | inl same ↦ absurd (some (ap (exponent m) same ∙ none))
      | inr among ↦ among
    ]

up_to-free : (v : ℕ) (vs : List ℕ) (d : ℕ) (ms : List Monomial) → AreUpTo (v ∷ vs) d ms → AreUpTo vs d (free v ms)
up_to-free v vs d [] u = tt
up_to-free v vs d (m ∷ ms) u =
    elim (cases_eq (exponent m v) 0) [
      | inl none ↦ rw (free-kept v m ms none) (u.0, in_others v vs m none u.1, u.2, up_to-free v vs d ms u.3)
      | inr some ↦ rw (free-left v m ms some) (up_to-free v vs d ms u.3)
    ]

-- ---- the others, divided by it

abbrev lowered : ℕ → List Monomial → List Monomial
lowered v [] = []
lowered v (m ∷ ms) = cond (eqb (exponent m v) 0) (lowered v ms) (mono_quotient m ((v, 1) ∷ []) ∷ lowered v ms)

lowered-left : (v : ℕ) (m : Monomial) (ms : List Monomial) → exponent m v ≡ 0 → lowered v (m ∷ ms) ≡ lowered v ms
lowered-left v m ms e = cond-true _ _ _ (eq-eqb (exponent m v) 0 e)

lowered-kept : (v : ℕ) (m : Monomial) (ms : List Monomial) → exponent m v ≢ 0 → lowered v (m ∷ ms) ≡ mono_quotient m ((v, 1) ∷ []) ∷ lowered v ms
lowered-kept v m ms e = cond-false _ _ _ (ne_eqb (exponent m v) 0 e)

pub variable_is : (v : ℕ) → IsMonomial ((v, 1) ∷ [])
variable_is v = (omega arith, omega arith, tt)

variable_divides : (v : ℕ) (m : Monomial) → exponent m v ≢ 0 → Divides ((v, 1) ∷ []) m
variable_divides v m some x =
    elim (cases_eq x v) [
      | inl same ↦
          let at : exponent m x ≢ 0 = λ none. some (ap (exponent m) (sym same) ∙ none) in
          let one : exponent ((v, 1) ∷ []) x ≡ 1 = exponent-here (v, 1) [] x same in
          omega arith
      | inr other ↦
          let none : exponent ((v, 1) ∷ []) x ≡ 0 = exponent-there (v, 1) [] x other in
          omega arith
    ]

-- different monomials stay different
lowered_apart : (v : ℕ) (m n : Monomial) → IsMonomial m → IsMonomial n → exponent m v ≢ 0 → exponent n v ≢ 0 → n ≢ m → mono_quotient n ((v, 1) ∷ []) ≢ mono_quotient m ((v, 1) ∷ [])
lowered_apart v m n w u some other ne same =
    ne
    (sym (mono_mul-mono_quotient n ((v, 1) ∷ []) u (variable_is v) (variable_divides v n other))
    ∙ ap (mono_mul ((v, 1) ∷ [])) same
    ∙ mono_mul-mono_quotient m ((v, 1) ∷ []) w (variable_is v) (variable_divides v m some))

IsNoneOf-lowered : (v : ℕ) (vs : List ℕ) (d : ℕ) (k : Monomial) (ms : List Monomial) → IsMonomial k → exponent k v ≢ 0 → AreUpTo vs d ms → IsNoneOf ms k → IsNoneOf (lowered v ms) (mono_quotient k ((v, 1) ∷ []))
IsNoneOf-lowered v vs d k [] w some u h = tt
IsNoneOf-lowered v vs d k (m ∷ ms) w some u h =
    elim (cases_eq (exponent m v) 0) [
      | inl none ↦ rw (lowered-left v m ms none) (IsNoneOf-lowered v vs d k ms w some u.3 h.1)
      | inr other ↦
          rw (lowered-kept v m ms other) (lowered_apart v k m w u.0 some other h.0, IsNoneOf-lowered v vs d k ms w some u.3 h.1)
    ]

different-lowered : (v : ℕ) (vs : List ℕ) (d : ℕ) (ms : List Monomial) → AreUpTo vs d ms → AreDifferent ms → AreDifferent (lowered v ms)
different-lowered v vs d [] u different = tt
different-lowered v vs d (m ∷ ms) u different =
    elim (cases_eq (exponent m v) 0) [
      | inl none ↦ rw (lowered-left v m ms none) (different-lowered v vs d ms u.3 different.1)
      | inr some ↦
          rw (lowered-kept v m ms some)
          (IsNoneOf-lowered v vs d m ms u.0 some u.3 different.0, different-lowered v vs d ms u.3 different.1)
    ]

in_still : (v : ℕ) (vs : List ℕ) (m : Monomial) → IsMonomial m → IsIn vs m → IsIn vs (mono_quotient m ((v, 1) ∷ []))
in_still v vs m w h x some =
    h x (λ none. some (exponent-mono_quotient 0 m ((v, 1) ∷ []) x w ∙ ap (λ k. k - exponent ((v, 1) ∷ []) x) none ∙ nothing_less (exponent ((v, 1) ∷ []) x)))

up_to-lowered : (v : ℕ) (vs : List ℕ) (d : ℕ) (ms : List Monomial) → AreUpTo vs (suc d) ms → AreUpTo vs d (lowered v ms)
up_to-lowered v vs d [] u = tt
up_to-lowered v vs d (m ∷ ms) u =
    elim (cases_eq (exponent m v) 0) [
      | inl none ↦ rw (lowered-left v m ms none) (up_to-lowered v vs d ms u.3)
      | inr some ↦
          rw (lowered-kept v m ms some) (
            IsMonomialFrom-mono_quotient 0 m ((v, 1) ∷ []) u.0,
            in_still v vs m u.0 u.1,
            omega (arith, degree-mono_quotient m ((v, 1) ∷ []) u.0 (variable_is v) (variable_divides v m some), u.2),
            up_to-lowered v vs d ms u.3,
          )
    ]

length-parts : (v : ℕ) (ms : List Monomial) → length ms ≡ length (lowered v ms) + length (free v ms)
length-parts v [] = refl
length-parts v (m ∷ ms) =
    elim (cases_eq (exponent m v) 0) [
      | inl none ↦ rw (lowered-left v m ms none, free-kept v m ms none) (omega (arith, length-parts v ms))
      | inr some ↦ rw (lowered-kept v m ms some, free-left v m ms some) (omega (arith, length-parts v ms))
    ]

-- ---- the count

pub count_of_monomials : (vs : List ℕ) (d : ℕ) (ms : List Monomial) → AreDifferent ms → AreUpTo vs d ms → length ms ≤ choose (length vs + d) d
count_of_monomials [] d ms different u =
    let none : choose (0 + d) d ≡ 1 = ap (λ k. choose k d) (omega arith) ∙ choose-all d in
    omega (arith, none, only_one [] d ms (λ m v h l. in_no_variables m v h) different u)
count_of_monomials (v ∷ vs) zero ms different u =
    omega (arith, choose-none (length (v ∷ vs) + 0), only_one (v ∷ vs) 0 ms (λ m w h l. of_no_degree m w l) different u)
count_of_monomials (v ∷ vs) (suc d) ms different u =
    let others : length (free v ms) ≤ choose (length vs + suc d) (suc d) =
    count_of_monomials vs (suc d) (free v ms) (different-free v ms different) (up_to-free v vs (suc d) ms u) in
    let with_it : length (lowered v ms) ≤ choose (suc (length vs) + d) d =
    count_of_monomials (v ∷ vs) d (lowered v ms) (different-lowered v (v ∷ vs) (suc d) ms u different) (up_to-lowered v (v ∷ vs) d ms u) in
    let sum : suc (length vs) + suc d ≡ suc (length vs + suc d) = omega arith in
    let same : suc (length vs) + d ≡ length vs + suc d = omega arith in
    omega (
      arith,
      length-parts v ms,
      others,
      with_it,
      ap (λ k. choose k (suc d)) sum,
      pascal (length vs + suc d) d,
      ap (λ k. choose k d) same,
    )
