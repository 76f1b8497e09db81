-- All monomials in given variables up to a degree, listed: those without the first variable, and it times those of one degree
-- less.
use Rattle.std.proofs.Common.{◌≡◌, ℕ, zero, suc, ◌+◌, List, [], ◌∷◌, ◌++◌, length, map, refl, sym, ap, ◌∙◌, inl, inr, arith, length-append, zero-add}
use Rattle.std.proofs.lemmas.Bool.{cases_eq}
use Rattle.ffc_field.specs.Binomial.{choose, choose-none, choose-all}
use Rattle.ffc_ring.specs.Monomial.{Monomial, IsMonomial, exponent, mono_mul}
use Rattle.ffc_ring.specs.Polynomial.{IsNoneOf}
use Rattle.ffc_ring.specs.Counting.{IsAmong, IsIn, AreUpTo, AreDifferent, AreApart}
use Rattle.ffc_ring.proofs.CountingLemmas.{pascal, variable_is}
use Rattle.ffc_ring.proofs.MonomialLemmas.{exponent-here, exponent-there, IsMonomial-mono_mul, exponent-mono_mul, degree-mono_mul, mono_mul_cancel}

-- the variable times a monomial
abbrev raised : ℕ → Monomial → Monomial
raised v m = mono_mul ((v, 1) ∷ []) m

exponent-raised : (v : ℕ) (m : Monomial) → IsMonomial m → exponent (raised v m) v ≡ 1 + exponent m v
exponent-raised v m w = exponent-mono_mul ((v, 1) ∷ []) m (variable_is v) w v ∙ ap (λ n. n + exponent m v) (exponent-here (v, 1) [] v refl)

-- ---- those with the variable, and those without it

IsNoneOf-append : (xs ys : List Monomial) (m : Monomial) → IsNoneOf xs m → IsNoneOf ys m → IsNoneOf (xs ++ ys) m
IsNoneOf-append [] ys m h g = g
IsNoneOf-append (x ∷ xs) ys m h g = (h.0, IsNoneOf-append xs ys m h.1 g)

IsNoneOf-raised : (v : ℕ) (vs : List ℕ) (d : ℕ) (m : Monomial) (ms : List Monomial) → exponent m v ≡ 0 → AreUpTo vs d ms → IsNoneOf (map (raised v) ms) m
IsNoneOf-raised v vs d m [] none u = tt
IsNoneOf-raised v vs d m (n ∷ ms) none u = (
  λ same. absurd (omega (arith, exponent-raised v n u.0, ap (λ k. exponent k v) same)),
  IsNoneOf-raised v vs d m ms none u.3,
)

-- a monomial in other variables
without : (v : ℕ) (vs : List ℕ) (m : Monomial) → (IsAmong vs v → ⊥) → IsIn vs m → exponent m v ≡ 0
without v vs m apart within = elim (cases_eq (exponent m v) 0) [ inl none ↦ none | inr some ↦ absurd (apart (within v some)) ]

different-parts : (v : ℕ) (vs ws : List ℕ) (d e : ℕ) (xs ys : List Monomial) → (IsAmong vs v → ⊥) → AreUpTo vs d xs → AreUpTo ws e ys → AreDifferent xs → AreDifferent (map (raised v) ys) → AreDifferent (xs ++ map (raised v) ys)
different-parts v vs ws d e [] ys apart u w h g = g
different-parts v vs ws d e (x ∷ xs) ys apart u w h g = (
  IsNoneOf-append xs (map (raised v) ys) x h.0 (IsNoneOf-raised v ws e x ys (without v vs x apart u.1) w),
  different-parts v vs ws d e xs ys apart u.3 w h.1 g,
)

raised_apart : (v : ℕ) (vs : List ℕ) (d : ℕ) (m : Monomial) (ms : List Monomial) → IsMonomial m → AreUpTo vs d ms → IsNoneOf ms m → IsNoneOf (map (raised v) ms) (raised v m)
raised_apart v vs d m [] w u h = tt
raised_apart v vs d m (n ∷ ms) w u h = (
  λ same. h.0 (mono_mul_cancel ((v, 1) ∷ []) n m (variable_is v) u.0 w same),
  raised_apart v vs d m ms w u.3 h.1,
)

different-raised : (v : ℕ) (vs : List ℕ) (d : ℕ) (ms : List Monomial) → AreUpTo vs d ms → AreDifferent ms → AreDifferent (map (raised v) ms)
different-raised v vs d [] u h = tt
different-raised v vs d (m ∷ ms) u h = (raised_apart v vs d m ms u.0 u.3 h.0, different-raised v vs d ms u.3 h.1)

length-raised : (v : ℕ) (ms : List Monomial) → length (map (raised v) ms) ≡ length ms
length-raised v [] = refl
length-raised v (m ∷ ms) = ap suc (length-raised v ms)

-- ---- degrees

up_to-append : (vs : List ℕ) (d : ℕ) (xs ys : List Monomial) → AreUpTo vs d xs → AreUpTo vs d ys → AreUpTo vs d (xs ++ ys)
up_to-append vs d [] ys u w = w
up_to-append vs d (x ∷ xs) ys u w = (u.0, u.1, u.2, up_to-append vs d xs ys u.3 w)

up_to-more : (v : ℕ) (vs : List ℕ) (d : ℕ) (ms : List Monomial) → AreUpTo vs d ms → AreUpTo (v ∷ vs) d ms
up_to-more v vs d [] u = tt
up_to-more v vs d (m ∷ ms) u = (u.0, λ x some. inr (u.1 x some), u.2, up_to-more v vs d ms u.3)

in-raised : (v : ℕ) (vs : List ℕ) (m : Monomial) → IsMonomial m → IsIn (v ∷ vs) m → IsIn (v ∷ vs) (raised v m)
in-raised v vs m w within x some = elim (cases_eq x v) [
  | inl same ↦ inl same
  | inr other ↦
      within x (λ none. some (exponent-mono_mul ((v, 1) ∷ []) m (variable_is v) w x ∙ ap (λ n. n + exponent m x) (exponent-there (v, 1) [] x other) ∙ zero-add (exponent m x) ∙ none))
]

up_to-raised : (v : ℕ) (vs : List ℕ) (d : ℕ) (ms : List Monomial) → AreUpTo (v ∷ vs) d ms → AreUpTo (v ∷ vs) (suc d) (map (raised v) ms)
up_to-raised v vs d [] u = tt
up_to-raised v vs d (m ∷ ms) u = (
  IsMonomial-mono_mul ((v, 1) ∷ []) m (variable_is v) u.0,
  in-raised v vs m u.0 u.1,
  omega (arith, degree-mono_mul ((v, 1) ∷ []) m, u.2),
  up_to-raised v vs d ms u.3,
)

-- ---- all of them

-- 1 alone
only_one : (vs : List ℕ) (d : ℕ) → AreUpTo vs d ([] ∷ [])
only_one vs d = (tt, λ x some. absurd (some refl), omega arith, tt)

pub count_is_reached : (vs : List ℕ) (d : ℕ) → AreApart vs → (ms : List Monomial) × AreDifferent ms × AreUpTo vs d ms × (length ms ≡ choose (length vs + d) d)
count_is_reached [] d apart =
    let all : 1 ≡ choose (0 + d) d = sym (ap (λ k. choose k d) (let same : 0 + d ≡ d = omega arith in same) ∙ choose-all d) in
    ([] ∷ [], (tt, tt), only_one [] d, all)
count_is_reached (v ∷ vs) zero apart = ([] ∷ [], (tt, tt), only_one (v ∷ vs) 0, sym (choose-none (length (v ∷ vs) + 0)))
count_is_reached (v ∷ vs) (suc d) apart =
    let others = count_is_reached vs (suc d) apart.1 in
    let lower = count_is_reached (v ∷ vs) d apart in
    let raised_ones = map (raised v) lower.0 in
    let sum : suc (length vs) + suc d ≡ suc (length vs + suc d) = omega arith in
    let same : suc (length vs) + d ≡ length vs + suc d = omega arith in (
      others.0 ++ raised_ones,
      different-parts v vs (v ∷ vs) (suc d) d others.0 lower.0 apart.0 others.2 lower.2 others.1 (different-raised v (v ∷ vs) d lower.0 lower.2 lower.1),
      up_to-append (v ∷ vs) (suc d) others.0 raised_ones (up_to-more v vs (suc d) others.0 others.2) (up_to-raised v vs d lower.0 lower.2),
      omega (
        arith,
        length-append others.0 raised_ones,
        length-raised v lower.0,
        others.3,
        lower.3,
        ap (λ k. choose k (suc d)) sum,
        pascal (length vs + suc d) d,
        ap (λ k. choose k d) same,
      ),
    )
