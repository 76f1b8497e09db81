-- The variables of finitely many monomials.
use Rattle.std.proofs.Common.{◌≡◌, ℕ, zero, suc, ◌<◌, List, [], ◌∷◌, ◌++◌, refl, ◌∙◌, subst, inl, inr, arith}
use Rattle.std.proofs.lemmas.Bool.{cases_eq, cases_lt}
use Rattle.ffc_ring.specs.Monomial.{Monomial, IsMonomial, exponent, mono_mul, mono_quotient}
use Rattle.ffc_ring.specs.Counting.{IsAmong, IsIn}
use Rattle.ffc_ring.proofs.MonomialLemmas.{exponent-there, exponent-mono_mul, exponent-mono_quotient}

-- each of these variables is one of those
abbrev pub AreAmong : List ℕ → List ℕ → Type 0
AreAmong vs ws = (x : ℕ) → IsAmong vs x → IsAmong ws x

pub among_first : (vs ws : List ℕ) → AreAmong vs (vs ++ ws)
among_first [] ws x h = absurd h
among_first (v ∷ vs) ws x (inl here) = inl here
among_first (v ∷ vs) ws x (inr there) = inr (among_first vs ws x there)

pub among_second : (vs ws : List ℕ) → AreAmong ws (vs ++ ws)
among_second [] ws x h = h
among_second (v ∷ vs) ws x h = inr (among_second vs ws x h)

pub in_more : (vs ws : List ℕ) (m : Monomial) → AreAmong vs ws → IsIn vs m → IsIn ws m
in_more vs ws m among h x some = among x (h x some)

pub in_product : (vs : List ℕ) (m n : Monomial) → IsMonomial m → IsMonomial n → IsIn vs m → IsIn vs n → IsIn vs (mono_mul m n)
in_product vs m n v w in_m in_n x some =
    elim (cases_eq (exponent m x) 0) [
      | inl none ↦ in_n x (λ nothing. some (omega (arith, exponent-mono_mul m n v w x)))
      | inr found ↦ in_m x found
    ]

pub in_quotient : (vs : List ℕ) (m n : Monomial) → IsMonomial m → IsIn vs m → IsIn vs (mono_quotient m n)
in_quotient vs m n v in_m x some = in_m x (λ none. some (omega (arith, exponent-mono_quotient 0 m n x v)))

abbrev pub variables_of : Monomial → List ℕ
variables_of [] = []
variables_of (p ∷ m) = p.0 ∷ variables_of m

pub in_own_variables : (m : Monomial) → IsIn (variables_of m) m
in_own_variables [] x some = absurd (some refl)
in_own_variables (p ∷ m) x some =
    elim (cases_eq x p.0) [
      | inl here ↦ inl here
      | inr there ↦ inr (in_own_variables m x (λ none. some (exponent-there p m x there ∙ none)))
    ]

-- some variables serve each of finitely many cases, where more variables serve as well
pub serve_all : (n : ℕ) (P : ℕ → List ℕ → Type 0) → ((i : ℕ) (vs ws : List ℕ) → AreAmong vs ws → P i vs → P i ws) → ((i : ℕ) → i < n → (vs : List ℕ) × P i vs) → (vs : List ℕ) × ((i : ℕ) → i < n → P i vs)
serve_all zero P more each = ([], λ i h. absurd (omega arith))
serve_all (suc n) P more each =
    let first = serve_all n P more (λ i h. each i (omega arith)) in
    let last = each n (omega arith) in
    let vs = first.0 ++ last.0 in (
      vs,
      λ i h.
          elim (cases_lt i n) [
            | inl below ↦ more i first.0 vs (among_first first.0 last.0) (first.1 i below)
            | inr above ↦
                let is : n ≡ i = omega arith in
                subst (λ k. P k vs) is (more n last.0 vs (among_second first.0 last.0) last.1)
          ],
    )
