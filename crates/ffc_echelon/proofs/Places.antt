-- Elements at places of a list that is pushed to or written.
use Rattle.std.proofs.Common.{◌≡◌, ℕ, zero, suc, ◌<◌, ◌⊎◌, List, [], ◌∷◌, ◌++◌, Some, length, set, replicate, inl, inr, refl, ap, arith}
use Rattle.std.specs.Prelude.{slice_get}
use Rattle.std.proofs.lemmas.Option.{same_Some}

pub slice_get-push_old : {X : Type 0} (xs : List X) (y : X) (j : ℕ) (x : X) → slice_get xs j ≡ Some x → slice_get (xs ++ y ∷ []) j ≡ Some x
slice_get-push_old [] y j x at = cc
slice_get-push_old (z ∷ xs) y zero x at = at
slice_get-push_old (z ∷ xs) y (suc j) x at = slice_get-push_old xs y j x at

pub slice_get-push_new : {X : Type 0} (xs : List X) (y : X) → slice_get (xs ++ y ∷ []) (length xs) ≡ Some y
slice_get-push_new [] y = refl
slice_get-push_new (z ∷ xs) y = slice_get-push_new xs y

pub cases_push : {X : Type 0} (xs : List X) (y : X) (j : ℕ) (x : X) → slice_get (xs ++ y ∷ []) j ≡ Some x → (slice_get xs j ≡ Some x) ⊎ ((j ≡ length xs) × (y ≡ x))
cases_push [] y zero x at = inr (refl, same_Some y x at)
cases_push [] y (suc j) x at = cc
cases_push (z ∷ xs) y zero x at = inl at
cases_push (z ∷ xs) y (suc j) x at = elim (cases_push xs y j x at) [
  | inl old ↦ inl old
  | inr new ↦ inr (ap suc new.0, new.1)
]

pub slice_get-set_same : {X : Type 0} (xs : List X) (i : ℕ) (y : X) → i < length xs → slice_get (set xs i y) i ≡ Some y
slice_get-set_same [] i y within = absurd (omega arith)
slice_get-set_same (x ∷ xs) zero y within = refl
slice_get-set_same (x ∷ xs) (suc i) y within = slice_get-set_same xs i y (omega arith)

pub slice_get-set_other : {X : Type 0} (xs : List X) (i j : ℕ) (y : X) → (j ≡ i → ⊥) → slice_get (set xs i y) j ≡ slice_get xs j
slice_get-set_other [] i j y other = refl
slice_get-set_other (x ∷ xs) zero zero y other = absurd (other refl)
slice_get-set_other (x ∷ xs) zero (suc j) y other = refl
slice_get-set_other (x ∷ xs) (suc i) zero y other = refl
slice_get-set_other (x ∷ xs) (suc i) (suc j) y other = slice_get-set_other xs i j y (λ same. other (ap suc same))

pub slice_get-replicate : {X : Type 0} (n i : ℕ) (y x : X) → slice_get (replicate n y) i ≡ Some x → y ≡ x
slice_get-replicate zero i y x at = cc
slice_get-replicate (suc n) zero y x at = same_Some y x at
slice_get-replicate (suc n) (suc i) y x at = slice_get-replicate n i y x at
