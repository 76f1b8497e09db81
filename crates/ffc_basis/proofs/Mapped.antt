-- A list of which the first elements are mapped.
use Rattle.std.proofs.Common.{◌≡◌, ℕ, zero, suc, ◌+◌, ◌<◌, List, [], ◌∷◌, length, get_or, set, map, drop, refl, sym, ap, ◌∙◌, arith, add-one}
use Rattle.ffc_basis.specs.declared.pair.PairState.{PairState}
use Rattle.ffc_basis.specs.declared.pair.PairState.TheVariants.{Pending, Closed, Represented, Over}
use Rattle.ffc_basis.specs.declared.pair.PairRecord.{PairRecord}
use Rattle.ffc_basis.specs.PairTable.{with_over, over_of}

abbrev pub mapped_to : {A : Type 0} → (A → A) → ℕ → List A → List A
mapped_to f zero xs = xs
mapped_to f (suc i) [] = []
mapped_to f (suc i) (x ∷ xs) = f x ∷ mapped_to f i xs

mapped_suc : {A : Type 0} (f : A → A) (xs : List A) (i : ℕ) (d y : A) → i < length xs → d ≡ get_or (mapped_to f i xs) i d → y ≡ f d → set (mapped_to f i xs) i y ≡ mapped_to f (suc i) xs
mapped_suc f [] i d y h e is = absurd (omega arith)
mapped_suc f (x ∷ xs) zero d y h e is = ap (λ z. z ∷ xs) (is ∙ ap f e)
mapped_suc f (x ∷ xs) (suc i) d y h e is = ap (λ zs. f x ∷ zs) (mapped_suc f xs i d y (omega arith) e is)

pub mapped_next : {A : Type 0} (f : A → A) (xs : List A) (i : ℕ) (d y : A) → i < length xs → d ≡ get_or (mapped_to f i xs) i d → y ≡ f d → set (mapped_to f i xs) i y ≡ mapped_to f (i + 1) xs
mapped_next f xs i d y h e is = mapped_suc f xs i d y h e is ∙ ap (λ n. mapped_to f n xs) (sym (add-one i))

pub mapped_all : {A : Type 0} (f : A → A) (i : ℕ) (xs : List A) → length xs ≡ i → mapped_to f i xs ≡ map f xs
mapped_all f zero [] h = refl
mapped_all f zero (x ∷ xs) h = absurd (omega arith)
mapped_all f (suc i) [] h = refl
mapped_all f (suc i) (x ∷ xs) h = ap (λ ys. f x ∷ ys) (mapped_all f i xs (omega arith))

-- ---- the pairs at which a limit was passed, of a record more

-- a record at which none was passed
pub not_over : (s : PairState) (t : ℕ × ℕ) (ts : List (ℕ × ℕ)) → ((n : ℕ) → s ≡ Over n → ⊥) → with_over s t ts ≡ ts
not_over Pending t ts none = refl
not_over (Closed n) t ts none = refl
not_over (Represented n) t ts none = refl
not_over (Over n) t ts none = absurd (none n refl)

over_drop : (rs : List PairRecord) (i : ℕ) (d : PairRecord) → i < length rs → ((t : ℕ × ℕ) (ts : List (ℕ × ℕ)) → with_over (get_or rs i d).state t ts ≡ ts) → over_of (drop (suc i) rs) ≡ over_of (drop i rs)
over_drop [] i d h none = absurd (omega arith)
over_drop (r ∷ rs) zero d h none = sym (none (r.first, r.second) (over_of rs))
over_drop (r ∷ rs) (suc i) d h none = over_drop rs i d (omega arith) none

-- after a record at which no limit was passed
pub over_next : (rs : List PairRecord) (i : ℕ) (d : PairRecord) → i < length rs → ((t : ℕ × ℕ) (ts : List (ℕ × ℕ)) → with_over (get_or rs i d).state t ts ≡ ts) → over_of (drop i rs) ≡ over_of rs → over_of (drop (i + 1) rs) ≡ over_of rs
over_next rs i d h none so_far = ap (λ n. over_of (drop n rs)) (add-one i) ∙ over_drop rs i d h none ∙ so_far
