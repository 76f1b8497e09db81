-- Facts on lists that std lacks.
use Rattle.std.proofs.Common.{◌≡◌, ℕ, ◌+◌, ◌-◌, ◌≤◌, zero, suc, List, [], ◌∷◌, take, drop, refl, sym, ap, ◌∙◌, arith, Some, None}
use Rattle.std.specs.List.{slice_get}
use Rattle.std.proofs.Math.Seq.{drop-nil}
use Rattle.std.proofs.lemmas.List.{drop-take, take-take}

-- what two drops leave
pub drop-drop : {A : Type 0} (a b : ℕ) (xs : List A) → drop a (drop b xs) ≡ drop (b + a) xs
drop-drop a zero xs = let e : zero + a ≡ a = omega arith in ap (λ n. drop n xs) (sym e)
drop-drop a (suc b) [] = drop-nil a ∙ sym (drop-nil (suc b + a))
drop-drop a (suc b) (x ∷ xs) = let e : suc b + a ≡ suc (b + a) = omega arith in drop-drop a b xs ∙ sym (ap (λ n. drop n (x ∷ xs)) e)

-- a part of a part
pub part_of : {A : Type 0} (xs ys : List A) (low high start count : ℕ) → ys ≡ take (high - low) (drop low xs) → low ≤ start → start + count ≤ high
    → take count (drop (start - low) ys) ≡ take count (drop start xs)
part_of xs ys low high start count is from to =
    let size : high - low ≡ start - low + (high - start) = omega (arith, from, to) in
    let at : low + (start - low) ≡ start = omega (arith, from) in
    let few : count ≤ high - start = omega (arith, to) in
    let back : drop (start - low) ys ≡ take (high - start) (drop start xs) =
    ap (λ zs. drop (start - low) zs) (is ∙ ap (λ n. take n (drop low xs)) size)
    ∙ (drop-take (start - low) (high - start) (drop low xs) ∙ ap (λ zs. take (high - start) zs) (drop-drop (start - low) low xs ∙ ap (λ n. drop n xs) at)) in
    ap (λ zs. take count zs) back ∙ take-take count (high - start) (drop start xs) few

-- a list from its n-th element on
pub rest_from : {A : Type 0} (n : ℕ) (xs : List A) (y : A) (ys : List A) → drop n xs ≡ y ∷ ys → (drop (n + 1) xs ≡ ys) × (slice_get xs n ≡ Some y)
rest_from zero [] y ys e = absurd (cc)
rest_from zero (x ∷ xs) y ys e = (cc, cc)
rest_from (suc n) [] y ys e = absurd (cc)
rest_from (suc n) (x ∷ xs) y ys e = let k : suc n + 1 ≡ suc (n + 1) = omega arith in rw k (rest_from n xs y ys e)

-- nothing is left from its n-th element on
pub none_from : {A : Type 0} (n : ℕ) (xs : List A) → drop n xs ≡ [] → slice_get xs n ≡ None
none_from zero [] e = refl
none_from zero (x ∷ xs) e = absurd (cc)
none_from (suc n) [] e = refl
none_from (suc n) (x ∷ xs) e = none_from n xs e
