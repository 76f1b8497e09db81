-- What a filter keeps, and products under a cap.
use Rattle.std.proofs.Common.{◌≡◌, ℕ, ◌+◌, ◌*◌, ◌^◌, ◌%◌, ◌<◌, ◌≤◌, ◌⊎◌, inl, inr, zero, suc, min, Bool, true, false, cond, List, [], ◌∷◌, ◌++◌, length, take, get_or, filter, Contains, refl, sym, ap, ap₂, ◌∙◌, ⊎_elim, arith, mul-zero, mul-suc, append-nil, length-take, pow-suc, add-one, add-zero}
use Rattle.std.proofs.lemmas.Bool.{false≢true, cases_lt}
use Rattle.std.proofs.lemmas.List.Elements.{filter_more, filter_passes, All-filter, All-contains, All-contains_itself, Contains-append_cases, Contains-push_cases, Contains-append_right}
use Rattle.std.proofs.lemmas.List.{take_more}
use Rattle.std.proofs.lemmas.Nat.{mul-mod}
use Rattle.std.proofs.Math.Nat.{add-mod}
use Rattle.ffc_term.specs.Values.{bit_sum_from}

pub nothing_in : {X : Type 0} (x : X) → ¬ (Contains [] x)
nothing_in {X} x has = let inside : has.0 < length {A = X} [] = has.1 in absurd (omega arith)

-- one more element that passes, or does not
pub filter_more_true : (p : ℕ → Bool) (xs : List ℕ) (i : ℕ) → i < length xs → p (get_or xs i 0) ≡ true → filter p (take (i + 1) xs) ≡ filter p (take i xs) ++ get_or xs i 0 ∷ []
filter_more_true p xs i inside on =
    filter_more p xs i 0 inside ∙ ap (λ b. filter p (take i xs) ++ cond b (get_or xs i 0 ∷ []) []) on

pub filter_more_false : (p : ℕ → Bool) (xs : List ℕ) (i : ℕ) → i < length xs → p (get_or xs i 0) ≡ false → filter p (take (i + 1) xs) ≡ filter p (take i xs)
filter_more_false p xs i inside off =
    filter_more p xs i 0 inside ∙ ap (λ b. filter p (take i xs) ++ cond b (get_or xs i 0 ∷ []) []) off ∙ append-nil (filter p (take i xs))

pub Contains-from_filter : (p : ℕ → Bool) (xs : List ℕ) (x : ℕ) → Contains (filter p xs) x → Contains xs x × (p x ≡ true)
Contains-from_filter p xs x has = (
  All-contains (Contains xs) (filter p xs) x (All-filter p (Contains xs) xs (All-contains_itself xs)) has,
  All-contains (λ y. p y ≡ true) (filter p xs) x (filter_passes p xs) has,
)

filter_step : (p : ℕ → Bool) (y x : ℕ) (rest : List ℕ) (b : Bool) → p y ≡ b → p x ≡ true → (y ≡ x) ⊎ Contains rest x → Contains (cond b (y ∷ rest) rest) x
filter_step p y x rest true is on found = ⊎_elim (λ e. (0, omega arith, e)) (λ later. Contains-append_right (y ∷ []) rest x later) found
filter_step p y x rest false is on found = ⊎_elim (λ e. absurd (false≢true (sym is ∙ ap p e ∙ on))) (λ later. later) found

one_in : (y x : ℕ) → Contains (y ∷ []) x → y ≡ x
one_in y x has = ⊎_elim (λ none. absurd (nothing_in x none)) (λ e. e) (Contains-push_cases [] y x has)

pub Contains-filter : (p : ℕ → Bool) (xs : List ℕ) (x : ℕ) → Contains xs x → p x ≡ true → Contains (filter p xs) x
Contains-filter p [] x has on = absurd (nothing_in x has)
Contains-filter p (y ∷ xs) x has on =
    filter_step p y x (filter p xs) (p y) refl on (
    ⊎_elim
    (λ first. inl (one_in y x first))
    (λ later. inr (Contains-filter p xs x later on))
    (Contains-append_cases (y ∷ []) xs x has)
    )

capped : (c s p : ℕ) → c ≤ s → min (c * p) c ≡ min (s * p) c
capped c s zero above = ap (λ m. min m c) (mul-zero c ∙ sym (mul-zero s))
capped c s (suc p) above =
    let one : c ≤ c * suc p = omega (arith, mul-suc c p) in
    let two : c ≤ s * suc p = omega (arith, mul-suc s p) in
    omega arith

-- a number times another, under a cap
pub min-min_mul : (c s p : ℕ) → min (min s c * p) c ≡ min (s * p) c
min-min_mul c s p =
    elim (cases_lt s c) as (λ _. min (min s c * p) c ≡ min (s * p) c) [
      | inl below ↦ let e : min s c ≡ s = omega arith in ap (λ m. min (m * p) c) e
      | inr above ↦ let e : min s c ≡ c = omega arith in ap (λ m. min (m * p) c) e ∙ capped c s p above
    ]

-- one more factor of a product under a cap
pub min_step : (c s p span n r next : ℕ) → r ≡ min c (span * n) → span ≡ min s c → n ≡ p → next ≡ s * p → r ≡ min next c
min_step c s p span n r next is so factor after =
    let e : min (span * n) c ≡ min (s * p) c = ap₂ (λ x y. min (x * y) c) so factor ∙ min-min_mul c s p in
    let t : min next c ≡ min (s * p) c = ap (λ m. min m c) after in
    omega arith

-- a sum and a product of residues modulo p, from the numbers that they are residues of
pub modular_sum : (p v s e total r next : ℕ) → v ≡ (s + e) % p → s ≡ total % p → e ≡ r % p → next ≡ total + r → v ≡ next % p
modular_sum p v s e total r next is one two after =
    is ∙ ap₂ (λ x y. (x + y) % p) one two ∙ sym (add-mod total r p) ∙ sym (ap (λ x. x % p) after)

pub modular_product : (p v s e total r next : ℕ) → v ≡ (s * e) % p → s ≡ total % p → e ≡ r % p → next ≡ total * r → v ≡ next % p
modular_product p v s e total r next is one two after =
    is ∙ ap₂ (λ x y. (x * y) % p) one two ∙ sym (mul-mod total r p) ∙ sym (ap (λ x. x % p) after)

pub twice_power : (i : ℕ) → 2 ^ (i + 1) ≡ 2 ^ i + 2 ^ i
twice_power i = omega (arith, ap (λ k. 2 ^ k) (add-one i), pow-suc 2 i)

bit_sum_from-push : (k : ℕ) (f : ℕ → ℕ) (xs : List ℕ) (x : ℕ) → bit_sum_from k f (xs ++ x ∷ []) ≡ bit_sum_from k f xs + 2 ^ (k + length xs) * f x
bit_sum_from-push k f [] x = omega (arith, ap (λ j. 2 ^ j * f x) (add-zero k))
bit_sum_from-push k f (y ∷ xs) x =
    let place : k + 1 + length xs ≡ k + suc (length xs) = omega arith in
    omega (arith, bit_sum_from-push (k + 1) f xs x, ap (λ j. 2 ^ j * f x) place)

pub bit_sum_more : (f : ℕ → ℕ) (xs : List ℕ) (i : ℕ) → i < length xs → bit_sum_from 0 f (take (i + 1) xs) ≡ bit_sum_from 0 f (take i xs) + 2 ^ i * f (get_or xs i 0)
bit_sum_more f xs i inside =
    let place : 0 + length (take i xs) ≡ i = omega (arith, length-take i xs) in
    ap (bit_sum_from 0 f) (take_more xs i 0 inside) ∙ bit_sum_from-push 0 f (take i xs) (get_or xs i 0) ∙ ap (λ j. bit_sum_from 0 f (take i xs) + 2 ^ j * f (get_or xs i 0)) place
