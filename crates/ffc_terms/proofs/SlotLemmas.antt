-- Names by their places.
use Rattle.std.proofs.Common.{◌≡◌, ℕ, suc, ◌-◌, ◌<◌, ◌≤◌, Bool, true, false, cond, List, [], ◌∷◌, length, reverse, map, get_or, Option, Some, None, option_map, refl, sym, ap, ◌∙◌, ⊎_elim, arith}
use Rattle.std.specs.Bool.{◌==◌}
use Rattle.std.proofs.lemmas.Bool.{cases_Bool, cond-true, cond-false}
use Rattle.std.proofs.lemmas.Bool.Decides.{nat_tests}
use Rattle.std.proofs.lemmas.List.{length-map, length-reverse, get_or-reverse}
use Rattle.std.specs.Str.{bytes_eq}
use Rattle.ffc_smt.specs.Meaning.{Env, found}
use Rattle.ffc_terms.specs.declared.environment.Entry.{Entry}
use Rattle.ffc_terms.specs.Slots.{at_slot, slot_of, pair_of, env_of}

map_cond : {A B : Type 0} (f : A → B) (b : Bool) (x y : Option A) → option_map f (cond b x y) ≡ cond b (option_map f x) (option_map f y)
map_cond f true x y = refl
map_cond f false x y = refl

pub at_slot_map : {A B : Type 0} (f : A → B) (xs : List A) (i : ℕ) → at_slot (map f xs) i ≡ option_map f (at_slot xs i)
at_slot_map f [] i = refl
at_slot_map f (x ∷ xs) i = rw (length-map xs f, at_slot_map f xs i) (sym (map_cond f (i == length xs) (Some x) (at_slot xs i)))

earlier : {A : Type 0} (x : A) (xs : List A) (i k : ℕ) (d : A) → k ≡ length xs - 1 - i → i < length xs → get_or (x ∷ xs) (length xs - i) d ≡ get_or xs k d
earlier x xs i k d e h = let n : length xs - i ≡ suc k = omega arith in rw n refl

-- what is at a place, counted from the end
pub at_slot_from_end : {A : Type 0} (xs : List A) (i : ℕ) (d : A) → i < length xs → at_slot xs i ≡ Some (get_or xs (length xs - 1 - i) d)
at_slot_from_end [] i d h = absurd (omega arith)
at_slot_from_end (x ∷ xs) i d h = ⊎_elim
    (λ y. let here : length (x ∷ xs) - 1 - i ≡ 0 = grind (arith, nat_tests, y) in cond-true (i == length xs) (Some x) (at_slot xs i) y ∙ rw here refl)
    (λ n.
    let within : i < length xs = grind (arith, nat_tests, n) in
    let back : length (x ∷ xs) - 1 - i ≡ length xs - i = omega arith in
    cond-false (i == length xs) (Some x) (at_slot xs i) n ∙ at_slot_from_end xs i d within ∙ ap Some (sym (rw back (earlier x xs i _ d refl within))))
    (cases_Bool (i == length xs))

-- a place of a list that is read from its end
pub at_slot_reverse : {A : Type 0} (xs : List A) (i : ℕ) (d : A) → i < length xs → at_slot (reverse xs) i ≡ Some (get_or xs i d)
at_slot_reverse xs i d h =
    let n : length xs ≡ length (reverse xs) = sym (length-reverse xs) in
    let within : i < length (reverse xs) = omega arith in
    let k : length xs - 1 - (length (reverse xs) - 1 - i) ≡ i = omega arith in
    let inside : length (reverse xs) - 1 - i < length xs = omega arith in
    at_slot_from_end (reverse xs) i d within ∙ ap Some (get_or-reverse xs _ d inside ∙ ap (λ j. get_or xs j d) k)

-- the value of the entry at a place
pub value_at : {V : Type 0} (entries : List (Entry V)) (env : Env V) (slot : ℕ) (e : Entry V) → env_of entries ≡ env → slot < length env
    → e ≡ get_or entries slot e → option_map (λ x. x.1) (at_slot env slot) ≡ Some e.value
value_at entries env slot e view h is =
    let n : length env ≡ length entries = ap length (sym view) ∙ length-map (reverse entries) pair_of ∙ length-reverse entries in
    let within : slot < length entries = omega arith in
    let at = at_slot_map pair_of (reverse entries) slot ∙ ap (option_map pair_of) (at_slot_reverse entries slot e within) in
    ap (λ v. option_map (λ x. x.1) (at_slot v slot)) (sym view) ∙ ap (option_map (λ x. x.1)) at ∙ ap (λ x. Some x.value) (sym is)

-- a name is at its place
pub slot_within : {A : Type 0} (env : Env A) (name : List ℕ) (slot : ℕ) → Some slot ≡ slot_of env name → slot < length env
slot_within [] name slot h = cc
slot_within (x ∷ xs) name slot h = ⊎_elim
    (λ y. let e : Some slot ≡ Some (length xs) = h ∙ cond-true (bytes_eq x.0 name) _ _ y in let f : slot ≡ length xs = cc in omega arith)
    (λ n. let w = slot_within xs name slot (h ∙ cond-false (bytes_eq x.0 name) _ _ n) in omega arith)
    (cases_Bool (bytes_eq x.0 name))

abbrev no_place : Option ℕ
no_place = None

pub not_found : {A : Type 0} (env : Env A) (name : List ℕ) → None ≡ slot_of env name → found env name ≡ None
not_found [] name h = refl
not_found (x ∷ xs) name h = ⊎_elim
    (λ y. let e : no_place ≡ Some (length xs) = h ∙ cond-true (bytes_eq x.0 name) _ _ y in cc)
    (λ n. cond-false (bytes_eq x.0 name) _ _ n ∙ not_found xs name (h ∙ cond-false (bytes_eq x.0 name) _ _ n))
    (cases_Bool (bytes_eq x.0 name))

length_not : (n : ℕ) → (n == n) ≡ true
length_not n = grind (arith, nat_tests)

less_not : (m n : ℕ) → m < n → (m == n) ≡ false
less_not m n h = grind (arith, nat_tests)

pub found_at : {A : Type 0} (env : Env A) (name : List ℕ) (slot : ℕ) → Some slot ≡ slot_of env name → found env name ≡ option_map (λ x. x.1) (at_slot env slot)
found_at [] name slot h = cc
found_at (x ∷ xs) name slot h = ⊎_elim
    (λ y.
    let e : Some slot ≡ Some (length xs) = h ∙ cond-true (bytes_eq x.0 name) _ _ y in
    let f : slot ≡ length xs = cc in
    cond-true (bytes_eq x.0 name) _ _ y
    ∙ sym (ap (option_map (λ x. x.1)) (ap (at_slot (x ∷ xs)) f ∙ cond-true (length xs == length xs) (Some x) (at_slot xs (length xs)) (length_not (length xs)))))
    (λ n.
    let h' = h ∙ cond-false (bytes_eq x.0 name) _ _ n in
    cond-false (bytes_eq x.0 name) _ _ n ∙ found_at xs name slot h'
    ∙ sym (ap (option_map (λ x. x.1)) (cond-false (slot == length xs) (Some x) (at_slot xs slot) (less_not slot (length xs) (slot_within xs name slot h')))))
    (cases_Bool (bytes_eq x.0 name))

-- nothing is past the end
pub at_slot_past : {A : Type 0} (xs : List A) (slot : ℕ) → length xs ≤ slot → at_slot xs slot ≡ None
at_slot_past [] slot h = refl
at_slot_past (x ∷ xs) slot h =
    let n : (slot == length xs) ≡ false = grind (arith, nat_tests) in
    cond-false (slot == length xs) (Some x) (at_slot xs slot) n ∙ at_slot_past xs slot (omega arith)
