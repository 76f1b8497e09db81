-- Lists that grow by one in a loop.
use Rattle.std.proofs.Common.{◌≡◌, ℕ, zero, suc, ◌+◌, ◌<◌, ◌≤◌, List, [], ◌∷◌, ◌++◌, length, map, take, drop, get_or, Option, Some, None, Result, Ok, Err, OnOk, if◌then◌else◌, refl, sym, ap, ap₂, ◌∙◌, arith, append_assoc, append-nil}
use Rattle.std.specs.List.{flat_map}
use Rattle.std.specs.Result.{is_ok}
use Rattle.std.proofs.lemmas.List.{take_more, take_all, drop_all, map-append, length-take-le}
use Rattle.std.proofs.lemmas.List.Elements.{filter_map-append}
use Rattle.std.proofs.lemmas.List.Concat.{flat_map-append}
use Rattle.ffc_smt.specs.Terms.{Name}
use Rattle.ffc_rules.specs.Cores.{names_at}
use Rattle.ffc_answer.specs.Answers.{spaced}
use Rattle.ffc_answer.specs.Seen.{name_at}

-- texts with spaces between them

spaced_push : (xs : List (List ℕ)) (y : List ℕ) → 0 < length xs → spaced (xs ++ y ∷ []) ≡ spaced xs ++ 32 ∷ y
spaced_push [] y h = absurd (omega arith)
spaced_push (x ∷ xs) y h =
    ap (λ t. x ++ t) (flat_map-append (λ (t : List ℕ). 32 ∷ t) xs (y ∷ []) ∙ ap (λ t. flat_map (λ (u : List ℕ). 32 ∷ u) xs ++ 32 ∷ t) (append-nil y))
    ∙ sym (append_assoc x (flat_map (λ (t : List ℕ). 32 ∷ t) xs) (32 ∷ y))

length_front : (xs : List (List ℕ)) (i : ℕ) → i < length xs → length (take i xs) ≡ i
length_front xs i h = length-take-le i xs (omega arith)

pub spaced_more : (xs : List (List ℕ)) (i : ℕ) (y : List ℕ) → 0 < i → i < length xs → get_or xs i [] ≡ y → spaced (take (i + 1) xs) ≡ spaced (take i xs) ++ 32 ∷ y
spaced_more xs i y first h e =
    let long = length_front xs i h in
    ap spaced (take_more xs i [] h ∙ ap (λ z. take i xs ++ z ∷ []) e) ∙ spaced_push (take i xs) y (omega arith)

pub spaced_first : (xs : List (List ℕ)) (i : ℕ) (y : List ℕ) → i ≡ 0 → i < length xs → get_or xs i [] ≡ y → spaced (take (i + 1) xs) ≡ spaced (take i xs) ++ y
spaced_first xs i y first h e =
    let none : take i xs ≡ [] = ap (λ k. take k xs) first in
    ap spaced (take_more xs i [] h ∙ ap₂ (λ front z. front ++ z ∷ []) none e) ∙ append-nil y ∙ ap (λ front. spaced front ++ y) (sym none)

-- names at numbers

names_push : (names : List (Option Name)) (ks : List ℕ) (k : ℕ) → names_at names (ks ++ k ∷ []) ≡ names_at names ks ++ names_at names (k ∷ [])
names_push names ks k = filter_map-append (name_at names) ks (k ∷ [])

one_named : (names : List (Option Name)) (k : ℕ) (name : Name) → name_at names k ≡ Some name → names_at names (k ∷ []) ≡ name ∷ []
one_named names k name e = rw e refl

none_named : (names : List (Option Name)) (k : ℕ) → name_at names k ≡ None → names_at names (k ∷ []) ≡ []
none_named names k e = rw e refl

pub named_more : (names : List (Option Name)) (numbers : List ℕ) (i : ℕ) (name : Name) → i < length numbers → name_at names (get_or numbers i 0) ≡ Some name
    → names_at names (take (i + 1) numbers) ≡ names_at names (take i numbers) ++ name ∷ []
named_more names numbers i name h e =
    ap (names_at names) (take_more numbers i 0 h) ∙ names_push names (take i numbers) (get_or numbers i 0) ∙ ap (λ found. names_at names (take i numbers) ++ found) (one_named names (get_or numbers i 0) name e)

pub unnamed_more : (names : List (Option Name)) (numbers : List ℕ) (i : ℕ) → i < length numbers → name_at names (get_or numbers i 0) ≡ None
    → names_at names (take (i + 1) numbers) ≡ names_at names (take i numbers)
unnamed_more names numbers i h e =
    ap (names_at names) (take_more numbers i 0 h) ∙ names_push names (take i numbers) (get_or numbers i 0) ∙ ap (λ found. names_at names (take i numbers) ++ found) (none_named names (get_or numbers i 0) e) ∙ append-nil (names_at names (take i numbers))

-- a vector whose elements were all written through a slice
pub all_written : {A : Type 0} (new old : List A) (n : ℕ) → length new ≡ length old → n ≡ length old → take n (new ++ drop (length new) old) ≡ new
all_written new old n same long =
    ap (λ rest. take n (new ++ rest)) (drop_all (length new) old (omega arith)) ∙ ap (λ xs. take n xs) (append-nil new) ∙ take_all n new (omega arith)

pub get_or_default : {A : Type 0} (xs : List A) (i : ℕ) (d e : A) → i < length xs → get_or xs i d ≡ get_or xs i e
get_or_default [] i d e h = absurd (omega arith)
get_or_default (x ∷ xs) zero d e h = refl
get_or_default (x ∷ xs) (suc i) d e h = get_or_default xs i d e (omega arith)

-- one turn of a loop

pub spaced_turn : (old out middle new : List ℕ) (xs : List (List ℕ)) (i : ℕ) (y : List ℕ) → 0 < i → i < length xs → y ≡ get_or xs i y
    → out ≡ old ++ spaced (take i xs) → middle ≡ out ++ 32 ∷ [] → new ≡ middle ++ y → new ≡ old ++ spaced (take (i + 1) xs)
spaced_turn old out middle new xs i y first h at so_far space text =
    let same : get_or xs i [] ≡ y = get_or_default xs i [] y h ∙ sym at in
    text ∙ ap (λ t. t ++ y) (space ∙ ap (λ t. t ++ 32 ∷ []) so_far) ∙ append_assoc (old ++ spaced (take i xs)) (32 ∷ []) y ∙ append_assoc old (spaced (take i xs)) (32 ∷ y)
    ∙ ap (λ t. old ++ t) (sym (spaced_more xs i y first h same))

pub spaced_first_turn : (old out middle new : List ℕ) (xs : List (List ℕ)) (i : ℕ) (y : List ℕ) → i ≤ 0 → i < length xs → y ≡ get_or xs i y
    → out ≡ old ++ spaced (take i xs) → middle ≡ out → new ≡ middle ++ y → new ≡ old ++ spaced (take (i + 1) xs)
spaced_first_turn old out middle new xs i y first h at so_far same text =
    let here : get_or xs i [] ≡ y = get_or_default xs i [] y h ∙ sym at in
    text ∙ ap (λ t. t ++ y) (same ∙ so_far) ∙ append_assoc old (spaced (take i xs)) y ∙ ap (λ t. old ++ t) (sym (spaced_first xs i y (omega arith) h here))

pub named_turn : {A : Type 0} (f : Name → A) (names : List (Option Name)) (numbers : List ℕ) (i : ℕ) (name : Name) (texts new : List A) (text : A) → i < length numbers → Some name ≡ name_at names (get_or numbers i 0)
    → texts ≡ map f (names_at names (take i numbers)) → new ≡ texts ++ text ∷ [] → text ≡ f name → new ≡ map f (names_at names (take (i + 1) numbers))
named_turn f names numbers i name texts new text h at so_far pushed is =
    pushed ∙ ap₂ (λ front t. front ++ t ∷ []) so_far is ∙ sym (map-append f (names_at names (take i numbers)) (name ∷ [])) ∙ ap (map f) (sym (named_more names numbers i name h (sym at)))

pub assumed_turn : (names : List (Option Name)) (numbers : List ℕ) (i : ℕ) (name : Name) (texts new : List Name) (text : Name) → i < length numbers → Some name ≡ name_at names (get_or numbers i 0)
    → texts ≡ names_at names (take i numbers) → new ≡ texts ++ text ∷ [] → text ≡ name → new ≡ names_at names (take (i + 1) numbers)
assumed_turn names numbers i name texts new text h at so_far pushed is =
    pushed ∙ ap₂ (λ front t. front ++ t ∷ []) so_far is ∙ sym (named_more names numbers i name h (sym at))

-- what `extend_from_slice` says
pub appended_or_not : {A E : Type 0} (r : Result A E) (old new text : List ℕ) → new ≡ (if is_ok r then old ++ text else old) → OnOk r (new ≡ old ++ text)
appended_or_not (Ok a) old new text e = e
appended_or_not (Err f) old new text e = tt
