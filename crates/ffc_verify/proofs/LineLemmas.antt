-- The turns of the loops that write lines.
use Rattle.std.proofs.Common.{◌≡◌, ℕ, ◌+◌, ◌<◌, List, [], ◌∷◌, ◌++◌, length, get_or, take, map, Some, None, Option, slice_get, refl, sym, ap, ◌∙◌, append_assoc, append-nil}
use Rattle.std.specs.Option.{option_and_then}
use Rattle.std.specs.List.{cons_option}
use Rattle.std.proofs.lemmas.List.{take_more, map-append}
use Rattle.std.proofs.lemmas.List.Elements.{filter_map-append}
use Rattle.ffc_smt.specs.Terms.{Name}
use Rattle.ffc_rules.specs.Cores.{names_at}
use Rattle.ffc_verify.specs.Texts.{spaced_after}

spaced_more : (xs : List (List ℕ)) (x : List ℕ) → spaced_after (xs ++ x ∷ []) ≡ spaced_after xs ++ 32 ∷ x
spaced_more [] x = ap (λ t. 32 ∷ t) (append-nil x)
spaced_more (y ∷ ys) x = ap (λ t. 32 ∷ (y ++ t)) (spaced_more ys x) ∙ ap (λ t. 32 ∷ t) (sym (append_assoc y (spaced_after ys) (32 ∷ x)))

pub after_turn : (one two three old : List ℕ) (texts : List (List ℕ)) (i : ℕ) (t b : List ℕ) → i < length texts → t ≡ get_or texts i t → one ≡ old ++ spaced_after (take i texts) → two ≡ one ++ 32 ∷ [] → three ≡ two ++ b → b ≡ t
    → three ≡ old ++ spaced_after (take (i + 1) texts)
after_turn one two three old texts i t b lt at h push extend is =
    let more : take (i + 1) texts ≡ take i texts ++ t ∷ [] = take_more texts i t lt ∙ ap (λ x. take i texts ++ x ∷ []) (sym at) in
    extend ∙ ap (λ x. x ++ b) push ∙ ap (λ x. (x ++ 32 ∷ []) ++ b) h ∙ ap (λ x. ((old ++ spaced_after (take i texts)) ++ 32 ∷ []) ++ x) is
    ∙ append_assoc (old ++ spaced_after (take i texts)) (32 ∷ []) t ∙ append_assoc old (spaced_after (take i texts)) (32 ∷ t) ∙ ap (λ x. old ++ x) (sym (spaced_more (take i texts) t))
    ∙ ap (λ xs. old ++ spaced_after xs) (sym more)

abbrev At : List (Option Name) → ℕ → Option Name
At names k = option_and_then (λ name. name) (slice_get names k)

names_more : (names : List (Option Name)) (numbers : List ℕ) (i : ℕ) → i < length numbers → names_at names (take (i + 1) numbers) ≡ names_at names (take i numbers) ++ names_at names (get_or numbers i 0 ∷ [])
names_more names numbers i lt = ap (names_at names) (take_more numbers i 0 lt) ∙ filter_map-append (At names) (take i numbers) (get_or numbers i 0 ∷ [])

one_name : (names : List (Option Name)) (k : ℕ) (o : Option Name) → o ≡ At names k → names_at names (k ∷ []) ≡ elim o as (λ _. List Name) [ None ↦ [] | Some n ↦ n ∷ [] ]
one_name names k o e = by_at (At names k) ∙ ap (λ x. elim x as (λ _. List Name) [ None ↦ [] | Some n ↦ n ∷ [] ]) (sym e)
  where
    by_at : (x : Option Name) → cons_option x [] ≡ elim x as (λ _. List Name) [ None ↦ [] | Some n ↦ n ∷ [] ]
    by_at None = refl
    by_at (Some n) = refl

module _ (f : Name → List ℕ) (names : List (Option Name)) (numbers : List ℕ) (i : ℕ) (lt : i < length numbers) where
  pub named_turn : (one two : List (List ℕ)) (name text : List ℕ) → Some name ≡ At names (get_or numbers i 0) → one ≡ map f (names_at names (take i numbers)) → two ≡ one ++ text ∷ [] → text ≡ f name
      → two ≡ map f (names_at names (take (i + 1) numbers))
  named_turn one two name text at h push is =
      let more : names_at names (take (i + 1) numbers) ≡ names_at names (take i numbers) ++ name ∷ [] = names_more names numbers i lt ∙ ap (λ x. names_at names (take i numbers) ++ x) (one_name names (get_or numbers i 0) (Some name) at) in
      push ∙ ap (λ x. one ++ x ∷ []) is ∙ ap (λ x. x ++ f name ∷ []) h ∙ sym (map-append f (names_at names (take i numbers)) (name ∷ [])) ∙ ap (map f) (sym more)

  pub unnamed_turn : (one two : List (List ℕ)) → ◌≡◌ {A = Option Name} None (At names (get_or numbers i 0)) → one ≡ map f (names_at names (take i numbers)) → two ≡ one → two ≡ map f (names_at names (take (i + 1) numbers))
  unnamed_turn one two at h same =
      let more : names_at names (take (i + 1) numbers) ≡ names_at names (take i numbers) = names_more names numbers i lt ∙ ap (λ x. names_at names (take i numbers) ++ x) (one_name names (get_or numbers i 0) None at) ∙ append-nil (names_at names (take i numbers)) in
      same ∙ h ∙ ap (map f) (sym more)
