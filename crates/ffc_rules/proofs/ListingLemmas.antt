-- The listed schemes of a node are those that have a clause.
use Rattle.std.proofs.Common.{inl, inr, ◌⊎◌, ◌≡◌, ℕ, zero, suc, ◌<◌, ◌↔◌, List, [], ◌∷◌, ◌++◌, length, map, Contains, Option, Some, None, refl, sym, ap, ◌∙◌, subst, arith, slice_get}
use Rattle.std.specs.Prelude.{IsSome, is_some, flat_map}
use Rattle.std.specs.List.{range_with_len}
use Rattle.std.proofs.lemmas.Bool.{false≢true, cases_lt}
use Rattle.std.proofs.lemmas.List.Elements.{Contains-append_left, Contains-append_right, Contains-append_cases}
use Rattle.std.proofs.lemmas.List.FromFn.{get_or-range_with_len, length-range_with_len}
use Rattle.std.proofs.lemmas.Option.{slice_get_past}
use Rattle.ffc_term.specs.declared.node.Node.{Node}
use Rattle.ffc_clause.specs.Clauses.{Clause}
use Rattle.ffc_rules.specs.Schemes.{schemes_at, scheme_clauses, scheme_clause, all_schemes}
use Rattle.ffc_rules.proofs.ConeLemmas.{Contains-range}

none_in : {X : Type 0} (x : X) → Contains [] x → ⊥
none_in {X} x has = let inside : has.0 < length {A = X} [] = has.1 in absurd (omega arith)

first_in : {X : Type 0} (x : X) (xs : List X) → Contains (x ∷ xs) x
first_in x xs = (0, omega arith, refl)

one_in : {X : Type 0} (y x : X) → Contains (y ∷ []) x → y ≡ x
one_in y x (zero, inside, e) = e
one_in y x (suc k, inside, e) = absurd (omega arith)

cons_cases : {X : Type 0} (y : X) (xs : List X) (x : X) → Contains (y ∷ xs) x → (y ≡ x) ⊎ Contains xs x
cons_cases y xs x has =
    elim (Contains-append_cases (y ∷ []) xs x has) as (λ _. (y ≡ x) ⊎ Contains xs x) [
      | inl here ↦ inl (one_in y x here)
      | inr later ↦ inr later
    ]

module _ {X Y : Type 0} where
  from_map : (f : X → Y) (xs : List X) (y : Y) → Contains (map f xs) y → (x : X) × Contains xs x × (f x ≡ y)
  from_map f [] y has = absurd (none_in y has)
  from_map f (x ∷ xs) y has =
      elim (cons_cases (f x) (map f xs) y has) as (λ _. (z : X) × Contains (x ∷ xs) z × (f z ≡ y)) [
        | inl here ↦ (x, first_in x xs, here)
        | inr later ↦ let r = from_map f xs y later in (r.0, Contains-append_right (x ∷ []) xs r.0 r.1, r.2)
      ]

  to_map : (f : X → Y) (xs : List X) (x : X) → Contains xs x → Contains (map f xs) (f x)
  to_map f [] x has = absurd (none_in x has)
  to_map f (z ∷ xs) x has =
      elim (cons_cases z xs x has) as (λ _. Contains (map f (z ∷ xs)) (f x)) [
        | inl here ↦ subst (λ w. Contains (f z ∷ map f xs) w) (ap f here) (first_in (f z) (map f xs))
        | inr later ↦ Contains-append_right (f z ∷ []) (map f xs) (f x) (to_map f xs x later)
      ]

  from_flat_map : (f : X → List Y) (xs : List X) (y : Y) → Contains (flat_map f xs) y → (x : X) × Contains xs x × Contains (f x) y
  from_flat_map f [] y has = absurd (none_in y has)
  from_flat_map f (x ∷ xs) y has =
      elim (Contains-append_cases (f x) (flat_map f xs) y has) as (λ _. (z : X) × Contains (x ∷ xs) z × Contains (f z) y) [
        | inl here ↦ (x, first_in x xs, here)
        | inr later ↦ let r = from_flat_map f xs y later in (r.0, Contains-append_right (x ∷ []) xs r.0 r.1, r.2)
      ]

  to_flat_map : (f : X → List Y) (xs : List X) (x : X) (y : Y) → Contains xs x → Contains (f x) y → Contains (flat_map f xs) y
  to_flat_map f [] x y has at = absurd (none_in x has)
  to_flat_map f (z ∷ xs) x y has at =
      elim (cons_cases z xs x has) as (λ _. Contains (f z ++ flat_map f xs) y) [
        | inl here ↦ Contains-append_left (f z) (flat_map f xs) y (subst (λ w. Contains (f w) y) (sym here) at)
        | inr later ↦ Contains-append_right (f z) (flat_map f xs) y (to_flat_map f xs x y later at)
      ]

range_below : (n k : ℕ) → Contains (range_with_len 0 n) k → k < n
range_below n k (i, inside, e) =
    let long = length-range_with_len 0 n in
    let within : i < n = omega arith in
    let is = get_or-range_with_len 0 n i k within in
    omega arith

-- an element is there exactly where its place is inside the list
inside_some : {X : Type 0} (xs : List X) (k : ℕ) → k < length xs → IsSome (slice_get xs k)
inside_some [] k inside = absurd (omega arith)
inside_some (x ∷ xs) zero inside = refl
inside_some (x ∷ xs) (suc k) inside = inside_some xs k (omega arith)

some_inside : {X : Type 0} (xs : List X) (k : ℕ) → IsSome (slice_get xs k) → k < length xs
some_inside [] k is = absurd (false≢true is)
some_inside (x ∷ xs) zero is = omega arith
some_inside (x ∷ xs) (suc k) is = let e = some_inside xs k is in omega arith

-- a scheme with a clause is one of the node's
scheme_inside : (ns : List Node) (v s i : ℕ) → IsSome (slice_get (scheme_clauses ns v s) i) → s < length (schemes_at ns v)
scheme_inside ns v s i is =
    elim (cases_lt s (length (schemes_at ns v))) as (λ _. s < length (schemes_at ns v)) [
      | inl inside ↦ inside
      | inr past ↦ absurd (false≢true (ap (λ (o : Option (List Clause)). is_some (slice_get (elim o as (λ _. List Clause) [ None ↦ [] | Some clauses ↦ clauses ]) i)) (sym (slice_get_past (schemes_at ns v) s past)) ∙ is))
    ]

pub listed_schemes : (ns : List Node) (v s i : ℕ) → Contains (all_schemes ns v) (s, i) ↔ IsSome (scheme_clause ns v s i)
unfolding all_schemes scheme_clause
listed_schemes ns v s i =
    let of = λ (scheme : ℕ). map (λ (index : ℕ). (scheme, index)) (range_with_len 0 (length (scheme_clauses ns v scheme))) in (
      (λ has.
          let (t, among, at) = from_flat_map of (range_with_len 0 (length (schemes_at ns v))) (s, i) has in
          let (j, inside, e) = from_map (λ (index : ℕ). (t, index)) (range_with_len 0 (length (scheme_clauses ns v t))) (s, i) at in
          let one : t ≡ s = ap (λ p. p.0) e in
          let two : j ≡ i = ap (λ p. p.1) e in
          let below : j < length (scheme_clauses ns v t) = range_below _ j inside in
          subst (λ x. IsSome (slice_get (scheme_clauses ns v x) i)) one (inside_some (scheme_clauses ns v t) i (subst (λ x. x < length (scheme_clauses ns v t)) two below))),
      (λ some.
          to_flat_map of (range_with_len 0 (length (schemes_at ns v))) s (s, i)
          (Contains-range (length (schemes_at ns v)) s (scheme_inside ns v s i some))
          (to_map (λ (index : ℕ). (s, index)) (range_with_len 0 (length (scheme_clauses ns v s))) i (Contains-range _ i (some_inside (scheme_clauses ns v s) i some)))),
    )
