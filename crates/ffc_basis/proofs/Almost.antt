-- Almost full relations, by well-founded trees (Vytiniotis, Coquand and Wahlstedt 2012): in each sequence two elements are
-- related, an earlier one and a later one. Two such relations have an intersection that is such a relation. Where one number
-- is at most another it is so, and hence for the exponents of monomials in finitely many variables (Dickson 1913).
use Rattle.std.proofs.Common.{ℕ, zero, suc, ◌≤◌, ◌⊎◌, inl, inr, arith}
use Rattle.std.proofs.lemmas.Bool.{cases_lt}

pub data Tree (X : Type 0) : Type 0 where
  Leaf : Tree X
  Node : (X → Tree X) → Tree X

-- ---- cases

later_constant : (C D A : Type 0) → (C ⊎ A) ⊎ (D ⊎ A) → (C ⊎ D) ⊎ A
later_constant C D A (inl (inl c)) = inl (inl c)
later_constant C D A (inl (inr a)) = inr a
later_constant C D A (inr (inl d)) = inl (inr d)
later_constant C D A (inr (inr a)) = inr a

each_constant : (C D A : Type 0) → (C ⊎ D) ⊎ A → (C ⊎ A) ⊎ (D ⊎ A)
each_constant C D A (inl (inl c)) = inl (inl c)
each_constant C D A (inl (inr d)) = inr (inl d)
each_constant C D A (inr a) = inl (inr a)

with_both : (C A B : Type 0) → C ⊎ A → C ⊎ B → C ⊎ (A × B)
with_both C A B (inl c) w = inl c
with_both C A B (inr a) (inl c) = inl c
with_both C A B (inr a) (inr b) = inr (a, b)

more_left : (C D B : Type 0) → C ⊎ B → (C ⊎ D) ⊎ B
more_left C D B (inl c) = inl (inl c)
more_left C D B (inr b) = inr b

-- the four cases of two relations at x
last_out : (C D A E : Type 0) → (C ⊎ A) ⊎ (D ⊎ E) → ((C ⊎ D) ⊎ E) ⊎ A
last_out C D A E (inl (inl c)) = inl (inl (inl c))
last_out C D A E (inl (inr a)) = inr a
last_out C D A E (inr (inl d)) = inl (inl (inr d))
last_out C D A E (inr (inr e)) = inl (inr e)

more_lefts : (C D E B : Type 0) → C ⊎ B → ((C ⊎ D) ⊎ E) ⊎ B
more_lefts C D E B (inl c) = inl (inl (inl c))
more_lefts C D E B (inr b) = inr b

swapped : (C E P : Type 0) → (C ⊎ E) ⊎ P → (C ⊎ P) ⊎ E
swapped C E P (inl (inl c)) = inl (inl c)
swapped C E P (inl (inr e)) = inr e
swapped C E P (inr p) = inl (inr p)

ordered_cases : (C D P Q : Type 0) → ((C ⊎ D) ⊎ P) ⊎ Q → (C ⊎ P) ⊎ (D ⊎ Q)
ordered_cases C D P Q (inl (inl (inl c))) = inl (inl c)
ordered_cases C D P Q (inl (inl (inr d))) = inr (inl d)
ordered_cases C D P Q (inl (inr p)) = inl (inr p)
ordered_cases C D P Q (inr q) = inr (inr q)

first_apart : (R S T : Type 0) → (R ⊎ S) × T → (R × T) ⊎ S
first_apart R S T (inl r, t) = inl (r, t)
first_apart R S T (inr s, t) = inr s

second_apart : (R S T : Type 0) → R × (S ⊎ T) → (R × S) ⊎ T
second_apart R S T (r, inl s) = inl (r, s)
second_apart R S T (r, inr t) = inr t

module _ (X : Type 0) where
  -- any two elements are related, or from each first element on the tree below it secures what is then left to find
  abbrev pub IsSecure : (X → X → Type 0) → Tree X → Type 0
  IsSecure R Leaf = (x y : X) → R x y
  IsSecure R (Node f) = (x : X) → IsSecure (λ y z. R y z ⊎ R x y) (f x)

  -- a tree that secures the relation
  abbrev pub HasTree : (X → X → Type 0) → Type 0
  HasTree R = (t : Tree X) × IsSecure R t

  secure_weaker : (R S : X → X → Type 0) → ((x y : X) → R x y → S x y) → (t : Tree X) → IsSecure R t → IsSecure S t
  secure_weaker R S f Leaf v = λ x y. f x y (v x y)
  secure_weaker R S f (Node g) v = λ x.
      secure_weaker (λ y z. R y z ⊎ R x y) (λ y z. S y z ⊎ S x y)
      (λ y z h. elim h [ inl a ↦ inl (f y z a) | inr b ↦ inr (f x y b) ]) (g x) (v x)

  pub weaker : (R S : X → X → Type 0) → ((x y : X) → R x y → S x y) → HasTree R → HasTree S
  weaker R S f (t, v) = (t, secure_weaker R S f t v)

  node : (R : X → X → Type 0) → ((x : X) → HasTree (λ y z. R y z ⊎ R x y)) → HasTree R
  node R each = (Node (λ x. (each x).0), λ x. (each x).1)

  nullary : (t : Tree X) (C : X → X → Type 0) (A B : Type 0) → IsSecure (λ y z. C y z ⊎ A) t → HasTree (λ y z. C y z ⊎ B) → HasTree (λ y z. C y z ⊎ (A × B))
  nullary Leaf C A B v w =
      weaker (λ y z. C y z ⊎ B) (λ y z. C y z ⊎ (A × B)) (λ y z h. with_both (C y z) A B (v y z) h) w
  nullary (Node f) C A B v w =
      node (λ y z. C y z ⊎ (A × B))
      (λ x.
      weaker (λ y z. (C y z ⊎ C x y) ⊎ (A × B)) (λ y z. (C y z ⊎ (A × B)) ⊎ (C x y ⊎ (A × B))) (λ y z h. each_constant (C y z) (C x y) (A × B) h)
      (nullary (f x) (λ y z. C y z ⊎ C x y) A B
      (secure_weaker (λ y z. (C y z ⊎ A) ⊎ (C x y ⊎ A)) (λ y z. (C y z ⊎ C x y) ⊎ A) (λ y z h. later_constant (C y z) (C x y) A h) (f x) (v x))
      (weaker (λ y z. C y z ⊎ B) (λ y z. (C y z ⊎ C x y) ⊎ B) (λ y z h. more_left (C y z) (C x y) B h) w)))

  abbrev Unary : Tree X → Tree X → Type 1
  Unary s t =
      (C : X → X → Type 0) (A B : X → Type 0) → IsSecure (λ y z. C y z ⊎ A y) s → IsSecure (λ y z. C y z ⊎ B y) t → HasTree (λ y z. C y z ⊎ (A y × B y))

  unary_inner : (f : X → Tree X) → ((x : X) (t : Tree X) → Unary (f x) t) → (t : Tree X) → Unary (Node f) t
  unary_inner f outer Leaf C A B v w =
      weaker (λ y z. C y z ⊎ A y) (λ y z. C y z ⊎ (A y × B y)) (λ y z h. with_both (C y z) (A y) (B y) h (w y z)) (Node f, v)
  unary_inner f outer (Node g) C A B v w =
      node (λ y z. C y z ⊎ (A y × B y))
      (λ x.
      let both : X → X → Type 0 = λ y z. (C y z ⊎ C x y) ⊎ (A y × B y) in
      let left : HasTree (λ y z. both y z ⊎ A x) =
      weaker (λ y z. ((C y z ⊎ C x y) ⊎ A x) ⊎ (A y × B y)) (λ y z. both y z ⊎ A x) (λ y z h. swapped (C y z ⊎ C x y) (A x) (A y × B y) h)
      (outer x (Node g) (λ y z. (C y z ⊎ C x y) ⊎ A x) A B
      (secure_weaker (λ y z. (C y z ⊎ A y) ⊎ (C x y ⊎ A x)) (λ y z. ((C y z ⊎ C x y) ⊎ A x) ⊎ A y) (λ y z h. last_out (C y z) (C x y) (A y) (A x) h) (f x) (v x))
      (secure_weaker (λ y z. C y z ⊎ B y) (λ y z. ((C y z ⊎ C x y) ⊎ A x) ⊎ B y) (λ y z h. more_lefts (C y z) (C x y) (A x) (B y) h) (Node g) w)) in
      let right : HasTree (λ y z. both y z ⊎ B x) =
      weaker (λ y z. ((C y z ⊎ C x y) ⊎ B x) ⊎ (A y × B y)) (λ y z. both y z ⊎ B x) (λ y z h. swapped (C y z ⊎ C x y) (B x) (A y × B y) h)
      (unary_inner f outer (g x) (λ y z. (C y z ⊎ C x y) ⊎ B x) A B
      (secure_weaker (λ y z. C y z ⊎ A y) (λ y z. ((C y z ⊎ C x y) ⊎ B x) ⊎ A y) (λ y z h. more_lefts (C y z) (C x y) (B x) (A y) h) (Node f) v)
      (secure_weaker (λ y z. (C y z ⊎ B y) ⊎ (C x y ⊎ B x)) (λ y z. ((C y z ⊎ C x y) ⊎ B x) ⊎ B y) (λ y z h. last_out (C y z) (C x y) (B y) (B x) h) (g x) (w x))) in
      weaker (λ y z. both y z ⊎ (A x × B x)) (λ y z. (C y z ⊎ (A y × B y)) ⊎ (C x y ⊎ (A x × B x)))
      (λ y z h. ordered_cases (C y z) (C x y) (A y × B y) (A x × B x) h)
      (nullary left.0 both (A x) (B x) left.1 right))

  unary : (s t : Tree X) → Unary s t
  unary Leaf t C A B v w =
      weaker (λ y z. C y z ⊎ B y) (λ y z. C y z ⊎ (A y × B y)) (λ y z h. with_both (C y z) (A y) (B y) (v y z) h) (t, w)
  unary (Node f) t C A B v w = unary_inner f (λ x u. unary (f x) u) t C A B v w

  abbrev Binary : Tree X → Tree X → Type 1
  Binary s t = (R S : X → X → Type 0) → IsSecure R s → IsSecure S t → HasTree (λ y z. R y z × S y z)

  binary_inner : (f : X → Tree X) → ((x : X) (t : Tree X) → Binary (f x) t) → (t : Tree X) → Binary (Node f) t
  binary_inner f outer Leaf R S v w =
      weaker R (λ y z. R y z × S y z) (λ y z h. (h, w y z)) (Node f, v)
  binary_inner f outer (Node g) R S v w =
      node (λ y z. R y z × S y z)
      (λ x.
      let left : HasTree (λ y z. (R y z × S y z) ⊎ R x y) =
      weaker (λ y z. (R y z ⊎ R x y) × S y z) (λ y z. (R y z × S y z) ⊎ R x y) (λ y z h. first_apart (R y z) (R x y) (S y z) h)
      (outer x (Node g) (λ y z. R y z ⊎ R x y) S (v x) w) in
      let right : HasTree (λ y z. (R y z × S y z) ⊎ S x y) =
      weaker (λ y z. R y z × (S y z ⊎ S x y)) (λ y z. (R y z × S y z) ⊎ S x y) (λ y z h. second_apart (R y z) (S y z) (S x y) h)
      (binary_inner f outer (g x) R (λ y z. S y z ⊎ S x y) v (w x)) in
      unary left.0 right.0 (λ y z. R y z × S y z) (R x) (S x) left.1 right.1)

  pub binary : (s t : Tree X) → Binary s t
  binary Leaf t R S v w = weaker S (λ y z. R y z × S y z) (λ y z h. (v y z, h)) (t, w)
  binary (Node f) t R S v w = binary_inner f (λ x u. binary (f x) u) t R S v w

  -- ---- numbers

  ascending_from : (key : X → ℕ) (k : ℕ) → HasTree (λ y z. (key y ≤ key z) ⊎ (k ≤ key y))
  ascending_from key zero = (Leaf, λ y z. inr (omega arith))
  ascending_from key (suc k) =
      node (λ y z. (key y ≤ key z) ⊎ (suc k ≤ key y))
      (λ x.
      weaker (λ y z. (key y ≤ key z) ⊎ (k ≤ key y)) (λ y z. ((key y ≤ key z) ⊎ (suc k ≤ key y)) ⊎ ((key x ≤ key y) ⊎ (suc k ≤ key x)))
      (λ y z h.
      elim h [
        | inl up ↦ inl (inl up)
        | inr low ↦ elim (cases_lt k (key x)) [ inl above ↦ inr (inr (omega arith)) | inr below ↦ inr (inl (omega arith)) ]
      ])
      (ascending_from key k))

  pub ascending : (key : X → ℕ) → HasTree (λ y z. key y ≤ key z)
  ascending key =
      node (λ y z. key y ≤ key z)
      (λ x.
      weaker (λ y z. (key y ≤ key z) ⊎ (key x ≤ key y)) (λ y z. (key y ≤ key z) ⊎ (key x ≤ key y)) (λ y z h. h) (ascending_from key (key x)))
