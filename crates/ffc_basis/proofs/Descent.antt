-- Induction over the monomials in finitely many variables. In each sequence of them an earlier one divides a later one, and no
-- divisor is above its multiple, so a descent ends in every monomial order.
use Rattle.std.proofs.Common.{◌≡◌, ℕ, ◌≤◌, ◌⊎◌, List, [], ◌∷◌, refl, sym, inl, inr, subst, arith}
use Rattle.std.proofs.lemmas.Bool.{cases_eq}
use Rattle.std.specs.declared.cmp.Ordering.{Ordering}
use Rattle.std.specs.declared.cmp.Ordering.TheVariants.{Greater}
use Rattle.ffc_ring.specs.Monomial.{Monomial, IsMonomial, exponent, Divides}
use Rattle.ffc_ring.specs.Counting.{IsAmong, IsIn}
use Rattle.ffc_mono.specs.MonomialOrder.{IsMonomialOrder}
use Rattle.ffc_mono.proofs.LeadingLemmas.{divisor_is_no_greater}
use Rattle.ffc_basis.proofs.Almost.{Tree, Leaf, Node, IsSecure, HasTree, binary, ascending}
use Rattle.ffc_basis.proofs.Greatest.{IsUpTo, up_to_trans, below_trans}

-- the exponents of these variables are at most those of the other monomial
abbrev IsWithin : List ℕ → Monomial → Monomial → Type 0
IsWithin [] m n = Unit {0}
IsWithin (v ∷ vs) m n = (exponent m v ≤ exponent n v) × IsWithin vs m n

-- in each sequence that is so of two monomials
within_comes : (vs : List ℕ) → HasTree Monomial (IsWithin vs)
within_comes [] = (Leaf, λ m n. tt)
within_comes (v ∷ vs) =
    let first = ascending Monomial (λ m. exponent m v) in
    let rest = within_comes vs in
    binary Monomial first.0 rest.0 (λ m n. exponent m v ≤ exponent n v) (IsWithin vs) first.1 rest.1

within_at : (vs : List ℕ) (m n : Monomial) (x : ℕ) → IsWithin vs m n → IsAmong vs x → exponent m x ≤ exponent n x
within_at [] m n x h among = absurd among
within_at (v ∷ vs) m n x h (inl here) = subst (λ y. exponent m y ≤ exponent n y) (sym here) h.0
within_at (v ∷ vs) m n x h (inr there) = within_at vs m n x h.1 there

-- so the monomial divides the other
within_divides : (vs : List ℕ) (m n : Monomial) → IsIn vs m → IsWithin vs m n → Divides m n
within_divides vs m n in_m h x =
    elim (cases_eq (exponent m x) 0) [
      | inl none ↦ omega (arith, none)
      | inr some ↦ within_at vs m n x h (in_m x some)
    ]

module _ (cmp : Monomial → Monomial → Ordering) (laws : IsMonomialOrder cmp) (vs : List ℕ) (P : Monomial → Type 0)
    (step : (m : Monomial) → IsMonomial m → IsIn vs m → ((n : Monomial) → IsMonomial n → IsIn vs n → cmp m n ≡ Greater → P n) → P m) where
  -- no two monomials from this one down are related, an earlier one to a later one
  abbrev IsAvoided : (Monomial → Monomial → Type 0) → Monomial → Type 0
  IsAvoided R m =
      (y z : Monomial) → IsMonomial y → IsIn vs y → IsMonomial z → IsIn vs z → IsUpTo cmp m y → cmp y z ≡ Greater → R y z → ⊥

  by_tree : (t : Tree Monomial) (R : Monomial → Monomial → Type 0) → IsSecure Monomial R t → (m : Monomial) → IsMonomial m → IsIn vs m → IsAvoided R m → P m
  by_tree Leaf R secure m v w avoided =
      step m v w (λ n vn wn below. absurd (avoided m n v w vn wn (inl refl) below (secure m n)))
  by_tree (Node f) R secure m v w avoided =
      step m v w
      (λ n vn wn below.
      by_tree (f m) (λ y z. R y z ⊎ R m y) (secure m) n vn wn
      (λ y z vy wy vz wz at descends found.
      elim found [
        | inl there ↦ avoided y z vy wy vz wz (up_to_trans cmp laws m n y (inr below) at) descends there
        | inr here ↦ avoided m y v w vy wy (inl refl) (below_trans cmp laws m n y below at) here
      ]))

  -- what holds of a monomial where it holds of all that are below it, holds of each
  pub descent_induction : (m : Monomial) → IsMonomial m → IsIn vs m → P m
  descent_induction m v w =
      let found = within_comes vs in
      by_tree found.0 (IsWithin vs) found.1 m v w
      (λ y z vy wy vz wz at above within. divisor_is_no_greater cmp laws y z vy vz (within_divides vs y z wy within) above)
