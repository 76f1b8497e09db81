-- The steps of the walks over two lists of powers, side by side.
use Rattle.std.proofs.Common.{◌≡◌, ℕ, suc, ◌+◌, ◌<◌, List, [], ◌∷◌, ◌++◌, length, refl, sym, ap, ap₂, ◌∙◌, subst, arith, append_assoc, append-nil}
use Rattle.ffc_ring.specs.Monomial.{Monomial, IsMonomialFrom, IsMonomial, degree, joined}
use Rattle.ffc_ring.proofs.MonomialLemmas.{from_lower, Joins, joined-first, joined-second, joined-both, joined-nothing}

pub none_left : {A : Type 0} (xs : List A) → length xs ≡ 0 → xs ≡ []
none_left [] h = refl
none_left (x ∷ xs) h = absurd (omega arith)

-- what is after the first power
module _ (left rest : Monomial) (p : ℕ × ℕ) (is : left ≡ p ∷ rest) where
  pub first_at : IsMonomial left → IsMonomial (p ∷ rest)
  first_at v = subst IsMonomial is v

  pub rest_is : IsMonomial left → IsMonomial rest
  rest_is v = from_lower 0 (suc p.0) rest (first_at v).2 (omega arith)

  pub degree_is : degree left ≡ p.1 + degree rest
  degree_is = ap degree is

-- a pushed element is in front of what is left
pub pushed : {A : Type 0} (out out' : List A) (x : A) (left all : List A) → out' ≡ out ++ x ∷ [] → out ++ (x ∷ left) ≡ all → out' ++ left ≡ all
pushed out out' x left all e h = ap (λ k. k ++ left) e ∙ simp append_assoc h

-- ---- merged

module _ (f : ℕ → ℕ → ℕ) (j : Joins f) (left right left_rest right_rest : Monomial) (p q : ℕ × ℕ) (left_is : left ≡ p ∷ left_rest) (right_is : right ≡ q ∷ right_rest) (v : IsMonomial left) (w : IsMonomial right) where
  pub joined_by_left : p.0 < q.0 → joined f left right ≡ p ∷ joined f left_rest right
  joined_by_left h =
      let w' : IsMonomialFrom (suc p.0) right = subst (IsMonomialFrom (suc p.0)) (sym right_is) (h, (first_at right right_rest q right_is w).1, (first_at right right_rest q right_is w).2) in
      ap (λ m. joined f m right) left_is ∙ joined-first f j p left_rest right (first_at left left_rest p left_is v).2 w'

  pub joined_by_right : q.0 < p.0 → joined f left right ≡ q ∷ joined f left right_rest
  joined_by_right h =
      let v' : IsMonomialFrom (suc q.0) left = subst (IsMonomialFrom (suc q.0)) (sym left_is) (h, (first_at left left_rest p left_is v).1, (first_at left left_rest p left_is v).2) in
      ap (joined f left) right_is ∙ joined-second f q left right_rest v'

  pub joined_by_both : p.0 ≡ q.0 → joined f left right ≡ (p.0, f p.1 q.1) ∷ joined f left_rest right_rest
  joined_by_both h =
      ap₂ (joined f) left_is right_is ∙ joined-both f j p q left_rest right_rest (first_at left left_rest p left_is v).2 h

pub joined_at_left_end : (f : ℕ → ℕ → ℕ) (left right : Monomial) → length left ≡ 0 → joined f left right ≡ left ++ right
joined_at_left_end f left right h =
    let e : left ≡ [] = none_left left h in ap (λ m. joined f m right) e ∙ ap (λ m. m ++ right) (sym e)

pub joined_at_right_end : (f : ℕ → ℕ → ℕ) (j : Joins f) (left right : Monomial) → IsMonomial left → length right ≡ 0 → joined f left right ≡ left ++ right
joined_at_right_end f j left right v h =
    let e : right ≡ [] = none_left right h in
    ap (joined f left) e ∙ joined-nothing f j 0 left v ∙ sym (ap (λ m. left ++ m) e ∙ append-nil left)
