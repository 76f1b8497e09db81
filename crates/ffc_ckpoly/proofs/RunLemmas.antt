-- Terms that are in order from a place on.
use Rattle.std.proofs.Common.{◌≡◌, ◌≢◌, ℕ, zero, suc, ◌+◌, ◌<◌, List, [], ◌∷◌, length, get_or, drop, refl, sym, subst, arith, pos_of_ne-zero, length-drop}
use Rattle.std.specs.Borrow.{Bor}
use Rattle.std.specs.declared.cmp.Ordering.TheVariants.{Greater}
use Rattle.ffc_ring.specs.Monomial.{Monomial}
use Rattle.ffc_ckpoly.specs.Flat.{HaveMonomials}
use Rattle.ffc_ckpoly.specs.Sorted.{residues, IsAbove, IsSorted, word_order}
use Rattle.ffc_ckpoly.proofs.Lists.{left_at}
use Rattle.ffc_ckpoly.proofs.Merging.{IsAbove-trans}
use Rattle.ffc_ckpoly.proofs.OrderLemmas.{word_order_exact}

none_left : {A : Type 0} (xs : List A) → length xs ≡ 0 → xs ≡ []
none_left [] h = refl
none_left (x ∷ xs) h = absurd (omega arith)

have_drop : {F : Type 0} (value : F → ℕ) (n : ℕ) (ts : List (F × Bor Monomial)) → HaveMonomials (residues value ts) → HaveMonomials (residues value (drop n ts))
have_drop value zero ts h = h
have_drop value (suc n) [] h = tt
have_drop value (suc n) (t ∷ ts) h = have_drop value n ts h.2

module _ {F : Type 0} (value : F → ℕ) (p : ℕ) (terms : List (F × Bor Monomial)) (place : ℕ) (t : F × Bor Monomial) (inside : place < length terms) (at : t ≡ get_or terms place t) (below : value t.0 < p) (nonzero : value t.0 ≢ 0) (monomials : HaveMonomials (residues value terms)) (rest : IsSorted p (residues value (drop (place + 1) terms))) where
  above_rest : IsAbove word_order t.1.now (residues value (drop (place + 1) terms)) → IsSorted p (residues value (drop place terms))
  above_rest above =
      let left = left_at terms place t inside at in
      let m : HaveMonomials (residues value (t ∷ drop (place + 1) terms)) = subst (λ k. HaveMonomials (residues value k)) left (have_drop value place terms monomials) in
      subst (λ k. IsSorted p (residues value k)) (sym left) (pos_of_ne-zero nonzero, below, m.0, m.1, above, rest)

  -- the last term is in order
  pub last_sorted : place + 1 ≡ length terms → IsSorted p (residues value (drop place terms))
  last_sorted end =
      let none = none_left (drop (place + 1) terms) (omega (arith, end, length-drop (place + 1) terms)) in
      above_rest (subst (λ k. IsAbove word_order t.1.now (residues value k)) (sym none) tt)

  -- a term above the next one is in order with the terms after it
  pub before_next : (u : F × Bor Monomial) → place + 1 < length terms → u ≡ get_or terms (place + 1) u → word_order t.1.now u.1.now ≡ Greater → IsSorted p (residues value (drop place terms))
  before_next u more at_u e =
      let left = left_at terms (place + 1) u more at_u in
      let sorted : IsSorted p (residues value (u ∷ drop (place + 1 + 1) terms)) = subst (λ k. IsSorted p (residues value k)) left rest in
      above_rest
      (subst (λ k. IsAbove word_order t.1.now (residues value k)) (sym left)
      (e, IsAbove-trans word_order word_order_exact t.1.now u.1.now (residues value (drop (place + 1 + 1) terms)) e sorted.4))
