-- The greatest of finitely many monomials.
use Rattle.std.proofs.Common.{◌≡◌, ◌⊎◌, List, [], ◌∷◌, refl, sym, ap, ◌∙◌, subst, inl, inr}
use Rattle.std.specs.List.{AllByRecursion}
use Rattle.std.specs.declared.cmp.Ordering.{Ordering}
use Rattle.std.specs.declared.cmp.Ordering.TheVariants.{Less, Equal, Greater}
use Rattle.ffc_ring.specs.Monomial.{Monomial}
use Rattle.ffc_mono.specs.MonomialOrder.{IsMonomialOrder}
use Rattle.ffc_mono.proofs.LeadingLemmas.{turned, greater_trans}

-- the second monomial is the first one, or below it
abbrev pub IsUpTo : (Monomial → Monomial → Ordering) → Monomial → Monomial → Type 0
IsUpTo cmp m x = (x ≡ m) ⊎ (cmp m x ≡ Greater)

module _ (cmp : Monomial → Monomial → Ordering) (laws : IsMonomialOrder cmp) where
  pub up_to_trans : (m n x : Monomial) → IsUpTo cmp m n → IsUpTo cmp n x → IsUpTo cmp m x
  up_to_trans m n x (inl same) at = subst (λ k. IsUpTo cmp k x) same at
  up_to_trans m n x (inr below) (inl same) = inr (ap (cmp m) same ∙ below)
  up_to_trans m n x (inr below) (inr lower) = inr (greater_trans cmp laws m n x below lower)

  pub below_trans : (t m x : Monomial) → cmp t m ≡ Greater → IsUpTo cmp m x → cmp t x ≡ Greater
  below_trans t m x above (inl same) = ap (cmp t) same ∙ above
  below_trans t m x above (inr lower) = greater_trans cmp laws t m x above lower

  compared_by : (m n : Monomial) (o : Ordering) → cmp m n ≡ o → IsUpTo cmp m n ⊎ IsUpTo cmp n m
  compared_by m n Less e = inr (inr (turned cmp laws m n e))
  compared_by m n Equal e = inl (inl (sym (laws.exact m n e)))
  compared_by m n Greater e = inl (inr e)

  pub compared : (m n : Monomial) → IsUpTo cmp m n ⊎ IsUpTo cmp n m
  compared m n = compared_by m n (cmp m n) refl

  module _ {A : Type 0} (key : A → Monomial) (P : A → Type 0) where
    all_up_to : (m n : Monomial) (xs : List A) → IsUpTo cmp m n → AllByRecursion (λ x. IsUpTo cmp n (key x)) xs → AllByRecursion (λ x. IsUpTo cmp m (key x)) xs
    all_up_to m n [] at v = tt
    all_up_to m n (x ∷ xs) at v = (up_to_trans m n (key x) at v.0, all_up_to m n xs at v.1)

    -- one of these is above no other's monomial
    pub greatest : (x : A) (xs : List A) → P x → AllByRecursion P xs → (y : A) × P y × AllByRecursion (λ z. IsUpTo cmp (key y) (key z)) (x ∷ xs)
    greatest x [] here rest = (x, here, (inl refl, tt))
    greatest x (z ∷ zs) here rest =
        let (y, is, all) = greatest z zs rest.0 rest.1 in
        elim (compared (key x) (key y)) [
          | inl first ↦ (x, here, (inl refl, all_up_to (key x) (key y) (z ∷ zs) first all))
          | inr second ↦ (y, is, (second, all))
        ]
