-- The order of monomials as words is total and tells all monomials apart.
use Rattle.std.proofs.Common.{◌≡◌, ℕ, [], ◌∷◌, refl, ap₂}
use Rattle.std.specs.declared.cmp.Ordering.{Ordering}
use Rattle.std.specs.declared.cmp.Ordering.TheVariants.{Less, Equal, Greater}
use Rattle.std.specs.Cmp.{IsTotalOrder}
use Rattle.std.specs.Ordering.{nat_cmp, ordering_then}
use Rattle.std.proofs.lemmas.Cmp.{nat_cmp_total, on_total, then_total, lists_total, ranked}
use Rattle.ffc_ring.specs.Monomial.{Monomial}
use Rattle.ffc_ckpoly.specs.Sorted.{power_order, word_order}

pub record IsExactOrder (cmp : Monomial → Monomial → Ordering) : Type 0 where
  pub total : IsTotalOrder cmp
  pub exact : (a b : Monomial) → cmp a b ≡ Equal → a ≡ b

tied_parts : (o r : Ordering) → ordering_then o r ≡ Equal → (o ≡ Equal) × (r ≡ Equal)
tied_parts Less r e = cc
tied_parts Equal r e = (refl, e)
tied_parts Greater r e = cc

tied_numbers : (x y : ℕ) (o : Ordering) → o ≡ nat_cmp x y → o ≡ Equal → x ≡ y
tied_numbers x y Less e f = cc
tied_numbers x y Equal e f = ranked x y Equal e
tied_numbers x y Greater e f = cc

tied_powers : (p q : ℕ × ℕ) → power_order p q ≡ Equal → p ≡ q
tied_powers p q e =
    let parts = tied_parts (nat_cmp p.0 q.0) (nat_cmp p.1 q.1) e in
    ap₂ (λ (x y : ℕ). (x, y)) (tied_numbers p.0 q.0 (nat_cmp p.0 q.0) refl parts.0) (tied_numbers p.1 q.1 (nat_cmp p.1 q.1) refl parts.1)

tied_words : (m n : Monomial) → word_order m n ≡ Equal → m ≡ n
tied_words [] [] e = refl
tied_words [] (q ∷ n) e = cc
tied_words (p ∷ m) [] e = cc
tied_words (p ∷ m) (q ∷ n) e =
    let parts = tied_parts (power_order p q) (word_order m n) e in
    ap₂ (λ (x : ℕ × ℕ) (y : Monomial). x ∷ y) (tied_powers p q parts.0) (tied_words m n parts.1)

pub word_order_exact : IsExactOrder word_order
word_order_exact = record {
  total = lists_total (then_total (on_total (λ (p : ℕ × ℕ). p.0) nat_cmp_total) (on_total (λ (p : ℕ × ℕ). p.1) nat_cmp_total));
  exact = tied_words;
}
