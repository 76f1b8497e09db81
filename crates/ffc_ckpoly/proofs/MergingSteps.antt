-- The steps of the merge over lists of terms with elements of a field.
use Rattle.std.proofs.Common.{◌≡◌, ◌≢◌, ◌⊎◌, ℕ, List, [], ◌∷◌, ◌++◌, length, refl, sym, ap, ap₂, ◌∙◌, arith, eq-eqb, ne_eqb, append-nil, append_assoc, inl, inr}
use Rattle.std.proofs.lemmas.Bool.{cond-true, cond-false}
use Rattle.std.specs.declared.cmp.Ordering.{Ordering}
use Rattle.std.specs.declared.cmp.Ordering.TheVariants.{Less, Equal, Greater}
use Rattle.ffc_field.specs.Modular.{add_mod, mul_mod}
use Rattle.ffc_field.proofs.ModularLaws.{mul_mod-one_first}
use Rattle.ffc_ring.specs.Monomial.{Monomial}
use Rattle.ffc_ring.specs.Polynomial.{Terms}
use Rattle.std.specs.Borrow.{Bor}
use Rattle.ffc_ckpoly.specs.Sorted.{residues, multiplied, IsSortedBy, kept}
use Rattle.ffc_ckpoly.proofs.Merging.{merged, merged-less, merged-equal, merged-greater, merged-end}

module _ {F : Type 0} (value : F → ℕ) (p : ℕ) (cmp : Monomial → Monomial → Ordering) (c : ℕ) (left right left_rest right_rest : List (F × Bor Monomial)) (s t : F × Bor Monomial) (left_is : left ≡ s ∷ left_rest) (right_is : right ≡ t ∷ right_rest) where
  opened : merged p cmp c (residues value left) (residues value right) ≡ merged p cmp c (residues value (s ∷ left_rest)) (residues value (t ∷ right_rest))
  opened = ap₂ (λ a b. merged p cmp c (residues value a) (residues value b)) left_is right_is

  pub step_less : cmp s.1.now t.1.now ≡ Less → merged p cmp c (residues value left) (residues value right) ≡ (mul_mod p c (value t.0), t.1.now) ∷ merged p cmp c (residues value left) (residues value right_rest)
  step_less e =
      opened ∙ merged-less p cmp c (value s.0, s.1.now) (value t.0, t.1.now) (residues value left_rest) (residues value right_rest) e
      ∙ ap (λ k. (mul_mod p c (value t.0), t.1.now) ∷ merged p cmp c (residues value k) (residues value right_rest)) (sym left_is)

  pub step_greater : cmp s.1.now t.1.now ≡ Greater → merged p cmp c (residues value left) (residues value right) ≡ (value s.0, s.1.now) ∷ merged p cmp c (residues value left_rest) (residues value right)
  step_greater e =
      opened ∙ merged-greater p cmp c (value s.0, s.1.now) (value t.0, t.1.now) (residues value left_rest) (residues value right_rest) e
      ∙ ap (λ k. (value s.0, s.1.now) ∷ merged p cmp c (residues value left_rest) (residues value k)) (sym right_is)

  equal : cmp s.1.now t.1.now ≡ Equal → merged p cmp c (residues value left) (residues value right) ≡ kept (add_mod p (value s.0) (mul_mod p c (value t.0))) s.1.now (merged p cmp c (residues value left_rest) (residues value right_rest))
  equal e = opened ∙ merged-equal p cmp c (value s.0, s.1.now) (value t.0, t.1.now) (residues value left_rest) (residues value right_rest) e

  pub step_equal : cmp s.1.now t.1.now ≡ Equal → add_mod p (value s.0) (mul_mod p c (value t.0)) ≢ 0 → merged p cmp c (residues value left) (residues value right) ≡ (add_mod p (value s.0) (mul_mod p c (value t.0)), s.1.now) ∷ merged p cmp c (residues value left_rest) (residues value right_rest)
  step_equal e ne = equal e ∙ cond-false _ _ _ (ne_eqb _ 0 ne)

  pub step_cancelled : cmp s.1.now t.1.now ≡ Equal → add_mod p (value s.0) (mul_mod p c (value t.0)) ≡ 0 → merged p cmp c (residues value left) (residues value right) ≡ merged p cmp c (residues value left_rest) (residues value right_rest)
  step_cancelled e zero_k = equal e ∙ cond-true _ _ _ (eq-eqb _ 0 zero_k)

-- terms with residues as coefficients stay when multiplied by 1
pub multiplied-one : (p : ℕ) (cmp : Monomial → Monomial → Ordering) (ts : Terms) → IsSortedBy p cmp ts → multiplied p 1 ts ≡ ts
multiplied-one p cmp [] h = refl
multiplied-one p cmp (t ∷ ts) h = ap₂ (λ (x : ℕ) (y : Terms). (x, t.1) ∷ y) (mul_mod-one_first p t.0 h.1) (multiplied-one p cmp ts h.5)

none_left : {A : Type 0} (xs : List A) → length xs ≡ 0 → xs ≡ []
none_left [] h = refl
none_left (x ∷ xs) h = absurd (omega arith)

module _ {F : Type 0} (value : F → ℕ) (p : ℕ) (cmp : Monomial → Monomial → Ordering) (c one : ℕ) (one_is : one ≡ 1) (left right : List (F × Bor Monomial)) (left_ordered : IsSortedBy p cmp (residues value left)) where
  -- where one side has ended, what is left of both comes after the other
  ended : (length right ≡ 0) ⊎ (length left ≡ 0) → multiplied p one (residues value left) ++ multiplied p c (residues value right) ≡ merged p cmp c (residues value left) (residues value right)
  ended (inl h) =
      let e : right ≡ [] = none_left right h in
      ap (λ k. multiplied p one (residues value left) ++ multiplied p c (residues value k)) e
      ∙ append-nil (multiplied p one (residues value left))
      ∙ ap (λ k. multiplied p k (residues value left)) one_is ∙ multiplied-one p cmp (residues value left) left_ordered
      ∙ sym (ap (λ k. merged p cmp c (residues value left) (residues value k)) e ∙ merged-end p cmp c (residues value left))
  ended (inr h) =
      let e : left ≡ [] = none_left left h in
      ap (λ k. multiplied p one (residues value k) ++ multiplied p c (residues value right)) e
      ∙ sym (ap (λ k. merged p cmp c (residues value k) (residues value right)) e)

  pub finished : (out first second all : Terms) → first ≡ out ++ multiplied p one (residues value left) → second ≡ first ++ multiplied p c (residues value right) → (length right ≡ 0) ⊎ (length left ≡ 0) → out ++ merged p cmp c (residues value left) (residues value right) ≡ all → second ≡ all
  finished out first second all e f h i =
      f ∙ ap (λ k. k ++ multiplied p c (residues value right)) e ∙ simp append_assoc (ap (λ k. out ++ k) (ended h) ∙ i)
