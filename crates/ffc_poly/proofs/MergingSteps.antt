-- The steps of the merge over lists of terms, by places.
use Rattle.std.proofs.Common.{◌≡◌, ◌≢◌, ◌⊎◌, ℕ, ◌+◌, ◌<◌, ◌≤◌, [], ◌∷◌, ◌++◌, length, get_or, drop, sym, ap, ap₂, ◌∙◌, eq-eqb, ne_eqb, append_assoc, append-nil, inl, inr}
use Rattle.std.proofs.lemmas.Bool.{cond-true, cond-false}
use Rattle.std.proofs.lemmas.List.{drop_more, take_rest, drop_all}
use Rattle.std.specs.Prelude.{slice_range}
use Rattle.std.specs.declared.cmp.Ordering.{Ordering}
use Rattle.std.specs.declared.cmp.Ordering.TheVariants.{Less, Equal, Greater}
use Rattle.ffc_field.specs.Modular.{add_mod, mul_mod}
use Rattle.ffc_ring.specs.Monomial.{Monomial}
use Rattle.ffc_ring.specs.Polynomial.{Terms}
use Rattle.ffc_poly.specs.Ordered.{multiplied, kept}
use Rattle.ffc_poly.proofs.Merging.{merged, merged-less, merged-equal, merged-greater, merged-end}

-- a term pushed, which is the first of what is left
pub pushed_term : (out out' : Terms) (x y : ℕ) (m n : Monomial) (left rest all : Terms) → out' ≡ out ++ (x, m) ∷ [] → x ≡ y → m ≡ n → left ≡ (y, n) ∷ rest → out ++ left ≡ all → out' ++ rest ≡ all
pushed_term out out' x y m n left rest all e v w first h =
    ap (λ k. k ++ rest) (e ∙ ap₂ (λ (a : ℕ) (b : Monomial). out ++ (a, b) ∷ []) v w) ∙ append_assoc out ((y, n) ∷ []) rest
    ∙ ap (λ k. out ++ k) (sym first) ∙ h

module _ (p : ℕ) (cmp : Monomial → Monomial → Ordering) (c : ℕ) (a b : Terms) (i j : ℕ) (in_a : i < length a) (in_b : j < length b) (s t : ℕ × Monomial) (s_is : s ≡ get_or a i (0, [])) (t_is : t ≡ get_or b j (0, [])) where
  left : drop i a ≡ s ∷ drop (i + 1) a
  left = drop_more a i (0, []) in_a ∙ ap (λ k. k ∷ drop (i + 1) a) (sym s_is)

  right : drop j b ≡ t ∷ drop (j + 1) b
  right = drop_more b j (0, []) in_b ∙ ap (λ k. k ∷ drop (j + 1) b) (sym t_is)

  opened : merged p cmp c (drop i a) (drop j b) ≡ merged p cmp c (s ∷ drop (i + 1) a) (t ∷ drop (j + 1) b)
  opened = ap₂ (merged p cmp c) left right

  pub step_less : cmp s.1 t.1 ≡ Less → merged p cmp c (drop i a) (drop j b) ≡ (mul_mod p c t.0, t.1) ∷ merged p cmp c (drop i a) (drop (j + 1) b)
  step_less e =
      opened ∙ merged-less p cmp c s t (drop (i + 1) a) (drop (j + 1) b) e
      ∙ ap (λ k. (mul_mod p c t.0, t.1) ∷ merged p cmp c k (drop (j + 1) b)) (sym left)

  pub step_greater : cmp s.1 t.1 ≡ Greater → merged p cmp c (drop i a) (drop j b) ≡ (s.0, s.1) ∷ merged p cmp c (drop (i + 1) a) (drop j b)
  step_greater e =
      opened ∙ merged-greater p cmp c s t (drop (i + 1) a) (drop (j + 1) b) e
      ∙ ap (λ k. s ∷ merged p cmp c (drop (i + 1) a) k) (sym right)

  equal : cmp s.1 t.1 ≡ Equal → merged p cmp c (drop i a) (drop j b) ≡ kept (add_mod p s.0 (mul_mod p c t.0)) s.1 (merged p cmp c (drop (i + 1) a) (drop (j + 1) b))
  equal e = opened ∙ merged-equal p cmp c s t (drop (i + 1) a) (drop (j + 1) b) e

  pub step_equal : cmp s.1 t.1 ≡ Equal → add_mod p s.0 (mul_mod p c t.0) ≢ 0 → merged p cmp c (drop i a) (drop j b) ≡ (add_mod p s.0 (mul_mod p c t.0), s.1) ∷ merged p cmp c (drop (i + 1) a) (drop (j + 1) b)
  step_equal e ne = equal e ∙ cond-false _ _ _ (ne_eqb _ 0 ne)

  pub step_cancelled : cmp s.1 t.1 ≡ Equal → add_mod p s.0 (mul_mod p c t.0) ≡ 0 → merged p cmp c (drop i a) (drop j b) ≡ merged p cmp c (drop (i + 1) a) (drop (j + 1) b)
  step_cancelled e zero_k = equal e ∙ cond-true _ _ _ (eq-eqb _ 0 zero_k)

-- where one side has ended, what is left of both comes one after the other
ended : (p : ℕ) (cmp : Monomial → Monomial → Ordering) (c : ℕ) (a b : Terms) (i j : ℕ) → (length a ≤ i) ⊎ (length b ≤ j) → drop i a ++ multiplied p c (drop j b) ≡ merged p cmp c (drop i a) (drop j b)
ended p cmp c a b i j (inl h) =
    let none : drop i a ≡ [] = drop_all i a h in
    ap (λ k. k ++ multiplied p c (drop j b)) none ∙ sym (ap (λ k. merged p cmp c k (drop j b)) none)
ended p cmp c a b i j (inr h) =
    let none : drop j b ≡ [] = drop_all j b h in
    ap (λ k. drop i a ++ multiplied p c k) none ∙ append-nil (drop i a)
    ∙ sym (ap (merged p cmp c (drop i a)) none ∙ merged-end p cmp c (drop i a))

pub finished : (p : ℕ) (cmp : Monomial → Monomial → Ordering) (c : ℕ) (a b : Terms) (i j : ℕ) (out first second all : Terms) → first ≡ out ++ slice_range a i (length a) → second ≡ first ++ multiplied p c (slice_range b j (length b)) → (length a ≤ i) ⊎ (length b ≤ j) → out ++ merged p cmp c (drop i a) (drop j b) ≡ all → second ≡ all
finished p cmp c a b i j out first second all e f h so_far =
    f ∙ ap₂ (λ x y. x ++ multiplied p c y) (e ∙ ap (λ k. out ++ k) (take_rest a i)) (take_rest b j)
    ∙ append_assoc out (drop i a) (multiplied p c (drop j b)) ∙ ap (λ k. out ++ k) (ended p cmp c a b i j h) ∙ so_far
