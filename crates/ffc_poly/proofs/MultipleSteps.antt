-- The steps of the merge with a multiple c*m*b, over lists of terms, by places.
use Rattle.std.proofs.Common.{◌≡◌, ◌≢◌, ◌⊎◌, ℕ, zero, suc, ◌+◌, ◌*◌, ◌%◌, ◌<◌, ◌≤◌, List, [], ◌∷◌, ◌++◌, length, get_or, drop, refl, sym, ap, ap₂, ◌∙◌, subst, inl, inr, arith, mod-lt, mod-eq_of_lt}
use Rattle.std.proofs.lemmas.List.{drop_more, take_rest}
use Rattle.std.specs.Prelude.{slice_range}
use Rattle.std.specs.declared.cmp.Ordering.{Ordering}
use Rattle.std.specs.declared.cmp.Ordering.TheVariants.{Less, Equal, Greater}
use Rattle.ffc_field.specs.Modular.{add_mod, mul_mod}
use Rattle.ffc_ring.specs.Monomial.{Monomial, mono_mul}
use Rattle.ffc_ring.specs.Polynomial.{Terms}
use Rattle.ffc_poly.specs.Ordered.{RowFits, multiplied, times, next_product}
use Rattle.ffc_poly.proofs.Merging.{merged}
use Rattle.ffc_poly.proofs.MergingSteps.{pushed_term, step_less, step_greater, step_equal, step_cancelled, finished}
use Rattle.ffc_poly.proofs.ProductLemmas.{length-times}

-- products of what is left
drop-times : (p c : ℕ) (m : Monomial) (j : ℕ) (b : Terms) → drop j (times p c m b) ≡ times p c m (drop j b)
drop-times p c m zero b = refl
drop-times p c m (suc j) [] = refl
drop-times p c m (suc j) (t ∷ b) = drop-times p c m j b

-- the product at a place
coefficient-times : (p c : ℕ) (m : Monomial) (j : ℕ) (b : Terms) → j < length b → (get_or (times p c m b) j (0, [])).0 ≡ mul_mod p c (get_or b j (0, [])).0
coefficient-times p c m j [] h = absurd (omega arith)
coefficient-times p c m zero (t ∷ b) h = refl
coefficient-times p c m (suc j) (t ∷ b) h = coefficient-times p c m j b (omega arith)

monomial-times : (p c : ℕ) (m : Monomial) (j : ℕ) (b : Terms) → j < length b → (get_or (times p c m b) j (0, [])).1 ≡ mono_mul m (get_or b j (0, [])).1
monomial-times p c m j [] h = absurd (omega arith)
monomial-times p c m zero (t ∷ b) h = refl
monomial-times p c m (suc j) (t ∷ b) h = monomial-times p c m j b (omega arith)

-- residues times 1
one_times : (p c x : ℕ) → 0 < p → mul_mod p c x ≡ mul_mod p 1 (mul_mod p c x)
one_times p c x positive =
    let low : c * x % p < p = mod-lt (c * x) positive in
    sym (mod-eq_of_lt low) ∙ ap (λ n. n % p) (let one : c * x % p ≡ 1 * (c * x % p) = omega arith in one)

multiplied-one : (p c : ℕ) (m : Monomial) (b : Terms) → 0 < p → times p c m b ≡ multiplied p 1 (times p c m b)
multiplied-one p c m [] positive = refl
multiplied-one p c m (t ∷ b) positive =
    ap₂ (λ (x : ℕ) (y : Terms). (x, mono_mul m t.1) ∷ y) (one_times p c t.0 positive) (multiplied-one p c m b positive)

-- the product in the row is that of the next term
pub row_at : (m : Monomial) (j : ℕ) (b : Terms) (row : List Monomial) → j < length b → row ≡ next_product m (drop j b) → get_or row 0 [] ≡ mono_mul m (get_or b j (0, [])).1
row_at m j b row h e = ap (λ r. get_or r 0 []) (e ∙ ap (next_product m) (drop_more b j (0, []) h))

-- the rest of the products fits
pub RowFits-rest : (limit : ℕ) (m : Monomial) (j : ℕ) (b : Terms) → j < length b → RowFits limit m (drop j b) → RowFits limit m (drop (j + 1) b)
RowFits-rest limit m j b h fits = (subst (RowFits limit m) (drop_more b j (0, []) h) fits).1

-- One step of the merge: (s, n) is the next term of a, (t, u) the next product, and `out` is what is merged so far.
pub record AtStep (p : ℕ) (cmp : Monomial → Monomial → Ordering) (c : ℕ) (m : Monomial) (a b : Terms) (i j s : ℕ) (n : Monomial) (t : ℕ) (u : Monomial) (out all : Terms) : Type 0 where
  pub positive : 0 < p
  pub in_a : i < length a
  pub in_b : j < length b
  pub s_is : s ≡ (get_or a i (0, [])).0
  pub n_is : n ≡ (get_or a i (0, [])).1
  pub t_is : t ≡ mul_mod p c (get_or b j (0, [])).0
  pub u_is : u ≡ mono_mul m (get_or b j (0, [])).1
  pub so_far : out ++ merged p cmp 1 (drop i a) (drop j (times p c m b)) ≡ all

-- after each step `later` is what is merged
module _ {p : ℕ} {cmp : Monomial → Monomial → Ordering} {c : ℕ} {m : Monomial} {a b : Terms} {i j s : ℕ} {n : Monomial} {t : ℕ} {u : Monomial} {out all : Terms} (step : AtStep p cmp c m a b i j s n t u out all) where
  in_products : j < length (times p c m b)
  in_products = omega (arith, length-times p c m b, step.in_b)

  monomials : (o : Ordering) → cmp n u ≡ o → cmp (get_or a i (0, [])).1 (get_or (times p c m b) j (0, [])).1 ≡ o
  monomials o e = ap₂ cmp (sym step.n_is) (monomial-times p c m j b step.in_b ∙ sym step.u_is) ∙ e

  coefficients : t ≡ mul_mod p 1 (get_or (times p c m b) j (0, [])).0
  coefficients = step.t_is ∙ one_times p c (get_or b j (0, [])).0 step.positive ∙ ap (mul_mod p 1) (sym (coefficient-times p c m j b step.in_b))

  sums : add_mod p s t ≡ add_mod p (get_or a i (0, [])).0 (mul_mod p 1 (get_or (times p c m b) j (0, [])).0)
  sums = ap₂ (add_mod p) step.s_is coefficients

  pub product_taken : (later : Terms) → cmp n u ≡ Less → later ≡ out ++ (t, u) ∷ [] → later ++ merged p cmp 1 (drop i a) (drop (j + 1) (times p c m b)) ≡ all
  product_taken later e pushed =
      pushed_term out later t _ u _ _ _ all pushed coefficients (step.u_is ∙ sym (monomial-times p c m j b step.in_b))
      (step_less p cmp 1 a (times p c m b) i j step.in_a in_products (get_or a i (0, [])) (get_or (times p c m b) j (0, [])) refl refl (monomials Less e)) step.so_far

  pub term_taken : (later : Terms) → cmp n u ≡ Greater → later ≡ out ++ (s, n) ∷ [] → later ++ merged p cmp 1 (drop (i + 1) a) (drop j (times p c m b)) ≡ all
  term_taken later e pushed =
      pushed_term out later s _ n _ _ _ all pushed step.s_is step.n_is
      (step_greater p cmp 1 a (times p c m b) i j step.in_a in_products (get_or a i (0, [])) (get_or (times p c m b) j (0, [])) refl refl (monomials Greater e)) step.so_far

  pub sum_taken : (later : Terms) → cmp n u ≡ Equal → add_mod p s t ≢ 0 → later ≡ out ++ (add_mod p s t, n) ∷ [] → later ++ merged p cmp 1 (drop (i + 1) a) (drop (j + 1) (times p c m b)) ≡ all
  sum_taken later e some pushed =
      pushed_term out later (add_mod p s t) _ n _ _ _ all pushed sums step.n_is
      (step_equal p cmp 1 a (times p c m b) i j step.in_a in_products (get_or a i (0, [])) (get_or (times p c m b) j (0, [])) refl refl (monomials Equal e) (λ z. some (sums ∙ z))) step.so_far

  pub both_cancelled : (later : Terms) → cmp n u ≡ Equal → add_mod p s t ≡ 0 → later ≡ out → later ++ merged p cmp 1 (drop (i + 1) a) (drop (j + 1) (times p c m b)) ≡ all
  both_cancelled later e none same =
      ap (λ k. k ++ merged p cmp 1 (drop (i + 1) a) (drop (j + 1) (times p c m b))) same
      ∙ ap (λ k. out ++ k)
      (sym (step_cancelled p cmp 1 a (times p c m b) i j step.in_a in_products (get_or a i (0, [])) (get_or (times p c m b) j (0, [])) refl refl (monomials Equal e) (sym sums ∙ none)))
      ∙ step.so_far

-- where one side has ended, what is left of both comes one after the other
pub multiple_finished : (p : ℕ) → 0 < p → (cmp : Monomial → Monomial → Ordering) (c : ℕ) (m : Monomial) (a b : Terms) (i j : ℕ) (out first second all : Terms) → first ≡ out ++ slice_range a i (length a) → second ≡ first ++ times p c m (drop j b) → (length a ≤ i) ⊎ (length b ≤ j) → out ++ merged p cmp 1 (drop i a) (drop j (times p c m b)) ≡ all → second ≡ all
multiple_finished p positive cmp c m a b i j out first second all e f h so_far =
    let products = times p c m b in
    let left : times p c m (drop j b) ≡ multiplied p 1 (slice_range products j (length products)) =
    multiplied-one p c m (drop j b) positive ∙ ap (multiplied p 1) (sym (take_rest products j ∙ drop-times p c m j b)) in
    let ended : (length a ≤ i) ⊎ (length products ≤ j) = elim h [ inl x ↦ inl x | inr y ↦ inr (omega (arith, length-times p c m b)) ] in
    finished p cmp 1 a products i j out first second all e (f ∙ ap (λ k. first ++ k) left) ended so_far
