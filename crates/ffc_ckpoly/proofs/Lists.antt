-- Lists of terms over the elements of a field, seen as terms of residues.
use Rattle.std.proofs.Common.{◌≡◌, ℕ, zero, suc, ◌+◌, ◌<◌, ◌≤◌, List, [], ◌∷◌, ◌++◌, length, get_or, take, drop, refl, sym, ap, ap₂, ◌∙◌, arith, append_assoc, drop-cons, add-one, take-append-drop, take_all, length-drop, ◌-◌}
use Rattle.std.specs.declared.cmp.Ordering.{Ordering}
use Rattle.ffc_ring.specs.Monomial.{Monomial}
use Rattle.std.specs.Borrow.{Bor}
use Rattle.ffc_ckpoly.specs.Sorted.{residues, IsSortedBy}

-- an element pushed is in front of what is left
pub pushed : {A : Type 0} (out out' : List A) (x : A) (left all : List A) → out' ≡ out ++ x ∷ [] → out ++ (x ∷ left) ≡ all → out' ++ left ≡ all
pushed out out' x left all e h = ap (λ k. k ++ left) e ∙ simp append_assoc h

-- what is left from a place on begins with the element there
pub left_at : {A : Type 0} (xs : List A) (i : ℕ) (x : A) → i < length xs → x ≡ get_or xs i x → drop i xs ≡ x ∷ drop (i + 1) xs
left_at xs i x h e = drop-cons xs i x h ∙ ap₂ ◌∷◌ (sym e) (ap (λ k. drop k xs) (sym (add-one i)))

module _ {F : Type 0} (value : F → ℕ) where
  pub residues-append : (a b : List (F × Bor Monomial)) → residues value (a ++ b) ≡ residues value a ++ residues value b
  residues-append [] b = refl
  residues-append (t ∷ a) b = ap (λ k. (value t.0, t.1.now) ∷ k) (residues-append a b)

  pub length-residues : (a : List (F × Bor Monomial)) → length (residues value a) ≡ length a
  length-residues [] = refl
  length-residues (t ∷ a) = ap suc (length-residues a)

  -- one term more at the end
  pub residues-push : (out out' : List (F × Bor Monomial)) (k : F) (m : Bor Monomial) (r : ℕ) (n : Monomial) → out' ≡ out ++ (k, m) ∷ [] → value k ≡ r → m.now ≡ n → residues value out' ≡ residues value out ++ (r, n) ∷ []
  residues-push out out' k m r n e v w =
      ap (residues value) e ∙ residues-append out ((k, m) ∷ []) ∙ ap₂ (λ (x : ℕ) (y : Monomial). residues value out ++ (x, y) ∷ []) v w

-- two halves make the whole
pub halved : {F : Type 0} (value : F → ℕ) (xs front back : List (F × Bor Monomial)) (mid : ℕ) → front ≡ take mid xs → back ≡ drop mid xs → residues value front ++ residues value back ≡ residues value xs
halved value xs front back mid f b =
    sym (residues-append value front back) ∙ ap (residues value) (ap₂ ◌++◌ f b ∙ take-append-drop mid xs)

-- within a list the default does not matter
pub get_or-any : {A : Type 0} (xs : List A) (i : ℕ) (d e : A) → i < length xs → get_or xs i d ≡ get_or xs i e
get_or-any [] i d e h = absurd (omega arith)
get_or-any (x ∷ xs) zero d e h = refl
get_or-any (x ∷ xs) (suc i) d e h = get_or-any xs i d e (omega arith)

-- a list of one element
pub only_one : {A : Type 0} (xs : List A) (x : A) → 1 ≤ length xs → length xs < 2 → x ≡ get_or xs 0 x → xs ≡ x ∷ []
only_one [] x h g e = absurd (omega arith)
only_one (y ∷ []) x h g e = ap (λ k. k ∷ []) (sym e)
only_one (y ∷ z ∷ ys) x h g e = absurd (omega arith)

-- what is left of sorted terms is sorted
pub sorted_drop : {F : Type 0} (value : F → ℕ) (p : ℕ) (cmp : Monomial → Monomial → Ordering) (n : ℕ) (ts : List (F × Bor Monomial)) → IsSortedBy p cmp (residues value ts) → IsSortedBy p cmp (residues value (drop n ts))
sorted_drop value p cmp zero ts h = h
sorted_drop value p cmp (suc n) [] h = tt
sorted_drop value p cmp (suc n) (t ∷ ts) h = sorted_drop value p cmp n ts h.5

-- all that is left from a place on
pub whole_tail : {A : Type 0} (i : ℕ) (xs : List A) → take (length xs - i) (drop i xs) ≡ drop i xs
whole_tail i xs = take_all (length xs - i) (drop i xs) (omega (arith, length-drop i xs))

-- the same where the place after the element is known
pub left_before : {A : Type 0} (xs : List A) (end : ℕ) (x : A) → 0 < end → end ≤ length xs → x ≡ get_or xs (end - 1) x → drop (end - 1) xs ≡ x ∷ drop end xs
left_before xs end x some within e =
    left_at xs (end - 1) x (omega arith) e ∙ ap (λ k. x ∷ drop k xs) (let same : end - 1 + 1 ≡ end = omega arith in same)
