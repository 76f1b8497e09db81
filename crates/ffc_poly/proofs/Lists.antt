-- Lists of terms over the elements of a field, seen as terms of residues.
use Rattle.std.proofs.Common.{◌≡◌, ℕ, zero, suc, ◌+◌, ◌<◌, ◌≤◌, List, [], ◌∷◌, ◌++◌, length, get_or, take, drop, refl, sym, ap, ap₂, ◌∙◌, inl, inr, arith, drop-cons, add-one, take-append-drop}
use Rattle.ffc_ring.specs.Monomial.{Monomial, degree}
use Rattle.ffc_ring.specs.Polynomial.{Terms}
use Rattle.ffc_poly.specs.Ordered.{residues, AreWithin, HasDegree}

-- what is left from a place on begins with the element there
pub left_at : {A : Type 0} (xs : List A) (i : ℕ) (x : A) → i < length xs → x ≡ get_or xs i x → drop i xs ≡ x ∷ drop (i + 1) xs
left_at xs i x h e = drop-cons xs i x h ∙ ap₂ ◌∷◌ (sym e) (ap (λ k. drop k xs) (sym (add-one i)))

module _ {F : Type 0} (value : F → ℕ) where
  pub residues-append : (a b : List (F × Monomial)) → residues value (a ++ b) ≡ residues value a ++ residues value b
  residues-append [] b = refl
  residues-append (t ∷ a) b = ap (λ k. (value t.0, t.1) ∷ k) (residues-append a b)

  pub length-residues : (a : List (F × Monomial)) → length (residues value a) ≡ length a
  length-residues [] = refl
  length-residues (t ∷ a) = ap suc (length-residues a)

-- one element more is taken
pub taken_at : {A : Type 0} (xs : List A) (i : ℕ) (x : A) → i < length xs → x ≡ get_or xs i x → take (i + 1) xs ≡ take i xs ++ x ∷ []
taken_at [] i x h e = absurd (omega arith)
taken_at (y ∷ ys) zero x h e = ap (λ k. k ∷ []) (sym e)
taken_at (y ∷ ys) (suc i) x h e = rw add-one (ap (λ k. y ∷ k) (sym (ap (λ k. take k ys) (add-one i)) ∙ taken_at ys i x (omega arith) e))

pub AreWithin-higher : (d e : ℕ) (ts : Terms) → AreWithin d ts → d ≤ e → AreWithin e ts
AreWithin-higher d e [] w h = tt
AreWithin-higher d e (t ∷ ts) w h = (omega (arith, w.0), AreWithin-higher d e ts w.1 h)

pub AreWithin-push : (d : ℕ) (ts : Terms) (t : ℕ × Monomial) → AreWithin d ts → degree t.1 ≤ d → AreWithin d (ts ++ t ∷ [])
AreWithin-push d [] t w h = (h, tt)
AreWithin-push d (s ∷ ts) t w h = (w.0, AreWithin-push d ts t w.1 h)

pub HasDegree-front : (d : ℕ) (ts us : Terms) → HasDegree d ts → HasDegree d (ts ++ us)
HasDegree-front d [] us h = absurd h
HasDegree-front d (t ∷ ts) us (inl h) = inl h
HasDegree-front d (t ∷ ts) us (inr h) = inr (HasDegree-front d ts us h)

pub HasDegree-last : (d : ℕ) (ts : Terms) (t : ℕ × Monomial) → degree t.1 ≡ d → HasDegree d (ts ++ t ∷ [])
HasDegree-last d [] t h = inl h
HasDegree-last d (s ∷ ts) t h = inr (HasDegree-last d ts t h)

-- two halves make the whole
pub halved : {F : Type 0} (value : F → ℕ) (xs front back : List (F × Monomial)) (mid : ℕ) → front ≡ take mid xs → back ≡ drop mid xs → residues value front ++ residues value back ≡ residues value xs
halved value xs front back mid f b =
    sym (residues-append value front back) ∙ ap (residues value) (ap₂ ◌++◌ f b ∙ take-append-drop mid xs)

-- within a list the default does not matter
pub get_or-any : {A : Type 0} (xs : List A) (i : ℕ) (d e : A) → i < length xs → get_or xs i d ≡ get_or xs i e
get_or-any [] i d e h = absurd (omega arith)
get_or-any (x ∷ xs) zero d e h = refl
get_or-any (x ∷ xs) (suc i) d e h = get_or-any xs i d e (omega arith)
