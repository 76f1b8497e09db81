-- Sums of ordered lists of terms, one of which is exchanged.
use Rattle.std.proofs.Common.{◌≡◌, ℕ, zero, suc, ◌+◌, ◌-◌, ◌%◌, ◌<◌, ◌≤◌, List, [], ◌∷◌, ◌++◌, length, get_or, take, set, refl, sym, ap, ◌∙◌, subst, arith, add_assoc}
use Rattle.std.proofs.Math.Nat.{add-mod-mod, mod-lt}
use Rattle.std.proofs.lemmas.List.{get_or_default, get_or-take, length-take}
use Rattle.std.specs.declared.cmp.Ordering.{Ordering}
use Rattle.ffc_ring.specs.Monomial.{Monomial}
use Rattle.ffc_ring.specs.Polynomial.{Terms, SamePolynomial}
use Rattle.ffc_ring.proofs.PolynomialLemmas.{weighted, weighted-append, one_weighted, cancel_mod, sum_alike, SamePolynomial-from_weighted}
use Rattle.ffc_poly.specs.Ordered.{sum_of, IsOrdered}
use Rattle.ffc_poly.specs.Tails.{AreOrdered}

pub cancel_any : (p a b r : ℕ) → 0 < p → (a + r) % p ≡ (b + r) % p → a % p ≡ b % p
cancel_any p a b r h e =
    let below : r % p < p = mod-lt r h in
    cancel_mod p a b (r % p) (omega arith) (add-mod-mod a r p ∙ e ∙ sym (add-mod-mod b r p))

pub weighted-set : (g : Monomial → ℕ) (xs : List Terms) (i : ℕ) (t : Terms) → i < length xs → weighted g (sum_of (set xs i t)) + weighted g (get_or xs i []) ≡ weighted g (sum_of xs) + weighted g t
weighted-set g [] i t h = absurd (omega arith)
weighted-set g (x ∷ xs) zero t h = omega (arith, weighted-append g t (sum_of xs), weighted-append g x (sum_of xs))
weighted-set g (x ∷ xs) (suc i) t h =
    omega (arith, weighted-set g xs i t (omega arith), weighted-append g x (sum_of (set xs i t)), weighted-append g x (sum_of xs))

weighted-last : (g : Monomial → ℕ) (xs : List Terms) (n : ℕ) → length xs ≡ suc n → weighted g (sum_of xs) ≡ weighted g (sum_of (take n xs)) + weighted g (get_or xs n [])
weighted-last g [] n e = absurd (omega arith)
weighted-last g (x ∷ []) zero e = omega (arith, weighted-append g x [])
weighted-last g (x ∷ y ∷ xs) zero e = absurd (omega arith)
weighted-last g (x ∷ xs) (suc n) e =
    omega (arith, weighted-last g xs n (omega arith), weighted-append g x (sum_of xs), weighted-append g x (sum_of (take n xs)))

pub AreOrdered-set : (p : ℕ) (cmp : Monomial → Monomial → Ordering) (limit : ℕ) (xs : List Terms) (i : ℕ) (t : Terms) → AreOrdered p cmp limit xs → IsOrdered p cmp limit t → AreOrdered p cmp limit (set xs i t)
AreOrdered-set p cmp limit [] i t v w = tt
AreOrdered-set p cmp limit (x ∷ xs) zero t v w = (w, v.1)
AreOrdered-set p cmp limit (x ∷ xs) (suc i) t v w = (v.0, AreOrdered-set p cmp limit xs i t v.1 w)

pub AreOrdered-take : (p : ℕ) (cmp : Monomial → Monomial → Ordering) (limit : ℕ) (n : ℕ) (xs : List Terms) → AreOrdered p cmp limit xs → AreOrdered p cmp limit (take n xs)
AreOrdered-take p cmp limit zero xs v = tt
AreOrdered-take p cmp limit (suc n) [] v = tt
AreOrdered-take p cmp limit (suc n) (x ∷ xs) v = (v.0, AreOrdered-take p cmp limit n xs v.1)

pub AreOrdered-at : (p : ℕ) (cmp : Monomial → Monomial → Ordering) (limit : ℕ) (xs : List Terms) (i : ℕ) → AreOrdered p cmp limit xs → i < length xs → IsOrdered p cmp limit (get_or xs i [])
AreOrdered-at p cmp limit [] i v h = absurd (omega arith)
AreOrdered-at p cmp limit (x ∷ xs) zero v h = v.0
AreOrdered-at p cmp limit (x ∷ xs) (suc i) v h = AreOrdered-at p cmp limit xs i v.1 (omega arith)

pub ordered_item : (p : ℕ) (cmp : Monomial → Monomial → Ordering) (limit : ℕ) (xs : List Terms) (i : ℕ) (x : Terms) → AreOrdered p cmp limit xs → i < length xs → x ≡ get_or xs i x → IsOrdered p cmp limit x
ordered_item p cmp limit xs i x v h e =
    subst (IsOrdered p cmp limit) (sym (e ∙ get_or_default xs i x [] h)) (AreOrdered-at p cmp limit xs i v h)

pub same_sums_of : (p w v m a b : ℕ) → 0 < p → w + a + b ≡ v + m → m % p ≡ (a + b) % p → w % p ≡ v % p
same_sums_of p w v m a b h e f =
    cancel_any p w v (a + b) h (ap (λ k. k % p) (sym (add_assoc w a b) ∙ e) ∙ sum_alike p v v m (a + b) refl f)

-- the last two of the lists merged
pub merged_last : (p : ℕ) → 0 < p → (xs : List Terms) (n : ℕ) (a b m : Terms) → length xs ≡ n → 2 ≤ n → a ≡ get_or xs (n - 2) a → b ≡ get_or xs (n - 1) b → SamePolynomial p m (a ++ b) → SamePolynomial p (sum_of (set (take (n - 1) xs) (n - 2) m)) (sum_of xs)
merged_last p h xs n a b m size two a_is b_is same =
    let ys = take (n - 1) xs in
    let low : n - 2 < length ys = omega (arith, length-take (n - 1) xs) in
    let first : get_or ys (n - 2) [] ≡ a =
    get_or-take (n - 1) xs (n - 2) [] (omega arith) ∙ sym (a_is ∙ get_or_default xs (n - 2) a [] (omega arith)) in
    let last : get_or xs (n - 1) [] ≡ b = sym (b_is ∙ get_or_default xs (n - 1) b [] (omega arith)) in
    SamePolynomial-from_weighted p (sum_of (set ys (n - 2) m)) (sum_of xs)
    (λ g.
    same_sums_of p (weighted g (sum_of (set ys (n - 2) m))) (weighted g (sum_of xs)) (weighted g m) (weighted g a) (weighted g b) h
    (omega (arith, weighted-set g ys (n - 2) m low, ap (weighted g) first, weighted-last g xs (n - 1) (omega arith), ap (weighted g) last))
    (one_weighted p g m (a ++ b) same ∙ ap (λ k. k % p) (weighted-append g a b)))

pub AreOrdered-split : (p : ℕ) (cmp : Monomial → Monomial → Ordering) (limit : ℕ) (xs : List Terms) (x : Terms) → AreOrdered p cmp limit (xs ++ x ∷ []) → AreOrdered p cmp limit xs × IsOrdered p cmp limit x
AreOrdered-split p cmp limit [] x v = (tt, v.0)
AreOrdered-split p cmp limit (y ∷ xs) x v =
    let rest = AreOrdered-split p cmp limit xs x v.1 in ((v.0, rest.0), rest.1)

pub AreOrdered-push : (p : ℕ) (cmp : Monomial → Monomial → Ordering) (limit : ℕ) (xs : List Terms) (x : Terms) → AreOrdered p cmp limit xs → IsOrdered p cmp limit x → AreOrdered p cmp limit (xs ++ x ∷ [])
AreOrdered-push p cmp limit [] x v w = (w, tt)
AreOrdered-push p cmp limit (y ∷ xs) x v w = (v.0, AreOrdered-push p cmp limit xs x v.1 w)
