-- What sorted terms are: normal, with monomials; their degrees; and the products of each two.
use Rattle.std.proofs.Common.{ap₂, ◌≡◌, ◌≢◌, ℕ, suc, ◌+◌, ◌-◌, ◌*◌, ◌%◌, ◌^◌, ◌<◌, ◌≤◌, max, fold, List, [], ◌∷◌, ◌++◌, length, drop, refl, sym, ap, ◌∙◌, arith, append-nil, length-drop, mod-eq_of_lt}
use Rattle.std.proofs.lemmas.Nat.{mul-mod_first}
use Rattle.std.proofs.lemmas.Cmp.{tied_itself}
use Rattle.std.specs.Borrow.{Bor}
use Rattle.std.specs.declared.cmp.Ordering.{Ordering}
use Rattle.std.specs.declared.cmp.Ordering.TheVariants.{Equal, Greater}
use Rattle.ffc_field.specs.Modular.{mul_mod, neg_mod}
use Rattle.ffc_ring.specs.Monomial.{Monomial, IsMonomial, degree, mono_mul}
use Rattle.ffc_ring.specs.Polynomial.{Terms, IsNoneOf, SamePolynomial, written, term_product, product, scaled, difference}
use Rattle.ffc_ring.proofs.MonomialLemmas.{IsMonomial-mono_mul, degree-mono_mul}
use Rattle.ffc_ring.proofs.PolynomialLemmas.{weighted, SamePolynomial-from_weighted, sum_alike, same_sums}
use Rattle.ffc_trees.specs.Normal.{IsNormal, monomials_of, degree_of}
use Rattle.ffc_ckpoly.specs.Flat.{cut, HaveMonomials, as_written, times, rows, RowFits, ProductFits}
use Rattle.ffc_ckpoly.specs.Sorted.{residues, IsAbove, IsSortedBy}
use Rattle.ffc_ckpoly.proofs.OrderLemmas.{IsExactOrder}
use Rattle.ffc_ckpoly.proofs.Sums.{SamePolynomial-scaled_one}

module _ (p : ℕ) (cmp : Monomial → Monomial → Ordering) (laws : IsExactOrder cmp) where
  not_itself : (m n : Monomial) → cmp m n ≡ Greater → n ≢ m
  not_itself m n e same =
      let tied : Equal ≡ Greater = sym (tied_itself laws.total m) ∙ ap (cmp m) (sym same) ∙ e in absurd (cc tied)

  none_of_above : (m : Monomial) (ts : Terms) → IsAbove cmp m ts → IsNoneOf (monomials_of ts) m
  none_of_above m [] h = tt
  none_of_above m (t ∷ ts) h = (not_itself m t.1 h.0, none_of_above m ts h.1)

  pub sorted_normal : (ts : Terms) → IsSortedBy p cmp ts → IsNormal p ts
  sorted_normal [] h = tt
  sorted_normal (t ∷ ts) h = (h.0, h.1, none_of_above t.1 ts h.4, sorted_normal ts h.5)

pub sorted_monomials : (p : ℕ) (cmp : Monomial → Monomial → Ordering) (ts : Terms) → IsSortedBy p cmp ts → HaveMonomials ts
sorted_monomials p cmp [] h = tt
sorted_monomials p cmp (t ∷ ts) h = (h.2, h.3, sorted_monomials p cmp ts h.5)

pub length-cut : {F : Type 0} (value : F → ℕ) (start : ℕ) (marks : List (F × ℕ)) (powers : List (ℕ × ℕ)) → length (cut value start marks powers) ≡ length marks
length-cut value start [] powers = refl
length-cut value start (k ∷ marks) powers = ap suc (length-cut value k.1 marks (drop (k.1 - start) powers))

-- nothing is left past the end

nothing_in : {A : Type 0} (xs : List A) → length xs ≡ 0 → xs ≡ []
nothing_in [] h = refl
nothing_in (x ∷ xs) h = absurd (omega arith)

pub nothing_past : {A : Type 0} (i : ℕ) (xs : List A) → length xs ≤ i → drop i xs ≡ []
nothing_past i xs h = nothing_in (drop i xs) (omega (arith, length-drop i xs))

pub all_residues : {F : Type 0} (value : F → ℕ) (out : Terms) (i : ℕ) (ts : List (F × Bor Monomial)) → length ts ≤ i → out ++ residues value (drop i ts) ≡ residues value ts → out ≡ residues value ts
all_residues value out i ts h e = sym (append-nil out) ∙ ap (λ k. out ++ residues value k) (sym (nothing_past i ts h)) ∙ e

pub all_written : {F V : Type 0} (value : F → ℕ) (powers : V → Monomial) (out : Terms) (i : ℕ) (ts : List (F × V)) → length ts ≤ i → out ++ as_written value (drop i ts) powers ≡ as_written value ts powers → out ≡ as_written value ts powers
all_written value powers out i ts h e = sym (append-nil out) ∙ ap (λ k. out ++ as_written value k powers) (sym (nothing_past i ts h)) ∙ e

-- degrees

abbrev pub degree_from : ℕ → Terms → ℕ
degree_from s ts = fold (λ a (t : ℕ × Monomial). max a (degree t.1)) s ts

pub max_turned : (a b : ℕ) → max a b ≡ max b a
max_turned a b = omega arith

start_within : (s : ℕ) (ts : Terms) → s ≤ degree_from s ts
start_within s [] = omega arith
start_within s (t ∷ ts) = omega (arith, start_within (max s (degree t.1)) ts)

-- each degree is at most d
abbrev AreWithin : ℕ → Terms → Type 0
AreWithin d [] = Unit {0}
AreWithin d (t ∷ ts) = (degree t.1 ≤ d) × AreWithin d ts

within_from : (s : ℕ) (ts : Terms) → AreWithin (degree_from s ts) ts
within_from s [] = tt
within_from s (t ∷ ts) = (omega (arith, start_within (max s (degree t.1)) ts), within_from (max s (degree t.1)) ts)

row_fits : (d : ℕ) (m : Monomial) (ts : Terms) → HaveMonomials ts → AreWithin d ts → degree m + d < 2 ^ 64 → RowFits m ts
row_fits d m [] h w f = tt
row_fits d m (t ∷ ts) h w f = (h.0, omega (arith, w.0, f), row_fits d m ts h.2 w.1 f)

product_fits : (d e : ℕ) (a b : Terms) → HaveMonomials a → HaveMonomials b → AreWithin d a → AreWithin e b → d + e < 2 ^ 64 → ProductFits a b
product_fits d e [] b h k v w f = tt
product_fits d e (t ∷ a) b h k v w f = (h.0, row_fits e t.1 b k w (omega (arith, v.0, f)), product_fits d e a b h.2 k v.1 w f)

pub fits_product : (a b : Terms) → HaveMonomials a → HaveMonomials b → degree_of a + degree_of b < 2 ^ 64 → ProductFits a b
fits_product a b h k f = product_fits (degree_of a) (degree_of b) a b h k (within_from 0 a) (within_from 0 b) f

-- products

pub append_monomials : (a b : Terms) → HaveMonomials a → HaveMonomials b → HaveMonomials (a ++ b)
append_monomials [] b h k = k
append_monomials (t ∷ a) b h k = (h.0, h.1, append_monomials a b h.2 k)

pub times_monomials : (p c : ℕ) (m : Monomial) (ts : Terms) → IsMonomial m → RowFits m ts → HaveMonomials (times p c m ts)
times_monomials p c m [] v f = tt
times_monomials p c m (t ∷ ts) v f = (IsMonomial-mono_mul m t.1 v f.0, omega (arith, degree-mono_mul m t.1, f.1), times_monomials p c m ts v f.2)

pub rows_monomials : (p : ℕ) (a b : Terms) → ProductFits a b → HaveMonomials (rows p a b)
rows_monomials p [] b f = tt
rows_monomials p (t ∷ a) b f = append_monomials (times p t.0 t.1 b) (rows p a b) (times_monomials p t.0 t.1 b f.0 f.1) (rows_monomials p a b f.2)

weighted-times : (p c : ℕ) (m : Monomial) (g : Monomial → ℕ) (ts : Terms) → weighted g (times p c m ts) % p ≡ weighted g (term_product c m ts) % p
weighted-times p c m g [] = refl
weighted-times p c m g (t ∷ ts) =
    sum_alike p (mul_mod p c t.0 * g (mono_mul m t.1)) (c * t.0 * g (mono_mul m t.1)) (weighted g (times p c m ts)) (weighted g (term_product c m ts))
    (mul-mod_first (c * t.0) (g (mono_mul m t.1)) p) (weighted-times p c m g ts)

pub rows_same : (p : ℕ) (a b : Terms) → SamePolynomial p (rows p a b) (product a b)
rows_same p [] b = λ m. refl
rows_same p (t ∷ a) b =
    same_sums p (times p t.0 t.1 b) (term_product t.0 t.1 b) (rows p a b) (product a b)
    (SamePolynomial-from_weighted p (times p t.0 t.1 b) (term_product t.0 t.1 b) (λ g. weighted-times p t.0 t.1 g b)) (rows_same p a b)

-- sums and differences

pub sum_of_both : (p k : ℕ) (r a b : Terms) → k ≡ 1 → SamePolynomial p r (a ++ scaled k b) → SamePolynomial p r (a ++ b)
sum_of_both p k r a b one h m =
    h m ∙ ap (λ j. written (a ++ scaled j b) m % p) one ∙ same_sums p a a (scaled 1 b) b (λ n. refl) (SamePolynomial-scaled_one p b) m

pub minus_one : (p k j : ℕ) → 2 ≤ p → k ≡ 1 % p → j ≡ neg_mod p k → j ≡ p - 1
minus_one p k j h e f =
    let one : k ≡ 1 = e ∙ mod-eq_of_lt (omega (arith, h)) in
    f ∙ ap (λ x. (p - x) % p) one ∙ mod-eq_of_lt (omega (arith, h))

pub difference_of_both : (p j : ℕ) (r a b : Terms) → j ≡ p - 1 → SamePolynomial p r (a ++ scaled j b) → SamePolynomial p r (difference p a b)
difference_of_both p j r a b e h m = h m ∙ ap (λ k. written (a ++ scaled k b) m % p) e

-- the products of one written term

pub fits_row : (m : Monomial) (ts : Terms) → HaveMonomials ts → degree m + degree_of ts < 2 ^ 64 → RowFits m ts
fits_row m ts h f = row_fits (degree_of ts) m ts h (within_from 0 ts) f

times_reduced : (p c : ℕ) (m : Monomial) (ts : Terms) → times p (c % p) m ts ≡ times p c m ts
times_reduced p c m [] = refl
times_reduced p c m (t ∷ ts) = ap₂ (λ (k : ℕ) (rest : Terms). (k, mono_mul m t.1) ∷ rest) (mul-mod_first c t.0 p) (times_reduced p c m ts)

pub times_same : (p c k : ℕ) (m : Monomial) (ts : Terms) → k ≡ c % p → SamePolynomial p (times p k m ts) (term_product c m ts)
times_same p c k m ts e n =
    ap (λ j. written (times p j m ts) n % p) e ∙ ap (λ us. written us n % p) (times_reduced p c m ts)
    ∙ SamePolynomial-from_weighted p (times p c m ts) (term_product c m ts) (λ g. weighted-times p c m g ts) n
