-- Terms in one variable in their order, and their coefficients from the lowest.
use Rattle.std.proofs.Common.{◌≡◌, ℕ, zero, suc, ◌+◌, ◌-◌, ◌<◌, ◌≤◌, ◌%◌, ◌==◌, ◌&&◌, max, Bool, true, false, List, [], ◌∷◌, ◌++◌, length, map, take, drop, get_or, replicate, refl, sym, ap, ap₂, ◌∙◌, arith, append_assoc, zero-add, add-zero, nat_lt, mod-eq_of_lt, length-take, length-drop, ne_eqb}
use Rattle.std.proofs.lemmas.Bool.{eqb-true, lt-ltb}
use Rattle.std.specs.Borrow.{Bor}
use Rattle.std.specs.declared.cmp.Ordering.{Ordering}
use Rattle.std.specs.declared.cmp.Ordering.TheVariants.{Less, Equal, Greater}
use Rattle.std.specs.Ordering.{nat_cmp, ordering_then}
use Rattle.std.proofs.lemmas.Cmp.{ranked}
use Rattle.std.proofs.lemmas.List.{map-append, length-map, take_all}
use Rattle.ffc_ring.specs.Monomial.{Monomial, IsMonomial, degree}
use Rattle.ffc_ring.specs.Polynomial.{Terms}
use Rattle.ffc_uni.specs.Univariate.{Coefficients, plus, power_of, terms_from}
use Rattle.ffc_uni.specs.Rows.{shifted}
use Rattle.ffc_trees.specs.Normal.{degree_of}
use Rattle.ffc_trees.specs.TreeLines.{is_power, is_in, coefficients_of, is_nonzero_constant}
use Rattle.ffc_ckpoly.specs.Flat.{cut, Parts}
use Rattle.ffc_ckpoly.specs.Sorted.{residues, IsSorted, word_order}
use Rattle.ffc_ckpoly.proofs.Lists.{left_at}
use Rattle.ffc_ckpoly.proofs.DegreeLemmas.{AreWithin, within_degree}

-- ---- a coefficient at its place

plus-nothing : (a : Coefficients) → plus a [] ≡ a
plus-nothing [] = refl
plus-nothing (x ∷ a) = refl

zeros_put : (k c : ℕ) → replicate k 0 ++ c ∷ [] ≡ shifted k (c ∷ [])
zeros_put zero c = refl
zeros_put (suc k) c = ap (λ a. 0 ∷ a) (zeros_put k c)

put_after : (row : Coefficients) (k c : ℕ) → row ++ shifted k (c ∷ []) ≡ plus (shifted (length row + k) (c ∷ [])) row
put_after [] k c = ap (λ n. shifted n (c ∷ [])) (sym (zero-add k)) ∙ sym (plus-nothing (shifted (0 + k) (c ∷ [])))
put_after (x ∷ row) k c =
    ap₂ (λ y (a : Coefficients). y ∷ a) (sym (zero-add x)) (put_after row k c)
    ∙ ap (λ n. plus (shifted n (c ∷ [])) (x ∷ row)) (let same : suc (length row + k) ≡ suc (length row) + k = omega arith in same)

module _ {F : Type 0} (value : F → ℕ) where
  zeros_are : (k : ℕ) (none : F) → value none ≡ 0 → map value (replicate k none) ≡ replicate k 0
  zeros_are zero none e = refl
  zeros_are (suc k) none e = ap₂ (λ x (a : Coefficients). x ∷ a) e (zeros_are k none e)

  pub put_is : (old padded new : List F) (len place : ℕ) (none coef : F) → len ≡ length old → length old ≤ place → value none ≡ 0
      → padded ≡ take place old ++ replicate (place - len) none → new ≡ padded ++ coef ∷ []
      → map value new ≡ plus (shifted place (value coef ∷ [])) (map value old)
  put_is old padded new len place none coef l h z p n =
      let k : ℕ = place - len in
      let long : length (map value old) + k ≡ place = omega (arith, l, length-map old value) in
      ap (map value) (n ∙ ap (λ a. a ++ coef ∷ []) (p ∙ ap (λ a. a ++ replicate k none) (take_all place old h)) ∙ append_assoc old (replicate k none) (coef ∷ []))
      ∙ map-append value old (replicate k none ++ coef ∷ [])
      ∙ ap (λ a. map value old ++ a) (map-append value (replicate k none) (coef ∷ []) ∙ ap (λ a. a ++ value coef ∷ []) (zeros_are k none z) ∙ zeros_put k (value coef))
      ∙ put_after (map value old) k (value coef)
      ∙ ap (λ m. plus (shifted m (value coef ∷ [])) (map value old)) long

-- ---- the order of powers of one variable

greater_power : (x : ℕ) (f g : ℕ × ℕ) → f.0 ≡ x → g.0 ≡ x → (o : Ordering) → o ≡ nat_cmp f.0 g.0 → (r : Ordering) → r ≡ nat_cmp f.1 g.1 → ordering_then (ordering_then o r) Equal ≡ Greater → g.1 < f.1
greater_power x f g a b Less is r also e = cc
greater_power x f g a b Greater is r also e = absurd (omega (arith, ranked f.0 g.0 Greater is, a, b))
greater_power x f g a b Equal is Less also e = cc
greater_power x f g a b Equal is Equal also e = cc
greater_power x f g a b Equal is Greater also e = ranked f.1 g.1 Greater also

powers_fall : (x : ℕ) (m n : Monomial) → is_power x m ≡ true → is_power x n ≡ true → IsMonomial m → word_order m n ≡ Greater → degree n < degree m
powers_fall x [] [] a b v e = cc
powers_fall x [] (g ∷ n) a b v e = cc
powers_fall x (f ∷ []) [] a b v e = omega (arith, v.1)
powers_fall x (f ∷ []) (g ∷ []) a b v e =
    let lower : g.1 < f.1 = greater_power x f g (eqb-true f.0 x a) (eqb-true g.0 x b) (nat_cmp f.0 g.0) refl (nat_cmp f.1 g.1) refl e in omega (arith, lower)
powers_fall x (f ∷ []) (g ∷ h ∷ n) a b v e = cc
powers_fall x (f ∷ h ∷ m) n a b v e = cc

both_parts : (a b : Bool) → (a && b) ≡ true → (a ≡ true) × (b ≡ true)
both_parts true b e = (refl, e)
both_parts false b e = cc

pub first_alone : (x : ℕ) (t : ℕ × Monomial) (ts : Terms) → is_in x (t ∷ ts) ≡ true → (is_power x t.1 ≡ true) × (is_in x ts ≡ true)
first_alone x t ts e = both_parts (is_power x t.1) (is_in x ts) e

length-shifted : (n c : ℕ) → length (shifted n (c ∷ [])) ≡ suc n
length-shifted zero c = refl
length-shifted (suc n) c = ap suc (length-shifted n c)

length-plus : (a b : Coefficients) → length (plus a b) ≡ max (length a) (length b)
length-plus [] b = omega arith
length-plus (x ∷ a) [] = omega arith
length-plus (x ∷ a) (y ∷ b) = let rest = length-plus a b in omega (arith, rest)

-- the coefficients after the first term are below its place
pub rest_below : (p x : ℕ) (t : ℕ × Monomial) (ts : Terms) → IsSorted p (t ∷ ts) → is_in x (t ∷ ts) ≡ true → length (coefficients_of ts) ≤ degree t.1
rest_below p x t [] s e = omega arith
rest_below p x t (u ∷ ts) s e =
    let first = first_alone x t (u ∷ ts) e in
    let second = first_alone x u ts first.1 in
    let rest : length (coefficients_of ts) ≤ degree u.1 = rest_below p x u ts s.5 first.1 in
    let lower : degree u.1 < degree t.1 = powers_fall x t.1 u.1 first.0 second.0 s.2 s.4.0 in
    omega (arith, length-plus (shifted (degree u.1) (u.0 ∷ [])) (coefficients_of ts), length-shifted (degree u.1) u.0, rest, lower)

-- ---- a test of all, one after another

module _ {F : Type 0} (value : F → ℕ) (x : ℕ) (ts : List (F × Bor Monomial)) (i : ℕ) (t : F × Bor Monomial) (inside : i < length ts) (at : t ≡ get_or ts i t) where
  at_left : is_in x (residues value (drop i ts)) ≡ (is_power x t.1.now && is_in x (residues value (drop (i + 1) ts)))
  at_left = ap (λ us. is_in x (residues value us)) (left_at ts i t inside at)

  pub other_here : false ≡ is_power x t.1.now → is_in x (residues value (drop i ts)) ≡ is_in x (residues value ts) → false ≡ is_in x (residues value ts)
  other_here e h = ap (λ b. b && is_in x (residues value (drop (i + 1) ts))) e ∙ sym at_left ∙ h

  pub power_here : true ≡ is_power x t.1.now → is_in x (residues value (drop i ts)) ≡ is_in x (residues value ts) → is_in x (residues value (drop (i + 1) ts)) ≡ is_in x (residues value ts)
  power_here e h = ap (λ b. b && is_in x (residues value (drop (i + 1) ts))) e ∙ sym at_left ∙ h

-- what is left of terms in x alone is in x alone
pub alone_drop : (x n : ℕ) (ts : Terms) → is_in x ts ≡ true → is_in x (drop n ts) ≡ true
alone_drop x zero ts e = e
alone_drop x (suc n) [] e = e
alone_drop x (suc n) (t ∷ ts) e = alone_drop x n ts (first_alone x t ts e).1

pub residues-drop : {F : Type 0} (value : F → ℕ) (n : ℕ) (ts : List (F × Bor Monomial)) → residues value (drop n ts) ≡ drop n (residues value ts)
residues-drop value zero ts = refl
residues-drop value (suc n) [] = refl
residues-drop value (suc n) (t ∷ ts) = residues-drop value n ts

-- ---- terms from coefficients

pub power_is : (x k : ℕ) → IsMonomial (power_of x k)
power_is x zero = tt
power_is x (suc k) = (omega arith, omega arith, tt)

pub degree-power : (x k : ℕ) → degree (power_of x k) ≡ k
degree-power x zero = refl
degree-power x (suc k) = add-zero (suc k)

pub within_from : (d x k : ℕ) (a : Coefficients) → k + length a ≤ d + 1 → AreWithin d (terms_from x k a)
within_from d x k [] h = tt
within_from d x k (c ∷ a) h = (omega (arith, degree-power x k), within_from d x (suc k) a (omega arith))

-- ---- a constant other than 0

take_nil : (n : ℕ) → take {A = ℕ × ℕ} n [] ≡ []
take_nil zero = refl
take_nil (suc n) = refl

no_powers : (c : ℕ) (powers : List (ℕ × ℕ)) (p : ℕ) → 0 < length powers → is_nonzero_constant p ((c, powers) ∷ []) ≡ false
no_powers c [] p h = absurd (omega arith)
no_powers c (f ∷ m) p h = refl

pub constant_is : {F : Type 0} (value : F → ℕ) (p : ℕ) (below : (x : F) → value x < p) (marks : List (F × ℕ)) (powers : List (ℕ × ℕ)) → Parts 0 marks powers → IsSorted p (cut value 0 marks powers) → length marks ≡ 1 → (length powers == 0) ≡ is_nonzero_constant p (cut value 0 marks powers)
constant_is value p below [] powers parts s e = absurd (omega (arith, e))
constant_is value p below (k ∷ j ∷ marks) powers parts s e = absurd (omega (arith, e))
constant_is value p below (k ∷ []) [] parts s e =
    let some : nat_lt 0 (value k.0 % p) ≡ true = lt-ltb 0 (value k.0 % p) (omega (arith, s.0, mod-eq_of_lt (below k.0))) in
    ap (λ b. b) (sym some) ∙ ap (λ m. is_nonzero_constant p ((value k.0, m) ∷ [])) (sym (take_nil (k.1 - 0)))
constant_is value p below (k ∷ []) (f ∷ m) parts s e =
    ne_eqb (suc (length m)) 0 (λ e. omega (arith, e)) ∙ sym (no_powers (value k.0) (take (k.1 - 0) (f ∷ m)) p (omega (arith, length-take (k.1 - 0) (f ∷ m), length-drop (k.1 - 0) (f ∷ m), parts.1, parts.2)))

-- ---- how many coefficients there are

coefficients_within : (d : ℕ) (ts : Terms) → AreWithin d ts → length (coefficients_of ts) ≤ d + 1
coefficients_within d [] w = omega arith
coefficients_within d (t ∷ ts) w =
    omega (arith, length-plus (shifted (degree t.1) (t.0 ∷ [])) (coefficients_of ts), length-shifted (degree t.1) t.0, coefficients_within d ts w.1, w.0)

pub length-coefficients : (ts : Terms) → length (coefficients_of ts) ≤ degree_of ts + 1
length-coefficients ts = coefficients_within (degree_of ts) ts (within_degree ts)
