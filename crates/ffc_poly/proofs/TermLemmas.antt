-- Coefficients and monomials side by side, as lists of terms.
use Rattle.std.proofs.Common.{◌≡◌, ℕ, zero, suc, ◌+◌, ◌-◌, ◌<◌, ◌≤◌, List, [], ◌∷◌, ◌++◌, map, length, get_or, take, drop, set, refl, sym, ap, ap₂, ◌∙◌, arith, min, take_all, append_assoc, length-append, length-drop}
use Rattle.std.proofs.Math.Seq.{take-add, drop-nil}
use Rattle.std.proofs.lemmas.List.{length-take, drop_more}
use Rattle.std.specs.Prelude.{slice_range}
use Rattle.ffc_field.specs.Modular.{mul_mod}
use Rattle.ffc_ring.specs.Monomial.{Monomial}
use Rattle.ffc_ring.specs.Polynomial.{Terms}
use Rattle.ffc_poly.specs.Ordered.{sum_of, zipped, values_of, multiplied}

module _ {F : Type 0} (value : F → ℕ) where
  pub length-zipped : (cs : List F) (ms : List Monomial) → length cs ≡ length ms → length (zipped value cs ms) ≡ length ms
  length-zipped [] [] e = refl
  length-zipped [] (m ∷ ms) e = absurd (omega arith)
  length-zipped (c ∷ cs) [] e = absurd (omega arith)
  length-zipped (c ∷ cs) (m ∷ ms) e = ap suc (length-zipped cs ms (omega arith))

  pub zipped-append : (cs ds : List F) (ms ns : List Monomial) → length cs ≡ length ms → zipped value (cs ++ ds) (ms ++ ns) ≡ zipped value cs ms ++ zipped value ds ns
  zipped-append [] ds [] ns e = refl
  zipped-append [] ds (m ∷ ms) ns e = absurd (omega arith)
  zipped-append (c ∷ cs) ds [] ns e = absurd (omega arith)
  zipped-append (c ∷ cs) ds (m ∷ ms) ns e = ap (λ k. (value c, m) ∷ k) (zipped-append cs ds ms ns (omega arith))

  pub zipped-coefficient : (cs : List F) (ms : List Monomial) (i : ℕ) (d : F) → length cs ≡ length ms → i < length ms → value (get_or cs i d) ≡ (get_or (zipped value cs ms) i (0, [])).0
  zipped-coefficient cs [] i d e h = absurd (omega arith)
  zipped-coefficient [] (m ∷ ms) i d e h = absurd (omega arith)
  zipped-coefficient (c ∷ cs) (m ∷ ms) zero d e h = refl
  zipped-coefficient (c ∷ cs) (m ∷ ms) (suc i) d e h = zipped-coefficient cs ms i d (omega arith) (omega arith)

  pub zipped-monomial : (cs : List F) (ms : List Monomial) (i : ℕ) → length cs ≡ length ms → i < length ms → get_or ms i [] ≡ (get_or (zipped value cs ms) i (0, [])).1
  zipped-monomial cs [] i e h = absurd (omega arith)
  zipped-monomial [] (m ∷ ms) i e h = absurd (omega arith)
  zipped-monomial (c ∷ cs) (m ∷ ms) zero e h = refl
  zipped-monomial (c ∷ cs) (m ∷ ms) (suc i) e h = zipped-monomial cs ms i (omega arith) (omega arith)

  zipped-take : (n : ℕ) (cs : List F) (ms : List Monomial) → take n (zipped value cs ms) ≡ zipped value (take n cs) (take n ms)
  zipped-take zero cs ms = refl
  zipped-take (suc n) [] ms = refl
  zipped-take (suc n) (c ∷ cs) [] = refl
  zipped-take (suc n) (c ∷ cs) (m ∷ ms) = ap (λ k. (value c, m) ∷ k) (zipped-take n cs ms)

  zipped-nothing : (cs : List F) → zipped value cs [] ≡ []
  zipped-nothing [] = refl
  zipped-nothing (c ∷ cs) = refl

  zipped-drop : (n : ℕ) (cs : List F) (ms : List Monomial) → drop n (zipped value cs ms) ≡ zipped value (drop n cs) (drop n ms)
  zipped-drop zero cs ms = refl
  zipped-drop (suc n) [] ms = refl
  zipped-drop (suc n) (c ∷ cs) [] = sym (zipped-nothing (drop n cs))
  zipped-drop (suc n) (c ∷ cs) (m ∷ ms) = zipped-drop n cs ms

  pub zipped-range : (from to : ℕ) (cs : List F) (ms : List Monomial) → slice_range (zipped value cs ms) from to ≡ zipped value (slice_range cs from to) (slice_range ms from to)
  zipped-range from to cs ms = ap (take (to - from)) (zipped-drop from cs ms) ∙ zipped-take (to - from) (drop from cs) (drop from ms)

  pub zipped-set : (cs : List F) (ms : List Monomial) (i : ℕ) (c : F) → length cs ≡ length ms → i < length ms → zipped value (set cs i c) ms ≡ set (zipped value cs ms) i (value c, (get_or (zipped value cs ms) i (0, [])).1)
  zipped-set cs [] i c e h = absurd (omega arith)
  zipped-set [] (m ∷ ms) i c e h = absurd (omega arith)
  zipped-set (k ∷ cs) (m ∷ ms) zero c e h = refl
  zipped-set (k ∷ cs) (m ∷ ms) (suc i) c e h = ap (λ x. (value k, m) ∷ x) (zipped-set cs ms i c (omega arith) (omega arith))

  -- what is zipped depends on the residues alone
  zipped-values : (cs : List F) (ms : List Monomial) → zipped value cs ms ≡ zipped (λ (k : ℕ). k) (values_of value cs) ms
  zipped-values [] ms = refl
  zipped-values (c ∷ cs) [] = refl
  zipped-values (c ∷ cs) (m ∷ ms) = ap (λ k. (value c, m) ∷ k) (zipped-values cs ms)

  length-values : (cs : List F) → length (values_of value cs) ≡ length cs
  length-values [] = refl
  length-values (c ∷ cs) = ap suc (length-values cs)

  pub length-more : (out cs : List F) (xs : List ℕ) → values_of value out ≡ values_of value cs ++ xs → length out ≡ length cs + length xs
  length-more out cs xs e = omega (arith, ap length e, length-append (values_of value cs) xs, length-values out, length-values cs)

zipped-multiplied : (p c : ℕ) (xs : List ℕ) (ms : List Monomial) → zipped (λ (k : ℕ). k) (map (mul_mod p c) xs) ms ≡ multiplied p c (zipped (λ (k : ℕ). k) xs ms)
zipped-multiplied p c [] ms = refl
zipped-multiplied p c (x ∷ xs) [] = refl
zipped-multiplied p c (x ∷ xs) (m ∷ ms) = ap (λ k. (mul_mod p c x, m) ∷ k) (zipped-multiplied p c xs ms)

pub length-multiples : {F : Type 0} (value : F → ℕ) (p c : ℕ) (ds : List F) → length (map (mul_mod p c) (values_of value ds)) ≡ length ds
length-multiples value p c [] = refl
length-multiples value p c (d ∷ ds) = ap suc (length-multiples value p c ds)

-- terms, and after them the multiples of others
pub zipped-multiples : {F : Type 0} (value : F → ℕ) (p c : ℕ) (out cs ds : List F) (ms ns : List Monomial) → length cs ≡ length ms → values_of value out ≡ values_of value cs ++ map (mul_mod p c) (values_of value ds) → zipped value out (ms ++ ns) ≡ zipped value cs ms ++ multiplied p c (zipped value ds ns)
zipped-multiples value p c out cs ds ms ns size e =
    let more = map (mul_mod p c) (values_of value ds) in
    zipped-values value out (ms ++ ns) ∙ ap (λ k. zipped (λ (x : ℕ). x) k (ms ++ ns)) e
    ∙ zipped-append (λ (x : ℕ). x) (values_of value cs) more ms ns (length-values value cs ∙ size)
    ∙ ap₂ (λ x y. x ++ y) (sym (zipped-values value cs ms)) (zipped-multiplied p c (values_of value ds) ns ∙ ap (multiplied p c) (sym (zipped-values value ds ns)))

pub length-range : {A : Type 0} (xs : List A) (from to : ℕ) → length (slice_range xs from to) ≡ min (to - from) (length xs - from)
length-range xs from to = length-take (to - from) (drop from xs) ∙ ap (min (to - from)) (length-drop from xs)

-- ---- runs

pub range_at : {A : Type 0} (xs : List A) (from to : ℕ) (d : A) → to ≡ from + 1 → to ≤ length xs → slice_range xs from to ≡ get_or xs from d ∷ []
range_at xs from to d e h =
    let one : to - from ≡ 1 = omega arith in ap₂ take one (drop_more xs from d (omega arith))

pub drop_after : {A : Type 0} (n m : ℕ) (xs : List A) → drop n (drop m xs) ≡ drop (m + n) xs
drop_after n zero xs = ap (λ k. drop k xs) (omega arith)
drop_after n (suc m) [] = drop-nil n ∙ sym (drop-nil (suc m + n))
drop_after n (suc m) (x ∷ xs) =
    let e : suc (m + n) ≡ suc m + n = omega arith in drop_after n m xs ∙ ap (λ k. drop k (x ∷ xs)) e

pub range_split : {A : Type 0} (xs : List A) (from mid to : ℕ) → from ≤ mid → mid ≤ to → slice_range xs from mid ++ slice_range xs mid to ≡ slice_range xs from to
range_split xs from mid to h g =
    let rest_is : drop mid xs ≡ drop (mid - from) (drop from xs) = sym (drop_after (mid - from) from xs ∙ ap (λ k. drop k xs) (omega arith)) in
    let size : mid - from + (to - mid) ≡ to - from = omega arith in
    ap (λ k. take (mid - from) (drop from xs) ++ take (to - mid) k) rest_is
    ∙ sym (take-add (mid - from) (to - mid) (drop from xs)) ∙ ap (λ k. take k (drop from xs)) size

pub whole_range : {A : Type 0} (xs : List A) (n : ℕ) → n ≡ length xs → slice_range xs 0 n ≡ xs
whole_range xs n e = take_all (n - 0) xs (omega arith)

pub first_and_rest : (ts : Terms) → 0 < length ts → get_or ts 0 (0, []) ∷ drop 1 ts ≡ ts
first_and_rest [] h = absurd (omega arith)
first_and_rest (t ∷ ts) h = refl

pub sum_of-append : (xs ys : List Terms) → sum_of (xs ++ ys) ≡ sum_of xs ++ sum_of ys
sum_of-append [] ys = refl
sum_of-append (ts ∷ xs) ys = ap (λ k. ts ++ k) (sum_of-append xs ys) ∙ sym (append_assoc ts (sum_of xs) (sum_of ys))
