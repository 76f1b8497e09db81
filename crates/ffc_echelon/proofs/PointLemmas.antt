-- Values of vectors at points that differ in a column.
use Rattle.std.proofs.Common.{◌≡◌, ◌≢◌, ◌⊎◌, inl, inr, ℕ, suc, ◌+◌, ◌-◌, ◌*◌, ◌%◌, ◌<◌, List, [], ◌∷◌, ◌++◌, length, map, take, get_or, set, sum_by, refl, sym, ap, ap₂, ◌∙◌, subst, arith, mod-lt, mod-eq_of_lt, mul-add, one-mul, zero-mul, ne_eqb, eq-eqb}
use Rattle.std.proofs.Math.Nat.{mod-add-mod, mod_self, zero-mod, add-mod, add-mod_right}
use Rattle.std.proofs.lemmas.Nat.{mul-mod}
use Rattle.std.proofs.lemmas.Bool.{cases_eq}
use Rattle.std.proofs.lemmas.List.{get_or-set_same, get_or-set_other, get_or-map, length-map, map_more}
use Rattle.std.proofs.lemmas.List.Sums.{sum_by-cons, sum_by_push}
use Rattle.ffc_field.specs.Modular.{add_mod, sub_mod, mul_mod}
use Rattle.ffc_echelon.specs.Vectors.{Coordinates, AreCoordinatesFrom, AreCoordinates, IsBelow, coordinate, dot}
use Rattle.ffc_echelon.specs.Placing.{IsRootIn}

-- ---- congruences

module _ (p : ℕ) (some : 0 < p) where
  alike_plus : (a b c d : ℕ) → a % p ≡ b % p → c % p ≡ d % p → (a + c) % p ≡ (b + d) % p
  alike_plus a b c d e f = add-mod a c p ∙ ap₂ (λ m n. (m + n) % p) e f ∙ sym (add-mod b d p)

  alike_times : (a b c d : ℕ) → a % p ≡ b % p → c % p ≡ d % p → (a * c) % p ≡ (b * d) % p
  alike_times a b c d e f = mul-mod a c p ∙ ap₂ (λ m n. (m * n) % p) e f ∙ sym (mul-mod b d p)

  -- a number that makes another one a multiple of p
  opposite : (c : ℕ) → (c + (p - c % p)) % p ≡ 0 % p
  opposite c =
      let below : c % p < p = mod-lt c some in
      let whole : c % p + (p - c % p) ≡ p = omega arith in
      sym (mod-add-mod c p (p - c % p)) ∙ ap (λ n. n % p) whole ∙ mod_self p ∙ sym (zero-mod p)

  without : (a c : ℕ) → a % p ≡ (a + c + (p - c % p)) % p
  without a c =
      ap (λ n. n % p) (let e : a ≡ a + 0 = omega arith in e)
      ∙ sym (alike_plus a a (c + (p - c % p)) 0 refl (opposite c))
      ∙ ap (λ n. n % p) (let e : a + (c + (p - c % p)) ≡ a + c + (p - c % p) = omega arith in e)

  pub cancel : (a b c : ℕ) → (a + c) % p ≡ (b + c) % p → a % p ≡ b % p
  cancel a b c same = without a c ∙ alike_plus (a + c) (b + c) (p - c % p) (p - c % p) same refl ∙ sym (without b c)

-- ---- a coordinate

pub coordinate_before : (p low k : ℕ) (v : Coordinates) → AreCoordinatesFrom p low v → k < low → coordinate v k ≡ 0
coordinate_before p low k [] valid before = refl
coordinate_before p low k (e ∷ v) valid before =
    let other : e.0 ≢ k = omega (arith, valid.0) in
    rw (ne_eqb e.0 k other) (coordinate_before p (suc e.0) k v valid.3 (omega (arith, valid.0)))

pub coordinate_here : (e : ℕ × ℕ) (v : Coordinates) (k : ℕ) → e.0 ≡ k → coordinate (e ∷ v) k ≡ e.1
coordinate_here e v k same = rw (eq-eqb e.0 k same) refl

pub coordinate_there : (e : ℕ × ℕ) (v : Coordinates) (k : ℕ) → e.0 ≢ k → coordinate (e ∷ v) k ≡ coordinate v k
coordinate_there e v k other = rw (ne_eqb e.0 k other) refl

-- ---- a sum of products, before the remainder

abbrev pub product : List ℕ → ℕ × ℕ → ℕ
product point e = e.1 * get_or point e.0 0

abbrev pub products : List ℕ → Coordinates → ℕ
products point v = sum_by (product point) v

-- a point with another value in a column
pub products_set : (p low k y : ℕ) (point : List ℕ) (v : Coordinates) → AreCoordinatesFrom p low v → k < length point
    → products (set point k y) v + coordinate v k * get_or point k 0 ≡ products point v + coordinate v k * y
products_set p low k y point [] valid inside = omega arith
products_set p low k y point (e ∷ v) valid inside = by_column (products_set p (suc e.0) k y point v valid.3 inside) (cases_eq e.0 k)
  where
    first : products (set point k y) (e ∷ v) ≡ product (set point k y) e + products (set point k y) v
    first = sum_by-cons (product (set point k y)) e v

    second : products point (e ∷ v) ≡ product point e + products point v
    second = sum_by-cons (product point) e v

    by_column : products (set point k y) v + coordinate v k * get_or point k 0 ≡ products point v + coordinate v k * y → (e.0 ≡ k) ⊎ (e.0 ≡ k → ⊥) → products (set point k y) (e ∷ v) + coordinate (e ∷ v) k * get_or point k 0 ≡ products point (e ∷ v) + coordinate (e ∷ v) k * y
    by_column rest (inl same) =
        let none : coordinate v k ≡ 0 = coordinate_before p (suc e.0) k v valid.3 (omega arith) in
        let left : coordinate v k * get_or point k 0 ≡ 0 = ap (λ n. n * get_or point k 0) none ∙ zero-mul (get_or point k 0) in
        let right : coordinate v k * y ≡ 0 = ap (λ n. n * y) none ∙ zero-mul y in
        let here : get_or (set point k y) e.0 0 ≡ y = ap (λ c. get_or (set point k y) c 0) same ∙ get_or-set_same point k y 0 inside in
        let new : product (set point k y) e ≡ e.1 * y = ap (λ n. e.1 * n) here in
        let old : product point e ≡ e.1 * get_or point k 0 = ap (λ c. e.1 * get_or point c 0) same in
        let own = coordinate_here e v k same in
        ap (λ n. products (set point k y) (e ∷ v) + n * get_or point k 0) own
        ∙ (let sums : products (set point k y) (e ∷ v) + e.1 * get_or point k 0 ≡ products point (e ∷ v) + e.1 * y = omega (arith, first, second, rest) in sums)
        ∙ ap (λ n. products point (e ∷ v) + n * y) (sym own)
    by_column rest (inr other) =
        let there : get_or (set point k y) e.0 0 ≡ get_or point e.0 0 = get_or-set_other point k e.0 y 0 other in
        let new : product (set point k y) e ≡ product point e = ap (λ n. e.1 * n) there in
        let own = coordinate_there e v k other in
        ap (λ n. products (set point k y) (e ∷ v) + n * get_or point k 0) own
        ∙ (let sums : products (set point k y) (e ∷ v) + coordinate v k * get_or point k 0 ≡ products point (e ∷ v) + coordinate v k * y = omega (arith, first, second, rest) in sums)
        ∙ ap (λ n. products point (e ∷ v) + n * y) (sym own)

-- the value in a column where the vector has no coordinate does not matter
pub dot_elsewhere : (p k y : ℕ) (point : List ℕ) (v : Coordinates) → AreCoordinates p v → k < length point → coordinate v k ≡ 0 → dot p (set point k y) v ≡ dot p point v
dot_elsewhere p k y point v valid inside none =
    let left : coordinate v k * get_or point k 0 ≡ 0 = ap (λ n. n * get_or point k 0) none ∙ zero-mul (get_or point k 0) in
    let right : coordinate v k * y ≡ 0 = ap (λ n. n * y) none ∙ zero-mul y in
    let sums : products (set point k y) v ≡ products point v = omega (arith, products_set p 0 k y point v valid inside) in
    ap (λ n. n % p) sums

-- ---- the root in a column

abbrev root_of : ℕ → ℕ → ℕ → ℕ → ℕ
root_of p b x s = sub_mod p x (mul_mod p (s % p) b)

-- a is the coordinate, b its inverse, x the value in the column, s the sum of products
module _ (p : ℕ) (some : 1 < p) (a b x s : ℕ) (inverse : mul_mod p a b ≡ 1) (below : x < p) where
  -- a * b * s is s
  undone : (a * mul_mod p (s % p) b) % p ≡ s % p
  undone =
      alike_times p (omega arith) a a (mul_mod p (s % p) b) (s * b) refl
      (mod-eq_of_lt (mod-lt (s % p * b) (omega arith)) ∙ alike_times p (omega arith) (s % p) s b b (mod-eq_of_lt (mod-lt s (omega arith))) refl)
      ∙ ap (λ n. n % p) (let e : a * (s * b) ≡ a * b * s = grind arith in e)
      ∙ alike_times p (omega arith) (a * b) 1 s s (inverse ∙ sym (mod-eq_of_lt some)) refl
      ∙ ap (λ n. n % p) (one-mul s)

  root_sum : (a * root_of p b x s + s) % p ≡ (a * x) % p
  root_sum =
      let t = mul_mod p (s % p) b in
      let t_below : t < p = mod-lt (s % p * b) (omega arith) in
      let r = sub_mod p x t in
      let again : (r + t) % p ≡ x % p =
      mod-add-mod (x + (p - t)) p t ∙ ap (λ n. n % p) (let e : x + (p - t) + t ≡ x + p = omega arith in e) ∙ add-mod_right x p in
      alike_plus p (omega arith) (a * r) (a * r) s (a * t) refl (sym undone)
      ∙ ap (λ n. n % p) (let e : a * r + a * t ≡ a * (r + t) = omega (arith, mul-add a r t) in e)
      ∙ alike_times p (omega arith) a a (r + t) x refl again

  root_below : root_of p b x s < p
  root_below = mod-lt (x + (p - mul_mod p (s % p) b)) (omega arith)

  -- with the root in the column the sum of products is a multiple of p
  zero_there : (t : ℕ) → t + a * x ≡ s + a * root_of p b x s → t % p ≡ 0
  zero_there t sums =
      cancel p (omega arith) t 0 (a * x)
      (ap (λ n. n % p) (sums ∙ (let e : s + a * root_of p b x s ≡ a * root_of p b x s + s = omega arith in e)) ∙ root_sum ∙ ap (λ n. n % p) (let e : a * x ≡ 0 + a * x = omega arith in e))
      ∙ zero-mod p

  -- and with no other residue
  root_only : (t y : ℕ) → y < p → t + a * x ≡ s + a * y → t % p ≡ 0 → y ≡ root_of p b x s
  root_only t y y_below sums zero =
      let one : (s + a * y) % p ≡ (a * x) % p =
      ap (λ n. n % p) (sym sums) ∙ alike_plus p (omega arith) t 0 (a * x) (a * x) (zero ∙ sym (zero-mod p)) refl ∙ ap (λ n. n % p) (let e : 0 + a * x ≡ a * x = omega arith in e) in
      let both : (a * y + s) % p ≡ (a * root_of p b x s + s) % p = ap (λ n. n % p) (let e : a * y + s ≡ s + a * y = omega arith in e) ∙ one ∙ sym root_sum in
      let scaled : (b * (a * y)) % p ≡ (b * (a * root_of p b x s)) % p = alike_times p (omega arith) b b (a * y) (a * root_of p b x s) refl (cancel p (omega arith) (a * y) (a * root_of p b x s) s both) in
      sym (mod-eq_of_lt y_below) ∙ sym (unscaled y) ∙ scaled ∙ unscaled (root_of p b x s) ∙ mod-eq_of_lt root_below
    where
      unscaled : (z : ℕ) → (b * (a * z)) % p ≡ z % p
      unscaled z =
          ap (λ n. n % p) (let e : b * (a * z) ≡ a * b * z = grind arith in e)
          ∙ alike_times p (omega arith) (a * b) 1 z z (inverse ∙ sym (mod-eq_of_lt some)) refl
          ∙ ap (λ n. n % p) (one-mul z)

pub root_is : (p k b r : ℕ) (point : List ℕ) (v : Coordinates) → 1 < p → AreCoordinates p v → k < length point → get_or point k 0 < p → mul_mod p (coordinate v k) b ≡ 1
    → r ≡ sub_mod p (get_or point k 0) (mul_mod p (dot p point v) b) → IsRootIn p point v k r
root_is p k b r point v some valid inside below inverse is =
    let a : ℕ = coordinate v k in
    let x : ℕ = get_or point k 0 in
    let s : ℕ = products point v in
    record {
      zero = zero_there p some a b x s inverse below (products (set point k r) v) (products_set p 0 k r point v valid inside ∙ ap (λ n. s + a * n) is);
      only = λ y y_below zero. root_only p some a b x s inverse below (products (set point k y) v) y y_below (products_set p 0 k y point v valid inside) zero ∙ sym is;
    }

-- ---- the loop over coordinates

module _ {F : Type 0} (value : F → ℕ) where
  abbrev pub residues : List (ℕ × F) → Coordinates
  residues items = map (λ e. (e.0, value e.1)) items

  pub dot_more : (p : ℕ) (point : List F) (items : List (ℕ × F)) (i : ℕ) (e : ℕ × F) (x : F) (now next : ℕ) → i < length items → e ≡ get_or items i e → e.0 < length point → x ≡ get_or point e.0 x
      → now ≡ dot p (map value point) (residues (take i items)) → next ≡ add_mod p now (mul_mod p (value e.1) (value x)) → next ≡ dot p (map value point) (residues (take (i + 1) items))
  dot_more p point items i e x now next within at inside read so_far step =
      let before = products (map value point) (residues (take i items)) in
      let there : get_or (map value point) e.0 0 ≡ value x = get_or-map value point e.0 x 0 inside ∙ ap value (sym read) in
      let longer : residues (take (i + 1) items) ≡ residues (take i items) ++ (e.0, value e.1) ∷ [] =
      map_more (λ (m : ℕ × F). (m.0, value m.1)) items i e within ∙ ap (λ (m : ℕ × F). residues (take i items) ++ (m.0, value m.1) ∷ []) (sym at) in
      step ∙ ap (λ n. add_mod p n (mul_mod p (value e.1) (value x))) so_far
      ∙ sym (add-mod before (value e.1 * value x) p)
      ∙ ap (λ n. (before + value e.1 * n) % p) (sym there)
      ∙ ap (λ n. n % p) (sym (sum_by_push (product (map value point)) (residues (take i items)) (e.0, value e.1)))
      ∙ ap (λ w. dot p (map value point) w) (sym longer)

  -- the column of an entry is below a bound on all
  pub entry_below : (n i : ℕ) (v : Coordinates) (items : List (ℕ × F)) (e : ℕ × F) → IsBelow n v → residues items ≡ v → i < length items → e ≡ get_or items i e → e.0 < n
  entry_below n i v items e below same within at =
      let inside : i < length (residues items) = omega (arith, length-map {B = ℕ × ℕ} items (λ (m : ℕ × F). (m.0, value m.1))) in
      let low : (get_or (residues items) i (e.0, value e.1)).0 < n = subst (IsBelow n) (sym same) below i (e.0, value e.1) inside in
      let is : (get_or (residues items) i (e.0, value e.1)).0 ≡ e.0 =
      ap (λ (m : ℕ × ℕ). m.0) (get_or-map {Y = ℕ × ℕ} (λ (m : ℕ × F). (m.0, value m.1)) items i e (e.0, value e.1) within) ∙ ap (λ (m : ℕ × F). m.0) (sym at) in
      omega arith
