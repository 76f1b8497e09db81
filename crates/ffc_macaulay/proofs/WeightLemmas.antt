-- Rows as linear functions see them: how a dense row grows by a term, and what sums of rows are.
use Rattle.std.proofs.Common.{◌≡◌, ℕ, zero, suc, ◌+◌, ◌*◌, ◌%◌, ◌<◌, ◌≤◌, List, [], ◌∷◌, ◌++◌, length, take, set, get_or, inl, inr, refl, sym, ap, ap₂, ◌∙◌, arith, length-append}
use Rattle.std.proofs.Math.Nat.{mod-mod, zero-mod}
use Rattle.std.proofs.lemmas.Bool.{cases_eq}
use Rattle.std.proofs.lemmas.List.{take_more, get_or_at, get_or-set_same, get_or-set_other}
use Rattle.ffc_echelon.specs.Vectors.{Coordinates, AreCoordinates, IsBelow, coordinate, sum_in}
use Rattle.ffc_echelon.proofs.CoordinateLemmas.{coordinate-here, coordinate-there}
use Rattle.ffc_echelon.proofs.Congruences.{sum_alike, multiple_alike}
use Rattle.ffc_echelon.proofs.Dots.{product_below, product_below-same, product_below-alike, product_below-zero, product_below-sum, product_below-multiple}
use Rattle.ffc_ring.specs.Monomial.{Monomial, mono_mul}
use Rattle.ffc_ring.specs.Polynomial.{Terms}
use Rattle.ffc_ring.proofs.PolynomialLemmas.{weighted, weighted-append}
use Rattle.ffc_macaulay.specs.Matrix.{weight_of, IsRow}

-- a row with one coordinate
one_past : (g : ℕ → ℕ) (place c n : ℕ) → n ≤ place → product_below g (λ k. coordinate ((place, c) ∷ []) k) n ≡ 0
one_past g place c zero past = refl
one_past g place c (suc n) past =
    let before = one_past g place c n (omega arith) in
    let none : coordinate ((place, c) ∷ []) n * g n ≡ 0 = ap (λ x. x * g n) (coordinate-there (place, c) [] n (λ same. omega arith)) ∙ omega arith in
    omega (arith, before, none)

pub one_inside : (g : ℕ → ℕ) (place c n : ℕ) → place < n → product_below g (λ k. coordinate ((place, c) ∷ []) k) n ≡ c * g place
one_inside g place c zero within = absurd (omega arith)
one_inside g place c (suc n) within = elim (cases_eq place n) [
  | inl same ↦
      let before = one_past g place c n (omega arith) in
      let here : coordinate ((place, c) ∷ []) n * g n ≡ c * g place = ap (λ x. x * g n) (coordinate-here (place, c) [] n same) ∙ ap (λ k. c * g k) (sym same) in
      omega (arith, before, here)
  | inr other ↦
      let before = one_inside g place c n (omega (arith, other)) in
      let none : coordinate ((place, c) ∷ []) n * g n ≡ 0 = ap (λ x. x * g n) (coordinate-there (place, c) [] n other) ∙ omega arith in
      omega (arith, before, none)
]

-- one number of a dense row raised
weight-raised : (p : ℕ) (f : Monomial → ℕ) (columns : List Monomial) (dense : List ℕ) (place c : ℕ) → place < length columns → place < length dense
    → weight_of f columns (λ k. get_or (set dense place ((get_or dense place 0 + c) % p)) k 0) % p ≡ (weight_of f columns (λ k. get_or dense k 0) + c * f (get_or columns place [])) % p
weight-raised p f columns dense place c inside within =
    product_below-alike p (λ k. f (get_or columns k [])) (λ k. get_or (set dense place ((get_or dense place 0 + c) % p)) k 0) (λ k. get_or dense k 0 + coordinate ((place, c) ∷ []) k) (length columns) at
    ∙ ap (λ x. x % p) (
    product_below-sum (λ k. f (get_or columns k [])) (λ k. get_or dense k 0) (λ k. coordinate ((place, c) ∷ []) k) (length columns)
    ∙ ap (λ x. product_below (λ k. f (get_or columns k [])) (λ k. get_or dense k 0) (length columns) + x) (one_inside (λ k. f (get_or columns k [])) place c (length columns) inside)
    )
  where
    at : (k : ℕ) → get_or (set dense place ((get_or dense place 0 + c) % p)) k 0 % p ≡ (get_or dense k 0 + coordinate ((place, c) ∷ []) k) % p
    at k = elim (cases_eq k place) as (λ _. get_or (set dense place ((get_or dense place 0 + c) % p)) k 0 % p ≡ (get_or dense k 0 + coordinate ((place, c) ∷ []) k) % p) [
      | inl same ↦
          ap (λ i. get_or (set dense place ((get_or dense place 0 + c) % p)) i 0 % p) same
          ∙ ap (λ x. x % p) (get_or-set_same dense place ((get_or dense place 0 + c) % p) 0 within)
          ∙ mod-mod (get_or dense place 0 + c) p
          ∙ ap₂ (λ a b. (a + b) % p) (ap (λ i. get_or dense i 0) (sym same)) (sym (coordinate-here (place, c) [] k (sym same)))
      | inr other ↦
          ap (λ x. x % p) (get_or-set_other dense place k ((get_or dense place 0 + c) % p) 0 other)
          ∙ ap (λ x. x % p) (let e : get_or dense k 0 ≡ get_or dense k 0 + 0 = omega arith in e)
          ∙ ap (λ x. (get_or dense k 0 + x) % p) (sym (coordinate-there (place, c) [] k (λ e. other (sym e))))
    ]

-- a dense row to which terms of a generator, each times a monomial, were added
abbrev pub IsAdded : ℕ → List Monomial → Monomial → List ℕ → Terms → List ℕ → Type 0
IsAdded p columns u start terms dense =
    (f : Monomial → ℕ) → weight_of f columns (λ k. get_or dense k 0) % p ≡ (weight_of f columns (λ k. get_or start k 0) + weighted (λ m. f (mono_mul u m)) terms) % p

pub none_added : (p : ℕ) (columns : List Monomial) (u : Monomial) (start : List ℕ) → IsAdded p columns u start [] start
none_added p columns u start f =
    ap (λ x. x % p) (let e : weight_of f columns (λ k. get_or start k 0) ≡ weight_of f columns (λ k. get_or start k 0) + 0 = omega arith in e)

pub one_added : (p : ℕ) (columns : List Monomial) (u : Monomial) (start old new : List ℕ) (all : Terms) (i place c : ℕ) (m : Monomial)
    → i < length all → c ≡ (get_or all i (0, [])).0 → m ≡ (get_or all i (0, [])).1 → get_or columns place [] ≡ mono_mul u m → place < length columns → place < length old
    → new ≡ set old place ((get_or old place 0 + c) % p) → IsAdded p columns u start (take i all) old → IsAdded p columns u start (take (i + 1) all) new
one_added p columns u start old new all i place c m inside coefficient monomial at within short written before f =
    let g : Monomial → ℕ = λ n. f (mono_mul u n) in
    let t = get_or all i (0, []) in
    let w0 = weight_of f columns (λ k. get_or start k 0) in
    let w = weight_of f columns (λ k. get_or old k 0) in
    let term : c * f (get_or columns place []) ≡ t.0 * g t.1 = ap₂ (λ a b. a * b) coefficient (ap f at ∙ ap g monomial) in
    let all_of : weighted g (take (i + 1) all) ≡ weighted g (take i all) + (t.0 * g t.1 + 0) =
    ap (weighted g) (take_more all i (0, []) inside) ∙ weighted-append g (take i all) (t ∷ []) in
    ap (λ xs. weight_of f columns (λ k. get_or xs k 0) % p) written
    ∙ weight-raised p f columns old place c within short
    ∙ sum_alike p w (w0 + weighted g (take i all)) (c * f (get_or columns place [])) (t.0 * g t.1) (before f) (ap (λ x. x % p) term)
    ∙ ap (λ x. x % p) ((let e : w0 + weighted g (take i all) + t.0 * g t.1 ≡ w0 + (weighted g (take i all) + (t.0 * g t.1 + 0)) = omega arith in e) ∙ ap (λ x. w0 + x) (sym all_of))

-- a row that was made of a dense one, which began with zeros
pub row_made : (p : ℕ) (columns : List Monomial) (u : Monomial) (generator : Terms) (start dense : List ℕ) (v : Coordinates)
    → ((k : ℕ) → get_or start k 0 ≡ 0) → IsAdded p columns u start generator dense → ((k : ℕ) → coordinate v k ≡ get_or dense k 0) → IsBelow (length columns) v → AreCoordinates p v → IsRow p columns generator u v
row_made p columns u generator start dense v zeros added same below valid = record {
  below = below;
  valid = valid;
  same = λ f.
      let g : ℕ → ℕ = λ k. f (get_or columns k []) in
      let none : weight_of f columns (λ k. get_or start k 0) ≡ 0 =
      product_below-same g (λ k. get_or start k 0) (λ k. 0) (length columns) (λ k less. zeros k) ∙ product_below-zero g (length columns) in
      ap (λ x. x % p) (product_below-same g (coordinate v) (λ k. get_or dense k 0) (length columns) (λ k less. same k))
      ∙ added f
      ∙ ap (λ x. (x + weighted (λ m. f (mono_mul u m)) generator) % p) none
      ∙ ap (λ x. x % p) (let e : 0 + weighted (λ m. f (mono_mul u m)) generator ≡ weighted (λ m. f (mono_mul u m)) generator = omega arith in e);
}

-- ---- sums of rows

-- one more row in a sum
pub weight-sum_in : (f : Monomial → ℕ) (columns : List Monomial) (c : ℕ) (v : Coordinates) (cs : List ℕ) (vs : List Coordinates)
    → weight_of f columns (sum_in (c ∷ cs) (v ∷ vs)) ≡ c * weight_of f columns (coordinate v) + weight_of f columns (sum_in cs vs)
weight-sum_in f columns c v cs vs =
    let g : ℕ → ℕ = λ k. f (get_or columns k []) in
    product_below-sum g (λ k. c * coordinate v k) (sum_in cs vs) (length columns)
    ∙ ap (λ x. x + product_below g (sum_in cs vs) (length columns)) (product_below-multiple g (coordinate v) c (length columns))

-- what is 0 in the columns of unknowns
none_in_unknowns : (p : ℕ) (g h : ℕ → ℕ) (n : ℕ) → ((k : ℕ) → k < n → h k % p ≡ 0) → product_below g h n % p ≡ 0
none_in_unknowns p g h zero zeros = zero-mod p
none_in_unknowns p g h (suc n) zeros =
    sum_alike p (product_below g h n) 0 (h n * g n) 0
    (none_in_unknowns p g h n (λ k less. zeros k (omega arith)) ∙ sym (zero-mod p))
    (ap (λ x. x % p) (let e : h n * g n ≡ g n * h n = omega arith in e) ∙ multiple_alike p (g n) (h n) 0 (zeros n (omega arith) ∙ sym (zero-mod p)) ∙ ap (λ x. x % p) (let e : g n * 0 ≡ 0 = omega arith in e))
    ∙ ap (λ x. x % p) (let e : 0 + 0 ≡ 0 = omega arith in e) ∙ zero-mod p

-- a sum of rows that is 0 in them is its coordinate in the last column
pub weight_of_constant : (p : ℕ) (f : Monomial → ℕ) (unknowns : List Monomial) (h : ℕ → ℕ) → ((k : ℕ) → k < length unknowns → h k % p ≡ 0)
    → weight_of f (unknowns ++ [] ∷ []) h % p ≡ (h (length unknowns) * f []) % p
weight_of_constant p f unknowns h zeros =
    let columns = unknowns ++ [] ∷ [] in
    let g : ℕ → ℕ = λ k. f (get_or columns k []) in
    let n = length unknowns in
    let wide : length columns ≡ suc n = length-append unknowns ([] ∷ []) ∙ (let e : n + 1 ≡ suc n = omega arith in e) in
    let last : get_or columns n [] ≡ [] = get_or_at unknowns [] [] [] n refl in
    ap (λ k. product_below g h k % p) wide
    ∙ sum_alike p (product_below g h n) 0 (h n * g n) (h n * f []) (none_in_unknowns p g h n zeros ∙ sym (zero-mod p)) (ap (λ m. (h n * f m) % p) last)
    ∙ ap (λ x. x % p) (let e : 0 + h n * f [] ≡ h n * f [] = omega arith in e)
