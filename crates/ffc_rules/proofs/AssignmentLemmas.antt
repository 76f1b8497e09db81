-- Assignments by lists of values and by numbers: what they give constants, and that each assignment has a number as far as the
-- constants of a check go.
use Rattle.std.proofs.Common.{inl, inr, ◌⊎◌, ◌≡◌, ◌≢◌, ℕ, ◌+◌, ◌*◌, ◌/◌, ◌%◌, ◌<◌, ◌≤◌, ltb, Bool, true, false, cond, List, [], ◌∷◌, take, map, filter, fold, refl, sym, ap, ap₂, ◌∙◌, subst, arith, take-take}
use Rattle.std.specs.List.{AllByRecursion}
use Rattle.std.proofs.Math.Nat.{mul-le-mul_left}
use Rattle.std.proofs.lemmas.Nat.{mod-mul-add, div-mul-add}
use Rattle.std.proofs.lemmas.Bool.{false≢true, cases_lt, eq-eqb, ne_eqb, lt-ltb}
use Rattle.std.proofs.lemmas.List.FromFn.{get_or-map-range_with_len}
use Rattle.std.proofs.lemmas.List.Sums.{count_by_more_yes, sum_by-take-le}
use Rattle.std.proofs.lemmas.Option.{slice_get_within, get_or_from_slice_get}
use Rattle.ffc_term.specs.declared.node.Node.{Node}
use Rattle.ffc_term.specs.declared.node.Node.TheVariants.{True, BoolConst, FieldConst}
use Rattle.ffc_term.specs.declared.node.Sort.{Sort}
use Rattle.ffc_term.specs.declared.value.Value.{Value}
use Rattle.ffc_term.specs.declared.value.Value.TheVariants as value
use Rattle.ffc_term.specs.Nodes.{IsNodeAt, IsConstantAt, is_constant, node_at, sort_of_node, sorts}
use Rattle.ffc_term.specs.Tables.{IsTable, IsWellFormed, IsNumbered, constant_count}
use Rattle.ffc_term.specs.Values.{value_at, value_in, value_of_node, truth, residue, product_by}
use Rattle.ffc_term.specs.Laws.{IsOfSort}
use Rattle.ffc_term.specs.Measuring.{value_count, span_of}
use Rattle.ffc_term.proofs.TableLemmas.{sort_at-is}
use Rattle.ffc_term.proofs.ValueLemmas.{value_at-is}
use Rattle.ffc_term.proofs.LawLemmas.{value_at-of_sort}
use Rattle.ffc_rules.specs.Assignments.{number_of_constant, value_of_number, value_of_constant, listed_value, listed_assignment, digits, IsValueFor}

pub node_at-is : (ns : List Node) (id : ℕ) (n : Node) → IsNodeAt ns id n → node_at ns id ≡ n
node_at-is ns id n at = get_or_from_slice_get ns id n True at

-- Constants have numbers of their own.

numbered : (n : Node) (before : List Node) → is_constant n ≡ true → IsNumbered before n → number_of_constant n ≡ constant_count before
numbered (BoolConst k) before const h = h
numbered (FieldConst k p) before const h = h
numbered _ before const h = absurd (false≢true const)

number-is_count : (ns : List Node) (id : ℕ) (n : Node) → IsWellFormed ns → IsNodeAt ns id n → is_constant n ≡ true → number_of_constant n ≡ constant_count (take id ns)
number-is_count ns id n formed at const = numbered n (take id ns) const (formed.numbered id n at)

module _ (ns : List Node) (formed : IsWellFormed ns) where
  one_more : (i : ℕ) (n : Node) → IsNodeAt ns i n → is_constant n ≡ true → constant_count (take (i + 1) ns) ≡ number_of_constant n + 1
  one_more i n at const =
      count_by_more_yes is_constant ns i True (slice_get_within ns i n at) (ap is_constant (get_or_from_slice_get ns i n True at) ∙ const)
      ∙ ap (λ k. k + 1) (sym (number-is_count ns i n formed at const))

  numbers_increase : (i j : ℕ) (n m : Node) → IsNodeAt ns i n → IsNodeAt ns j m → is_constant n ≡ true → is_constant m ≡ true → i < j → number_of_constant n < number_of_constant m
  numbers_increase i j n m at there n_const m_const before =
      let front : take (i + 1) (take j ns) ≡ take (i + 1) ns = take-take (i + 1) j ns (omega arith) in
      let most : constant_count (take (i + 1) (take j ns)) ≤ constant_count (take j ns) = sum_by-take-le _ (take j ns) (i + 1) in
      omega (arith, one_more i n at n_const, number-is_count ns j m formed there m_const, ap constant_count front)

  pub same_number : (i j : ℕ) (n m : Node) → IsNodeAt ns i n → IsNodeAt ns j m → is_constant n ≡ true → is_constant m ≡ true → number_of_constant n ≡ number_of_constant m → i ≡ j
  same_number i j n m at there n_const m_const e =
      elim (cases_lt i j) as (λ _. i ≡ j) [
        | inl before ↦ absurd (omega (arith, numbers_increase i j n m at there n_const m_const before))
        | inr after ↦
            elim (cases_lt j i) as (λ _. i ≡ j) [
              | inl before ↦ absurd (omega (arith, numbers_increase j i m n there at m_const n_const before))
              | inr other ↦ omega arith
            ]
      ]

  pub number_below : (i : ℕ) (n : Node) → IsNodeAt ns i n → is_constant n ≡ true → number_of_constant n < constant_count ns
  number_below i n at const =
      let most : constant_count (take (i + 1) ns) ≤ constant_count ns = sum_by-take-le _ ns (i + 1) in
      omega (arith, one_more i n at const)

-- Lists of nodes with their values

-- the nodes are constants, and no two are one
abbrev pub AreConstants : List Node → List (ℕ × ℕ) → Type 0
AreConstants ns pairs = AllByRecursion (λ p. IsConstantAt ns p.0) pairs

abbrev pub AreDifferent : List (ℕ × ℕ) → Type 0
AreDifferent [] = Unit {0}
AreDifferent (p ∷ pairs) = AllByRecursion (λ q. p.0 ≢ q.0) pairs × AreDifferent pairs

-- p is one of the pairs
abbrev pub Among : ℕ × ℕ → List (ℕ × ℕ) → Type 0
Among p [] = ⊥
Among p (q ∷ pairs) = (p ≡ q) ⊎ Among p pairs

pub from_each : (P : ℕ × ℕ → Type 0) (pairs : List (ℕ × ℕ)) (p : ℕ × ℕ) → AllByRecursion P pairs → Among p pairs → P p
from_each P [] p all has = absurd has
from_each P (q ∷ pairs) p all (inl e) = subst P (sym e) all.0
from_each P (q ∷ pairs) p all (inr later) = from_each P pairs p all.1 later

pub each_among : (P : ℕ × ℕ → Type 0) (pairs : List (ℕ × ℕ)) → ((p : ℕ × ℕ) → Among p pairs → P p) → AllByRecursion P pairs
each_among P [] all = tt
each_among P (q ∷ pairs) all = (all q (inl refl), each_among P pairs (λ p has. all p (inr has)))

constant_number : (ns : List Node) (id : ℕ) → IsConstantAt ns id → is_constant (node_at ns id) ≡ true
constant_number ns id (n, at, const) = ap is_constant (node_at-is ns id n at) ∙ const

constant_node : (ns : List Node) (id : ℕ) → IsConstantAt ns id → IsNodeAt ns id (node_at ns id)
constant_node ns id (n, at, const) = subst (IsNodeAt ns id) (sym (node_at-is ns id n at)) at

pub value_listed : (ns : List Node) (pairs : List (ℕ × ℕ)) (p : ℕ × ℕ) → IsWellFormed ns → AreConstants ns pairs → AreDifferent pairs → Among p pairs
    → listed_value ns pairs (number_of_constant (node_at ns p.0)) ≡ value_of_number (node_at ns p.0) p.1
value_listed ns [] p formed are differ has = absurd has
value_listed ns (q ∷ pairs) p formed are differ (inl e) =
    ap (λ b. cond b (value_of_number (node_at ns q.0) q.1) (listed_value ns pairs (number_of_constant (node_at ns p.0)))) (eq-eqb _ _ (ap (λ r. number_of_constant (node_at ns r.0)) (sym e)))
    ∙ ap (λ r. value_of_number (node_at ns r.0) r.1) (sym e)
value_listed ns (q ∷ pairs) p formed are differ (inr later) =
    let of : IsConstantAt ns p.0 = from_each (λ r. IsConstantAt ns r.0) pairs p are.1 later in
    let apart : q.0 ≢ p.0 = from_each (λ r. q.0 ≢ r.0) pairs p differ.0 later in
    ap (λ b. cond b (value_of_number (node_at ns q.0) q.1) (listed_value ns pairs (number_of_constant (node_at ns p.0))))
    (ne_eqb _ _ (λ e. apart (same_number ns formed q.0 p.0 _ _ (constant_node ns q.0 are.0) (constant_node ns p.0 of) (constant_number ns q.0 are.0) (constant_number ns p.0 of) e)))
    ∙ value_listed ns pairs p formed are.1 differ.1 later

-- the assignment gives each constant the value that is listed for it
pub constant_listed : (ns : List Node) (pairs : List (ℕ × ℕ)) (p : ℕ × ℕ) → IsWellFormed ns → AreConstants ns pairs → AreDifferent pairs → Among p pairs
    → value_of_constant ns (listed_assignment ns pairs) p.0 ≡ value_of_number (node_at ns p.0) p.1
unfolding listed_assignment
constant_listed ns pairs p formed are differ has =
    let of : IsConstantAt ns p.0 = from_each (λ r. IsConstantAt ns r.0) pairs p are has in
    get_or-map-range_with_len (listed_value ns pairs) 0 (constant_count ns) _ _ (value.Bool false)
    (number_below ns formed p.0 _ (constant_node ns p.0 of) (constant_number ns p.0 of)) (omega arith)
    ∙ value_listed ns pairs p formed are differ has

-- Values of constants' nodes

-- a value of a constant's sort is one of its values
fits_sort : (known : List Sort) (n : Node) (v : Value) → is_constant n ≡ true → IsOfSort (sort_of_node known n) v → IsValueFor n v
fits_sort known (BoolConst k) (value.Bool b) const of = tt
fits_sort known (BoolConst k) (value.Field m) const of = of
fits_sort known (FieldConst k p) (value.Bool b) const of = of
fits_sort known (FieldConst k p) (value.Field m) const of = of
fits_sort known _ v const of = absurd (false≢true const)

-- the value of a constant's node is one of its values
pub value_fits : (ns : List Node) (A : List Value) (id : ℕ) → IsTable ns → IsConstantAt ns id → IsValueFor (node_at ns id) (value_at ns A id)
value_fits ns A id table (n, at, const) =
    subst (λ m. IsValueFor m (value_at ns A id)) (sym (node_at-is ns id n at))
    (fits_sort (sorts (take id ns)) n (value_at ns A id) const (subst (λ s. IsOfSort s (value_at ns A id)) (sort_at-is ns id n at) (value_at-of_sort ns A id table (slice_get_within ns id n at))))

-- a value as a number
abbrev pub number_of_value : Value → ℕ
number_of_value (value.Bool b) = cond b 1 0
number_of_value (value.Field n) = n

pub number_fits : (n : Node) (v : Value) → IsValueFor n v → number_of_value v < value_count n
number_fits (BoolConst k) (value.Bool true) fits = omega arith
number_fits (BoolConst k) (value.Bool false) fits = omega arith
number_fits (FieldConst k p) (value.Field m) fits = fits
number_fits (BoolConst k) (value.Field m) fits = absurd fits
number_fits (FieldConst k p) (value.Bool b) fits = absurd fits
number_fits _ v fits = absurd fits

-- a constant that is given a value of its own has it
given_value : (p : ℕ) (B known : List Value) (n : Node) (v : Value) → IsValueFor n v → value_in B (number_of_constant n) ≡ value_of_number n (number_of_value v) → value_of_node p B known n ≡ v
given_value p B known (BoolConst k) (value.Bool true) fits e = ap (λ w. value.Bool (truth w)) e
given_value p B known (BoolConst k) (value.Bool false) fits e = ap (λ w. value.Bool (truth w)) e
given_value p B known (FieldConst k q) (value.Field m) fits e =
    ap (λ w. value.Field (cond (ltb (residue w) q) (residue w) 0)) e ∙ ap (λ b. value.Field (cond b m 0)) (lt-ltb m q fits)
given_value p B known (BoolConst k) (value.Field m) fits e = absurd fits
given_value p B known (FieldConst k q) (value.Bool b) fits e = absurd fits
given_value p B known _ v fits e = absurd fits

-- each of these nodes with its value as a number
abbrev pub values_listed : List Node → List Value → List ℕ → List (ℕ × ℕ)
values_listed ns A ids = map (λ id. (id, number_of_value (value_at ns A id))) ids

node_agrees : (p : ℕ) (A B known other : List Value) (n : Node) → is_constant n ≡ true → value_in A (number_of_constant n) ≡ value_in B (number_of_constant n) → value_of_node p A known n ≡ value_of_node p B other n
node_agrees p A B known other (BoolConst k) const same = ap (λ v. value.Bool (truth v)) same
node_agrees p A B known other (FieldConst k q) const same = ap (λ v. value.Field (cond (ltb (residue v) q) (residue v) 0)) same
node_agrees p A B known other _ const same = absurd (false≢true const)

-- assignments that give a constant the same give its node the same value
pub constant_agrees : (ns : List Node) (A B : List Value) (id : ℕ) → IsTable ns → IsConstantAt ns id → value_of_constant ns A id ≡ value_of_constant ns B id → value_at ns A id ≡ value_at ns B id
constant_agrees ns A B id table (n, at, const) same =
    let here : value_in A (number_of_constant n) ≡ value_in B (number_of_constant n) = subst (λ m. value_in A (number_of_constant m) ≡ value_in B (number_of_constant m)) (node_at-is ns id n at) same in
    value_at-is ns A id n table.well_formed at ∙ node_agrees _ A B _ _ n const here ∙ sym (value_at-is ns B id n table.well_formed at)

-- where an assignment gives a constant the number of a node's value, the node has that value
pub constant_has : (ns : List Node) (A B : List Value) (id : ℕ) → IsTable ns → IsConstantAt ns id → value_of_constant ns B id ≡ value_of_number (node_at ns id) (number_of_value (value_at ns A id)) → value_at ns B id ≡ value_at ns A id
constant_has ns A B id table (n, at, const) e =
    value_at-is ns B id n table.well_formed at
    ∙ given_value _ B _ n (value_at ns A id) (subst (λ m. IsValueFor m (value_at ns A id)) (node_at-is ns id n at) (value_fits ns A id table (n, at, const)))
    (subst (λ m. value_in B (number_of_constant m) ≡ value_of_number m (number_of_value (value_at ns A id))) (node_at-is ns id n at) e)

-- Numbers of assignments

module _ {X : Type 0} (f : X → ℕ) where
  fold_product : (a : ℕ) (xs : List X) → fold (λ p x. p * f x) a xs ≡ a * fold (λ p x. p * f x) 1 xs
  fold_product a [] = omega arith
  fold_product a (x ∷ xs) = fold_product (a * f x) xs ∙ rw (fold_product (1 * f x) xs) (omega arith)

  pub product_by-cons : (x : X) (xs : List X) → product_by f (x ∷ xs) ≡ f x * product_by f xs
  product_by-cons x xs = fold_product (1 * f x) xs ∙ omega arith

digit_below : (d p n span : ℕ) → d < p → n < span → d + p * n < p * span
digit_below d p n span h k = let most : p * (n + 1) ≤ p * span = mul-le-mul_left p (omega arith) in omega arith

first_digit : (d p n : ℕ) → d < p → (d + p * n) % p ≡ d
first_digit d p n h = let e : d + p * n ≡ n * p + d = omega arith in rw e (mod-mul-add n p d h)

other_digits : (d p n : ℕ) → d < p → (d + p * n) / p ≡ n
other_digits d p n h = let e : d + p * n ≡ n * p + d = omega arith in rw e (div-mul-add n p d h)

-- the number of an assignment, as far as these constants go
pub record HasNumber (ns : List Node) (ids : List ℕ) (A : List Value) : Type 0 where
  pub number : ℕ
  pub below : number < span_of ns ids
  pub digits_are : digits ns ids number ≡ values_listed ns A ids

pub number_of_assignment : (ns : List Node) (ids : List ℕ) (A : List Value) → AllByRecursion (λ id. number_of_value (value_at ns A id) < value_count (node_at ns id)) ids → HasNumber ns ids A
number_of_assignment ns [] A fit = record { number = 0; below = omega arith; digits_are = refl }
number_of_assignment ns (id ∷ ids) A fit =
    let others = number_of_assignment ns ids A fit.1 in
    let p = value_count (node_at ns id) in
    let d = number_of_value (value_at ns A id) in
    let span = product_by-cons (λ i. value_count (node_at ns i)) id ids in
    record {
      number = d + p * others.number;
      below = rw span (digit_below d p others.number (span_of ns ids) fit.0 others.below);
      digits_are = ap₂ (λ x xs. (id, x) ∷ xs) (first_digit d p others.number fit.0) (ap (digits ns ids) (other_digits d p others.number fit.0) ∙ others.digits_are);
    }

-- only constants count
counts_one : (n : Node) → is_constant n ≡ false → value_count n ≡ 1
counts_one (BoolConst k) other = absurd (false≢true (sym other))
counts_one (FieldConst k p) other = absurd (false≢true (sym other))
counts_one _ other = refl

pub span-constants : (ns : List Node) (ids : List ℕ) → span_of ns (filter (λ id. is_constant (node_at ns id)) ids) ≡ span_of ns ids
span-constants ns [] = refl
span-constants ns (id ∷ ids) = by_case (is_constant (node_at ns id)) refl (span-constants ns ids)
  where
    by_case : (b : Bool) → is_constant (node_at ns id) ≡ b → span_of ns (filter (λ i. is_constant (node_at ns i)) ids) ≡ span_of ns ids
        → span_of ns (cond b (id ∷ filter (λ i. is_constant (node_at ns i)) ids) (filter (λ i. is_constant (node_at ns i)) ids)) ≡ span_of ns (id ∷ ids)
    by_case true e same =
        product_by-cons (λ i. value_count (node_at ns i)) id (filter (λ i. is_constant (node_at ns i)) ids)
        ∙ ap (λ n. value_count (node_at ns id) * n) same ∙ sym (product_by-cons (λ i. value_count (node_at ns i)) id ids)
    by_case false e same =
        let one : value_count (node_at ns id) * span_of ns ids ≡ span_of ns ids = ap (λ n. n * span_of ns ids) (counts_one (node_at ns id) e) ∙ omega arith in
        same ∙ sym one ∙ sym (product_by-cons (λ i. value_count (node_at ns i)) id ids)
