-- Adding one to the number that the values of constants make.
use Rattle.std.proofs.Common.{◌≡◌, ◌≢◌, ◌⊎◌, ℕ, zero, suc, ◌+◌, ◌*◌, ◌/◌, ◌%◌, ◌<◌, ◌≤◌, ◌==◌, ltb, Bool, true, false, cond, List, [], ◌∷◌, length, map, get_or, drop, slice_set, replicate, inl, inr, refl, sym, ap, ◌∙◌, subst, arith, get_or-set_same, get_or-set_other}
use Rattle.std.specs.List.{AllByRecursion}
use Rattle.std.proofs.Math.ListN.{length-set}
use Rattle.std.proofs.Math.Nat.{zero-mod, zero-div}
use Rattle.std.proofs.lemmas.Nat.{mod-mul-add, div-mul-add, div-add-mod'}
use Rattle.std.proofs.lemmas.Bool.{false≢true, cases_lt, eq-eqb, eqb-true, lt-ltb, le-ltb}
use Rattle.std.proofs.lemmas.List.{drop_more}
use Rattle.std.proofs.lemmas.List.Sums.{count_by-le-length}
use Rattle.ffc_term.specs.declared.node.Node.{Node}
use Rattle.ffc_term.specs.declared.node.Node.TheVariants.{BoolConst, FieldConst}
use Rattle.ffc_term.specs.declared.value.Value.{Value}
use Rattle.ffc_term.specs.declared.value.Value.TheVariants as value
use Rattle.ffc_term.specs.Nodes.{IsNodeAt, IsConstantAt, is_constant, node_at}
use Rattle.ffc_term.specs.Tables.{IsWellFormed, constant_count}
use Rattle.ffc_term.specs.Values.{truth, value_in}
use Rattle.ffc_term.specs.Measuring.{value_count}
use Rattle.ffc_rules.specs.Assignments.{number_of_constant, value_of_number, digits}
use Rattle.ffc_rules.proofs.AssignmentLemmas.{AreDifferent, node_at-is, same_number, number_below}
use Rattle.ffc_rules.proofs.CaseLemmas.{AreApart, named_each, named_apart}
use Rattle.ffc_check.specs.Assigning.{with_value, with_values}
use Rattle.ffc_check.proofs.AssignLemmas.{value_count-positive}
use Rattle.ffc_trials.specs.Counting.{number_for, number_given, GivesNumbers, HasDigits, advanced}
use Rattle.ffc_trials.specs.Enumerating.{with_zeros}

-- Values as numbers

two_values : (b : Bool) → cond b 1 0 < 2
two_values true = omega arith
two_values false = omega arith

capped : (r p : ℕ) → 0 < p → cond (ltb r p) r 0 < p
capped r p some = by_test (cases_lt r p)
  where
    by_test : (r < p) ⊎ (p ≤ r) → cond (ltb r p) r 0 < p
    by_test (inl below) = subst (λ b. cond b r 0 < p) (sym (lt-ltb r p below)) below
    by_test (inr other) = subst (λ b. cond b r 0 < p) (sym (le-ltb r p other)) some

pub number_fits : (n : Node) (v : Value) → 0 < value_count n → number_for n v < value_count n
number_fits (BoolConst k) v some = two_values (truth v)
number_fits (FieldConst k p) v some = capped _ p some
number_fits _ v some = omega arith

pub number_for-value : (n : Node) (m : ℕ) → is_constant n ≡ true → m < value_count n → number_for n (value_of_number n m) ≡ m
number_for-value (BoolConst k) zero const fits = refl
number_for-value (BoolConst k) (suc zero) const fits = refl
number_for-value (BoolConst k) (suc (suc m)) const fits = absurd (omega arith)
number_for-value (FieldConst k p) m const fits = ap (λ b. cond b m 0) (lt-ltb m p fits)
number_for-value _ m const fits = absurd (false≢true const)

same_choice : (b : Bool) → (let none : ℕ = 0 in cond b none none ≡ none)
same_choice true = refl
same_choice false = refl

pub number_for-false : (n : Node) → number_for n (value.Bool false) ≡ 0
number_for-false (BoolConst k) = refl
number_for-false (FieldConst k p) = same_choice (ltb 0 p)
number_for-false _ = refl

-- Sums with and without a carry

carried : (k c : ℕ) → 0 < c → k % c + 1 ≡ c → ((k + 1) % c ≡ 0) × ((k + 1) / c ≡ k / c + 1)
carried k c some full =
    let e : k + 1 ≡ (k / c + 1) * c + 0 = omega (arith, div-add-mod' k c) in
    (ap (λ n. n % c) e ∙ mod-mul-add (k / c + 1) c 0 some, ap (λ n. n / c) e ∙ div-mul-add (k / c + 1) c 0 some)

added : (k c : ℕ) → k % c + 1 < c → ((k + 1) % c ≡ k % c + 1) × ((k + 1) / c ≡ k / c)
added k c below =
    let e : k + 1 ≡ (k / c) * c + (k % c + 1) = omega (arith, div-add-mod' k c) in
    (ap (λ n. n % c) e ∙ mod-mul-add (k / c) c (k % c + 1) below, ap (λ n. n / c) e ∙ div-mul-add (k / c) c (k % c + 1) below)

-- Constants

-- no two are one
abbrev pub AreDistinct : List ℕ → Type 0
AreDistinct [] = Unit {0}
AreDistinct (x ∷ xs) = AllByRecursion (λ y. x ≢ y) xs × AreDistinct xs

digits-names : (ns : List Node) (ids : List ℕ) (k : ℕ) → map (λ p. p.0) (digits ns ids k) ≡ ids
digits-names ns [] k = refl
digits-names ns (id ∷ ids) k = ap (λ xs. id ∷ xs) (digits-names ns ids (k / value_count (node_at ns id)))

pub digits_each : (P : ℕ → Type 0) (ns : List Node) (ids : List ℕ) (k : ℕ) → AllByRecursion P ids → AllByRecursion (λ p. P p.0) (digits ns ids k)
digits_each P ns ids k all = named_each P (digits ns ids k) (subst (AllByRecursion P) (sym (digits-names ns ids k)) all)

pub digits_named : (ns : List Node) (ids : List ℕ) (k : ℕ) → map (λ p. p.0) (digits ns ids k) ≡ ids
digits_named ns ids k = digits-names ns ids k

pub digits_differ : (ns : List Node) (ids : List ℕ) (k : ℕ) → AreApart ids → AreDifferent (digits ns ids k)
digits_differ ns ids k apart = named_apart (digits ns ids k) (subst AreApart (sym (digits-names ns ids k)) apart)

names_each : (x : ℕ) (ns : List Node) (ids : List ℕ) (k : ℕ) → AllByRecursion (λ p. x ≢ p.0) (digits ns ids k) → AllByRecursion (λ y. x ≢ y) ids
names_each x ns [] k all = tt
names_each x ns (id ∷ ids) k all = (all.0, names_each x ns ids (k / value_count (node_at ns id)) all.1)

distinct_names : (ns : List Node) (ids : List ℕ) (k : ℕ) → AreDifferent (digits ns ids k) → AreDistinct ids
distinct_names ns [] k differ = tt
distinct_names ns (id ∷ ids) k differ = (names_each id ns ids (k / value_count (node_at ns id)) differ.0, distinct_names ns ids (k / value_count (node_at ns id)) differ.1)

pub AreDistinct-apart : (ns : List Node) (ids : List ℕ) → AreApart ids → AreDistinct ids
AreDistinct-apart ns ids apart = distinct_names ns ids 0 (digits_differ ns ids 0 apart)

pub constant_node : (ns : List Node) (id : ℕ) → IsConstantAt ns id → is_constant (node_at ns id) ≡ true
constant_node ns id (n, at, const) = ap is_constant (node_at-is ns id n at) ∙ const

module _ (ns : List Node) (formed : IsWellFormed ns) where
  pub constant_inside : (values : List Value) (id : ℕ) → IsConstantAt ns id → length values ≡ length ns → number_of_constant (node_at ns id) < length values
  constant_inside values id (n, at, const) long =
      let below : number_of_constant (node_at ns id) < constant_count ns = rw (node_at-is ns id n at) (number_below ns formed id n at const) in
      let few = count_by-le-length is_constant ns in omega arith

  pub count_positive : (id : ℕ) → IsConstantAt ns id → 0 < value_count (node_at ns id)
  count_positive id (n, at, const) = rw (node_at-is ns id n at) (value_count-positive ns id n formed at)

  apart : (i j : ℕ) → IsConstantAt ns i → IsConstantAt ns j → i ≢ j → number_of_constant (node_at ns j) ≢ number_of_constant (node_at ns i)
  apart i j (n, n_at, n_const) (m, m_at, m_const) differ same =
      differ (same_number ns formed i j n m n_at m_at n_const m_const (ap number_of_constant (sym (node_at-is ns i n n_at)) ∙ sym same ∙ ap number_of_constant (node_at-is ns j m m_at)))

  -- a constant that gets a value has it, and the others keep theirs
  pub gets : (values : List Value) (id m : ℕ) → IsConstantAt ns id → length values ≡ length ns → m < value_count (node_at ns id) → number_given ns (with_value ns values (id, m)) id ≡ m
  gets values id m is long fits =
      ap (number_for (node_at ns id)) (get_or-set_same values (number_of_constant (node_at ns id)) (value_of_number (node_at ns id) m) (value.Bool false) (constant_inside values id is long))
      ∙ number_for-value (node_at ns id) m (constant_node ns id is) fits

  keeps : (values : List Value) (id other m : ℕ) → IsConstantAt ns id → IsConstantAt ns other → id ≢ other → number_given ns (with_value ns values (id, m)) other ≡ number_given ns values other
  keeps values id other m is of differ =
      ap (number_for (node_at ns other)) (get_or-set_other values (number_of_constant (node_at ns id)) (number_of_constant (node_at ns other)) (value_of_number (node_at ns id) m) (value.Bool false) (apart id other is of differ))

  keeps_all : (values : List Value) (id m : ℕ) (pairs : List (ℕ × ℕ)) → IsConstantAt ns id → AllByRecursion (λ p. IsConstantAt ns p.0) pairs → AllByRecursion (λ p. id ≢ p.0) pairs
      → GivesNumbers ns values pairs → GivesNumbers ns (with_value ns values (id, m)) pairs
  keeps_all values id m [] is are differ gives = tt
  keeps_all values id m (p ∷ pairs) is are differ gives = (keeps values id p.0 m is are.0 differ.0 ∙ gives.0, keeps_all values id m pairs is are.1 differ.1 gives.1)

  digits_keep : (values : List Value) (id m : ℕ) (ids : List ℕ) (k : ℕ) → IsConstantAt ns id → AllByRecursion (IsConstantAt ns) ids → AllByRecursion (λ y. id ≢ y) ids
      → HasDigits ns ids values k → HasDigits ns ids (with_value ns values (id, m)) k
  digits_keep values id m ids k is are differ has = keeps_all values id m (digits ns ids k) is (digits_each (IsConstantAt ns) ns ids k are) (digits_each (λ y. id ≢ y) ns ids k differ) has

  length-with : (values : List Value) (id m : ℕ) → length (with_value ns values (id, m)) ≡ length values
  length-with values id m = length-set values (number_of_constant (node_at ns id)) (value_of_number (node_at ns id) m)

  pub length-advanced : (ids : List ℕ) (values : List Value) → length (advanced ns ids values) ≡ length values
  length-advanced [] values = refl
  length-advanced (id ∷ ids) values = by_carry (number_given ns values id + 1 == value_count (node_at ns id)) (length-advanced ids (with_value ns values (id, 0)) ∙ length-with values id 0)
    where
      by_carry : (b : Bool) → length (advanced ns ids (with_value ns values (id, 0))) ≡ length values
          → length (cond b (advanced ns ids (with_value ns values (id, 0))) (with_value ns values (id, number_given ns values id + 1))) ≡ length values
      by_carry true same = same
      by_carry false same = length-with values id (number_given ns values id + 1)

  -- a constant that is not among these keeps its value
  advanced_keeps : (ids : List ℕ) (values : List Value) (other : ℕ) → AllByRecursion (IsConstantAt ns) ids → IsConstantAt ns other → AllByRecursion (λ y. other ≢ y) ids
      → number_given ns (advanced ns ids values) other ≡ number_given ns values other
  advanced_keeps [] values other are of differ = refl
  advanced_keeps (id ∷ ids) values other are of differ =
      let apart_from : id ≢ other = λ e. differ.0 (sym e) in
      by_carry (number_given ns values id + 1 == value_count (node_at ns id)) apart_from
      (advanced_keeps ids (with_value ns values (id, 0)) other are.1 of differ.1 ∙ keeps values id other 0 are.0 of apart_from)
    where
      by_carry : (b : Bool) → id ≢ other → number_given ns (advanced ns ids (with_value ns values (id, 0))) other ≡ number_given ns values other
          → number_given ns (cond b (advanced ns ids (with_value ns values (id, 0))) (with_value ns values (id, number_given ns values id + 1))) other ≡ number_given ns values other
      by_carry true apart_from same = same
      by_carry false apart_from same = keeps values id other (number_given ns values id + 1) are.0 of apart_from

  -- the next assignment has the next number
  pub advanced_digits : (ids : List ℕ) (values : List Value) (k : ℕ) → AllByRecursion (IsConstantAt ns) ids → AreDistinct ids → length values ≡ length ns
      → HasDigits ns ids values k → HasDigits ns ids (advanced ns ids values) (k + 1)
  advanced_digits [] values k are differ long has = tt
  advanced_digits (id ∷ ids) values k are differ long has =
      let c = value_count (node_at ns id) in
      let zeroed = with_value ns values (id, 0) in
      by_carry (number_given ns values id + 1 == c) refl
      (advanced_digits ids zeroed (k / c) are.1 differ.1 (length-with values id 0 ∙ long) (digits_keep values id 0 ids (k / c) are.0 are.1 differ.0 has.1))
    where
      by_carry : (b : Bool) → (number_given ns values id + 1 == value_count (node_at ns id)) ≡ b
          → HasDigits ns ids (advanced ns ids (with_value ns values (id, 0))) (k / value_count (node_at ns id) + 1)
          → HasDigits ns (id ∷ ids) (cond b (advanced ns ids (with_value ns values (id, 0))) (with_value ns values (id, number_given ns values id + 1))) (k + 1)
      by_carry true test rest =
          let c = value_count (node_at ns id) in
          let some = count_positive id are.0 in
          let full : k % c + 1 ≡ c = ap (λ d. d + 1) (sym has.0) ∙ eqb-true _ c test in
          let sums = carried k c some full in (
            advanced_keeps ids (with_value ns values (id, 0)) id are.1 are.0 differ.0 ∙ gets values id 0 are.0 long some ∙ sym sums.0,
            subst (HasDigits ns ids (advanced ns ids (with_value ns values (id, 0)))) (sym sums.1) rest,
          )
      by_carry false test rest =
          let c = value_count (node_at ns id) in
          let d = number_given ns values id in
          let fits : d < c = number_fits (node_at ns id) _ (count_positive id are.0) in
          let other : d + 1 ≢ c = λ e. false≢true (sym test ∙ eq-eqb (d + 1) c e) in
          let below : d + 1 < c = omega arith in
          let sums = added k c (subst (λ m. m + 1 < c) has.0 below) in (
            gets values id (d + 1) are.0 long below ∙ ap (λ m. m + 1) has.0 ∙ sym sums.0,
            subst (HasDigits ns ids (with_value ns values (id, d + 1))) (sym sums.1) (digits_keep values id (d + 1) ids (k / c) are.0 are.1 differ.0 has.1),
          )

-- Before the first assignment

module _ (ns : List Node) (formed : IsWellFormed ns) where
  -- a constant that is not among these keeps its value where these get 0
  zeros_keep : (ids : List ℕ) (values : List Value) (other : ℕ) → AllByRecursion (IsConstantAt ns) ids → IsConstantAt ns other → AllByRecursion (λ y. other ≢ y) ids
      → number_given ns (with_values ns values (with_zeros ids)) other ≡ number_given ns values other
  zeros_keep [] values other are of differ = refl
  zeros_keep (id ∷ ids) values other are of differ =
      zeros_keep ids (with_value ns values (id, 0)) other are.1 of differ.1 ∙ keeps ns formed values id other 0 are.0 of (λ e. differ.0 (sym e))

  -- constants that all got 0 have the digits of the first assignment
  pub zero_digits : (ids : List ℕ) (values : List Value) → AllByRecursion (IsConstantAt ns) ids → AreDistinct ids → length values ≡ length ns
      → HasDigits ns ids (with_values ns values (with_zeros ids)) 0
  zero_digits [] values are differ long = tt
  zero_digits (id ∷ ids) values are differ long =
      let c = value_count (node_at ns id) in
      let zeroed = with_value ns values (id, 0) in
      let here : number_given ns (with_values ns zeroed (with_zeros ids)) id ≡ 0 =
      zeros_keep ids zeroed id are.1 are.0 differ.0 ∙ gets ns formed values id 0 are.0 long (count_positive ns formed id are.0) in
      (here ∙ sym (zero-mod c), subst (HasDigits ns ids (with_values ns zeroed (with_zeros ids))) (sym (zero-div c)) (zero_digits ids zeroed are.1 differ.1 (length-set values (number_of_constant (node_at ns id)) (value_of_number (node_at ns id) 0) ∙ long)))

-- Steps of the code

pub given_number : (ns : List Node) (values : List Value) (id r : ℕ) (n : Node) → IsNodeAt ns id n → r ≡ number_for n (value_in values (number_of_constant n)) → r ≡ number_given ns values id
given_number ns values id r n at e = e ∙ ap (λ m. number_for m (value_in values (number_of_constant m))) (sym (node_at-is ns id n at))

pub with_value-is : (ns : List Node) (values : List Value) (id m : ℕ) (n : Node) → IsNodeAt ns id n → slice_set values (number_of_constant n) (value_of_number n m) ≡ with_value ns values (id, m)
with_value-is ns values id m n at = ap (λ k. slice_set values (number_of_constant k) (value_of_number k m)) (sym (node_at-is ns id n at))

module _ (ns : List Node) (ids : List ℕ) (i : ℕ) (inside : i < length ids) (values new all : List Value) (carry : Bool)
    (test : carry ≡ (number_given ns values (get_or ids i 0) + 1 == value_count (node_at ns (get_or ids i 0))))
    (set : new ≡ with_value ns values (get_or ids i 0, cond carry 0 (number_given ns values (get_or ids i 0) + 1)))
    (so_far : advanced ns (drop i ids) values ≡ all) where
  here : cond carry (advanced ns (drop (i + 1) ids) (with_value ns values (get_or ids i 0, 0))) (with_value ns values (get_or ids i 0, number_given ns values (get_or ids i 0) + 1)) ≡ all
  here =
      let x = get_or ids i 0 in
      ap (λ b. cond b (advanced ns (drop (i + 1) ids) (with_value ns values (x, 0))) (with_value ns values (x, number_given ns values x + 1))) test
      ∙ subst (λ ys. advanced ns ys values ≡ all) (drop_more ids i 0 inside) so_far

  pub with_carry : carry ≡ true → advanced ns (drop (i + 1) ids) new ≡ all
  with_carry e =
      let x = get_or ids i 0 in
      ap (advanced ns (drop (i + 1) ids)) (set ∙ ap (λ b. with_value ns values (x, cond b 0 (number_given ns values x + 1))) e)
      ∙ subst (λ b. cond b (advanced ns (drop (i + 1) ids) (with_value ns values (x, 0))) (with_value ns values (x, number_given ns values x + 1)) ≡ all) e here

  pub without_carry : carry ≡ false → new ≡ all
  without_carry e =
      let x = get_or ids i 0 in
      set ∙ ap (λ b. with_value ns values (x, cond b 0 (number_given ns values x + 1))) e
      ∙ subst (λ b. cond b (advanced ns (drop (i + 1) ids) (with_value ns values (x, 0))) (with_value ns values (x, number_given ns values x + 1)) ≡ all) e here
