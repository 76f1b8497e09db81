-- A check by cases, and listed values.
use Rattle.std.proofs.Common.{inl, inr, ◌≡◌, ◌≢◌, ℕ, zero, suc, ◌+◌, ◌<◌, ◌==◌, ◌&&◌, nat_lt, Bool, true, false, cond, List, [], ◌∷◌, length, map, get_or, All, Contains, Some, None, refl, sym, ap, ap₂, ◌∙◌, subst, arith}
use Rattle.std.specs.List.{AllByRecursion, range_with_len}
use Rattle.std.specs.List.Sorted.{IsStrictlyIncreasing}
use Rattle.std.proofs.lemmas.Bool.{false≢true, and_parts, eqb-true, ltb-true}
use Rattle.std.proofs.lemmas.List.Elements.{All-contains, Contains-append_right}
use Rattle.std.proofs.lemmas.List.Sums.{AllPass-from_list_all, list_all-from_AllPass}
use Rattle.std.proofs.lemmas.List.Folds.{list_any_at, Any-from_list_any}
use Rattle.std.proofs.lemmas.List.FromFn.{get_or-range_with_len, length-range_with_len}
use Rattle.std.proofs.lemmas.Option.{none-some}
use Rattle.ffc_term.specs.declared.node.Node.{Node}
use Rattle.ffc_term.specs.declared.value.Value.{Value}
use Rattle.ffc_term.specs.declared.value.Value.TheVariants as value
use Rattle.ffc_term.specs.Nodes.{IsConstantAt, node_at}
use Rattle.ffc_term.specs.Tables.{IsTable}
use Rattle.ffc_term.specs.Values.{values, value_at, truth, truth_in}
use Rattle.ffc_term.specs.Measuring.{value_count}
use Rattle.ffc_term.specs.Checks.{AreConstantsOf, IsValidCheck}
use Rattle.ffc_term.specs.Checks.IsNodeOf.{listed}
use Rattle.std.proofs.lemmas.List.{get_or_default}
use Rattle.ffc_term.proofs.ListLemmas.{nothing_in}
use Rattle.ffc_term.proofs.CheckLemmas.{AreConstantsOf-filter}
use Rattle.ffc_term.proofs.LawLemmas.{constants_decide}
use Rattle.ffc_rules.specs.Clauses.{AreTrue}
use Rattle.ffc_rules.specs.Cones.{cone, cone_constants, span}
use Rattle.ffc_rules.specs.Assignments.{value_of_constant, value_of_number, listed_assignment, numbered_assignment, are_true, has_model_below}
use Rattle.ffc_rules.specs.Entries.{first_misfit}
use Rattle.ffc_rules.proofs.AssignmentLemmas.{AreConstants, AreDifferent, Among, from_each, each_among, value_fits, number_of_value, number_fits, values_listed, constant_listed, constant_agrees, constant_has, number_of_assignment, span-constants}
use Rattle.ffc_rules.proofs.ConeLemmas.{cone_nodes}

-- between the test and what it says

truth-true : (v : Value) → truth v ≡ true → v ≡ value.Bool true
truth-true (value.Bool b) e = ap value.Bool e
truth-true (value.Field n) e = absurd (false≢true e)

pub AreTrue-from_test : (ns : List Node) (ids : List ℕ) (A : List Value) → are_true ns ids A ≡ true → AreTrue ns ids A
AreTrue-from_test ns ids A e k d inside = truth-true _ (AllPass-from_list_all (truth_in (values ns A)) ids e k d inside)

pub test-from_AreTrue : (ns : List Node) (ids : List ℕ) (A : List Value) → AreTrue ns ids A → are_true ns ids A ≡ true
test-from_AreTrue ns ids A all = list_all-from_AllPass (truth_in (values ns A)) ids (λ k d inside. ap truth (all k d inside))

-- assignments that give a check's constants' nodes the same values make the same true
pub true_alike : (ns : List Node) (ids constants : List ℕ) (A B : List Value) → IsTable ns → AreConstantsOf ns ids constants
    → ((id : ℕ) → Contains constants id → value_at ns A id ≡ value_at ns B id) → AreTrue ns ids A → AreTrue ns ids B
true_alike ns ids constants A B table are same all k d inside =
    sym (constants_decide ns ids constants A B table are same (get_or ids k d) (listed (k, inside, get_or_any ids k d inside))) ∙ all k d inside
  where
    get_or_any : (xs : List ℕ) (i e : ℕ) → i < length xs → get_or xs i (get_or xs i e) ≡ get_or xs i e
    get_or_any xs i e within = get_or_default xs i (get_or xs i e) e within

-- lists with values, by recursion

pub each_contained : (P : ℕ → Type 0) (ids : List ℕ) → ((id : ℕ) → Contains ids id → P id) → AllByRecursion P ids
each_contained P [] all = tt
each_contained P (id ∷ ids) all = (all id (0, omega arith, refl), each_contained P ids (λ i has. all i (Contains-append_right (id ∷ []) ids i has)))

each_of_values : (P : ℕ → Type 0) (ns : List Node) (A : List Value) (ids : List ℕ) → AllByRecursion P ids → AllByRecursion (λ p. P p.0) (values_listed ns A ids)
each_of_values P ns A [] all = tt
each_of_values P ns A (id ∷ ids) all = (all.0, each_of_values P ns A ids all.1)

-- no two of an increasing list are one, by recursion
pub AreApart : List ℕ → Type 0
AreApart [] = Unit {0}
AreApart (x ∷ xs) = AllByRecursion (λ y. x ≢ y) xs × AreApart xs

increasing_later : (x : ℕ) (xs : List ℕ) → IsStrictlyIncreasing (x ∷ xs) → IsStrictlyIncreasing xs
increasing_later x xs inc k inside =
    let e : suc k + 1 ≡ suc (k + 1) = omega arith in
    subst (λ j. get_or (x ∷ xs) (suc k) 0 < get_or (x ∷ xs) j 0) e (inc (suc k) (omega arith))

raise : (x y : ℕ) (zs : List ℕ) → x < y → AllByRecursion (λ z. y < z) zs → AllByRecursion (λ z. x < z) zs
raise x y [] below all = tt
raise x y (z ∷ zs) below all = (omega (arith, all.0), raise x y zs below all.1)

increasing_above : (x : ℕ) (xs : List ℕ) → IsStrictlyIncreasing (x ∷ xs) → AllByRecursion (λ y. x < y) xs
increasing_above x [] inc = tt
increasing_above x (y ∷ xs) inc =
    let first : x < y = inc 0 (omega arith) in
    (first, raise x y xs first (increasing_above y xs (increasing_later x (y ∷ xs) inc)))

apart_from_above : (x : ℕ) (xs : List ℕ) → AllByRecursion (λ y. x < y) xs → AllByRecursion (λ y. x ≢ y) xs
apart_from_above x [] all = tt
apart_from_above x (y ∷ xs) all = ((λ e. absurd (omega (arith, all.0, e))), apart_from_above x xs all.1)

pub increasing_apart : (xs : List ℕ) → IsStrictlyIncreasing xs → AreApart xs
unfolding AreApart
increasing_apart [] inc = tt
increasing_apart (x ∷ xs) inc = (apart_from_above x xs (increasing_above x xs inc), increasing_apart xs (increasing_later x xs inc))

different_values : (ns : List Node) (A : List Value) (ids : List ℕ) → AreApart ids → AreDifferent (values_listed ns A ids)
unfolding AreApart
different_values ns A [] apart = tt
different_values ns A (id ∷ ids) apart = (each_of_values (λ y. id ≢ y) ns A ids apart.0, different_values ns A ids apart.1)

among_values : (ns : List Node) (A : List Value) (ids : List ℕ) (id : ℕ) → Contains ids id → Among (id, number_of_value (value_at ns A id)) (values_listed ns A ids)
among_values ns A [] id has = absurd (nothing_in id has)
among_values ns A (x ∷ ids) id (zero, inside, e) = inl (ap (λ y. (y, number_of_value (value_at ns A y))) (sym e))
among_values ns A (x ∷ ids) id (suc k, inside, e) = inr (among_values ns A ids id (k, omega arith, e))

module _ (ns : List Node) (ids : List ℕ) (table : IsTable ns) (within : All (λ id. id < length ns) ids) where
  pub constants_of : AreConstantsOf ns ids (cone_constants ns ids)
  constants_of = AreConstantsOf-filter ns ids (cone ns ids) (cone_nodes ns ids table within)

  constants_each : AllByRecursion (IsConstantAt ns) (cone_constants ns ids)
  constants_each = each_contained (IsConstantAt ns) (cone_constants ns ids) (λ id has. ((constants_of.each id).0 has).1)

  -- every assignment has a number below the span, and the assignment of that number makes the same true
  pub numbered : (A : List Value) → AreTrue ns ids A → (k : ℕ) × (k < span ns ids) × AreTrue ns ids (numbered_assignment ns (cone_constants ns ids) k)
  unfolding numbered_assignment
  numbered A all =
      let constants = cone_constants ns ids in
      let fit = each_contained (λ id. number_of_value (value_at ns A id) < value_count (node_at ns id)) constants (λ id has. number_fits (node_at ns id) (value_at ns A id) (value_fits ns A id table ((constants_of.each id).0 has).1)) in
      let number = number_of_assignment ns constants A fit in
      let below : number.number < span ns ids = subst (λ s. number.number < s) (span-constants ns (cone ns ids)) number.below in
      let same = λ (id : ℕ) (has : Contains constants id). sym (constant_has ns A (listed_assignment ns (values_listed ns A constants)) id table ((constants_of.each id).0 has).1
      (constant_listed ns (values_listed ns A constants) (id, number_of_value (value_at ns A id)) table.well_formed
      (each_of_values (IsConstantAt ns) ns A constants constants_each) (different_values ns A constants (increasing_apart constants constants_of.increasing)) (among_values ns A constants id has))) in (
        number.number,
        below,
        subst (λ pairs. AreTrue ns ids (listed_assignment ns pairs)) (sym number.digits_are)
            (true_alike ns ids constants A (listed_assignment ns (values_listed ns A constants)) table constants_of same all),
      )

  -- where no assignment of a number below the span makes all true, no assignment does
  pub no_model : has_model_below ns ids (span ns ids) ≡ false → (A : List Value) → AreTrue ns ids A → ⊥
  unfolding has_model_below
  no_model none A all =
      let (k, below, holds) = numbered A all in
      let long = length-range_with_len 0 (span ns ids) in
      let at : get_or (range_with_len 0 (span ns ids)) k 0 ≡ k = get_or-range_with_len 0 (span ns ids) k 0 below ∙ omega arith in
      let test = λ (i : ℕ). are_true ns ids (numbered_assignment ns (cone_constants ns ids) i) in
      false≢true (sym none ∙ list_any_at test (range_with_len 0 (span ns ids)) k 0 (omega arith) (ap test at ∙ test-from_AreTrue ns ids (numbered_assignment ns (cone_constants ns ids) k) holds))

-- where some assignment of a number makes all true, that is one that does
pub a_model : (ns : List Node) (ids : List ℕ) (count : ℕ) → has_model_below ns ids count ≡ true → (A : List Value) × AreTrue ns ids A
unfolding has_model_below
a_model ns ids count some =
    let (k, i, inside, is, on) = Any-from_list_any (λ i. are_true ns ids (numbered_assignment ns (cone_constants ns ids) i)) (range_with_len 0 count) some in
    (numbered_assignment ns (cone_constants ns ids) i, AreTrue-from_test ns ids (numbered_assignment ns (cone_constants ns ids) i) on)

-- Values

-- the pairs name these nodes in order, with numbers below their counts of values
pub record AreListed (ns : List Node) (declared : List ℕ) (pairs : List (ℕ × ℕ)) : Type 0 where
  pub names : map (λ p. p.0) pairs ≡ declared
  pub values_fit : AllByRecursion (λ p. p.1 < value_count (node_at ns p.0)) pairs

pub are_listed : (ns : List Node) (declared : List ℕ) (pairs : List (ℕ × ℕ)) (line : ℕ) → length pairs ≡ length declared → first_misfit ns declared pairs line ≡ None → AreListed ns declared pairs
are_listed ns [] [] line same e = record { names = refl; values_fit = tt }
are_listed ns [] (p ∷ pairs) line same e = absurd (omega (arith, same))
are_listed ns (id ∷ declared) [] line same e = absurd (omega (arith, same))
are_listed ns (id ∷ declared) (p ∷ pairs) line same e = by_test (p.0 == id && nat_lt p.1 (value_count (node_at ns id))) refl e (are_listed ns declared pairs (line + 1) (omega (arith, same)))
  where
    by_test : (b : Bool) → (p.0 == id && nat_lt p.1 (value_count (node_at ns id))) ≡ b → cond b (first_misfit ns declared pairs (line + 1)) (Some line) ≡ None → (first_misfit ns declared pairs (line + 1) ≡ None → AreListed ns declared pairs) → AreListed ns (id ∷ declared) (p ∷ pairs)
    by_test true test is next =
        let parts = and_parts (p.0 == id) (nat_lt p.1 (value_count (node_at ns id))) test in
        let named : p.0 ≡ id = eqb-true p.0 id parts.0 in
        let rest = next is in
        record {
          names = ap₂ (λ x xs. x ∷ xs) named rest.names;
          values_fit = (subst (λ i. p.1 < value_count (node_at ns i)) (sym named) (ltb-true p.1 (value_count (node_at ns id)) parts.1), rest.values_fit);
        }
    by_test false test is next = absurd (none-some line (sym is))

-- a named node has its pair
pub named_among : (declared : List ℕ) (pairs : List (ℕ × ℕ)) (id : ℕ) → map (λ p. p.0) pairs ≡ declared → Contains declared id → (n : ℕ) × Among (id, n) pairs
named_among declared pairs id e has = by_pairs pairs (subst (λ ids. Contains ids id) (sym e) has)
  where
    by_pairs : (ps : List (ℕ × ℕ)) → Contains (map (λ p. p.0) ps) id → (n : ℕ) × Among (id, n) ps
    by_pairs [] none = absurd (nothing_in id none)
    by_pairs (p ∷ ps) (zero, inside, is) = (p.1, inl (λ i. (sym is i, p.1)))
    by_pairs (p ∷ ps) (suc k, inside, is) = let later = by_pairs ps (k, omega arith, is) in (later.0, inr later.1)

pub named_each : (P : ℕ → Type 0) (pairs : List (ℕ × ℕ)) → AllByRecursion P (map (λ p. p.0) pairs) → AllByRecursion (λ p. P p.0) pairs
named_each P [] all = tt
named_each P (p ∷ pairs) all = (all.0, named_each P pairs all.1)

pub named_apart : (pairs : List (ℕ × ℕ)) → AreApart (map (λ p. p.0) pairs) → AreDifferent pairs
unfolding AreApart
named_apart [] apart = tt
named_apart (p ∷ pairs) apart = (named_each (λ y. p.0 ≢ y) pairs apart.0, named_apart pairs apart.1)

-- the assignment gives each constant the value that is listed for it
abbrev pub GivesListed : List Node → List (ℕ × ℕ) → List Value → Type 0
GivesListed ns pairs A = AllByRecursion (λ p. value_of_constant ns A p.0 ≡ value_of_number (node_at ns p.0) p.1) pairs

module _ (ns : List Node) (declared ids : List ℕ) (order : ℕ) (valid : IsValidCheck ns declared ids order) (pairs : List (ℕ × ℕ)) (names : map (λ p. p.0) pairs ≡ declared) where
  pub ids_within : All (λ id. id < length ns) ids
  ids_within k d inside = (valid.boolean k d inside).0

  pub declared_each : AllByRecursion (IsConstantAt ns) declared
  declared_each = each_contained (IsConstantAt ns) declared (λ id has. All-contains (IsConstantAt ns) declared id valid.constants has)

  pub pairs_constants : AreConstants ns pairs
  pairs_constants = named_each (IsConstantAt ns) pairs (subst (AllByRecursion (IsConstantAt ns)) (sym names) declared_each)

  pub pairs_different : AreDifferent pairs
  pairs_different = named_apart pairs (subst AreApart (sym names) (increasing_apart declared valid.increasing))

  -- the assignment by these pairs is one that gives them
  pub listed_gives : GivesListed ns pairs (listed_assignment ns pairs)
  listed_gives = each_among _ pairs (λ p has. constant_listed ns pairs p valid.table.well_formed pairs_constants pairs_different has)

  -- what holds with the listed values holds under each assignment that gives them
  pub listed_true : are_true ns ids (listed_assignment ns pairs) ≡ true → (A : List Value) → GivesListed ns pairs A → AreTrue ns ids A
  listed_true good A gives =
      let B = listed_assignment ns pairs in
      let constants = cone_constants ns ids in
      let of = constants_of ns ids valid.table ids_within in
      true_alike ns ids constants B A valid.table of (λ id has.
      let is = (of.each id).0 has in
      let pair = named_among declared pairs id names (valid.covered id is.0 is.1) in
      constant_agrees ns B A id valid.table is.1
      (from_each (λ p. value_of_constant ns B p.0 ≡ value_of_number (node_at ns p.0) p.1) pairs (id, pair.0) listed_gives pair.1
      ∙ sym (from_each (λ p. value_of_constant ns A p.0 ≡ value_of_number (node_at ns p.0) p.1) pairs (id, pair.0) gives pair.1))
      ) (AreTrue-from_test ns ids B good)
