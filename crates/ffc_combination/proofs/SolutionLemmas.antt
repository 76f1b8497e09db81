-- The values that a choice determines of a flat check's constants.
use Rattle.std.proofs.Common.{◌≡◌, ℕ, ◌+◌, ◌<◌, ◌≤◌, false, List, [], ◌∷◌, length, map, take, All, Contains, sym, ap, ◌∙◌, subst, arith, length-take}
use Rattle.std.specs.List.{AllByRecursion, AllZip}
use Rattle.std.specs.List.Sorted.{IsStrictlyIncreasing}
use Rattle.std.proofs.lemmas.List.Elements.{All-from_recursion, All-get_or}
use Rattle.std.proofs.lemmas.Slice.Zip.{AllZip-long}
use Rattle.ffc_bounds.specs.Combinations.{node_variables}
use Rattle.ffc_bounds.specs.Conjunctions.{field_constants}
use Rattle.ffc_clause.specs.Clauses.{Literal}
use Rattle.ffc_field.specs.Binomial.{choose}
use Rattle.ffc_macaulay.proofs.CountLemmas.{length-monomials, more_than_variables}
use Rattle.ffc_refutation.specs.declared.combination.Determined.{Determined}
use Rattle.ffc_refutation.specs.declared.reason.Reason.{Reason}
use Rattle.ffc_ring.specs.Polynomial.{Terms}
use Rattle.ffc_rules.proofs.CaseLemmas.{named_each}
use Rattle.ffc_rules.specs.Cones.{cone}
use Rattle.ffc_rules.specs.Entries.{NodeCheck}
use Rattle.ffc_term.specs.declared.value.Value.{Value}
use Rattle.ffc_term.specs.Values.{is_same_truth, truth}
use Rattle.ffc_trees.specs.FirstLines.{first_lines}
use Rattle.ffc_trials.specs.Known.{AreModelValuesOf}
use Rattle.ffc_macaulay.specs.Solutions.{IsSolution}
use Rattle.ffc_combination.specs.declared.choices.Choice.{Choice}
use Rattle.ffc_combination.specs.Solving.{IsMissed, IsSolvedChoice, residue_at}
use Rattle.ffc_combination.specs.Values.{AreValuesUnder, IsFieldConstant, IsTrueAt, literal_at, truth_by}
use Rattle.ffc_combination.proofs.DenialLemmas.{tested_in_cone}
use Rattle.ffc_combination.proofs.ForcedLemmas.{cone_inside, variables_rise}
use Rattle.ffc_combination.proofs.ModelLemmas.{IsFlatFor, flat_for, are_field_constants, is_model, residues_given}

-- each value is a residue, with few summands
zip_below : (p d : ℕ) (xs degrees : List ℕ) (lines : List Terms) (ys : List ℕ) (values : List Determined) → AllZip (IsSolution p d xs degrees lines) ys values → AllByRecursion (λ v. v.value < p) values
zip_below p d xs degrees lines [] [] each = tt
zip_below p d xs degrees lines [] (v ∷ values) each = absurd each
zip_below p d xs degrees lines (y ∷ ys) [] each = absurd each
zip_below p d xs degrees lines (y ∷ ys) (v ∷ values) each = (each.0.determined.residue, zip_below p d xs degrees lines ys values each.1)

zip_few : (p d : ℕ) (xs degrees : List ℕ) (lines : List Terms) (ys : List ℕ) (values : List Determined) → AllZip (IsSolution p d xs degrees lines) ys values → AllByRecursion (λ v. length v.summands.items ≤ 4096) values
zip_few p d xs degrees lines [] [] each = tt
zip_few p d xs degrees lines [] (v ∷ values) each = absurd each
zip_few p d xs degrees lines (y ∷ ys) [] each = absurd each
zip_few p d xs degrees lines (y ∷ ys) (v ∷ values) each = (each.0.few, zip_few p d xs degrees lines ys values each.1)

-- what is said of the values is said of the pairs with them
numbers_each : (P : ℕ → Type 0) (pairs : List (ℕ × ℕ)) (values : List Determined) → map (λ q. q.1) pairs ≡ map (λ v. v.value) values → AllByRecursion (λ v. P v.value) values → AllByRecursion (λ q. P q.1) pairs
numbers_each P [] values same each = tt
numbers_each P (q ∷ pairs) [] same each = absurd (let e : length (map (λ (r : ℕ × ℕ). r.1) (q ∷ pairs)) ≡ length {A = ℕ} [] = ap length same in omega (arith, e))
numbers_each P (q ∷ pairs) (v ∷ values) same each = (
  subst P (let e : v.value ≡ q.1 = cc in e) each.0,
  numbers_each P pairs values (let e : map (λ (r : ℕ × ℕ). r.1) pairs ≡ map (λ u. u.value) values = cc in e) each.1,
)

module _ (c : NodeCheck) (p : ℕ) (reasons : List Reason) (x : Choice) (tested : List Literal) (values : List Determined) (solved : IsSolvedChoice c p reasons x tested values) where
  flat : IsFlatFor c x.variables.items solved.solved.determined.count
  flat = flat_for c p solved.degree reasons x tested solved.solved.determined.count solved.chosen solved.solved.determined.constants

  -- there is a value for each constant
  long : length values ≡ length (take solved.solved.determined.count x.variables.items)
  long = AllZip-long (IsSolution p solved.degree x.variables.items x.degrees.items (first_lines c.nodes p x.literals.items)) (take solved.solved.determined.count x.variables.items) values solved.solved.determined.each

  pub values_counted : length values ≡ solved.solved.determined.count
  values_counted = long ∙ ap length flat.first_are ∙ sym flat.count_is

  pub own_are : take (length values) x.variables.items ≡ node_variables c.nodes c.in_force
  own_are = ap (λ n. take n x.variables.items) values_counted ∙ flat.first_are

  pub values_within : length values ≤ length x.variables.items
  values_within = omega (arith, long, length-take solved.solved.determined.count x.variables.items)

  pub one_value_each : (ys : List ℕ) → ys ≡ take (length values) x.variables.items → length values ≡ length ys
  one_value_each ys is = omega (arith, values_within, length-take (length values) x.variables.items, ap length is)

  pub few_values : length values ≤ 4096
  few_values =
      let d = solved.degree in
      let n = length x.variables.items in
      let least = solved.chosen.least in
      let more : n < choose (d + n) n = more_than_variables d n (omega (arith, least)) in
      let few = solved.solved.few_columns in
      omega (arith, more, few, values_within, length-monomials d x.variables.items)

  pub few_terms : All (λ v. length v.summands.items ≤ 4096) values
  few_terms =
      All-from_recursion (λ v. length v.summands.items ≤ 4096) values
      (zip_few p solved.degree x.variables.items x.degrees.items (first_lines c.nodes p x.literals.items) (take solved.solved.determined.count x.variables.items) values solved.solved.determined.each)

  module _ (pairs : List (ℕ × ℕ)) (ys : List ℕ) (ys_are : ys ≡ take (length values) x.variables.items) (constants : map (λ q. q.0) pairs ≡ ys) (numbers : map (λ q. q.1) pairs ≡ map (λ v. v.value) values) where
    named : map (λ q. q.0) pairs ≡ node_variables c.nodes c.in_force
    named = constants ∙ ys_are ∙ own_are

    below : AllByRecursion (λ q. q.1 < p) pairs
    below =
        numbers_each (λ n. n < p) pairs values numbers
        (zip_below p solved.degree x.variables.items x.degrees.items (first_lines c.nodes p x.literals.items) (take solved.solved.determined.count x.variables.items) values solved.solved.determined.each)

    pub pairs_constants : All (λ q. IsFieldConstant c.nodes q.0) pairs
    pairs_constants =
        All-from_recursion (λ q. IsFieldConstant c.nodes q.0) pairs
        (named_each (IsFieldConstant c.nodes) pairs (subst (AllByRecursion (IsFieldConstant c.nodes)) (sym named) (are_field_constants c p solved.chosen.check flat.no_ite)))

    pub pairs_increase : IsStrictlyIncreasing (map (λ q. q.0) pairs)
    pairs_increase = subst IsStrictlyIncreasing (sym named) (variables_rise c solved.chosen.check.valid)

    module _ (under : List Value) (are : AreValuesUnder c pairs under) where
      pub tested_inside : All (λ l. l.1 < length under) tested
      tested_inside k d inside =
          let within = cone_inside c solved.chosen.check.valid _ (tested_in_cone c p solved.degree reasons x tested solved.chosen k d inside) in
          let same = are.long in
          omega (arith, within, same)

      pub model : All (λ l. truth_by under l ≡ false) tested → (map (λ q. q.0) pairs ≡ field_constants c.nodes c.in_force) × AreModelValuesOf c pairs
      model none = is_model c p solved.degree reasons x tested solved.solved.determined.count solved.chosen solved.solved.determined.constants pairs named below under are none

      pub missed : (place : ℕ) → IsTrueAt under tested place → IsMissed c p reasons x tested values place
      missed place at =
          let l = literal_at tested place in
          let in_cone : Contains (cone c.nodes c.in_force) l.1 = All-get_or (λ (k : Literal). Contains (cone c.nodes c.in_force) k.1) tested place _ at.there (tested_in_cone c p solved.degree reasons x tested solved.chosen) in
          record {
            solved = solved;
            assignment = are.assignment;
            given = ap (map (residue_at c are.assignment)) own_are ∙ residues_given c p solved.chosen.check flat.no_ite pairs named below are.assignment are.agrees ∙ numbers;
            there = at.there;
            true_at = ap (λ v. is_same_truth l.0 (truth v)) (sym (are.each l.1 in_cone)) ∙ at.true_by;
          }
