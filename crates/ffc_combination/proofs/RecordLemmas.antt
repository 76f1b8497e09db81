-- What the search leaves out is no refutation within the units.
use Rattle.std.proofs.Common.{◌≡◌, ℕ, ◌+◌, ◌-◌, ◌<◌, ◌≤◌, ◌&&◌, Bool, true, false, cond, List, [], ◌∷◌, length, take, sum_by, All, Option, Some, None, sym, ap, ap₂, ◌∙◌, subst, arith}
use Rattle.std.specs.List.{range_with_len}
use Rattle.std.proofs.Math.Seq.{take-append_seam}
use Rattle.std.specs.Option.{IfSome}
use Rattle.std.proofs.lemmas.Bool.{le-ltb}
use Rattle.std.proofs.lemmas.List.Elements.{All-weaker}
use Rattle.ffc_base.specs.Metering.{Spending, total}
use Rattle.ffc_bounds.specs.Combinations.{DeterminesConstant, IsMultiple, IsReached, IsRefutedByCombination, IsSolvedByCombination, chosen, literals_of, node_variables, degrees_of, variables_of, degree_units, choice_units, combination_units}
use Rattle.ffc_bounds.specs.Conjunctions.{field_constants, field_order}
use Rattle.ffc_macaulay.specs.Solutions.{Determines}
use Rattle.ffc_refutation.specs.Combinations.{sum_of}
use Rattle.ffc_refutation.specs.declared.reason.Reason.{Reason}
use Rattle.ffc_ring.specs.Polynomial.{SamePolynomial, difference}
use Rattle.ffc_rules.specs.Cones.{cone}
use Rattle.ffc_rules.specs.Entries.{NodeCheck}
use Rattle.ffc_term.specs.declared.node.Node.{Node}
use Rattle.ffc_term.specs.Measuring.{degree_at}
use Rattle.ffc_clause.specs.Clauses.{Literal}
use Rattle.ffc_trees.specs.FirstLines.{first_lines}
use Rattle.ffc_trees.specs.NodePolynomials.{constant, variable}
use Rattle.ffc_combination.specs.Choices.{constants_at, constants_if}
use Rattle.ffc_combination.specs.declared.choices.Choice.{Choice}
use Rattle.ffc_combination.specs.Flat.{constants_of}
use Rattle.ffc_combination.specs.declared.search.Choices.{Choices}
use Rattle.ffc_combination.specs.Attempts.{HasNeither, HasNoSolution, IsExcluded, units_at}
use Rattle.ffc_combination.specs.Search.{IsChoiceOf, IsSecondOf, AreChoicesOf, AreAllExcluded, IsExcludedIfSome, units_if, units_of_both, units_below, IsLowestIfSome}
use Rattle.ffc_combination.proofs.ForcedLemmas.{one_equal, one_unequal, order_is}
use Rattle.ffc_combination.proofs.ModelLemmas.{variables_are_constants}
use Rattle.ffc_combination.proofs.RangeLemmas.{sum_of_sums, sum_alike}

-- a choice that is excluded, by its lists
excluded_choice : (c : NodeCheck) (p d : ℕ) (equal unequal : List ℕ) (x : Choice) → IsChoiceOf c equal unequal x → x.lowest ≤ d → IsExcluded p c.nodes d x
    → HasNeither p d (variables_of c equal unequal) (degrees_of c.nodes equal unequal) (first_lines c.nodes p (literals_of equal unequal)) (constants_of c)
excluded_choice c p d equal unequal x is above excluded =
    let constants : constants_at d x ≡ constants_of c = ap (λ b. cond b None x.constants) (le-ltb d x.lowest above) ∙ is.constants in
    subst (λ (o : Option ℕ). HasNeither p d (variables_of c equal unequal) (degrees_of c.nodes equal unequal) (first_lines c.nodes p (literals_of equal unequal)) o) constants
    (subst (λ (vs : List ℕ). HasNeither p d vs (degrees_of c.nodes equal unequal) (first_lines c.nodes p (literals_of equal unequal)) (constants_at d x)) is.variables
    (subst (λ (es : List ℕ). HasNeither p d x.variables.items es (first_lines c.nodes p (literals_of equal unequal)) (constants_at d x)) is.degrees
    (subst (λ (ls : List Literal). HasNeither p d x.variables.items x.degrees.items (first_lines c.nodes p ls) (constants_at d x)) is.literals excluded)))

-- the units of a choice
choice_units_are : (c : NodeCheck) (equal unequal : List ℕ) (x : Choice) (n : ℕ) → IsChoiceOf c equal unequal x → sum_by (λ k. units_at k x) (range_with_len 2 n) ≡ choice_units n c equal unequal
choice_units_are c equal unequal x n is =
    sum_alike (λ k. units_at k x) (λ k. degree_units k (variables_of c equal unequal) (degrees_of c.nodes equal unequal)) (range_with_len 2 n) (λ k. ap₂ (degree_units k) is.variables is.degrees)

-- the units of both
both_units : (c : NodeCheck) (equal unequal : List ℕ) (x : Choice) (o : Option Choice) (n : ℕ) → IsChoiceOf c equal [] x → IsSecondOf c equal unequal o
    → sum_by (λ k. units_at k x + units_if k o) (range_with_len 2 n) ≡ combination_units n c equal unequal
both_units c equal unequal x None n first second =
    sum_alike (λ k. units_at k x + 0) (λ k. units_at k x) (range_with_len 2 n) (λ k. omega arith)
    ∙ choice_units_are c equal [] x n first ∙ ap (combination_units n c equal) (sym second)
both_units c equal [] x (Some y) n first second = absurd (omega (arith, second.0))
both_units c equal (id ∷ ids) x (Some y) n first second =
    sum_of_sums (λ k. units_at k x) (λ k. units_at k y) (range_with_len 2 n)
    ∙ ap₂ (λ a b. a + b) (choice_units_are c equal [] x n first) (choice_units_are c equal (id ∷ ids) y n second.1)

-- the disequations that are chosen
neither_chosen : (c : NodeCheck) (p d : ℕ) (equal unequal : List ℕ) (x : Choice) (o : Option Choice) (all : Bool) → IsChoiceOf c equal [] x → IsSecondOf c equal unequal o → x.lowest ≤ d → IfSome o (λ y. y.lowest ≤ d)
    → IsExcluded p c.nodes d x → IsExcludedIfSome p c.nodes d o
    → HasNeither p d (variables_of c equal (chosen all unequal)) (degrees_of c.nodes equal (chosen all unequal)) (first_lines c.nodes p (literals_of equal (chosen all unequal))) (constants_of c)
neither_chosen c p d equal unequal x o false first second above more one two = excluded_choice c p d equal [] x first above one
neither_chosen c p d equal unequal x None true first second above more one two =
    subst (λ (ids : List ℕ). HasNeither p d (variables_of c equal ids) (degrees_of c.nodes equal ids) (first_lines c.nodes p (literals_of equal ids)) (constants_of c)) (sym second) (excluded_choice c p d equal [] x first above one)
neither_chosen c p d equal unequal x (Some y) true first second above more one two = excluded_choice c p d equal unequal y second.1 more two

-- the lowest degrees of both choices
lowest_within : (ns : List Node) (ids : List ℕ) (d : ℕ) (o : Option Choice) → All (λ id. degree_at ns id ≤ d) ids → IsLowestIfSome ns ids o → IfSome o (λ y. y.lowest ≤ d)
lowest_within ns ids d None low is = tt
lowest_within ns ids d (Some y) low is = is.least d low

module _ (c : NodeCheck) (p : ℕ) (reasons : List Reason) (x : Choices) (of : AreChoicesOf c p reasons x) (old : Spending) (all : AreAllExcluded p c.nodes x old) (left : total old ≤ old.budget) where
  abbrev budget : ℕ
  budget = length (cone c.nodes c.in_force) + (old.budget - total old)

  -- neither is there within the units
  neither_reached : (equal unequal : List ℕ) (both : Bool) (degree : ℕ) → IsReached (length (cone c.nodes c.in_force) + (old.budget - total old)) c equal unequal both degree
      → HasNeither p degree (variables_of c equal (chosen both unequal)) (degrees_of c.nodes equal (chosen both unequal)) (first_lines c.nodes p (literals_of equal (chosen both unequal))) (constants_of c)
  neither_reached equal unequal both degree r =
      let equal_is : of.equal ≡ equal = one_equal c of.equal of.unequal equal unequal of.forced r.forced in
      let unequal_is : of.unequal ≡ unequal = one_unequal c of.equal of.unequal equal unequal of.forced r.forced in
      let first : IsChoiceOf c equal [] x.equations = subst (λ ids. IsChoiceOf c ids [] x.equations) equal_is of.first in
      let second : IsSecondOf c equal unequal x.all = subst (λ ids. IsSecondOf c equal ids x.all) unequal_is (subst (λ ids. IsSecondOf c ids of.unequal x.all) equal_is of.second) in
      let units : units_below (degree + 1) x ≡ combination_units (degree - 1) c equal unequal =
      ap (λ n. sum_by (λ k. units_of_both k x) (range_with_len 2 n)) (let least = r.least in let e : degree + 1 - 2 ≡ degree - 1 = omega arith in e)
      ∙ both_units c equal unequal x.equations x.all (degree - 1) first second in
      let enough = r.enough in
      let low : All (λ id. degree_at c.nodes id ≤ degree) of.unequal = subst (All (λ id. degree_at c.nodes id ≤ degree)) (sym unequal_is) r.unequal_low in
      let excluded = all degree r.least r.most (omega (arith, units, enough, left)) in
      neither_chosen c p degree equal unequal x.equations x.all both first second (of.first_lowest.least degree low) (lowest_within c.nodes of.unequal degree x.all low of.second_lowest) excluded.0 excluded.1

  order : field_order c.nodes c.in_force ≡ p
  order = order_is c of.check.valid p of.check.field of.check.some

  pub not_refuted : IsRefutedByCombination (length (cone c.nodes c.in_force) + (old.budget - total old)) c → ⊥
  not_refuted r =
      (neither_reached r.equal r.unequal r.all r.degree r.reached).0 r.reached.generators_low r.reached.few_columns r.reached.few_rows r.summands
      (subst (λ q. All (IsMultiple q r.degree (variables_of c r.equal (chosen r.all r.unequal)) (degrees_of c.nodes r.equal (chosen r.all r.unequal))) r.summands) order r.each)
      (subst (λ q. SamePolynomial q (sum_of (first_lines c.nodes q (literals_of r.equal (chosen r.all r.unequal))) r.summands) (constant 1)) order r.sum)

  -- a constant that is determined
  determined : (equal unequal : List ℕ) (both : Bool) (degree y : ℕ) → DeterminesConstant c equal unequal both degree y
      → Determines p degree (variables_of c equal (chosen both unequal)) (degrees_of c.nodes equal (chosen both unequal)) (first_lines c.nodes p (literals_of equal (chosen both unequal))) y
  determined equal unequal both degree y h = record {
    value = h.value;
    residue = subst (λ q. h.value < q) order h.residue;
    summands = h.summands;
    each = subst (λ q. All (IsMultiple q degree (variables_of c equal (chosen both unequal)) (degrees_of c.nodes equal (chosen both unequal))) h.summands) order h.each;
    sum = subst (λ q. SamePolynomial q (sum_of (first_lines c.nodes q (literals_of equal (chosen both unequal))) h.summands) (difference q (variable y) (constant h.value))) order h.sum;
  }

  pub not_solved : IsSolvedByCombination (length (cone c.nodes c.in_force) + (old.budget - total old)) c → ⊥
  not_solved s =
      let own = node_variables c.nodes c.in_force in
      let xs = variables_of c s.equal (chosen s.all s.unequal) in
      let es = degrees_of c.nodes s.equal (chosen s.all s.unequal) in
      let lines = first_lines c.nodes p (literals_of s.equal (chosen s.all s.unequal)) in
      let flat : constants_of c ≡ Some (length own) = ap (λ b. constants_if b own) (ap₂ (λ a b. a && b) s.no_ite s.conjunction) in
      let none : HasNoSolution p s.degree xs es lines (Some (length own)) = subst (HasNoSolution p s.degree xs es lines) flat (neither_reached s.equal s.unequal s.all s.degree s.reached).1 in
      let taken : take (length own) xs ≡ field_constants c.nodes c.in_force =
      take-append_seam own (range_with_len (length c.nodes + length s.equal) (length (chosen s.all s.unequal))) ∙ variables_are_constants c s.no_ite in
      none s.reached.generators_low s.reached.few_columns s.reached.few_rows
      (subst (All (Determines p s.degree xs es lines)) (sym taken)
      (All-weaker (DeterminesConstant c s.equal s.unequal s.all s.degree) (Determines p s.degree xs es lines) (determined s.equal s.unequal s.all s.degree) (field_constants c.nodes c.in_force) s.each))
