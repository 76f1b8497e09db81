-- The choice of some equalities and disequations that are forced.
use Rattle.std.proofs.Common.{inl, inr, ◌≡◌, ℕ, zero, suc, ◌+◌, ◌-◌, ◌<◌, ◌≤◌, Bool, true, false, cond, List, [], ◌∷◌, ◌++◌, length, map, filter, get_or, reverse, ◌||◌, None, Some, Option, All, Contains, refl, sym, ap, ap₂, ◌∙◌, subst, arith, length-append}
use Rattle.std.specs.List.{AllByRecursion, range_with_len}
use Rattle.std.specs.List.Sorted.{IsStrictlyIncreasing}
use Rattle.std.specs.Option.{IfSome}
use Rattle.std.proofs.lemmas.Bool.{cases_lt, le-ltb}
use Rattle.std.proofs.lemmas.List.{length-map, get_or_append_left, get_or-append_right}
use Rattle.std.proofs.lemmas.List.Elements.{All-from_recursion, All-append, All-map, All-weaker, recursion_from_All, Contains-get_or, Contains-append_left, Contains-append_right}
use Rattle.std.proofs.lemmas.List.FromFn.{length-range_with_len, get_or-range_with_len}
use Rattle.std.proofs.lemmas.List.Sums.{length-filter, count_by-le-length}
use Rattle.ffc_bounds.specs.Combinations.{AreForcedEqualities, literals_of, degrees_of, node_variables}
use Rattle.ffc_bounds.specs.Conjunctions.{has_order}
use Rattle.ffc_bounds.specs.Forced.{IsForced}
use Rattle.ffc_bounds.specs.Monomials.{monomials}
use Rattle.ffc_clause.specs.Clauses.{Literal, plus, minus, negated, is_among}
use Rattle.ffc_propagation.specs.Answers.{AreAllForced}
use Rattle.ffc_refutation.specs.declared.reason.Reason.{Reason}
use Rattle.ffc_rules.specs.Cones.{is_listed, reached, is_equality_among, is_equality, cone, atoms}
use Rattle.ffc_rules.specs.Entries.{NodeCheck, limits, is_equality_at, is_within}
use Rattle.ffc_rules.specs.Laws.{IsValid}
use Rattle.ffc_term.proofs.ListLemmas.{nothing_in, Contains-from_filter}
use Rattle.ffc_term.specs.Checks.{IsNodeOf}
use Rattle.ffc_term.specs.declared.node.Node.{Node}
use Rattle.ffc_term.specs.Nodes.{node_at}
use Rattle.ffc_term.specs.Measuring.{degree_at, length_at}
use Rattle.ffc_term.specs.Tables.{IsTable}
use Rattle.ffc_trees.specs.FirstLines.{first_line, first_lines_from, first_lines}
use Rattle.ffc_trees.specs.NodePolynomials.{IsVariableAt}
use Rattle.ffc_trials.specs.Stops.{IsWithinLimits}
use Rattle.ffc_combination.specs.declared.choices.Choice.{Choice}
use Rattle.ffc_combination.specs.Choices.{HasParts, IsChoice, IsGreatestDegree, constants_if}
use Rattle.ffc_combination.specs.Flat.{is_flat}
use Rattle.ffc_combination.specs.Forced.{is_forced_equality, IsUsable, IsLow}
use Rattle.ffc_combination.specs.Search.{IsDenied, IsDeniedChoice, IsChoiceOf, IsInField, AreChoicesOf}
use Rattle.ffc_combination.proofs.WithinLemmas.{equation_listed, disequation_listed}
use Rattle.ffc_combination.proofs.ForcedLemmas.{atom_usable, order_known, variable_listed, variables_rise, variables_inside, forced_are, forced_among, cone_inside}

-- ---- lists

all_each : (P : ℕ → Type 0) (xs : List ℕ) → ((x : ℕ) → Contains xs x → P x) → All P xs
all_each P xs f k d below = f (get_or xs k d) (Contains-get_or xs k d below)

-- what holds of each literal
pub literals_each : (P : Literal → Type 0) (equal unequal : List ℕ) → All (λ id. P (minus id)) equal → All (λ id. P (plus id)) unequal → All P (literals_of equal unequal)
literals_each P equal unequal one two = All-append P (map minus equal) (map plus unequal) (All-map P minus equal one) (All-map P plus unequal two)

-- an increasing list, and the numbers from one past it on
rises_with_range : (xs : List ℕ) (first n : ℕ) → IsStrictlyIncreasing xs → ((x : ℕ) → Contains xs x → x < first) → IsStrictlyIncreasing (xs ++ range_with_len first n)
rises_with_range xs first n rises below k inside =
    let long = length-append xs (range_with_len first n) in
    let count = length-range_with_len first n in
    elim (cases_lt (k + 1) (length xs)) as (λ _. get_or (xs ++ range_with_len first n) k 0 < get_or (xs ++ range_with_len first n) (k + 1) 0) [
      | inl both ↦
          let one = get_or_append_left xs (range_with_len first n) 0 k (omega arith) in
          let two = get_or_append_left xs (range_with_len first n) 0 (k + 1) both in
          let less = rises k both in
          omega (arith, one, two, less)
      | inr past ↦
          let two : get_or (xs ++ range_with_len first n) (k + 1) 0 ≡ first + (k + 1 - length xs) =
          get_or-append_right xs (range_with_len first n) (length xs) (k + 1) 0 refl past ∙ get_or-range_with_len first n (k + 1 - length xs) 0 (omega (arith, long, count, inside, past)) in
          elim (cases_lt k (length xs)) as (λ _. get_or (xs ++ range_with_len first n) k 0 < get_or (xs ++ range_with_len first n) (k + 1) 0) [
            | inl before ↦
                let one = get_or_append_left xs (range_with_len first n) 0 k before in
                let less = below (get_or xs k 0) (Contains-get_or xs k 0 before) in
                omega (arith, one, two, less)
            | inr after ↦
                let one : get_or (xs ++ range_with_len first n) k 0 ≡ first + (k - length xs) =
                get_or-append_right xs (range_with_len first n) (length xs) k 0 refl after ∙ get_or-range_with_len first n (k - length xs) 0 (omega (arith, long, count, inside, after)) in
                omega (arith, one, two, after)
          ]
    ]

in_range : (xs : List ℕ) (first n w : ℕ) → first ≤ w → w < first + n → Contains (xs ++ range_with_len first n) w
in_range xs first n w low high =
    let count = length-range_with_len first n in
    let at : get_or (range_with_len first n) (w - first) w ≡ w = get_or-range_with_len first n (w - first) w (omega (arith, low, high)) ∙ (let e : first + (w - first) ≡ w = omega (arith, low) in e) in
    Contains-append_right xs (range_with_len first n) w (w - first, omega (arith, count, low, high), at)

-- ---- the lines of literals, one after another

-- each line has only monomials in the variables up to its degree
abbrev AreListed : ℕ → List Node → List ℕ → ℕ → List Literal → List ℕ → Type 0
AreListed p nodes xs w [] [] = Unit {0}
AreListed p nodes xs w [] (e ∷ es) = ⊥
AreListed p nodes xs w (l ∷ ls) [] = ⊥
AreListed p nodes xs w (l ∷ ls) (e ∷ es) = AllByRecursion (λ t. Contains (monomials e xs) t.1) (first_line p nodes w l) × AreListed p nodes xs (suc w) ls es

listed_at : (p : ℕ) (nodes : List Node) (xs : List ℕ) (w : ℕ) (ls : List Literal) (es : List ℕ) (i : ℕ) → AreListed p nodes xs w ls es → i < length ls
    → AllByRecursion (λ t. Contains (monomials (get_or es i 0) xs) t.1) (get_or (first_lines_from p nodes w ls) i [])
listed_at p nodes xs w [] [] i are inside = absurd (omega arith)
listed_at p nodes xs w [] (e ∷ es) i are inside = absurd are
listed_at p nodes xs w (l ∷ ls) [] i are inside = absurd are
listed_at p nodes xs w (l ∷ ls) (e ∷ es) zero are inside = are.0
listed_at p nodes xs w (l ∷ ls) (e ∷ es) (suc i) are inside = listed_at p nodes xs (suc w) ls es i are.1 (omega arith)

-- what the literals are of
abbrev IsAtomUsable : ℕ → List Node → List ℕ → ℕ → Type 0
IsAtomUsable p nodes xs id = IsUsable p nodes id × ((x : ℕ) → IsNodeOf nodes (id ∷ []) x → IsVariableAt nodes p x → Contains xs x)

module _ (p : ℕ) (nodes : List Node) (table : IsTable nodes) (positive : 0 < p) (xs : List ℕ) (rises : IsStrictlyIncreasing xs) where
  disequations_listed : (w : ℕ) (unequal : List ℕ) → AllByRecursion (IsAtomUsable p nodes xs) unequal → ((v : ℕ) → w ≤ v → v < w + length unequal → Contains xs v)
      → AreListed p nodes xs w (map plus unequal) (map (λ id. degree_at nodes id + 1) unequal)
  disequations_listed w [] each own = tt
  disequations_listed w (id ∷ unequal) each own = (
    disequation_listed p nodes table xs rises id each.0.0.equality each.0.1 w positive (own w (omega arith) (omega arith)),
    disequations_listed (suc w) unequal each.1 (λ v low high. own v (omega arith) (omega (arith, high))),
  )

  equations_listed : (w : ℕ) (equal : List ℕ) (ls : List Literal) (es : List ℕ) → AllByRecursion (IsAtomUsable p nodes xs) equal → AreListed p nodes xs (w + length equal) ls es
      → AreListed p nodes xs w (map minus equal ++ ls) (map (degree_at nodes) equal ++ es)
  equations_listed w [] ls es each rest = subst (λ k. AreListed p nodes xs k ls es) (let e : w + 0 ≡ w = omega arith in e) rest
  equations_listed w (id ∷ equal) ls es each rest = (
    equation_listed p nodes table xs rises id each.0.0.equality each.0.1 w positive,
    equations_listed (suc w) equal ls es each.1 (subst (λ k. AreListed p nodes xs k ls es) (let e : w + suc (length equal) ≡ suc w + length equal = omega arith in e) rest),
  )

-- ---- the choice

length-degrees : (nodes : List Node) (equal unequal : List ℕ) → length (degrees_of nodes equal unequal) ≡ length (literals_of equal unequal)
length-degrees nodes equal unequal =
    omega (
      arith,
      length-append (map (degree_at nodes) equal) (map (λ id. degree_at nodes id + 1) unequal),
      length-append (map minus equal) (map plus unequal),
      length-map equal (degree_at nodes),
      length-map unequal (λ id. degree_at nodes id + 1),
      length-map equal minus,
      length-map unequal plus,
    )

module _ (c : NodeCheck) (valid : IsValid c) (p : ℕ) (positive : 0 < p) (field : has_order c.nodes c.in_force p ≡ true) (limit : IsWithinLimits c) (equal unequal : List ℕ)
    (equal_atoms : (id : ℕ) → Contains equal id → Contains (atoms c.nodes c.in_force) id) (unequal_atoms : (id : ℕ) → Contains unequal id → Contains (atoms c.nodes c.in_force) id) where
  abbrev xs : List ℕ
  xs = node_variables c.nodes c.in_force ++ range_with_len (length c.nodes + length equal) (length unequal)

  all_rise : IsStrictlyIncreasing (node_variables c.nodes c.in_force ++ range_with_len (length c.nodes + length equal) (length unequal))
  all_rise =
      rises_with_range (node_variables c.nodes c.in_force) (length c.nodes + length equal) (length unequal) (variables_rise c valid)
      (λ x has. let less = variables_inside c valid x has in omega (arith, less))

  atom_each : (id : ℕ) → Contains (atoms c.nodes c.in_force) id → IsAtomUsable p c.nodes (node_variables c.nodes c.in_force ++ range_with_len (length c.nodes + length equal) (length unequal)) id
  atom_each id has = (
    atom_usable c valid p field limit id has,
    λ x of variable. Contains-append_left (node_variables c.nodes c.in_force) (range_with_len (length c.nodes + length equal) (length unequal)) x (variable_listed c valid p field id has x of variable),
  )

  all_listed : AreListed p c.nodes (node_variables c.nodes c.in_force ++ range_with_len (length c.nodes + length equal) (length unequal)) (length c.nodes) (literals_of equal unequal) (degrees_of c.nodes equal unequal)
  all_listed =
      equations_listed p c.nodes valid.table positive xs all_rise (length c.nodes) equal (map plus unequal) (map (λ id. degree_at c.nodes id + 1) unequal)
      (recursion_from_All (IsAtomUsable p c.nodes xs) equal (all_each (IsAtomUsable p c.nodes xs) equal (λ id has. atom_each id (equal_atoms id has))))
      (disequations_listed p c.nodes valid.table positive xs all_rise (length c.nodes + length equal) unequal
      (recursion_from_All (IsAtomUsable p c.nodes xs) unequal (all_each (IsAtomUsable p c.nodes xs) unequal (λ id has. atom_each id (unequal_atoms id has))))
      (λ v low high. in_range (node_variables c.nodes c.in_force) (length c.nodes + length equal) (length unequal) v low high))

  all_usable : All (λ l. IsUsable p c.nodes l.1) (literals_of equal unequal)
  all_usable =
      literals_each (λ l. IsUsable p c.nodes l.1) equal unequal
      (all_each (IsUsable p c.nodes) equal (λ id has. atom_usable c valid p field limit id (equal_atoms id has)))
      (all_each (IsUsable p c.nodes) unequal (λ id has. atom_usable c valid p field limit id (unequal_atoms id has)))

  constants_within : (flat : Bool) (own others : List ℕ) → 0 < length own → IfSome (constants_if flat own) (λ count. (0 < count) × (count ≤ length (own ++ others)))
  constants_within true own others some = (some, omega (arith, length-append own others))
  constants_within false own others some = tt

  pub is_choice : (flat : Bool) (lowest : ℕ) (x : Choice) → 0 < length (node_variables c.nodes c.in_force) → HasParts c.nodes (node_variables c.nodes c.in_force) equal unequal flat lowest x → IsChoice p c.nodes x
  is_choice flat lowest x some parts = record {
    table = valid.table;
    usable = subst (All (λ (l : Literal). IsUsable p c.nodes l.1)) (sym parts.literals) all_usable;
    rises = subst IsStrictlyIncreasing (sym parts.variables) all_rise;
    long = ap length parts.degrees ∙ length-degrees c.nodes equal unequal ∙ ap length (sym parts.literals);
    within = subst (λ (vs : List ℕ). (i : ℕ) → i < length x.literals.items → All (λ t. Contains (monomials (get_or x.degrees.items i 0) vs) t.1) (get_or (first_lines c.nodes p x.literals.items) i [])) (sym parts.variables)
        (subst (λ (es : List ℕ). (i : ℕ) → i < length x.literals.items → All (λ t. Contains (monomials (get_or es i 0) xs) t.1) (get_or (first_lines c.nodes p x.literals.items) i [])) (sym parts.degrees)
        (subst (λ (ls : List Literal). (i : ℕ) → i < length ls → All (λ t. Contains (monomials (get_or (degrees_of c.nodes equal unequal) i 0) xs) t.1) (get_or (first_lines c.nodes p ls) i [])) (sym parts.literals)
        (λ i inside. All-from_recursion (λ t. Contains (monomials (get_or (degrees_of c.nodes equal unequal) i 0) xs) t.1) (get_or (first_lines c.nodes p (literals_of equal unequal)) i [])
        (listed_at p c.nodes xs (length c.nodes) (literals_of equal unequal) (degrees_of c.nodes equal unequal) i all_listed inside))));
    bound = parts.bound;
    least = parts.least;
    constants = subst (λ (o : Option ℕ). IfSome o (λ count. (0 < count) × (count ≤ length x.variables.items))) (sym parts.constants)
        (subst (λ (vs : List ℕ). IfSome (constants_if flat (node_variables c.nodes c.in_force)) (λ count. (0 < count) × (count ≤ length vs))) (sym parts.variables)
        (constants_within flat (node_variables c.nodes c.in_force) (range_with_len (length c.nodes + length equal) (length unequal)) some));
  }

  -- ---- the lemma

  usable_within : (id : ℕ) → IsUsable p c.nodes id → is_within limits c.nodes id ≡ true
  usable_within id u = ap₂ (λ a b. cond a false (cond b false true)) (le-ltb 255 (degree_at c.nodes id) u.low) (le-ltb 65536 (length_at c.nodes id) u.short)

  pub is_denied : (literals : List Literal) (reasons : List Reason) → AreAllForced c literals reasons → 0 < length (node_variables c.nodes c.in_force)
      → ((id : ℕ) → Contains equal id → IsForced c (plus id)) → ((id : ℕ) → Contains unequal id → IsForced c (minus id))
      → (lits : List Literal) → lits ≡ literals_of equal unequal → IsDenied c p reasons lits
  is_denied literals reasons all some equal_forced unequal_forced lits is =
      let few = all.few in
      subst (IsDenied c p reasons) (sym is) (record {
        few = omega (arith, few);
        forced = reverse literals;
        forces = all.forces;
        lemma = record {
          order = order_known c valid p field some;
          equalities = All-weaker (λ l. IsUsable p c.nodes l.1) (λ l. is_equality_at c.nodes p l.1 ≡ true) (λ l u. u.equality) (literals_of equal unequal) all_usable;
          within = All-weaker (λ l. IsUsable p c.nodes l.1) (λ l. is_within limits c.nodes l.1 ≡ true) (λ l u. usable_within l.1 u) (literals_of equal unequal) all_usable;
          false_of = literals_each (λ l. is_among (reverse literals) (negated l) ≡ true) equal unequal
              (all_each (λ id. is_among (reverse literals) (plus id) ≡ true) equal (λ id has. forced_among c valid literals reasons all (plus id) (equal_forced id has)))
              (all_each (λ id. is_among (reverse literals) (minus id) ≡ true) unequal (λ id has. forced_among c valid literals reasons all (minus id) (unequal_forced id has)));
        };
      })

-- the parts of a choice of the check
choice_of : (c : NodeCheck) (equal unequal : List ℕ) (flat : Bool) (lowest : ℕ) (x : Choice) → flat ≡ is_flat c → HasParts c.nodes (node_variables c.nodes c.in_force) equal unequal flat lowest x → IsChoiceOf c equal unequal x
choice_of c equal unequal flat lowest x is parts = record {
  literals = parts.literals;
  variables = parts.variables;
  degrees = parts.degrees;
  constants = parts.constants ∙ ap (λ b. constants_if b (node_variables c.nodes c.in_force)) is;
}

-- a check has no more nodes than its table
cone_short : (nodes : List Node) (ids : List ℕ) → length (cone nodes ids) ≤ length nodes
unfolding cone
cone_short nodes ids =
    let test = λ (id : ℕ). is_listed (reached ids 0 nodes) id || is_equality_among nodes (reached ids 0 nodes) id in
    omega (arith, length-filter test (range_with_len 0 (length nodes)), count_by-le-length test (range_with_len 0 (length nodes)), length-range_with_len 0 (length nodes))

-- ---- the choices of all that is forced

module _ (c : NodeCheck) (valid : IsValid c) (p : ℕ) (positive : 0 < p) (field : has_order c.nodes c.in_force p ≡ true) (limit : IsWithinLimits c) (literals : List Literal) (reasons : List Reason) (all : AreAllForced c literals reasons)
    (equal unequal : List ℕ) (equal_is : equal ≡ filter (is_forced_equality c.nodes literals true) (cone c.nodes c.in_force)) (unequal_is : unequal ≡ filter (is_forced_equality c.nodes literals false) (cone c.nodes c.in_force)) where
  forced : AreForcedEqualities c equal unequal
  forced =
      subst (λ (ids : List ℕ). AreForcedEqualities c ids unequal) (sym equal_is)
      (subst (λ (ids : List ℕ). AreForcedEqualities c (filter (is_forced_equality c.nodes literals true) (cone c.nodes c.in_force)) ids) (sym unequal_is) (forced_are c valid literals reasons all))

  atom_low : (id : ℕ) → Contains (atoms c.nodes c.in_force) id → IsLow c.nodes id
  atom_low id has =
      let u = atom_usable c valid p field limit id has in
      record { inside = cone_inside c valid id (Contains-from_filter (λ x. is_equality (node_at c.nodes x)) (cone c.nodes c.in_force) id has).0; low = u.low }

  pub equal_low : All (IsLow c.nodes) equal
  equal_low = all_each (IsLow c.nodes) equal (λ id has. atom_low id ((forced.equal_are id).0 has).0)

  pub unequal_low : All (IsLow c.nodes) unequal
  unequal_low = all_each (IsLow c.nodes) unequal (λ id has. atom_low id ((forced.unequal_are id).0 has).0)

  pub few : length equal + length unequal ≤ 2097152
  few =
      let one = length-filter (is_forced_equality c.nodes literals true) (cone c.nodes c.in_force) in
      let two = length-filter (is_forced_equality c.nodes literals false) (cone c.nodes c.in_force) in
      let most = valid.table.well_formed.within in
      omega (
        arith,
        ap length equal_is,
        ap length unequal_is,
        one,
        two,
        count_by-le-length (is_forced_equality c.nodes literals true) (cone c.nodes c.in_force),
        count_by-le-length (is_forced_equality c.nodes literals false) (cone c.nodes c.in_force),
        cone_short c.nodes c.in_force,
        most,
      )

  module _ (some : 0 < length (node_variables c.nodes c.in_force)) (flat : Bool) (flat_is : flat ≡ is_flat c) (lowest : ℕ) (lowest_is : IsGreatestDegree c.nodes unequal lowest) where
    denied_choice : (other : List ℕ) → ((id : ℕ) → Contains other id → Contains (atoms c.nodes c.in_force) id × IsForced c (minus id)) → (x : Choice) → HasParts c.nodes (node_variables c.nodes c.in_force) equal other flat lowest x → IsDeniedChoice c p reasons x
    denied_choice other are x parts = record {
      choice = is_choice c valid p positive field limit equal other (λ id has. ((forced.equal_are id).0 has).0) (λ id has. (are id has).0) flat lowest x some parts;
      denied = is_denied c valid p positive field limit equal other (λ id has. ((forced.equal_are id).0 has).0) (λ id has. (are id has).0) literals reasons all some
          (λ id has. ((forced.equal_are id).0 has).1) (λ id has. (are id has).1) x.literals.items parts.literals;
    }

    in_field : IsInField c p
    in_field = record { valid = valid; field = field; limit = limit; some = some }

    has_lowest : (n : ℕ) → n ≡ lowest → IsGreatestDegree c.nodes unequal n
    has_lowest n is = subst (IsGreatestDegree c.nodes unequal) (sym is) lowest_is

    first_denied : (x : Choice) → HasParts c.nodes (node_variables c.nodes c.in_force) equal [] flat lowest x → IsDeniedChoice c p reasons x
    first_denied x parts = denied_choice [] (λ id has. absurd (nothing_in id has)) x parts

    pub only_equations : (x : Choice) → HasParts c.nodes (node_variables c.nodes c.in_force) equal [] flat lowest x → unequal ≡ [] → AreChoicesOf c p reasons (record { equations = x; all = None })
    only_equations x parts none = record {
      check = in_field;
      equal = equal;
      unequal = unequal;
      forced = forced;
      first = choice_of c equal [] flat lowest x flat_is parts;
      second = none;
      first_denied = first_denied x parts;
      second_denied = tt;
      first_lowest = has_lowest x.lowest parts.lowest;
      second_lowest = tt;
    }

    pub both_choices : (x y : Choice) → HasParts c.nodes (node_variables c.nodes c.in_force) equal [] flat lowest x → HasParts c.nodes (node_variables c.nodes c.in_force) equal unequal flat lowest y → 0 < length unequal
        → AreChoicesOf c p reasons (record { equations = x; all = Some y })
    both_choices x y parts more there = record {
      check = in_field;
      equal = equal;
      unequal = unequal;
      forced = forced;
      first = choice_of c equal [] flat lowest x flat_is parts;
      second = (there, choice_of c equal unequal flat lowest y flat_is more);
      first_denied = first_denied x parts;
      second_denied = denied_choice unequal (λ id has. (forced.unequal_are id).0 has) y more;
      first_lowest = has_lowest x.lowest parts.lowest;
      second_lowest = has_lowest y.lowest more.lowest;
    }
