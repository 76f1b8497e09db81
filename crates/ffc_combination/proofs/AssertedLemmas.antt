-- In a conjunction all that is asserted is forced.
use Rattle.std.proofs.Common.{inl, inr, ◌≡◌, ℕ, suc, ◌+◌, Bool, true, false, cond, List, [], ◌∷◌, ◌++◌, length, map, Contains, None, Some, refl, sym, ap, subst, arith, slice_get}
use Rattle.std.specs.List.{flat_map, range_with_len}
use Rattle.std.proofs.lemmas.Bool.{false≢true}
use Rattle.std.proofs.lemmas.List.Elements.{Contains-append_left, Contains-append_right, Contains-append_cases}
use Rattle.ffc_bounds.specs.Combinations.{AreForcedEqualities}
use Rattle.ffc_bounds.specs.Conjunctions.{conjuncts, asserted_from, asserted, equations, negated_node, disequations}
use Rattle.ffc_bounds.specs.Forced.{check_clauses, scheme_clauses_at, IsForced}
use Rattle.ffc_clause.specs.Clauses.{Clause, Literal, plus, minus, negated}
use Rattle.ffc_clause.specs.Propagation.Propagates.{unit}
use Rattle.ffc_macaulay.proofs.MemberLemmas.{contains_cases, contains_none}
use Rattle.ffc_rules.proofs.ConeLemmas.{Contains-from_listed}
use Rattle.ffc_rules.proofs.StepLemmas.{listed_cases}
use Rattle.ffc_rules.specs.Cones.{cone, is_equality, is_listed}
use Rattle.ffc_rules.specs.Entries.{NodeCheck}
use Rattle.ffc_rules.specs.Laws.{IsValid}
use Rattle.ffc_rules.specs.Schemes.{schemes, schemes_at}
use Rattle.ffc_term.proofs.ListLemmas.{Contains-filter, Contains-from_filter}
use Rattle.ffc_term.specs.declared.node.Node.{Node}
use Rattle.ffc_term.specs.declared.node.Node.TheVariants.{Not, And}
use Rattle.ffc_term.specs.Nodes.{IsNodeAt, children, node_at}
use Rattle.ffc_combination.proofs.ForcedLemmas.{active_in_cone, child_in_cone, node_in_cone}

-- ---- lists of lists

Contains-flat : {A B : Type 0} (f : A → List B) (xs : List A) (x : A) (y : B) → Contains xs x → Contains (f x) y → Contains (flat_map f xs) y
Contains-flat f [] x y has of = absurd (contains_none x has)
Contains-flat f (z ∷ xs) x y has of = elim (contains_cases z xs x has) as (λ _. Contains (flat_map f (z ∷ xs)) y) [
  | inl here ↦ Contains-append_left (f z) (flat_map f xs) y (subst (λ w. Contains (f w) y) (sym here) of)
  | inr later ↦ Contains-append_right (f z) (flat_map f xs) y (Contains-flat f xs x y later of)
]

-- the element whose list has this one
record IsOfFlat {A B : Type 0} (f : A → List B) (xs : List A) (y : B) : Type 0 where
  from : A
  there : Contains xs from
  has : Contains (f from) y

of_flat : {A B : Type 0} (f : A → List B) (xs : List A) (y : B) → Contains (flat_map f xs) y → IsOfFlat f xs y
of_flat f [] y has = absurd (contains_none y has)
of_flat f (x ∷ xs) y has = elim (Contains-append_cases (f x) (flat_map f xs) y has) as (λ _. IsOfFlat f (x ∷ xs) y) [
  | inl here ↦ record { from = x; there = (0, omega arith, refl); has = here }
  | inr later ↦ let found = of_flat f xs y later in record { from = found.from; there = Contains-append_right (x ∷ []) xs found.from found.there; has = found.has }
]

pub in_mapped : {A B : Type 0} (f : A → B) (xs : List A) (x : A) → Contains xs x → Contains (map f xs) (f x)
in_mapped f [] x has = absurd (contains_none x has)
in_mapped f (y ∷ xs) x has = elim (contains_cases y xs x has) as (λ _. Contains (map f (y ∷ xs)) (f x)) [
  | inl here ↦ (0, omega arith, ap f here)
  | inr later ↦ Contains-append_right (f y ∷ []) (map f xs) (f x) (in_mapped f xs x later)
]

-- ---- the nodes of a conjunction

-- these nodes are those of the table from the number k on
abbrev IsPart : List Node → ℕ → List Node → Type 0
IsPart ns k part = (i : ℕ) (n : Node) → slice_get part i ≡ Some n → IsNodeAt ns (k + i) n

part_next : (ns : List Node) (k : ℕ) (n : Node) (part : List Node) → IsPart ns k (n ∷ part) → IsPart ns (k + 1) part
part_next ns k n part is i m at = let e : k + suc i ≡ k + 1 + i = omega arith in subst (λ j. IsNodeAt ns j m) e (is (suc i) m at)

part_first : (ns : List Node) (k : ℕ) (n : Node) (part : List Node) → IsPart ns k (n ∷ part) → IsNodeAt ns k n
part_first ns k n part is = let e : k + 0 ≡ k = omega arith in subst (λ j. IsNodeAt ns j n) e (is 0 n refl)

-- what holds of listed nodes, and of the parts of a conjunction of which it holds, holds of all that is asserted
each_asserted : (P : ℕ → Type 0) (ns : List Node) (ids : List ℕ) → ((j : ℕ) → is_listed ids j ≡ true → P j) → ((k : ℕ) (n : Node) → IsNodeAt ns k n → P k → (j : ℕ) → is_listed (conjuncts n) j ≡ true → P j)
    → (k : ℕ) (part : List Node) → IsPart ns k part → (j : ℕ) → is_listed (asserted_from ids k part) j ≡ true → P j
unfolding asserted_from
each_asserted P ns ids first parts k [] is j has = first j has
each_asserted P ns ids first parts k (n ∷ part) is j has =
    by_case (each_asserted P ns ids first parts (k + 1) part (part_next ns k n part is)) (is_listed (asserted_from ids (k + 1) part) k) refl has
  where
    by_case : ((i : ℕ) → is_listed (asserted_from ids (k + 1) part) i ≡ true → P i) → (b : Bool) → is_listed (asserted_from ids (k + 1) part) k ≡ b
        → is_listed (cond b (conjuncts n ++ asserted_from ids (k + 1) part) (asserted_from ids (k + 1) part)) j ≡ true → P j
    by_case above true e now = elim (listed_cases (conjuncts n) (asserted_from ids (k + 1) part) j now) as (λ _. P j) [
      | inl own ↦ parts k n (part_first ns k n part is) (above k e) j own
      | inr was ↦ above j was
    ]
    by_case above false e now = above j now

-- what negates a node is its negation
negation_is : (n : Node) (a : ℕ) → Contains (negated_node n) a → n ≡ Not a
negation_is (Not b) a has = elim (contains_cases b [] a has) as (λ _. Not b ≡ Not a) [
  | inl here ↦ ap Not here
  | inr later ↦ absurd (contains_none a later)
]
negation_is _ a has = absurd (contains_none a has)

part_child : (n : Node) (j : ℕ) → is_listed (conjuncts n) j ≡ true → Contains (children n) j
part_child (And xs) j mine = Contains-from_listed xs j mine
part_child _ j mine = absurd (false≢true mine)

-- ---- clauses

module _ (c : NodeCheck) where
  -- of a clause of two literals that is one of the check's, the second is forced where the negation of the first is
  forced_by_two : (l m : Literal) → Contains (check_clauses c) (l ∷ m ∷ []) → IsForced c (negated l) → IsForced c m
  forced_by_two l m has first =
      unit (l ∷ m ∷ []) has (1, omega arith, refl)
      (λ k of other. elim (contains_cases l (m ∷ []) k of) as (λ _. IsForced c (negated k)) [
        | inl here ↦ subst (λ j. IsForced c (negated j)) here first
        | inr later ↦
            elim (contains_cases m [] k later) as (λ _. IsForced c (negated k)) [
              | inl same ↦ absurd (other (sym same))
              | inr none ↦ absurd (contains_none k none)
            ]
      ])

  -- the clauses of the schemes of a node of the check
  scheme_listed : (k : ℕ) (clauses : List Clause) (clause : Clause) → Contains (cone c.nodes c.in_force) k → Contains (schemes_at c.nodes k) clauses → Contains clauses clause → Contains (check_clauses c) clause
  scheme_listed k clauses clause in_cone there has =
      Contains-append_right (map (λ id. plus id ∷ []) c.in_force) (flat_map (scheme_clauses_at c) (cone c.nodes c.in_force)) clause
      (Contains-flat (scheme_clauses_at c) (cone c.nodes c.in_force) k clause in_cone (Contains-flat (λ (cs : List Clause). cs) (schemes_at c.nodes k) clauses clause there has))

  schemes_are : (k : ℕ) (n : Node) → IsNodeAt c.nodes k n → schemes_at c.nodes k ≡ schemes k n
  schemes_are k n at = ap (λ o. elim o [ None ↦ [] | Some m ↦ schemes k m ]) at

  assertion_forced : (id : ℕ) → Contains c.in_force id → IsForced c (plus id)
  assertion_forced id has =
      unit (plus id ∷ [])
      (Contains-append_left (map (λ (j : ℕ). plus j ∷ []) c.in_force) (flat_map (scheme_clauses_at c) (cone c.nodes c.in_force)) (plus id ∷ []) (in_mapped (λ (j : ℕ). plus j ∷ []) c.in_force id has))
      (0, omega arith, refl)
      (λ k of other. elim (contains_cases (plus id) [] k of) as (λ _. IsForced c (negated k)) [
        | inl same ↦ absurd (other (sym same))
        | inr none ↦ absurd (contains_none k none)
      ])

  part_forced : (k j : ℕ) (xs : List ℕ) → IsNodeAt c.nodes k (And xs) → Contains (cone c.nodes c.in_force) k → IsForced c (plus k) → Contains xs j → IsForced c (plus j)
  part_forced k j xs at in_cone forced has =
      let clauses : List Clause = map (λ (a : ℕ). minus k ∷ plus a ∷ []) xs in
      forced_by_two (minus k) (plus j)
      (scheme_listed k clauses (minus k ∷ plus j ∷ []) in_cone (subst (λ ss. Contains ss clauses) (sym (schemes_are k (And xs) at)) (0, omega arith, refl)) (in_mapped (λ (a : ℕ). minus k ∷ plus a ∷ []) xs j has))
      forced

  negation_forced : (k a : ℕ) → IsNodeAt c.nodes k (Not a) → Contains (cone c.nodes c.in_force) k → IsForced c (plus k) → IsForced c (minus a)
  negation_forced k a at in_cone forced =
      let clauses : List Clause = (minus k ∷ minus a ∷ []) ∷ [] in
      forced_by_two (minus k) (minus a)
      (scheme_listed k clauses (minus k ∷ minus a ∷ []) in_cone (subst (λ ss. Contains ss clauses) (sym (schemes_are k (Not a) at)) (1, omega arith, refl)) (0, omega arith, refl))
      forced

  module _ (valid : IsValid c) where
    -- in the cone, and forced
    abbrev IsForcedNode : ℕ → Type 0
    IsForcedNode id = Contains (cone c.nodes c.in_force) id × IsForced c (plus id)

    parts_forced : (k : ℕ) (n : Node) → IsNodeAt c.nodes k n → IsForcedNode k → (j : ℕ) → is_listed (conjuncts n) j ≡ true → IsForcedNode j
    parts_forced k n at (in_cone, forced) j own = (child_in_cone c valid k j n in_cone at (part_child n j own), by_node n at own)
      where
        by_node : (m : Node) → IsNodeAt c.nodes k m → is_listed (conjuncts m) j ≡ true → IsForced c (plus j)
        by_node (And xs) there mine = part_forced k j xs there in_cone forced (Contains-from_listed xs j mine)
        by_node _ there mine = absurd (false≢true mine)

    asserted_forced : (id : ℕ) → Contains (asserted c.nodes c.in_force) id → IsForcedNode id
    unfolding asserted
    asserted_forced id has =
        each_asserted IsForcedNode c.nodes c.in_force
        (λ j is. let among = Contains-from_listed c.in_force j is in (active_in_cone c valid j among, assertion_forced j among))
        parts_forced 0 c.nodes (λ i n at. let e : i ≡ 0 + i = omega arith in subst (λ j. IsNodeAt c.nodes j n) e at) id
        (Contains-from_filter (λ j. is_listed (asserted_from c.in_force 0 c.nodes) j) (range_with_len 0 (length c.nodes)) id has).1

    -- the equations are among the equalities that are forced
    pub equation_forced : (equal unequal : List ℕ) → AreForcedEqualities c equal unequal → (id : ℕ) → Contains (equations c.nodes c.in_force) id → Contains equal id
    equation_forced equal unequal forced id has =
        let was = Contains-from_filter (λ j. is_equality (node_at c.nodes j)) (asserted c.nodes c.in_force) id has in
        let here = asserted_forced id was.0 in
        (forced.equal_are id).1 (Contains-filter (λ j. is_equality (node_at c.nodes j)) (cone c.nodes c.in_force) id here.0 was.1, here.1)

    -- and the disequations are among those whose negations are
    pub disequation_forced : (equal unequal : List ℕ) → AreForcedEqualities c equal unequal → (id : ℕ) → Contains (disequations c.nodes c.in_force) id → Contains unequal id
    disequation_forced equal unequal forced id has =
        let denied = λ (j : ℕ). negated_node (node_at c.nodes j) in
        let was = Contains-from_filter (λ j. is_equality (node_at c.nodes j)) (flat_map denied (asserted c.nodes c.in_force)) id has in
        let found = of_flat denied (asserted c.nodes c.in_force) id was.0 in
        let k = found.from in
        let here = asserted_forced k found.there in
        let at : IsNodeAt c.nodes k (Not id) = subst (IsNodeAt c.nodes k) (negation_is (node_at c.nodes k) id found.has) (node_in_cone c valid k here.0) in
        let child = child_in_cone c valid k id (Not id) here.0 at (0, omega arith, refl) in
        (forced.unequal_are id).1 (Contains-filter (λ j. is_equality (node_at c.nodes j)) (cone c.nodes c.in_force) id child was.1, negation_forced k id at here.0 here.1)
