-- The literals that are tested under the values of constants.
use Rattle.std.proofs.Common.{arith, inl, inr, ◌≡◌, ◌⊎◌, ℕ, ◌+◌, ◌<◌, ◌≤◌, false, List, [], ◌++◌, length, map, get_or, All, Contains, sym, ap, ◌∙◌, subst, append-nil}
use Rattle.std.proofs.lemmas.List.{get_or_append_left}
use Rattle.std.proofs.lemmas.List.Elements.{All-contains, Contains-append_left, Contains-get_or}
use Rattle.ffc_bounds.specs.Combinations.{literals_of}
use Rattle.ffc_clause.specs.Clauses.{Literal, plus, minus}
use Rattle.ffc_refutation.specs.declared.reason.Reason.{Reason}
use Rattle.ffc_rules.specs.Cones.{atoms, cone, is_equality}
use Rattle.ffc_rules.specs.Entries.{NodeCheck}
use Rattle.ffc_term.proofs.ListLemmas.{Contains-from_filter}
use Rattle.ffc_term.specs.Measuring.{degree_at}
use Rattle.ffc_term.specs.Nodes.{node_at}
use Rattle.ffc_combination.specs.declared.choices.Choice.{Choice}
use Rattle.ffc_combination.specs.Search.{IsChosen}
use Rattle.ffc_combination.specs.Values.{literal_at}
use Rattle.ffc_combination.proofs.AssertedLemmas.{in_mapped}
use Rattle.ffc_combination.proofs.ChoiceLemmas.{literals_each}

-- ---- literals

pub each_of : {X : Type 0} (P : X → Type 0) (xs : List X) → ((x : X) → Contains xs x → P x) → All P xs
each_of P xs f k d below = f (get_or xs k d) (Contains-get_or xs k d below)

-- some literals with others after them
pub record IsPrefix (own tested : List Literal) : Type 0 where
  pub rest : List Literal
  pub parts : tested ≡ own ++ rest

prefix_of : (equal unequal other : List ℕ) → (other ≡ []) ⊎ (other ≡ unequal) → IsPrefix (literals_of equal other) (literals_of equal unequal)
prefix_of equal unequal other (inl none) = record {
  rest = map plus unequal;
  parts = ap (λ (ls : List Literal). ls ++ map plus unequal) (sym (append-nil (map minus equal))) ∙ ap (λ (ids : List ℕ). literals_of equal ids ++ map plus unequal) (sym none);
}
prefix_of equal unequal other (inr all) = record { rest = []; parts = ap (literals_of equal) (sym all) ∙ sym (append-nil (literals_of equal other)) }

pub chosen_prefix : (c : NodeCheck) (p d : ℕ) (reasons : List Reason) (x : Choice) (tested : List Literal) → IsChosen c p d reasons x tested → IsPrefix x.literals.items tested
chosen_prefix c p d reasons x tested chosen =
    let found = prefix_of chosen.equal chosen.unequal chosen.other chosen.other_is in
    record { rest = found.rest; parts = chosen.tested_are ∙ found.parts ∙ ap (λ (ls : List Literal). ls ++ found.rest) (sym chosen.choice.literals) }

-- the literals of a choice are the first of those that are tested
pub first_tested : (c : NodeCheck) (p d : ℕ) (reasons : List Reason) (x : Choice) (tested : List Literal) → IsChosen c p d reasons x tested → (i : ℕ) → i < length x.literals.items → literal_at tested i ≡ literal_at x.literals.items i
first_tested c p d reasons x tested chosen i inside =
    let found = chosen_prefix c p d reasons x tested chosen in
    ap (λ (ls : List Literal). literal_at ls i) found.parts ∙ get_or_append_left x.literals.items found.rest (false, 0) i inside

-- a literal that is tested is on an equality of the check, of no higher degree than the degree
pub record IsTested (c : NodeCheck) (d : ℕ) (l : Literal) : Type 0 where
  pub atom : Contains (atoms c.nodes c.in_force) l.1
  pub low : degree_at c.nodes l.1 ≤ d

pub tested_each : (c : NodeCheck) (p d : ℕ) (reasons : List Reason) (x : Choice) (tested : List Literal) → (chosen : IsChosen c p d reasons x tested) → All (λ e. e ≤ d) x.degrees.items → x.lowest ≤ d → All (IsTested c d) tested
tested_each c p d reasons x tested chosen low above =
    subst (All (IsTested c d)) (sym chosen.tested_are)
    (literals_each (IsTested c d) chosen.equal chosen.unequal
    (each_of (λ id. IsTested c d (minus id)) chosen.equal
    (λ id has. record {
      atom = ((chosen.forced.equal_are id).0 has).0;
      low = All-contains (λ e. e ≤ d) x.degrees.items (degree_at c.nodes id) low
          (subst (λ es. Contains es (degree_at c.nodes id)) (sym chosen.choice.degrees)
          (Contains-append_left (map (degree_at c.nodes) chosen.equal) (map (λ j. degree_at c.nodes j + 1) chosen.other) (degree_at c.nodes id) (in_mapped (degree_at c.nodes) chosen.equal id has)));
    }))
    (each_of (λ id. IsTested c d (plus id)) chosen.unequal
    (λ id has. record {
      atom = ((chosen.forced.unequal_are id).0 has).0;
      low = (let most = All-contains (λ j. degree_at c.nodes j ≤ x.lowest) chosen.unequal id chosen.lowest.bound has in omega (arith, most, above));
    })))

-- each literal that is tested is on a node of the check
pub tested_in_cone : (c : NodeCheck) (p d : ℕ) (reasons : List Reason) (x : Choice) (tested : List Literal) → IsChosen c p d reasons x tested → All (λ l. Contains (cone c.nodes c.in_force) l.1) tested
tested_in_cone c p d reasons x tested chosen =
    let in_cone : (id : ℕ) → Contains (atoms c.nodes c.in_force) id → Contains (cone c.nodes c.in_force) id = λ id has. (Contains-from_filter (λ j. is_equality (node_at c.nodes j)) (cone c.nodes c.in_force) id has).0 in
    subst (All (λ (l : Literal). Contains (cone c.nodes c.in_force) l.1)) (sym chosen.tested_are)
    (literals_each (λ l. Contains (cone c.nodes c.in_force) l.1) chosen.equal chosen.unequal
    (each_of (λ id. Contains (cone c.nodes c.in_force) id) chosen.equal (λ id has. in_cone id ((chosen.forced.equal_are id).0 has).0))
    (each_of (λ id. Contains (cone c.nodes c.in_force) id) chosen.unequal (λ id has. in_cone id ((chosen.forced.unequal_are id).0 has).0)))
