-- A conjunction is true where its equations are true and the equalities of its disequations are false.
use Rattle.std.proofs.Common.{inl, inr, ◌≡◌, ℕ, zero, suc, ◌+◌, ◌<◌, not, Bool, true, false, cond, List, [], ◌∷◌, ◌++◌, length, get_or, All, Contains, Some, refl, sym, ap, ◌∙◌, subst, arith, slice_get}
use Rattle.std.specs.List.{range_with_len, flat_map}
use Rattle.std.proofs.lemmas.Bool.{false≢true, cases_lt}
use Rattle.std.proofs.lemmas.List.Elements.{All-contains, Contains-get_or, Contains-append_left, Contains-append_right}
use Rattle.std.proofs.lemmas.List.Sums.{AllPass-from_list_all, list_all-from_AllPass}
use Rattle.std.proofs.lemmas.Option.{slice_get_within}
use Rattle.ffc_bounds.specs.Conjunctions.{conjuncts, asserted_from, asserted, is_plain, is_conjunction, equations, negated_node, disequations}
use Rattle.ffc_rules.specs.Clauses.{AreTrue}
use Rattle.ffc_rules.specs.Cones.{is_listed, is_equality}
use Rattle.ffc_rules.proofs.AssignmentLemmas.{node_at-is}
use Rattle.ffc_rules.proofs.ConeLemmas.{listed-from_Contains, Contains-from_listed, Contains-range}
use Rattle.ffc_rules.proofs.StepLemmas.{listed_left, listed_right}
use Rattle.ffc_term.specs.declared.node.Node.{Node}
use Rattle.ffc_term.specs.declared.node.Node.TheVariants.{True, Not, And, Eq}
use Rattle.ffc_term.specs.declared.value.Value.{Value}
use Rattle.ffc_term.specs.declared.value.Value.TheVariants as value
use Rattle.ffc_term.specs.Nodes.{IsNodeAt, children, node_at}
use Rattle.ffc_term.specs.Tables.{IsTable}
use Rattle.ffc_term.specs.Values.{values, value_at, truth, truth_in}
use Rattle.ffc_term.proofs.ListLemmas.{Contains-filter, nothing_in}
use Rattle.ffc_term.proofs.ValueLemmas.{value_at-is}
use Rattle.ffc_term.proofs.WalkLemmas.{child_below}

Contains-flat_map : (f : ℕ → List ℕ) (xs : List ℕ) (x y : ℕ) → Contains xs x → Contains (f x) y → Contains (flat_map f xs) y
Contains-flat_map f [] x y has of = absurd (nothing_in x has)
Contains-flat_map f (z ∷ xs) x y (zero, inside, is) of = Contains-append_left (f z) (flat_map f xs) y (subst (λ w. Contains (f w) y) (sym is) of)
Contains-flat_map f (z ∷ xs) x y (suc k, inside, is) of =
    Contains-append_right (f z) (flat_map f xs) y (Contains-flat_map f xs x y (k, omega arith, is) of)

-- these nodes are those of the table from the number k on
abbrev IsPart : List Node → ℕ → List Node → Type 0
IsPart ns k part = (i : ℕ) (n : Node) → slice_get part i ≡ Some n → IsNodeAt ns (k + i) n

part_next : (ns : List Node) (k : ℕ) (n : Node) (part : List Node) → IsPart ns k (n ∷ part) → IsPart ns (k + 1) part
part_next ns k n part is i m at = let e : k + suc i ≡ k + 1 + i = omega arith in subst (λ j. IsNodeAt ns j m) e (is (suc i) m at)

part_first : (ns : List Node) (k : ℕ) (n : Node) (part : List Node) → IsPart ns k (n ∷ part) → IsNodeAt ns k n
part_first ns k n part is = let e : k + 0 ≡ k = omega arith in subst (λ j. IsNodeAt ns j n) e (is 0 n refl)

-- what is asserted from later nodes on is asserted
asserted_before : (ids : List ℕ) (k : ℕ) (n : Node) (part : List Node) (j : ℕ) → is_listed (asserted_from ids (k + 1) part) j ≡ true → is_listed (asserted_from ids k (n ∷ part)) j ≡ true
unfolding asserted_from
asserted_before ids k n part j is = by_case (is_listed (asserted_from ids (k + 1) part) k)
  where
    by_case : (b : Bool) → is_listed (cond b (conjuncts n ++ asserted_from ids (k + 1) part) (asserted_from ids (k + 1) part)) j ≡ true
    by_case true = listed_right (conjuncts n) (asserted_from ids (k + 1) part) j is
    by_case false = is

-- and so is each part of an asserted node
part_asserted : (ids : List ℕ) (k : ℕ) (n : Node) (part : List Node) (j : ℕ) → is_listed (asserted_from ids (k + 1) part) k ≡ true → is_listed (conjuncts n) j ≡ true → is_listed (asserted_from ids k (n ∷ part)) j ≡ true
unfolding asserted_from
part_asserted ids k n part j is mine =
    ap (λ b. is_listed (cond b (conjuncts n ++ asserted_from ids (k + 1) part) (asserted_from ids (k + 1) part)) j) is
    ∙ listed_left (conjuncts n) (asserted_from ids (k + 1) part) j mine

part_child : (n : Node) (j : ℕ) → is_listed (conjuncts n) j ≡ true → Contains (children n) j
part_child (And xs) j mine = Contains-from_listed xs j mine
part_child _ j mine = absurd (false≢true mine)

module _ (ns : List Node) (ids : List ℕ) (table : IsTable ns) (T : ℕ → Type 0) where
  -- a node is true where its parts are
  abbrev IsTrueByParts : ℕ → Node → Type 0
  IsTrueByParts k n = ((j : ℕ) → is_listed (conjuncts n) j ≡ true → T j) → T k

  -- where each asserted node is true by its parts, and those below a number are true, the listed ones are
  listed_true : (k : ℕ) (part : List Node) → IsPart ns k part → k + length part ≡ length ns → All (λ id. id < length ns) ids
      → ((j : ℕ) (n : Node) → IsNodeAt ns j n → is_listed (asserted_from ids k part) j ≡ true → IsTrueByParts j n)
      → ((j : ℕ) → is_listed (asserted_from ids k part) j ≡ true → j < k → T j)
      → (j : ℕ) → is_listed ids j ≡ true → T j
  unfolding asserted_from
  listed_true k [] is long within by_parts below j has =
      let inside : j < length ns = All-contains (λ id. id < length ns) ids j within (Contains-from_listed ids j has) in
      below j has (omega arith)
  listed_true k (n ∷ part) is long within by_parts below j has =
      listed_true (k + 1) part (part_next ns k n part is) (omega arith) within
      (λ i m at listed. by_parts i m at (asserted_before ids k n part i listed)) next j has
    where
      here : is_listed (asserted_from ids (k + 1) part) k ≡ true → T k
      here listed =
          by_parts k n (part_first ns k n part is) (asserted_before ids k n part k listed)
          (λ i mine. below i (part_asserted ids k n part i listed mine) (child_below ns k i n table.well_formed (part_first ns k n part is) (part_child n i mine)))

      next : (i : ℕ) → is_listed (asserted_from ids (k + 1) part) i ≡ true → i < k + 1 → T i
      next i listed less =
          elim (cases_lt i k) as (λ _. T i) [
            | inl before ↦ below i (asserted_before ids k n part i listed) before
            | inr from ↦
                let same : i ≡ k = omega arith in
                subst T (sym same) (here (subst (λ x. is_listed (asserted_from ids (k + 1) part) x ≡ true) same listed))
          ]

module _ (ns : List Node) (ids : List ℕ) (A : List Value) (table : IsTable ns) where
  abbrev IsTrueAt : ℕ → Type 0
  IsTrueAt id = value_at ns A id ≡ value.Bool true

  abbrev IsFalseAt : ℕ → Type 0
  IsFalseAt id = value_at ns A id ≡ value.Bool false

  asserted_in : (k : ℕ) (n : Node) → IsNodeAt ns k n → is_listed (asserted_from ids 0 ns) k ≡ true → Contains (asserted ns ids) k
  unfolding asserted
  asserted_in k n at listed =
      Contains-filter (λ id. is_listed (asserted_from ids 0 ns) id) (range_with_len 0 (length ns)) k (Contains-range (length ns) k (slice_get_within ns k n at)) listed

  asserted_plain : (k : ℕ) (n : Node) → is_conjunction ns ids ≡ true → IsNodeAt ns k n → Contains (asserted ns ids) k → is_plain ns n ≡ true
  unfolding is_conjunction
  asserted_plain k n plain at has =
      ap (is_plain ns) (sym (node_at-is ns k n at))
      ∙ All-contains (λ id. is_plain ns (node_at ns id) ≡ true) (asserted ns ids) k (AllPass-from_list_all (λ id. is_plain ns (node_at ns id)) (asserted ns ids) plain) has

  denied_in : (k a : ℕ) → IsNodeAt ns k (Not a) → Contains (asserted ns ids) k → is_equality (node_at ns a) ≡ true → Contains (disequations ns ids) a
  denied_in k a at has is =
      let denied = λ (id : ℕ). negated_node (node_at ns id) in
      let own : Contains (denied k) a = subst (λ n. Contains (negated_node n) a) (sym (node_at-is ns k (Not a) at)) (0, omega arith, refl) in
      Contains-filter (λ id. is_equality (node_at ns id)) (flat_map denied (asserted ns ids)) a
      (Contains-flat_map denied (asserted ns ids) k a has own) is

  module _ (equal : All IsTrueAt (equations ns ids)) (unequal : All IsFalseAt (disequations ns ids)) where
    true_by_parts : (k : ℕ) (n : Node) → IsNodeAt ns k n → Contains (asserted ns ids) k → is_plain ns n ≡ true → ((j : ℕ) → is_listed (conjuncts n) j ≡ true → IsTrueAt j) → IsTrueAt k
    true_by_parts k True at has is parts = value_at-is ns A k True table.well_formed at
    true_by_parts k (And xs) at has is parts =
        value_at-is ns A k (And xs) table.well_formed at
        ∙ ap value.Bool (list_all-from_AllPass (truth_in (values ns A)) xs
        (λ i d inside. ap truth (parts (get_or xs i d) (listed-from_Contains xs (get_or xs i d) (Contains-get_or xs i d inside)))))
    true_by_parts k (Eq a b) at has is parts =
        All-contains IsTrueAt (equations ns ids) k equal
        (Contains-filter (λ id. is_equality (node_at ns id)) (asserted ns ids) k has (ap is_equality (node_at-is ns k (Eq a b) at)))
    true_by_parts k (Not a) at has is parts =
        value_at-is ns A k (Not a) table.well_formed at
        ∙ ap (λ v. value.Bool (not (truth v))) (All-contains IsFalseAt (disequations ns ids) a unequal (denied_in k a at has is))
    true_by_parts k _ at has is parts = absurd (false≢true is)

    pub conjunction_true : is_conjunction ns ids ≡ true → All (λ id. id < length ns) ids → AreTrue ns ids A
    conjunction_true plain within k d inside =
        listed_true ns ids table IsTrueAt 0 ns (λ i n at. let e : i ≡ 0 + i = omega arith in subst (λ j. IsNodeAt ns j n) e at)
        (let e : 0 + length ns ≡ length ns = omega arith in e) within
        (λ j n at listed parts. let has = asserted_in j n at listed in true_by_parts j n at has (asserted_plain j n plain at has) parts)
        (λ j listed below. absurd (omega arith))
        (get_or ids k d) (listed-from_Contains ids (get_or ids k d) (Contains-get_or ids k d inside))
