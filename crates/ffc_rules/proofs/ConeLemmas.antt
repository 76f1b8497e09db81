-- The nodes of a check are those that are found from the highest number down.
use Rattle.std.proofs.Common.{inl, inr, ◌⊎◌, ◌≡◌, ℕ, zero, suc, ◌+◌, ◌-◌, ◌<◌, ◌≤◌, ◌==◌, Bool, true, false, cond, ◌||◌, List, [], ◌∷◌, ◌++◌, length, All, Contains, Some, refl, sym, ap, ◌∙◌, subst, arith, slice_get}
use Rattle.std.specs.List.{range_with_len}
use Rattle.std.specs.List.Sorted.{IsStrictlyIncreasing}
use Rattle.std.proofs.lemmas.Bool.{false≢true, cases_lt, or_left, or_right, or_cases, eqb-true, eq-eqb}
use Rattle.std.proofs.lemmas.List.{get_or_past}
use Rattle.std.proofs.lemmas.List.Elements.{Contains-append_right}
use Rattle.std.proofs.lemmas.List.Kept.{IsStrictlyIncreasing-filter}
use Rattle.std.proofs.lemmas.List.FromFn.{get_or-range_with_len, length-range_with_len}
use Rattle.std.proofs.lemmas.Option.{slice_get-get_or, none-some, same_Some}
use Rattle.ffc_term.specs.declared.node.Node.{Node}
use Rattle.ffc_term.specs.declared.node.Node.TheVariants.{True, IteField, Eq}
use Rattle.ffc_term.specs.Nodes.{IsNodeAt, children, node_at}
use Rattle.ffc_term.specs.Tables.{IsTable, second_equality}
use Rattle.ffc_term.specs.Checks.{IsNodeOf, AreNodesOf}
use Rattle.ffc_term.specs.Checks.IsNodeOf.{listed, child, first, second}
use Rattle.ffc_term.proofs.ListLemmas.{Contains-filter, Contains-from_filter, nothing_in}
use Rattle.ffc_term.proofs.NodeLemmas.{IsNodeAt-unique}
use Rattle.ffc_term.proofs.WalkLemmas.{child_below, IsNodeOf-within}
use Rattle.ffc_rules.specs.Cones.{is_listed, reached, is_equality_of, is_equality_among, cone}
use Rattle.ffc_rules.proofs.StepLemmas.{listed_left, listed_right, listed_cases}
use Rattle.ffc_rules.proofs.AssignmentLemmas.{node_at-is}

-- between the test and membership
pub listed-from_Contains : (xs : List ℕ) (x : ℕ) → Contains xs x → is_listed xs x ≡ true
listed-from_Contains [] x has = absurd (nothing_in x has)
listed-from_Contains (y ∷ xs) x (zero, inside, is) = or_left (x == y) _ (eq-eqb x y (sym is))
listed-from_Contains (y ∷ xs) x (suc k, inside, is) = or_right (x == y) _ (listed-from_Contains xs x (k, omega arith, is))

pub Contains-from_listed : (xs : List ℕ) (x : ℕ) → is_listed xs x ≡ true → Contains xs x
Contains-from_listed [] x is = absurd (false≢true is)
Contains-from_listed (y ∷ xs) x is =
    elim (or_cases (x == y) (is_listed xs x) is) as (λ _. Contains (y ∷ xs) x) [
      | inl here ↦ (0, omega arith, sym (eqb-true x y here))
      | inr later ↦ Contains-append_right (y ∷ []) xs x (Contains-from_listed xs x later)
    ]

-- these nodes are those of the table from the number k on
abbrev IsPart : List Node → ℕ → List Node → Type 0
IsPart ns k part = (i : ℕ) (n : Node) → slice_get part i ≡ Some n → IsNodeAt ns (k + i) n

part_next : (ns : List Node) (k : ℕ) (n : Node) (part : List Node) → IsPart ns k (n ∷ part) → IsPart ns (k + 1) part
part_next ns k n part is i m at = let e : k + suc i ≡ k + 1 + i = omega arith in subst (λ j. IsNodeAt ns j m) e (is (suc i) m at)

part_first : (ns : List Node) (k : ℕ) (n : Node) (part : List Node) → IsPart ns k (n ∷ part) → IsNodeAt ns k n
part_first ns k n part is = let e : k + 0 ≡ k = omega arith in subst (λ j. IsNodeAt ns j n) e (is 0 n refl)

module _ (ns : List Node) (ids : List ℕ) where
  -- whatever is found is a node of the check
  reached_of : (k : ℕ) (part : List Node) → IsPart ns k part → (j : ℕ) → is_listed (reached ids k part) j ≡ true → IsNodeOf ns ids j
  unfolding reached
  reached_of k [] is j has = listed (Contains-from_listed ids j has)
  reached_of k (n ∷ part) is j has =
      by_case (is_listed (reached ids (k + 1) part) k) refl has (reached_of (k + 1) part (part_next ns k n part is))
    where
      by_case : (b : Bool) → is_listed (reached ids (k + 1) part) k ≡ b → is_listed (cond b (children n ++ reached ids (k + 1) part) (reached ids (k + 1) part)) j ≡ true → ((i : ℕ) → is_listed (reached ids (k + 1) part) i ≡ true → IsNodeOf ns ids i) → IsNodeOf ns ids j
      by_case true e now above =
          elim (listed_cases (children n) (reached ids (k + 1) part) j now) as (λ _. IsNodeOf ns ids j) [
            | inl mine ↦ child n (above k e) (part_first ns k n part is) (Contains-from_listed (children n) j mine)
            | inr before ↦ above j before
          ]
      by_case false e now above = above j now

  -- the listed ones are found
  ids_reached : (k : ℕ) (part : List Node) (j : ℕ) → is_listed ids j ≡ true → is_listed (reached ids k part) j ≡ true
  unfolding reached
  ids_reached k [] j has = has
  ids_reached k (n ∷ part) j has = by_case (is_listed (reached ids (k + 1) part) k) (ids_reached (k + 1) part j has)
    where
      by_case : (b : Bool) → is_listed (reached ids (k + 1) part) j ≡ true → is_listed (cond b (children n ++ reached ids (k + 1) part) (reached ids (k + 1) part)) j ≡ true
      by_case true above = listed_right (children n) (reached ids (k + 1) part) j above
      by_case false above = above

module _ (ns : List Node) (ids : List ℕ) (table : IsTable ns) where
  -- with each found node from a number on, its children are found
  children_reached : (k : ℕ) (part : List Node) → IsPart ns k part → (i : ℕ) (m : Node) (c : ℕ) → k ≤ i → slice_get part (i - k) ≡ Some m → is_listed (reached ids k part) i ≡ true → is_listed (children m) c ≡ true → is_listed (reached ids k part) c ≡ true
  unfolding reached
  children_reached k [] is i m c from at has mine = absurd (none-some m at)
  children_reached k (n ∷ part) is i m c from at has mine =
      by_case (is_listed (reached ids (k + 1) part) k) refl has (λ later. children_reached (k + 1) part (part_next ns k n part is) i m c later)
    where
      above : List ℕ
      above = reached ids (k + 1) part

      found : Bool → List ℕ
      found b = cond b (children n ++ reached ids (k + 1) part) (reached ids (k + 1) part)

      later_at : k + 1 ≤ i → slice_get part (i - (k + 1)) ≡ Some m
      later_at later = let e : i - k ≡ suc (i - (k + 1)) = omega arith in subst (λ j. slice_get (n ∷ part) j ≡ Some m) e at

      first_is : i ≤ k → n ≡ m
      first_is same = let e : i - k ≡ 0 = omega arith in same_Some n m (subst (λ j. slice_get (n ∷ part) j ≡ Some m) e at)

      by_case : (b : Bool) → is_listed (reached ids (k + 1) part) k ≡ b → is_listed (cond b (children n ++ reached ids (k + 1) part) (reached ids (k + 1) part)) i ≡ true
          → (k + 1 ≤ i → slice_get part (i - (k + 1)) ≡ Some m → is_listed (reached ids (k + 1) part) i ≡ true → is_listed (children m) c ≡ true → is_listed (reached ids (k + 1) part) c ≡ true)
          → is_listed (cond b (children n ++ reached ids (k + 1) part) (reached ids (k + 1) part)) c ≡ true
      by_case true e now next =
          elim (cases_lt k i) as (λ _. is_listed (children n ++ reached ids (k + 1) part) c ≡ true) [
            | inl after ↦
                elim (listed_cases (children n) (reached ids (k + 1) part) i now) as (λ _. is_listed (children n ++ reached ids (k + 1) part) c ≡ true) [
                  | inl own ↦ absurd (let below = child_below ns k i n table.well_formed (part_first ns k n part is) (Contains-from_listed (children n) i own) in omega arith)
                  | inr was ↦ listed_right (children n) (reached ids (k + 1) part) c (next (omega arith) (later_at (omega arith)) was mine)
                ]
            | inr same ↦ listed_left (children n) (reached ids (k + 1) part) c (ap (λ x. is_listed (children x) c) (first_is same) ∙ mine)
          ]
      by_case false e now next =
          elim (cases_lt k i) as (λ _. is_listed (reached ids (k + 1) part) c ≡ true) [
            | inl after ↦ next (omega arith) (later_at (omega arith)) now mine
            | inr same ↦ let one : i ≡ k = omega arith in absurd (false≢true (sym e ∙ ap (is_listed (reached ids (k + 1) part)) (sym one) ∙ now))
          ]

-- Equalities with branches

equality_is : (ns : List Node) (id t : ℕ) (n : Node) → IsNodeAt ns t n → is_equality_of id t n ≡ true → (c : ℕ) × (a : ℕ) × (b : ℕ) × (n ≡ IteField c a b) × ((id ≡ t + 1) ⊎ (id ≡ second_equality t a b))
equality_is ns id t (IteField c a b) at is = (
  c,
  a,
  b,
  refl,
  elim (or_cases (id == t + 1) (id == second_equality t a b) is) as (λ _. (id ≡ t + 1) ⊎ (id ≡ second_equality t a b)) [
    | inl one ↦ inl (eqb-true id (t + 1) one)
    | inr two ↦ inr (eqb-true id (second_equality t a b) two)
  ],
)
equality_is ns id t _ at is = absurd (false≢true is)

-- an equality of a node that passes the test
test_inside : (ns : List Node) (id t : ℕ) → is_equality_of id t (node_at ns t) ≡ true → t < length ns
test_inside ns id t is =
    elim (cases_lt t (length ns)) as (λ _. t < length ns) [
      | inl inside ↦ inside
      | inr past ↦ absurd (false≢true (ap (is_equality_of id t) (sym (get_or_past ns t True past)) ∙ is))
    ]

pub record IsBranch (ns : List Node) (id t : ℕ) : Type 0 where
  pub condition : ℕ
  pub yes_branch : ℕ
  pub no_branch : ℕ
  pub at : IsNodeAt ns t (IteField condition yes_branch no_branch)
  pub is : (IsNodeAt ns id (Eq t yes_branch)) ⊎ (IsNodeAt ns id (Eq t no_branch))

branch_from_test : (ns : List Node) (id t : ℕ) → IsTable ns → is_equality_of id t (node_at ns t) ≡ true → IsBranch ns id t
branch_from_test ns id t table is =
    let at = slice_get-get_or ns t True (test_inside ns id t is) in
    let (c, a, b, same, which) = equality_is ns id t (node_at ns t) at is in
    let there : IsNodeAt ns t (IteField c a b) = subst (IsNodeAt ns t) same at in
    let after = table.equalities t c a b there in
    record {
      condition = c;
      yes_branch = a;
      no_branch = b;
      at = there;
      is = elim which as (λ _. (IsNodeAt ns id (Eq t a)) ⊎ (IsNodeAt ns id (Eq t b))) [
        | inl e ↦ inl (subst (λ j. IsNodeAt ns j (Eq t a)) (sym e) after.0)
        | inr e ↦ inr (subst (λ j. IsNodeAt ns j (Eq t b)) (sym e) after.1)
      ];
    }

test_first : (ns : List Node) (id t c a b : ℕ) → IsTable ns → IsNodeAt ns t (IteField c a b) → IsNodeAt ns id (Eq t a) → is_equality_of id t (node_at ns t) ≡ true
test_first ns id t c a b table at is =
    let e : id ≡ t + 1 = table.well_formed.single id (t + 1) (Eq t a) is (table.equalities t c a b at).0 in
    ap (is_equality_of id t) (node_at-is ns t (IteField c a b) at) ∙ or_left (id == t + 1) _ (eq-eqb id (t + 1) e)

test_second : (ns : List Node) (id t c a b : ℕ) → IsTable ns → IsNodeAt ns t (IteField c a b) → IsNodeAt ns id (Eq t b) → is_equality_of id t (node_at ns t) ≡ true
test_second ns id t c a b table at is =
    let e : id ≡ second_equality t a b = table.well_formed.single id (second_equality t a b) (Eq t b) is (table.equalities t c a b at).1 in
    ap (is_equality_of id t) (node_at-is ns t (IteField c a b) at) ∙ or_right (id == t + 1) _ (eq-eqb id (second_equality t a b) e)

-- some listed node has it as an equality
some_equality : (ns : List Node) (found : List ℕ) (id : ℕ) → is_equality_among ns found id ≡ true → (t : ℕ) × (is_listed found t ≡ true) × (is_equality_of id t (node_at ns t) ≡ true)
some_equality ns [] id is = absurd (false≢true is)
some_equality ns (t ∷ found) id is =
    elim (or_cases (is_equality_of id t (node_at ns t)) (is_equality_among ns found id) is) as (λ _. (u : ℕ) × (is_listed (t ∷ found) u ≡ true) × (is_equality_of id u (node_at ns u) ≡ true)) [
      | inl here ↦ (t, or_left (t == t) _ (eq-eqb t t refl), here)
      | inr later ↦ let r = some_equality ns found id later in (r.0, or_right (r.0 == t) _ r.1, r.2)
    ]

equality_among : (ns : List Node) (found : List ℕ) (id t : ℕ) → is_listed found t ≡ true → is_equality_of id t (node_at ns t) ≡ true → is_equality_among ns found id ≡ true
equality_among ns [] id t has is = absurd (false≢true has)
equality_among ns (u ∷ found) id t has is =
    elim (or_cases (t == u) (is_listed found t) has) as (λ _. is_equality_among ns (u ∷ found) id ≡ true) [
      | inl here ↦ or_left _ _ (ap (λ v. is_equality_of id v (node_at ns v)) (sym (eqb-true t u here)) ∙ is)
      | inr later ↦ or_right (is_equality_of id u (node_at ns u)) _ (equality_among ns found id t later is)
    ]

module _ (ns : List Node) (ids : List ℕ) (table : IsTable ns) where
  found : List ℕ
  found = reached ids 0 ns

  part_all : IsPart ns 0 ns
  part_all i n at = let e : i ≡ 0 + i = omega arith in subst (λ j. IsNodeAt ns j n) e at

  found_of : (j : ℕ) → is_listed found j ≡ true → IsNodeOf ns ids j
  unfolding found
  found_of j has = reached_of ns ids 0 ns part_all j has

  child_found : (i : ℕ) (m : Node) (c : ℕ) → IsNodeAt ns i m → is_listed found i ≡ true → Contains (children m) c → is_listed found c ≡ true
  unfolding found
  child_found i m c at has mine =
      let e : i ≡ i - 0 = omega arith in
      children_reached ns ids table 0 ns part_all i m c (omega arith) (subst (λ j. slice_get ns j ≡ Some m) e at) has (listed-from_Contains (children m) c mine)

  -- found, or an equality of a found node
  abbrev IsInCone : ℕ → Type 0
  IsInCone id = (is_listed found id ≡ true) ⊎ (is_equality_among ns found id ≡ true)

  -- an equality has no equalities
  no_equality_of_equality : (t id : ℕ) (c a b : ℕ) → IsNodeAt ns t (IteField c a b) → is_equality_among ns found t ≡ true → ⊥
  no_equality_of_equality t id c a b at is =
      let (u, has, test) = some_equality ns found t is in
      let r = branch_from_test ns t u table test in
      elim r.is as (λ _. ⊥) [
        | inl e ↦ ite≢eq c a b u r.yes_branch (IsNodeAt-unique ns t _ _ at e)
        | inr e ↦ ite≢eq c a b u r.no_branch (IsNodeAt-unique ns t _ _ at e)
      ]
    where
      ite≢eq : (c a b u x : ℕ) → IteField c a b ≡ Eq u x → ⊥
      ite≢eq c a b u x e = false≢true (ap (λ n. elim n as (λ _. Bool) [ Eq p q ↦ true | _ ↦ false ]) e)

  child_of_equality : (i c u x : ℕ) (m : Node) → IsNodeAt ns i m → IsNodeAt ns i (Eq u x) → is_listed found u ≡ true → is_listed found x ≡ true → Contains (children m) c → is_listed found c ≡ true
  child_of_equality i c u x m at is one two mine = by_place (subst (λ n. Contains (children n) c) (IsNodeAt-unique ns i m (Eq u x) at is) mine)
    where
      by_place : Contains (u ∷ x ∷ []) c → is_listed found c ≡ true
      by_place (zero, inside, e) = subst (λ j. is_listed found j ≡ true) e one
      by_place (suc zero, inside, e) = subst (λ j. is_listed found j ≡ true) e two
      by_place (suc (suc k), inside, e) = absurd (omega arith)

  in_cone : (id : ℕ) → IsNodeOf ns ids id → IsInCone id
  unfolding found
  in_cone id (listed has) = inl (ids_reached ns ids 0 ns id (listed-from_Contains ids id has))
  in_cone id (child {id = i} m of at mine) =
      elim (in_cone i of) as (λ _. IsInCone id) [
        | inl has ↦ inl (child_found i m id at has mine)
        | inr eq ↦
            let (u, has, test) = some_equality ns found i eq in
            let r = branch_from_test ns i u table test in
            inl (elim r.is as (λ _. is_listed found id ≡ true) [
              | inl e ↦ child_of_equality i id u r.yes_branch m at e has (child_found u _ r.yes_branch r.at has (1, omega arith, refl)) mine
              | inr e ↦ child_of_equality i id u r.no_branch m at e has (child_found u _ r.no_branch r.at has (2, omega arith, refl)) mine
            ])
      ]
  in_cone id (first {t = t} c a b of at eq) =
      elim (in_cone t of) as (λ _. IsInCone id) [
        | inl has ↦ inr (equality_among ns found id t has (test_first ns id t c a b table at eq))
        | inr was ↦ absurd (no_equality_of_equality t id c a b at was)
      ]
  in_cone id (second {t = t} c a b of at eq) =
      elim (in_cone t of) as (λ _. IsInCone id) [
        | inl has ↦ inr (equality_among ns found id t has (test_second ns id t c a b table at eq))
        | inr was ↦ absurd (no_equality_of_equality t id c a b at was)
      ]

  cone_of : (id : ℕ) → IsInCone id → IsNodeOf ns ids id
  cone_of id (inl has) = found_of id has
  cone_of id (inr eq) =
      let (u, has, test) = some_equality ns found id eq in
      let r = branch_from_test ns id u table test in
      elim r.is as (λ _. IsNodeOf ns ids id) [
        | inl e ↦ first r.condition r.yes_branch r.no_branch (found_of u has) r.at e
        | inr e ↦ second r.condition r.yes_branch r.no_branch (found_of u has) r.at e
      ]

range_increasing : (n : ℕ) → IsStrictlyIncreasing (range_with_len 0 n)
range_increasing n k inside =
    let long = length-range_with_len 0 n in
    let one = get_or-range_with_len 0 n k 0 (omega arith) in
    let two = get_or-range_with_len 0 n (k + 1) 0 (omega arith) in
    omega arith

pub Contains-range : (n k : ℕ) → k < n → Contains (range_with_len 0 n) k
Contains-range n k inside = let long = length-range_with_len 0 n in (k, omega arith, get_or-range_with_len 0 n k k inside ∙ omega arith)

-- the cone has the nodes of the check, each once, in increasing order
pub cone_nodes : (ns : List Node) (ids : List ℕ) → IsTable ns → All (λ id. id < length ns) ids → AreNodesOf ns ids (cone ns ids)
unfolding cone found
cone_nodes ns ids table within =
    let test = λ (id : ℕ). is_listed (reached ids 0 ns) id || is_equality_among ns (reached ids 0 ns) id in
    record {
      increasing = IsStrictlyIncreasing-filter test (range_with_len 0 (length ns)) (range_increasing (length ns));
      each = λ id. (
        (λ has. cone_of ns ids table id (or_cases (is_listed (reached ids 0 ns) id) _ (Contains-from_filter test (range_with_len 0 (length ns)) id has).1)),
        (λ of. Contains-filter test (range_with_len 0 (length ns)) id (Contains-range (length ns) id (IsNodeOf-within ns ids id table within of)) (passes id (in_cone ns ids table id of))),
      );
    }
  where
    passes : (id : ℕ) → (is_listed (reached ids 0 ns) id ≡ true) ⊎ (is_equality_among ns (reached ids 0 ns) id ≡ true) → (is_listed (reached ids 0 ns) id || is_equality_among ns (reached ids 0 ns) id) ≡ true
    passes id (inl has) = or_left _ _ has
    passes id (inr eq) = or_right (is_listed (reached ids 0 ns) id) _ eq
