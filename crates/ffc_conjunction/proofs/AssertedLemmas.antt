-- A walk over the nodes of a check finds the nodes that are asserted.
use Rattle.std.proofs.Common.{inl, inr, ◌≡◌, ℕ, suc, ◌+◌, ◌<◌, ◌≤◌, Bool, true, false, cond, ◌||◌, List, [], ◌∷◌, ◌++◌, length, filter, All, Contains, Some, refl, sym, ap, ◌∙◌, subst, arith, slice_get}
use Rattle.std.specs.List.{range_with_len}
use Rattle.std.proofs.lemmas.Bool.{false≢true, or_left}
use Rattle.std.proofs.lemmas.List.Elements.{All-filter}
use Rattle.std.proofs.lemmas.List.FromFn.{get_or-range_with_len, length-range_with_len}
use Rattle.ffc_term.specs.declared.node.Node.{Node}
use Rattle.ffc_term.specs.declared.node.Node.TheVariants.{And}
use Rattle.ffc_term.specs.Nodes.{IsNodeAt, children, node_at}
use Rattle.ffc_term.specs.Tables.{IsTable}
use Rattle.ffc_term.proofs.WalkLemmas.{child_below}
use Rattle.ffc_rules.specs.Cones.{is_listed, reached, is_equality_among, cone}
use Rattle.ffc_bounds.specs.Conjunctions.{conjuncts, asserted_from, asserted}
use Rattle.ffc_rules.proofs.AssignmentLemmas.{node_at-is}
use Rattle.ffc_rules.proofs.StepLemmas.{listed_left, listed_right, listed_cases}
use Rattle.ffc_conjunction.specs.Walks.{found_from, kept_from}
use Rattle.ffc_conjunction.proofs.ListedLemmas.{is_listed-past, is_listed-none}

-- these nodes are those of the table from the number k on
abbrev IsPart : List Node → ℕ → List Node → Type 0
IsPart ns k part = (i : ℕ) (n : Node) → slice_get part i ≡ Some n → IsNodeAt ns (k + i) n

part_next : (ns : List Node) (k : ℕ) (n : Node) (part : List Node) → IsPart ns k (n ∷ part) → IsPart ns (k + 1) part
part_next ns k n part is i m at = let e : k + suc i ≡ k + 1 + i = omega arith in subst (λ j. IsNodeAt ns j m) e (is (suc i) m at)

part_first : (ns : List Node) (k : ℕ) (n : Node) (part : List Node) → IsPart ns k (n ∷ part) → IsNodeAt ns k n
part_first ns k n part is = let e : k + 0 ≡ k = omega arith in subst (λ j. IsNodeAt ns j n) e (is 0 n refl)

-- a part of a conjunction is a child
part_child : (n : Node) (j : ℕ) → is_listed (conjuncts n) j ≡ true → is_listed (children n) j ≡ true
part_child (And ids) j is = is
part_child _ j is = absurd (false≢true is)

-- what is asserted is reached
asserted_reached : (ids : List ℕ) (k : ℕ) (part : List Node) (j : ℕ) → is_listed (asserted_from ids k part) j ≡ true → is_listed (reached ids k part) j ≡ true
unfolding asserted_from reached
asserted_reached ids k [] j is = is
asserted_reached ids k (n ∷ part) j is =
    by_case (is_listed (asserted_from ids (k + 1) part) k) refl is (asserted_reached ids (k + 1) part)
  where
    above : (b : Bool) → is_listed (reached ids (k + 1) part) j ≡ true → is_listed (cond b (children n ++ reached ids (k + 1) part) (reached ids (k + 1) part)) j ≡ true
    above true has = listed_right (children n) (reached ids (k + 1) part) j has
    above false has = has

    by_case : (b : Bool) → is_listed (asserted_from ids (k + 1) part) k ≡ b → is_listed (cond b (conjuncts n ++ asserted_from ids (k + 1) part) (asserted_from ids (k + 1) part)) j ≡ true
        → ((i : ℕ) → is_listed (asserted_from ids (k + 1) part) i ≡ true → is_listed (reached ids (k + 1) part) i ≡ true)
        → is_listed (cond (is_listed (reached ids (k + 1) part) k) (children n ++ reached ids (k + 1) part) (reached ids (k + 1) part)) j ≡ true
    by_case true e now more =
        ap (λ b. is_listed (cond b (children n ++ reached ids (k + 1) part) (reached ids (k + 1) part)) j) (more k e)
        ∙ elim (listed_cases (conjuncts n) (asserted_from ids (k + 1) part) j now) as (λ _. is_listed (children n ++ reached ids (k + 1) part) j ≡ true) [
          | inl own ↦ listed_left (children n) (reached ids (k + 1) part) j (part_child n j own)
          | inr was ↦ listed_right (children n) (reached ids (k + 1) part) j (more j was)
        ]
    by_case false e now more = above (is_listed (reached ids (k + 1) part) k) (more j now)

-- what is asserted from later nodes on is asserted
asserted_before : (ids : List ℕ) (k : ℕ) (n : Node) (part : List Node) (j : ℕ) → is_listed (asserted_from ids (k + 1) part) j ≡ true → is_listed (asserted_from ids k (n ∷ part)) j ≡ true
unfolding asserted_from
asserted_before ids k n part j is = by_case (is_listed (asserted_from ids (k + 1) part) k)
  where
    by_case : (b : Bool) → is_listed (cond b (conjuncts n ++ asserted_from ids (k + 1) part) (asserted_from ids (k + 1) part)) j ≡ true
    by_case true = listed_right (conjuncts n) (asserted_from ids (k + 1) part) j is
    by_case false = is

-- One step of a walk
module _ (ns : List Node) (ids : List ℕ) (x : ℕ) (xs : List ℕ) where
  pub found_more : is_listed (found_from ns ids xs) x ≡ true → found_from ns ids (x ∷ xs) ≡ conjuncts (node_at ns x) ++ found_from ns ids xs
  unfolding found_from
  found_more is = ap (λ b. cond b (conjuncts (node_at ns x) ++ found_from ns ids xs) (found_from ns ids xs)) is

  pub found_same : is_listed (found_from ns ids xs) x ≡ false → found_from ns ids (x ∷ xs) ≡ found_from ns ids xs
  unfolding found_from
  found_same is = ap (λ b. cond b (conjuncts (node_at ns x) ++ found_from ns ids xs) (found_from ns ids xs)) is

  pub kept_more : is_listed (found_from ns ids xs) x ≡ true → kept_from ns ids (x ∷ xs) ≡ x ∷ kept_from ns ids xs
  unfolding kept_from
  kept_more is = ap (λ b. cond b (x ∷ kept_from ns ids xs) (kept_from ns ids xs)) is

  pub kept_same : is_listed (found_from ns ids xs) x ≡ false → kept_from ns ids (x ∷ xs) ≡ kept_from ns ids xs
  unfolding kept_from
  kept_same is = ap (λ b. cond b (x ∷ kept_from ns ids xs) (kept_from ns ids xs)) is

pub found_none : (ns : List Node) (ids : List ℕ) → found_from ns ids [] ≡ ids
unfolding found_from
found_none ns ids = refl

pub kept_none : (ns : List Node) (ids : List ℕ) → kept_from ns ids [] ≡ []
unfolding kept_from
kept_none ns ids = refl

module _ (ns : List Node) (ids : List ℕ) (test : ℕ → Bool) where
  -- the numbers of some nodes that pass the test
  abbrev tested : ℕ → List Node → List ℕ
  tested k part = filter test (range_with_len k (length part))

  -- all that is asserted from some nodes on passes the test
  abbrev AllPass : ℕ → List Node → Type 0
  AllPass k part = (j : ℕ) → is_listed (asserted_from ids k part) j ≡ true → test j ≡ true

  found_one : (k : ℕ) (n : Node) (part : List Node) → node_at ns k ≡ n → ((j : ℕ) → is_listed (asserted_from ids (k + 1) part) j ≡ true → test j ≡ true)
      → asserted_from ids (k + 1) part ≡ found_from ns ids (tested (k + 1) part) → asserted_from ids k (n ∷ part) ≡ found_from ns ids (tested k (n ∷ part))
  unfolding asserted_from
  found_one k n part at pass above = by_case (is_listed (asserted_from ids (k + 1) part) k) refl
    where
      by_test : (t : Bool) → is_listed (asserted_from ids (k + 1) part) k ≡ false → asserted_from ids (k + 1) part ≡ found_from ns ids (cond t (k ∷ filter test (range_with_len (k + 1) (length part))) (filter test (range_with_len (k + 1) (length part))))
      by_test true e = above ∙ sym (found_same ns ids k (filter test (range_with_len (k + 1) (length part))) (sym (ap (λ xs. is_listed xs k) above) ∙ e))
      by_test false e = above

      by_case : (b : Bool) → is_listed (asserted_from ids (k + 1) part) k ≡ b
          → cond b (conjuncts n ++ asserted_from ids (k + 1) part) (asserted_from ids (k + 1) part) ≡ found_from ns ids (cond (test k) (k ∷ filter test (range_with_len (k + 1) (length part))) (filter test (range_with_len (k + 1) (length part))))
      by_case true e =
          ap (λ m. conjuncts m ++ asserted_from ids (k + 1) part) (sym at) ∙ ap (λ xs. conjuncts (node_at ns k) ++ xs) above
          ∙ sym (found_more ns ids k (filter test (range_with_len (k + 1) (length part))) (sym (ap (λ xs. is_listed xs k) above) ∙ e))
          ∙ ap (λ t. found_from ns ids (cond t (k ∷ filter test (range_with_len (k + 1) (length part))) (filter test (range_with_len (k + 1) (length part))))) (sym (pass k e))
      by_case false e = by_test (test k) e

  -- the walk over those nodes that pass the test finds what is asserted
  found_is : (k : ℕ) (part : List Node) → IsPart ns k part → AllPass k part → asserted_from ids k part ≡ found_from ns ids (tested k part)
  unfolding asserted_from found_from
  found_is k [] is pass = refl
  found_is k (n ∷ part) is pass =
      let later : AllPass (k + 1) part = λ j has. pass j (asserted_before ids k n part j has) in
      found_one k n part (node_at-is ns k n (part_first ns k n part is)) later (found_is (k + 1) part (part_next ns k n part is) later)

  -- the last list of all that is asserted says of later nodes what the list from some node on says
  abbrev AgreesFrom : List ℕ → ℕ → List Node → Type 0
  AgreesFrom all k part = (j : ℕ) → k ≤ j → is_listed all j ≡ is_listed (asserted_from ids k part) j

  module _ (table : IsTable ns) (all : List ℕ) where
    same_later : (k : ℕ) (n : Node) (part : List Node) → IsNodeAt ns k n → (j : ℕ) → k ≤ j → is_listed (asserted_from ids k (n ∷ part)) j ≡ is_listed (asserted_from ids (k + 1) part) j
    unfolding asserted_from
    same_later k n part at j from = by_case (is_listed (asserted_from ids (k + 1) part) k)
      where
        none : Contains (conjuncts n) j → ⊥
        none has =
            let below : j < k = child_below ns k j n table.well_formed at (part_of n has) in
            omega arith
          where
            part_of : (m : Node) → Contains (conjuncts m) j → Contains (children m) j
            part_of (And xs) own = own
            part_of _ own = let inside : own.0 < length {A = ℕ} [] = own.1 in absurd (omega arith)

        by_case : (b : Bool) → is_listed (cond b (conjuncts n ++ asserted_from ids (k + 1) part) (asserted_from ids (k + 1) part)) j ≡ is_listed (asserted_from ids (k + 1) part) j
        by_case true = is_listed-past (conjuncts n) (asserted_from ids (k + 1) part) j (is_listed-none (conjuncts n) j none)
        by_case false = refl

    kept_one : (k : ℕ) (part : List Node) → is_listed all k ≡ is_listed (asserted_from ids (k + 1) part) k → AllPass (k + 1) part → asserted_from ids (k + 1) part ≡ found_from ns ids (tested (k + 1) part)
        → kept_from ns ids (tested (k + 1) part) ≡ filter (λ j. is_listed all j) (range_with_len (k + 1) (length part))
        → kept_from ns ids (cond (test k) (k ∷ tested (k + 1) part) (tested (k + 1) part))
        ≡ cond (is_listed all k) (k ∷ filter (λ j. is_listed all j) (range_with_len (k + 1) (length part))) (filter (λ j. is_listed all j) (range_with_len (k + 1) (length part)))
    kept_one k part same pass above rest = by_case (is_listed all k) refl
      where
        by_test : (t : Bool) → is_listed all k ≡ false → kept_from ns ids (cond t (k ∷ tested (k + 1) part) (tested (k + 1) part)) ≡ filter (λ j. is_listed all j) (range_with_len (k + 1) (length part))
        by_test true e = kept_same ns ids k (tested (k + 1) part) (sym (ap (λ xs. is_listed xs k) above) ∙ sym same ∙ e) ∙ rest
        by_test false e = rest

        by_case : (b : Bool) → is_listed all k ≡ b → kept_from ns ids (cond (test k) (k ∷ tested (k + 1) part) (tested (k + 1) part))
            ≡ cond b (k ∷ filter (λ j. is_listed all j) (range_with_len (k + 1) (length part))) (filter (λ j. is_listed all j) (range_with_len (k + 1) (length part)))
        by_case true e =
            ap (λ t. kept_from ns ids (cond t (k ∷ tested (k + 1) part) (tested (k + 1) part))) (pass k (sym same ∙ e))
            ∙ kept_more ns ids k (tested (k + 1) part) (sym (ap (λ xs. is_listed xs k) above) ∙ sym same ∙ e) ∙ ap (λ xs. k ∷ xs) rest
        by_case false e = by_test (test k) e

    -- and keeps those nodes that are asserted
    kept_is : (k : ℕ) (part : List Node) → IsPart ns k part → AllPass k part → AgreesFrom all k part → kept_from ns ids (tested k part) ≡ filter (λ j. is_listed all j) (range_with_len k (length part))
    kept_is k [] is pass agree = kept_none ns ids
    kept_is k (n ∷ part) is pass agree =
        let at : IsNodeAt ns k n = part_first ns k n part is in
        let later : AllPass (k + 1) part = λ j has. pass j (asserted_before ids k n part j has) in
        let same : (j : ℕ) → k ≤ j → is_listed all j ≡ is_listed (asserted_from ids (k + 1) part) j = λ j from. agree j from ∙ same_later k n part at j from in
        kept_one k part (same k (omega arith)) later (found_is (k + 1) part (part_next ns k n part is) later)
        (kept_is (k + 1) part (part_next ns k n part is) later (λ j from. same j (omega arith)))

-- the walk over the nodes of a check keeps those that are asserted
pub kept_asserted : (ns : List Node) (ids : List ℕ) → IsTable ns → kept_from ns ids (cone ns ids) ≡ asserted ns ids
unfolding cone asserted
kept_asserted ns ids table =
    let test = λ (id : ℕ). is_listed (reached ids 0 ns) id || is_equality_among ns (reached ids 0 ns) id in
    kept_is ns ids test table (asserted_from ids 0 ns) 0 ns (λ i n at. let e : i ≡ 0 + i = omega arith in subst (λ j. IsNodeAt ns j n) e at)
    (λ j has. or_left (is_listed (reached ids 0 ns) j) _ (asserted_reached ids 0 ns j has)) (λ j from. refl)

-- the nodes of a check are in the table
pub cone_within : (ns : List Node) (ids : List ℕ) → All (λ id. id < length ns) (cone ns ids)
unfolding cone
cone_within ns ids =
    All-filter (λ id. is_listed (reached ids 0 ns) id || is_equality_among ns (reached ids 0 ns) id) (λ id. id < length ns) (range_with_len 0 (length ns))
    (λ k d inside.
    let long = length-range_with_len 0 (length ns) in
    let at = get_or-range_with_len 0 (length ns) k d (omega arith) in
    omega arith)
