-- Going through the assignments of a check's constants by number.
use Rattle.std.proofs.Common.{◌≡◌, ◌⊎◌, inl, inr, ℕ, zero, suc, ◌+◌, ◌*◌, ◌^◌, ◌/◌, ◌<◌, ◌≤◌, min, Bool, ◌||◌, true, false, cond, List, [], ◌∷◌, ◌++◌, length, map, All, Some, None, refl, sym, ap, ap₂, ◌∙◌, subst, arith, add-one}
use Rattle.std.specs.List.{AllByRecursion, list_any, range_with_len}
use Rattle.std.proofs.Math.Nat.{mul-le-mul_left}
use Rattle.std.proofs.lemmas.Bool.{lt-ltb, le-ltb}
use Rattle.std.proofs.lemmas.List.Folds.{list_any-append, list_any_at}
use Rattle.std.proofs.lemmas.List.FromFn.{get_or-range_with_len, length-range_with_len}
use Rattle.ffc_term.specs.declared.node.Node.{Node}
use Rattle.ffc_term.specs.declared.value.Value.{Value}
use Rattle.ffc_term.specs.Nodes.{IsConstantAt, node_at}
use Rattle.ffc_term.specs.Tables.{IsTable, constant_count}
use Rattle.ffc_term.specs.Checks.{AreConstantsOf}
use Rattle.ffc_term.specs.Measuring.{AreMeasuresOf, span_of, value_count}
use Rattle.ffc_term.proofs.LawLemmas.{same_increasing, AreNodesOf-one}
use Rattle.ffc_rules.specs.Assignments.{digits, numbered_assignment, are_true, has_model_below}
use Rattle.ffc_rules.specs.Cones.{cone, cone_constants, span, work}
use Rattle.ffc_rules.specs.Entries.{NodeCheck, limits, breaks, cases_fault}
use Rattle.ffc_rules.specs.Laws.{IsValid}
use Rattle.ffc_rules.proofs.ConeLemmas.{cone_nodes}
use Rattle.ffc_rules.proofs.CaseLemmas.{AreApart, increasing_apart, each_contained, named_among, named_each, named_apart, constants_of}
use Rattle.ffc_check.specs.Assigning.{with_values}
use Rattle.ffc_check.proofs.ValueLemmas.{same_model}

-- the digits of a number are listed for these constants, in this order
digits-names : (ns : List Node) (ids : List ℕ) (k : ℕ) → map (λ p. p.0) (digits ns ids k) ≡ ids
digits-names ns [] k = refl
digits-names ns (id ∷ ids) k = ap (λ xs. id ∷ xs) (digits-names ns ids (k / value_count (node_at ns id)))

-- a check over nodes of its table
pub within : (c : NodeCheck) → IsValid c → All (λ id. id < length c.nodes) c.in_force
within c valid k d inside = (valid.boolean k d inside).0

module _ (ns : List Node) (ids constants : List ℕ) (table : IsTable ns) (inside : All (λ id. id < length ns) ids) (of : AreConstantsOf ns ids constants) where
  pub one_list : constants ≡ cone_constants ns ids
  one_list =
      let own = constants_of ns ids table inside in
      same_increasing constants (cone_constants ns ids) of.increasing own.increasing (λ k has. (own.each k).1 ((of.each k).0 has)) (λ k has. (of.each k).1 ((own.each k).0 has))

  pub constants_each : AllByRecursion (IsConstantAt ns) constants
  constants_each = each_contained (IsConstantAt ns) constants (λ id has. ((of.each id).0 has).1)

  -- what is true with the digits of a number is what is true under the assignment of that number
  pub digits_true : (values : List Value) (k : ℕ) → length values ≡ constant_count ns
      → are_true ns ids (with_values ns values (digits ns constants k)) ≡ are_true ns ids (numbered_assignment ns (cone_constants ns ids) k)
  unfolding numbered_assignment
  digits_true values k long =
      let pairs = digits ns constants k in
      let names = digits-names ns constants k in
      same_model ns ids constants pairs values table of long
      (named_each (IsConstantAt ns) pairs (subst (AllByRecursion (IsConstantAt ns)) (sym names) constants_each))
      (named_apart pairs (subst AreApart (sym names) (increasing_apart constants of.increasing)))
      (λ id has. named_among constants pairs id names has)
      ∙ ap (λ cs. are_true ns ids (numbered_assignment ns cs k)) one_list

-- the numbers so far, and one more
range_last : (a n : ℕ) → range_with_len a (suc n) ≡ range_with_len a n ++ (a + n) ∷ []
range_last a zero = ap (λ k. k ∷ []) (omega arith)
range_last a (suc n) = ap (λ xs. a ∷ xs) (range_last (a + 1) n) ∙ ap (λ k. (a ∷ range_with_len (a + 1) n) ++ k ∷ []) (omega arith)

module _ (ns : List Node) (ids : List ℕ) where
  test : ℕ → Bool
  test k = are_true ns ids (numbered_assignment ns (cone_constants ns ids) k)

  pub no_model_next : (n : ℕ) → has_model_below ns ids n ≡ false → are_true ns ids (numbered_assignment ns (cone_constants ns ids) n) ≡ false → has_model_below ns ids (n + 1) ≡ false
  unfolding has_model_below test
  no_model_next n none here =
      let all : range_with_len 0 (n + 1) ≡ range_with_len 0 n ++ n ∷ [] = ap (range_with_len 0) (add-one n) ∙ range_last 0 n ∙ ap (λ k. range_with_len 0 n ++ k ∷ []) (omega arith) in
      ap (list_any test) all ∙ list_any-append test (range_with_len 0 n) (n ∷ []) ∙ ap₂ (λ (a b : Bool). a || b) none (ap (λ b. b || false) here)

  pub model_found : (n count : ℕ) → n < count → are_true ns ids (numbered_assignment ns (cone_constants ns ids) n) ≡ true → has_model_below ns ids count ≡ true
  unfolding has_model_below test
  model_found n count below here =
      let long = length-range_with_len 0 count in
      list_any_at test (range_with_len 0 count) n 0 (omega arith) (ap test (get_or-range_with_len 0 count n 0 below ∙ omega arith) ∙ here)

pub no_model_yet : (ns : List Node) (ids : List ℕ) → has_model_below ns ids 0 ≡ false
unfolding has_model_below
no_model_yet ns ids = refl

-- What was measured

module _ (c : NodeCheck) (valid : IsValid c) (span_found work_found line : ℕ) (m : AreMeasuresOf c.nodes c.in_force span_found work_found) where
  all_nodes : m.among ≡ cone c.nodes c.in_force
  all_nodes = AreNodesOf-one c.nodes c.in_force m.among (cone c.nodes c.in_force) m.all (cone_nodes c.nodes c.in_force valid.table (within c valid))

  work_capped : work_found ≡ min (work c.nodes c.in_force) (2 ^ 64)
  work_capped = m.work_is ∙ ap (λ among. min (span_of c.nodes among * length among) (2 ^ 64)) all_nodes

  span_capped : span_found ≡ min (span c.nodes c.in_force) (2 ^ 64)
  span_capped = m.span_is ∙ ap (λ among. min (span_of c.nodes among) (2 ^ 64)) all_nodes

  -- the number of assignments is at most the work, and 1 where there is no node
  few_assignments : (ids : List ℕ) → (span_of c.nodes ids ≤ span_of c.nodes ids * length ids) ⊎ (span_of c.nodes ids ≡ 1)
  few_assignments [] = inr refl
  few_assignments (id ∷ ids) =
      let s = span_of c.nodes (id ∷ ids) in
      inl (let more : s * 1 ≤ s * length (id ∷ ids) = mul-le-mul_left s (omega arith) in omega arith)

  pub passed_named : 16777216 < work_found → cases_fault limits c line ≡ Some (breaks 11 line)
  unfolding cases_fault
  passed_named over =
      ap (λ b. cond b (Some (breaks 11 line)) (cond (has_model_below c.nodes c.in_force (span c.nodes c.in_force)) (Some (breaks 10 line)) None))
      (lt-ltb 16777216 (work c.nodes c.in_force) (omega (arith, work_capped)))

  pub span_small : work_found ≤ 16777216 → (span_found < 2 ^ 64) × (span_found ≡ span c.nodes c.in_force)
  span_small small =
      elim (few_assignments (cone c.nodes c.in_force)) [
        | inl few ↦ let e = span_capped in let w = work_capped in (omega arith, omega arith)
        | inr one ↦ let e = span_capped in (omega arith, omega arith)
      ]

  pub searched_named : (found : Bool) → work_found ≤ 16777216 → found ≡ has_model_below c.nodes c.in_force span_found → cases_fault limits c line ≡ cond found (Some (breaks 10 line)) None
  unfolding cases_fault
  searched_named found small is =
      ap (λ b. cond b (Some (breaks 11 line)) (cond (has_model_below c.nodes c.in_force (span c.nodes c.in_force)) (Some (breaks 10 line)) None))
      (le-ltb 16777216 (work c.nodes c.in_force) (omega (arith, work_capped)))
      ∙ ap (λ b. cond b (Some (breaks 10 line)) None) (sym (is ∙ ap (has_model_below c.nodes c.in_force) (span_small small).1))
