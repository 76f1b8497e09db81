-- Limits, and what may be left undecided.
use Rattle.std.proofs.Common.{◌≡◌, ℕ, ◌+◌, ◌*◌, ◌/◌, ◌^◌, ◌<◌, ◌≤◌, ◌==◌, ◌&&◌, ◌||◌, not, min, nat_le, Bool, true, false, cond, List, ◌∷◌, length, filter, get_or, drop, refl, sym, ap, ap₂, ◌∙◌, subst, arith, lit≤}
use Rattle.std.proofs.Common.{Result, Ok, Err, Option, Some, None}
use Rattle.std.specs.Option.{IfNone}
use Rattle.std.specs.Result.{IfErr}
use Rattle.std.specs.List.{list_any, range_with_len}
use Rattle.std.proofs.lemmas.List.Folds.{Any-from_list_any}
use Rattle.std.proofs.lemmas.List.FromFn.{get_or-range_with_len, length-range_with_len}
use Rattle.std.proofs.Math.Nat.{mul-le-mul_right}
use Rattle.std.proofs.lemmas.Bool.{and_from, eq-eqb, le-leb, lt-leb, false≢true, false_from_ne_true}
use Rattle.std.proofs.lemmas.List.{drop_more}
use Rattle.ffc_cert.specs.declared.entries.Entry.TheVariants.{UnsatCases}
use Rattle.ffc_cert.specs.declared.entries.Cause.TheVariants.{Degree, Terms, Steps, Memory}
use Rattle.ffc_cert.specs.Spelling.{entry_text}
use Rattle.ffc_cert.specs.WellFormed.{IsReadable}
use Rattle.ffc_term.specs.declared.node.Node.{Node}
use Rattle.ffc_term.specs.Checks.{AreNodesOf}
use Rattle.ffc_term.specs.Measuring.{span_of}
use Rattle.ffc_term.proofs.LawLemmas.{AreNodesOf-one}
use Rattle.ffc_rules.specs.Cones.{cone, cone_constants, span, work}
use Rattle.ffc_rules.specs.Causes.{is_small, first_count, is_cause_within, passes_degree, passes_length}
use Rattle.ffc_rules.specs.Assignments.{are_true, numbered_assignment, has_model_below}
use Rattle.ffc_rules.specs.Entries.{NodeCheck, limits, EntryOk}
use Rattle.ffc_rules.specs.Laws.{IsValid}
use Rattle.ffc_rules.proofs.ConeLemmas.{cone_nodes}
use Rattle.ffc_rules.proofs.CaseLemmas.{no_model}
use Rattle.ffc_rules.proofs.KeptLemmas.{cases_kept}
use Rattle.ffc_check.proofs.CaseLemmas.{within, model_found}
use Rattle.ffc_rules.proofs.AssignmentLemmas.{span-constants}
use Rattle.ffc_trials.specs.Parts.{IsConeOf}
use Rattle.ffc_trials.specs.Stops.{IsWithinLimits, IsSmallSpan, IsCaused, IsPassed, SpendsAll}
use Rattle.ffc_trials.specs.declared.cone.Cone.{Cone}
use Rattle.ffc_trials.specs.declared.stop.DecideStop.{DecideStop}
use Rattle.ffc_trials.specs.declared.stop.DecideStop.TheVariants as stops

-- Looking for an element that is of a kind and passes a test

module _ (kind test : ℕ → Bool) (xs : List ℕ) (i : ℕ) (inside : i < length xs) (whole : Bool) where
  pub found : kind (get_or xs i 0) ≡ true → test (get_or xs i 0) ≡ true → list_any test (filter kind (drop i xs)) ≡ whole → true ≡ whole
  found is passes so_far =
      let x = get_or xs i 0 in
      let here = subst (λ ys. list_any test (filter kind ys) ≡ whole) (drop_more xs i 0 inside) so_far in
      let taken = subst (λ b. list_any test (cond b (x ∷ filter kind (drop (i + 1) xs)) (filter kind (drop (i + 1) xs))) ≡ whole) is here in
      subst (λ b. (b || list_any test (filter kind (drop (i + 1) xs))) ≡ whole) passes taken

  pub other_kind : kind (get_or xs i 0) ≡ false → list_any test (filter kind (drop i xs)) ≡ whole → list_any test (filter kind (drop (i + 1) xs)) ≡ whole
  other_kind is so_far =
      let x = get_or xs i 0 in
      let here = subst (λ ys. list_any test (filter kind ys) ≡ whole) (drop_more xs i 0 inside) so_far in
      subst (λ b. list_any test (cond b (x ∷ filter kind (drop (i + 1) xs)) (filter kind (drop (i + 1) xs))) ≡ whole) is here

  pub not_passed : test (get_or xs i 0) ≡ false → list_any test (filter kind (drop i xs)) ≡ whole → list_any test (filter kind (drop (i + 1) xs)) ≡ whole
  not_passed fails so_far =
      let x = get_or xs i 0 in
      let here = subst (λ ys. list_any test (filter kind ys) ≡ whole) (drop_more xs i 0 inside) so_far in
      by_kind (kind x) here
    where
      by_kind : (b : Bool) → list_any test (cond b (get_or xs i 0 ∷ filter kind (drop (i + 1) xs)) (filter kind (drop (i + 1) xs))) ≡ whole → list_any test (filter kind (drop (i + 1) xs)) ≡ whole
      by_kind false here = here
      by_kind true here = subst (λ b. (b || list_any test (filter kind (drop (i + 1) xs))) ≡ whole) fails here

some_more : (ns : List Node) (ids : List ℕ) (few many : ℕ) → few ≤ many → has_model_below ns ids few ≡ true → has_model_below ns ids many ≡ true
unfolding has_model_below
some_more ns ids few many below some =
    let (k, i, inside, is, on) = Any-from_list_any (λ i. are_true ns ids (numbered_assignment ns (cone_constants ns ids) i)) (range_with_len 0 few) some in
    let long = length-range_with_len 0 few in
    let at : i ≡ k = sym is ∙ get_or-range_with_len 0 few k i (omega arith) ∙ omega arith in
    model_found ns ids i many (omega arith) on

-- the nodes of a check are its cone
pub nodes_are_cone : (c : NodeCheck) (nodes : List ℕ) → IsValid c → AreNodesOf c.nodes c.in_force nodes → nodes ≡ cone c.nodes c.in_force
nodes_are_cone c nodes valid of = AreNodesOf-one c.nodes c.in_force nodes (cone c.nodes c.in_force) of (cone_nodes c.nodes c.in_force valid.table (within c valid))

-- What was measured

module _ (c : NodeCheck) (parts : Cone) (of : IsConeOf c parts) (span_found budget : ℕ) (is : span_found ≡ min (span_of c.nodes parts.constants.items) (2 ^ 64)) where
  -- the constants have as many assignments as all nodes
  span_capped : span_found ≡ min (span c.nodes c.in_force) (2 ^ 64)
  span_capped = is ∙ ap (λ n. min n (2 ^ 64)) (ap (span_of c.nodes) of.constants ∙ span-constants c.nodes (cone c.nodes c.in_force))

  node_count : length parts.nodes.items ≡ length (cone c.nodes c.in_force)
  node_count = ap length of.all

  work_above : span_found * length parts.nodes.items ≤ work c.nodes c.in_force
  work_above =
      subst (λ n. span_found * n ≤ work c.nodes c.in_force) (sym node_count)
      (mul-le-mul_right (length (cone c.nodes c.in_force)) (let e = span_capped in let few : span_found ≤ span c.nodes c.in_force = omega arith in few))

  pub too_much_work : 16777216 < span_found * length parts.nodes.items → is_small limits c budget ≡ false
  unfolding is_small
  too_much_work over =
      ap (λ b. b && nat_le (span c.nodes c.in_force) budget) (lt-leb (work c.nodes c.in_force) 16777216 (let above = work_above in let more : 16777216 < work c.nodes c.in_force = omega arith in more))

  and_false : (b : Bool) → (b && false) ≡ false
  and_false true = refl
  and_false false = refl

  pub too_many : budget < span_found → is_small limits c budget ≡ false
  unfolding is_small
  too_many over =
      ap (λ b. nat_le (work c.nodes c.in_force) 16777216 && b) (lt-leb (span c.nodes c.in_force) budget (let e = span_capped in let more : budget < span c.nodes c.in_force = omega arith in more))
      ∙ and_false (nat_le (work c.nodes c.in_force) 16777216)

  pub is_small_span : budget < 2 ^ 64 → span_found * length parts.nodes.items ≤ 16777216 → span_found ≤ budget → IsSmallSpan c budget span_found
  unfolding is_small
  is_small_span wide few under =
      let same : span_found ≡ span c.nodes c.in_force = let e = span_capped in omega arith in
      let little : work c.nodes c.in_force ≤ 16777216 = subst (λ n. n ≤ 16777216) (ap₂ (λ a b. a * b) same node_count) few in
      record {
        small = and_from (nat_le (work c.nodes c.in_force) 16777216) (nat_le (span c.nodes c.in_force) budget) (le-leb (work c.nodes c.in_force) 16777216 little) (le-leb (span c.nodes c.in_force) budget (subst (λ n. n ≤ budget) same under));
        all = same;
        within = under;
        work = little;
      }

-- Causes

module _ (c : NodeCheck) (budget : ℕ) (large : is_small limits c budget ≡ false) where
  not_small : not (is_small limits c budget) ≡ true
  not_small = ap not large

  pub degree_caused : passes_degree limits c ≡ true → is_cause_within limits c budget Degree ≡ true
  unfolding is_cause_within
  degree_caused high = and_from (not (is_small limits c budget)) (passes_degree limits c) not_small high

  pub terms_caused : passes_degree limits c ≡ false → passes_length limits c ≡ true → is_cause_within limits c budget Terms ≡ true
  unfolding is_cause_within
  terms_caused low long =
      and_from (not (is_small limits c budget)) (not (passes_degree limits c) && passes_length limits c) not_small (and_from (not (passes_degree limits c)) (passes_length limits c) (ap not low) long)

  -- the first assignments are among more of them
  fewer_none : (ns : List Node) (ids : List ℕ) (few many : ℕ) → few ≤ many → has_model_below ns ids many ≡ false → has_model_below ns ids few ≡ false
  fewer_none ns ids few many below none = false_from_ne_true (has_model_below ns ids few) (λ some. false≢true (sym none ∙ some_more ns ids few many below some))

  spent_caused : (tried trials reductions assignments chains : ℕ) → IsWithinLimits c → trials + reductions + assignments + chains ≡ budget → first_count limits c budget ≤ tried
      → has_model_below c.nodes c.in_force tried ≡ false → is_cause_within limits c budget (Steps trials reductions assignments chains) ≡ true
  unfolding is_cause_within
  spent_caused tried trials reductions assignments chains good sum enough none =
      let first = fewer_none c.nodes c.in_force (first_count limits c budget) tried enough none in
      let counted = and_from (trials + reductions + assignments + chains == budget) (not (has_model_below c.nodes c.in_force (first_count limits c budget))) (eq-eqb _ budget sum) (ap not first) in
      let short = and_from (not (passes_length limits c)) _ (ap not good.length) counted in
      let low = and_from (not (passes_degree limits c)) _ (ap not good.degree) short in
      and_from (not (is_small limits c budget)) _ not_small low

  -- all units were spent, and at least the first assignments tried
  pub all_spent : (stop : DecideStop) (tried : ℕ) → IsWithinLimits c → SpendsAll budget stop → first_count limits c budget ≤ tried → has_model_below c.nodes c.in_force tried ≡ false → IsCaused budget c stop
  all_spent (stops.Spent t r a k) tried good sum enough none = spent_caused tried t r a k good sum enough none
  all_spent stops.TooHigh tried good sum enough none = absurd sum
  all_spent stops.TooLong tried good sum enough none = absurd sum
  all_spent stops.Memory tried good sum enough none = absurd sum

pub first-is : (c : NodeCheck) (budget nodes n : ℕ) → nodes ≡ length (cone c.nodes c.in_force) → n ≡ cond (nodes == 0) 0 (min (budget / 2) (16777216 / nodes)) → first_count limits c budget ≡ n
unfolding first_count
first-is c budget nodes n same is = sym (is ∙ ap (λ m. cond (m == 0) 0 (min (budget / 2) (16777216 / m))) same)

pub memory_caused : (c : NodeCheck) (budget : ℕ) → is_cause_within limits c budget Memory ≡ true
unfolding is_cause_within
memory_caused c budget = refl

pub stopped_by_memory : (c : NodeCheck) (budget : ℕ) (stop : DecideStop) → stop ≡ stops.Memory → IsCaused budget c stop
stopped_by_memory c budget stop e = subst (IsCaused budget c) (sym e) (memory_caused c budget)

pub stopped_by_limit : (c : NodeCheck) (budget : ℕ) (stop : DecideStop) → is_small limits c budget ≡ false → IsPassed c stop → IsCaused budget c stop
stopped_by_limit c budget (stops.Spent t r a k) large passed = absurd passed
stopped_by_limit c budget stops.TooHigh large passed = degree_caused c budget large passed
stopped_by_limit c budget stops.TooLong large passed = terms_caused c budget large passed.0 passed.1
stopped_by_limit c budget stops.Memory large passed = memory_caused c budget

-- Cases

pub cases_right : (c : NodeCheck) → IsValid c → work c.nodes c.in_force ≤ 16777216 → has_model_below c.nodes c.in_force (span c.nodes c.in_force) ≡ false → EntryOk c UnsatCases
cases_right c valid few none line = cases_kept limits c line valid few (no_model c.nodes c.in_force valid.table (within c valid) none)

pub cases_readable : IsReadable 2 UnsatCases
unfolding entry_text
cases_readable = record { well_formed = tt; short = lit≤ tt }

pub small_stops : {A : Type 0} (c : NodeCheck) (budget : ℕ) (r : Result A DecideStop) → IfErr r (λ stop. stop ≡ stops.Memory) → IfErr r (IsCaused budget c)
small_stops c budget (Ok x) only = tt
small_stops c budget (Err stop) only = stopped_by_memory c budget stop only

pub none_large : (c : NodeCheck) (budget : ℕ) (found : Option ℕ) → ((n : ℕ) → found ≡ Some n → ⊥) → IfNone found (is_small limits c budget ≡ false) → is_small limits c budget ≡ false
none_large c budget None other large = large
none_large c budget (Some n) other large = absurd (other n refl)
