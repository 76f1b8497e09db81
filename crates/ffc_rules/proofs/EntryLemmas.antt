-- What it means that an entry breaks no rule.
use Rattle.std.proofs.Common.{◌≡◌, ℕ, ◌+◌, ◌<◌, ◌==◌, nat_lt, Bool, true, false, cond, List, [], ◌∷◌, length, filter, get_or, All, Contains, Option, Some, None, Ok, refl, sym, ap, subst, slice_get}
use Rattle.std.specs.List.{AllByRecursion, range_with_len}
use Rattle.std.proofs.lemmas.Bool.{eqb-true}
use Rattle.std.proofs.lemmas.List.Elements.{All-contains, All-from_recursion, recursion_from_All}
use Rattle.std.proofs.lemmas.Option.{none-some, slice_get_within, get_or_from_slice_get, slice_get-get_or}
use Rattle.ffc_cert.specs.declared.entries.CertLine.{CertLine}
use Rattle.ffc_cert.specs.declared.entries.Entry.{Entry}
use Rattle.ffc_cert.specs.declared.entries.Entry.TheVariants.{Sat, UnsatCases, UnsatSteps, Unknown}
use Rattle.ffc_cert.specs.Spelling.{is_clause}
use Rattle.ffc_term.specs.declared.value.Value.{Value}
use Rattle.ffc_term.specs.declared.value.Value.TheVariants as value
use Rattle.ffc_term.specs.Tables.{IsTable}
use Rattle.ffc_term.specs.Values.{truth, value_at}
use Rattle.ffc_term.proofs.ListLemmas.{Contains-filter}
use Rattle.ffc_trees.proofs.FirstLineLemmas.{lemma_is_true}
use Rattle.ffc_trees.proofs.TakenLemmas.{tree_taken}
use Rattle.ffc_clause.specs.Clauses.{Clause}
use Rattle.ffc_clause.proofs.HintLemmas.{IsHintTrue}
use Rattle.ffc_rules.specs.Clauses.{AreTrue, truth_at, IsTrueClause}
use Rattle.ffc_rules.specs.Cones.{is_listed, span, work}
use Rattle.ffc_rules.specs.Assignments.{listed_assignment, are_true, has_model_below}
use Rattle.ffc_rules.specs.Entries.{NodeCheck, Limits, Broken, breaks, Given, clause_given, first_misfit, sat_fault, cases_fault, lines_fault, entry_fault_within}
use Rattle.ffc_rules.specs.Cores.{hints_of, taken_by, numbers_reached, core}
use Rattle.ffc_rules.specs.Laws.{HasNoModel, IsTrueOf, IsValid, IsUnsat, AreTrueAt}
use Rattle.ffc_rules.proofs.GivenLemmas.{IsNumberTrue, given_true}
use Rattle.ffc_rules.proofs.StepLemmas.{TreesHoldNoClauses, no_steps}
use Rattle.ffc_rules.proofs.ConeLemmas.{Contains-range}
use Rattle.ffc_rules.proofs.CaseLemmas.{AreTrue-from_test, no_model, are_listed, listed_gives, listed_true}

pub trees_hold_none : TreesHoldNoClauses
trees_hold_none l p known lines rest read =
    let t = tree_taken l p known lines rest read in
    (t.front, t.parts, recursion_from_All (λ x. is_clause x ≡ false) t.front t.in_tree)

-- a choice between a fault and what follows is none where its test fails
pub passed : {A : Type 0} (b : Bool) (x : A) (r : Option A) → cond b (Some x) r ≡ None → (b ≡ false) × (r ≡ None)
passed true x r e = absurd (none-some x (sym e))
passed false x r e = (refl, e)

kept : {A : Type 0} (b : Bool) (x : A) (r : Option A) → cond b r (Some x) ≡ None → (b ≡ true) × (r ≡ None)
kept true x r e = (refl, e)
kept false x r e = absurd (none-some x (sym e))

-- where all that is active is true, so it is at any numbers
true_at_any : (c : NodeCheck) (numbers : List ℕ) (A : List Value) → AreTrue c.nodes c.in_force A → AreTrueAt c numbers A
true_at_any c numbers A all k d inside id at =
    subst (λ i. value_at c.nodes A i ≡ value.Bool true) (get_or_from_slice_get c.in_force (get_or numbers k d) id id at)
    (all (get_or numbers k d) id (slice_get_within c.in_force (get_or numbers k d) id at))

pub core_of_steps : (l : Limits) (c : NodeCheck) (lines : List CertLine) (line : ℕ) (A : List Value) → IsTable c.nodes → lines_fault l c [] line 0 lines ≡ None → AreTrueAt c (core (UnsatSteps lines) (length c.in_force)) A → ⊥
unfolding core
core_of_steps l c lines line A table e all =
    let numbers = numbers_reached lines in
    no_steps lemma_is_true trees_hold_none l c A table [] line 0 lines tt (λ j is hinted at. absurd (none-some hinted at)) (λ n is id at.
    let inside : n < length c.in_force = slice_get_within c.in_force n id at in
    let has : Contains (filter (λ k. is_listed numbers k) (range_with_len 0 (length c.in_force))) n = Contains-filter (λ k. is_listed numbers k) (range_with_len 0 (length c.in_force)) n (Contains-range (length c.in_force) n inside) is in
    ap truth (All-contains (λ k. (i : ℕ) → slice_get c.in_force k ≡ Some i → value_at c.nodes A i ≡ value.Bool true) (filter (λ k. is_listed numbers k) (range_with_len 0 (length c.in_force))) n all has id at)) e

within_table : (c : NodeCheck) → IsValid c → All (λ id. id < length c.nodes) c.in_force
within_table c valid k d inside = (valid.boolean k d inside).0

cases_none : (l : Limits) (c : NodeCheck) (line : ℕ) → IsValid c → cases_fault l c line ≡ None → HasNoModel c.nodes c.in_force
unfolding cases_fault
cases_none l c line valid e =
    no_model c.nodes c.in_force valid.table (within_table c valid)
    (passed (has_model_below c.nodes c.in_force (span c.nodes c.in_force)) _ None (passed (nat_lt l.work (work c.nodes c.in_force)) _ _ e).1).0

values_true : (l : Limits) (c : NodeCheck) (pairs : List (ℕ × ℕ)) (line : ℕ) → IsValid c → sat_fault c pairs line ≡ None → IsTrueOf c (Sat pairs)
unfolding sat_fault
values_true l c pairs line valid e =
    let long = kept (length pairs == length c.declared) _ _ e in
    by_misfit (first_misfit c.nodes c.declared pairs (line + 1)) refl long.1 (eqb-true (length pairs) (length c.declared) long.0)
  where
    by_misfit : (o : Option ℕ) → first_misfit c.nodes c.declared pairs (line + 1) ≡ o
        → elim o as (λ _. Option Broken) [ Some misfit ↦ Some (breaks 1 misfit) | None ↦ cond (are_true c.nodes c.in_force (listed_assignment c.nodes pairs)) None (Some (breaks 1 line)) ] ≡ None
        → length pairs ≡ length c.declared → IsTrueOf c (Sat pairs)
    by_misfit (Some misfit) at is same = absurd (none-some _ (sym is))
    by_misfit None at is same =
        let listed = are_listed c.nodes c.declared pairs (line + 1) same at in
        let good = (kept (are_true c.nodes c.in_force (listed_assignment c.nodes pairs)) _ None is).0 in (
          record { names = listed.names; fit = All-from_recursion _ pairs listed.values_fit },
          (λ A agrees. listed_true c.nodes c.declared c.in_force c.first_order valid pairs listed.names good A (recursion_from_All _ pairs agrees)),
          record {
            assignment = listed_assignment c.nodes pairs;
            agrees = All-from_recursion _ pairs (listed_gives c.nodes c.declared c.in_force c.first_order valid pairs listed.names);
            all = AreTrue-from_test c.nodes c.in_force (listed_assignment c.nodes pairs) good;
          },
        )

pub entry_true : (l : Limits) (c : NodeCheck) (entry : Entry) (line : ℕ) → IsValid c → entry_fault_within l c entry line ≡ None → IsTrueOf c entry
unfolding entry_fault_within
entry_true l c (Sat pairs) line valid e = values_true l c pairs line valid e
entry_true l c UnsatCases line valid e = cases_none l c line valid e
entry_true l c (UnsatSteps lines) line valid e = λ A all. core_of_steps l c lines (line + 1) A valid.table e (true_at_any c (core (UnsatSteps lines) (length c.in_force)) A all)
entry_true l c (Unknown cause) line valid e = tt

-- what is true at all numbers is true
all_from_numbers : (c : NodeCheck) (A : List Value) → AreTrueAt c (range_with_len 0 (length c.in_force)) A → AreTrue c.nodes c.in_force A
all_from_numbers c A all k d inside =
    All-contains (λ j. (i : ℕ) → slice_get c.in_force j ≡ Some i → value_at c.nodes A i ≡ value.Bool true) (range_with_len 0 (length c.in_force)) k all (Contains-range (length c.in_force) k inside) (get_or c.in_force k d) (slice_get-get_or c.in_force k d inside)

pub core_sound : (l : Limits) (c : NodeCheck) (entry : Entry) (line : ℕ) (A : List Value) → IsValid c → IsUnsat entry → entry_fault_within l c entry line ≡ None → AreTrueAt c (core entry (length c.in_force)) A → ⊥
unfolding entry_fault_within core
core_sound l c (Sat pairs) line A valid unsat e all = unsat
core_sound l c UnsatCases line A valid unsat e all = cases_none l c line valid e A (all_from_numbers c A all)
core_sound l c (UnsatSteps lines) line A valid unsat e all = core_of_steps l c lines (line + 1) A valid.table e all
core_sound l c (Unknown cause) line A valid unsat e all = unsat

-- under an assignment that makes all that is active true, a clause is true where those before it are
pub clause_sound : (l : Limits) (c : NodeCheck) (clauses : List Clause) (line : ℕ) (x : CertLine) (rest : List CertLine) (given : Given) (A : List Value) → IsTable c.nodes → AreTrue c.nodes c.in_force A
    → All (IsTrueClause c.nodes A) clauses → clause_given l c clauses line x rest ≡ Ok given → IsTrueClause c.nodes A given.clause
clause_sound l c clauses line x rest given A table all earlier e =
    given_true c A table lemma_is_true l clauses line x rest given (each_hint (hints_of x)) (each_number (taken_by x)) e
  where
    each_hint : (hints : List ℕ) → AllByRecursion (IsHintTrue (truth_at c.nodes A) clauses) hints
    each_hint [] = tt
    each_hint (h ∷ hints) = (
      (λ hinted at. subst (IsTrueClause c.nodes A) (get_or_from_slice_get clauses h hinted hinted at) (earlier h hinted (slice_get_within clauses h hinted at))),
      each_hint hints,
    )

    each_number : (numbers : List ℕ) → AllByRecursion (IsNumberTrue (truth_at c.nodes A) c.in_force) numbers
    each_number [] = tt
    each_number (n ∷ numbers) = (
      (λ id at. ap truth (subst (λ i. value_at c.nodes A i ≡ value.Bool true) (get_or_from_slice_get c.in_force n id id at) (all n id (slice_get_within c.in_force n id at)))),
      each_number numbers,
    )
