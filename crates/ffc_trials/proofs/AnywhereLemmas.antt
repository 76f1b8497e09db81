-- An entry that breaks no rule at one line of a certificate breaks none at another.
use Rattle.std.proofs.Common.{◌≡◌, ℕ, ◌+◌, ◌==◌, ◌&&◌, nat_lt, Bool, true, false, cond, List, [], ◌∷◌, length, Option, Some, None, refl, sym, subst}
use Rattle.std.proofs.lemmas.Option.{none-some}
use Rattle.ffc_cert.specs.declared.entries.Entry.{Entry}
use Rattle.ffc_cert.specs.declared.entries.Entry.TheVariants.{Sat, UnsatCases, UnsatSteps, Unknown}
use Rattle.ffc_term.specs.declared.node.Node.{Node}
use Rattle.ffc_term.specs.Nodes.{node_at}
use Rattle.ffc_term.specs.Measuring.{value_count}
use Rattle.ffc_rules.specs.Cones.{span, work}
use Rattle.ffc_rules.specs.Assignments.{listed_assignment, are_true, has_model_below}
use Rattle.ffc_rules.specs.Entries.{NodeCheck, limits, Broken, breaks, first_misfit, sat_fault, cases_fault, entry_fault_within, entry_fault, EntryOk}
use Rattle.ffc_rules.proofs.KeptLemmas.{refutations_kept}

-- a choice between two faults is none
no_choice : {A : Type 0} (b d : Bool) (x y x' y' : A) → cond b (Some x) (cond d (Some y) None) ≡ None → cond b (Some x') (cond d (Some y') None) ≡ None
no_choice true d x y x' y' e = absurd (none-some x (sym e))
no_choice false true x y x' y' e = absurd (none-some y (sym e))
no_choice false false x y x' y' e = refl

misfit_anywhere : (ns : List Node) (ids : List ℕ) (pairs : List (ℕ × ℕ)) (line other : ℕ) → first_misfit ns ids pairs line ≡ None → first_misfit ns ids pairs other ≡ None
misfit_anywhere ns [] pairs line other e = refl
misfit_anywhere ns (id ∷ ids) [] line other e = refl
misfit_anywhere ns (id ∷ ids) (p ∷ pairs) line other e = by_test (p.0 == id && nat_lt p.1 (value_count (node_at ns id))) (misfit_anywhere ns ids pairs (line + 1) (other + 1)) e
  where
    by_test : (b : Bool) → (first_misfit ns ids pairs (line + 1) ≡ None → first_misfit ns ids pairs (other + 1) ≡ None)
        → cond b (first_misfit ns ids pairs (line + 1)) (Some line) ≡ None → cond b (first_misfit ns ids pairs (other + 1)) (Some other) ≡ None
    by_test true rest is = rest is
    by_test false rest is = absurd (none-some line (sym is))

sat_anywhere : (c : NodeCheck) (pairs : List (ℕ × ℕ)) (line other : ℕ) → sat_fault c pairs line ≡ None → sat_fault c pairs other ≡ None
unfolding sat_fault
sat_anywhere c pairs line other e =
    by_length (length pairs == length c.declared) (first_misfit c.nodes c.declared pairs (line + 1)) (first_misfit c.nodes c.declared pairs (other + 1))
    (misfit_anywhere c.nodes c.declared pairs (line + 1) (other + 1)) (are_true c.nodes c.in_force (listed_assignment c.nodes pairs)) e
  where
    by_truth : (good : Bool) → ◌≡◌ {A = Option Broken} (cond good None (Some (breaks 1 line))) None → ◌≡◌ {A = Option Broken} (cond good None (Some (breaks 1 other))) None
    by_truth true is = refl
    by_truth false is = absurd (none-some (breaks 1 line) (sym is))

    by_misfit : (here there : Option ℕ) → (here ≡ None → there ≡ None) → (good : Bool)
        → elim here as (λ _. Option Broken) [ Some misfit ↦ Some (breaks 1 misfit) | None ↦ cond good None (Some (breaks 1 line)) ] ≡ None
        → elim there as (λ _. Option Broken) [ Some misfit ↦ Some (breaks 1 misfit) | None ↦ cond good None (Some (breaks 1 other)) ] ≡ None
    by_misfit (Some misfit) there to good is = absurd (none-some (breaks 1 misfit) (sym is))
    by_misfit None there to good is =
        subst (λ (o : Option ℕ). elim o as (λ _. Option Broken) [ Some misfit ↦ Some (breaks 1 misfit) | None ↦ cond good None (Some (breaks 1 other)) ] ≡ None) (sym (to refl)) (by_truth good is)

    by_length : (b : Bool) (here there : Option ℕ) → (here ≡ None → there ≡ None) → (good : Bool)
        → cond b (elim here as (λ _. Option Broken) [ Some misfit ↦ Some (breaks 1 misfit) | None ↦ cond good None (Some (breaks 1 line)) ]) (Some (breaks 1 line)) ≡ None
        → cond b (elim there as (λ _. Option Broken) [ Some misfit ↦ Some (breaks 1 misfit) | None ↦ cond good None (Some (breaks 1 other)) ]) (Some (breaks 1 other)) ≡ None
    by_length true here there to good is = by_misfit here there to good is
    by_length false here there to good is = absurd (none-some (breaks 1 line) (sym is))

pub right_anywhere : (c : NodeCheck) (entry : Entry) (line : ℕ) → entry_fault c entry line ≡ None → EntryOk c entry
unfolding entry_fault_within cases_fault
right_anywhere c (Sat pairs) line e other = sat_anywhere c pairs line other e
right_anywhere c UnsatCases line e other =
    no_choice (nat_lt 16777216 (work c.nodes c.in_force)) (has_model_below c.nodes c.in_force (span c.nodes c.in_force)) (breaks 11 line) (breaks 10 line) (breaks 11 other) (breaks 10 other) e
right_anywhere c (UnsatSteps lines) line e other = (refutations_kept limits c lines other).1 ((refutations_kept limits c lines line).0 e)
right_anywhere c (Unknown cause) line e other = refl
