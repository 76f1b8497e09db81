-- Answers and the faults that they name.
use Rattle.std.proofs.Common.{◌≡◌, ℕ, ◌+◌, Bool, cond, if◌then◌else◌, List, ◌++◌, length, take, drop, Option, Some, None, Result, Err, refl, sym, ap, ◌∙◌, subst, arith, ne_eqb, eq-eqb}
use Rattle.std.proofs.lemmas.List.{take-append-le, take_all}
use Rattle.ffc_check.specs.declared.stop.CheckStop.{CheckStop}
use Rattle.ffc_check.specs.declared.stop.CheckStop.TheVariants as stops
use Rattle.ffc_rules.specs.Assignments.{listed_assignment, are_true}
use Rattle.ffc_rules.specs.Entries.{NodeCheck, Broken, breaks, first_misfit, sat_fault}
use Rattle.ffc_check.specs.Answers.{Names, Refuses}

-- a broken rule is named where it is broken
pub names_broken : (stop : CheckStop) (rule line : ℕ) (fault : Option Broken) → stop ≡ stops.Broken (record { line = line; rule = rule }) → fault ≡ Some (breaks rule line) → Names stop fault
names_broken stop rule line fault e broken = let Named : CheckStop → Type 0 = λ s. Names s fault in subst Named (sym e) broken

pub refuses_broken : {B : Type 0} (stop : CheckStop) (rule line : ℕ) (given : Result B Broken) → stop ≡ stops.Broken (record { line = line; rule = rule }) → given ≡ Err (breaks rule line) → Refuses stop given
refuses_broken stop rule line given e broken = let Named : CheckStop → Type 0 = λ s. Refuses s given in subst Named (sym e) broken

-- what a vector has after its slice was written
pub written_back : {X : Type 0} (new old : List X) (len : ℕ) → length new ≡ length old → len ≡ length old → take len (new ++ drop (length new) old) ≡ new
written_back new old len same is = take-append-le len new (drop (length new) old) (omega arith) ∙ take_all len new (omega arith)

-- Values

module _ (c : NodeCheck) (pairs : List (ℕ × ℕ)) (line : ℕ) where
  pub other_count : (length pairs ≡ length c.declared → ⊥) → sat_fault c pairs line ≡ Some (breaks 1 line)
  unfolding sat_fault
  other_count other =
      ap (λ b. cond b (elim (first_misfit c.nodes c.declared pairs (line + 1)) [
        | Some misfit ↦ Some (breaks 1 misfit)
        | None ↦ if are_true c.nodes c.in_force (listed_assignment c.nodes pairs) then None else Some (breaks 1 line)
      ]) (Some (breaks 1 line))) (ne_eqb (length pairs) (length c.declared) other)

  module _ (same : length pairs ≡ length c.declared) where
    by_misfit : sat_fault c pairs line ≡ elim (first_misfit c.nodes c.declared pairs (line + 1)) [
      | Some misfit ↦ Some (breaks 1 misfit)
      | None ↦ if are_true c.nodes c.in_force (listed_assignment c.nodes pairs) then None else Some (breaks 1 line)
    ]
    unfolding sat_fault
    by_misfit =
        ap (λ b. cond b (elim (first_misfit c.nodes c.declared pairs (line + 1)) [
          | Some misfit ↦ Some (breaks 1 misfit)
          | None ↦ if are_true c.nodes c.in_force (listed_assignment c.nodes pairs) then None else Some (breaks 1 line)
        ]) (Some (breaks 1 line))) (eq-eqb (length pairs) (length c.declared) same)

    pub misfit_named : (misfit : ℕ) → first_misfit c.nodes c.declared pairs (line + 1) ≡ Some misfit → sat_fault c pairs line ≡ Some (breaks 1 misfit)
    misfit_named misfit e = rw by_misfit (rw e refl)

    pub truth_named : (good : Bool) → first_misfit c.nodes c.declared pairs (line + 1) ≡ None → good ≡ are_true c.nodes c.in_force (listed_assignment c.nodes pairs)
        → sat_fault c pairs line ≡ cond good None (Some (breaks 1 line))
    truth_named good e is = rw (by_misfit, e, is) refl
