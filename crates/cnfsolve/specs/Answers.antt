-- What an answer about a formula says.
use Rattle.std.specs.Prelude.{◌≡◌, ℕ, ◌≤◌, Bool, List, [], ◌∷◌, Result, Ok, Err}
use Rattle.ffc_clause.specs.Clauses.{Clause}
use Rattle.ffc_cdcl.specs.Outcomes.{IsModel}
use Rattle.ffc_cdcl.specs.State.{State, AllHold}
use Rattle.ffc_base.specs.declared.stop.SearchStop.TheVariants.{Spent}
use Rattle.cnfsolve.specs.Reading.{formulas_of}
use Rattle.cnfsolve.specs.declared.deciding.Answer.{Answer}
use Rattle.cnfsolve.specs.declared.deciding.Verdict.{Verdict}
use Rattle.cnfsolve.specs.declared.deciding.Verdict.TheVariants.{Satisfiable, Unsatisfiable, Unknown}

-- no truth values make all clauses true
abbrev pub IsUnsatisfiable : List Clause → Type 0
IsUnsatisfiable clauses = (truth : ℕ → Bool) → AllHold truth clauses → ⊥

abbrev pub IsVerdict : List Clause → Verdict → Type 0
IsVerdict clauses (Satisfiable trail) = IsModel clauses trail
IsVerdict clauses (Unsatisfiable steps) = IsUnsatisfiable clauses
IsVerdict clauses (Unknown stop) = Unit {0}

-- a verdict that is true of a formula; it is missing for want of units only where all of them were taken
pub record IsRight (budget : ℕ) (formula : State) (answer : Answer) : Type 0 where
  pub verdict : IsVerdict formula.added answer.verdict
  pub spent : answer.verdict ≡ Unknown Spent → answer.units ≡ budget

-- one answer for each formula, in order
abbrev pub AreRight : ℕ → List State → List Answer → Type 0
AreRight budget [] [] = Unit {0}
AreRight budget [] (answer ∷ answers) = ⊥
AreRight budget (formula ∷ formulas) [] = ⊥
AreRight budget (formula ∷ formulas) (answer ∷ answers) = IsRight budget formula answer × AreRight budget formulas answers

-- the text has formulas, and these are their answers
pub record Answers (budget : ℕ) (text : List ℕ) (answers : List Answer) : Type 0 where
  pub formulas : List State
  pub are_read : formulas_of text ≡ Ok formulas
  pub are_right : AreRight budget formulas answers
