-- Which checks no bound speaks of: only these are left undecided, unless memory is out.
use Rattle.std.specs.Prelude.{◌≡◌, ℕ, false}
use Rattle.ffc_bounds.specs.Combinations.{IsRefutedByCombination, IsSolvedByCombination}
use Rattle.ffc_bounds.specs.Forced.{IsRefutedByForcing}
use Rattle.ffc_bounds.specs.Linear.{is_linear_within}
use Rattle.ffc_cert.specs.declared.entries.Entry.{Entry}
use Rattle.ffc_cert.specs.declared.entries.Entry.TheVariants.{Sat, UnsatCases, UnsatSteps, Unknown}
use Rattle.ffc_cert.specs.declared.entries.Cause.{Cause}
use Rattle.ffc_cert.specs.declared.entries.Cause.TheVariants.{Degree, Terms, Steps, Memory}
use Rattle.ffc_flat.specs.Answering.{IsRightAnswer}
use Rattle.ffc_linear.specs.declared.deciding.LinearAnswer.{LinearAnswer}
use Rattle.ffc_linear.specs.declared.deciding.LinearAnswer.TheVariants.{Undecided}
use Rattle.ffc_rules.specs.Entries.{NodeCheck, limits}
use Rattle.ffc_single.specs.Bounds.{IsDecidedSingle}

-- no bound of the attempts before the engine says that the check is decided within the budget
pub record IsBeyondEarly (budget : ℕ) (c : NodeCheck) : Type 0 where
  pub not_linear : is_linear_within limits c budget ≡ false
  pub not_forced : IsRefutedByForcing budget c → ⊥
  pub not_single : IsDecidedSingle budget c → ⊥

-- no bound of the attempt after it does
pub record IsBeyondLate (budget : ℕ) (c : NodeCheck) : Type 0 where
  pub not_refuted : IsRefutedByCombination budget c → ⊥
  pub not_solved : IsSolvedByCombination budget c → ⊥

-- no bound says that the check is decided within the budget
pub record IsBeyondBounds (budget : ℕ) (c : NodeCheck) : Type 0 where
  pub early : IsBeyondEarly budget c
  pub late : IsBeyondLate budget c

-- an answer is right, and leaves only such checks undecided
abbrev pub IsAnswerBeyond : (NodeCheck → Type 0) → NodeCheck → LinearAnswer → Type 0
IsAnswerBeyond beyond c answer = IsRightAnswer c answer × (answer ≡ Undecided → beyond c)

-- a check that is left undecided for this cause is one that no bound speaks of, or memory was out
abbrev pub IsCauseBeyond : ℕ → NodeCheck → Cause → Type 0
IsCauseBeyond budget c Degree = IsBeyondBounds budget c
IsCauseBeyond budget c Terms = IsBeyondBounds budget c
IsCauseBeyond budget c (Steps trials reductions assignments chains) = IsBeyondBounds budget c
IsCauseBeyond budget c Memory = Unit {0}

-- the same of an entry that leaves its check undecided
abbrev pub LeavesBeyondBounds : ℕ → NodeCheck → Entry → Type 0
LeavesBeyondBounds budget c (Sat pairs) = Unit {0}
LeavesBeyondBounds budget c UnsatCases = Unit {0}
LeavesBeyondBounds budget c (UnsatSteps lines) = Unit {0}
LeavesBeyondBounds budget c (Unknown cause) = IsCauseBeyond budget c cause
