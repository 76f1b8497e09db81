-- What it means that a check is not decided, and which checks are.
use Rattle.std.specs.Prelude.{◌≡◌, ℕ, ◌+◌, ◌≤◌, ◌⊎◌, Bool, true, false, List}
use Rattle.ffc_cert.specs.declared.entries.Cause.{Cause}
use Rattle.ffc_cert.specs.declared.entries.Entry.{Entry}
use Rattle.ffc_cert.specs.declared.entries.Entry.TheVariants.{Sat, UnsatCases, UnsatSteps, Unknown}
use Rattle.ffc_cert.specs.WellFormed.{IsReadable}
use Rattle.ffc_cert.specs.declared.entries.Cause.TheVariants.{Degree, Terms, Steps, Memory}
use Rattle.ffc_rules.specs.Cones.{span, work}
use Rattle.ffc_rules.specs.Causes.{is_small, is_cause_within, passes_degree, passes_length}
use Rattle.ffc_rules.specs.Entries.{NodeCheck, limits, EntryOk}
use Rattle.ffc_trials.specs.Versions.{written_version}
use Rattle.ffc_trials.specs.declared.stop.DecideStop.{DecideStop}
use Rattle.ffc_trials.specs.declared.stop.DecideStop.TheVariants as stops

-- the cause that a certificate states
abbrev pub cause_of : DecideStop → Cause
cause_of (stops.Spent trials reductions assignments chains) = Steps trials reductions assignments chains
cause_of stops.TooHigh = Degree
cause_of stops.TooLong = Terms
cause_of stops.Memory = Memory

-- a check that was not decided within a budget is left so for this cause
abbrev pub IsCaused : ℕ → NodeCheck → DecideStop → Type 0
IsCaused budget c stop = is_cause_within limits c budget (cause_of stop) ≡ true

-- no equality of the check passes a limit
pub record IsWithinLimits (c : NodeCheck) : Type 0 where
  pub degree : passes_degree limits c ≡ false
  pub length : passes_length limits c ≡ false

-- a check that may be decided: it is small within the budget, or no equality of it passes a limit
abbrev pub MayBeDecided : ℕ → NodeCheck → Type 0
MayBeDecided budget c = (is_small limits c budget ≡ true) ⊎ IsWithinLimits c

-- the limit that an equality of the check passes
abbrev pub IsPassed : NodeCheck → DecideStop → Type 0
IsPassed c (stops.Spent trials reductions assignments chains) = ⊥
IsPassed c stops.TooHigh = passes_degree limits c ≡ true
IsPassed c stops.TooLong = (passes_degree limits c ≡ false) × (passes_length limits c ≡ true)
IsPassed c stops.Memory = Unit {0}

-- the number of assignments of a check that is small within a budget
pub record IsSmallSpan (c : NodeCheck) (budget count : ℕ) : Type 0 where
  pub small : is_small limits c budget ≡ true
  pub all : count ≡ span c.nodes c.in_force
  pub within : count ≤ budget
  pub work : work c.nodes c.in_force ≤ 16777216

-- values of the declared constants that an entry may list: it is readable and breaks no rule
pub record AreModelValues (c : NodeCheck) (pairs : List (ℕ × ℕ)) : Type 0 where
  pub readable : IsReadable 2 (Sat pairs)
  pub right : EntryOk c (Sat pairs)

-- an entry that says whether the check has a model
abbrev pub IsVerdict : Entry → Type 0
IsVerdict (Sat pairs) = Unit {0}
IsVerdict UnsatCases = Unit {0}
IsVerdict (UnsatSteps lines) = Unit {0}
IsVerdict (Unknown cause) = ⊥

-- an entry that may be given for a check, in a certificate with lines of bits or without them
pub record IsGivenIn (bits : Bool) (c : NodeCheck) (entry : Entry) : Type 0 where
  pub readable : IsReadable (written_version bits) entry
  pub right : EntryOk c entry
  pub verdict : IsVerdict entry

-- one without lines of bits, which may be given in both
pub record IsGiven (c : NodeCheck) (entry : Entry) : Type 0 where
  pub readable : IsReadable 2 entry
  pub right : EntryOk c entry
  pub verdict : IsVerdict entry

-- the whole budget was spent
abbrev pub SpendsAll : ℕ → DecideStop → Type 0
SpendsAll budget (stops.Spent trials reductions assignments chains) = trials + reductions + assignments + chains ≡ budget
SpendsAll budget stops.TooHigh = ⊥
SpendsAll budget stops.TooLong = ⊥
SpendsAll budget stops.Memory = ⊥
