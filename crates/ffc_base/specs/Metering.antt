-- A budget of units of work, and how many of each kind were taken.
use Rattle.std.specs.Prelude.{◌≡◌, ℕ, ◌+◌, ◌≤◌, Result, IsErrOf}
use Rattle.ffc_base.specs.declared.meter.Unit.{Unit as Kind}
use Rattle.ffc_base.specs.declared.meter.Unit.TheVariants.{Trial, Reduction, Assignment, Chain}

-- the budget, and the units of each kind
pub record Spending : Type 0 where
  pub budget : ℕ
  pub trials : ℕ
  pub reductions : ℕ
  pub assignments : ℕ
  pub chains : ℕ

-- a record of its parts
abbrev pub spending : ℕ → ℕ → ℕ → ℕ → ℕ → Spending
spending b t r a c = record { budget = b; trials = t; reductions = r; assignments = a; chains = c }

-- the units of all kinds together
abbrev pub total : Spending → ℕ
total s = s.trials + s.reductions + s.assignments + s.chains

-- the units of one kind
abbrev pub count_of : Spending → Kind → ℕ
count_of s Trial = s.trials
count_of s Reduction = s.reductions
count_of s Assignment = s.assignments
count_of s Chain = s.chains

-- one more unit of this kind, and nothing else
abbrev pub one_more : Spending → Kind → Spending
one_more s Trial = record s { trials = s.trials + 1 }
one_more s Reduction = record s { reductions = s.reductions + 1 }
one_more s Assignment = record s { assignments = s.assignments + 1 }
one_more s Chain = record s { chains = s.chains + 1 }

-- n more units of this kind, and nothing else
abbrev pub more : Spending → Kind → ℕ → Spending
more s Trial n = record s { trials = s.trials + n }
more s Reduction n = record s { reductions = s.reductions + n }
more s Assignment n = record s { assignments = s.assignments + n }
more s Chain n = record s { chains = s.chains + n }

-- a meter of the same budget, of which no unit was given back
pub record Takes (old new : Spending) : Type 0 where
  pub same_budget : new.budget ≡ old.budget
  pub taken : total old ≤ total new

-- What a call does to a meter: it takes units, and answers that the budget is spent, by this error, only where it is.
abbrev pub Metered : {A E : Type 0} → E → Result A E → Spending → Spending → Type 0
Metered spent result old new = Takes old new × (IsErrOf result spent → total new ≡ new.budget)
