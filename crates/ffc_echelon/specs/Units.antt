-- How many units a call takes.
use Rattle.std.specs.Prelude.{◌≡◌, ℕ, ◌+◌, ◌≤◌, ◌<◌, Result, IsErrOf}
use Rattle.ffc_base.specs.declared.meter.Unit.{Unit as Kind}
use Rattle.ffc_base.specs.Metering.{Spending, Takes, total, more}

-- It takes units of one kind alone, at most so many, and answers that the budget is spent only where fewer were left.
pub record TakesAtMost {A E : Type 0} (kind : Kind) (bound : ℕ) (spent : E) (result : Result A E) (old new : Spending) : Type 0 where
  pub units : ℕ
  pub taken : new ≡ more old kind units
  pub within : units ≤ bound
  pub spent_only : IsErrOf result spent → old.budget < total old + bound

-- It takes at most so many units of any kinds, and answers that the budget is spent only where fewer were left.
pub record TakesWithin {A E : Type 0} (bound : ℕ) (spent : E) (result : Result A E) (old new : Spending) : Type 0 where
  pub takes : Takes old new
  pub within : total new ≤ total old + bound
  pub spent_only : IsErrOf result spent → old.budget < total old + bound
