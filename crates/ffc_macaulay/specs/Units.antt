-- How many units a call takes.
use Rattle.std.specs.Prelude.{ℕ, ◌+◌, ◌≤◌, ◌<◌, Result, IsErrOf}
use Rattle.ffc_base.specs.Metering.{Spending, Takes, total}

-- It takes at most so many units, and answers that the budget is spent only where fewer were left.
pub record TakesWithin {A E : Type 0} (bound : ℕ) (spent : E) (result : Result A E) (old new : Spending) : Type 0 where
  pub takes : Takes old new
  pub within : total new ≤ total old + bound
  pub spent_only : IsErrOf result spent → old.budget < total old + bound
