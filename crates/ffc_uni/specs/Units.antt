-- The units that a chain or a power takes from the meter, and where it stops.
use Rattle.std.specs.Prelude.{◌≡◌, ℕ, ◌+◌, ◌<◌, ◌≤◌, Result, MatchResult}
use Rattle.ffc_base.specs.Metering.{Spending, total}
use Rattle.ffc_base.specs.declared.stop.Stop.{Stop}
use Rattle.ffc_base.specs.declared.stop.Stop.TheVariants.{Spent, Memory}

-- n more of the kind Chain, and nothing else
abbrev pub chained : Spending → ℕ → Spending
chained s n = record s { chains = s.chains + n }

-- Fewer than the units that are needed were taken, and the meter is full; or it ran out of memory before more were.
abbrev pub IsStopped : ℕ → Spending → Spending → Stop → Type 0
IsStopped needed old new Spent = (n : ℕ) × (n < needed) × (new ≡ chained old n) × (total new ≡ new.budget)
IsStopped needed old new Memory = (n : ℕ) × (n ≤ needed) × (new ≡ chained old n)

-- all the units that are needed were taken, unless the work stopped
abbrev pub IsCounted : {A : Type 0} → ℕ → Spending → Spending → Result A Stop → Type 0
IsCounted needed old new result =
    MatchResult result (λ _. (new ≡ chained old needed) × (total new ≤ new.budget)) (IsStopped needed old new)

-- at most k were taken
abbrev pub IsAtMost : ℕ → Spending → Spending → Type 0
IsAtMost k old new = (n : ℕ) × (n ≤ k) × (new ≡ chained old n)

-- units of the kind Chain were taken, and no others
abbrev pub IsChained : Spending → Spending → Type 0
IsChained old new = (n : ℕ) × (new ≡ chained old n)
