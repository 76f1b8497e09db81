-- Meters of which units were taken.
use Rattle.std.proofs.Common.{◌≡◌, ◌+◌, refl, ◌∙◌, arith}
use Rattle.ffc_base.specs.Metering.{Spending, total}
use Rattle.ffc_base.specs.Metering.{Takes}

pub takes_nothing : (a : Spending) → Takes a a
takes_nothing a = record { same_budget = refl; taken = omega arith }

pub takes_same : (a b : Spending) → b ≡ a → Takes a b
takes_same a b e = rw e (takes_nothing a)

pub takes_both : (a b c : Spending) → Takes a b → Takes b c → Takes a c
takes_both a b c first second = record { same_budget = second.same_budget ∙ first.same_budget; taken = omega (arith, first.taken, second.taken) }

pub takes_unit : (a b : Spending) → b.budget ≡ a.budget → total b ≡ total a + 1 → Takes a b
takes_unit a b same one = record { same_budget = same; taken = omega (arith, one) }
