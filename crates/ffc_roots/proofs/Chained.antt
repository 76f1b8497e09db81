-- Units of the kind Chain, taken one after another.
use Rattle.std.proofs.Common.{◌+◌}
use Rattle.ffc_base.specs.Metering.{Spending}
use Rattle.ffc_uni.specs.Units.{IsChained}
use Rattle.ffc_uni.proofs.UnitLemmas.{chained_later}

pub chained_after : (a b c : Spending) → IsChained a b → IsChained b c → IsChained a c
chained_after a b c first second = (first.0 + second.0, chained_later a b c first.0 second.0 first.1 second.1)
