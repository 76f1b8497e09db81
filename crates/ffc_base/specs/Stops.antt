-- Why a search stopped, by why a part of it did that cannot give up.
use Rattle.ffc_base.specs.declared.stop.Stop.{Stop}
use Rattle.ffc_base.specs.declared.stop.Stop.TheVariants as parts
use Rattle.ffc_base.specs.declared.stop.SearchStop.{SearchStop}
use Rattle.ffc_base.specs.declared.stop.SearchStop.TheVariants.{Spent, Memory}

abbrev pub in_search : Stop → SearchStop
in_search parts.Spent = Spent
in_search parts.Memory = Memory
