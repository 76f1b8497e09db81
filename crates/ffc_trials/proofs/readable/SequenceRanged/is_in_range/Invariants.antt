use Rattle.std.proofs.Common.{drop}
use Rattle.std.specs.List.{AllByRecursion}
use Rattle.ffc_trials.proofs.readable.SequenceRanged.is_in_range.Given as goal

abbrev pub invariant-loop-item : goal.invariant-loop-item
invariant-loop-item g l = AllByRecursion g.T.Ranged.fits (drop l.item-index l.items) → AllByRecursion g.T.Ranged.fits l.items
