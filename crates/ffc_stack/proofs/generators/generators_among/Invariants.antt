use Rattle.std.proofs.Common.{◌≡◌}
use Rattle.std.specs.List.{filter, range_with_len}
use Rattle.ffc_stack.specs.Marks.{is_marked_generator}
use Rattle.ffc_stack.proofs.generators.generators_among.Given as goal

abbrev pub invariant-loop-place : goal.invariant-loop-place
invariant-loop-place g l = l.numbers.items ≡ filter (is_marked_generator l.lines l.reached) (range_with_len 0 l.place)
