use Rattle.std.proofs.Common.{◌≡◌, ◌+◌, ◌++◌, map, take}
use Rattle.ffc_term.specs.Measuring.{degree_at}
use Rattle.ffc_combination.proofs.choices.append_degrees.Given as goal

abbrev pub invariant-loop-id : goal.invariant-loop-id
invariant-loop-id l = l.degrees.items ≡ l.fn.degrees.items ++ map (λ id. degree_at l.table id + l.higher) (take l.id-index l.ids)
