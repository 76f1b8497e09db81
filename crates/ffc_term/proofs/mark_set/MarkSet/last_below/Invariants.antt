use Rattle.std.proofs.Common.{◌≤◌}
use Rattle.ffc_term.specs.Marking.{IsNoneMarked, marks_in}
use Rattle.ffc_term.proofs.mark_set.MarkSet.last_below.Given as goal

abbrev pub invariant-loop-past : goal.invariant-loop-past
invariant-loop-past l = record {
  within : l.past ≤ l.end;
  none : IsNoneMarked (marks_in l.self-inside.words.items l.self-inside.bound) l.past l.end;
}

abbrev pub decreases-loop-past : goal.decreases-loop-past
decreases-loop-past l = l.past
