use Rattle.std.proofs.Common.{false, not, sym, ap, ◌∙◌}
use Rattle.ffc_propagation.specs.Trails.{is_open_at}
use Rattle.ffc_propagation.proofs.TrailLemmas.{first_passing}
use Rattle.ffc_propagation.proofs.trail.Trail.first_open.Goals as goal

pub returns-then-not-is_false : goal.returns-then-not-is_false
returns-then-not-is_false c =
    sym (first_passing (is_open_at c.args.self.now.marks.items) c.args.literals.now c.loop-literal.literal-index (false, 0) c.loop-literal-test.true c.loop-literal.invariant
    (ap not (sym c.is_false.ensures ∙ c.if-not-is_false.true)))
