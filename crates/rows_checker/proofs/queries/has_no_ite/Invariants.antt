use Rattle.std.proofs.Common.{ℕ, ◌<◌}
use Rattle.ffc_term.specs.declared.node.Node.TheVariants.{IteField}
use Rattle.ffc_term.specs.Nodes.{IsNodeAt}
use Rattle.rows_checker.proofs.queries.has_no_ite.Given as goal

abbrev pub invariant-loop-id : goal.invariant-loop-id
invariant-loop-id l = (t c a b : ℕ) → t < l.id → ¬ (IsNodeAt l.table t (IteField c a b))
