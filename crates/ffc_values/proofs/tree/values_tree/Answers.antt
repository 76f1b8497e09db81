use Rattle.std.proofs.Common.{ℕ, List, [], ◌∷◌, map, subst}
use Rattle.ffc_refutation.specs.Written.{multiple_of}
use Rattle.ffc_values.specs.Written.{Adds, quotients}
use Rattle.ffc_values.proofs.Steps.{tree_written}
use Rattle.ffc_values.proofs.tree.values_tree.Goals as goal

pub returns-clause-lines : goal.returns-clause-lines
returns-clause-lines g c =
    tree_written g.F.Field.ORDER c.args.first c.args.variables.now c.args.determined.items c.args.line c.args.inverse.now c.args.sides.now c.new-sums.result c.write_knowns.new.sums c.add.new.self c.divide.new.sums c.in_ok-lines.lines.items c.in_ok-knowns.knowns.items
    c.new-sums.ensures.first c.new-sums.ensures.lines c.in_ok-knowns.ensures.first c.in_ok-knowns.ensures.lines c.in_ok-knowns.ensures.pending c.in_ok-knowns.ensures.knowns
    (subst (λ (m : List (ℕ × ℕ)). Adds (multiple_of (c.args.line, (1, m)) ∷ []) c.write_knowns.new.sums c.add.new.self) c.new.ensures c.in_ok-add.ensures.adds)
    (subst (λ ks. Adds (map multiple_of (quotients g.F.Field.ORDER ks c.args.inverse.now c.args.sides.now)) c.add.new.self c.divide.new.sums) c.as_slice.ensures.value c.in_ok-divide.ensures.adds)
    c.in_ok-lines.ensures
