use Rattle.std.proofs.Common.{◌≡◌, take}
use Rattle.ffc_trees.specs.FirstLines.{first_lines}
use Rattle.ffc_combination.specs.Generators.{AreGeneratorsOf}
use Rattle.ffc_combination.proofs.generators.generators_of.Given as goal

abbrev pub invariant-loop-place : goal.invariant-loop-place
invariant-loop-place g l = record {
  of_table : l.polynomials ≡ l.table;
  all : AreGeneratorsOf g.F.Field.ORDER (first_lines l.table g.F.Field.ORDER (take l.place l.literals)) l.generators.items;
}
