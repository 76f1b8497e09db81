use Rattle.ffc_trees.specs.FirstLines.{first_lines}
use Rattle.ffc_combination.specs.Generators.{AreKnown}
use Rattle.ffc_combination.specs.Search.{AreKnownIfSome}
use Rattle.ffc_combination.proofs.SearchLemmas.{IsSearched}
use Rattle.ffc_combination.proofs.search.searched.Given as goal

abbrev pub invariant-loop-degree : goal.invariant-loop-degree
invariant-loop-degree g l = record {
  equations : AreKnown g.F.Field.ORDER (first_lines l.check.table.now g.F.Field.ORDER l.choices.equations.literals.items) l.known.equations.items;
  all : AreKnownIfSome g.F.Field.ORDER l.check.table.now l.choices.all l.known.all.items;
  searched : IsSearched g.F.Field.ORDER l.check.table.now l.choices 2 l.degree l.fn.meter l.meter;
}
