use Rattle.std.proofs.Common.{List, drop}
use Rattle.ffc_smt.specs.Terms as smt
use Rattle.ffc_elab.specs.AskedNodes.{AreToMake}
use Rattle.ffc_elab.proofs.AskedNodeLemmas.{IsMakingSoFar}
use Rattle.ffc_elab.proofs.asked_nodes.make_each.Given as goal

abbrev pub invariant-loop-term : goal.invariant-loop-term
invariant-loop-term l = (asked : List smt.Asked) → AreToMake l.words l.initial.table l.symbols asked l.terms
    → IsMakingSoFar l.words l.initial.table l.table l.symbols asked (drop l.term-index l.terms) l.asked.items
