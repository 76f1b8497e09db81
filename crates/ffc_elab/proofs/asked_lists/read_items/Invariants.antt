use Rattle.std.proofs.Common.{List, drop}
use Rattle.ffc_term.specs.declared.node.Node.{Node}
use Rattle.ffc_smt.specs.Trees.{Trees, Word}
use Rattle.ffc_smt.specs.Scopes.{State, scope_of}
use Rattle.ffc_words.specs.Words.{AreItemsAt}
use Rattle.ffc_terms.specs.Codes.{IsScope}
use Rattle.ffc_elab.specs.Reading.{AreInOrder}
use Rattle.ffc_elab.specs.AskedLists.{IsReadSoFar, listed_read}
use Rattle.ffc_elab.proofs.asked_lists.read_items.Given as goal

abbrev pub invariant-loop : goal.invariant-loop
invariant-loop l = (nodes : List Node) (s : State) (items : Trees) (closing : Word) (rest : List Word) → IsScope nodes l.symbols (scope_of s)
    → AreItemsAt l.words l.fn.at items closing rest → AreInOrder (drop l.fn.at l.words)
    → IsReadSoFar nodes l.symbols l.words (listed_read l.listed s) items closing rest l.counter l.list
