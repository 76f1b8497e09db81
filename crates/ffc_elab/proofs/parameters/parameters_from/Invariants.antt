use Rattle.std.proofs.Common.{◌≡◌, ◌≤◌, List, drop}
use Rattle.ffc_smt.specs.Trees.{Word, Trees}
use Rattle.ffc_smt.specs.Scopes.{State, scope_of}
use Rattle.ffc_words.specs.Words.{AreItemsAt}
use Rattle.ffc_elab.specs.Reading.{AreInOrder}
use Rattle.ffc_elab.proofs.ParameterLists.{IsUnderway}
use Rattle.ffc_elab.proofs.parameters.parameters_from.Given as goal

abbrev pub invariant-loop : goal.invariant-loop
invariant-loop l = (s : State) (items : Trees) (closing : Word) (rest : List Word) → l.sorts ≡ (scope_of s).sorts → AreItemsAt l.words l.at items closing rest → AreInOrder (drop l.at l.words)
    → IsUnderway s l.words l.at items closing rest l.read l.next × (l.counter ≤ l.next)
