use Rattle.std.proofs.Common.{◌≡◌, List, true, false, sym, ap, ◌∙◌}
use Rattle.ffc_term.specs.declared.node.Node.{Node}
use Rattle.ffc_smt.specs.Trees.{Word, Tree, Leaf, Group}
use Rattle.ffc_smt.specs.TreeShapes.{is_parenthesis}
use Rattle.ffc_smt.specs.Scopes.{State, scope_of}
use Rattle.ffc_smt.specs.CommandReading.{assumption_asked}
use Rattle.ffc_words.specs.Words.{IsTreeAt}
use Rattle.ffc_terms.specs.Codes.{IsScope}
use Rattle.ffc_elab.specs.Asked.{ReadsAsked}
use Rattle.ffc_elab.proofs.AskedLemmas.{leaf_word, group_word}
use Rattle.ffc_elab.proofs.assumptions.assumption_at.Goals as goal

pub returns-in-LeftParen : goal.returns-in-LeftParen
returns-in-LeftParen c = λ nodes s tree rest scope at. by_tree nodes s tree rest scope at
  where
    by_tree : (nodes : List Node) (s : State) (tree : Tree) (rest : List Word) → IsScope nodes c.args.symbols.now (scope_of s) → IsTreeAt c.args.words.now c.args.at tree rest
        → ReadsAsked nodes c.args.symbols.now c.args.words.now (assumption_asked s tree) tree c.args.at c.negation_at.result
    by_tree nodes s (Leaf w) rest scope at =
        let q : true ≡ false = ap is_parenthesis (sym c.in-LeftParen.is ∙ c.kind.ensures) ∙ ap (λ v. is_parenthesis v.kind) (leaf_word c.args.words.now c.args.at w rest at) ∙ at.proper in cc
    by_tree nodes s (Group opening items closing) rest scope at = c.negation_at.ensures nodes s opening closing items rest scope at

pub returns-in_default : goal.returns-in_default
returns-in_default c = λ nodes s tree rest scope at. by_tree nodes s tree rest scope at
  where
    by_tree : (nodes : List Node) (s : State) (tree : Tree) (rest : List Word) → IsScope nodes c.args.symbols.now (scope_of s) → IsTreeAt c.args.words.now c.args.at tree rest
        → ReadsAsked nodes c.args.symbols.now c.args.words.now (assumption_asked s tree) tree c.args.at c.name_alone.result
    by_tree nodes s (Leaf w) rest scope at = c.name_alone.ensures nodes s w rest scope at
    by_tree nodes s (Group opening items closing) rest scope at =
        absurd (c.in_default.not-LeftParen (c.kind.ensures ∙ ap (λ v. v.kind) (group_word c.args.words.now c.args.at opening closing items rest at) ∙ at.proper.0))
