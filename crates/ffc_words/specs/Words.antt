-- Places in a form: the word at a place, and the tree or the items that begin there.
use Rattle.std.specs.Prelude.{◌≡◌, ℕ, List, [], ◌∷◌, ◌++◌, drop, slice_index_or}
use Rattle.ffc_lex.specs.declared.tokens.TokenKind.TheVariants.{RightParen}
use Rattle.ffc_smt.specs.Trees.{Word, Tree, Trees, tokens_of, tokens_of_items}
use Rattle.ffc_smt.specs.TreeShapes.{IsProper, AreProper}
use Rattle.ffc_smt.specs.Faults.{Fault}
use Rattle.ffc_lex.specs.declared.faults.ScriptFault.{ScriptFault}

-- where there is none
abbrev pub no_word : Word
no_word = record { kind = RightParen; bytes = []; line = 0; column = 0 }

abbrev pub word_at : List Word → ℕ → Word
word_at words i = slice_index_or words i no_word

-- a tree begins at this place, and these words follow it
pub record IsTreeAt (words : List Word) (i : ℕ) (tree : Tree) (rest : List Word) : Type 0 where
  pub text : drop i words ≡ tokens_of tree ++ rest
  pub proper : IsProper tree

-- items begin at this place, and then the parenthesis that closes their list and these words follow
pub record AreItemsAt (words : List Word) (i : ℕ) (items : Trees) (closing : Word) (rest : List Word) : Type 0 where
  pub text : drop i words ≡ tokens_of_items items ++ closing ∷ rest
  pub proper : AreProper items
  pub closed : closing.kind ≡ RightParen

-- the fault that is meant
abbrev pub fault_of : ScriptFault → Fault
fault_of f = record { line = f.line; column = f.column; code = f.code }
