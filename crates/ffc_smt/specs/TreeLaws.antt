-- Every form of a text is one tree.
use Rattle.std.specs.Prelude.{◌≡◌, ℕ, List, Some, All}
use Rattle.ffc_lex.specs.Reading.{forms_of}
use Rattle.ffc_smt.specs.Trees.{Word, Tree, tokens_of, tree_of, form_tree}

-- the tokens of a tree are those that it was read from
abbrev pub TreesKeepTokens : Type 0
TreesKeepTokens = (words : List Word) (tree : Tree) → tree_of words ≡ Some tree → tokens_of tree ≡ words

-- every form of a text has a tree
abbrev pub FormsAreTrees : Type 0
FormsAreTrees = (text : List ℕ) → All (λ form. (tree : Tree) × (form_tree text form ≡ Some tree)) (forms_of text)
