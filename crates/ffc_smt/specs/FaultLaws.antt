-- Which fault of a form is answered, for a reader that goes over it once from the left.
use Rattle.std.specs.Prelude.{◌≡◌, ℕ, false, List, ◌∷◌, ◌++◌, Some, All, Contains}
use Rattle.std.specs.List.{AllPairs}
use Rattle.ffc_lex.specs.declared.tokens.Token.{Token}
use Rattle.ffc_lex.specs.Order.{IsPlaceBefore}
use Rattle.ffc_lex.specs.Reading.{forms_of}
use Rattle.ffc_term.specs.declared.node.Sort.{Sort}
use Rattle.ffc_smt.specs.Trees.{Word, Tree, tokens_of, form_tree}
use Rattle.ffc_smt.specs.Meaning.{Env}
use Rattle.ffc_smt.specs.Scopes.{Scope, State}
use Rattle.ffc_smt.specs.Faults.{Fault, is_before, first_fault, faults}
use Rattle.ffc_smt.specs.TermReading.{sort_read, term_read}
use Rattle.ffc_smt.specs.CommandReading.{Limits, command_read}

-- the fault is at one of these tokens
pub record IsAtOneOf (words : List Word) (f : Fault) : Type 0 where
  pub word : Word
  pub among : Contains words word
  pub line : f.line ≡ word.line
  pub column : f.column ≡ word.column

-- Every fault of a tree is at a token of it.
pub record FaultsAreAtTokens : Type 0 where
  pub sorts : (names : Env Sort) (tree : Tree) → All (IsAtOneOf (tokens_of tree)) (faults (sort_read names tree))
  pub terms : (limit : ℕ) (scope : Scope) (locals : Env Sort) (tree : Tree) → All (IsAtOneOf (tokens_of tree)) (faults (term_read limit scope locals tree))
  pub commands : (l : Limits) (s : State) (tree : Tree) → All (IsAtOneOf (tokens_of tree)) (faults (command_read l s tree))

-- a word and one to the right of it or below
abbrev pub IsWordBefore : Word → Word → Type 0
IsWordBefore v w = IsPlaceBefore v.line v.column w.line w.column

-- The places of the tokens of a form's tree increase.
abbrev pub TreesAreInOrder : Type 0
TreesAreInOrder = (text : List ℕ) (form : List Token) (tree : Tree) → Contains (forms_of text) form → form_tree text form ≡ Some tree → AllPairs IsWordBefore (tokens_of tree)

-- a fault to the left of another or above
abbrev pub IsFaultBefore : Fault → Fault → Type 0
IsFaultBefore f g = IsPlaceBefore f.line f.column g.line g.column

-- all faults of one list to the left of all of another
abbrev pub AreAllBefore : List Fault → List Fault → Type 0
AreAllBefore fs gs = All (λ f. All (IsFaultBefore f) gs) fs

pub record FirstFaultIsLeftmost : Type 0 where
  -- it is one of the faults, and none is before it
  pub among : (f : Fault) (fs : List Fault) → Contains (f ∷ fs) (first_fault f fs)
  pub first : (f : Fault) (fs : List Fault) → All (λ g. is_before g (first_fault f fs) ≡ false) (f ∷ fs)
  -- of two lists, all of the one left of all of the other, the left one's counts
  pub left : (f : Fault) (fs gs : List Fault) → AreAllBefore (f ∷ fs) gs → first_fault f (fs ++ gs) ≡ first_fault f fs
  pub right : (f g : Fault) (fs gs : List Fault) → AreAllBefore (f ∷ fs) (g ∷ gs) → first_fault g (gs ++ f ∷ fs) ≡ first_fault f fs
