-- What reading a list of terms that are asked for answers.
use Rattle.std.specs.Prelude.{◌≡◌, ◌⊎◌, ℕ, ◌+◌, ◌≤◌, Bool, true, false, List, [], ◌∷◌, ◌++◌, drop, sum_by, Result, Ok, Err}
use Rattle.ffc_lex.specs.declared.tokens.TokenKind.{TokenKind}
use Rattle.ffc_lex.specs.declared.tokens.TokenKind.TheVariants as kinds
use Rattle.ffc_term.specs.declared.node.Node.{Node}
use Rattle.ffc_smt.specs.Trees.{Word, Tree, Trees, Empty, items_of}
use Rattle.ffc_smt.specs.Terms.{Asked, Command, GetValue, CheckSatAssuming, weight}
use Rattle.ffc_smt.specs.Faults.{Read, item, last}
use Rattle.ffc_smt.specs.Scopes.{State}
use Rattle.ffc_smt.specs.CommandReading.{limits, each, list_read, asked_read, assumption_asked}
use Rattle.ffc_parts.specs.declared.heads.Head.{Head}
use Rattle.ffc_parts.specs.declared.heads.Head.TheVariants as head
use Rattle.ffc_words.specs.declared.faults.TakeStop.{TakeStop}
use Rattle.ffc_words.specs.declared.faults.TakeStop.TheVariants as stop
use Rattle.ffc_words.specs.Outcomes.{outcome}
use Rattle.ffc_words.specs.Words.{AreItemsAt, fault_of}
use Rattle.ffc_terms.specs.declared.scope.Symbols.{Symbols}
use Rattle.ffc_terms.specs.Codes.{capped_weight}
use Rattle.ffc_elab.specs.declared.asked_lists.Listed.{Listed}
use Rattle.ffc_elab.specs.declared.asked_lists.Listed.TheVariants as listed
use Rattle.ffc_elab.specs.declared.asked_lists.AskedList.{AskedList}
use Rattle.ffc_elab.specs.declared.asked_terms.AskedTerm.{AskedTerm}
use Rattle.ffc_elab.specs.Reading.{AreInOrder, and_then}
use Rattle.ffc_elab.specs.Asked.{IsReadAs}

-- an item of such a list
abbrev pub listed_read : Listed → State → Tree → Read Asked
listed_read listed.Values s t = asked_read limits s t
listed_read listed.Assumptions s t = assumption_asked s t

-- whether the list may be empty
abbrev pub may_be_empty : Listed → Bool
may_be_empty listed.Values = false
may_be_empty listed.Assumptions = true

-- no term comes before this word where there has to be one
abbrev pub IsMissing : Listed → TokenKind → Bool → Type 0
IsMissing which kind true = (may_be_empty which ≡ false) × (kind ≡ kinds.RightParen)
IsMissing which kind false = (may_be_empty which ≡ true) ⊎ (kind ≡ kinds.RightParen → ⊥)

-- the command with such a list
abbrev pub listed_command : Listed → List Asked → Command
listed_command listed.Values asked = GetValue asked
listed_command listed.Assumptions asked = CheckSatAssuming asked

abbrev pub listed_head : Listed → Head
listed_head listed.Values = head.GetValue
listed_head listed.Assumptions = head.CheckSatAssuming

abbrev pub total_weight : List Asked → ℕ
total_weight asked = sum_by (λ a. weight a.term) asked

-- each term of a list with what was read of it
abbrev pub AreReadAs : List Node → Symbols → List Word → List Asked → List AskedTerm → Type 0
AreReadAs nodes symbols words [] [] = Unit {0}
AreReadAs nodes symbols words [] (t ∷ ts) = ⊥
AreReadAs nodes symbols words (a ∷ bs) [] = ⊥
AreReadAs nodes symbols words (a ∷ bs) (t ∷ ts) = IsReadAs nodes symbols words a t × AreReadAs nodes symbols words bs ts

-- The first items of a list were read. The others are at the next place, which is this far, unless there are none.
pub record IsReadSoFar (nodes : List Node) (symbols : Symbols) (words : List Word) (read : Tree → Read Asked) (items : Trees) (closing : Word) (rest : List Word) (far : ℕ) (l : AskedList) : Type 0 where
  pub asked : List Asked
  pub others : Trees
  pub whole : outcome (each read (items_of items)) ≡ and_then (outcome (each read (items_of others))) (λ bs. Ok (asked ++ bs))
  pub at : AreItemsAt words l.next others closing rest
  pub order : AreInOrder (drop l.next words)
  pub terms : AreReadAs nodes symbols words asked l.terms.items
  pub weight_is : l.weight ≡ capped_weight (total_weight asked)
  pub far_enough : (far ≤ l.next) ⊎ (others ≡ Empty)

-- one item more, or the first fault
abbrev pub GoesOn : List Node → Symbols → List Word → (Tree → Read Asked) → Trees → Word → List Word → ℕ → AskedList → Result (Unit {0}) TakeStop → Type 0
GoesOn nodes symbols words read items closing rest far new (Ok u) = IsReadSoFar nodes symbols words read items closing rest (far + 1) new
GoesOn nodes symbols words read items closing rest far new (Err (stop.Fault f)) = outcome (each read (items_of items)) ≡ Err (fault_of f)
GoesOn nodes symbols words read items closing rest far new (Err stop.Memory) = Unit {0}

-- all items were read, and the next place is that of the parenthesis that closes their list
pub record AreRead (nodes : List Node) (symbols : Symbols) (words : List Word) (read : Tree → Read Asked) (items : Trees) (closing : Word) (rest : List Word) (l : AskedList) : Type 0 where
  pub asked : List Asked
  pub whole : outcome (each read (items_of items)) ≡ Ok asked
  pub at : AreItemsAt words l.next Empty closing rest
  pub terms : AreReadAs nodes symbols words asked l.terms.items
  pub weight_is : l.weight ≡ capped_weight (total_weight asked)

abbrev pub ReadsItems : List Node → Symbols → List Word → (Tree → Read Asked) → Trees → Word → List Word → Result AskedList TakeStop → Type 0
ReadsItems nodes symbols words read items closing rest (Ok l) = AreRead nodes symbols words read items closing rest l
ReadsItems nodes symbols words read items closing rest (Err (stop.Fault f)) = outcome (each read (items_of items)) ≡ Err (fault_of f)
ReadsItems nodes symbols words read items closing rest (Err stop.Memory) = Unit {0}

-- the list of a command, and the end
abbrev pub list_alone : Listed → State → Word → List Tree → Read (List Asked × Unit {0})
list_alone l s closing items = item closing (list_read (may_be_empty l) (listed_read l s)) last items

pub record IsListRead (nodes : List Node) (symbols : Symbols) (words : List Word) (which : Listed) (s : State) (items : Trees) (closing : Word) (l : AskedList) : Type 0 where
  pub asked : List Asked
  pub whole : outcome (list_alone which s closing (items_of items)) ≡ Ok (asked, tt)
  pub terms : AreReadAs nodes symbols words asked l.terms.items
  pub weight_is : l.weight ≡ capped_weight (total_weight asked)

abbrev pub ReadsList : List Node → Symbols → List Word → Listed → State → Trees → Word → Result AskedList TakeStop → Type 0
ReadsList nodes symbols words which s items closing (Ok l) = IsListRead nodes symbols words which s items closing l
ReadsList nodes symbols words which s items closing (Err (stop.Fault f)) = outcome (list_alone which s closing (items_of items)) ≡ Err (fault_of f)
ReadsList nodes symbols words which s items closing (Err stop.Memory) = Unit {0}
