-- What reading one term that is asked for answers: a term of `get-value`, or an assumption.
use Rattle.std.specs.Prelude.{◌≡◌, ℕ, ◌+◌, ◌^◌, ◌-◌, min, Bool, true, false, List, [], ◌∷◌, ◌++◌, length, codes, Result, Ok, Err}
use Rattle.ffc_term.specs.declared.node.Node.{Node}
use Rattle.ffc_smt.specs.Trees.{Word, Tree, Leaf, Trees, Empty, First, items_of, tokens_of}
use Rattle.ffc_smt.specs.Terms.{Asked, weight}
use Rattle.ffc_smt.specs.Faults.{Read, Sound, faulty}
use Rattle.ffc_smt.specs.Scopes.{State}
use Rattle.ffc_smt.specs.TermReading.{is_named}
use Rattle.ffc_smt.specs.CommandReading.{assumption_of}
use Rattle.ffc_parts.specs.declared.operators.Operator.TheVariants as operator
use Rattle.ffc_words.specs.declared.faults.TakeStop.{TakeStop}
use Rattle.ffc_words.specs.declared.faults.TakeStop.TheVariants as stop
use Rattle.ffc_words.specs.Outcomes.{outcome}
use Rattle.ffc_words.specs.Words.{IsTreeAt, fault_of}
use Rattle.ffc_terms.specs.declared.codes.Op.TheVariants as op
use Rattle.ffc_terms.specs.declared.scope.Symbols.{Symbols}
use Rattle.ffc_terms.specs.declared.terms.TermRead.{TermRead}
use Rattle.ffc_terms.specs.Codes.{IsCode, capped_weight}
use Rattle.ffc_elab.specs.declared.asked_terms.AskedTerm.{AskedTerm}

-- the code makes the term's node, and the term was written at these words
pub record IsReadAs (nodes : List Node) (symbols : Symbols) (words : List Word) (a : Asked) (t : AskedTerm) : Type 0 where
  pub code : IsCode nodes symbols.terms [] a.term t.code.items
  pub weight_is : t.weight ≡ capped_weight (weight a.term)
  pub rest : List Word
  pub written : IsTreeAt words t.at a.tree rest
  pub next : t.next ≡ t.at + length (tokens_of a.tree)

-- the term that a tree at this place reads as
pub record IsAskedAt (nodes : List Node) (symbols : Symbols) (words : List Word) (read : Read Asked) (tree : Tree) (at : ℕ) (t : AskedTerm) : Type 0 where
  pub asked : Asked
  pub sound : read ≡ Sound asked
  pub tree_is : asked.tree ≡ tree
  pub place : t.at ≡ at
  pub term : IsReadAs nodes symbols words asked t

-- the term, or its first fault
abbrev pub ReadsAsked : List Node → Symbols → List Word → Read Asked → Tree → ℕ → Result AskedTerm TakeStop → Type 0
ReadsAsked nodes symbols words read tree at (Ok t) = IsAskedAt nodes symbols words read tree at t
ReadsAsked nodes symbols words read tree at (Err (stop.Fault f)) = outcome read ≡ Err (fault_of f)
ReadsAsked nodes symbols words read tree at (Err stop.Memory) = Unit {0}

-- Two words, of which the first is `not`. Where the items are others, no assumption is read.
abbrev pub IsNegation : Trees → Bool → Type 0
IsNegation items true = (head : Word) × (w : Word) × (items ≡ First (Leaf head) (First (Leaf w) Empty)) × (is_named (codes "not") head ≡ true)
IsNegation items false = (s : State) (opening : Word) → assumption_of s opening (items_of items) ≡ faulty 5 opening

-- one operation more and one more in weight, for the words between these places
pub record Negates (old : TermRead) (at next : ℕ) (new : AskedTerm) : Type 0 where
  pub code : new.code.items ≡ old.code.items ++ op.Apply operator.Not 1 ∷ []
  pub weight_is : new.weight ≡ min (old.weight + 1) (2 ^ 32 - 1)
  pub at_is : new.at ≡ at
  pub next_is : new.next ≡ next
