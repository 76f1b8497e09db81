-- What reading a term of a known sort answers.
use Rattle.std.specs.Prelude.{◌≡◌, ℕ, ◌+◌, List, length, map, Result, Ok, Err}
use Rattle.ffc_term.specs.declared.node.Node.{Node}
use Rattle.ffc_term.specs.declared.node.Sort.{Sort}
use Rattle.ffc_smt.specs.Trees.{Tree, tokens_of}
use Rattle.ffc_smt.specs.Terms.{Term, height, weight}
use Rattle.ffc_smt.specs.Meaning.{Env}
use Rattle.ffc_smt.specs.Faults.{Read, Sound}
use Rattle.ffc_words.specs.declared.faults.TakeStop.{TakeStop}
use Rattle.ffc_words.specs.declared.faults.TakeStop.TheVariants as stop
use Rattle.ffc_words.specs.Outcomes.{outcome}
use Rattle.ffc_words.specs.Words.{fault_of}
use Rattle.ffc_terms.specs.declared.scope.Symbols.{Symbols}
use Rattle.ffc_terms.specs.declared.terms.TermRead.{TermRead}
use Rattle.ffc_terms.specs.Codes.{IsCode, capped_weight}

-- the term that a tree reads as, what makes its node, and the place after the tree
pub record IsTermOfSort (nodes : List Node) (symbols : Symbols) (locals : Env Sort) (wanted : Sort) (read : Read Term) (tree : Tree) (at : ℕ) (t : TermRead) : Type 0 where
  pub term : Term
  pub sound : read ≡ Sound term
  pub code : IsCode nodes symbols.terms (map (λ x. x.0) locals) term t.code.items
  pub sort : t.sort ≡ wanted
  pub height_is : t.height ≡ height term
  pub weight_is : t.weight ≡ capped_weight (weight term)
  pub next : t.next ≡ at + length (tokens_of tree)

-- the term, or its first fault
abbrev pub ReadsOfSort : List Node → Symbols → Env Sort → Sort → Read Term → Tree → ℕ → Result TermRead TakeStop → Type 0
ReadsOfSort nodes symbols locals wanted read tree at (Ok t) = IsTermOfSort nodes symbols locals wanted read tree at t
ReadsOfSort nodes symbols locals wanted read tree at (Err (stop.Fault f)) = outcome read ≡ Err (fault_of f)
ReadsOfSort nodes symbols locals wanted read tree at (Err stop.Memory) = Unit {0}

-- the term that a part of a form reads as, and what makes its node
pub record IsReadTerm (nodes : List Node) (symbols : Symbols) (locals : Env Sort) (read : Read Term) (t : TermRead) : Type 0 where
  pub term : Term
  pub sound : read ≡ Sound term
  pub code : IsCode nodes symbols.terms (map (λ x. x.0) locals) term t.code.items
  pub height_is : t.height ≡ height term
  pub weight_is : t.weight ≡ capped_weight (weight term)

-- the term, or the first fault
abbrev pub ReadsAsTerm : List Node → Symbols → Env Sort → Read Term → Result TermRead TakeStop → Type 0
ReadsAsTerm nodes symbols locals read (Ok t) = IsReadTerm nodes symbols locals read t
ReadsAsTerm nodes symbols locals read (Err (stop.Fault f)) = outcome read ≡ Err (fault_of f)
ReadsAsTerm nodes symbols locals read (Err stop.Memory) = Unit {0}
