-- What reading a definition answers, part by part.
use Rattle.std.specs.Prelude.{◌≡◌, ℕ, ◌+◌, List, [], ◌∷◌, ◌++◌, length, map, reverse, is_some, Result, Ok, Err}
use Rattle.std.specs.Borrow.{Bor}
use Rattle.ffc_term.specs.declared.node.Node.{Node}
use Rattle.ffc_term.specs.declared.node.Sort.{Sort}
use Rattle.ffc_smt.specs.Trees.{Word, Tree, Leaf, Group, Trees, Empty, First, items_of, tokens_of, tokens_of_items}
use Rattle.ffc_smt.specs.Faults.{Fault, word_fault, Read, Sound, read_map, last, item}
use Rattle.ffc_smt.specs.Meaning.{Env, found}
use Rattle.ffc_smt.specs.Scopes.{State, scope_of}
use Rattle.ffc_smt.specs.Terms as smt
use Rattle.ffc_smt.specs.Terms.{Name, Term, Parameter, height, weight}
use Rattle.ffc_smt.specs.TermReading.{sort_read}
use Rattle.ffc_smt.specs.CommandReading.{fresh_read, limits, parameter_read, parameters_of, parameters_read, term_of_sort}
use Rattle.ffc_lex.specs.declared.faults.ScriptFault.{ScriptFault}
use Rattle.ffc_words.specs.declared.faults.TakeStop.{TakeStop}
use Rattle.ffc_words.specs.declared.faults.TakeStop.TheVariants as stop
use Rattle.ffc_words.specs.Outcomes.{outcome}
use Rattle.ffc_words.specs.Words.{fault_of}
use Rattle.ffc_terms.specs.declared.scope.Symbols.{Symbols}
use Rattle.ffc_terms.specs.declared.terms.TermRead.{TermRead}
use Rattle.ffc_terms.specs.Codes.{IsCode, capped_weight}
use Rattle.ffc_elab.specs.declared.defining.Definition.{Definition}
use Rattle.ffc_elab.specs.declared.parameters.Parameters.{Parameters}
use Rattle.ffc_elab.specs.Reading.{and_then}

-- a name that is new among these
abbrev pub new_among : Env Sort → Tree → Read Name
new_among names t = fresh_read (λ name. is_some (found names name)) t

-- one sort, with which a list ends
abbrev pub one_sort : Env Sort → Word → Trees → Result Sort Fault
one_sort sorts closing items = outcome (read_map (λ p. p.0) (item closing (sort_read sorts) last (items_of items)))

-- a parameter after those of these names, or its first fault
abbrev pub parameter_after : Env Sort → Env Sort → Tree → Result (Name × Sort) Fault
parameter_after sorts names (Leaf w) = Err (word_fault 5 w)
parameter_after sorts names (Group o Empty c) = Err (word_fault 5 c)
parameter_after sorts names (Group o (First x rest) c) = and_then (outcome (new_among names x)) (λ name. and_then (one_sort sorts c rest) (λ sort. Ok (name, sort)))

-- one sort with which a list ends, and the place after its end
pub record IsClosedSort (sorts : Env Sort) (items : Trees) (closing : Word) (at : ℕ) (sort : Sort) (next : ℕ) : Type 0 where
  pub reads : one_sort sorts closing items ≡ Ok sort
  pub next_is : next ≡ at + length (tokens_of_items items ++ closing ∷ [])

abbrev pub ReadsClosedSort : Env Sort → Trees → Word → ℕ → Result (Sort × ℕ) ScriptFault → Type 0
ReadsClosedSort sorts items closing at (Ok r) = IsClosedSort sorts items closing at r.0 r.1
ReadsClosedSort sorts items closing at (Err f) = one_sort sorts closing items ≡ Err (fault_of f)

-- a parameter, and the place after it
pub record IsParameterAfter (sorts names : Env Sort) (tree : Tree) (at : ℕ) (name : Name) (sort : Sort) (next : ℕ) : Type 0 where
  pub reads : parameter_after sorts names tree ≡ Ok (name, sort)
  pub next_is : next ≡ at + length (tokens_of tree)

abbrev pub ReadsParameter : Env Sort → Env Sort → Tree → ℕ → Result (Bor Name × Sort × ℕ) ScriptFault → Type 0
ReadsParameter sorts names tree at (Ok r) = IsParameterAfter sorts names tree at r.0.now r.1 r.2
ReadsParameter sorts names tree at (Err f) = parameter_after sorts names tree ≡ Err (fault_of f)

-- it is the last of these parameters now
pub record IsAdded (sorts : Env Sort) (old new : Parameters) (tree : Tree) (at next : ℕ) : Type 0 where
  pub name : Name
  pub sort : Sort
  pub it : IsParameterAfter sorts old.names tree at name sort next
  pub names : new.names ≡ (name, sort) ∷ old.names
  pub sorts_are : new.sorts.items ≡ old.sorts.items ++ sort ∷ []

abbrev pub Adds : Env Sort → Parameters → Parameters → Tree → ℕ → Result ℕ TakeStop → Type 0
Adds sorts old new tree at (Ok next) = IsAdded sorts old new tree at next
Adds sorts old new tree at (Err (stop.Fault f)) = parameter_after sorts old.names tree ≡ Err (fault_of f)
Adds sorts old new tree at (Err stop.Memory) = Unit {0}

-- a parameter with its sort
abbrev pub pair_of : Parameter → Name × Sort
pair_of p = (p.name, p.sort)

-- all parameters of a list, and the place after so many words
pub record AreParameters (read : Read (List Parameter)) (at words : ℕ) (p : Parameters) (next : ℕ) : Type 0 where
  pub parameters : List Parameter
  pub sound : read ≡ Sound parameters
  pub names : p.names ≡ reverse (map pair_of parameters)
  pub sorts_are : p.sorts.items ≡ map (λ p. p.sort) parameters
  pub next_is : next ≡ at + words

abbrev pub ReadsParameters : Read (List Parameter) → ℕ → ℕ → Result (Parameters × ℕ) TakeStop → Type 0
ReadsParameters read at words (Ok r) = AreParameters read at words r.0 r.1
ReadsParameters read at words (Err (stop.Fault f)) = outcome read ≡ Err (fault_of f)
ReadsParameters read at words (Err stop.Memory) = Unit {0}

-- from the place after the parenthesis that opens their list
abbrev pub ReadsInside : State → Trees → Word → ℕ → Result (Parameters × ℕ) TakeStop → Type 0
ReadsInside s items closing at r = ReadsParameters (parameters_of (map (parameter_read s) (items_of items))) at (length (tokens_of_items items ++ closing ∷ [])) r

-- their list, which others follow; code 5 where there is none
abbrev pub ReadsParameterItem : State → Trees → Word → ℕ → Result (Parameters × ℕ) TakeStop → Type 0
ReadsParameterItem s Empty closing at (Ok r) = ⊥
ReadsParameterItem s Empty closing at (Err (stop.Fault f)) = word_fault 5 closing ≡ fault_of f
ReadsParameterItem s Empty closing at (Err stop.Memory) = Unit {0}
ReadsParameterItem s (First t ts) closing at r = ReadsParameters (parameters_read s t) at (length (tokens_of t)) r

-- a sort that others follow, and the place after it; code 5 where there is none
abbrev pub ReadsSortItem : Env Sort → Trees → Word → ℕ → Result (Sort × ℕ) ScriptFault → Type 0
ReadsSortItem sorts Empty closing at (Ok r) = ⊥
ReadsSortItem sorts (First t ts) closing at (Ok r) = (outcome (sort_read sorts t) ≡ Ok r.0) × (r.1 ≡ at + length (tokens_of t))
ReadsSortItem sorts Empty closing at (Err f) = word_fault 5 closing ≡ fault_of f
ReadsSortItem sorts (First t ts) closing at (Err f) = outcome (sort_read sorts t) ≡ Err (fault_of f)

-- the sort and the body of a definition with these parameters
abbrev pub body_after : State → List Parameter → Word → Trees → Result (Sort × Term) Fault
body_after s ps closing Empty = Err (word_fault 5 closing)
body_after s ps closing (First r rest) =
    and_then (outcome (sort_read (scope_of s).sorts r)) (λ sort.
    and_then (outcome (read_map (λ p. p.0) (item closing (term_of_sort limits s ps sort) last (items_of rest)))) (λ t. Ok (sort, t)))

pub record IsBody (nodes : List Node) (symbols : Symbols) (ps : List Parameter) (wanted : Result (Sort × Term) Fault) (sort : Sort) (t : TermRead) : Type 0 where
  pub term : Term
  pub reads : wanted ≡ Ok (sort, term)
  pub code : IsCode nodes symbols.terms (map (λ p. p.name) ps) term t.code.items
  pub height_is : t.height ≡ height term
  pub weight_is : t.weight ≡ capped_weight (weight term)

abbrev pub ReadsBody : List Node → Symbols → List Parameter → Result (Sort × Term) Fault → Result (Sort × TermRead) TakeStop → Type 0
ReadsBody nodes symbols ps wanted (Ok r) = IsBody nodes symbols ps wanted r.0 r.1
ReadsBody nodes symbols ps wanted (Err (stop.Fault f)) = wanted ≡ Err (fault_of f)
ReadsBody nodes symbols ps wanted (Err stop.Memory) = Unit {0}

-- a definition with what makes its node, or what its calls do
pub record IsDefinitionRead (nodes : List Node) (symbols : Symbols) (read : Read smt.Command) (d : Definition) : Type 0 where
  pub parameters : List Parameter
  pub term : Term
  pub sound : read ≡ Sound (smt.Define d.name.now parameters d.sort term)
  pub sorts_are : d.parameters.items ≡ map (λ p. p.sort) parameters
  pub code : IsCode nodes symbols.terms (map (λ p. p.name) parameters) term d.body.code.items
  pub height_is : d.body.height ≡ height term
  pub weight_is : d.body.weight ≡ capped_weight (weight term)

abbrev pub ReadsDefinition : List Node → Symbols → Read smt.Command → Result Definition TakeStop → Type 0
ReadsDefinition nodes symbols read (Ok d) = IsDefinitionRead nodes symbols read d
ReadsDefinition nodes symbols read (Err (stop.Fault f)) = outcome read ≡ Err (fault_of f)
ReadsDefinition nodes symbols read (Err stop.Memory) = Unit {0}
