-- A machine that makes nodes by code, and its result.
use Rattle.std.specs.Prelude.{◌≡◌, ◌≢◌, ℕ, zero, suc, ◌+◌, ◌≤◌, ◌⊎◌, List, [], ◌∷◌, ◌++◌, length, map, reverse, Option, Some, None, Result, Ok, Err, slice_get}
use Rattle.ffc_term.specs.declared.node.Node.{Node}
use Rattle.ffc_term.specs.declared.node.Node.TheVariants as node
use Rattle.ffc_term.specs.declared.node.Sort.{Sort}
use Rattle.ffc_term.specs.declared.table.TermStop.{TermStop}
use Rattle.ffc_term.specs.Tables.{IsTable, Fits}
use Rattle.ffc_smt.specs.Meaning.{Env}
use Rattle.ffc_smt.specs.Making.{Made, interned, truth_node, applied_made}
use Rattle.ffc_smt.specs.States.{IsTableWith}
use Rattle.ffc_smt.specs.Terms.{Term, weight}
use Rattle.ffc_smt.specs.WellSorted.{IsSoundTerm}
use Rattle.ffc_parts.specs.Growing.{AreTaken, Grows, IsDone, IsLeft}
use Rattle.ffc_parts.specs.declared.operators.Operator.{Operator}
use Rattle.ffc_parts.specs.Operators.{operator_of}
use Rattle.ffc_terms.specs.declared.codes.Op.{Op}
use Rattle.ffc_terms.specs.declared.codes.Op.TheVariants as op
use Rattle.ffc_terms.specs.declared.scope.Macro.{Macro}
use Rattle.ffc_terms.specs.declared.scope.Meaning.{Meaning}
use Rattle.ffc_terms.specs.declared.scope.Meaning.TheVariants as meaning
use Rattle.ffc_terms.specs.Codes.{IsCode}
use Rattle.ffc_terms.specs.Slots.{at_slot}

-- where it goes on after the code of a macro, and where the local variables begin there
pub record Saved : Type 0 where
  pub rest : List Op
  pub base : ℕ

-- the operations to come, where the local variables begin, the calls, the nodes that wait, and the local variables; the last ones last
pub record Making : Type 0 where
  pub rest : List Op
  pub base : ℕ
  pub calls : List Saved
  pub stack : List ℕ
  pub locals : List ℕ

-- so many elements are the last ones of a list, and these are the others
pub record AreLast {A : Type 0} (xs kept last : List A) (n : ℕ) : Type 0 where
  pub whole : xs ≡ kept ++ last
  pub many : length last ≡ n

abbrev pub making : List Op → ℕ → List Saved → List ℕ → List ℕ → Making
making rest base calls stack locals = record { rest = rest; base = base; calls = calls; stack = stack; locals = locals }

abbrev pub saved : List Op → ℕ → Saved
saved rest base = record { rest = rest; base = base }

-- another node waits
abbrev pub waiting : List Op → ℕ → Making → Making
waiting rest id w = making rest w.base w.calls (w.stack ++ id ∷ []) w.locals

-- the last node that waits is the wanted one
pub record HasEnded (wanted : Made) (nodes : List Node) (w : Making) : Type 0 where
  pub outside : w.calls ≡ []
  pub kept : List ℕ
  pub id : ℕ
  pub last : w.stack ≡ kept ++ id ∷ []
  pub is : wanted ≡ record { nodes = nodes; id = id }

-- the code of a macro ends
pub record Returns (Next : List Node → Making → Type 0) (nodes : List Node) (w : Making) : Type 0 where
  pub earlier : List Saved
  pub last : Saved
  pub inside : w.calls ≡ earlier ++ last ∷ []
  pub kept : List ℕ
  pub gone : List ℕ
  pub below : w.locals ≡ kept ++ gone
  pub many : length kept ≡ w.base
  pub next : Next nodes (making last.rest last.base earlier w.stack kept)

pub record Fetches (Next : List Node → Making → Type 0) (nodes : List Node) (w : Making) (rest : List Op) (slot : ℕ) : Type 0 where
  pub id : ℕ
  pub there : slice_get w.locals (w.base + slot) ≡ Some id
  pub next : Next nodes (waiting rest id w)

pub record Applies (Next : List Node → Making → Type 0) (nodes : List Node) (w : Making) (rest : List Op) (f : Operator) (count : ℕ) : Type 0 where
  pub kept : List ℕ
  pub ids : List ℕ
  pub last : AreLast w.stack kept ids count
  pub taken : IsTable nodes → AreTaken (operator_of f) nodes ids
  pub next : Next (applied_made (operator_of f) nodes ids).nodes (making rest w.base w.calls (kept ++ (applied_made (operator_of f) nodes ids).id ∷ []) w.locals)

pub record Binds (Next : List Node → Making → Type 0) (nodes : List Node) (w : Making) (rest : List Op) (count : ℕ) : Type 0 where
  pub kept : List ℕ
  pub ids : List ℕ
  pub last : AreLast w.stack kept ids count
  pub next : Next nodes (making rest w.base w.calls kept (w.locals ++ reverse ids))

pub record Unbinds (Next : List Node → Making → Type 0) (nodes : List Node) (w : Making) (rest : List Op) (count : ℕ) : Type 0 where
  pub kept : List ℕ
  pub gone : List ℕ
  pub last : AreLast w.locals kept gone count
  pub next : Next nodes (making rest w.base w.calls w.stack kept)

pub record Calls (Next : List Node → Making → Type 0) (symbols : Env Meaning) (nodes : List Node) (w : Making) (rest : List Op) (place count : ℕ) : Type 0 where
  pub callee : Macro
  pub there : at_slot (map (λ x. x.1) symbols) place ≡ Some (meaning.Macro callee)
  pub kept : List ℕ
  pub ids : List ℕ
  pub last : AreLast w.stack kept ids count
  pub next : Next nodes (making callee.code.items (length w.locals) (w.calls ++ saved rest w.base ∷ []) kept (w.locals ++ reverse ids))

-- the next operation can be done, and then it goes on like this
abbrev pub Goes : (List Node → Making → Type 0) → Env Meaning → Made → List Node → Making → List Op → Type 0
Goes Next symbols wanted nodes w [] = HasEnded wanted nodes w ⊎ Returns Next nodes w
Goes Next symbols wanted nodes w (op.Truth b ∷ rest) = Next (interned nodes (truth_node b)).nodes (waiting rest (interned nodes (truth_node b)).id w)
Goes Next symbols wanted nodes w (op.Number n p ∷ rest) = Fits nodes (node.Num n p) × Next (interned nodes (node.Num n p)).nodes (waiting rest (interned nodes (node.Num n p)).id w)
Goes Next symbols wanted nodes w (op.Known id ∷ rest) = Next nodes (waiting rest id w)
Goes Next symbols wanted nodes w (op.Local slot ∷ rest) = Fetches Next nodes w rest slot
Goes Next symbols wanted nodes w (op.Apply f count ∷ rest) = Applies Next nodes w rest f count
Goes Next symbols wanted nodes w (op.Bind count ∷ rest) = Binds Next nodes w rest count
Goes Next symbols wanted nodes w (op.Unbind count ∷ rest) = Unbinds Next nodes w rest count
Goes Next symbols wanted nodes w (op.Call place count ∷ rest) = Calls Next symbols nodes w rest place count

-- within so many steps it makes what is wanted
abbrev pub GoesOn : ℕ → Env Meaning → Made → List Node → Making → Type 0
GoesOn zero symbols wanted nodes w = ⊥
GoesOn (suc n) symbols wanted nodes w = Goes (GoesOn n symbols wanted) symbols wanted nodes w w.rest

-- the next operation can be done in a table
pub record CanGo (symbols : Env Meaning) (nodes : List Node) (w : Making) : Type 0 where
  pub steps : ℕ
  pub wanted : Made
  pub goes : GoesOn (suc steps) symbols wanted nodes w

-- the code of a macro ends, or a node waits
abbrev pub CanEnd : Making → Type 0
CanEnd w = w.calls ≡ [] → w.stack ≢ []

-- the name at this place is that of a macro
abbrev pub IsMacroAt : Env Meaning → ℕ → Type 0
IsMacroAt symbols place = (callee : Macro) × (at_slot (map (λ x. x.1) symbols) place ≡ Some (meaning.Macro callee))

pub record CanAct (symbols : Env Meaning) (nodes : List Node) (w : Making) (o : Op) : Type 0 where
  pub steps : ℕ
  pub wanted : Made
  pub goes : Goes (GoesOn steps symbols wanted) symbols wanted nodes w (o ∷ w.rest)

-- what an operation leaves
abbrev pub Acts : ℕ → Env Meaning → Made → List Node → List Node → Making → Result (Unit {0}) TermStop → Type 0
Acts n symbols wanted old new w (Ok u) = GoesOn n symbols wanted new w × Grows old new
Acts n symbols wanted old new w (Err cause) = IsLeft old new wanted cause

-- what a step leaves
abbrev pub Steps : ℕ → Env Meaning → Made → List Node → List Node → Making → Result (Option ℕ) TermStop → Type 0
Steps n symbols wanted old new w (Ok None) = GoesOn n symbols wanted new w × Grows old new
Steps n symbols wanted old new w (Ok (Some id)) = IsDone old new wanted id
Steps n symbols wanted old new w (Err cause) = IsLeft old new wanted cause

-- a node is put, and waits
abbrev pub Puts : List Node → List Node → Made → Making → Making → Result (Unit {0}) TermStop → Type 0
Puts old new wanted before after (Ok u) = (wanted.nodes ≡ new) × Grows old new × (before ≡ after)
Puts old new wanted before after (Err cause) = IsLeft old new wanted cause

-- a function can be applied to so many of the last nodes that wait
pub record CanApply (nodes : List Node) (stack : List ℕ) (f : Operator) (count : ℕ) : Type 0 where
  pub kept : List ℕ
  pub ids : List ℕ
  pub last : AreLast stack kept ids count
  pub taken : AreTaken (operator_of f) nodes ids

-- the first operation, and the others
abbrev pub Takes : Making → Making → Option Op → Type 0
Takes old new None = (old.rest ≡ []) × (new ≡ old)
Takes old new (Some o) = (old.rest ≡ o ∷ new.rest) × (making old.rest new.base new.calls new.stack new.locals ≡ old)

-- a sound term that is not heavier than a limit, and its code over this table
pub record IsCodeOf (nodes : List Node) (symbols : Env Meaning) (t : Term) (limit : ℕ) (code : List Op) : Type 0 where
  pub constants : List Sort
  pub count : ℕ
  pub sort : Sort
  pub table : IsTableWith constants count nodes
  pub sound : IsSoundTerm constants nodes [] t sort
  pub is : IsCode nodes symbols [] t code
  pub light : weight t ≤ limit

-- within so many steps it reaches its end
pub record CanRun (symbols : Env Meaning) (nodes : List Node) (w : Making) (limit : ℕ) : Type 0 where
  pub steps : ℕ
  pub wanted : Made
  pub few : steps ≤ limit
  pub goes : GoesOn steps symbols wanted nodes w

-- what the steps up to the end leave
abbrev pub Runs : Made → List Node → List Node → Result (Option ℕ) TermStop → Type 0
Runs wanted old new (Ok None) = ⊥
Runs wanted old new (Ok (Some id)) = IsDone old new wanted id
Runs wanted old new (Err cause) = IsLeft old new wanted cause
