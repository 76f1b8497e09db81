-- What every state of a script keeps: its nodes are a table that has its constants, and all its terms are sound.
use Rattle.std.specs.Prelude.{◌≡◌, ℕ, ◌≤◌, List, [], length, Some, All, Contains, slice_get}
use Rattle.ffc_field.specs.Orders.{IsOrder}
use Rattle.ffc_term.specs.declared.node.Node.{Node}
use Rattle.ffc_term.specs.declared.node.Sort.{Sort}
use Rattle.ffc_term.specs.declared.node.Sort.TheVariants as sort
use Rattle.ffc_term.specs.declared.value.Value.{Value}
use Rattle.ffc_term.specs.Nodes.{sort_at}
use Rattle.ffc_term.specs.Tables.{IsTable, constant_count, most_nodes}
use Rattle.ffc_smt.specs.Trees.{Tree}
use Rattle.ffc_smt.specs.Terms.{Name, Term, Command}
use Rattle.ffc_smt.specs.Meaning.{Env, found, Element, val}
use Rattle.ffc_smt.specs.Making.{constant_node, made}
use Rattle.ffc_smt.specs.Law.{Means, Agree}
use Rattle.ffc_smt.specs.Bounds.{IsMade, AreDefined}
use Rattle.ffc_smt.specs.Scopes.{Meant, AsConstant, AsTerm, AsMacro, Scope, Assertion, Level, State, first_state, scope_of}
use Rattle.ffc_smt.specs.Faults.{Sound}
use Rattle.ffc_smt.specs.TermReading.{Sorted, term_read}
use Rattle.ffc_smt.specs.CommandReading.{Limits, command_read}
use Rattle.ffc_smt.specs.Scripts.{after, reads_within}
use Rattle.ffc_smt.specs.Sorting.{AreOfSorts, sorts_of_parameters}
use Rattle.ffc_smt.specs.WellSorted.{IsSoundTerm}

-- a table with these constants' nodes among its nodes, and with so many constants
pub record IsTableWith (constants : List Sort) (count : ℕ) (nodes : List Node) : Type 0 where
  pub table : IsTable nodes
  pub declared : (k : ℕ) (s : Sort) → slice_get constants k ≡ Some s → Contains nodes (constant_node k s)
  pub counted : constant_count nodes ≡ count

-- a term of this sort without variables, which was made
abbrev pub IsMadeTerm : List Sort → List Node → Term → Sort → Type 0
IsMadeTerm constants nodes t s = IsSoundTerm constants nodes [] t s × IsMade nodes t

abbrev pub IsSoundMeant : List Sort → List Node → Meant → Type 0
IsSoundMeant constants nodes (AsConstant k s) = slice_get constants k ≡ Some s
IsSoundMeant constants nodes (AsTerm s t) = IsMadeTerm constants nodes t s
IsSoundMeant constants nodes (AsMacro parameters s t) = IsSoundTerm constants nodes (sorts_of_parameters parameters) t s

-- `Bool`, or of one of the solver's orders
abbrev pub IsSoundSort : Sort → Type 0
IsSoundSort sort.Bool = Unit {0}
IsSoundSort (sort.Field p) = IsOrder p

pub record IsSoundScope (constants : List Sort) (nodes : List Node) (scope : Scope) : Type 0 where
  pub names : (name : Name) (m : Meant) → found scope.names name ≡ Some m → IsSoundMeant constants nodes m
  pub sorts : (name : Name) (s : Sort) → found scope.sorts name ≡ Some s → IsSoundSort s

abbrev pub IsSoundAssertion : List Sort → List Node → Assertion → Type 0
IsSoundAssertion constants nodes a = IsMadeTerm constants nodes a.term sort.Bool

pub record IsSoundLevel (constants : List Sort) (nodes : List Node) (l : Level) : Type 0 where
  pub names : All (λ x. IsSoundMeant constants nodes x.1) l.names
  pub sorts : All (λ x. IsSoundSort x.1) l.sorts
  pub asserted : All (IsSoundAssertion constants nodes) l.asserted

pub record IsSoundState (s : State) : Type 0 where
  pub nodes : IsTableWith s.constants (length s.constants) s.nodes
  pub levels : All (IsSoundLevel s.constants s.nodes) s.levels
  pub base : IsSoundLevel s.constants s.nodes s.base

-- A term that is read is sound, where the names in scope are.
abbrev pub ReadTermsAreSound : Type 0
ReadTermsAreSound = (limit : ℕ) (scope : Scope) (locals : Env Sort) (tree : Tree) (t : Sorted) (constants : List Sort) (nodes : List Node)
    → IsSoundScope constants nodes scope → term_read limit scope locals tree ≡ Sound t → IsSoundTerm constants nodes locals t.term t.sort

-- A sound term makes a table of a table, unless too many nodes, and its node means the term under every assignment.
abbrev pub SoundTermsMakeTables : Type 0
SoundTermsMakeTables = (t : Term) (s : Sort) (constants : List Sort) (before : List Node) (locals : Env Sort) → IsSoundTerm constants before locals t s
    → (ids : Env ℕ) (env : Env Element) (nodes : List Node) (count : ℕ) (assignment : List Value)
    → Agree nodes assignment ids env → AreOfSorts locals env → IsTableWith constants count nodes → length (made ids nodes t).nodes ≤ most_nodes
    → IsTableWith constants count (made ids nodes t).nodes
    × Means (made ids nodes t).nodes assignment (made ids nodes t).id (val env assignment t) × (sort_at (made ids nodes t).nodes (made ids nodes t).id ≡ s)

-- The first state is sound, and each command keeps that.
pub record CommandsKeepStates : Type 0 where
  pub first : IsSoundState first_state
  pub scope : (s : State) → IsSoundState s → IsSoundScope s.constants s.nodes (scope_of s)
  pub next : (l : Limits) (s : State) (tree : Tree) (c : Command) → l.nodes ≤ most_nodes → IsSoundState s → command_read l s tree ≡ Sound c → IsSoundState (after s tree c)

-- Before and after every command of a script the state is sound.
abbrev pub ScriptsKeepStates : Type 0
ScriptsKeepStates = (l : Limits) (text : List ℕ) → l.nodes ≤ most_nodes
    → All (λ x. IsSoundState x.before × IsSoundState (after x.before x.tree x.command)) (reads_within l text).steps

-- What the defined names of a term mean was interned, so that the term's weight bounds what it makes.
abbrev pub ReadTermsAreDefined : Type 0
ReadTermsAreDefined = (limit : ℕ) (s : State) (locals : Env Sort) (tree : Tree) (t : Sorted) → IsSoundState s → term_read limit (scope_of s) locals tree ≡ Sound t
    → AreDefined s.nodes t.term
