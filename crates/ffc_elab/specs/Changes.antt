-- How commands change levels: one level fewer, and no more assertions and names than a level has.
use Rattle.std.specs.Prelude.{◌≡◌, ◌<◌, ◌==◌, true, All, vec_len, vec_capacity, if◌then◌else◌, ℕ, ◌+◌, ◌-◌, ◌^◌, min, List, [], ◌∷◌, ◌++◌, drop, replicate, length}
use Rattle.ffc_term.specs.declared.node.Node.{Node}
use Rattle.ffc_term.specs.declared.node.Sort.{Sort}
use Rattle.ffc_smt.specs.Making.{constant_node}
use Rattle.ffc_smt.specs.Terms.{Name, Asked, Command}
use Rattle.ffc_smt.specs.Scopes.{Meant, AsConstant, AsTerm, AsMacro, State, empty_level, with_name}
use Rattle.ffc_smt.specs.Scripts.{changed, first_named}
use Rattle.ffc_elab.specs.declared.plain.Plain.{Plain}
use Rattle.ffc_elab.specs.declared.plain.Plain.TheVariants as plain
use Rattle.ffc_elab.specs.declared.levels.Mark.{Mark}
use Rattle.ffc_elab.specs.declared.store.Store.{Store}
use Rattle.ffc_elab.specs.Histories.{Known}
use Rattle.ffc_elab.specs.Reading.{plain_of}

-- a state after a command without assumptions
abbrev pub in_state : State → Known
in_state s = record { state = s; assumptions = [] }

-- a state after a command with these assumptions
abbrev pub assuming : List Asked → State → Known
assuming terms s = record { state = s; assumptions = terms }

-- another state with the same assumptions
abbrev pub with_state : Known → State → Known
with_state k s = record k { state = s }

-- with so many levels more
abbrev pub pushed : ℕ → State → State
pushed n s = record s { levels = replicate n empty_level ++ s.levels }

-- with so many levels fewer
abbrev pub popped : ℕ → State → State
popped n s = record s { levels = drop n s.levels }

-- after a command that makes no nodes and names no orders
abbrev pub quietly_after : Command → State → State
quietly_after c s = record (changed c s) { nodes = s.nodes; first_order = s.first_order }

-- the same, but for the levels that `push` opens
abbrev pub settled : Plain → State → State
settled (plain.Push n) s = s
settled p s = quietly_after (plain_of p) s

-- with the levels that `push` opens
abbrev pub opened : Plain → State → State
opened (plain.Push n) s = pushed n s
opened _ s = s

-- so many more, or the greatest number that is kept
abbrev pub more : ℕ → ℕ → ℕ
more by n = if by == 0 then n else min (n + by) (2 ^ 64 - 1)

-- a mark with so many more of each
abbrev pub more_by : Mark → Mark → Mark
more_by by m = record { names = more by.names m.names; sorts = more by.sorts m.sorts; declared = more by.declared m.declared; asserted = more by.asserted m.asserted }

-- the last mark is changed, if there is one
abbrev pub LastIsMore : Mark → List Mark → List Mark → Type 0
LastIsMore by old new = (old ≡ [] → new ≡ []) × ((ms : List Mark) (m : Mark) → old ≡ ms ++ m ∷ [] → new ≡ ms ++ more_by by m ∷ [])

-- with the first of these orders, where none was named before
abbrev pub with_orders : List ℕ → State → State
with_orders ps s = record s { first_order = first_named s.first_order ps }

-- with these nodes
abbrev pub with_nodes : List Node → State → State
with_nodes ns s = record s { nodes = ns }

-- with a constant more
abbrev pub declared_in : Name → Sort → State → State
declared_in name sort s =
    let n = length s.constants in
    record (with_name name (AsConstant n sort) (with_nodes (s.nodes ++ constant_node n sort ∷ []) s)) { constants = s.constants ++ sort ∷ [] }

-- no declared constant
abbrev pub IsDefinition : Meant → Type 0
IsDefinition (AsConstant k s) = ⊥
IsDefinition (AsTerm s t) = Unit {0}
IsDefinition (AsMacro ps s t) = Unit {0}

-- where declarations are global, levels above 0 have no names
abbrev pub HasGlobalNames : State → Type 0
HasGlobalNames s = s.options.global_declarations ≡ true → All (λ l. l.names ≡ []) s.levels

-- the same is kept
pub record IsSame (x y : Store) : Type 0 where
  pub logic : y.logic ≡ x.logic
  pub options : y.options ≡ x.options
  pub marks : y.marks.items ≡ x.marks.items
  pub terms : y.symbols.terms ≡ x.symbols.terms
  pub sorts : y.symbols.sorts ≡ x.symbols.sorts
  pub table : y.table ≡ x.table
  pub constants : y.constants ≡ x.constants
  pub first : y.first ≡ x.first
  pub in_force : y.in_force.items ≡ x.in_force.items
  pub names : y.names.items ≡ x.names.items
  pub assumed : y.assumed ≡ x.assumed
  pub declared : y.declared.items ≡ x.declared.items
  pub declared_nodes : y.declared_nodes.items ≡ x.declared_nodes.items

-- one more assertion takes no memory
pub record HasRoom (x : Store) : Type 0 where
  pub nodes : vec_len x.in_force < vec_capacity x.in_force
  pub names : vec_len x.names < vec_capacity x.names
