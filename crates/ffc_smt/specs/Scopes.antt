-- What is in scope and active: levels of assertions and names, SMT-LIB 2.6, sections 4.1.4 and 4.1.5.
use Rattle.std.specs.Prelude.{ℕ, Bool, true, false, List, [], ◌∷◌, ◌++◌, length, flat_map, filter_map, reverse, if◌then◌else◌, Option, Some, None}
use Rattle.ffc_term.specs.declared.node.Sort.{Sort}
use Rattle.ffc_term.specs.declared.node.Node.{Node}
use Rattle.ffc_smt.specs.Terms.{Name, Term, Parameter, Setting, PrintSuccess, ProduceModels, GlobalDeclarations, ProduceUnsatCores, ProduceUnsatAssumptions}
use Rattle.ffc_smt.specs.Meaning.{Env}

-- what a name means
pub data Meant : Type 0 where
  -- a declared constant: its number and sort
  AsConstant : ℕ → Sort → Meant
  -- a definition without parameters
  AsTerm : Sort → Term → Meant
  -- a macro: its parameters, the sort of its body, its body
  AsMacro : List Parameter → Sort → Term → Meant

-- the names of terms and those of sorts, which are apart from one another
pub record Scope : Type 0 where
  pub names : Env Meant
  pub sorts : Env Sort

pub record Assertion : Type 0 where
  pub term : Term
  pub label : Option Name

pub record Level : Type 0 where
  pub names : Env Meant
  pub sorts : Env Sort
  -- oldest first
  pub asserted : List Assertion

abbrev pub empty_level : Level
empty_level = record { names = []; sorts = []; asserted = [] }

pub record Options : Type 0 where
  pub print_success : Bool
  pub produce_models : Bool
  pub global_declarations : Bool
  pub produce_unsat_cores : Bool
  pub produce_unsat_assumptions : Bool

abbrev pub first_options : Options
first_options = record {
  print_success = false;
  produce_models = true;
  global_declarations = false;
  produce_unsat_cores = true;
  produce_unsat_assumptions = true;
}

abbrev pub option_of : Options → Setting → Bool
option_of o PrintSuccess = o.print_success
option_of o ProduceModels = o.produce_models
option_of o GlobalDeclarations = o.global_declarations
option_of o ProduceUnsatCores = o.produce_unsat_cores
option_of o ProduceUnsatAssumptions = o.produce_unsat_assumptions

abbrev pub with_option : Options → Setting → Bool → Options
with_option o PrintSuccess b = record o { print_success = b }
with_option o ProduceModels b = record o { produce_models = b }
with_option o GlobalDeclarations b = record o { global_declarations = b }
with_option o ProduceUnsatCores b = record o { produce_unsat_cores = b }
with_option o ProduceUnsatAssumptions b = record o { produce_unsat_assumptions = b }

-- what the commands so far leave
pub record State : Type 0 where
  -- whether the logic is set
  pub logic : Bool
  pub options : Options
  -- the levels above 0, the innermost first
  pub levels : List Level
  -- level 0, with all names where declarations are global
  pub base : Level
  -- the sort of each constant of the script, also of those that are out of scope, by its number
  pub constants : List Sort
  -- the first order that the script named
  pub first_order : Option ℕ
  -- all nodes that were made
  pub nodes : List Node

abbrev pub first_state : State
first_state = record {
  logic = false;
  options = first_options;
  levels = [];
  base = empty_level;
  constants = [];
  first_order = None;
  nodes = [];
}

-- the level's number
abbrev pub level_of : State → ℕ
level_of s = length s.levels

-- all names in scope
abbrev pub scope_of : State → Scope
scope_of s = record {
  names = flat_map (λ l. l.names) (s.levels ++ s.base ∷ []);
  sorts = flat_map (λ l. l.sorts) (s.levels ++ s.base ∷ []);
}

-- a declared constant that is in scope
pub record Declared : Type 0 where
  pub name : Name
  pub number : ℕ
  pub sort : Sort

abbrev pub as_declared : Name × Meant → Option Declared
as_declared x = elim x.1 [
  | AsConstant k s ↦ Some (record { name = x.0; number = k; sort = s })
  | AsTerm s t ↦ None
  | AsMacro parameters s t ↦ None
]

-- all of them, in the order of their declaration
abbrev pub declared_of : State → List Declared
declared_of s = filter_map as_declared (reverse (scope_of s).names)

-- the assertions of all levels, oldest first
abbrev pub assertions_of : State → List Assertion
assertions_of s = s.base.asserted ++ flat_map (λ l. l.asserted) (reverse s.levels)

-- the state with the innermost level changed
abbrev pub at_innermost : (Level → Level) → List Level → State → State
at_innermost change [] s = record s { base = change s.base }
at_innermost change (l ∷ ls) s = record s { levels = change l ∷ ls }

-- where names are put: on level 0 where declarations are global, else on the innermost
abbrev pub at_names : (Level → Level) → State → State
at_names change s = at_innermost change (if s.options.global_declarations then [] else s.levels) s

abbrev pub with_name : Name → Meant → State → State
with_name name m s = at_names (λ l. record l { names = (name, m) ∷ l.names }) s

abbrev pub with_sort : Name → Sort → State → State
with_sort name sort s = at_names (λ l. record l { sorts = (name, sort) ∷ l.sorts }) s

abbrev pub with_assertion : Assertion → State → State
with_assertion a s = at_innermost (λ l. record l { asserted = l.asserted ++ a ∷ [] }) s.levels s

-- level 0 without assertions, and without names unless they are global
abbrev pub cleared : State → State
cleared s = record s {
  levels = [];
  base = if s.options.global_declarations then record s.base { asserted = [] } else empty_level;
}

-- as at the start, but for the constants, which are counted over the script
abbrev pub restarted : State → State
restarted s = record first_state { constants = s.constants }
