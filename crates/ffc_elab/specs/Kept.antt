-- What a context keeps of the state that its commands left.
use Rattle.std.specs.Prelude.{◌≡◌, ◌≤◌, List, [], length, map, reverse, true, All, filter_map, option_map}
use Rattle.ffc_field.specs.Orders.{order_of_id}
use Rattle.ffc_smt.specs.Scopes.{Level, State, scope_of, level_of, declared_of, as_declared}
use Rattle.ffc_smt.specs.Bounds.{IsMade}
use Rattle.ffc_smt.specs.States.{IsSoundState}
use Rattle.ffc_smt.specs.ScopedStates.{IsScopedState}
use Rattle.ffc_smt.specs.CommandReading.{limits}
use Rattle.ffc_smt.specs.TableChecks.{declared_nodes, nodes_in_force, names_in_force}
use Rattle.ffc_parts.specs.Heads.{options_of}
use Rattle.ffc_terms.specs.Codes.{IsScope}
use Rattle.ffc_elab.specs.declared.levels.Mark.{Mark}
use Rattle.ffc_elab.specs.declared.store.Store.{Store}
use Rattle.ffc_elab.specs.Histories.{Known, check_now}
use Rattle.ffc_elab.specs.Answers.{declared_as}

-- how many names, names of sorts, declared constants and assertions a level has
abbrev pub mark_of : Level → Mark
mark_of l = record {
  names = length l.names;
  sorts = length l.sorts;
  declared = length (filter_map as_declared l.names);
  asserted = length l.asserted;
}

pub record IsKept (k : Known) (s : Store) : Type 0 where
  pub logic : s.logic ≡ k.state.logic
  pub options : options_of s.options ≡ k.state.options
  -- of the levels above 0, the outermost first
  pub marks : s.marks.items ≡ map mark_of (reverse k.state.levels)
  pub levels : level_of k.state ≤ limits.levels
  pub scope : IsScope k.state.nodes s.symbols (scope_of k.state)
  pub nodes : s.table ≡ k.state.nodes
  pub constants : s.constants ≡ length k.state.constants
  pub first : option_map order_of_id s.first ≡ k.state.first_order
  pub in_force : s.in_force.items ≡ nodes_in_force (check_now k)
  pub names : s.names.items ≡ names_in_force (check_now k)
  pub assumed : s.assumed ≡ length k.assumptions
  pub declared : s.declared.items ≡ map (declared_as k.state.nodes) (declared_of k.state)
  pub declared_nodes : s.declared_nodes.items ≡ declared_nodes (check_now k)

abbrev pub HaveNoSorts : List Level → Type 0
HaveNoSorts levels = All (λ l. l.sorts ≡ []) levels

-- where declarations are global, levels above 0 have no names of sorts
abbrev pub HasGlobalSorts : State → Type 0
HasGlobalSorts s = s.options.global_declarations ≡ true → HaveNoSorts s.levels

-- and what holds of the state itself
pub record IsKnown (k : Known) : Type 0 where
  pub sound : IsSoundState k.state
  pub scoped : IsScopedState k.state
  pub sorts : HasGlobalSorts k.state
  pub assumed : All (λ a. IsMade k.state.nodes a.term) k.assumptions
