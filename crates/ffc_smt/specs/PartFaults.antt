-- Which fault is answered, for a reader that stops at the first one that it meets: it is one of the faults, and none is
-- before it. And where the faults of the parts of a term are.
use Rattle.std.specs.Prelude.{◌≡◌, ℕ, false, List, ◌∷◌, All, Contains}
use Rattle.ffc_smt.specs.Trees.{Trees, tokens_of_items}
use Rattle.ffc_smt.specs.Terms.{Parameter}
use Rattle.ffc_term.specs.declared.node.Sort.{Sort}
use Rattle.ffc_smt.specs.Meaning.{Env}
use Rattle.ffc_smt.specs.Scopes.{Scope}
use Rattle.ffc_smt.specs.Faults.{Fault, is_before, first_fault}
use Rattle.ffc_smt.specs.FaultLaws.{IsAtOneOf}
use Rattle.ffc_smt.specs.TermReading.{Wanted, own_faults, misfits, parameter_misfits, binding_faults, arguments_read, bindings_read}

-- A fault of the list that no other is before is the one that is answered. (At one place the lower code counts.)
abbrev pub LeastFaultIsAnswered : Type 0
LeastFaultIsAnswered = (f : Fault) (fs : List Fault) (g : Fault) → Contains (f ∷ fs) g → All (λ h. is_before h g ≡ false) (f ∷ fs) → first_fault f fs ≡ g

-- The faults of arguments and of a `let`'s variables are at tokens of them.
pub record PartsFaultsAreAtTokens : Type 0 where
  pub own : (limit : ℕ) (scope : Scope) (locals : Env Sort) (items : Trees)
      → All (IsAtOneOf (tokens_of_items items)) (own_faults (arguments_read limit scope locals items))
  pub misfit : (limit : ℕ) (scope : Scope) (locals : Env Sort) (items : Trees) (want : ℕ → Wanted) (i : ℕ)
      → All (IsAtOneOf (tokens_of_items items)) (misfits want i (arguments_read limit scope locals items))
  pub parameter : (limit : ℕ) (scope : Scope) (locals : Env Sort) (items : Trees) (parameters : List Parameter)
      → All (IsAtOneOf (tokens_of_items items)) (parameter_misfits parameters (arguments_read limit scope locals items))
  pub binding : (limit : ℕ) (scope : Scope) (locals : Env Sort) (items : Trees)
      → All (IsAtOneOf (tokens_of_items items)) (binding_faults (bindings_read limit scope locals items))
