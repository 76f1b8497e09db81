-- What every state of a script keeps of its scopes: the constants in a level's names and assertions were declared on that
-- level or below, newer constants have greater numbers, and the order that was named first is one of the solver's.
use Rattle.std.specs.Prelude.{◌≡◌, ℕ, ◌<◌, ◌++◌, true, false, List, [], ◌∷◌, flat_map, length, Some, All, Contains}
use Rattle.ffc_field.specs.Orders.{IsOrder}
use Rattle.ffc_term.specs.declared.node.Sort.{Sort}
use Rattle.ffc_smt.specs.Trees.{Tree}
use Rattle.ffc_smt.specs.Terms.{Name, Term, Command}
use Rattle.ffc_smt.specs.Meaning.{Env}
use Rattle.ffc_smt.specs.Scopes.{Meant, AsConstant, AsTerm, AsMacro, Level, State, first_state, scope_of}
use Rattle.ffc_smt.specs.Constants.{ConstantsAre, MeantConstantsAre}
use Rattle.ffc_smt.specs.Faults.{Sound}
use Rattle.ffc_smt.specs.CommandReading.{Limits, command_read}
use Rattle.ffc_smt.specs.Scripts.{after, reads_within}

-- one of these names means the constant of this number and sort
abbrev pub IsDeclaredIn : Env Meant → ℕ → Sort → Type 0
IsDeclaredIn names k s = (name : Name) × Contains names (name, AsConstant k s)

-- all constants in the term are among these names
abbrev pub SpeaksOf : Env Meant → Term → Type 0
SpeaksOf names t = ConstantsAre (IsDeclaredIn names) t

-- The names' constants have smaller and smaller numbers, all of them below this one. (The newest name comes first.)
abbrev pub AreNumberedBelow : ℕ → Env Meant → Type 0
AreNumberedBelow n [] = Unit {0}
AreNumberedBelow n ((name, AsConstant k s) ∷ rest) = (k < n) × AreNumberedBelow k rest
AreNumberedBelow n ((name, AsTerm s t) ∷ rest) = AreNumberedBelow n rest
AreNumberedBelow n ((name, AsMacro parameters s t) ∷ rest) = AreNumberedBelow n rest

-- a level, where these are the names of it and of the levels below it
pub record IsScopedLevel (names : Env Meant) (l : Level) : Type 0 where
  pub meant : All (λ x. MeantConstantsAre (IsDeclaredIn names) x.1) l.names
  pub asserted : All (λ a. SpeaksOf names a.term) l.asserted

-- the names of these levels, the innermost first, and of level 0
abbrev pub names_from : List Level → Level → Env Meant
names_from levels base = flat_map (λ l. l.names) (levels ++ base ∷ [])

abbrev pub AreScopedLevels : List Level → Level → Type 0
AreScopedLevels [] base = IsScopedLevel base.names base
AreScopedLevels (l ∷ ls) base = IsScopedLevel (names_from (l ∷ ls) base) l × AreScopedLevels ls base

pub record IsScopedState (s : State) : Type 0 where
  -- levels are opened where there is a logic
  pub early : s.logic ≡ false → s.levels ≡ []
  -- global declarations have no names but on level 0
  pub global : s.options.global_declarations ≡ true → All (λ l. l.names ≡ []) s.levels
  pub numbered : AreNumberedBelow (length s.constants) (scope_of s).names
  pub scoped : AreScopedLevels s.levels s.base
  pub order : (p : ℕ) → s.first_order ≡ Some p → IsOrder p

-- The first state is so, and each command keeps that.
pub record CommandsKeepScopes : Type 0 where
  pub first : IsScopedState first_state
  pub next : (l : Limits) (s : State) (tree : Tree) (c : Command) → IsScopedState s → command_read l s tree ≡ Sound c → IsScopedState (after s tree c)

-- Before and after every command of a script the state is so.
abbrev pub ScriptsKeepScopes : Type 0
ScriptsKeepScopes = (l : Limits) (text : List ℕ) → All (λ x. IsScopedState x.before × IsScopedState (after x.before x.tree x.command)) (reads_within l text).steps
