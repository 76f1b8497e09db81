-- A term that is read has the sort that it was read with.
use Rattle.std.specs.Prelude.{◌≡◌, ℕ, List, [], ◌∷◌, map, Some, All}
use Rattle.ffc_term.specs.declared.node.Sort.{Sort}
use Rattle.ffc_term.specs.declared.value.Value.{Value}
use Rattle.ffc_smt.specs.Trees.{Tree}
use Rattle.ffc_smt.specs.Terms.{Name, Term, Parameter, Command}
use Rattle.ffc_smt.specs.Meaning.{Env, found, Element, sort_of, val}
use Rattle.ffc_smt.specs.Scopes.{Meant, AsConstant, AsTerm, AsMacro, Scope, Level, State, scope_of}
use Rattle.ffc_smt.specs.Faults.{Sound}
use Rattle.ffc_smt.specs.TermReading.{Sorted, term_read}
use Rattle.ffc_smt.specs.CommandReading.{Limits, command_read}
use Rattle.ffc_smt.specs.Scripts.{after, reads_within}

-- each variable's value is of its sort
abbrev pub AreOfSorts : Env Sort → Env Element → Type 0
AreOfSorts [] [] = Unit {0}
AreOfSorts [] (y ∷ ys) = ⊥
AreOfSorts (x ∷ xs) [] = ⊥
AreOfSorts (x ∷ xs) (y ∷ ys) = (x.0 ≡ y.0) × (sort_of y.1 ≡ x.1) × AreOfSorts xs ys

-- where variables have these sorts, the value of a term is of this one, under every assignment
abbrev pub HasSort : Env Sort → Term → Sort → Type 0
HasSort locals t s = (env : Env Element) (assignment : List Value) → AreOfSorts locals env → sort_of (val env assignment t) ≡ s

abbrev pub sorts_of_parameters : List Parameter → Env Sort
sorts_of_parameters parameters = map (λ p. (p.name, p.sort)) parameters

-- what a name means has the sort that is kept with it
abbrev pub IsSortedMeant : Meant → Type 0
IsSortedMeant (AsConstant k s) = Unit {0}
IsSortedMeant (AsTerm s t) = HasSort [] t s
IsSortedMeant (AsMacro parameters s t) = HasSort (sorts_of_parameters parameters) t s

abbrev pub IsSortedScope : Scope → Type 0
IsSortedScope scope = (name : Name) (m : Meant) → found scope.names name ≡ Some m → IsSortedMeant m

-- the same of all names of a state
abbrev pub AreSortedNames : Env Meant → Type 0
AreSortedNames [] = Unit {0}
AreSortedNames (x ∷ xs) = IsSortedMeant x.1 × AreSortedNames xs

abbrev pub AreSortedLevels : List Level → Type 0
AreSortedLevels [] = Unit {0}
AreSortedLevels (l ∷ ls) = AreSortedNames l.names × AreSortedLevels ls

abbrev pub IsSortedState : State → Type 0
IsSortedState s = AreSortedLevels s.levels × AreSortedNames s.base.names

abbrev pub TermsHaveSorts : Type 0
TermsHaveSorts = (limit : ℕ) (scope : Scope) (locals : Env Sort) (tree : Tree) (t : Sorted) → IsSortedScope scope → term_read limit scope locals tree ≡ Sound t
    → HasSort locals t.term t.sort

-- a command keeps the sorts of all names
abbrev pub StatesHaveSorts : Type 0
StatesHaveSorts = (l : Limits) (s : State) (tree : Tree) (c : Command) → IsSortedState s → command_read l s tree ≡ Sound c
    → IsSortedScope (scope_of s) × IsSortedState (after s tree c)

-- so before every command of a script all names have their sorts
abbrev pub ScriptsHaveSorts : Type 0
ScriptsHaveSorts = (l : Limits) (text : List ℕ) → All (λ x. IsSortedState x.before) (reads_within l text).steps
