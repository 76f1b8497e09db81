-- All names of every state of a script have their sorts.
use Rattle.std.proofs.Common.{◌≡◌, ℕ, zero, suc, if◌then◌else◌, Bool, true, false, List, [], ◌∷◌, ◌++◌, length, drop, replicate, flat_map, Some, None, Option, All, refl, subst}
use Rattle.std.specs.Str.{bytes_eq}
use Rattle.ffc_term.specs.declared.node.Sort.{Sort}
use Rattle.ffc_term.specs.declared.node.Sort.TheVariants as sort
use Rattle.ffc_smt.specs.Trees.{Tree}
use Rattle.ffc_smt.specs.Terms.{Name, Term, Parameter, Command, SetLogic, SetOption, Declare, DefineSort, Define, Assert, Push, Pop, ResetAssertions, Reset}
use Rattle.ffc_smt.specs.Meaning.{Env, found, val}
use Rattle.ffc_smt.specs.Scopes.{Meant, AsConstant, AsTerm, Level, State, scope_of, empty_level, at_innermost, with_name, with_sort, with_assertion, Assertion}
use Rattle.ffc_smt.specs.Faults.{Sound}
use Rattle.ffc_smt.specs.TermReading.{sort_read}
use Rattle.ffc_smt.specs.CommandReading.{Limits, negated, command_read}
use Rattle.ffc_smt.specs.Scripts.{changed, labelled, after, reads_within}
use Rattle.ffc_smt.specs.Scripts.{meant_by}
use Rattle.ffc_smt.specs.Sorting.{HasSort, sorts_of_parameters, IsSortedMeant, IsSortedScope, AreSortedNames, AreSortedLevels, IsSortedState}
use Rattle.ffc_smt.proofs.ReadLemmas.{IfSound, all_sound}
use Rattle.ffc_smt.proofs.SortLemmas.{named_typed, term_typed}
use Rattle.ffc_smt.proofs.CommandLemmas.{IsCommandOf, command_is, all_steps}

-- Names in scope

names_append : (ns ms : Env Meant) → AreSortedNames ns → AreSortedNames ms → AreSortedNames (ns ++ ms)
names_append [] ms h g = g
names_append (n ∷ ns) ms h g = (h.0, names_append ns ms h.1 g)

levels_names : (ls : List Level) (base : Level) → AreSortedLevels ls → AreSortedNames base.names → AreSortedNames (flat_map (λ l. l.names) (ls ++ base ∷ []))
levels_names [] base h g = names_append base.names [] g tt
levels_names (l ∷ ls) base h g = names_append l.names (flat_map (λ k. k.names) (ls ++ base ∷ [])) h.0 (levels_names ls base h.1 g)

found_first : (b : Bool) (m n : Meant) (o : Option Meant) → (if b then Some m else o) ≡ Some n → IsSortedMeant m → (o ≡ Some n → IsSortedMeant n) → IsSortedMeant n
found_first true m n o e h k = let same : m ≡ n = cc in subst IsSortedMeant same h
found_first false m n o e h k = k e

found_sorted : (ns : Env Meant) (name : Name) (m : Meant) → AreSortedNames ns → found ns name ≡ Some m → IsSortedMeant m
found_sorted [] name m h e = cc
found_sorted (n ∷ ns) name m h e = found_first (bytes_eq n.0 name) n.1 m (found ns name) e h.0 (found_sorted ns name m h.1)

pub scope_sorted : (s : State) → IsSortedState s → IsSortedScope (scope_of s)
scope_sorted s h name m e = found_sorted (scope_of s).names name m (levels_names s.levels s.base h.0 h.1) e

-- Commands

-- what a command defines has its sort
abbrev IsSortedCommand : Command → Type 0
IsSortedCommand c = IsCommandOf HasSort (λ s. Unit {0}) c

innermost_sorted : (change : Level → Level) (ls : List Level) (s : State) → ((l : Level) → AreSortedNames l.names → AreSortedNames (change l).names) → AreSortedLevels ls → IsSortedState s
    → IsSortedState (at_innermost change ls s)
innermost_sorted change [] s k g h = (h.0, k s.base h.1)
innermost_sorted change (l ∷ ls) s k g h = ((k l g.0, g.1), h.1)

chosen_levels : (b : Bool) (ls : List Level) → AreSortedLevels ls → AreSortedLevels (if b then [] else ls)
chosen_levels true ls h = tt
chosen_levels false ls h = h

name_sorted : (name : Name) (m : Meant) (s : State) → IsSortedMeant m → IsSortedState s → IsSortedState (with_name name m s)
name_sorted name m s g h =
    innermost_sorted _ (if s.options.global_declarations then [] else s.levels) s (λ l k. (g, k)) (chosen_levels s.options.global_declarations s.levels h.0) h

sort_sorted : (name : Name) (t : Sort) (s : State) → IsSortedState s → IsSortedState (with_sort name t s)
sort_sorted name t s h = innermost_sorted _ (if s.options.global_declarations then [] else s.levels) s (λ l k. k) (chosen_levels s.options.global_declarations s.levels h.0) h

assertion_sorted : (a : Assertion) (s : State) → IsSortedState s → IsSortedState (with_assertion a s)
assertion_sorted a s h = innermost_sorted _ s.levels s (λ l k. k) h.0 h

meant_sorted : (ps : List Parameter) (s : Sort) (t : Term) → HasSort (sorts_of_parameters ps) t s → IsSortedMeant (meant_by ps s t)
meant_sorted [] s t h = h
meant_sorted (p ∷ ps) s t h = h

label_sorted : (label : Option Name) (t : Term) (s : State) → HasSort [] t sort.Bool → IsSortedState s → IsSortedState (labelled label t s)
label_sorted None t s g h = h
label_sorted (Some name) t s g h = name_sorted name (AsTerm sort.Bool t) s g h

pushed : (n : ℕ) (ls : List Level) → AreSortedLevels ls → AreSortedLevels (replicate n empty_level ++ ls)
pushed zero ls h = h
pushed (suc n) ls h = (tt, pushed n ls h)

popped : (n : ℕ) (ls : List Level) → AreSortedLevels ls → AreSortedLevels (drop n ls)
popped zero ls h = h
popped (suc n) [] h = tt
popped (suc n) (l ∷ ls) h = popped n ls h.1

cleared_base : (b : Bool) (base : Level) → AreSortedNames base.names → AreSortedNames (if b then record base { asserted = [] } else empty_level).names
cleared_base true base h = h
cleared_base false base h = tt

changed_sorted : (c : Command) (s : State) → IsSortedCommand c → IsSortedState s → IsSortedState (changed c s)
changed_sorted SetLogic s g h = h
changed_sorted (SetOption o b) s g h = h
changed_sorted (Declare name t) s g h = name_sorted name (AsConstant (length s.constants) t) s tt h
changed_sorted (DefineSort name t) s g h = sort_sorted name t s h
changed_sorted (Define name ps r t) s g h = name_sorted name (meant_by ps r t) s (meant_sorted ps r t g) h
changed_sorted (Assert label t) s g h = label_sorted label t (with_assertion (record { term = t; label = label }) s) g (assertion_sorted (record { term = t; label = label }) s h)
changed_sorted (Push n) s g h = (pushed n s.levels h.0, h.1)
changed_sorted (Pop n) s g h = (popped n s.levels h.0, h.1)
changed_sorted ResetAssertions s g h = (tt, cleared_base s.options.global_declarations s.base h.1)
changed_sorted Reset s g h = (tt, tt)
changed_sorted _ s g h = h

after_sorted : (s : State) (tree : Tree) (c : Command) → IsSortedCommand c → IsSortedState s → IsSortedState (after s tree c)
unfolding after
after_sorted s tree c g h = changed_sorted c s g h

negation_sorted : (t : Term) → HasSort [] t sort.Bool → HasSort [] (negated t) sort.Bool
unfolding val
negation_sorted t h env A agree = refl

module _ (l : Limits) (s : State) (h : IsSortedState s) where
  command_sorted : (t : Tree) → IfSound (command_read l s t) IsSortedCommand
  command_sorted t =
      command_is l s HasSort (λ u. Unit {0}) (λ locals tree. term_typed l.height (scope_of s) (scope_sorted s h) tree locals) (λ tree. all_sound (sort_read (scope_of s).sorts tree) (λ u. Unit {0}) (λ u. tt))
      (λ w name. named_typed l.height (scope_of s) (scope_sorted s h) [] w name) negation_sorted t

  pub states_have_sorts : (t : Tree) (c : Command) → command_read l s t ≡ Sound c → IsSortedScope (scope_of s) × IsSortedState (after s t c)
  states_have_sorts t c e = (scope_sorted s h, after_sorted s t c (subst (λ r. IfSound r IsSortedCommand) e (command_sorted t)) h)

pub scripts_have_sorts : (l : Limits) (text : List ℕ) → All (λ x. IsSortedState x.before) (reads_within l text).steps
scripts_have_sorts l text =
    all_steps l IsSortedState (λ x. IsSortedState x.before) (λ s t c h e. ((states_have_sorts l s h t c e).1, h)) text (tt, tt)
