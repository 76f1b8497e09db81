-- Where declarations are global, levels above 0 have no names of sorts.
use Rattle.std.proofs.Common.{◌≡◌, ℕ, zero, suc, Bool, true, false, List, [], ◌∷◌, ◌++◌, drop, replicate, if◌then◌else◌, Option, Some, None, refl, sym, ap, ◌∙◌, subst}
use Rattle.std.proofs.lemmas.List.Elements.{All-cons, All-nil, All-head, All-tail}
use Rattle.ffc_term.specs.declared.node.Sort.TheVariants as sort
use Rattle.ffc_smt.specs.Trees.{Tree}
use Rattle.ffc_smt.specs.Terms.{Name, Term, Setting, PrintSuccess, ProduceModels, GlobalDeclarations, ProduceUnsatCores, ProduceUnsatAssumptions, Command, SetOption, Declare, DefineSort, Define, Assert, Push, Pop, ResetAssertions, Reset}
use Rattle.ffc_smt.specs.Faults.{Sound}
use Rattle.ffc_smt.specs.Scopes.{Meant, AsTerm, Level, empty_level, State, at_innermost, with_name}
use Rattle.ffc_smt.specs.CommandReading.{limits, is_too_late, command_read}
use Rattle.ffc_smt.specs.Scripts.{after, changed, labelled}
use Rattle.ffc_smt.specs.ScopedStates.{IsScopedState}
use Rattle.ffc_smt.proofs.ReadLemmas.{IfSound}
use Rattle.ffc_smt.proofs.WalkLemmas.{MayFail, each_any}
use Rattle.ffc_smt.proofs.CommandWalk.{IsTold, Happens, reads_command}
use Rattle.ffc_elab.specs.Kept.{HaveNoSorts, HasGlobalSorts}

innermost_options : (change : Level → Level) (s : State) (ls : List Level) → (at_innermost change ls s).options ≡ s.options
innermost_options change s [] = refl
innermost_options change s (l ∷ ls) = refl

-- a change that leaves the names of sorts
module _ (change : Level → Level) (same : (l : Level) → (change l).sorts ≡ l.sorts) (s : State) (h : HasGlobalSorts s) where
  keeps_none : HasGlobalSorts (at_innermost change [] s)
  keeps_none = h

  keeps_some : (ls : List Level) → s.levels ≡ ls → HasGlobalSorts (at_innermost change ls s)
  keeps_some [] e = h
  keeps_some (l ∷ ls) e = λ g.
      let all = subst HaveNoSorts e (h g) in
      All-cons (λ k. k.sorts ≡ []) (change l) ls (same l ∙ All-head (λ k. k.sorts ≡ []) l ls all) (All-tail (λ k. k.sorts ≡ []) l ls all)

  keeps_flag : (b : Bool) → HasGlobalSorts (at_innermost change (if b then [] else s.levels) s)
  keeps_flag true = keeps_none
  keeps_flag false = keeps_some s.levels refl

sorts_flag : (change : Level → Level) (s : State) → HasGlobalSorts s → (b : Bool) → s.options.global_declarations ≡ b → HasGlobalSorts (at_innermost change (if b then [] else s.levels) s)
sorts_flag change s h true e = h
sorts_flag change s h false e = λ g. let q : true ≡ false = sym g ∙ ap (λ o. o.global_declarations) (innermost_options change s s.levels) ∙ e in cc

replicated : (n : ℕ) (ls : List Level) → HaveNoSorts ls → HaveNoSorts (replicate n empty_level ++ ls)
replicated zero ls h = h
replicated (suc n) ls h = All-cons (λ k. k.sorts ≡ []) empty_level (replicate n empty_level ++ ls) refl (replicated n ls h)

dropped : (n : ℕ) (ls : List Level) → HaveNoSorts ls → HaveNoSorts (drop n ls)
dropped zero ls h = h
dropped (suc n) [] h = h
dropped (suc n) (l ∷ ls) h = dropped n ls (All-tail (λ k. k.sorts ≡ []) l ls h)

named_keeps : (name : Name) (m : Meant) (s : State) → HasGlobalSorts s → HasGlobalSorts (with_name name m s)
named_keeps name m s h = keeps_flag (λ l. record l { names = (name, m) ∷ l.names }) (λ l. refl) s h s.options.global_declarations

labelled_keeps : (label : Option Name) (t : Term) (s : State) → HasGlobalSorts s → HasGlobalSorts (labelled label t s)
labelled_keeps None t s h = h
labelled_keeps (Some name) t s h = named_keeps name (AsTerm sort.Bool t) s h

option_keeps : (o : Setting) (b : Bool) (s : State) → IsScopedState s → HasGlobalSorts s → is_too_late s o ≡ false → HasGlobalSorts (changed (SetOption o b) s)
option_keeps GlobalDeclarations b s k h e = λ g. subst HaveNoSorts (sym (k.early e)) (All-nil (λ l. l.sorts ≡ []))
option_keeps PrintSuccess b s k h e = h
option_keeps ProduceModels b s k h e = h
option_keeps ProduceUnsatCores b s k h e = h
option_keeps ProduceUnsatAssumptions b s k h e = h

changed_keeps : (c : Command) (s : State) → IsScopedState s → HasGlobalSorts s → Happens (λ f. Unit {0}) limits s c → HasGlobalSorts (changed c s)
changed_keeps (SetOption o b) s k h e = option_keeps o b s k h e
changed_keeps (Declare name t) s k h e = named_keeps name _ s h
changed_keeps (DefineSort name t) s k h e = sorts_flag (λ l. record l { sorts = (name, t) ∷ l.sorts }) s h s.options.global_declarations refl
changed_keeps (Define name ps u t) s k h e = named_keeps name _ s h
changed_keeps (Assert label t) s k h e = labelled_keeps label t _ (keeps_some (λ l. record l { asserted = l.asserted ++ record { term = t; label = label } ∷ [] }) (λ l. refl) s h s.levels refl)
changed_keeps (Push n) s k h e = λ g. replicated n s.levels (h g)
changed_keeps (Pop n) s k h e = λ g. dropped n s.levels (h g)
changed_keeps ResetAssertions s k h e = λ g. All-nil (λ l. l.sorts ≡ [])
changed_keeps Reset s k h e = λ g. All-nil (λ l. l.sorts ≡ [])
changed_keeps _ s k h e = h

pub next_global : (s : State) (t : Tree) (c : Command) → command_read limits s t ≡ Sound c → IsScopedState s → HasGlobalSorts s → HasGlobalSorts (after s t c)
unfolding after
next_global s t c e k h =
    let stated = subst (λ r. IfSound r (IsTold (λ f. Unit {0}) limits s t)) e (reads_command (λ f. Unit {0}) limits s t (each_any (MayFail (λ f. Unit {0})) (λ w code. tt) t)).1 in
    changed_keeps c s k h stated.1
