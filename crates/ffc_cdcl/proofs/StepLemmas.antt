-- Steps one after another.
use Rattle.std.proofs.Common.{inl, inr, ◌⊎◌, Vec, Global, None, ◌≡◌, ℕ, zero, suc, ◌-◌, ◌<◌, List, [], ◌∷◌, ◌++◌, length, get_or, take, Option, Some, slice_get, option_map, refl, sym, ap, ◌∙◌, subst, arith}
use Rattle.std.specs.Prelude.{IfSome, IsSomeAnd}
use Rattle.std.proofs.lemmas.Bool.{cases_lt}
use Rattle.std.proofs.lemmas.List.{length-append, take-append-le, take_at, nil_from_length}
use Rattle.std.proofs.lemmas.List.Elements.{All-contains, All-push}
use Rattle.std.proofs.lemmas.Option.{IfSome_then, slice_get-map, slice_get-get_or, slice_get_within, same_Some}
use Rattle.ffc_clause.specs.Clauses.{Clause}
use Rattle.ffc_cdcl.specs.declared.answer.Hint.{Hint}
use Rattle.ffc_cdcl.specs.declared.answer.Hint.TheVariants.{Added, Lemma, Step}
use Rattle.ffc_cdcl.specs.declared.answer.HintedClause.{HintedClause}
use Rattle.ffc_cdcl.specs.declared.answer.Outcome.{Outcome}
use Rattle.ffc_cdcl.specs.declared.answer.Outcome.TheVariants.{Model, Refuted}
use Rattle.ffc_cdcl.specs.declared.theory.TheoryAnswer.{TheoryAnswer}
use Rattle.ffc_cdcl.specs.declared.theory.TheoryAnswer.TheVariants.{Conflict}
use Rattle.ffc_cdcl.specs.Outcomes.{OnSomeRefuted}
use Rattle.ffc_cdcl.specs.Theories.{KeepsLemmas, NamesLemma}
use Rattle.ffc_cdcl.specs.State.{State, Kept, AreListed, IsKept, SameClauses}
use Rattle.ffc_cdcl.specs.Steps.{Names, AreNamed, FollowsBy, clauses_of, IsDerivation, IsRefutationBy, IsRefutation}

pub named_push : (Named : Hint → Clause → Type 0) (hints : List Hint) (clauses : List Clause) (hint : Hint) (clause : Clause)
    → AreNamed Named hints clauses → Named hint clause → AreNamed Named (hints ++ hint ∷ []) (clauses ++ clause ∷ [])
named_push Named [] [] hint clause all one = (one, tt)
named_push Named [] (c ∷ clauses) hint clause all one = absurd all
named_push Named (h ∷ hints) [] hint clause all one = absurd all
named_push Named (h ∷ hints) (c ∷ clauses) hint clause all one = (all.0, named_push Named hints clauses hint clause all.1 one)

get_left : {X : Type 0} (xs ys : List X) (k : ℕ) → k < length xs → slice_get (xs ++ ys) k ≡ slice_get xs k
get_left [] ys k inside = absurd (omega (arith, inside))
get_left (x ∷ xs) ys zero inside = refl
get_left (x ∷ xs) ys (suc k) inside = get_left xs ys k (omega (arith, inside))

get_end : {X : Type 0} (xs : List X) (x : X) → slice_get (xs ++ x ∷ []) (length xs) ≡ Some x
get_end [] x = refl
get_end (y ∷ xs) x = get_end xs x

module _ (IsLemma : ℕ → Clause → Type 0) (added : List Clause) where
  pub derivation_push : (steps : List HintedClause) (step : HintedClause) → IsDerivation IsLemma added steps
      → FollowsBy (Names IsLemma added (clauses_of steps)) step.lits step.hints.items → IsDerivation IsLemma added (steps ++ step ∷ [])
  derivation_push steps step derived follows k other at =
      elim (cases_lt k (length steps)) as (λ _. FollowsBy (Names IsLemma added (clauses_of (take k (steps ++ step ∷ [])))) other.lits other.hints.items) [
        | inl before ↦
            subst (λ earlier. FollowsBy (Names IsLemma added (clauses_of earlier)) other.lits other.hints.items) (sym (take-append-le k steps (step ∷ []) (omega (arith, before))))
            (derived k other (sym (get_left steps (step ∷ []) k before) ∙ at))
        | inr after ↦
            let last : length steps ≡ k = omega (arith, after, slice_get_within (steps ++ step ∷ []) k other at, length-append steps (step ∷ [])) in
            let same : step ≡ other = same_Some step other (sym (get_end steps step) ∙ ap (slice_get (steps ++ step ∷ [])) last ∙ at) in
            subst (λ earlier. FollowsBy (Names IsLemma added (clauses_of earlier)) other.lits other.hints.items) (sym (take_at steps (step ∷ []) k last))
            (subst (λ (s : HintedClause). FollowsBy (Names IsLemma added (clauses_of steps)) s.lits s.hints.items) same follows)
      ]

  pub no_steps : IsDerivation IsLemma added []
  no_steps k step at = absurd (omega (arith, slice_get_within [] k step at))

  pub refutation_by : (steps : List HintedClause) (last : HintedClause) (k : ℕ) → IsDerivation IsLemma added steps → k ≡ length steps - 1 → k < length steps → last ≡ get_or steps k last → length last.lits ≡ 0
      → IsRefutationBy IsLemma added steps
  refutation_by steps last k derived at_end inside at empty = record {
    derived = derived;
    ends_empty =
        ap (slice_get (clauses_of steps)) (sym at_end)
        ∙ slice_get-map (λ (s : HintedClause). s.lits) steps k
        ∙ ap (option_map (λ (s : HintedClause). s.lits)) (slice_get-get_or steps k last inside ∙ ap Some (sym at))
        ∙ ap Some (nil_from_length last.lits empty);
  }

-- Lemmas

pub listed_kept : (old new : List Clause) (kept : List Kept) → KeepsLemmas old new → AreListed old kept → AreListed new kept
listed_kept old new kept keeps listed k d inside = keeps (get_or kept k d).0 (get_or kept k d).1 (listed k d inside)

-- after a conflict of a theory
pub listed_after : (old new : List Clause) (kept after : List Kept) (answer : TheoryAnswer) (clause : Clause) (number : ℕ) → KeepsLemmas old new → AreListed old kept
    → NamesLemma new answer → answer ≡ Conflict clause number → (after ≡ kept) ⊎ (after ≡ kept ++ (number, clause) ∷ []) → AreListed new after
listed_after old new kept after answer clause number keeps listed names is changed =
    let still = listed_kept old new kept keeps listed in
    let at : slice_get new number ≡ Some clause = subst (NamesLemma new) is names in
    elim changed as (λ _. AreListed new after) [
      | inl same ↦ subst (AreListed new) (sym same) still
      | inr more ↦ subst (AreListed new) (sym more) (All-push (λ (lemma : Kept). slice_get new lemma.0 ≡ Some lemma.1) kept (number, clause) still at)
    ]

module _ (lemmas : List Clause) (kept : List Kept) (listed : AreListed lemmas kept) (added : List Clause) where
  name_listed : (earlier : List Clause) (hint : Hint) (clause : Clause) → Names (IsKept kept) added earlier hint clause → Names (λ k c. slice_get lemmas k ≡ Some c) added earlier hint clause
  name_listed earlier (Added k) clause named = named
  name_listed earlier (Lemma k) clause named = All-contains (λ (lemma : Kept). slice_get lemmas lemma.0 ≡ Some lemma.1) kept (k, clause) listed named
  name_listed earlier (Step k) clause named = named

  names_listed : (earlier : List Clause) (hints : List Hint) (clauses : List Clause) → AreNamed (Names (IsKept kept) added earlier) hints clauses → AreNamed (Names (λ k c. slice_get lemmas k ≡ Some c) added earlier) hints clauses
  names_listed earlier [] [] all = tt
  names_listed earlier [] (c ∷ clauses) all = absurd all
  names_listed earlier (h ∷ hints) [] all = absurd all
  names_listed earlier (h ∷ hints) (c ∷ clauses) all = (name_listed earlier h c all.0, names_listed earlier hints clauses all.1)

  pub refutation_listed : (steps : List HintedClause) → IsRefutationBy (IsKept kept) added steps → IsRefutation added lemmas steps
  refutation_listed steps refutes = record {
    derived = λ k step at.
        let follows = refutes.derived k step at in
        record { named = follows.named; are_named = names_listed (clauses_of (take k steps)) step.hints.items follows.named follows.are_named; follows = follows.follows };
    ends_empty = refutes.ends_empty;
  }

-- an outcome that was made of steps
pub refuted_outcome : (P : List HintedClause → Type 0) (found : Option (Vec HintedClause Global)) (result : Option Outcome) → IfSome found (λ those. P those.items)
    → OnSomeRefuted (λ steps. IsSomeAnd found (λ those. steps ≡ those.items)) result → OnSomeRefuted P result
refuted_outcome P found None holds is = tt
refuted_outcome P found (Some (Model trail)) holds is = tt
refuted_outcome P None (Some (Refuted steps)) holds is = absurd is
refuted_outcome P (Some those) (Some (Refuted steps)) holds is = subst P (sym is) holds

pub outcome_refuted : (lemmas : List Clause) (old new : State) (found : Option (Vec HintedClause Global)) (result : Option Outcome) → SameClauses old new → AreListed lemmas new.lemmas
    → IfSome found (λ steps. IsRefutationBy (IsKept new.lemmas) new.added steps.items)
    → OnSomeRefuted (λ steps. IsSomeAnd found (λ those. steps ≡ those.items)) result → OnSomeRefuted (λ steps. IsRefutation old.added lemmas steps) result
outcome_refuted lemmas old new found result same listed refutes is =
    refuted_outcome (λ steps. IsRefutation old.added lemmas steps) found result
    (IfSome_then found refutes (λ those r. subst (λ added. IsRefutation added lemmas those.items) same.added (refutation_listed lemmas new.lemmas listed new.added those.items r)))
    is

pub steps_refute : (lemmas : List Clause) (old between new : State) (found : Option (Vec HintedClause Global)) (steps : Vec HintedClause Global) → SameClauses old between → SameClauses between new → AreListed lemmas old.lemmas
    → between.lemmas ≡ old.lemmas → new.lemmas ≡ between.lemmas → IfSome found (λ those. IsRefutationBy (IsKept new.lemmas) new.added those.items) → found ≡ Some steps → IsRefutation old.added lemmas steps.items
steps_refute lemmas old between new found steps first second listed one two refutes is =
    let at : IsRefutationBy (IsKept new.lemmas) new.added steps.items = let P = λ (o : Option (Vec HintedClause Global)). IfSome o (λ those. IsRefutationBy (IsKept new.lemmas) new.added those.items) in subst P is refutes in
    subst (λ added. IsRefutation added lemmas steps.items) (second.added ∙ first.added)
    (refutation_listed lemmas new.lemmas (subst (AreListed lemmas) (sym (two ∙ one)) listed) new.added steps.items at)
