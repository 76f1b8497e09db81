-- Refutations: clauses that follow one after another by hints from added clauses, from lemmas and from each other, and end in
-- the empty clause. A hint names its clause by a number.
use Rattle.std.specs.Prelude.{◌≡◌, ℕ, ◌-◌, true, List, [], ◌∷◌, length, map, take, Some, slice_get}
use Rattle.std.specs.List.{range_with_len}
use Rattle.ffc_clause.specs.Clauses.{Clause}
use Rattle.ffc_clause.specs.Hints.{follows}
use Rattle.ffc_cdcl.specs.declared.answer.Hint.{Hint}
use Rattle.ffc_cdcl.specs.declared.answer.Hint.TheVariants.{Added, Lemma, Step}
use Rattle.ffc_cdcl.specs.declared.answer.HintedClause.{HintedClause}

-- the clause of a hint, over what the lemmas are, added clauses and earlier steps
abbrev pub Names : (ℕ → Clause → Type 0) → List Clause → List Clause → Hint → Clause → Type 0
Names IsLemma added earlier (Added k) clause = slice_get added k ≡ Some clause
Names IsLemma added earlier (Lemma k) clause = IsLemma k clause
Names IsLemma added earlier (Step k) clause = slice_get earlier k ≡ Some clause

-- the clauses of hints, in order
abbrev pub AreNamed : (Hint → Clause → Type 0) → List Hint → List Clause → Type 0
AreNamed Named [] [] = Unit {0}
AreNamed Named [] (clause ∷ clauses) = ⊥
AreNamed Named (hint ∷ hints) [] = ⊥
AreNamed Named (hint ∷ hints) (clause ∷ clauses) = Named hint clause × AreNamed Named hints clauses

-- a clause follows by the clauses that its hints name, each hint in its turn
pub record FollowsBy (Named : Hint → Clause → Type 0) (clause : Clause) (hints : List Hint) : Type 0 where
  pub named : List Clause
  pub are_named : AreNamed Named hints named
  pub follows : follows named clause (range_with_len 0 (length named)) ≡ true

abbrev pub clauses_of : List HintedClause → List Clause
clauses_of steps = map (λ s. s.lits) steps

-- each step follows by added clauses, lemmas and earlier steps
abbrev pub IsDerivation : (ℕ → Clause → Type 0) → List Clause → List HintedClause → Type 0
IsDerivation IsLemma added steps = (k : ℕ) (step : HintedClause) → slice_get steps k ≡ Some step
    → FollowsBy (Names IsLemma added (clauses_of (take k steps))) step.lits step.hints.items

pub record IsRefutationBy (IsLemma : ℕ → Clause → Type 0) (added : List Clause) (steps : List HintedClause) : Type 0 where
  pub derived : IsDerivation IsLemma added steps
  pub ends_empty : slice_get (clauses_of steps) (length steps - 1) ≡ Some []

-- a refutation whose lemmas are these, by their numbers
abbrev pub IsRefutation : List Clause → List Clause → List HintedClause → Type 0
IsRefutation added lemmas steps = IsRefutationBy (λ k clause. slice_get lemmas k ≡ Some clause) added steps
