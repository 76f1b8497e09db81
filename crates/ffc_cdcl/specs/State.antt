-- What a solver has between its calls.
use Rattle.std.specs.Prelude.{◌≡◌, ◌<◌, ℕ, Bool, true, List, map, All, Contains, Some, slice_get}
use Rattle.ffc_clause.specs.Clauses.{Literal, Clause, clause_holds}

-- a lemma of the theory, after its number in the theory's list
abbrev pub Kept : Type 0
Kept = ℕ × Clause

pub record State : Type 0 where
  -- clauses name nodes below this number
  pub nodes : ℕ
  -- the added clauses, by number
  pub added : List Clause
  -- how many clauses there were when each open scope was opened
  pub scopes : List ℕ
  pub lemmas : List Kept
  pub learned : List Clause

-- a clause names nodes below this number
abbrev pub AllBelow : ℕ → Clause → Type 0
AllBelow nodes clause = All (λ (l : Literal). l.1 < nodes) clause

abbrev pub kept_clauses : List Kept → List Clause
kept_clauses kept = map (λ (lemma : Kept). lemma.1) kept

-- each kept lemma is in this list at its number
abbrev pub AreListed : List Clause → List Kept → Type 0
AreListed lemmas kept = All (λ (lemma : Kept). slice_get lemmas lemma.0 ≡ Some lemma.1) kept

-- a clause is kept as the lemma of this number
abbrev pub IsKept : List Kept → ℕ → Clause → Type 0
IsKept kept number clause = Contains kept (number, clause)

abbrev pub AllHold : (ℕ → Bool) → List Clause → Type 0
AllHold truth clauses = All (λ clause. clause_holds truth clause ≡ true) clauses

-- a clause is true wherever these added clauses and these lemmas are
abbrev pub Implies : List Clause → List Clause → Clause → Type 0
Implies added lemmas clause = (truth : ℕ → Bool) → AllHold truth added → AllHold truth lemmas → clause_holds truth clause ≡ true

-- what was learned follows from the added clauses and the lemmas
abbrev pub LearnedFollow : State → Type 0
LearnedFollow s = All (Implies s.added (kept_clauses s.lemmas)) s.learned

-- added clauses, their numbers, the scopes and the nodes are the same
pub record SameClauses (old new : State) : Type 0 where
  pub nodes : new.nodes ≡ old.nodes
  pub added : new.added ≡ old.added
  pub scopes : new.scopes ≡ old.scopes
