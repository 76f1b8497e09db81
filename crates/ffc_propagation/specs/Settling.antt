-- Clauses of which a literal is forced or at least two are open, while literals are looked at in turn.
use Rattle.std.specs.Prelude.{◌≡◌, ℕ, ◌*◌, ◌<◌, ◌≤◌, ◌⊎◌, Bool, true, false, List, [], length, map, take, All, slice_index_or}
use Rattle.ffc_clause.specs.Clauses.{Literal, Clause, is_among}
use Rattle.ffc_encode.specs.declared.clauses.NodeClause.{NodeClause}
use Rattle.ffc_propagation.specs.Counts.{IsCounted}
use Rattle.ffc_propagation.specs.Rows.{clause_at, AreRows}
use Rattle.ffc_propagation.specs.Trails.{IsWithin, IsTrail, IsGrown, IsEnded, is_satisfied}
use Rattle.ffc_propagation.specs.declared.occurrences.Occurrences.{Occurrences}
use Rattle.ffc_propagation.specs.declared.trail.Trail.{Trail}

abbrev pub clauses_of : List NodeClause → List Clause
clauses_of clauses = map (λ c. c.lits) clauses

-- of each clause so many different literals have negations that are not known
abbrev pub AreCounted : (Literal → Bool) → List Clause → List ℕ → Type 0
AreCounted known clauses counts = (k : ℕ) → k < length clauses → IsCounted known (clause_at clauses k) (slice_index_or counts k 0)

-- the rows and counts of clauses while nothing is known
pub record IsOpened (nodes : ℕ) (clauses : List Clause) (o : Occurrences) : Type 0 where
  pub wide : length o.rows ≡ 2 * nodes
  pub long : length o.counts.items ≡ length clauses
  pub rows : AreRows clauses (length clauses) [] o.rows
  pub counted : AreCounted (λ m. false) clauses o.counts.items

-- the same while the first literals of a trail were looked at
pub record IsSettling (clauses : List Clause) (looked : ℕ) (t : Trail) (o : Occurrences) : Type 0 where
  pub trail : IsTrail t
  pub within : All (IsWithin (length t.marks.items)) clauses
  pub upto : looked ≤ length t.literals.items
  pub wide : length o.rows ≡ 2 * length t.marks.items
  pub long : length o.counts.items ≡ length clauses
  pub rows : AreRows clauses (length clauses) [] o.rows
  pub counted : AreCounted (is_among (take looked t.literals.items)) clauses o.counts.items

-- a literal of the clause is forced, or two different ones have negations that were not looked at
abbrev pub IsSettledAt : List Clause → Trail → Occurrences → ℕ → Type 0
IsSettledAt clauses t o k = (is_satisfied t (clause_at clauses k) ≡ true) ⊎ (2 ≤ slice_index_or o.counts.items k 0)

-- rows and counts of clauses, whatever was looked at
pub record HasState (clauses : List Clause) (t : Trail) (o : Occurrences) : Type 0 where
  pub looked : ℕ
  pub state : IsSettling clauses looked t o

-- the clause of a number is settled, or it is false
abbrev pub TakesAt : List Clause → ℕ → Trail → Trail → Occurrences → Bool → Type 0
TakesAt clauses k old t o true = IsEnded old t
TakesAt clauses k old t o false = IsGrown old t × IsSettledAt clauses t o k

-- all clauses are settled, or one is false
abbrev pub TakesAll : List Clause → Trail → Trail → Occurrences → Bool → Type 0
TakesAll clauses old t o true = IsEnded old t
TakesAll clauses old t o false = IsGrown old t × ((k : ℕ) → k < length clauses → IsSettledAt clauses t o k)

-- the same while the first literals of a trail were looked at
pub record IsSettled (clauses : List Clause) (looked : ℕ) (t : Trail) (o : Occurrences) : Type 0 where
  pub state : IsSettling clauses looked t o
  pub all : (k : ℕ) → k < length clauses → IsSettledAt clauses t o k

-- these, or a clause is false
abbrev pub Settles : List Clause → ℕ → Trail → Trail → Occurrences → Bool → Type 0
Settles clauses looked old t o true = IsEnded old t
Settles clauses looked old t o false = IsGrown old t × IsSettled clauses looked t o

-- all literals of a trail were looked at, and all clauses are settled, or one is false
abbrev pub Completes : List Clause → Trail → Trail → Occurrences → Bool → Type 0
Completes clauses old t o true = IsEnded old t
Completes clauses old t o false = IsGrown old t × IsSettled clauses (length t.literals.items) t o
