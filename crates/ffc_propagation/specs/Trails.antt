-- A trail: which nodes are forced, and how, and the literals that say so.
use Rattle.std.specs.Prelude.{◌≡◌, ℕ, ◌+◌, ◌<◌, Bool, true, false, not, List, ◌++◌, length, take, filter, count_by, All, slice_index_or, Option, Some, None}
use Rattle.std.specs.List.{list_any}
use Rattle.ffc_clause.specs.Clauses.{Literal, Clause, plus, minus, negated, same_truth, same_literal, is_among}
use Rattle.ffc_propagation.specs.declared.trail.Trail.{Trail}

abbrev pub is_mark_of : Bool → Option Bool → Bool
is_mark_of b None = false
is_mark_of b (Some m) = same_truth b m

abbrev pub is_marked : Option Bool → Bool
is_marked None = false
is_marked (Some m) = true

abbrev pub mark_of : List (Option Bool) → ℕ → Option Bool
mark_of marks id = slice_index_or marks id None

abbrev pub is_true_at : List (Option Bool) → Literal → Bool
is_true_at marks l = is_mark_of l.0 (mark_of marks l.1)

abbrev pub is_false_at : List (Option Bool) → Literal → Bool
is_false_at marks l = is_true_at marks (negated l)

abbrev pub is_open_at : List (Option Bool) → Literal → Bool
is_open_at marks l = not (is_false_at marks l)

-- the nodes of a clause are below a number
abbrev pub IsWithin : ℕ → Clause → Type 0
IsWithin nodes clause = All (λ l. l.1 < nodes) clause

-- all open literals of a clause are one
abbrev pub HasOneOpen : List (Option Bool) → Clause → Type 0
HasOneOpen marks clause =
    (l m : Literal) → is_among (filter (is_open_at marks) clause) l ≡ true → is_among (filter (is_open_at marks) clause) m ≡ true → same_literal m l ≡ true

-- Just the literals are marked. Each is new, and there is a reason for each.
pub record IsTrail (t : Trail) : Type 0 where
  pub marked : (l : Literal) → is_true_at t.marks.items l ≡ is_among t.literals.items l
  pub new : (i : ℕ) → i < length t.literals.items → is_among (take i t.literals.items) (slice_index_or t.literals.items i (minus 0)) ≡ false
  pub few : length t.literals.items ≡ count_by is_marked t.marks.items
  pub reasons : length t.reasons.items ≡ length t.literals.items

-- some literals were added, or none
pub record IsGrown (old new : Trail) : Type 0 where
  pub trail : IsTrail new
  pub long : length new.marks.items ≡ length old.marks.items
  pub more : List Literal
  pub grown : new.literals.items ≡ old.literals.items ++ more

-- Some clause is false: only its reason has no literal.
pub record IsEnded (old new : Trail) : Type 0 where
  pub marked : (l : Literal) → is_true_at new.marks.items l ≡ is_among new.literals.items l
  pub few : length new.literals.items ≡ count_by is_marked new.marks.items
  pub long : length new.marks.items ≡ length old.marks.items
  pub reasons : length new.reasons.items ≡ length new.literals.items + 1

abbrev pub is_satisfied : Trail → Clause → Bool
is_satisfied t clause = list_any (is_among t.literals.items) clause

-- a literal of the clause is forced
pub record IsTaken (clause : Clause) (old new : Trail) : Type 0 where
  pub grown : IsGrown old new
  pub satisfied : is_satisfied new clause ≡ true

abbrev pub HasTaken : Clause → Trail → Trail → Bool → Type 0
HasTaken clause old new true = IsEnded old new
HasTaken clause old new false = IsTaken clause old new

-- all these nodes are forced
pub record AreTaken (ids : List ℕ) (old new : Trail) : Type 0 where
  pub grown : IsGrown old new
  pub all : All (λ id. is_among new.literals.items (plus id) ≡ true) ids

abbrev pub HasTakenAll : List ℕ → Trail → Trail → Bool → Type 0
HasTakenAll ids old new true = IsEnded old new
HasTakenAll ids old new false = AreTaken ids old new
