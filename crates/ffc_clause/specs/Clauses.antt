-- Literals and clauses over variables that are numbers, and what makes them true (Davis and Putnam 1960).
use Rattle.std.specs.Prelude.{ℕ, Bool, true, false, not, ◌==◌, ◌&&◌, List}
use Rattle.std.specs.List.{list_any}

-- a variable by its number, with true for the variable and false for its negation
abbrev pub Literal : Type 0
Literal = Bool × ℕ

abbrev pub Clause : Type 0
Clause = List Literal

abbrev pub plus : ℕ → Literal
plus v = (true, v)

abbrev pub minus : ℕ → Literal
minus v = (false, v)

abbrev pub negated : Literal → Literal
negated l = (not l.0, l.1)

-- two truth values are one
abbrev pub same_truth : Bool → Bool → Bool
same_truth true b = b
same_truth false b = not b

abbrev pub same_literal : Literal → Literal → Bool
same_literal a b = same_truth a.0 b.0 && a.1 == b.1

-- the literal is among these
abbrev pub is_among : List Literal → Literal → Bool
is_among ls l = list_any (same_literal l) ls

-- a literal is true where its variable has the literal's truth value
abbrev pub literal_holds : (ℕ → Bool) → Literal → Bool
literal_holds truth l = same_truth l.0 (truth l.1)

-- a clause is true where some literal of it is
abbrev pub clause_holds : (ℕ → Bool) → Clause → Bool
clause_holds truth clause = list_any (literal_holds truth) clause
