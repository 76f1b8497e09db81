-- Faults of a command, and which of them is answered.
--
--  4  the head of a form is a symbol, but not a command
--  5  the first item that doesn't fit, or is one too many; the closing parenthesis where an item is missing
--  6  a logic other than QF_FF
--  7  a command that needs a logic before there is one; the logic set twice; a global option set after it
--  8  a name, or the name of a sort, that is not in scope
--  9  a name that is taken, or occurs twice in one list
-- 10  a term of the wrong sort
-- 11  an order that no field of the solver has
-- 13  a constant of a field that is spelled wrongly, or is 2^128 or more in size
-- 14  a term that is too high
-- 15  too many nodes, or too heavy a command
-- 16  too many levels, or too few
--
-- Of all faults of a command the leftmost is answered, and of those at one place the one of the lowest code. Code 15
-- counts only where the command has no other.
use Rattle.std.specs.Prelude.{ℕ, ◌==◌, nat_lt, Bool, ◌&&◌, ◌||◌, List, [], ◌∷◌, ◌++◌, if◌then◌else◌}
use Rattle.ffc_smt.specs.Trees.{Word, Tree, front}

pub record Fault : Type 0 where
  pub line : ℕ
  pub column : ℕ
  pub code : ℕ

abbrev pub word_fault : ℕ → Word → Fault
word_fault code w = record { line = w.line; column = w.column; code = code }

-- at a place to the left, or at the same place and of a lower code
abbrev pub is_before : Fault → Fault → Bool
is_before f g =
    nat_lt f.line g.line
    || (f.line == g.line && (nat_lt f.column g.column || (f.column == g.column && nat_lt f.code g.code)))

-- the one that is answered
abbrev pub first_fault : Fault → List Fault → Fault
first_fault f [] = f
first_fault f (g ∷ gs) = first_fault (if is_before g f then g else f) gs

-- What a part of a form reads as: what it says, or its faults, of which there is at least one. A fault may be in the list
-- twice, and these are left out:
--
--  * Code 10 or 14 of a term that holds a fault: it has no sort and no height, so it raises no second one.
--  * The faults of what is read only where a part to the left of it has none, as the body of a `let`, which needs the
--    variables, and that of a macro, which needs the parameters. They are to the right of the faults of that part, so none
--    of them is the first.
--  * Code 15, which counts only where there is no other.
--
-- So the first of the list is the fault of the form.
pub data Read (A : Type 0) : Type 0 where
  Sound : A → Read A
  Faulty : Fault → List Fault → Read A

abbrev pub faults : {A : Type 0} → Read A → List Fault
faults (Sound a) = []
faults (Faulty f fs) = f ∷ fs

abbrev pub faulty : {A : Type 0} → ℕ → Word → Read A
faulty code w = Faulty (word_fault code w) []

-- what is said, unless there are these faults
abbrev pub unless : {A : Type 0} → List Fault → Read A → Read A
unless [] r = r
unless (f ∷ fs) r = Faulty f (fs ++ faults r)

abbrev pub read_map : {A B : Type 0} → (A → B) → Read A → Read B
read_map f (Sound a) = Sound (f a)
read_map f (Faulty g gs) = Faulty g gs

-- two parts
abbrev pub both : {A B : Type 0} → Read A → Read B → Read (A × B)
both (Sound a) (Sound b) = Sound (a, b)
both (Sound a) (Faulty f fs) = Faulty f fs
both (Faulty f fs) r = Faulty f (fs ++ faults r)

-- A part that is judged only where another one, which is before it or inside it, has no fault.
abbrev pub behind : {A B : Type 0} → Read A → (A → Read B) → Read B
behind (Sound a) next = next a
behind (Faulty f fs) next = Faulty f fs

-- no more items
abbrev pub no_more : List Tree → List Fault
no_more [] = []
no_more (t ∷ ts) = word_fault 5 (front t) ∷ []

abbrev pub last : List Tree → Read (Unit {0})
last ts = unless (no_more ts) (Sound tt)

-- an item, and then others; the word is the parenthesis that closes the list
abbrev pub item : {A B : Type 0} → Word → (Tree → Read A) → (List Tree → Read B) → List Tree → Read (A × B)
item closing read next [] = faulty 5 closing
item closing read next (t ∷ ts) = both (read t) (next ts)
