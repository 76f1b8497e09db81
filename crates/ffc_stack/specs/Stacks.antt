-- Levels of a basis. Each level has generators, and lines that were added to complete the basis with them.
use Rattle.std.specs.Prelude.{◌≡◌, ◌≢◌, ℕ, ◌<◌, ◌≤◌, List, [], ◌∷◌, ◌++◌, length, take, drop, get_or}
use Rattle.std.specs.List.{Contains}
use Rattle.std.specs.declared.cmp.Ordering.{Ordering}
use Rattle.ffc_ring.specs.Monomial.{Monomial}
use Rattle.ffc_ring.specs.Polynomial.{Terms}
use Rattle.ffc_line.specs.declared.line.Line.{Line}
use Rattle.ffc_base.specs.Metering.{Spending}
use Rattle.ffc_basis.specs.Completed.{AreAdded, IsFront}
use Rattle.ffc_line.specs.Lines.{Parts, polys_of, AreGenerators}
use Rattle.ffc_basis.specs.Units.{IsCompletionBound}
use Rattle.ffc_stack.specs.Generators.{IsGenerator, LeadsTo}

-- the lines, and for each level how many lines there were when it began
pub record Stack (F O : Type 0) : Type 0 where
  pub lines : List (Line F O)
  pub marks : List ℕ

-- a record of its parts
abbrev pub stack_of : {F O : Type 0} → List (Line F O) → List ℕ → Stack F O
stack_of ls ms = record { lines = ls; marks = ms }

-- a line's polynomial, where the line has no parts
abbrev pub own : Parts → Terms → List Terms
own [] ts = ts ∷ []
own (t ∷ parts) ts = []

-- the polynomials of the lines without parts, in order
abbrev pub generators : {F O : Type 0} → List (Line F O) → List Terms
generators [] = []
generators (l ∷ ls) = own l.parts.items l.poly ++ generators ls

-- each of these lines has parts
abbrev pub HaveParts : {F O : Type 0} → List (Line F O) → Type 0
HaveParts [] = Unit {0}
HaveParts (l ∷ ls) = (l.parts.items ≢ []) × HaveParts ls

-- the marks do not fall, and lie between these numbers
abbrev pub AreMarks : ℕ → ℕ → List ℕ → Type 0
AreMarks low high [] = low ≤ high
AreMarks low high (m ∷ ms) = (low ≤ m) × AreMarks m high ms

-- no generator lies below the first level
abbrev pub HaveNoneBelow : {F O : Type 0} → List (Line F O) → List ℕ → Type 0
HaveNoneBelow ls [] = generators ls ≡ []
HaveNoneBelow ls (m ∷ ms) = generators (take m ls) ≡ []

-- the generators of each level, whose lines begin at its mark and end where the next level begins
abbrev pub levels_from : {F O : Type 0} → List (Line F O) → List ℕ → List (List Terms)
levels_from ls [] = []
levels_from ls (m ∷ []) = generators (drop m ls) ∷ []
levels_from ls (m ∷ k ∷ ms) = generators (drop m (take k ls)) ∷ levels_from ls (k ∷ ms)

-- the generators of each live level, from the oldest level on
abbrev pub levels : {F O : Type 0} → Stack F O → List (List Terms)
levels s = levels_from s.lines s.marks

-- the lists one after another
abbrev pub joined : List (List Terms) → List Terms
joined [] = []
joined (gs ∷ rest) = gs ++ joined rest

-- What the parts of a line lead to is a line, and where that is a generator, it is one of a live level.
abbrev pub LeadToLive : {F O : Type 0} → Stack F O → Type 0
LeadToLive s =
    (i j : ℕ) → i < length s.lines → LeadsTo s.lines i j
    → (j < length s.lines) × (IsGenerator s.lines j → Contains (joined (levels s)) (get_or (polys_of s.lines) j []))

-- these generators are appended as lines without parts, and a level begins with them
abbrev pub IsBegun : {F O : Type 0} → Stack F O → Stack F O → List Terms → Type 0
IsBegun {F} {O} old new gens =
    (own : List (Line F O)) × (new.lines ≡ old.lines ++ own) × AreGenerators own gens × (new.marks ≡ old.marks ++ length old.lines ∷ [])

-- these generators are appended as lines without parts, lines with parts after them, and a level begins with them
abbrev pub IsPushed : {F O : Type 0} → Stack F O → Stack F O → List Terms → Type 0
IsPushed {F} {O} old new gens =
    (own : List (Line F O)) × (more : List (Line F O)) × (new.lines ≡ (old.lines ++ own) ++ more) × AreGenerators own gens × HaveParts more
    × (new.marks ≡ old.marks ++ length old.lines ∷ [])

-- These generators are appended, and after them lines that complete them: no leading monomial of an added line is divisible by
-- that of an earlier line.
abbrev pub IsCompletedWith : {F O : Type 0} → ℕ → (Monomial → Monomial → Ordering) → Stack F O → Stack F O → List Terms → Type 0
IsCompletedWith {F} {O} p cmp old new gens =
    (own : List (Line F O)) × (more : List (Line F O)) × (new.lines ≡ (old.lines ++ own) ++ more) × AreGenerators own gens
    × AreAdded p cmp (polys_of (old.lines ++ own)) more

-- These generators, and lines that complete them, were appended when a push was stopped, and the units taken are bounded by
-- those lines.
abbrev pub IsStoppedWith : {F O : Type 0} → ℕ → (Monomial → Monomial → Ordering) → Stack F O → List Terms → Spending → Spending → Type 0
IsStoppedWith {F} {O} p cmp old gens before after =
    (reached : Stack F O) × IsCompletedWith p cmp old reached gens × IsCompletionBound p cmp (polys_of reached.lines) before after

-- so were lines alone
abbrev pub IsStoppedAfter : {F O : Type 0} → ℕ → (Monomial → Monomial → Ordering) → Stack F O → Spending → Spending → Type 0
IsStoppedAfter {F} {O} p cmp old before after =
    (reached : List (Line F O)) × IsFront p cmp old.lines reached × IsCompletionBound p cmp (polys_of reached) before after

-- lines with parts are appended, and the levels stay
abbrev pub GoesOn : {F O : Type 0} → Stack F O → Stack F O → Type 0
GoesOn {F} {O} old new = (more : List (Line F O)) × (new.lines ≡ old.lines ++ more) × HaveParts more × (new.marks ≡ old.marks)

-- the newest level is dropped, with all lines since it began
abbrev pub IsPopped : {F O : Type 0} → Stack F O → Stack F O → Type 0
IsPopped old new = (count : ℕ) × (old.marks ≡ new.marks ++ count ∷ []) × (new.lines ≡ take count old.lines)

-- What a push added, a pop drops: the stack is as before the push.
abbrev pub PopUndoesPush : (F O : Type 0) → Type 0
PopUndoesPush F O = (old mid new : Stack F O) (gens : List Terms) → IsPushed old mid gens → IsPopped mid new → new ≡ old

-- Lines that are added to a pushed level belong to it.
abbrev pub PushGoesOn : (F O : Type 0) → Type 0
PushGoesOn F O = (old mid new : Stack F O) (gens : List Terms) → IsPushed old mid gens → GoesOn mid new → IsPushed old new gens
