-- What is answered of ideals, by the lines of a basis (Cox, Little and O'Shea, chapter 2, section 8).
use Rattle.std.specs.Prelude.{◌≡◌, ◌≢◌, ℕ, suc, ◌+◌, ◌*◌, ◌≤◌, List, [], ◌∷◌, ◌++◌, length, Option, Some, None}
use Rattle.std.specs.declared.cmp.Ordering.{Ordering}
use Rattle.ffc_base.specs.Metering.{Spending, total}
use Rattle.ffc_field.specs.Binomial.{choose}
use Rattle.ffc_ring.specs.Monomial.{Monomial}
use Rattle.ffc_ring.specs.Polynomial.{Terms, SamePolynomial, difference}
use Rattle.ffc_poly.specs.Ordered.{IsConstant}
use Rattle.ffc_line.specs.declared.line.Line.{Line}
use Rattle.ffc_basis.specs.declared.reduction.Reduced.{Reduced}
use Rattle.ffc_line.specs.Lines.{Parts, polys_of, combination, AreBefore, AreGenerators}
use Rattle.ffc_basis.specs.Reduction.{ArePartsAtMost, IsReduced, IsStopped}
use Rattle.ffc_basis.specs.Completion.{IsClosed, IsSetAside, IsConstantLine}
use Rattle.ffc_basis.specs.Completed.{AreAdded}
use Rattle.ffc_basis.specs.Units.{IsUpTo, AreUpTo}
use Rattle.ffc_ideal.specs.declared.answers.IdealAnswer.{IdealAnswer}
use Rattle.ffc_ideal.specs.declared.answers.IdealAnswer.TheVariants.{One, Free, SetAside}
use Rattle.ffc_ideal.specs.declared.answers.Membership.{Membership}
use Rattle.ffc_ideal.specs.declared.answers.Membership.TheVariants as membership
use Rattle.ffc_ideal.specs.declared.answers.IdealStop.{IdealStop}
use Rattle.ffc_ideal.specs.declared.answers.IdealStop.TheVariants.{Spent, Memory}
use Rattle.ffc_ideal.specs.Ideals.{Ideal, one}

-- ---- lines

-- the line with this number is the sum of its parts' multiples of earlier lines
abbrev pub IsSumLine : {F O : Type 0} → ℕ → List Terms → ℕ → Line F O → Type 0
IsSumLine p gs i l = AreBefore i l.parts.items × SamePolynomial p l.poly (combination gs l.parts.items)

-- so are these lines, which are numbered from i on
abbrev pub AreSumsFrom : {F O : Type 0} → ℕ → List Terms → ℕ → List (Line F O) → Type 0
AreSumsFrom p gs i [] = Unit {0}
AreSumsFrom p gs i (l ∷ ls) = IsSumLine p gs i l × AreSumsFrom p gs (suc i) ls

-- each line has at least one part
abbrev pub HaveParts : {F O : Type 0} → List (Line F O) → Type 0
HaveParts [] = Unit {0}
HaveParts (l ∷ ls) = (l.parts.items ≢ []) × HaveParts ls

-- the lines are the generators in order, and after them further lines, each the sum of its parts
pub record AreLinesOf {F O : Type 0} (p : ℕ) (gens : List Terms) (lines further : List (Line F O)) : Type 0 where
  pub generators : List (Line F O)
  pub whole : lines ≡ generators ++ further
  pub are_generators : AreGenerators generators gens
  pub sums : AreSumsFrom p (polys_of lines) (length gens) further

-- the polynomial of the last line is such a one
abbrev pub EndWith : {F O : Type 0} → List (Line F O) → (Terms → Type 0) → Type 0
EndWith {F} {O} lines P = (before : List (Line F O)) × (last : Line F O) × (lines ≡ before ++ last ∷ []) × P last.poly

-- the lines are the generators and further ones, each with at least one part
abbrev pub ShowSums : {F O : Type 0} → ℕ → List Terms → List (Line F O) → Type 0
ShowSums {F} {O} p gens lines = (further : List (Line F O)) × AreLinesOf p gens lines further × HaveParts further

-- the lines show that 1 is in the ideal: the last one is a constant other than 0
abbrev pub ShowOne : {F O : Type 0} → ℕ → List Terms → List (Line F O) → Type 0
ShowOne {F} {O} p gens lines = ShowSums p gens lines × EndWith lines (λ ts. (ts ≢ []) × IsConstant p ts)

-- the lines show that the polynomial is in the ideal: it is the last one
abbrev pub ShowMember : {F O : Type 0} → ℕ → List Terms → Terms → List (Line F O) → Type 0
ShowMember {F} {O} p gens poly lines =
    (further : List (Line F O)) × AreLinesOf p gens lines further × EndWith lines (λ ts. ts ≡ poly)

-- lines of a basis: no leading monomial of a further line is divisible by that of an earlier line
abbrev pub AreBasisLines : {F O : Type 0} → ℕ → (Monomial → Monomial → Ordering) → List Terms → List (Line F O) → Type 0
AreBasisLines {F} {O} p cmp gens lines =
    (further : List (Line F O)) × AreLinesOf p gens lines further × AreAdded p cmp gens further

-- no line is a constant other than 0
abbrev pub HasNoConstant : ℕ → List Terms → Type 0
HasNoConstant p gs = (i : ℕ) → IsConstantLine p gs i → ⊥

-- ---- whether 1 is in the ideal

abbrev pub IsIdealAnswer : {F : Type 0} → ℕ → (Monomial → Monomial → Ordering) → List Terms → IdealAnswer F → Type 0
IsIdealAnswer p cmp gens (One lines) = ShowOne p gens lines.items
IsIdealAnswer p cmp gens Free = Ideal p gens one → ⊥
IsIdealAnswer p cmp gens (SetAside lines pairs stopped) =
    AreBasisLines p cmp gens lines.items × HasNoConstant p (polys_of lines.items)
    × IsSetAside p cmp (polys_of lines.items) pairs × (stopped ≡ None)

-- ---- whether a polynomial is in the ideal

-- pairs of lines at which a limit was passed; there are none where the lines are a Gröbner basis
abbrev pub ArePairsOf : ℕ → (Monomial → Monomial → Ordering) → List Terms → List (ℕ × ℕ) → Type 0
ArePairsOf p cmp gs [] = IsClosed p cmp gs
ArePairsOf p cmp gs (t ∷ ts) = IsSetAside p cmp gs (t ∷ ts)

-- what is left of the polynomial, which is not 0
pub record IsRest (p : ℕ) (cmp : Monomial → Monomial → Ordering) (gs : List Terms) (poly rest : Terms) (parts : Parts) : Type 0 where
  pub nonzero : rest ≢ []
  pub difference : SamePolynomial p rest (difference p poly (combination gs parts))
  pub before : AreBefore (length gs) parts
  pub at_most : ArePartsAtMost p cmp gs poly parts

-- It is reduced where no limit was passed, and then there are pairs; else the answer of the reduction names the limit.
abbrev pub IsUndecided : {F O : Type 0} → ℕ → (Monomial → Monomial → Ordering) → List Terms → Terms → List (ℕ × ℕ) → Option (Reduced F O) → Type 0
IsUndecided p cmp gs poly pairs None =
    (pairs ≢ []) × (rest : Terms) × (parts : Parts) × IsRest p cmp gs poly rest parts × IsReduced p cmp gs rest
IsUndecided p cmp gs poly pairs (Some r) =
    IsRest p cmp gs poly r.rest r.parts.items × (i : ℕ) × (q : Monomial) × (r.over ≡ Some (i, q)) × IsStopped p cmp gs r.rest r.parts.items i q

abbrev pub IsMembership : {F : Type 0} → ℕ → (Monomial → Monomial → Ordering) → List Terms → Terms → Membership F → Type 0
IsMembership p cmp gens poly (membership.Inside lines) = ShowMember p gens poly lines.items
IsMembership p cmp gens poly membership.Outside = Ideal p gens poly → ⊥
IsMembership p cmp gens poly (membership.SetAside lines pairs stopped) =
    AreBasisLines p cmp gens lines.items × ArePairsOf p cmp (polys_of lines.items) pairs
    × IsUndecided p cmp (polys_of lines.items) poly pairs stopped

-- ---- why there is no answer

-- the lines so far; the budget is spent, and was within this bound, which may depend on them
abbrev pub IsIdealStop : {F : Type 0} → ℕ → (Monomial → Monomial → Ordering) → List Terms → Spending → (List Terms → Type 0) → IdealStop F → Type 0
IsIdealStop p cmp gens new within (Spent lines) =
    AreBasisLines p cmp gens lines.items × (total new ≡ new.budget) × within (polys_of lines.items)
IsIdealStop p cmp gens new within Memory = Unit {0}

-- no more units were left than a completion with these lines takes at most
abbrev pub IsWithinCompletion : ℕ → Spending → List Terms → Type 0
IsWithinCompletion p old gs =
    (vs : List ℕ) (d : ℕ) → AreUpTo p vs d gs
    → old.budget ≤ total old + length gs * length gs * (1 + choose (length vs + (d + d)) (d + d))

-- than that and the reduction of the polynomial
abbrev pub IsWithinMembership : ℕ → Terms → Spending → List Terms → Type 0
IsWithinMembership p poly old gs =
    (vs : List ℕ) (d e : ℕ) → AreUpTo p vs d gs → IsUpTo p vs e poly
    → old.budget ≤ total old + length gs * length gs * (1 + choose (length vs + (d + d)) (d + d)) + choose (length vs + e) e
