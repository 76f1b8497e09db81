-- Which numbers the parts of an entry may have, and how long its lists may be. A list that is written after its count has
-- fewer than 2^32 members. A monomial has each of its variables once, from the lowest.
use Rattle.std.specs.Prelude.{ℕ, ◌^◌, ◌<◌, Bool, List, [], ◌∷◌, length, Option, Some, None}
use Rattle.std.specs.List.{AllByRecursion}
use Rattle.ffc_cert.specs.declared.entries.Cause.{Cause}
use Rattle.ffc_cert.specs.declared.entries.Cause.TheVariants.{Degree, Terms, Steps, Memory}
use Rattle.ffc_cert.specs.declared.entries.CertLine.{CertLine}
use Rattle.ffc_cert.specs.declared.entries.CertLine.TheVariants.{Assume, Scheme, Hinted, Lemma, Combine, Bits, Chain, Step, Split, Values, Close}

-- a node, a line, a clause, a variable, an exponent, a count
abbrev pub IsNarrow : ℕ → Type 0
IsNarrow n = n < 2 ^ 32

-- a coefficient, a value, a zero, an order, a count of units
abbrev pub IsWide : ℕ → Type 0
IsWide n = n < 2 ^ 64

abbrev pub IsLiteral : Bool × ℕ → Type 0
IsLiteral l = IsNarrow l.1

-- a list that is written after its count
pub record IsCounted {A : Type 0} (P : A → Type 0) (xs : List A) : Type 0 where
  pub few : length xs < 2 ^ 32
  pub each : AllByRecursion P xs

pub record IsPower (p : ℕ × ℕ) : Type 0 where
  pub variable : IsNarrow p.0
  pub positive : 0 < p.1
  pub exponent : IsNarrow p.1

-- each variable is below all that follow
abbrev pub VariablesIncrease : List (ℕ × ℕ) → Type 0
VariablesIncrease [] = Unit {0}
VariablesIncrease (p ∷ powers) = AllByRecursion (λ q. p.0 < q.0) powers × VariablesIncrease powers

pub record IsMonomial (powers : List (ℕ × ℕ)) : Type 0 where
  pub counted : IsCounted IsPower powers
  pub increasing : VariablesIncrease powers

pub record IsTerm (t : ℕ × List (ℕ × ℕ)) : Type 0 where
  pub coefficient : IsWide t.0
  pub monomial : IsMonomial t.1

-- each number is below all that follow
abbrev pub Increase : List ℕ → Type 0
Increase [] = Unit {0}
Increase (x ∷ xs) = AllByRecursion (λ y. x < y) xs × Increase xs

-- variables of a line, each once, from the lowest
pub record AreVariables (variables : List ℕ) : Type 0 where
  pub counted : IsCounted IsNarrow variables
  pub increasing : Increase variables

pub record IsMultiple (m : ℕ × List (ℕ × List (ℕ × ℕ))) : Type 0 where
  pub line : IsNarrow m.0
  pub polynomial : IsCounted IsTerm m.1

abbrev pub IsOrder : Option ℕ → Type 0
IsOrder None = Unit {0}
IsOrder (Some order) = IsWide order

-- a line of a clause or a tree
abbrev pub IsLine : CertLine → Type 0
IsLine (Assume k) = IsNarrow k
IsLine (Scheme node scheme index) = IsNarrow node × (IsNarrow scheme × IsNarrow index)
IsLine (Hinted lits hints) = IsCounted IsLiteral lits × IsCounted IsNarrow hints
IsLine (Lemma order lits) = IsOrder order × IsCounted IsLiteral lits
IsLine (Combine multiples) = IsCounted IsMultiple multiples
IsLine (Bits line chosen polynomial bits) = IsNarrow line × (AreVariables chosen × (IsCounted IsTerm polynomial × IsCounted IsNarrow bits))
IsLine (Chain line variable steps) = IsNarrow line × (IsNarrow variable × IsNarrow steps)
IsLine (Step quotient remainder) = IsCounted IsWide quotient × IsCounted IsWide remainder
IsLine (Split line variable zeros) = IsNarrow line × (IsNarrow variable × IsCounted IsWide zeros)
IsLine (Values variable trees) = IsNarrow variable × IsNarrow trees
IsLine Close = Unit {0}

-- a node and its value
abbrev pub IsValue : ℕ × ℕ → Type 0
IsValue v = IsNarrow v.0 × IsWide v.1

abbrev pub IsCause : Cause → Type 0
IsCause Degree = Unit {0}
IsCause Terms = Unit {0}
IsCause (Steps trials reductions assignments chains) = IsWide trials × (IsWide reductions × (IsWide assignments × IsWide chains))
IsCause Memory = Unit {0}
