-- The constants that a term speaks of, also within the definitions and macros that it uses.
use Rattle.std.specs.Prelude.{ℕ}
use Rattle.ffc_term.specs.declared.node.Sort.{Sort}
use Rattle.ffc_smt.specs.Terms.{Term, Truth, Number, Constant, Variable, Defined, Applied, Let, Called, Terms, NoTerm, AndTerm}
use Rattle.ffc_smt.specs.Scopes.{Meant, AsConstant, AsTerm, AsMacro}

abbrev mutual
  -- the number and the sort of each constant in the term have the property
  pub ConstantsAre : (ℕ → Sort → Type 0) → Term → Type 0
  ConstantsAre P (Truth b) = Unit {0}
  ConstantsAre P (Number negative size p) = Unit {0}
  ConstantsAre P (Constant k s) = P k s
  ConstantsAre P (Variable name) = Unit {0}
  ConstantsAre P (Defined t) = ConstantsAre P t
  ConstantsAre P (Applied op ts) = AllConstantsAre P ts
  ConstantsAre P (Let names ts t) = AllConstantsAre P ts × ConstantsAre P t
  ConstantsAre P (Called names t ts) = AllConstantsAre P ts × ConstantsAre P t

  pub AllConstantsAre : (ℕ → Sort → Type 0) → Terms → Type 0
  AllConstantsAre P NoTerm = Unit {0}
  AllConstantsAre P (AndTerm t ts) = ConstantsAre P t × AllConstantsAre P ts

-- the same of what a name means
abbrev pub MeantConstantsAre : (ℕ → Sort → Type 0) → Meant → Type 0
MeantConstantsAre P (AsConstant k s) = P k s
MeantConstantsAre P (AsTerm s t) = ConstantsAre P t
MeantConstantsAre P (AsMacro parameters s t) = ConstantsAre P t
