-- The constants that a term speaks of.
use Rattle.std.proofs.Common.{ℕ}
use Rattle.ffc_term.specs.declared.node.Sort.{Sort}
use Rattle.ffc_smt.specs.Terms.{Term, Truth, Number, Constant, Variable, Defined, Applied, Let, Called, Terms, NoTerm, AndTerm}
use Rattle.ffc_smt.specs.Scopes.{Meant, AsConstant, AsTerm, AsMacro}
use Rattle.ffc_smt.specs.Constants.{ConstantsAre, AllConstantsAre, MeantConstantsAre}

module _ (P : ℕ → Sort → Type 0) (all : (k : ℕ) (s : Sort) → P k s) where
  mutual
    pub constants_any : (t : Term) → ConstantsAre P t
    constants_any (Truth b) = tt
    constants_any (Number negative size p) = tt
    constants_any (Constant k s) = all k s
    constants_any (Variable name) = tt
    constants_any (Defined t) = constants_any t
    constants_any (Applied op ts) = all_constants_any ts
    constants_any (Let names ts t) = (all_constants_any ts, constants_any t)
    constants_any (Called names t ts) = (all_constants_any ts, constants_any t)

    all_constants_any : (ts : Terms) → AllConstantsAre P ts
    all_constants_any NoTerm = tt
    all_constants_any (AndTerm t ts) = (constants_any t, all_constants_any ts)

  pub meant_constants_any : (m : Meant) → MeantConstantsAre P m
  meant_constants_any (AsConstant k s) = all k s
  meant_constants_any (AsTerm s t) = constants_any t
  meant_constants_any (AsMacro ps s t) = constants_any t

module _ (P Q : ℕ → Sort → Type 0) (more : (k : ℕ) (s : Sort) → P k s → Q k s) where
  mutual
    pub constants_weaker : (t : Term) → ConstantsAre P t → ConstantsAre Q t
    constants_weaker (Truth b) h = tt
    constants_weaker (Number negative size p) h = tt
    constants_weaker (Constant k s) h = more k s h
    constants_weaker (Variable name) h = tt
    constants_weaker (Defined t) h = constants_weaker t h
    constants_weaker (Applied op ts) h = all_constants_weaker ts h
    constants_weaker (Let names ts t) h = (all_constants_weaker ts h.0, constants_weaker t h.1)
    constants_weaker (Called names t ts) h = (all_constants_weaker ts h.0, constants_weaker t h.1)

    pub all_constants_weaker : (ts : Terms) → AllConstantsAre P ts → AllConstantsAre Q ts
    all_constants_weaker NoTerm h = tt
    all_constants_weaker (AndTerm t ts) h = (constants_weaker t h.0, all_constants_weaker ts h.1)

  pub meant_weaker : (m : Meant) → MeantConstantsAre P m → MeantConstantsAre Q m
  meant_weaker (AsConstant k s) h = more k s h
  meant_weaker (AsTerm s t) h = constants_weaker t h
  meant_weaker (AsMacro ps s t) h = constants_weaker t h
