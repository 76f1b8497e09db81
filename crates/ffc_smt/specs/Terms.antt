-- Terms and commands, with their names resolved: SMT-LIB 2.6, sections 3.6 and 3.9, and the theory of finite fields of cvc5.
--
-- A declared constant is its number, counted over the script. A use of a defined name has the term of the
-- name, whose own names were resolved where it was defined. So no recursion on a term follows a name.
use Rattle.std.specs.Prelude.{ℕ, ◌+◌, max, Bool, List, Option}
use Rattle.ffc_term.specs.declared.node.Sort.{Sort}
use Rattle.ffc_smt.specs.Trees.{Tree}

abbrev pub Name : Type 0
Name = List ℕ

-- the functions of the two theories
pub data Operator : Type 0 where
  Not And Or Xor Implies Equal Distinct Ite Add Mul Neg Bitsum : Operator

mutual
  pub data Term : Type 0 where
    -- `true`, `false`
    Truth : Bool → Term
    -- `(as ffN S)` and `#fNmP`: whether N is negative, its size, and the order
    Number : Bool → ℕ → ℕ → Term
    -- a declared constant: its number and sort
    Constant : ℕ → Sort → Term
    -- a `let` variable or a parameter
    Variable : Name → Term
    -- a name that was defined without parameters: its term
    Defined : Term → Term
    -- a function of the theories and its arguments
    Applied : Operator → Terms → Term
    -- the variables, their terms, and the body
    Let : List Name → Terms → Term → Term
    -- a call of a macro: its parameters, its body, and the arguments
    Called : List Name → Term → Terms → Term

  pub data Terms : Type 0 where
    NoTerm : Terms
    AndTerm : Term → Terms → Terms

unfoldable mutual
  -- how high a term is
  pub height : Term → ℕ
  height (Truth b) = 0
  height (Number negative size p) = 0
  height (Constant k s) = 0
  height (Variable name) = 0
  height (Defined t) = 0
  height (Applied op ts) = 1 + highest ts
  height (Let names ts t) = 1 + max (highest ts) (height t)
  height (Called names t ts) = 1 + max (highest ts) (height t)

  pub highest : Terms → ℕ
  highest NoTerm = 0
  highest (AndTerm t ts) = max (height t) (highest ts)

unfoldable mutual
  -- how much a term weighs: one for each of its parts, counted wherever it is
  pub weight : Term → ℕ
  weight (Truth b) = 1
  weight (Number negative size p) = 1
  weight (Constant k s) = 1
  weight (Variable name) = 1
  weight (Defined t) = 1
  weight (Applied op ts) = 1 + weights ts
  weight (Let names ts t) = 1 + weights ts + weight t
  weight (Called names t ts) = 1 + weights ts + weight t

  pub weights : Terms → ℕ
  weights NoTerm = 0
  weights (AndTerm t ts) = weight t + weights ts

-- a term as it is written, and what it is
pub record Asked : Type 0 where
  pub tree : Tree
  pub term : Term

pub record Parameter : Type 0 where
  pub name : Name
  pub sort : Sort

-- the options that are known
pub data Setting : Type 0 where
  PrintSuccess ProduceModels GlobalDeclarations ProduceUnsatCores ProduceUnsatAssumptions : Setting

-- what `get-info` answers
pub data Info : Type 0 where
  SolverName Version AssertionStackLevels ReasonUnknown : Info

pub data Command : Type 0 where
  SetLogic : Command
  SetOption : Setting → Bool → Command
  GetOption : Setting → Command
  SetInfo : Command
  GetInfo : Info → Command
  -- an option or an information that is not known
  Unsupported : Command
  -- the literal as written
  Echo : List ℕ → Command
  -- `declare-const`, `declare-fun`
  Declare : Name → Sort → Command
  DefineSort : Name → Sort → Command
  -- `define-fun`
  Define : Name → List Parameter → Sort → Term → Command
  -- an assertion, and its name where it has one
  Assert : Option Name → Term → Command
  CheckSat : Command
  CheckSatAssuming : List Asked → Command
  GetModel : Command
  GetValue : List Asked → Command
  GetUnsatCore : Command
  GetUnsatAssumptions : Command
  Push : ℕ → Command
  Pop : ℕ → Command
  ResetAssertions : Command
  Reset : Command
  Exit : Command
