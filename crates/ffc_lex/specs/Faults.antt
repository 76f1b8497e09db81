-- The faults of scripts, as clauses see them: where one is, and the number of its code. SMT-LIB 2.6 leaves the text of an
-- error to the solver (section 3.9.1); these numbers are those that both programs of this project answer.
use Rattle.std.specs.Prelude.{ℕ}
use Rattle.ffc_lex.specs.declared.faults.FaultCode.{FaultCode}
use Rattle.ffc_lex.specs.declared.faults.FaultCode.TheVariants.{Byte, Unended, Close, Command, Shape, Logic, Order, Name, Twice, Sort, Modulus, Number, Depth, Nodes, Levels, Length}

pub record Fault : Type 0 where
  pub line : ℕ
  pub column : ℕ
  pub code : ℕ

-- No code has the number 12.
abbrev pub code_number : FaultCode → ℕ
code_number Byte = 1
code_number Unended = 2
code_number Close = 3
code_number Command = 4
code_number Shape = 5
code_number Logic = 6
code_number Order = 7
code_number Name = 8
code_number Twice = 9
code_number Sort = 10
code_number Modulus = 11
code_number Number = 13
code_number Depth = 14
code_number Nodes = 15
code_number Levels = 16
code_number Length = 17
