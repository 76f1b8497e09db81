-- The functions of the theories and what sorts they take, as the elaborator has them.
use Rattle.ffc_parts.specs.declared.operators.Operator.{Operator}
use Rattle.ffc_parts.specs.declared.operators.Operator.TheVariants as code
use Rattle.ffc_parts.specs.declared.operators.Wanted.{Wanted}
use Rattle.ffc_parts.specs.declared.operators.Wanted.TheVariants as wants
use Rattle.ffc_smt.specs.Terms as term
use Rattle.ffc_smt.specs.TermReading as reading

-- the function that is meant
abbrev pub operator_of : Operator → term.Operator
operator_of code.Not = term.Not
operator_of code.And = term.And
operator_of code.Or = term.Or
operator_of code.Xor = term.Xor
operator_of code.Implies = term.Implies
operator_of code.Equal = term.Equal
operator_of code.Distinct = term.Distinct
operator_of code.Ite = term.Ite
operator_of code.Add = term.Add
operator_of code.Mul = term.Mul
operator_of code.Neg = term.Neg
operator_of code.Bitsum = term.Bitsum

abbrev pub wanted_of : Wanted → reading.Wanted
wanted_of wants.AnySort = reading.AnySort
wanted_of wants.AnyField = reading.AnyField
wanted_of (wants.Only s) = reading.Only s
