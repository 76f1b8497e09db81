-- Functions as they are kept.
use Rattle.std.proofs.Common.{◌≡◌, refl}
use Rattle.ffc_parts.specs.declared.operators.Operator.{Operator}
use Rattle.ffc_parts.specs.declared.operators.Operator.TheVariants as function
use Rattle.ffc_parts.specs.Operators.{operator_of}
use Rattle.ffc_smt.specs.Terms as term
use Rattle.ffc_terms.specs.Leaves.{kept_function}

pub function_back : (f : Operator) → kept_function (operator_of f) ≡ f
function_back function.Not = refl
function_back function.And = refl
function_back function.Or = refl
function_back function.Xor = refl
function_back function.Implies = refl
function_back function.Equal = refl
function_back function.Distinct = refl
function_back function.Ite = refl
function_back function.Add = refl
function_back function.Mul = refl
function_back function.Neg = refl
function_back function.Bitsum = refl

pub operator_back : (f : term.Operator) → operator_of (kept_function f) ≡ f
operator_back term.Not = refl
operator_back term.And = refl
operator_back term.Or = refl
operator_back term.Xor = refl
operator_back term.Implies = refl
operator_back term.Equal = refl
operator_back term.Distinct = refl
operator_back term.Ite = refl
operator_back term.Add = refl
operator_back term.Mul = refl
operator_back term.Neg = refl
operator_back term.Bitsum = refl
