use Rattle.std.proofs.lemmas.List.Elements.{All-from_recursion}
use Rattle.ffc_bounds.specs.Monomials.{monomials}
use Rattle.ffc_macaulay.specs.MonomialLaws.{IsUpTo}
use Rattle.ffc_macaulay.proofs.CountLemmas.{length-monomials}
use Rattle.ffc_macaulay.proofs.MemberLemmas.{are_up_to, are_all, product_listed}
use Rattle.ffc_macaulay.proofs.laws.monomials.Goals as goal

pub returns-clause-up_to : goal.returns-clause-up_to
returns-clause-up_to c d xs = All-from_recursion (IsUpTo d xs) (monomials d xs) (are_up_to d xs)

pub returns-clause-all : goal.returns-clause-all
returns-clause-all c = are_all

pub returns-clause-counted : goal.returns-clause-counted
returns-clause-counted c = length-monomials

pub returns-clause-products : goal.returns-clause-products
returns-clause-products c d a b xs low m n left right = product_listed d a b xs m n low left right
