use Rattle.std.proofs.Common.{◌≡◌, ℕ, ◌++◌, List, All, Contains, take}
use Rattle.ffc_ring.specs.Monomial.{Monomial}
use Rattle.ffc_ring.specs.Polynomial.{SamePolynomial, scaled}
use Rattle.ffc_poly.specs.Ordered.{values_of}
use Rattle.ffc_dense.specs.Columns.{AreApart, listed, terms_of}
use Rattle.ffc_dense.proofs.dense.add_multiple.Given as goal

abbrev pub invariant-loop-term : goal.invariant-loop-term
invariant-loop-term g l =
    let value = g.F.Field.value in
    (l.coefficients.len ≡ l.initial.coefficients.len)
    × ((ms : List Monomial) (ns : List ℕ) → AreApart ns → All (λ t. Contains ns t.0) l.terms
    → SamePolynomial g.F.Field.ORDER (listed (values_of value l.coefficients.items) ms ns)
    (listed (values_of value l.initial.coefficients.items) ms ns ++ scaled (value l.c) (terms_of value ms (take l.term-index l.terms))))
