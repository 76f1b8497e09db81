use Rattle.std.proofs.Common.{◌≤◌, All, drop, sym, ◌∙◌, subst}
use Rattle.std.proofs.lemmas.List.Elements.{All-from_recursion}
use Rattle.ffc_ring.specs.Monomial.{Monomial, degree}
use Rattle.ffc_bounds.specs.Monomials.{monomials}
use Rattle.ffc_macaulay.proofs.CountLemmas.{low_monomials}
use Rattle.ffc_macaulay.proofs.monomials.monomials.Goals as goal

pub with_variable-requires-clause-low : goal.with_variable-requires-clause-low
with_variable-requires-clause-low c =
    let d = c.args.degree in
    let xs = drop c.loop-place.place c.args.variables.now in
    subst (All (λ (m : Monomial). degree m ≤ d)) (sym (c.as_slice.ensures.value ∙ c.loop-place.invariant)) (All-from_recursion (λ m. degree m ≤ d) (monomials d xs) (low_monomials d xs))
