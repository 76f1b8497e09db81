use Rattle.std.proofs.Common.{◌≡◌, ◌-◌, ◌++◌, List, ℕ, map, get_or, sym, ap₂, ◌∙◌}
use Rattle.ffc_ring.specs.Monomial.{Monomial}
use Rattle.ffc_bounds.specs.Monomials.{monomials}
use Rattle.ffc_macaulay.proofs.ListLemmas.{multiples_more}
use Rattle.ffc_macaulay.proofs.multiples.multiples.Goals as goal

pub loop-generator-preserved : goal.loop-generator-preserved
loop-generator-preserved c =
    let d = c.args.degree in
    let xs = c.args.variables.now in
    let es = c.args.degrees.now in
    let i = c.loop-generator.generator in
    let listed : c.as_slice.result.now ≡ monomials (d - get_or es i 0) xs = c.as_slice.ensures.value ∙ c.in_ok-multipliers.ensures in
    c.in_ok-append.ensures
    ∙ ap₂ (λ (a : List (ℕ × Monomial)) (b : List Monomial). a ++ map (λ u. (i, u)) b) c.loop-generator.invariant listed
    ∙ sym (multiples_more d xs es i c.loop-generator-test.true)
