use Rattle.std.proofs.Common.{◌≤◌, ◌++◌, [], ◌∷◌, All, sym, ◌∙◌, subst, arith}
use Rattle.std.proofs.lemmas.List.Elements.{All-from_recursion}
use Rattle.ffc_ring.specs.Monomial.{Monomial, degree}
use Rattle.ffc_macaulay.specs.Matrix.{AreUnknowns, IsUsable}
use Rattle.ffc_bounds.specs.Monomials.{monomials}
use Rattle.ffc_macaulay.proofs.CountLemmas.{few_generators, low_monomials}
use Rattle.ffc_macaulay.proofs.ListLemmas.{all_usable, few_unknowns}
use Rattle.ffc_macaulay.proofs.matrix.matrix_of.Goals as goal

pub unknowns-requires : goal.unknowns-requires
unknowns-requires g c =
    let d = c.args.degree in
    let xs = c.args.variables.now in
    subst (All (λ (m : Monomial). degree m ≤ d)) (sym (c.as_slice.ensures.value ∙ c.in_ok-listed.ensures)) (All-from_recursion (λ m. degree m ≤ d) (monomials d xs) (low_monomials d xs))

pub multiples-requires-clause-few : goal.multiples-requires-clause-few
multiples-requires-clause-few g c =
    let few = few_generators c.args.degree c.args.variables.now c.args.degrees.now in
    omega (arith, few, c.requires.rows)

pub rows-requires-clause-few : goal.rows-requires-clause-few
rows-requires-clause-few g c =
    let d = c.args.degree in
    let xs = c.args.variables.now in
    let keys = c.in_ok-unknowns.unknowns.keys in
    let are : AreUnknowns 0 (monomials d xs) keys = subst (λ ms. AreUnknowns 0 ms keys) (c.as_slice.ensures.value ∙ c.in_ok-listed.ensures) c.in_ok-unknowns.ensures in
    let few = few_unknowns d xs keys are in
    omega (arith, few, c.requires.columns)

pub rows-requires-clause-fits : goal.rows-requires-clause-fits
rows-requires-clause-fits g c =
    let d = c.args.degree in
    let xs = c.args.variables.now in
    let keys = c.in_ok-unknowns.unknowns.keys in
    let are : AreUnknowns 0 (monomials d xs) keys = subst (λ ms. AreUnknowns 0 ms keys) (c.as_slice.ensures.value ∙ c.in_ok-listed.ensures) c.in_ok-unknowns.ensures in
    subst (All (IsUsable (keys ++ [] ∷ []) c.args.generators.now)) (sym (c.as_slice-2.ensures.value ∙ c.in_ok-multiples.ensures))
    (all_usable d xs c.args.degrees.now c.args.generators.now c.requires.generators keys c.requires.limit are.above)
