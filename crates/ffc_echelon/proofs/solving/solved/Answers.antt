use Rattle.std.proofs.Common.{◌+◌, List, All, sym, subst}
use Rattle.std.proofs.lemmas.Result.{IfOk-weaker}
use Rattle.ffc_echelon.specs.Vectors.{Coordinates, AreCoordinates, IsBelow}
use Rattle.ffc_echelon.specs.Forms.{IsFormOf}
use Rattle.ffc_echelon.specs.Outcomes.{IsOutcome}
use Rattle.ffc_echelon.specs.Solving.{IsSolvedBy}
use Rattle.ffc_echelon.proofs.SolvingLemmas.{solved_of}
use Rattle.ffc_echelon.proofs.solving.solved.Goals as goal

pub returns-in-Contradiction-clause-found : goal.returns-in-Contradiction-clause-found
returns-in-Contradiction-clause-found g c =
    subst (IsOutcome g.F.Field.ORDER g.F.Field.value c.args.unknowns c.args.equal.now) c.in-Contradiction.is c.in_ok-coefficients.ensures.found

pub placed-requires-clause-unequal : goal.placed-requires-clause-unequal
placed-requires-clause-unequal g c =
    let of : IsFormOf g.F.Field.ORDER c.args.unknowns c.args.equal.now c.in-Form.form = subst (IsOutcome g.F.Field.ORDER g.F.Field.value c.args.unknowns c.args.equal.now) c.in-Form.is c.in_ok-coefficients.ensures.found in
    subst (λ m. All (IsBelow (m + 1)) c.args.unequal.now) (sym of.unknowns) c.requires.unequal

pub returns-in-Form-clause-found : goal.returns-in-Form-clause-found
returns-in-Form-clause-found g c =
    let p = g.F.Field.ORDER in
    let value = g.F.Field.value in
    let n = c.args.unknowns in
    let equal = c.args.equal.now in
    let unequal = c.args.unequal.now in
    let form = c.in-Form.form in
    let of : IsFormOf p n equal form = subst (IsOutcome p value n equal) c.in-Form.is c.in_ok-coefficients.ensures.found in
    IfOk-weaker c.placed.result
    (λ s. (inputs : List Coordinates) → IsFormOf p form.unknowns inputs form → All (AreCoordinates p) inputs → All (IsBelow (form.unknowns + 1)) inputs → IsSolvedBy p value form.unknowns inputs unequal s)
    (IsSolvedBy p value n equal unequal)
    (λ s h. solved_of p n value form equal unequal s of c.requires.equal_valid c.requires.equal h) c.placed.ensures.found
