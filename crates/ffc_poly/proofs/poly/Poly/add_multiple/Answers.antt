use Rattle.std.proofs.Common.{[], ◌%◌, ◌++◌, refl, sym, ap, ap₂, ◌∙◌}
use Rattle.std.proofs.lemmas.Result.{on_ok_weaker}
use Rattle.ffc_ring.specs.Polynomial.{SamePolynomial, term_product, written}
use Rattle.ffc_poly.specs.declared.poly.TheConstants.{TERM_LIMIT}
use Rattle.ffc_poly.proofs.Clauses.{nothing_times, sum_with_nothing, sum_is_short}
use Rattle.ffc_poly.proofs.Coefficients.{PassesTerms-same, PassesTerms-length}
use Rattle.ffc_poly.proofs.poly.Poly.add_multiple.Goals as goal

pub returns-then-residue-eq0-clause-sum : goal.returns-then-residue-eq0-clause-sum
returns-then-residue-eq0-clause-sum g c =
    let p = g.F.Field.ORDER in
    let k = g.F.Field.value c.args.c in
    let m = c.args.m.powers.now in
    let products = term_product k m c.args.other.now in
    let none : SamePolynomial p [] products = nothing_times p k m c.args.other.now (sym c.residue.ensures.value ∙ c.if-residue-eq0.true) in
    λ n. ap (λ ts. written ts n % p) c.in_ok-clone.ensures.cases ∙ sum_with_nothing p c.args.self.now products none n

pub returns-then-residue-eq0-clause-fits : goal.returns-then-residue-eq0-clause-fits
returns-then-residue-eq0-clause-fits g c =
    let p = g.F.Field.ORDER in
    let k = g.F.Field.value c.args.c in
    let m = c.args.m.powers.now in
    let now = c.args.self.now in
    let products = term_product k m c.args.other.now in
    let none : SamePolynomial p [] products = nothing_times p k m c.args.other.now (sym c.residue.ensures.value ∙ c.if-residue-eq0.true) in
    λ passes. PassesTerms-length p TERM_LIMIT now c.listed-own.ensures.fits (PassesTerms-same p TERM_LIMIT (now ++ products) now (λ n. sym (sum_with_nothing p now products none n)) passes)

pub returns-clause-fits : goal.returns-clause-fits
returns-clause-fits g c =
    let p = g.F.Field.ORDER in
    let k = g.F.Field.value c.args.c in
    let m = c.args.m.powers.now in
    let all = c.args.self.now ++ term_product k m c.args.other.now in
    let same : SamePolynomial p c.in_ok-merged_multiple.field-0 all =
    λ n. c.in_ok-merged_multiple.ensures.same n ∙ ap₂ (λ x y. written (x ++ term_product k m y) n % p) c.listed-own.ensures.value c.listed-more.ensures.value in
    on_ok_weaker c.within.result (λ h. h all same) c.within.ensures.fits

pub returns-clause-short : goal.returns-clause-short
returns-clause-short g c =
    let p = g.F.Field.ORDER in
    let k = g.F.Field.value c.args.c in
    let m = c.args.m.powers.now in
    let all = c.args.self.now ++ term_product k m c.args.other.now in
    let same : SamePolynomial p c.in_ok-merged_multiple.field-0 all =
    λ n. c.in_ok-merged_multiple.ensures.same n ∙ ap₂ (λ x y. written (x ++ term_product k m y) n % p) c.listed-own.ensures.value c.listed-more.ensures.value in
    λ few refused. sum_is_short p TERM_LIMIT k m c.args.self.now c.args.other.now all few (λ _. refl) (c.within.ensures.over refused all same)
