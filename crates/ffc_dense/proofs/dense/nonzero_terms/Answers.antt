use Rattle.std.proofs.Common.{◌≡◌, ◌<◌, ◌++◌, [], length, drop, get_or, sym, ap, ◌∙◌, arith}
use Rattle.std.proofs.lemmas.List.{get_or-map}
use Rattle.ffc_ring.specs.Polynomial.{Terms, coefficient}
use Rattle.ffc_poly.specs.Ordered.{values_of, residues}
use Rattle.ffc_dense.specs.Columns.{listed}
use Rattle.ffc_dense.proofs.DenseLemmas.{one_taken, all_taken}
use Rattle.ffc_dense.proofs.dense.nonzero_terms.Goals as goal

pub loop-place-init : goal.loop-place-init
loop-place-init g c =
    let value = g.F.Field.value in
    let whole : Terms = listed (values_of value c.args.coefficients.now) c.args.columns.now.0 (drop c.args.from c.args.columns.now.1) in
    record {
      same = λ m. ap (λ xs. coefficient g.F.Field.ORDER (residues value xs ++ whole) m) c.new-terms.ensures.items;
      long = omega (arith, c.new-terms.ensures.len);
    }

pub loop-place-preserved : goal.loop-place-preserved
loop-place-preserved g c =
    let value = g.F.Field.value in
    let p = g.F.Field.ORDER in
    let ms = c.args.columns.now.0 in
    let ns = c.args.columns.now.1 in
    let cs = c.args.coefficients.now in
    let i = c.loop-place.place in
    let number = c.at-number.result in
    let x = c.index-coefficients-number.result in
    let within : number < length cs = omega (arith, c.requires.long, c.at-number.ensures.within) in
    let coefficient_is : value x ≡ get_or (values_of value cs) (get_or ns i 0) 0 =
    ap value c.index-coefficients-number.is ∙ sym (get_or-map value cs number x 0 within) ∙ ap (λ k. get_or (values_of value cs) k 0) c.at-number.ensures.value in
    record {
      same = one_taken p (values_of value cs) ms ns i (value x) c.monomial.result.now (residues value c.loop-place.terms.items) (residues value c.push_nonzero.new.terms.items)
          (listed (values_of value cs) ms (drop c.args.from ns)) (omega (arith, c.loop-place-test.true, c.places-place-end.ensures)) coefficient_is
          (c.monomial.ensures ∙ ap (λ k. get_or ms k []) c.at-number.ensures.value) c.in_ok-push_nonzero.ensures.sum c.loop-place.invariant.same;
      long = omega (arith, c.in_ok-push_nonzero.ensures.long, c.loop-place.invariant.long);
    }

pub returns-clause-same : goal.returns-clause-same
returns-clause-same g c =
    let value = g.F.Field.value in
    let ks = values_of value c.args.coefficients.now in
    let ns = c.args.columns.now.1 in
    all_taken g.F.Field.ORDER ks c.args.columns.now.0 ns c.loop-place.place (residues value c.loop-place.terms.items) (listed ks c.args.columns.now.0 (drop c.args.from ns))
    (omega (arith, c.loop-place-test.false, c.places-place-end.ensures)) c.loop-place.invariant.same
