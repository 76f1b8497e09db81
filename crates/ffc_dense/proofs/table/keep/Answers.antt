use Rattle.std.proofs.Common.{◌≡◌, Some, IfSome, ◌∙◌, subst}
use Rattle.ffc_ring.specs.Polynomial.{SamePolynomial, term_product}
use Rattle.ffc_dense.specs.Columns.{terms_of}
use Rattle.ffc_dense.specs.Tables.{IsKept}
use Rattle.ffc_dense.proofs.TableLemmas.{kept_grown, kept_put, multiples_put, still_multiples, multiple_is}
use Rattle.ffc_dense.proofs.table.keep.Goals as goal

pub returns-in_err-multiple-clause-kept : goal.returns-in_err-multiple-clause-kept
returns-in_err-multiple-clause-kept g c = kept_grown g.F.Field.value g.F.Field.ORDER g.O.MonoOrder.cmp c.args.dense.now c.product.new.dense c.args.kept.now.items c.product.ensures.grows c.requires

pub returns-in_err-multiple-clause-multiples : goal.returns-in_err-multiple-clause-multiples
returns-in_err-multiple-clause-multiples g c gs all there =
    still_multiples g.F.Field.value g.F.Field.ORDER g.O.MonoOrder.cmp gs c.args.dense.now c.product.new.dense c.args.kept.now.items c.product.ensures.grows c.requires all

pub returns-in_default-clause-kept : goal.returns-in_default-clause-kept
returns-in_default-clause-kept g c = kept_grown g.F.Field.value g.F.Field.ORDER g.O.MonoOrder.cmp c.args.dense.now c.product.new.dense c.args.kept.now.items c.product.ensures.grows c.requires

pub returns-in_default-clause-multiples : goal.returns-in_default-clause-multiples
returns-in_default-clause-multiples g c gs all there =
    still_multiples g.F.Field.value g.F.Field.ORDER g.O.MonoOrder.cmp gs c.args.dense.now c.product.new.dense c.args.kept.now.items c.product.ensures.grows c.requires all

pub returns-in_err-put-clause-kept : goal.returns-in_err-put-clause-kept
returns-in_err-put-clause-kept g c =
    let value = g.F.Field.value in
    let p = g.F.Field.ORDER in
    let cmp = g.O.MonoOrder.cmp in
    let new = c.product.new.dense in
    kept_put value p cmp new.0 c.in-Some.multiple c.args.kept.now.items c.put.new.kept.items c.put.ensures.others
    (subst (λ o. IfSome o (λ k. IsKept p value cmp new.0 (Some k))) c.in-Some.is c.in_ok-multiple.ensures.kept)
    (kept_grown value p cmp c.args.dense.now new c.args.kept.now.items c.product.ensures.grows c.requires)

pub returns-in_err-put-clause-multiples : goal.returns-in_err-put-clause-multiples
returns-in_err-put-clause-multiples g c gs all there =
    let value = g.F.Field.value in
    let p = g.F.Field.ORDER in
    let cmp = g.O.MonoOrder.cmp in
    let new = c.product.new.dense in
    multiples_put value p new.0 gs c.in-Some.multiple c.args.kept.now.items c.put.new.kept.items c.put.ensures.others
    (multiple_is value p cmp gs c.args.line c.args.m.now c.args.q.now new.0 c.in-Some.multiple
    (subst (λ o. IfSome o (λ k. k.line ≡ c.args.line)) c.in-Some.is c.in_ok-multiple.ensures.line)
    (subst (λ o. IfSome o (λ k. k.monomial ≡ c.args.m.now)) c.in-Some.is c.in_ok-multiple.ensures.monomial)
    (subst (λ o. IfSome o (λ k. SamePolynomial p (terms_of value new.0 k.terms.items) (term_product 1 c.args.m.now c.args.q.now))) c.in-Some.is c.in_ok-multiple.ensures.product)
    there)
    (still_multiples value p cmp gs c.args.dense.now new c.args.kept.now.items c.product.ensures.grows c.requires all)

pub returns-clause-at : goal.returns-clause-at
returns-clause-at g c done =
    let (k, at, line, monomial) = c.in_ok-put.ensures.at in (
      k,
      at,
      line ∙ subst (λ o. IfSome o (λ k. k.line ≡ c.args.line)) c.in-Some.is c.in_ok-multiple.ensures.line,
      monomial ∙ subst (λ o. IfSome o (λ k. k.monomial ≡ c.args.m.now)) c.in-Some.is c.in_ok-multiple.ensures.monomial,
    )

pub returns-clause-kept : goal.returns-clause-kept
returns-clause-kept g c =
    let value = g.F.Field.value in
    let p = g.F.Field.ORDER in
    let cmp = g.O.MonoOrder.cmp in
    let new = c.product.new.dense in
    kept_put value p cmp new.0 c.in-Some.multiple c.args.kept.now.items c.put.new.kept.items c.put.ensures.others
    (subst (λ o. IfSome o (λ k. IsKept p value cmp new.0 (Some k))) c.in-Some.is c.in_ok-multiple.ensures.kept)
    (kept_grown value p cmp c.args.dense.now new c.args.kept.now.items c.product.ensures.grows c.requires)

pub returns-clause-multiples : goal.returns-clause-multiples
returns-clause-multiples g c gs all there =
    let value = g.F.Field.value in
    let p = g.F.Field.ORDER in
    let cmp = g.O.MonoOrder.cmp in
    let new = c.product.new.dense in
    multiples_put value p new.0 gs c.in-Some.multiple c.args.kept.now.items c.put.new.kept.items c.put.ensures.others
    (multiple_is value p cmp gs c.args.line c.args.m.now c.args.q.now new.0 c.in-Some.multiple
    (subst (λ o. IfSome o (λ k. k.line ≡ c.args.line)) c.in-Some.is c.in_ok-multiple.ensures.line)
    (subst (λ o. IfSome o (λ k. k.monomial ≡ c.args.m.now)) c.in-Some.is c.in_ok-multiple.ensures.monomial)
    (subst (λ o. IfSome o (λ k. SamePolynomial p (terms_of value new.0 k.terms.items) (term_product 1 c.args.m.now c.args.q.now))) c.in-Some.is c.in_ok-multiple.ensures.product)
    there)
    (still_multiples value p cmp gs c.args.dense.now new c.args.kept.now.items c.product.ensures.grows c.requires all)
