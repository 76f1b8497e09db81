use Rattle.std.proofs.Common.{◌≡◌, ◌<◌, ◌++◌, All, Contains, length, sym, ap, ◌∙◌, subst, arith}
use Rattle.std.proofs.lemmas.List.Elements.{All-weaker}
use Rattle.ffc_ring.specs.Polynomial.{coefficient}
use Rattle.ffc_poly.specs.Ordered.{values_of}
use Rattle.ffc_dense.specs.Columns.{AreNumbers, terms_of}
use Rattle.ffc_dense.proofs.ColumnLemmas.{apart}
use Rattle.ffc_dense.proofs.DenseLemmas.{loaded}
use Rattle.ffc_dense.proofs.dense.Dense.load.Goals as goal

pub returns-clause-terms : goal.returns-clause-terms
returns-clause-terms g c m =
    let value = g.F.Field.value in
    let p = g.F.Field.ORDER in
    let i = c.self.inside in
    let ms = i.columns.0 in
    let ns = i.columns.1 in
    let terms = c.args.terms.now in
    let known : AreNumbers (length ms) terms = subst (λ xs. AreNumbers (length xs) terms) (ap (λ v. v.0) (sym c.self.view_is)) c.requires in
    let has = All-weaker (λ t. t.0 < length ms) (λ t. Contains ns t.0) (λ t h. c.len-count.ensures.columns.all t.0 h) terms known in
    c.add_multiple.ensures.sum ms ns (apart g.O.MonoOrder.cmp g.met.O.MonoOrder.laws ms ns c.len-count.ensures.columns.descending) has m
    ∙ loaded p (value c.of.result) (values_of value c.clear.new.coefficients.items) ms ns (terms_of value ms terms) (omega (arith, g.met.F.Field.prime.least)) c.of.ensures c.clear.ensures.zero m
    ∙ ap (λ v. coefficient p (terms_of value v.0 terms) m) c.self.view_is
