use Rattle.std.proofs.Common.{◌≢◌, ◌∙◌, sym, arith}
use Rattle.ffc_ckpoly.proofs.RunLemmas.{last_sorted, before_next}
use Rattle.ffc_ckpoly.proofs.merge.goes_first.Goals as goal

pub returns-then-place-terms : goal.returns-then-place-terms
returns-then-place-terms g c good monomials rest =
    let value = g.F.Field.value in
    let p = g.F.Field.ORDER in
    let t = c.index-terms-place.result in
    let nonzero : value t.0 ≢ 0 = λ e. c.if-residue-eq0.false (c.residue.ensures.value ∙ e) in
    last_sorted value p c.args.terms.now c.args.place t c.requires c.index-terms-place.is (g.met.F.Field.below t.0) nonzero monomials rest (omega arith)

pub returns-in-Greater : goal.returns-in-Greater
returns-in-Greater g c good monomials rest =
    let value = g.F.Field.value in
    let p = g.F.Field.ORDER in
    let t = c.index-terms-place.result in
    let u = c.index-terms-place-2.result in
    let nonzero : value t.0 ≢ 0 = λ e. c.if-residue-eq0.false (c.residue.ensures.value ∙ e) in
    before_next value p c.args.terms.now c.args.place t c.requires c.index-terms-place.is (g.met.F.Field.below t.0) nonzero monomials rest u (omega arith) c.index-terms-place-2.is (sym c.in-Greater.ensures)
