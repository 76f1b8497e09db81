use Rattle.std.proofs.Common.{ℕ, take, sym, ap, ◌∙◌, subst, add-one, arith}
use Rattle.ffc_ring.specs.Polynomial.{Terms}
use Rattle.ffc_line.specs.Lines.{Parts, IsLineOfNone}
use Rattle.ffc_basis.proofs.PartLemmas.{no_line_next, no_line_all}
use Rattle.ffc_basis.proofs.record.place_of.Goals as goal

pub loop-place-preserved : goal.loop-place-preserved
loop-place-preserved g c =
    let ts : Parts = c.args.multiples.now in
    subst (λ n. IsLineOfNone c.args.line (take n ts)) (sym (add-one c.loop-place.place))
    (no_line_next c.args.line ts c.loop-place.place c.index-multiples-place.result c.loop-place-test.true c.loop-place.invariant
    (λ same. c.if-line.false (c.line.ensures ∙ ap (λ (t : ℕ × Terms). t.0) c.index-multiples-place.is ∙ same)))

pub returns-clause-none : goal.returns-clause-none
returns-clause-none g c = no_line_all c.args.line c.args.multiples.now c.loop-place.place (omega arith) c.loop-place.invariant
