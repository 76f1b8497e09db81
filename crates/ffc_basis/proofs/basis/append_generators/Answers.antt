use Rattle.std.proofs.Common.{◌+◌, take, sym, subst}
use Rattle.ffc_ring.specs.Polynomial.{AreTerms}
use Rattle.ffc_mono.specs.declared.mono.TheConstants.{DEGREE_LIMIT}
use Rattle.ffc_line.specs.Lines.{IsAddedTo}
use Rattle.ffc_basis.proofs.AddedLemmas.{lists_more}
use Rattle.ffc_basis.proofs.LineLemmas.{added_more}
use Rattle.ffc_basis.proofs.OrderedTerms.{AreTerms-ordered}
use Rattle.ffc_basis.proofs.basis.append_generators.Goals as goal

pub loop-poly-preserved : goal.loop-poly-preserved
loop-poly-preserved g c =
    let old = c.args.lines.now.items in
    let gens = c.args.gens.now in
    let i = c.loop-poly.poly-index in
    let line = c.in_ok-line.line in
    record {
      index = λ is. c.in_ok-push_line.ensures.index (c.loop-poly.invariant.index is);
      added = subst (λ ls. IsAddedTo old ls (take (i + 1) gens)) (sym c.in_ok-push_line.ensures.ok)
          (added_more old c.loop-poly.lines.items gens i line c.poly-item.result c.loop-poly-test.true c.poly-item.is c.in_ok-line.ensures.poly c.in_ok-line.ensures.parts c.loop-poly.invariant.added);
      lists = λ v.
          lists_more c.loop-poly.lines.items c.push_line.new.lines.items line c.in_ok-push_line.ensures.ok (c.loop-poly.invariant.lists v)
          (subst AreTerms (sym c.in_ok-line.ensures.poly) (AreTerms-ordered g.F.Field.ORDER g.O.MonoOrder.cmp DEGREE_LIMIT c.poly-item.result c.len-length.ensures.ordered));
    }
