use Rattle.std.proofs.Common.{◌≡◌, [], get_or, ap, arith, Err}
use Rattle.ffc_ring.specs.Polynomial.{Terms}
use Rattle.ffc_mono.specs.declared.mono.TheConstants.{DEGREE_LIMIT}
use Rattle.ffc_line.specs.Lines.{polys_of}
use Rattle.ffc_basis.proofs.Lists.{length-polys, poly_at, limits}
use Rattle.ffc_basis.proofs.ReductionLemmas.{line_step, line_first, line_cancels, line_passes}
use Rattle.ffc_basis.proofs.reduction.subtract.Goals as goal

pub returns-in-Err-clause-over : goal.returns-in-Err-clause-over
returns-in-Err-clause-over g c = λ memory.
    let ls = c.args.lines.now in
    let step = c.args.step.now in
    let line : Terms = (get_or ls step.line c.index-lines-step.result).poly in
    let is : get_or (polys_of ls) step.line [] ≡ line = poly_at ls step.line c.index-lines-step.result (omega (arith, c.requires.step.within, length-polys ls)) in
    line_passes g.F.Field.ORDER (polys_of ls) step.line (g.F.Field.value step.coefficient) step.monomial c.as_ref.result.powers.now line c.args.rest.now c.args.parts.now is c.as_ref.ensures
    (limits c.in-Err.stop (λ e. c.in-Err.ensures.degree_over.0 (ap (λ stop. Err stop) e)) (λ e. c.in-Err.ensures.terms_over (ap (λ stop. Err stop) e)) memory)

pub returns-in-Ok-add-clause-reduction : goal.returns-in-Ok-add-clause-reduction
returns-in-Ok-add-clause-reduction g c =
    let ls = c.args.lines.now in
    let step = c.args.step.now in
    let line : Terms = (get_or ls step.line c.index-lines-step.result).poly in
    let is : get_or (polys_of ls) step.line [] ≡ line = poly_at ls step.line c.index-lines-step.result (omega (arith, c.requires.step.within, length-polys ls)) in
    line_step g.F.Field.ORDER g.met.F.Field.prime g.O.MonoOrder.cmp g.met.O.MonoOrder.laws DEGREE_LIMIT (polys_of ls) step.line (g.F.Field.value step.coefficient) step.monomial c.as_ref.result.powers.now
    line c.args.rest.now c.in-Ok.next c.args.place c.args.parts.now c.add.new.self is c.as_ref.ensures c.len.ensures.ordered c.requires.within c.as_ref.result.is_monomial
    (g.met.F.Field.below step.coefficient) c.len-2.ensures.ordered c.requires.step c.in-Ok.ensures.difference c.in-Ok-add.ensures.recorded
    (c.len-new_length.ensures.ordered, omega (arith, c.len-new_length.ensures.value, c.len-new_length.ensures.fits)) c.in-Ok-add.ensures.lines

pub returns-in-Ok-add-clause-first : goal.returns-in-Ok-add-clause-first
returns-in-Ok-add-clause-first g c =
    let ls = c.args.lines.now in
    let step = c.args.step.now in
    let line : Terms = (get_or ls step.line c.index-lines-step.result).poly in
    let is : get_or (polys_of ls) step.line [] ≡ line = poly_at ls step.line c.index-lines-step.result (omega (arith, c.requires.step.within, length-polys ls)) in
    line_first g.F.Field.ORDER g.met.F.Field.prime g.O.MonoOrder.cmp g.met.O.MonoOrder.laws DEGREE_LIMIT (polys_of ls) step.line (g.F.Field.value step.coefficient) step.monomial c.as_ref.result.powers.now
    line c.args.rest.now c.in-Ok.next c.args.place is c.as_ref.ensures c.len.ensures.ordered c.len-new_length.ensures.ordered c.requires.within c.as_ref.result.is_monomial
    (g.met.F.Field.below step.coefficient) c.len-2.ensures.ordered c.requires.step c.in-Ok.ensures.difference

pub returns-in-Ok-add-clause-cancelled : goal.returns-in-Ok-add-clause-cancelled
returns-in-Ok-add-clause-cancelled g c =
    let ls = c.args.lines.now in
    let step = c.args.step.now in
    let line : Terms = (get_or ls step.line c.index-lines-step.result).poly in
    let is : get_or (polys_of ls) step.line [] ≡ line = poly_at ls step.line c.index-lines-step.result (omega (arith, c.requires.step.within, length-polys ls)) in
    line_cancels g.F.Field.ORDER g.met.F.Field.prime g.O.MonoOrder.cmp g.met.O.MonoOrder.laws DEGREE_LIMIT (polys_of ls) step.line (g.F.Field.value step.coefficient) step.monomial c.as_ref.result.powers.now
    line c.args.rest.now c.in-Ok.next c.args.place is c.as_ref.ensures c.len.ensures.ordered c.len-new_length.ensures.ordered c.requires.within c.as_ref.result.is_monomial
    (g.met.F.Field.below step.coefficient) c.len-2.ensures.ordered c.requires.step c.in-Ok.ensures.difference
