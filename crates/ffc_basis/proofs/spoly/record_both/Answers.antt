use Rattle.std.proofs.Common.{ℕ, subst}
use Rattle.ffc_line.specs.Lines.{Parts}
use Rattle.ffc_basis.specs.Reduction.{IsRecorded}
use Rattle.ffc_basis.proofs.Lists.{on_ok}
use Rattle.ffc_basis.proofs.SPolynomialLemmas.{both_recorded}
use Rattle.ffc_basis.proofs.spoly.record_both.Goals as goal

pub returns : goal.returns
returns g c =
    let p = g.F.Field.ORDER in
    let value = g.F.Field.value in
    let first = c.args.spoly.now.first in
    let second = c.args.spoly.now.second in
    let old : Parts = c.args.parts.now in
    let middle : Parts = c.record_anyway.new.parts in
    let new : Parts = c.record_anyway-2.new.parts in
    on_ok c.record_anyway-2.result
    (λ last. both_recorded p old middle new first.line (value first.coefficient) first.monomial second.line (value second.coefficient) second.monomial
    (subst (λ (k : ℕ). IsRecorded p old middle first.line k first.monomial) c.neg.ensures c.in_ok-record_anyway.ensures)
    (subst (λ (k : ℕ). IsRecorded p middle new second.line k second.monomial) c.neg-2.ensures last))
    c.record_anyway-2.ensures
