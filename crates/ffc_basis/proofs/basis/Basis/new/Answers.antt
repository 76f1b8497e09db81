use Rattle.std.proofs.Common.{List, sym, ap, subst}
use Rattle.ffc_ring.specs.Polynomial.{Terms}
use Rattle.ffc_dense.specs.Tables.{Multiple}
use Rattle.ffc_basis.specs.Indexing.{IsIndexOf}
use Rattle.ffc_line.specs.Lines.{polys_of, AreLines, AreLists}
use Rattle.ffc_basis.specs.PairTable.{seconds}
use Rattle.ffc_basis.proofs.AddedLemmas.{pairs_none}
use Rattle.ffc_basis.proofs.FewLemmas.{few_none}
use Rattle.ffc_basis.proofs.KeptLemmas.{no_multiples}
use Rattle.ffc_basis.proofs.Lists.{lists_none}
use Rattle.ffc_basis.proofs.basis.Basis.new.Goals as goal

pub invariant_of-result : goal.invariant_of-result
invariant_of-result g c =
    let p = g.F.Field.ORDER in
    let cmp = g.O.MonoOrder.cmp in
    let lines = c.new.result.items in
    let pairing = c.new-3.result in (
      subst (AreLines p) (sym c.new.ensures.items) tt,
      pairs_none p cmp (polys_of lines) pairing.records.items pairing.paired c.new-3.ensures.records c.new-3.ensures.paired (subst (λ ls. AreLists (polys_of ls)) (sym c.new.ensures.items) lists_none),
      few_none (seconds pairing.records.items) pairing.paired (ap seconds c.new-3.ensures.records) c.new-3.ensures.paired,
      subst (λ ls. IsIndexOf p cmp (polys_of ls) c.new-2.result) (sym c.new.ensures.items) (c.new-2.ensures p cmp),
      no_multiples p (polys_of lines) c.new-4.result.1 (ap (λ (t : Terms × List Multiple). t.1) c.new-4.ensures),
    )
