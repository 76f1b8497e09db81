use Rattle.std.proofs.Common.{List, sym, ap, subst}
use Rattle.ffc_ring.specs.Polynomial.{Terms}
use Rattle.ffc_dense.specs.Tables.{Multiple}
use Rattle.ffc_basis.specs.PairTable.{seconds}
use Rattle.ffc_basis.proofs.FewLemmas.{few_none}
use Rattle.ffc_basis.specs.Indexing.{IsIndexOf}
use Rattle.ffc_line.specs.Lines.{polys_of, AreLists, IsAddedTo}
use Rattle.ffc_basis.proofs.AddedLemmas.{pairs_none}
use Rattle.ffc_basis.proofs.KeptLemmas.{no_multiples}
use Rattle.ffc_basis.proofs.LineLemmas.{added_to_none, AreLines-generators}
use Rattle.ffc_basis.proofs.Lists.{lists_none}
use Rattle.ffc_basis.proofs.basis.Basis.start.Goals as goal

pub invariant_of-result : goal.invariant_of-result
invariant_of-result g c =
    let lines = c.append_generators.new.lines.items in
    let gens = c.args.gens.now in (
      AreLines-generators g.F.Field.ORDER lines gens
          (added_to_none lines gens (subst (λ ls. IsAddedTo ls lines gens) c.new-lines.ensures.items c.in_ok-append_generators.ensures.added)),
      pairs_none g.F.Field.ORDER g.O.MonoOrder.cmp (polys_of lines) c.new.result.records.items c.new.result.paired c.new.ensures.records c.new.ensures.paired
          (c.append_generators.ensures.lists (subst (λ ls. AreLists (polys_of ls)) (sym c.new-lines.ensures.items) lists_none)),
      few_none (seconds c.new.result.records.items) c.new.result.paired (ap seconds c.new.ensures.records) c.new.ensures.paired,
      c.append_generators.ensures.index (subst (λ ls. IsIndexOf g.F.Field.ORDER g.O.MonoOrder.cmp (polys_of ls) c.new-index.result) (sym c.new-lines.ensures.items) (c.new-index.ensures g.F.Field.ORDER g.O.MonoOrder.cmp)),
      no_multiples g.F.Field.ORDER (polys_of lines) c.new-2.result.1 (ap (λ (t : Terms × List Multiple). t.1) c.new-2.ensures),
    )
