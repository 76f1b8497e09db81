use Rattle.std.proofs.Common.{length, take, sym, ap, ◌∙◌, subst, arith}
use Rattle.ffc_dense.specs.Tables.{AreMultiplesOf}
use Rattle.ffc_basis.specs.Indexing.{IsIndexOf}
use Rattle.ffc_line.specs.Lines.{AreLines, polys_of}
use Rattle.ffc_basis.proofs.AddedLemmas.{pairs_dropped, polys-take}
use Rattle.ffc_basis.proofs.FewLemmas.{few_pairs_cut}
use Rattle.ffc_basis.proofs.LineLemmas.{AreLines-take}
use Rattle.ffc_basis.proofs.basis.Basis.cut.Goals as goal

pub invariant_of-self : goal.invariant_of-self
invariant_of-self g c =
    let p = g.F.Field.ORDER in
    let pairing = c.self.inside.pairing in (
      subst (AreLines p) (sym c.truncate.ensures.items) (AreLines-take p c.args.len c.self.inside.lines.items c.self.invariant.0),
      pairs_dropped p g.O.MonoOrder.cmp c.self.inside.lines.items c.truncate.new.self.items pairing.records.items c.cut-2.new.self.records.items pairing.paired c.cut-2.new.self.paired c.args.len
          (omega (arith, c.requires, ap length c.self.view_is)) c.truncate.ensures.items c.cut-2.ensures.records c.cut-2.ensures.paired c.self.invariant.1,
      few_pairs_cut pairing.records.items c.cut-2.new.self.records.items pairing.paired c.cut-2.new.self.paired c.args.len c.cut-2.ensures.records c.cut-2.ensures.paired c.self.invariant.2,
      subst (λ gs. IsIndexOf p g.O.MonoOrder.cmp gs c.cut.new.self)
          (ap (λ ls. take c.args.len (polys_of ls)) c.deref.ensures.value ∙ sym (polys-take c.args.len c.self.inside.lines.items) ∙ ap polys_of (sym c.truncate.ensures.items))
          (c.cut.ensures (subst (λ ls. IsIndexOf p g.O.MonoOrder.cmp (polys_of ls) c.self.inside.index) (sym c.deref.ensures.value) c.self.invariant.3)),
      subst (λ gs. AreMultiplesOf p gs c.cut-3.new.self.1) (sym (polys-take c.args.len c.self.inside.lines.items) ∙ ap polys_of (sym c.truncate.ensures.items))
          (c.cut-3.ensures.multiples (polys_of c.self.inside.lines.items) c.self.invariant.4),
    )
