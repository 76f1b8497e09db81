use Rattle.std.proofs.Common.{◌≡◌, take, sym, ap, ◌∙◌, subst}
use Rattle.ffc_dense.specs.Tables.{AreMultiplesOf}
use Rattle.ffc_basis.specs.Indexing.{IsIndexOf}
use Rattle.ffc_line.specs.Lines.{polys_of, AreLines}
use Rattle.ffc_basis.specs.PairTable.{ArePairs}
use Rattle.ffc_basis.proofs.AddedLemmas.{pairs_added, polys-take}
use Rattle.ffc_basis.proofs.KeptLemmas.{multiples_appended}
use Rattle.ffc_basis.proofs.LineLemmas.{added_lines}
use Rattle.ffc_basis.proofs.basis.Basis.add.Goals as goal

pub invariant_of-self : goal.invariant_of-self
invariant_of-self g c =
    let old = c.self.inside.lines.items in
    let new = c.append_generators.new.lines.items in
    let gens = c.args.gens.now in (
      added_lines g.F.Field.ORDER old new gens c.self.invariant.0 c.in-Ok.ensures.added,
      pairs_added g.F.Field.ORDER g.O.MonoOrder.cmp old new gens c.self.inside.pairing.records.items c.self.inside.pairing.paired c.in-Ok.ensures.added (c.append_generators.ensures.lists c.self.invariant.1.lists) c.self.invariant.1,
      c.self.invariant.2,
      c.append_generators.ensures.index c.self.invariant.3,
      multiples_appended g.F.Field.ORDER old new c.in-Ok.ensures.added.0 c.self.inside.table.1 c.in-Ok.ensures.added.1 c.self.invariant.4,
    )

pub invariant_of-self-in-Err : goal.invariant_of-self-in-Err
invariant_of-self-in-Err g c =
    let p = g.F.Field.ORDER in
    let cmp = g.O.MonoOrder.cmp in
    let old = c.self.inside.lines.items in
    let appended = c.append_generators.new.lines.items in
    let count = c.len-count.result in
    let pairing = c.self.inside.pairing in
    let cut = c.truncate.new.self.items in
    let same : cut ≡ old = c.truncate.ensures.items ∙ ap (λ n. take n appended) c.len-count.ensures ∙ c.append_generators.ensures.kept in
    let indexed = c.cut.ensures (subst (λ ls. IsIndexOf p cmp (polys_of ls) c.append_generators.new.index) (sym c.deref.ensures.value) (c.append_generators.ensures.index c.self.invariant.3)) in (
      subst (AreLines p) (sym same) c.self.invariant.0,
      subst (λ ls. ArePairs p cmp (polys_of ls) pairing.records.items pairing.paired) (sym same) c.self.invariant.1,
      c.self.invariant.2,
      subst (λ gs. IsIndexOf p cmp gs c.cut.new.self)
          (ap (λ ls. take count (polys_of ls)) c.deref.ensures.value ∙ sym (polys-take count appended) ∙ ap polys_of (sym c.truncate.ensures.items)) indexed,
      subst (λ ls. AreMultiplesOf p (polys_of ls) c.self.inside.table.1) (sym same) c.self.invariant.4,
    )
