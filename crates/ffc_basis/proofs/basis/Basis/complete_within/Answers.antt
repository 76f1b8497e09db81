use Rattle.std.proofs.Common.{◌≡◌, ◌∙◌, arith}
use Rattle.ffc_basis.proofs.AddedLemmas.{front_same, front_dropped}
use Rattle.ffc_basis.proofs.basis.Basis.complete_within.Goals as goal

pub returns-in-Err-Memory-clause-stays : goal.returns-in-Err-Memory-clause-stays
returns-in-Err-Memory-clause-stays g c =
    let p = g.F.Field.ORDER in
    let cmp = g.O.MonoOrder.cmp in
    let old = c.self.inside.lines.items in
    let same : c.cut.new.self ≡ c.args.self.now =
    front_dropped p cmp old c.advance.new.lines.items c.cut.new.self c.len-count.result c.advance.ensures.front (omega (arith, c.len-count.ensures, c.self.inside.lines.ok.0)) c.cut.ensures ∙ c.self.view_is in
    front_same p cmp c.args.self.now c.cut.new.self same
