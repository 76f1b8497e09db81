use Rattle.std.proofs.Common.{◌≡◌, length, Contains, subst}
use Rattle.ffc_term.specs.Tables.{IsInterned, most_nodes}
use Rattle.ffc_elab.proofs.ConstantLemmas.{put_behind}
use Rattle.ffc_elab.proofs.constants.put_constant.Goals as goal

pub returns-in-Ok-clause-ok : goal.returns-in-Ok-clause-ok
returns-in-Ok-clause-ok c =
    let counted = c.requires.counted in
    let old = c.args.table.now in
    put_behind counted.0 old c.intern.new.self c.args.count c.args.sort c.in-Ok.id counted.1 counted.2 (subst (λ n. IsInterned old c.intern.new.self n c.in-Ok.id) c.constant_node.ensures c.in-Ok.ensures.ok)
    (subst (λ n. (Contains old n → ⊥) × (length old ≡ most_nodes) → ⊥) c.constant_node.ensures (λ p. let q = c.in-Ok.ensures.full.1 p in cc))
