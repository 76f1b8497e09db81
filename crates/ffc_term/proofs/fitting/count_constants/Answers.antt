use Rattle.std.proofs.Common.{◌≡◌, ℕ, ◌+◌, ◌∙◌, cond, get_or, sym, ap, arith}
use Rattle.std.proofs.lemmas.List.Sums.{fold_more}
use Rattle.std.proofs.lemmas.Option.{get_or_from_slice_get, slice_get_within}
use Rattle.ffc_term.specs.declared.node.Node.{Node}
use Rattle.ffc_term.specs.declared.node.Node.TheVariants.{True}
use Rattle.ffc_term.specs.Nodes.{is_constant}
use Rattle.ffc_term.proofs.fitting.count_constants.Goals as goal
use Rattle.ffc_term.proofs.fitting.count_constants.Goals.{then-is_constant, else-is_constant}

pub loop-id-preserved : goal.loop-id-preserved
loop-id-preserved c =
    let table = c.args.table.now in
    let i = c.loop-id.id in
    let more = fold_more (λ a (x : Node). a + cond (is_constant x) 1 0) 0 table i True (slice_get_within table i c.node.result.now c.node.ensures.at) in
    let same : is_constant (get_or table i True) ≡ c.is_constant.result = ap is_constant (get_or_from_slice_get table i c.node.result.now True c.node.ensures.at) ∙ sym c.is_constant.ensures in
    elim c.if-is_constant.branch [
      | then-is_constant w ↦
          let one = ap {B = ℕ} (λ b. cond b 1 0) (same ∙ w.if-is_constant.true) in
          (omega (arith, more, one, w.count-is, c.loop-id.invariant.0), omega (arith, w.count-is, c.loop-id.invariant.1))
      | else-is_constant w ↦
          let none = ap {B = ℕ} (λ b. cond b 1 0) (same ∙ w.if-is_constant.false) in
          (omega (arith, more, none, w.count-is, c.loop-id.invariant.0), omega (arith, w.count-is, c.loop-id.invariant.1))
    ]
