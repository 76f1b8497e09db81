use Rattle.std.proofs.Common.{◌≡◌, length, ap, ◌∙◌, arith}
use Rattle.ffc_elab.specs.Changes.{more_by}
use Rattle.ffc_elab.proofs.LevelLemmas.{last_set, last_is, marks_same}
use Rattle.ffc_elab.proofs.levels.count_more.Goals as goal

pub returns : goal.returns
returns c =
    let old = c.args.marks.now in
    let n = c.len-count.result in
    let long : n ≡ length old.items = omega (arith, c.len-count.ensures, old.ok.0) in (
      λ e. absurd (omega (arith, ap length e, long, c.if-count-eq0.false)),
      λ ms m e. last_set old.items ms m _ (more_by c.args.by m) n e long
          (let at : c.index-mark.result.now ≡ m = c.index-mark.ensures ∙ last_is old.items ms m c.index-mark.result.now n e long in
          marks_same _ (more_by c.args.by c.index-mark.result.now) c.more.ensures c.more-2.ensures c.more-3.ensures c.more-4.ensures ∙ ap (more_by c.args.by) at),
    )
