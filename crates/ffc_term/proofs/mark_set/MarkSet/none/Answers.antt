use Rattle.std.proofs.Common.{ap, ◌∙◌}
use Rattle.ffc_term.specs.Marking.{marks_in}
use Rattle.ffc_term.proofs.MarkLemmas.{marks_in-zeros}
use Rattle.ffc_term.proofs.mark_set.MarkSet.none.Goals as goal

pub returns : goal.returns
returns c =
    let n = c.div_ceil.result in
    let bound = c.args.bound in
    ap (λ words. marks_in words bound) (c.in_ok-words.ensures.items_if_clones_equal (λ y e. e)) ∙ marks_in-zeros n bound
