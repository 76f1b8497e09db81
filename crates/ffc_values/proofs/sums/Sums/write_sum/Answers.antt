use Rattle.std.proofs.Common.{[], ◌++◌, map, ap₂, ◌∙◌}
use Rattle.std.proofs.lemmas.List.{append-nil}
use Rattle.ffc_refutation.specs.Written.{multiple_of}
use Rattle.ffc_values.specs.Written.{next_line, sums_lines}
use Rattle.ffc_values.proofs.sums.Sums.write_sum.Goals as goal

pub returns-clause-lines : goal.returns-clause-lines
returns-clause-lines c =
    let old = c.args.self.now in
    c.in_ok-number.ensures.lines ∙ c.in_ok-add_all.ensures.adds.tree []
    ∙ ap₂ (λ ps ms. old.lines.items ++ sums_lines (next_line old) ps ms) c.requires.none (append-nil (map multiple_of c.args.summands.items))
