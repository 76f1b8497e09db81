use Rattle.std.proofs.Common.{◌≡◌, ◌*◌, ℕ, List, [], length, replicate, ap, ap₂, ◌∙◌, rules}
use Rattle.ffc_propagation.specs.Rows.{rows_in, rows_of}
use Rattle.ffc_propagation.proofs.IndexLemmas.{no_lists}
use Rattle.ffc_propagation.proofs.rows.Rows.none.Goals as goal

pub returns : goal.returns
returns c =
    let zeros : c.in_ok-vec.field-0.items ≡ replicate (2 * c.args.nodes) 0 = c.in_ok-vec.ensures.items_if_clones_equal (λ y h. search rules) in
    ap₂ (λ lists index. rows_in (rows_of lists) index) c.new.ensures.items zeros ∙ no_lists (2 * c.args.nodes)
