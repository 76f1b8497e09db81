use Rattle.std.proofs.Common.{reverse, sym, ap, ap₂, ◌∙◌, length, not, ◌&&◌, ◌==◌}
use Rattle.std.specs.List.{list_any}
use Rattle.ffc_clause.specs.Clauses.{is_among}
use Rattle.ffc_clause.specs.Marks.{place_of, mark_at}
use Rattle.ffc_check.proofs.AnswerLemmas.{written_back}
use Rattle.ffc_clause.proofs.MarkLemmas.{all_cleared}
use Rattle.ffc_check.proofs.assumed.Assumed.clear.Goals as goal

pub invariant_of-self : goal.invariant_of-self
invariant_of-self c l =
    let marks = c.self.inside.marks in
    let trail = c.self.inside.trail.items in
    let back = written_back c.clear_all.new.marks marks.items marks.len (c.clear_all.auto.marks ∙ ap length c.as_mut_slice.ensures.value) marks.ok.0 in
    let here = c.clear_all.ensures (place_of l)
    ∙ ap₂ (λ ms ls. mark_at ms (place_of l) && not (list_any (λ x. place_of x == place_of l) ls)) c.as_mut_slice.ensures.value c.as_slice.ensures.value in
    ap (λ ms. mark_at ms (place_of l)) back
    ∙ all_cleared trail l (mark_at marks.items (place_of l)) (mark_at c.clear_all.new.marks (place_of l)) (c.self.invariant l) here
    ∙ sym (ap (λ ls. is_among (reverse ls) l) c.clear.ensures.items)
