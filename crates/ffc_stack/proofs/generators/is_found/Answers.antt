use Rattle.std.proofs.Common.{◌≡◌, ◌&&◌, sym, ap, ◌∙◌}
use Rattle.ffc_line.specs.Lines.{Parts}
use Rattle.ffc_stack.specs.Generators.{parts_at}
use Rattle.ffc_stack.specs.Marks.{are_none}
use Rattle.ffc_stack.proofs.FoundLemmas.{none_by_length}
use Rattle.ffc_stack.proofs.MarkLemmas.{parts_there}
use Rattle.ffc_stack.proofs.generators.is_found.Goals as goal

pub returns-then-reached-place : goal.returns-then-reached-place
returns-then-reached-place g c =
    let ls = c.args.lines.now in
    let place = c.args.place in
    let parts : Parts = parts_at ls place in
    let same : c.as_slice.result.now ≡ parts = c.as_slice.ensures.value ∙ sym (parts_there ls place c.index-lines-place.result c.requires.within) in
    c.is_empty.ensures ∙ sym (none_by_length c.as_slice.result.now) ∙ ap are_none same ∙ ap (λ b. b && are_none parts) (sym c.if-reached-place.true)
