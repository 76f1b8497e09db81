use Rattle.std.proofs.Common.{◌≡◌, sym, ◌∙◌, subst}
use Rattle.std.proofs.lemmas.Bool.{false≢true}
use Rattle.ffc_line.specs.Lines.{Parts}
use Rattle.ffc_stack.specs.Generators.{parts_at}
use Rattle.ffc_stack.specs.Marks.{IsMarkedBy}
use Rattle.ffc_stack.proofs.MarkLemmas.{parts_there}
use Rattle.ffc_stack.proofs.generators.mark_from.Goals as goal

pub returns-then-reached-place : goal.returns-then-reached-place
returns-then-reached-place g c =
    let ls = c.args.lines.now in
    let place = c.args.place in
    let same : c.as_slice.result.now ≡ parts_at ls place = c.as_slice.ensures.value ∙ sym (parts_there ls place c.index-lines-place.result c.requires.within) in
    record {
      marked = λ _. subst (λ (ps : Parts). IsMarkedBy ps c.args.reached.now c.mark_parts.new.reached) same c.mark_parts.ensures;
      unmarked = λ e. absurd (false≢true (sym e ∙ c.if-reached-place.true));
    }
