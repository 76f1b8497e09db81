use Rattle.std.proofs.Common.{◌≡◌, Bool, List, length, sym, ap, ◌∙◌, subst}
use Rattle.std.specs.List.{filter, range_with_len}
use Rattle.ffc_line.specs.declared.line.Line.{Line}
use Rattle.ffc_stack.specs.Generators.{AreGeneratorsOf}
use Rattle.ffc_stack.specs.Marks.{IsReachedTo, is_marked_generator}
use Rattle.ffc_stack.proofs.FoundLemmas.{found_generators}
use Rattle.ffc_stack.proofs.MarkLemmas.{if_ok}
use Rattle.ffc_stack.proofs.stack.BasisStack.generators_of.Goals as goal

pub returns : goal.returns
returns g c =
    let ls : List (Line g.row.F.Denot g.row.O.Denot) = c.lines-lines.result.now in
    let marks : List Bool = c.as_slice.result.now in
    let line = c.args.line in
    let reached : IsReachedTo ls line 0 marks = subst (IsReachedTo ls line 0) (sym c.as_slice.ensures.value) c.in_ok-reached.ensures in
    let found : AreGeneratorsOf ls line (filter (is_marked_generator ls marks) (range_with_len 0 (length ls))) = found_generators ls line marks reached in
    let lines : ls ≡ c.args.self.now.lines = c.lines-lines.ensures.value ∙ ap (λ s. s.lines) c.self.view_is in
    if_ok c.generators_among.result (λ v. v.items ≡ filter (is_marked_generator ls marks) (range_with_len 0 (length ls))) (λ v. AreGeneratorsOf c.args.self.now.lines line v.items)
    (λ v e. subst (λ (ks : List (Line g.row.F.Denot g.row.O.Denot)). AreGeneratorsOf ks line v.items) lines (subst (AreGeneratorsOf ls line) (sym e) found))
    c.generators_among.ensures
