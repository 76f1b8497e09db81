use Rattle.std.proofs.Common.{◌≡◌, sym, ap, ◌∙◌, subst}
use Rattle.ffc_elab.specs.Histories.{Known, first_known, known_of}
use Rattle.ffc_elab.specs.Kept.{IsKept, IsKnown}
use Rattle.ffc_elab.proofs.HistoryLemmas.{known_at_first, first_is_known}
use Rattle.ffc_elab.proofs.context.Context.new.Goals as goal

pub invariant_of-result : goal.invariant_of-result
invariant_of-result c =
    let first : first_known ≡ known_of c.new.result.forms = sym (ap known_of c.new.ensures ∙ known_at_first) in
    (subst (λ (k : Known). IsKept k c.in_ok-new.field-0) first c.in_ok-new.ensures, subst IsKnown first first_is_known)
