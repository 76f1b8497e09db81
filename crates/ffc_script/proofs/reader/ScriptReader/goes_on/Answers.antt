use Rattle.std.proofs.Common.{false, ap, sym, subst, ◌∙◌, ◌≡◌}
use Rattle.ffc_script.specs.Kept.{IsKept}
use Rattle.ffc_script.specs.Laws.{GoesOnFrom}
use Rattle.ffc_script.proofs.KeptLemmas.{goes_from}
use Rattle.ffc_script.proofs.reader.ScriptReader.goes_on.Goals as goal

pub returns : goal.returns
returns c =
    let over : c.self.inside.over ≡ false = ap (λ p. p.over) c.self.view_is ∙ c.requires in
    let kept : IsKept c.self.inside.lexer c.self.inside.context false = subst (IsKept c.self.inside.lexer c.self.inside.context) over c.self.invariant in
    subst GoesOnFrom (ap (λ b. record { text = c.self.inside.lexer.text; forms = c.self.inside.context; over = b }) (sym over) ∙ c.self.view_is)
    (goes_from c.self.inside.lexer c.self.inside.context kept)
