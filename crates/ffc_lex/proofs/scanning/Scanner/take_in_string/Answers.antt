use Rattle.std.proofs.Common.{sym, ap, ◌∙◌, subst}
use Rattle.ffc_lex.specs.Scan.{IsReady}
use Rattle.ffc_lex.proofs.StepLemmas.{string_marks, string_stays, string_fault}
use Rattle.ffc_lex.proofs.BetweenLemmas.{stop_at}
use Rattle.ffc_lex.proofs.scanning.Scanner.take_in_string.Goals as goal

pub returns-then-is_quote-clause-read : goal.returns-then-is_quote-clause-read
returns-then-is_quote-clause-read c n text facing mode =
    subst (λ s. IsReady n text s) (sym c.stay.ensures)
    (string_marks n text c.args.byte c.args.self.now facing c.requires.limit mode (sym c.is_quote.ensures ∙ c.if-is_quote.true))

pub returns-then-not-is_text-clause-read : goal.returns-then-not-is_text-clause-read
returns-then-not-is_text-clause-read c n text facing mode =
    stop_at c.fault_at.result 1 c.self.inside.at c.args.self.now.at n text c.args.self.now c.fault_at.ensures (ap (λ v. v.at) c.self.view_is)
    (string_fault n text c.args.byte c.args.self.now facing c.requires.limit mode (sym c.is_quote.ensures ∙ c.if-is_quote.false) (sym c.is_text.ensures ∙ c.if-not-is_text.true))

pub returns-clause-read : goal.returns-clause-read
returns-clause-read c n text facing mode =
    subst (λ s. IsReady n text s) (sym c.advance.ensures)
    (string_stays n text c.args.byte c.args.self.now facing c.requires.limit mode (sym c.is_quote.ensures ∙ c.if-is_quote.false) (sym c.is_text.ensures ∙ c.if-not-is_text.false))
