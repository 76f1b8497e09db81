use Rattle.std.proofs.Common.{sym, ap, ◌∙◌, subst}
use Rattle.ffc_lex.specs.Scan.{IsReady, settled}
use Rattle.ffc_lex.proofs.StepLemmas.{comment_stays, comment_ends_here}
use Rattle.ffc_lex.proofs.scanning.Scanner.take_in_comment.Goals as goal

pub returns-then-ends_line-clause-read : goal.returns-then-ends_line-clause-read
returns-then-ends_line-clause-read c n text facing mode =
    subst (λ s. IsReady n text s) (sym (c.settle.ensures ∙ ap (λ s. settled s) c.advance.ensures))
    (comment_ends_here n text c.args.byte c.args.self.now facing c.requires mode (sym c.ends_line.ensures ∙ c.if-ends_line.true))

pub returns-else-ends_line-clause-read : goal.returns-else-ends_line-clause-read
returns-else-ends_line-clause-read c n text facing mode =
    subst (λ s. IsReady n text s) (sym c.advance.ensures)
    (comment_stays n text c.args.byte c.args.self.now facing c.requires mode (sym c.ends_line.ensures ∙ c.if-ends_line.false))
