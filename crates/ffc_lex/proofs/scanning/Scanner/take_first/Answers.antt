use Rattle.std.proofs.Common.{sym, ap, ◌∙◌, subst}
use Rattle.ffc_lex.specs.Scan.{IsReady, settled}
use Rattle.ffc_lex.proofs.FitsLemmas.{begins_quoted, begins_string, begins_keyword, begins_field, begins_word}
use Rattle.ffc_lex.proofs.BetweenLemmas.{white_skips, comment_begins, other_fault, other_class, stop_at}
use Rattle.ffc_lex.proofs.scanning.Scanner.take_first.Goals as goal

pub returns-in-White-clause-read : goal.returns-in-White-clause-read
returns-in-White-clause-read c n text facing mode e p =
    subst (λ s. IsReady n text s) (sym (c.settle.ensures ∙ ap (λ s. settled s) c.advance.ensures))
    (white_skips n text c.args.byte c.args.self.now (record { facing = facing; limit = c.requires.limit; mode = mode }) (e ∙ c.in-White.is))

pub returns-in-Semicolon-clause-read : goal.returns-in-Semicolon-clause-read
returns-in-Semicolon-clause-read c n text facing mode e p =
    subst (λ s. IsReady n text s) (sym c.stay.ensures)
    (comment_begins n text c.args.byte c.args.self.now (record { facing = facing; limit = c.requires.limit; mode = mode }) (e ∙ c.in-Semicolon.is))

pub returns-in-Bar-clause-read : goal.returns-in-Bar-clause-read
returns-in-Bar-clause-read c n text facing mode e p = c.begin.ensures.read n text facing mode (begins_quoted c.args.byte (e ∙ c.in-Bar.is))

pub returns-in-Quote-clause-read : goal.returns-in-Quote-clause-read
returns-in-Quote-clause-read c n text facing mode e p = c.begin-in-Quote.ensures.read n text facing mode (begins_string c.args.byte (e ∙ c.in-Quote.is))

pub returns-in-Colon-clause-read : goal.returns-in-Colon-clause-read
returns-in-Colon-clause-read c n text facing mode e p = c.begin-in-Colon.ensures.read n text facing mode (begins_keyword c.args.byte (e ∙ c.in-Colon.is))

pub returns-in-Hash-clause-read : goal.returns-in-Hash-clause-read
returns-in-Hash-clause-read c n text facing mode e p = c.begin-in-Hash.ensures.read n text facing mode (begins_field c.args.byte (e ∙ c.in-Hash.is))

pub returns-in-Word-clause-read : goal.returns-in-Word-clause-read
returns-in-Word-clause-read c n text facing mode e p = c.begin-in-Word.ensures.read n text facing mode (begins_word c.args.byte (e ∙ c.in-Word.is))

pub returns-in_default-clause-read : goal.returns-in_default-clause-read
returns-in_default-clause-read c n text facing mode e p =
    stop_at c.fault_at.result 1 c.self.inside.at c.args.self.now.at n text c.args.self.now c.fault_at.ensures (ap (λ v. v.at) c.self.view_is)
    (other_fault n text c.args.byte c.args.self.now (record { facing = facing; limit = c.requires.limit; mode = mode })
    (e ∙ other_class c.args.class p c.in_default.not-White c.in_default.not-Semicolon c.in_default.not-Bar c.in_default.not-Quote c.in_default.not-Colon c.in_default.not-Hash c.in_default.not-Word))
