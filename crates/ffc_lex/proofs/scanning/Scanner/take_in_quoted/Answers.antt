use Rattle.std.proofs.Common.{sym, ap, ◌∙◌, subst}
use Rattle.std.proofs.lemmas.Bool.{eq-eqb}
use Rattle.ffc_lex.specs.Scan.{IsReady}
use Rattle.ffc_lex.proofs.StepLemmas.{quoted_stays, quoted_fault, quoted_ends_here}
use Rattle.ffc_lex.proofs.BetweenLemmas.{stop_at, other_test}
use Rattle.ffc_lex.proofs.scanning.Scanner.take_in_quoted.Goals as goal

pub returns-then-byte-eq124-clause-read : goal.returns-then-byte-eq124-clause-read
returns-then-byte-eq124-clause-read c n text facing mode =
    subst (λ s. IsReady n text s) (sym c.in_ok-push_through.ensures.ok)
    (quoted_ends_here n text c.args.byte c.args.self.now facing c.requires.limit mode (eq-eqb c.args.byte 124 c.if-byte-eq124.true))

pub returns-then-not-is_quoted-clause-read : goal.returns-then-not-is_quoted-clause-read
returns-then-not-is_quoted-clause-read c n text facing mode =
    stop_at c.fault_at.result 1 c.self.inside.at c.args.self.now.at n text c.args.self.now c.fault_at.ensures (ap (λ v. v.at) c.self.view_is)
    (quoted_fault n text c.args.byte c.args.self.now facing c.requires.limit mode (other_test c.args.byte 124 c.if-byte-eq124.false) (sym c.is_quoted.ensures ∙ c.if-not-is_quoted.true))

pub returns-clause-read : goal.returns-clause-read
returns-clause-read c n text facing mode =
    subst (λ s. IsReady n text s) (sym c.advance.ensures)
    (quoted_stays n text c.args.byte c.args.self.now facing c.requires.limit mode (sym c.is_quoted.ensures ∙ c.if-not-is_quoted.false))
