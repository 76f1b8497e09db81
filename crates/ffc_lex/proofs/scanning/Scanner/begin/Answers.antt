use Rattle.std.proofs.Common.{◌<◌, sym, ap, ◌∙◌, subst, arith}
use Rattle.ffc_lex.specs.Scan.{IsReady}
use Rattle.ffc_lex.proofs.BetweenLemmas.{token_begins, outside_fault, stop_at}
use Rattle.ffc_lex.proofs.scanning.Scanner.begin.Goals as goal

pub returns-then-self-eq0-clause-read : goal.returns-then-self-eq0-clause-read
returns-then-self-eq0-clause-read c n text facing mode b =
    stop_at c.fault_at.result 1 c.self.inside.at c.args.self.now.at n text c.args.self.now c.fault_at.ensures (ap (λ v. v.at) c.self.view_is)
    (outside_fault n text c.args.byte c.args.self.now c.args.mode (record { facing = facing; limit = c.requires.limit; mode = mode })
    (sym (ap (λ v. v.depth) c.self.view_is) ∙ c.if-self-eq0.true) b)

pub returns-clause-read : goal.returns-clause-read
returns-clause-read c n text facing mode b =
    let depth : 0 < c.args.self.now.depth = omega (arith, ap (λ v. v.depth) c.self.view_is, c.if-self-eq0.false) in
    subst (λ s. IsReady n text s) (sym c.stay.ensures)
    (token_begins n text c.args.byte c.args.self.now c.args.mode (record { facing = facing; limit = c.requires.limit; mode = mode }) depth b)
