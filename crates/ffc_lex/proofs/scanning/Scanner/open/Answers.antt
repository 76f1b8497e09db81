use Rattle.std.proofs.Common.{◌≡◌, false, cond, sym, ap, ◌∙◌, subst, eqb}
use Rattle.std.proofs.lemmas.Bool.{eq-eqb}
use Rattle.ffc_lex.specs.declared.TheConstants.{MAX_DEPTH}
use Rattle.ffc_lex.specs.declared.tokens.TokenKind.TheVariants as kinds
use Rattle.ffc_lex.specs.Scan.{IsReady, with_token_through}
use Rattle.ffc_lex.proofs.BetweenLemmas.{other_test, left_fault, left_opens, deepened, stop_at}
use Rattle.ffc_lex.proofs.scanning.Scanner.open.Goals as goal

pub returns-then-self-eq-MAX_DEPTH-clause-read : goal.returns-then-self-eq-MAX_DEPTH-clause-read
returns-then-self-eq-MAX_DEPTH-clause-read c n text facing mode e =
    stop_at c.fault_at.result 14 c.self.inside.at c.args.self.now.at n text c.args.self.now c.fault_at.ensures (ap (λ v. v.at) c.self.view_is)
    (left_fault n text c.args.byte c.args.self.now (record { facing = facing; limit = c.requires.limit; mode = mode }) e
    (eq-eqb c.args.self.now.depth MAX_DEPTH (sym (ap (λ v. v.depth) c.self.view_is) ∙ c.if-self-eq-MAX_DEPTH.true)))

pub returns-clause-read : goal.returns-clause-read
returns-clause-read c n text facing mode e =
    let state : c.deepen.new.self ≡ deepened (cond (eqb c.args.self.now.depth 0) c.args.self.now.at c.args.self.now.first) (with_token_through kinds.LeftParen c.args.byte c.args.self.now) =
    c.deepen.ensures ∙ (ap (λ v. deepened c.form_start-first.result v) c.in_ok-push_through.ensures.ok
    ∙ ap (λ p. deepened p (with_token_through kinds.LeftParen c.args.byte c.args.self.now)) c.form_start-first.ensures) in
    let room : eqb c.args.self.now.depth MAX_DEPTH ≡ false =
    other_test c.args.self.now.depth MAX_DEPTH (λ full. c.if-self-eq-MAX_DEPTH.false (ap (λ v. v.depth) c.self.view_is ∙ full)) in
    subst (λ s. IsReady n text s) (sym state) (left_opens n text c.args.byte c.args.self.now (record { facing = facing; limit = c.requires.limit; mode = mode }) e room)
