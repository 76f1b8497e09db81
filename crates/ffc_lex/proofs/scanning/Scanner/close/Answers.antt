use Rattle.std.proofs.Common.{◌≡◌, ◌+◌, ◌-◌, false, sym, ap, ◌∙◌, subst, arith, eqb}
use Rattle.std.proofs.lemmas.Bool.{eq-eqb}
use Rattle.ffc_lex.specs.declared.tokens.TokenKind.TheVariants as kinds
use Rattle.ffc_lex.specs.Reading.{past}
use Rattle.ffc_lex.specs.Scan.{Scan, IsForm, IsReady, begun, with_token_through}
use Rattle.ffc_lex.proofs.BetweenLemmas.{other_test, right_fault, right_closes, right_ends, closed_tokens, risen, taken, stop_at}
use Rattle.ffc_lex.proofs.scanning.Scanner.close.Goals as goal

pub returns-then-self-eq0-clause-read : goal.returns-then-self-eq0-clause-read
returns-then-self-eq0-clause-read c n text facing mode e =
    stop_at c.fault_at.result 3 c.self.inside.at c.args.self.now.at n text c.args.self.now c.fault_at.ensures (ap (λ v. v.at) c.self.view_is)
    (right_fault n text c.args.byte c.args.self.now (record { facing = facing; limit = c.requires.limit; mode = mode }) e
    (eq-eqb c.args.self.now.depth 0 (sym (ap (λ v. v.depth) c.self.view_is) ∙ c.if-self-eq0.true)))

pub returns-then-self-gt0-clause-read : goal.returns-then-self-gt0-clause-read
returns-then-self-gt0-clause-read c n text facing mode e =
    let state : c.rise.new.self ≡ risen (with_token_through kinds.RightParen c.args.byte c.args.self.now) = c.rise.ensures ∙ ap (λ v. risen v) c.in_ok-push_through.ensures.ok in
    let some : eqb c.args.self.now.depth 0 ≡ false = other_test c.args.self.now.depth 0 (λ z. c.if-self-eq0.false (ap (λ v. v.depth) c.self.view_is ∙ z)) in
    let left : c.self-2.inside.depth ≡ c.args.self.now.depth - 1 = ap (λ v. v.depth) c.self-2.view_is ∙ ap (λ v. v.depth) state in
    let more : eqb c.args.self.now.depth 1 ≡ false = other_test c.args.self.now.depth 1 (λ z. absurd (omega (arith, z, left, c.if-self-gt0.true))) in
    subst (λ s. IsReady n text s) (sym state) (right_closes n text c.args.byte c.args.self.now (record { facing = facing; limit = c.requires.limit; mode = mode }) e some more)

pub returns-clause-read : goal.returns-clause-read
returns-clause-read c n text facing mode e =
    let state : c.rise.new.self ≡ risen (with_token_through kinds.RightParen c.args.byte c.args.self.now) = c.rise.ensures ∙ ap (λ v. risen v) c.in_ok-push_through.ensures.ok in
    let not_none : c.args.self.now.depth ≡ 0 → ⊥ = λ z. c.if-self-eq0.false (ap (λ v. v.depth) c.self.view_is ∙ z) in
    let some : eqb c.args.self.now.depth 0 ≡ false = other_test c.args.self.now.depth 0 not_none in
    let left : c.self-2.inside.depth ≡ c.args.self.now.depth - 1 = ap (λ v. v.depth) c.self-2.view_is ∙ ap (λ v. v.depth) state in
    let depth : c.args.self.now.depth ≡ 1 = omega (arith, not_none, left, c.if-self-gt0.false) in
    let ends : IsForm n text (closed_tokens (c.args.self.now.at.index - c.args.self.now.start.index + 1) c.args.self.now) × IsReady (n + 1) text (begun c.args.self.now.kept (past c.args.byte c.args.self.now.at)) =
    right_ends n text c.args.byte c.args.self.now (record { facing = facing; limit = c.requires.limit; mode = mode }) e some (eq-eqb c.args.self.now.depth 1 depth) in
    let form : c.take_form.result ≡ closed_tokens (c.args.self.now.at.index - c.args.self.now.start.index + 1) c.args.self.now = c.take_form.ensures.form ∙ ap (λ v. v.tokens) state in
    let zero : c.args.self.now.depth - 1 ≡ 0 = omega arith in
    let after : c.take_form.new.self ≡ begun c.args.self.now.kept (past c.args.byte c.args.self.now.at) =
    c.take_form.ensures.left ∙ (ap (λ v. taken v) state
    ∙ ap (λ d. let x : Scan = record (begun c.args.self.now.kept (past c.args.byte c.args.self.now.at)) { depth = d } in x) zero) in
    (subst (λ f. IsForm n text f) (sym form) ends.0, subst (λ s. IsReady (n + 1) text s) (sym after) ends.1)
