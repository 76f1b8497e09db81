use Rattle.std.proofs.Common.{sym, ap, ◌∙◌, ⊎_elim, arith}
use Rattle.ffc_smt.specs.TreeShapes.{is_parenthesis}
use Rattle.ffc_elab.proofs.AskedLemmas.{too_short, not_named, second_wrong, end_wrong, is_one, no_parenthesis}
use Rattle.ffc_elab.proofs.assumptions.is_negation.Goals as goal

pub returns-then-saturating_sub-lt4-clause-is : goal.returns-then-saturating_sub-lt4-clause-is
returns-then-saturating_sub-lt4-clause-is c = λ opening closing items rest there.
    too_short c.args.words.now c.args.at opening closing items rest there (omega (arith, c.if-saturating_sub-lt4.true, c.saturating_sub.ensures, c.len.ensures))

pub returns-then-not-is_named-clause-is : goal.returns-then-not-is_named-clause-is
returns-then-not-is_named-clause-is c = λ opening closing items rest there.
    not_named c.args.words.now c.args.at opening closing items rest there (sym c.is_named.ensures ∙ c.if-not-is_named.true)

pub returns-in-LeftParen-clause-is : goal.returns-in-LeftParen-clause-is
returns-in-LeftParen-clause-is c = λ opening closing items rest there.
    second_wrong c.args.words.now c.args.at opening closing items rest there
    (ap is_parenthesis (sym c.kind.ensures) ∙ ⊎_elim (λ e. ap is_parenthesis e) (λ e. ap is_parenthesis e) c.in-LeftParen.is)

pub returns-in-RightParen : goal.returns-in-RightParen
returns-in-RightParen c = record {
  is = λ opening closing items rest there.
      is_one c.args.words.now c.args.at opening closing items rest there (sym c.is_named.ensures ∙ c.if-not-is_named.false)
      (ap is_parenthesis (sym c.kind.ensures) ∙ no_parenthesis c.kind.result c.in_default.not-LeftParen c.in_default.not-RightParen) (sym c.kind-in_default.ensures ∙ c.in-RightParen.is);
  room = λ e. omega (arith, c.if-saturating_sub-lt4.false, c.saturating_sub.ensures, c.len.type_inv);
}

pub returns-in_default-kind : goal.returns-in_default-kind
returns-in_default-kind c = record {
  is = λ opening closing items rest there.
      end_wrong c.args.words.now c.args.at opening closing items rest there (λ e. c.in_default-kind.not-RightParen (c.kind-in_default.ensures ∙ e));
  room = λ e. cc;
}
