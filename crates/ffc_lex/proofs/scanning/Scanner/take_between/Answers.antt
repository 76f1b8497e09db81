use Rattle.std.proofs.Common.{sym, ◌∙◌}
use Rattle.ffc_lex.proofs.BetweenLemmas.{no_parenthesis}
use Rattle.ffc_lex.proofs.scanning.Scanner.take_between.Goals as goal

pub returns-in_ok-open-in-LeftParen-clause-read : goal.returns-in_ok-open-in-LeftParen-clause-read
returns-in_ok-open-in-LeftParen-clause-read c n text facing mode =
    c.in_ok-open-in-LeftParen.ensures.read n text facing mode (sym c.class_of.ensures ∙ c.in-LeftParen.is)

pub returns-in_ok-take_first-in_default : goal.returns-in_ok-take_first-in_default
returns-in_ok-take_first-in_default c = record {
  kept = c.in_ok-take_first-in_default.ensures.kept;
  held = tt;
  step = c.in_ok-take_first-in_default.ensures.step;
  read = λ n text facing mode.
      c.in_ok-take_first-in_default.ensures.read n text facing mode (sym c.class_of.ensures) (no_parenthesis c.class_of.result c.in_default.not-LeftParen c.in_default.not-RightParen);
}
