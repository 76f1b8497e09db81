use Rattle.std.proofs.Common.{ap, refl, ◌∙◌}
use Rattle.ffc_lex.specs.Names.{written_symbol}
use Rattle.ffc_verify.proofs.LineLemmas.{named_turn, unnamed_turn}
use Rattle.ffc_verify.proofs.lines.symbols_at.Goals as goal
use Rattle.ffc_verify.proofs.lines.symbols_at.Goals.{in-Some+in_ok-push_symbol-in-Some, in-None}

pub loop-number-preserved : goal.loop-number-preserved
loop-number-preserved c =
    elim c.match-name_at.branch [
      | in-Some+in_ok-push_symbol-in-Some w ↦
          named_turn written_symbol c.args.names.now c.args.numbers.now c.loop-number.number-index c.loop-number-test.true c.loop-number.texts.items c.match-name_at.texts.items _ _ w.in-Some.ensures c.loop-number.invariant
          (ap (λ v. v.items) w.texts-is ∙ w.in_ok-push_symbol-in-Some.ensures) refl
      | in-None w ↦
          unnamed_turn written_symbol c.args.names.now c.args.numbers.now c.loop-number.number-index c.loop-number-test.true c.loop-number.texts.items c.match-name_at.texts.items w.in-None.ensures c.loop-number.invariant (ap (λ v. v.items) w.texts-is)
    ]
