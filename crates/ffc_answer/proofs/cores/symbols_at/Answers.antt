use Rattle.std.proofs.Common.{map, sym, ap, ◌∙◌}
use Rattle.ffc_lex.specs.Names.{written_symbol}
use Rattle.ffc_answer.proofs.ListLemmas.{named_turn, unnamed_more}
use Rattle.ffc_answer.proofs.cores.symbols_at.Goals as goal
use Rattle.ffc_answer.proofs.cores.symbols_at.Goals.{in-Some+in_ok-symbol_text+in_ok-push, in_default}

pub loop-number-preserved : goal.loop-number-preserved
loop-number-preserved c =
    elim c.match-name_at.branch [
      | in-Some+in_ok-symbol_text+in_ok-push w ↦
          named_turn written_symbol c.args.names.now c.args.numbers.now c.loop-number.number-index _ c.loop-number.texts.items _ _ c.loop-number-test.true w.in-Some.ensures c.loop-number.invariant
          (ap (λ v. v.items) w.texts-is ∙ w.in_ok-push.ensures.items) (w.in_ok-symbol_text.ensures ∙ ap written_symbol w.bytes.ensures)
      | in_default w ↦
          ap (λ v. v.items) w.texts-is ∙ c.loop-number.invariant ∙ ap (map written_symbol) (sym (unnamed_more c.args.names.now c.args.numbers.now c.loop-number.number-index c.loop-number-test.true (sym w.in_default.ensures)))
    ]
