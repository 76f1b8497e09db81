use Rattle.std.proofs.Common.{◌≢◌, ◌∷◌, ◌++◌, [], sym, ap, ◌∙◌, arith, refl}
use Rattle.ffc_cktree.proofs.SumLemmas.{rule_is}
use Rattle.ffc_cktree.proofs.CaseLemmas.{values_many, values_other, values_kept, range_more}
use Rattle.ffc_cktree.proofs.cases.values.Goals as goal
use Rattle.ffc_cktree.proofs.cases.values.Goals.{then-ORDER-gt-MOST_VALUES-via-then-ORDER-gt-MOST_VALUES, then-ORDER-gt-MOST_VALUES-via-else-ORDER-gt-MOST_VALUES+then-from-ORDER}

pub returns-then-ORDER-gt-MOST_VALUES-clause-broken : goal.returns-then-ORDER-gt-MOST_VALUES-clause-broken
returns-then-ORDER-gt-MOST_VALUES-clause-broken g c rule e lines x =
    let p = g.F.Field.ORDER in
    elim c.then-ORDER-gt-MOST_VALUES.branch [
      | then-ORDER-gt-MOST_VALUES-via-then-ORDER-gt-MOST_VALUES w ↦
          rule_is 7 rule _ _ (values_many p lines x c.args.count (omega (arith, c.ORDER.ensures, w.if-ORDER-gt-MOST_VALUES.true))) e refl
      | then-ORDER-gt-MOST_VALUES-via-else-ORDER-gt-MOST_VALUES+then-from-ORDER w ↦
          let other : c.args.count ≢ p = λ same. w.if-from-ORDER.true (w.from.ensures ∙ same ∙ sym w.ORDER-else-ORDER-gt-MOST_VALUES.ensures) in
          rule_is 7 rule _ _ (values_other p lines x c.args.count (omega (arith, c.ORDER.ensures, w.if-ORDER-gt-MOST_VALUES.false)) other) e refl
    ]

pub loop-value-preserved : goal.loop-value-preserved
loop-value-preserved g c = c.in_ok-push.ensures.items ∙ ap (λ l. l ++ c.loop-value.value ∷ []) c.loop-value.invariant ∙ sym (range_more c.loop-value.value)

pub returns-clause-kept : goal.returns-clause-kept
returns-clause-kept g c lines x =
    let p = g.F.Field.ORDER in
    values_kept p lines x c.args.count (omega (arith, c.ORDER.ensures, c.if-ORDER-gt-MOST_VALUES.false)) (sym c.from.ensures ∙ c.if-from-ORDER.false ∙ c.ORDER-else-ORDER-gt-MOST_VALUES.ensures)
