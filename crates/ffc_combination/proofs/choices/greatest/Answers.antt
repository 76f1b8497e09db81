use Rattle.std.proofs.Common.{ℕ, ◌≤◌, get_or, All, subst, arith}
use Rattle.std.proofs.lemmas.List.{take_all}
use Rattle.std.proofs.lemmas.List.Elements.{All-get_or}
use Rattle.ffc_combination.proofs.RangeLemmas.{bound_more}
use Rattle.ffc_combination.proofs.choices.greatest.Goals as goal
use Rattle.ffc_combination.proofs.choices.greatest.Goals.{then-number-greatest, else-number-greatest}

pub loop-number-preserved : goal.loop-number-preserved
loop-number-preserved c =
    let xs = c.args.numbers.now in
    let i = c.loop-number.number-index in
    let old = c.loop-number.greatest in
    let new = c.if-number-greatest.greatest in
    record {
      bound = elim c.if-number-greatest.branch [
        | then-number-greatest w ↦ bound_more (λ n. n) xs i old new c.loop-number-test.true c.loop-number.invariant.bound (omega (arith, w.greatest-is, w.if-number-greatest.true)) (omega (arith, w.greatest-is))
        | else-number-greatest w ↦ bound_more (λ n. n) xs i old new c.loop-number-test.true c.loop-number.invariant.bound (omega (arith, w.greatest-is)) (omega (arith, w.greatest-is, w.if-number-greatest.false))
      ];
      least = λ m all. elim c.if-number-greatest.branch [
        | then-number-greatest w ↦ let here : get_or xs i 0 ≤ m = All-get_or (λ n. n ≤ m) xs i 0 c.loop-number-test.true all in omega (arith, w.greatest-is, here)
        | else-number-greatest w ↦ let before : old ≤ m = c.loop-number.invariant.least m all in omega (arith, w.greatest-is, before)
      ];
    }

pub returns-clause-bound : goal.returns-clause-bound
returns-clause-bound c =
    let greatest = c.loop-number.greatest in
    subst (All (λ (n : ℕ). n ≤ greatest)) (take_all c.loop-number.number-index c.args.numbers.now c.loop-number-test.false) c.loop-number.invariant.bound
