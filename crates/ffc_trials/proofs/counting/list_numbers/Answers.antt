use Rattle.std.proofs.Common.{ℕ, ◌<◌, length, get_or, sym, ap, ◌∙◌, subst, arith}
use Rattle.ffc_trials.specs.Counting.{number_given}
use Rattle.ffc_trials.proofs.CountingLemmas.{given_number}
use Rattle.ffc_trials.proofs.ListedLemmas.{get_or-dropped, listed_more, rest_left}
use Rattle.ffc_trials.proofs.counting.list_numbers.Goals as goal

-- a pair of numbers
abbrev with_first : ℕ → ℕ → ℕ × ℕ
with_first a b = (a, b)

pub node-requires : goal.node-requires
node-requires c =
    let i = c.loop-pair.pair-index in
    subst (λ p. p.0 < length c.args.table.now) (sym (get_or-dropped c.loop-pair.pairs c.args.pairs.now i (0, 0) c.loop-pair.invariant.rest))
    (c.requires i (0, 0) (omega arith))

pub loop-pair-preserved : goal.loop-pair-preserved
loop-pair-preserved c =
    let ns = c.args.table.now in
    let values = c.args.values.now in
    let i = c.loop-pair.pair-index in
    let x = get_or c.loop-pair.pairs i (0, 0) in
    let y : ℕ × ℕ = (x.0, c.number_at-pair.result) in
    let long = c.loop-pair.auto.pairs in
    let inside : i < length c.loop-pair.pairs = omega arith in
    let same = get_or-dropped c.loop-pair.pairs c.args.pairs.now i (0, 0) c.loop-pair.invariant.rest in
    let given = given_number ns values x.0 c.number_at-pair.result c.node.result.now c.node.ensures.at c.number_at-pair.ensures.number in
    record {
      done = listed_more (λ p. (p.0, number_given ns values p.0)) c.loop-pair.pairs c.args.pairs.now i inside long y
          (ap (λ (n : ℕ). with_first x.0 n) given ∙ ap (λ (p : ℕ × ℕ). with_first p.0 (number_given ns values p.0)) same) c.loop-pair.invariant.done;
      rest = rest_left (λ p. (p.0, number_given ns values p.0)) c.loop-pair.pairs c.args.pairs.now i inside long y c.loop-pair.invariant.rest;
    }
