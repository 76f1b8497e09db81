use Rattle.std.proofs.Common.{◌<◌, ◌≤◌, length, get_or, All, subst, arith}
use Rattle.std.proofs.lemmas.List.{take_all}
use Rattle.std.proofs.lemmas.List.Elements.{All-get_or}
use Rattle.ffc_term.specs.Measuring.{degree_at}
use Rattle.ffc_combination.specs.Forced.{IsLow}
use Rattle.ffc_combination.proofs.RangeLemmas.{bound_more}
use Rattle.ffc_combination.proofs.choices.greatest_degree.Goals as goal
use Rattle.ffc_combination.proofs.choices.greatest_degree.Goals.{then-degree-greatest, else-degree-greatest}

pub loop-id-preserved : goal.loop-id-preserved
loop-id-preserved c =
    let ns = c.args.table.now in
    let xs = c.args.ids.now in
    let i = c.loop-id.id-index in
    let old = c.loop-id.greatest in
    let new = c.if-degree-greatest.greatest in
    let inside : i < length xs = c.loop-id-test.true in
    let low = (All-get_or (IsLow ns) xs i 0 inside c.requires).low in
    record {
      bound = elim c.if-degree-greatest.branch [
        | then-degree-greatest w ↦ bound_more (degree_at ns) xs i old new inside c.loop-id.invariant.bound (omega (arith, w.greatest-is, w.if-degree-greatest.true)) (omega (arith, w.greatest-is))
        | else-degree-greatest w ↦ bound_more (degree_at ns) xs i old new inside c.loop-id.invariant.bound (omega (arith, w.greatest-is)) (omega (arith, w.greatest-is, w.if-degree-greatest.false))
      ];
      least = λ m all. elim c.if-degree-greatest.branch [
        | then-degree-greatest w ↦ let here : degree_at ns (get_or xs i 0) ≤ m = All-get_or (λ id. degree_at ns id ≤ m) xs i 0 inside all in omega (arith, w.greatest-is, here)
        | else-degree-greatest w ↦ let before : old ≤ m = c.loop-id.invariant.least m all in omega (arith, w.greatest-is, before)
      ];
      low = elim c.if-degree-greatest.branch [
        | then-degree-greatest w ↦ omega (arith, w.greatest-is, low)
        | else-degree-greatest w ↦ omega (arith, w.greatest-is, c.loop-id.invariant.low)
      ];
    }

pub returns : goal.returns
returns c =
    let greatest = c.loop-id.greatest in
    record {
      bound = subst (All (λ id. degree_at c.args.table.now id ≤ greatest)) (take_all c.loop-id.id-index c.args.ids.now c.loop-id-test.false) c.loop-id.invariant.bound;
      least = c.loop-id.invariant.least;
      low = c.loop-id.invariant.low;
    }
