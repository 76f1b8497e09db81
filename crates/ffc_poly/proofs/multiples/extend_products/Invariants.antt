use Rattle.std.proofs.Common.{◌≡◌, ◌++◌, drop}
use Rattle.ffc_mono.specs.declared.mono.TheConstants.{DEGREE_LIMIT}
use Rattle.ffc_poly.specs.Ordered.{RowFits, times}
use Rattle.ffc_poly.proofs.multiples.extend_products.Given as goal

abbrev pub invariant-loop-i : goal.invariant-loop-i
invariant-loop-i g l =
    let p = g.F.Field.ORDER in
    let k = g.F.Field.value l.c in
    record {
      fits : RowFits DEGREE_LIMIT l.m.powers.now (drop l.i l.terms);
      so_far : l.out ++ times p k l.m.powers.now (drop l.i l.terms) ≡ l.initial.out ++ times p k l.m.powers.now (drop l.from l.terms);
    }
