use Rattle.std.proofs.Common.{map, sym, ap, ◌∙◌, arith}
use Rattle.ffc_poly.specs.Ordered.{point_of}
use Rattle.ffc_roots.proofs.Lists.{length-residues}
use Rattle.ffc_stack.specs.Stacks.{generators}
use Rattle.ffc_search.specs.Finding.{point_at}
use Rattle.ffc_search.proofs.ZeroLemmas.{all_zero, all_alike}
use Rattle.ffc_search.proofs.points.is_zero.Goals as goal

pub returns : goal.returns
returns g c = λ yes.
    let p = g.F.Field.ORDER in
    let value = g.F.Field.value in
    let lines = c.args.lines.now in
    let values = c.args.values.now in
    let dense = point_of value c.deref.result.now in
    record {
      each = omega (arith, length-residues value values, c.if-values-vars.false);
      zero = all_alike p dense (point_at c.args.vars.now (map value values))
          (λ x. ap (λ l. point_of value l x) c.deref.ensures.value ∙ c.in_ok-point.ensures x)
          (generators lines) (all_zero p dense lines (sym c.vanish.ensures ∙ yes));
    }
