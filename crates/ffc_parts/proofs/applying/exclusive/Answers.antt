use Rattle.std.proofs.Common.{◌+◌, drop, get_or, refl, sym, ◌∙◌, subst}
use Rattle.std.proofs.lemmas.Result.{err_from_is_err_and}
use Rattle.ffc_term.specs.declared.node.Node.TheVariants as node
use Rattle.ffc_term.specs.declared.node.Sort.TheVariants as sort
use Rattle.ffc_smt.specs.Making.{Made, interned, exclusive}
use Rattle.ffc_smt.proofs.Extends.{Extends}
use Rattle.ffc_parts.proofs.GrowingLemmas.{left_wider, bool_at, grows_further, all_at_stays, exclusive_then, exclusive_begins, exclusive_goes, exclusive_ends}
use Rattle.ffc_parts.proofs.applying.exclusive.Goals as goal

pub returns-in_err-made : goal.returns-in_err-made
returns-in_err-made c =
    let p = err_from_is_err_and c.from_residual.result c.from_residual.ensures.1 in
    let mid = c.loop-b.table in
    let b = get_or c.args.rest.now c.loop-b.b-index 0 in
    let rest = drop (c.loop-b.b-index + 1) c.args.rest.now in
    let part = interned mid (node.Xor c.loop-b.made b) in
    let e = c.loop-b.invariant.whole ∙ exclusive_goes mid c.loop-b.made c.args.rest.now c.loop-b.b-index c.loop-b-test.true in
    rw (p.1, p.2)
    (left_wider c.args.table.now mid c.put.new.table part (exclusive c.args.table.now c.args.first c.args.rest.now) c.in_err-made.field-0.0 c.loop-b.invariant.grows
    (subst (λ (m : Made). Extends part.nodes m.nodes) (sym e) (exclusive_begins mid c.loop-b.made b rest)) c.in_err-made.ensures)

pub loop-b-preserved : goal.loop-b-preserved
loop-b-preserved c =
    let mid = c.loop-b.table in
    let new = c.put.new.table in
    let b = get_or c.args.rest.now c.loop-b.b-index 0 in
    let done = c.in_ok-made.ensures in
    record {
      whole =
          c.loop-b.invariant.whole ∙ exclusive_goes mid c.loop-b.made c.args.rest.now c.loop-b.b-index c.loop-b-test.true
          ∙ exclusive_then mid new c.loop-b.made b c.in_ok-made.made (drop (c.loop-b.b-index + 1) c.args.rest.now) done.made;
      grows = grows_further c.args.table.now mid new c.loop-b.invariant.grows done.grows;
      at = bool_at mid new (node.Xor c.loop-b.made b) c.in_ok-made.made done.made (λ ss. refl);
      each = all_at_stays mid new sort.Bool c.args.rest.now done.grows c.loop-b.invariant.each;
    }

pub returns : goal.returns
returns c = record {
  made = c.loop-b.invariant.whole ∙ exclusive_ends c.loop-b.table c.loop-b.made c.args.rest.now c.loop-b.b-index c.loop-b-test.false;
  grows = c.loop-b.invariant.grows;
}
