use Rattle.std.proofs.Common.{◌<◌, ◌++◌, length, sym, ap, ◌∙◌, subst, arith}
use Rattle.std.proofs.lemmas.Result.{err_from_is_err_and}
use Rattle.ffc_term.specs.declared.node.Node.TheVariants as node
use Rattle.ffc_smt.specs.Terms as term
use Rattle.ffc_smt.specs.Making.{Made, interned, differences, applied_made}
use Rattle.ffc_smt.proofs.Extends.{Extends}
use Rattle.ffc_parts.proofs.GrowingLemmas.{makes_after, left_part}
use Rattle.ffc_parts.proofs.ApplyingLemmas.{distinct_two, distinct_many, differences_boolean, conjoined_then, conjoined_begins}
use Rattle.ffc_parts.proofs.applying.all_distinct.Goals as goal

pub returns-then-ids-eq2 : goal.returns-then-ids-eq2
returns-then-ids-eq2 c = rw (distinct_two c.args.ids.now c.args.table.now c.if-ids-eq2.true) c.difference.ensures

pub returns-in_err-differences : goal.returns-in_err-differences
returns-in_err-differences c =
    let p = err_from_is_err_and c.from_residual.result c.from_residual.ensures.1 in
    let ids = c.args.ids.now in
    let old = c.args.table.now in
    let many : 2 < length ids = omega (arith, c.requires.some, c.if-ids-eq2.false) in
    let m = differences old ids in
    rw (p.1, p.2)
    (left_part old c.differences.new.table m (applied_made term.Distinct old ids) c.in_err-differences.field-0.0
    (subst (λ (k : Made). Extends m.nodes k.nodes) (sym (distinct_many ids old many)) (conjoined_begins m)) (c.in_err-differences.ensures))

pub put-requires-clause-fits : goal.put-requires-clause-fits
put-requires-clause-fits c =
    let ids = c.args.ids.now in
    let alike = c.requires.alike in
    let done = c.in_ok-differences.ensures in
    rw (c.new.ensures ∙ done.listed ∙ ap (λ t. t ++ done.ids) c.new-parts.ensures.items)
    (differences_boolean c.args.table.now c.differences.new.table ids done.ids alike.sort c.len-before.ensures.valid alike.each (omega (arith, c.requires.some)) done.made done.grows.table)

pub returns : goal.returns
returns c =
    let ids = c.args.ids.now in
    let old = c.args.table.now in
    let mid = c.differences.new.table in
    let many : 2 < length ids = omega (arith, c.requires.some, c.if-ids-eq2.false) in
    let done = c.in_ok-differences.ensures in
    let is = c.new.ensures ∙ done.listed ∙ ap (λ t. t ++ done.ids) c.new-parts.ensures.items in
    makes_after old mid c.put.new.table (applied_made term.Distinct old ids) (interned mid (node.And c.new.result)) c.put.result done.grows
    (rw is (distinct_many ids old many ∙ conjoined_then (differences old ids) mid done.ids done.made)) c.put.ensures
