use Rattle.std.proofs.Common.{◌<◌, ◌++◌, length, drop, get_or, sym, ap, ◌∙◌, subst, arith}
use Rattle.std.proofs.lemmas.Result.{err_from_is_err_and}
use Rattle.std.proofs.lemmas.List.{length-drop}
use Rattle.ffc_term.specs.declared.node.Node.TheVariants as node
use Rattle.ffc_smt.specs.Terms as term
use Rattle.ffc_smt.specs.Making.{Made, interned, neighbours, applied_made}
use Rattle.ffc_smt.proofs.Extends.{Extends}
use Rattle.ffc_parts.proofs.GrowingLemmas.{makes_after, left_part}
use Rattle.ffc_parts.proofs.ApplyingLemmas.{up_to_end, others_all, equal_two, equal_many, neighbours_boolean, conjoined_then, conjoined_begins}
use Rattle.ffc_parts.proofs.applying.all_equal.Goals as goal

pub returns-then-ids-eq2 : goal.returns-then-ids-eq2
returns-then-ids-eq2 c = rw (equal_two c.args.ids.now c.args.table.now c.if-ids-eq2.true) c.equality.ensures

pub neighbours-requires : goal.neighbours-requires
neighbours-requires c =
    let ids = c.args.ids.now in
    let alike = c.requires.alike in
    record {
      sort = alike.sort;
      first = alike.each 0 0 (omega (arith, c.requires.some));
      others = rw (up_to_end ids 1) (others_all c.args.table.now alike.sort ids alike.each);
    }

pub returns-in_err-neighbours : goal.returns-in_err-neighbours
returns-in_err-neighbours c =
    let p = err_from_is_err_and c.from_residual.result c.from_residual.ensures.1 in
    let ids = c.args.ids.now in
    let old = c.args.table.now in
    let many : 2 < length ids = omega (arith, c.requires.some, c.if-ids-eq2.false) in
    let m = neighbours old (get_or ids 0 0) (drop 1 ids) in
    rw (p.1, p.2)
    (left_part old c.neighbours.new.table m (applied_made term.Equal old ids) c.in_err-neighbours.field-0.0
    (subst (λ (k : Made). Extends m.nodes k.nodes) (sym (equal_many ids old many)) (conjoined_begins m)) (rw (up_to_end ids 1) at c.in_err-neighbours.ensures))

pub put-requires-clause-fits : goal.put-requires-clause-fits
put-requires-clause-fits c =
    let ids = c.args.ids.now in
    let alike = c.requires.alike in
    let done = rw (up_to_end ids 1) at c.in_ok-neighbours.ensures in
    rw (c.new.ensures ∙ done.listed ∙ ap (λ t. t ++ done.ids) c.new-parts.ensures.items)
    (neighbours_boolean c.args.table.now c.neighbours.new.table (get_or ids 0 0) (drop 1 ids) done.ids alike.sort c.len-before.ensures.valid (alike.each 0 0 (omega (arith, c.requires.some)))
    (others_all c.args.table.now alike.sort ids alike.each) (omega (arith, length-drop 1 ids, c.requires.some)) done.made done.grows.table)

pub returns : goal.returns
returns c =
    let ids = c.args.ids.now in
    let old = c.args.table.now in
    let mid = c.neighbours.new.table in
    let many : 2 < length ids = omega (arith, c.requires.some, c.if-ids-eq2.false) in
    let done = rw (up_to_end ids 1) at c.in_ok-neighbours.ensures in
    let is = c.new.ensures ∙ done.listed ∙ ap (λ t. t ++ done.ids) c.new-parts.ensures.items in
    makes_after old mid c.put.new.table (applied_made term.Equal old ids) (interned mid (node.And c.new.result)) c.put.result done.grows
    (rw is (equal_many ids old many ∙ conjoined_then (neighbours old (get_or ids 0 0) (drop 1 ids)) mid done.ids done.made)) c.put.ensures
