use Rattle.std.proofs.lemmas.Result.{err_from_is_err_and}
use Rattle.ffc_smt.specs.Making.{interned, equality, difference}
use Rattle.ffc_term.specs.declared.node.Node.TheVariants as node
use Rattle.ffc_parts.proofs.GrowingLemmas.{makes_after, left_of_whole, equality_at, difference_then, difference_begins}
use Rattle.ffc_parts.proofs.applying.difference.Goals as goal

pub returns-in_err-equal : goal.returns-in_err-equal
returns-in_err-equal c =
    let p = err_from_is_err_and c.from_residual.result c.from_residual.ensures.1 in
    let ns = c.args.table.now in
    rw (p.1, p.2)
    (left_of_whole ns c.equality.new.table (equality ns c.args.a c.args.b) (difference ns c.args.a c.args.b) c.in_err-equal.field-0.0 (difference_begins ns c.args.a c.args.b) c.in_err-equal.ensures)

pub put-requires-clause-fits : goal.put-requires-clause-fits
put-requires-clause-fits c = equality_at c.args.table.now c.equality.new.table c.args.a c.args.b c.in_ok-equal.equal c.in_ok-equal.ensures.made

pub returns : goal.returns
returns c =
    let ns = c.args.table.now in
    let mid = c.equality.new.table in
    let done = c.in_ok-equal.ensures in
    makes_after ns mid c.put.new.table (difference ns c.args.a c.args.b) (interned mid (node.Not c.in_ok-equal.equal)) c.put.result done.grows (difference_then ns mid c.args.a c.args.b c.in_ok-equal.equal done.made) c.put.ensures
