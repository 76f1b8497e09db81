use Rattle.std.proofs.Common.{◌≡◌, [], ◌∷◌, arith, refl, ◌∙◌}
use Rattle.std.proofs.lemmas.Result.{err_from_is_err_and}
use Rattle.ffc_term.specs.declared.node.Node.TheVariants as node
use Rattle.ffc_term.specs.declared.node.Sort.TheVariants as sort
use Rattle.ffc_smt.specs.Making.{interned, implication}
use Rattle.ffc_smt.proofs.TableMaking.{booleans}
use Rattle.ffc_parts.proofs.GrowingLemmas.{makes_after, left_of_whole, sort_at_stays, bool_at, implication_then, implication_begins}
use Rattle.ffc_parts.proofs.applying.implication.Goals as goal

pub returns-in_err-negated : goal.returns-in_err-negated
returns-in_err-negated c =
    let p = err_from_is_err_and c.from_residual.result c.from_residual.ensures.1 in
    let ns = c.args.table.now in
    rw (p.1, p.2)
    (left_of_whole ns c.put.new.table (interned ns (node.Not c.args.a)) (implication ns c.args.a c.args.b) c.in_err-negated.field-0.0 (implication_begins ns c.args.a c.args.b) c.in_err-negated.ensures)

pub put-requires-2-clause-fits : goal.put-requires-2-clause-fits
put-requires-2-clause-fits c =
    let ns = c.args.table.now in
    let mid = c.put.new.table in
    let id = c.in_ok-negated.negated in
    let done = c.in_ok-negated.ensures in
    let is : c.new.result ≡ id ∷ c.args.b ∷ [] = c.new.ensures ∙ c.in_ok-parts.ensures.items in
    rw is
    (booleans (id ∷ c.args.b ∷ []) mid (omega arith)
    (bool_at ns mid (node.Not c.args.a) id done.made (λ ss. refl), (sort_at_stays ns mid sort.Bool c.args.b done.grows c.requires.second, tt)))

pub returns : goal.returns
returns c =
    let ns = c.args.table.now in
    let mid = c.put.new.table in
    let id = c.in_ok-negated.negated in
    let done = c.in_ok-negated.ensures in
    let is : c.new.result ≡ id ∷ c.args.b ∷ [] = c.new.ensures ∙ c.in_ok-parts.ensures.items in
    makes_after ns mid c.put-2.new.table (implication ns c.args.a c.args.b) (interned mid (node.Or c.new.result)) c.put-2.result done.grows
    (rw is (implication_then ns mid c.args.a c.args.b id done.made)) c.put-2.ensures
