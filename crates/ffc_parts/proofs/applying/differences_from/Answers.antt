use Rattle.std.proofs.Common.{◌+◌, [], ◌∷◌, drop, get_or, sym, ◌∙◌, subst}
use Rattle.std.proofs.lemmas.Result.{err_from_is_err_and}
use Rattle.ffc_smt.specs.Making.{AllMade, difference, differences_from}
use Rattle.ffc_smt.proofs.Extends.{Extends}
use Rattle.ffc_parts.specs.Growing.{IsGoing}
use Rattle.ffc_parts.proofs.GrowingLemmas.{grows_further, sort_at_stays, all_at_stays, going_more, going_ends, going_left, left_all_memory, differences_from_then, differences_from_begins, differences_from_goes, differences_from_ends}
use Rattle.ffc_parts.proofs.applying.differences_from.Goals as goal

pub returns-in_err-differs : goal.returns-in_err-differs
returns-in_err-differs c =
    let p = err_from_is_err_and c.from_residual.result c.from_residual.ensures.1 in
    let mid = c.loop-b.table in
    let a = c.args.a in
    let rest = c.args.rest.now in
    let i = c.loop-b.b-index in
    let b = get_or rest i 0 in
    let now = differences_from mid a (drop i rest) in
    let part = difference mid a b in
    rw (p.1, p.2)
    (going_left c.args.table.now mid c.difference.new.table (differences_from c.args.table.now c.args.a rest) now c.args.parts.now.items c.loop-b.parts.items part c.in_err-differs.field-0.0 c.loop-b.invariant.going
    (subst (λ (m : AllMade). Extends part.nodes m.nodes) (sym (differences_from_goes mid a rest i c.loop-b-test.true)) (differences_from_begins mid a b (drop (i + 1) rest))) c.in_err-differs.ensures)

pub returns-in_err-push : goal.returns-in_err-push
returns-in_err-push c =
    let p = err_from_is_err_and c.from_residual-in_err-push.result c.from_residual-in_err-push.ensures.1 in
    let mid = c.loop-b.table in
    rw (p.1, p.2)
    (left_all_memory c.args.table.now c.difference.new.table (differences_from c.args.table.now c.args.a c.args.rest.now) (grows_further c.args.table.now mid c.difference.new.table c.loop-b.invariant.going.grows c.in_ok-differs.ensures.grows))

pub loop-b-preserved : goal.loop-b-preserved
loop-b-preserved c =
    let mid = c.loop-b.table in
    let new = c.difference.new.table in
    let a = c.args.a in
    let rest = c.args.rest.now in
    let i = c.loop-b.b-index in
    let b = get_or rest i 0 in
    let done = c.in_ok-differs.ensures in
    let id = c.in_ok-differs.differs in
    let alike = c.loop-b.invariant.alike in
    record {
      going =
          going_more c.args.table.now mid new (differences_from c.args.table.now c.args.a rest) (differences_from mid a (drop i rest)) (differences_from new a (drop (i + 1) rest)) c.args.parts.now.items c.loop-b.parts.items c.push.new.self.items (id ∷ [])
          c.loop-b.invariant.going done.grows (differences_from_goes mid a rest i c.loop-b-test.true ∙ differences_from_then mid new a b id (drop (i + 1) rest) done.made) c.in_ok-push.ensures.items;
      alike = record {
        sort = alike.sort;
        first = sort_at_stays mid new alike.sort a done.grows alike.first;
        others = all_at_stays mid new alike.sort rest done.grows alike.others;
      };
    }

pub returns : goal.returns
returns c =
    let now = c.loop-b.table in
    going_ends c.args.table.now now (differences_from c.args.table.now c.args.a c.args.rest.now) c.args.parts.now.items c.loop-b.parts.items
    (subst (λ (m : AllMade). IsGoing c.args.table.now now (differences_from c.args.table.now c.args.a c.args.rest.now) m c.args.parts.now.items c.loop-b.parts.items)
    (differences_from_ends now (c.args.a) c.args.rest.now c.loop-b.b-index c.loop-b-test.false) c.loop-b.invariant.going)
