use Rattle.std.proofs.Common.{subst, arith}
use Rattle.ffc_check.specs.Judged.{judged_check}
use Rattle.ffc_combination.specs.Attempts.{IsUnpaid}
use Rattle.ffc_combination.specs.Search.{AreExcluded, IsOutcomeOfBoth, units_of_both}
use Rattle.ffc_combination.proofs.SearchLemmas.{bounded, searched_more, searched_waits, unpaid_ends, search_ends}
use Rattle.ffc_combination.proofs.search.searched.Goals as goal

pub returns-in-Unpaid-clause-none : goal.returns-in-Unpaid-clause-none
returns-in-Unpaid-clause-none g c _ =
    let p = g.F.Field.ORDER in
    let check = judged_check c.args.check.now in
    let x = c.args.choices.now in
    let d = c.loop-degree.degree in
    let unpaid : IsUnpaid (units_of_both d x) c.loop-degree.meter = subst (IsOutcomeOfBoth check p d x c.loop-degree.meter) c.in-Unpaid.is c.in_ok-found.ensures.answer in
    unpaid_ends p check.nodes x 2 d c.args.meter.now c.loop-degree.meter (omega arith) c.loop-degree.auto.degree c.loop-degree.invariant.searched unpaid

pub loop-degree-preserved : goal.loop-degree-preserved
loop-degree-preserved g c =
    let p = g.F.Field.ORDER in
    let check = judged_check c.args.check.now in
    let x = c.args.choices.now in
    let d = c.loop-degree.degree in
    let excluded : AreExcluded p check.nodes d x = subst (IsOutcomeOfBoth check p d x c.loop-degree.meter) c.in-Excluded.is c.in_ok-found.ensures.answer in
    record {
      equations = c.in_ok-found.ensures.equations;
      all = c.in_ok-found.ensures.all;
      searched = searched_more p check.nodes x 2 d c.args.meter.now c.loop-degree.meter c.tried_both.new.meter c.loop-degree.auto.degree c.loop-degree.invariant.searched c.tried_both.ensures.units excluded;
    }

pub loop-degree-preserved-then-waits : goal.loop-degree-preserved-then-waits
loop-degree-preserved-then-waits g c = record {
  equations = c.loop-degree.invariant.equations;
  all = c.loop-degree.invariant.all;
  searched = searched_waits (judged_check c.args.check.now) g.F.Field.ORDER c.args.reasons.now c.args.choices.now 2 c.loop-degree.degree c.left.result c.args.meter.now c.loop-degree.meter g.met.F.Field.prime.least
      c.loop-degree.auto.degree c.requires.choices c.loop-degree.invariant.searched (c.waits.ensures c.if-waits.true) c.left.ensures;
}

pub returns-clause-none : goal.returns-clause-none
returns-clause-none g c _ =
    search_ends g.F.Field.ORDER c.args.check.now.table.now c.args.choices.now 2 c.loop-degree.degree c.args.meter.now c.loop-degree.meter (omega arith) (omega (arith, c.loop-degree-test.false)) c.loop-degree.invariant.searched

pub waits-requires-clause-bounded : goal.waits-requires-clause-bounded
waits-requires-clause-bounded g c = bounded (judged_check c.args.check.now) g.F.Field.ORDER c.args.reasons.now c.args.choices.now c.requires.choices
