use Rattle.std.proofs.Common.{◌≡◌, length, sym, ap, ◌∙◌, subst, arith, IfNone, IfSome}
use Rattle.ffc_line.specs.Lines.{polys_of}
use Rattle.ffc_basis.specs.Completed.{IsCompletion}
use Rattle.ffc_basis.specs.PairTable.{ArePairs, AreDone, IsPendingAt, settled_count, over_of, answer_of}
use Rattle.ffc_basis.specs.Units.{IsPairsBound}
use Rattle.ffc_basis.proofs.BoundLemmas.{bound_next, settled_is_bounded, pending_is_bounded}
use Rattle.ffc_basis.proofs.FewLemmas.{few_same}
use Rattle.ffc_basis.proofs.AddedLemmas.{front_both}
use Rattle.ffc_basis.proofs.Lists.{length-polys}
use Rattle.ffc_basis.proofs.PairTableLemmas.{settled_answer_is}
use Rattle.ffc_basis.proofs.UnitLemmas.{takes_both}
use Rattle.ffc_basis.proofs.pairing.advance.Goals as goal

pub returns-in_err-is_due-clause-bound : goal.returns-in_err-is_due-clause-bound
returns-in_err-is_due-clause-bound g c =
    settled_is_bounded g.F.Field.ORDER g.O.MonoOrder.cmp (polys_of c.loop-lines.lines.items) c.loop-lines.pairing.records.items c.loop-lines.pairing.paired c.args.meter.now c.loop-lines.meter
    c.loop-lines.invariant.pairs c.loop-lines.invariant.few c.loop-lines.invariant.bound

pub returns-in_err-next-clause-bound : goal.returns-in_err-next-clause-bound
returns-in_err-next-clause-bound g c =
    settled_is_bounded g.F.Field.ORDER g.O.MonoOrder.cmp (polys_of c.loop-lines.lines.items) c.loop-lines.pairing.records.items c.loop-lines.pairing.paired c.args.meter.now c.loop-lines.meter
    c.loop-lines.invariant.pairs c.loop-lines.invariant.few c.loop-lines.invariant.bound

pub returns-in_err-answer-clause-bound : goal.returns-in_err-answer-clause-bound
returns-in_err-answer-clause-bound g c =
    settled_is_bounded g.F.Field.ORDER g.O.MonoOrder.cmp (polys_of c.loop-lines.lines.items) c.loop-lines.pairing.records.items c.loop-lines.pairing.paired c.args.meter.now c.loop-lines.meter
    c.loop-lines.invariant.pairs c.loop-lines.invariant.few c.loop-lines.invariant.bound

pub returns-in_default-next-clause-bound : goal.returns-in_default-next-clause-bound
returns-in_default-next-clause-bound g c =
    settled_is_bounded g.F.Field.ORDER g.O.MonoOrder.cmp (polys_of c.loop-lines.lines.items) c.loop-lines.pairing.records.items c.loop-lines.pairing.paired c.args.meter.now c.loop-lines.meter
    c.loop-lines.invariant.pairs c.loop-lines.invariant.few c.loop-lines.invariant.bound

pub returns-in_default-next-clause-found : goal.returns-in_default-next-clause-found
returns-in_default-next-clause-found g c =
    let p = g.F.Field.ORDER in
    let cmp = g.O.MonoOrder.cmp in
    let ls = c.loop-lines.lines.items in
    let rs = c.loop-lines.pairing.records.items in
    let paired = c.loop-lines.pairing.paired in
    let all : paired ≡ length (polys_of ls) = c.loop-lines.invariant.paired ∙ sym (length-polys ls) in
    let none : AreDone c.as_slice-in-loop-lines-4.result.now =
    subst (λ o. IfNone o (AreDone c.as_slice-in-loop-lines-4.result.now)) c.in_default-next.is c.in_ok-next.ensures.none in
    let done : AreDone rs = subst AreDone c.as_slice-in-loop-lines-4.ensures.value none in
    subst (IsCompletion p cmp (polys_of ls)) (sym (c.in_ok-answer.ensures ∙ ap (λ x. answer_of (over_of x)) c.as_slice-in_default-next.ensures.value))
    (settled_answer_is p cmp g.met.F.Field.prime g.met.O.MonoOrder.laws (polys_of ls) rs paired all done c.loop-lines.invariant.pairs)

pub returns-in_err-treat-clause-front : goal.returns-in_err-treat-clause-front
returns-in_err-treat-clause-front g c =
    front_both g.F.Field.ORDER g.O.MonoOrder.cmp c.args.lines.now.items c.loop-lines.lines.items c.treat.new.lines.items c.loop-lines.invariant.front c.treat.ensures.front

pub returns-in_err-treat-clause-bound : goal.returns-in_err-treat-clause-bound
returns-in_err-treat-clause-bound g c =
    let p = g.F.Field.ORDER in
    let cmp = g.O.MonoOrder.cmp in
    let rs = c.loop-lines.pairing.records.items in
    let place = c.in-Some-next.place in
    let found : IsPendingAt c.as_slice-in-loop-lines-4.result.now place =
    subst (λ o. IfSome o (IsPendingAt c.as_slice-in-loop-lines-4.result.now)) c.in-Some-next.is c.in_ok-next.ensures.some in
    let pending : IsPendingAt rs place = subst (λ xs. IsPendingAt xs place) c.as_slice-in-loop-lines-4.ensures.value found in
    pending_is_bounded p cmp (polys_of c.treat.new.lines.items) rs c.treat.new.pairing.records.items c.loop-lines.pairing.paired c.treat.new.pairing.paired place c.args.meter.now c.treat.new.meter
    c.treat.ensures.paired c.treat.ensures.pairs pending c.loop-lines.invariant.few
    (bound_next p cmp c.loop-lines.lines.items c.treat.new.lines.items (settled_count rs) c.args.meter.now c.loop-lines.meter c.treat.new.meter c.treat.ensures.front c.loop-lines.invariant.bound c.treat.ensures.bound)

pub returns-then-is_constant_at-clause-front : goal.returns-then-is_constant_at-clause-front
returns-then-is_constant_at-clause-front g c =
    front_both g.F.Field.ORDER g.O.MonoOrder.cmp c.args.lines.now.items c.loop-lines.lines.items c.treat.new.lines.items c.loop-lines.invariant.front c.treat.ensures.front

pub returns-then-is_constant_at-clause-bound : goal.returns-then-is_constant_at-clause-bound
returns-then-is_constant_at-clause-bound g c =
    let p = g.F.Field.ORDER in
    let cmp = g.O.MonoOrder.cmp in
    settled_is_bounded p cmp (polys_of c.treat.new.lines.items) c.treat.new.pairing.records.items c.treat.new.pairing.paired c.args.meter.now c.treat.new.meter c.treat.ensures.pairs
    (few_same c.loop-lines.pairing.records.items c.treat.new.pairing.records.items c.loop-lines.pairing.paired c.treat.new.pairing.paired c.treat.ensures.seconds c.treat.ensures.paired c.loop-lines.invariant.few)
    (subst (λ n. IsPairsBound p cmp (polys_of c.treat.new.lines.items) n c.args.meter.now c.treat.new.meter) (sym c.in_ok-treat.ensures.settled)
    (bound_next p cmp c.loop-lines.lines.items c.treat.new.lines.items (settled_count c.loop-lines.pairing.records.items) c.args.meter.now c.loop-lines.meter c.treat.new.meter c.treat.ensures.front c.loop-lines.invariant.bound c.treat.ensures.bound))

pub returns-in_err-pair_lines-2-clause-front : goal.returns-in_err-pair_lines-2-clause-front
returns-in_err-pair_lines-2-clause-front g c =
    front_both g.F.Field.ORDER g.O.MonoOrder.cmp c.args.lines.now.items c.loop-lines.lines.items c.treat.new.lines.items c.loop-lines.invariant.front c.treat.ensures.front

pub returns-in_err-pair_lines-2-clause-bound : goal.returns-in_err-pair_lines-2-clause-bound
returns-in_err-pair_lines-2-clause-bound g c =
    let p = g.F.Field.ORDER in
    let cmp = g.O.MonoOrder.cmp in
    settled_is_bounded p cmp (polys_of c.treat.new.lines.items) c.treat.new.pairing.records.items c.treat.new.pairing.paired c.args.meter.now c.treat.new.meter c.treat.ensures.pairs
    (few_same c.loop-lines.pairing.records.items c.treat.new.pairing.records.items c.loop-lines.pairing.paired c.treat.new.pairing.paired c.treat.ensures.seconds c.treat.ensures.paired c.loop-lines.invariant.few)
    (subst (λ n. IsPairsBound p cmp (polys_of c.treat.new.lines.items) n c.args.meter.now c.treat.new.meter) (sym c.in_ok-treat.ensures.settled)
    (bound_next p cmp c.loop-lines.lines.items c.treat.new.lines.items (settled_count c.loop-lines.pairing.records.items) c.args.meter.now c.loop-lines.meter c.treat.new.meter c.treat.ensures.front c.loop-lines.invariant.bound c.treat.ensures.bound))

pub loop-lines-preserved : goal.loop-lines-preserved
loop-lines-preserved g c =
    let p = g.F.Field.ORDER in
    let cmp = g.O.MonoOrder.cmp in
    let ls = c.treat.new.lines.items in
    record {
      index = c.treat.ensures.index;
      table = c.treat.ensures.table;
      front = front_both p cmp c.args.lines.now.items c.loop-lines.lines.items ls c.loop-lines.invariant.front c.treat.ensures.front;
      lines = c.treat.ensures.lines;
      pairs = subst (λ xs. ArePairs p cmp (polys_of xs) c.pair_lines-in-loop-lines.new.pairing.records.items c.pair_lines-in-loop-lines.new.pairing.paired) c.as_slice-in-loop-lines-6.ensures.value c.pair_lines-in-loop-lines.ensures.pairs;
      few = c.pair_lines-in-loop-lines.ensures.few;
      bound = subst (λ n. IsPairsBound p cmp (polys_of ls) n c.args.meter.now c.treat.new.meter) (sym (c.pair_lines-in-loop-lines.ensures.settled ∙ c.in_ok-treat.ensures.settled))
          (bound_next p cmp c.loop-lines.lines.items ls (settled_count c.loop-lines.pairing.records.items) c.args.meter.now c.loop-lines.meter c.treat.new.meter c.treat.ensures.front c.loop-lines.invariant.bound c.treat.ensures.bound);
      takes = takes_both c.args.meter.now c.loop-lines.meter c.treat.new.meter c.loop-lines.invariant.takes c.treat.ensures.takes;
      start = c.loop-lines.invariant.start;
      counted = omega (arith, c.count.ensures.count, c.in_ok-treat.ensures.forward, c.loop-lines.invariant.counted);
      paired = c.in_ok-pair_lines-2.ensures.paired ∙ ap length c.as_slice-in-loop-lines-6.ensures.value;
    }

pub returns-clause-bound : goal.returns-clause-bound
returns-clause-bound g c =
    settled_is_bounded g.F.Field.ORDER g.O.MonoOrder.cmp (polys_of c.loop-lines.lines.items) c.loop-lines.pairing.records.items c.loop-lines.pairing.paired c.args.meter.now c.loop-lines.meter
    c.loop-lines.invariant.pairs c.loop-lines.invariant.few c.loop-lines.invariant.bound
