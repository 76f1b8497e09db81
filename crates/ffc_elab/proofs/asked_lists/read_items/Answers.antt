use Rattle.std.proofs.Common.{refl, subst, arith}
use Rattle.ffc_elab.specs.AskedLists.{GoesOn, listed_read}
use Rattle.ffc_elab.proofs.AskedFaultLemmas.{listed_inside}
use Rattle.ffc_elab.proofs.AskedListLemmas.{starts, ends, stopped}
use Rattle.ffc_elab.proofs.asked_lists.read_items.Goals as goal

pub loop-init : goal.loop-init
loop-init c = λ nodes s items closing rest scope at order.
    starts nodes c.args.symbols.now c.args.words.now (listed_read c.args.listed s) (listed_inside c.args.listed s) items closing rest
    (record { terms = c.new.result; weight = 0; next = c.args.at }) c.new.ensures.items refl at order

pub returns-in-Err : goal.returns-in-Err
returns-in-Err c = λ nodes s items closing rest scope at order.
    let symbols = c.args.symbols.now in
    let words = c.args.words.now in
    let read = listed_read c.args.listed s in
    stopped nodes symbols words read (listed_inside c.args.listed s) items closing rest c.loop.counter c.read_next.new.self c.in-Err.stop
    (subst (GoesOn nodes symbols words read items closing rest c.loop.counter c.read_next.new.self) c.in-Err.is
    (c.read_next.ensures nodes s items closing rest scope c.loop.counter (c.loop.invariant nodes s items closing rest scope at order)))

pub returns : goal.returns
returns c = λ nodes s items closing rest scope at order.
    ends nodes c.args.symbols.now c.args.words.now (listed_read c.args.listed s) (listed_inside c.args.listed s) items closing rest c.loop.counter c.loop.list
    (omega (arith, c.loop-test.false, c.len-end.ensures)) (c.loop.invariant nodes s items closing rest scope at order)
