use Rattle.std.proofs.Common.{List, ◌+◌, drop, sym, subst, arith}
use Rattle.std.proofs.lemmas.List.{drop_all}
use Rattle.ffc_elab.specs.declared.answers.Asked.{Asked}
use Rattle.ffc_elab.proofs.AskedNodeLemmas.{IsMakingSoFar, a, drop_here, making_starts, next_now, making_goes_on, making_stops, making_ends}
use Rattle.ffc_elab.proofs.asked_nodes.make_each.Goals as goal

pub loop-term-init : goal.loop-term-init
loop-term-init c = λ asked h.
    subst (λ (v : List Asked). IsMakingSoFar c.args.words.now c.args.table.now c.args.table.now c.args.symbols.now asked c.args.terms.now v) (sym c.new-asked.ensures.items)
    (making_starts c.args.words.now c.args.table.now c.args.symbols.now asked c.args.terms.now h)

pub make_one-requires : goal.make_one-requires
make_one-requires c =
    let asked = c.requires.0 in
    let h = c.requires.1 in
    let words = c.args.words.now in
    let old = c.args.table.now in
    let symbols = c.args.symbols.now in
    let terms = c.args.terms.now in
    let i = c.loop-term.term-index in
    let split = drop_here terms i c.term-item.result c.loop-term-test.true c.term-item.is in
    let g = c.loop-term.invariant asked h in (
      a words old symbols asked terms h c.loop-term.table (drop i terms) c.loop-term.asked.items g c.term-item.result (drop (i + 1) terms) split,
      next_now words old symbols asked terms h c.loop-term.table (drop i terms) c.loop-term.asked.items g c.term-item.result (drop (i + 1) terms) split,
    )

pub returns-in-Err : goal.returns-in-Err
returns-in-Err c = λ asked h.
    let words = c.args.words.now in
    let old = c.args.table.now in
    let symbols = c.args.symbols.now in
    let terms = c.args.terms.now in
    let i = c.loop-term.term-index in
    let split = drop_here terms i c.term-item.result c.loop-term-test.true c.term-item.is in
    let g = c.loop-term.invariant asked h in
    making_stops words old symbols asked terms h c.loop-term.table (drop i terms) c.loop-term.asked.items g c.term-item.result (drop (i + 1) terms) split c.make_one.new.table c.in-Err.stop
    (c.in-Err.ensures (a words old symbols asked terms h c.loop-term.table (drop i terms) c.loop-term.asked.items g c.term-item.result (drop (i + 1) terms) split)
    (next_now words old symbols asked terms h c.loop-term.table (drop i terms) c.loop-term.asked.items g c.term-item.result (drop (i + 1) terms) split))

pub loop-term-preserved : goal.loop-term-preserved
loop-term-preserved c = λ asked h.
    let words = c.args.words.now in
    let old = c.args.table.now in
    let symbols = c.args.symbols.now in
    let terms = c.args.terms.now in
    let i = c.loop-term.term-index in
    let split = drop_here terms i c.term-item.result c.loop-term-test.true c.term-item.is in
    let g = c.loop-term.invariant asked h in
    making_goes_on words old symbols asked terms h c.loop-term.table (drop i terms) c.loop-term.asked.items g c.term-item.result (drop (i + 1) terms) split c.make_one.new.table c.make_one.new.asked.items
    (c.in-Ok.ensures (a words old symbols asked terms h c.loop-term.table (drop i terms) c.loop-term.asked.items g c.term-item.result (drop (i + 1) terms) split)
    (next_now words old symbols asked terms h c.loop-term.table (drop i terms) c.loop-term.asked.items g c.term-item.result (drop (i + 1) terms) split))

pub returns : goal.returns
returns c = λ asked h.
    let terms = c.args.terms.now in
    making_ends c.args.words.now c.args.table.now c.args.symbols.now asked terms h c.loop-term.table (drop c.loop-term.term-index terms) c.loop-term.asked.items (c.loop-term.invariant asked h)
    (drop_all c.loop-term.term-index terms (omega (arith, c.loop-term-test.false)))
