use Rattle.std.proofs.Common.{inr}
use Rattle.ffc_elab.proofs.MakingLemmas.{read_code, light_weight}
use Rattle.ffc_elab.proofs.store.Store.term_node.Goals as goal

pub returns-in-Ok-clause-fits : goal.returns-in-Ok-clause-fits
returns-in-Ok-clause-fits c = λ t is.
    let x = c.args.self.now in
    let read = c.args.term.now in
    (light_weight t read.weight is.weight_is c.if-term-gt-MOST_WEIGHT.false, c.in-Ok.ensures.made t (read_code x.table x.symbols.terms t read c.deref.result.now c.deref.ensures.value c.if-term-gt-MOST_WEIGHT.false is))

pub returns-in-Err-Memory-clause-fits : goal.returns-in-Err-Memory-clause-fits
returns-in-Err-Memory-clause-fits c = λ t is.
    let x = c.args.self.now in
    let read = c.args.term.now in
    (c.in-Err-Memory.ensures.made t (read_code x.table x.symbols.terms t read c.deref.result.now c.deref.ensures.value c.if-term-gt-MOST_WEIGHT.false is)).same

pub returns-in-Err-Nodes-clause-fits : goal.returns-in-Err-Nodes-clause-fits
returns-in-Err-Nodes-clause-fits c = λ t is.
    let x = c.args.self.now in
    let read = c.args.term.now in
    let left = c.in-Err-Nodes.ensures.made t (read_code x.table x.symbols.terms t read c.deref.result.now c.deref.ensures.value c.if-term-gt-MOST_WEIGHT.false is) in
    (c.fault-in-Err-Nodes.ensures, inr (left.full c.in-Err-Nodes.field-0-is), left.same)
