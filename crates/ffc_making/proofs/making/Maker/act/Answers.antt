use Rattle.std.proofs.Common.{rules, ◌≡◌, ◌++◌, ◌∷◌, [], true, false, subst}
use Rattle.ffc_term.specs.declared.node.Node.TheVariants as node
use Rattle.ffc_smt.specs.Making.{interned, applied_made}
use Rattle.ffc_parts.specs.Operators.{operator_of}
use Rattle.ffc_terms.specs.declared.codes.Op.TheVariants as op
use Rattle.ffc_making.specs.Machine.{Goes, GoesOn, making, waiting}
use Rattle.ffc_making.proofs.StepLemmas.{put_acts}
use Rattle.ffc_making.proofs.making.Maker.act.Goals as goal

pub call-requires : goal.call-requires
call-requires c =
    let is : c.args.op ≡ op.Call c.in-Call.place c.in-Call.count = search rules in
    let g = subst (λ o. Goes (GoesOn c.requires.steps c.args.symbols.now.terms c.requires.wanted) c.args.symbols.now.terms c.requires.wanted c.args.table.now c.args.self.now (o ∷ c.args.self.now.rest)) is c.requires.goes in
    (g.callee, g.there)

pub returns-in-Truth-true : goal.returns-in-Truth-true
returns-in-Truth-true c = λ n wanted goes.
    let is : c.args.op ≡ op.Truth true = search rules in
    let g = subst (λ o. Goes (GoesOn n c.args.symbols.now.terms wanted) c.args.symbols.now.terms wanted c.args.table.now c.args.self.now (o ∷ c.args.self.now.rest)) is goes in
    put_acts c.args.symbols.now.terms wanted n c.args.table.now c.put_new.new.table (interned c.args.table.now node.True)
    (waiting c.args.self.now.rest (interned c.args.table.now node.True).id c.args.self.now) c.put_new.new.self c.put_new.result g c.put_new.ensures

pub returns-in-Truth-false : goal.returns-in-Truth-false
returns-in-Truth-false c = λ n wanted goes.
    let is : c.args.op ≡ op.Truth false = search rules in
    let g = subst (λ o. Goes (GoesOn n c.args.symbols.now.terms wanted) c.args.symbols.now.terms wanted c.args.table.now c.args.self.now (o ∷ c.args.self.now.rest)) is goes in
    put_acts c.args.symbols.now.terms wanted n c.args.table.now c.put_new-in-Truth-false.new.table (interned c.args.table.now node.False)
    (waiting c.args.self.now.rest (interned c.args.table.now node.False).id c.args.self.now) c.put_new-in-Truth-false.new.self c.put_new-in-Truth-false.result g c.put_new-in-Truth-false.ensures

pub returns-in-Number : goal.returns-in-Number
returns-in-Number c = λ n wanted goes.
    let is : c.args.op ≡ op.Number c.in-Number.n c.in-Number.p = search rules in
    let g = subst (λ o. Goes (GoesOn n c.args.symbols.now.terms wanted) c.args.symbols.now.terms wanted c.args.table.now c.args.self.now (o ∷ c.args.self.now.rest)) is goes in
    put_acts c.args.symbols.now.terms wanted n c.args.table.now c.put_new-in-Number.new.table (interned c.args.table.now (node.Num c.in-Number.n c.in-Number.p))
    (waiting c.args.self.now.rest (interned c.args.table.now (node.Num c.in-Number.n c.in-Number.p)).id c.args.self.now) c.put_new-in-Number.new.self c.put_new-in-Number.result g.1 c.put_new-in-Number.ensures

pub returns-in-Apply : goal.returns-in-Apply
returns-in-Apply c = λ n wanted goes.
    let is : c.args.op ≡ op.Apply c.in-Apply.f c.in-Apply.count = search rules in
    let g = subst (λ o. Goes (GoesOn n c.args.symbols.now.terms wanted) c.args.symbols.now.terms wanted c.args.table.now c.args.self.now (o ∷ c.args.self.now.rest)) is goes in
    let m = applied_made (operator_of c.in-Apply.f) c.args.table.now g.ids in
    put_acts c.args.symbols.now.terms wanted n c.args.table.now c.apply_last.new.table m
    (making c.args.self.now.rest c.args.self.now.base c.args.self.now.calls (g.kept ++ m.id ∷ []) c.args.self.now.locals) c.apply_last.new.self c.apply_last.result g.next (c.apply_last.ensures g.kept g.ids g.last)
