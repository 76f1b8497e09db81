use Rattle.std.proofs.Common.{rules, ◌≡◌, ◌≤◌, arith, subst, Ok, Some, None}
use Rattle.ffc_term.specs.Tables.{IsTable}
use Rattle.ffc_making.specs.Machine.{Steps}
use Rattle.ffc_making.proofs.StepLemmas.{can_go, step_done, step_left, step_on, starts, none_left}
use Rattle.ffc_making.proofs.making.Maker.run.Goals as goal

pub loop-init : goal.loop-init
loop-init c = λ n wanted few goes.
    let table : IsTable c.args.table.now = search rules in
    (n, omega (arith, few), goes, starts c.args.table.now table)

pub step-requires : goal.step-requires
step-requires c =
    let i = c.loop.invariant c.requires.steps c.requires.wanted c.requires.few c.requires.goes in
    can_go c.args.symbols.now.terms c.requires.wanted i.0 c.loop.table c.loop.self i.2

pub returns-in-Ok-Some : goal.returns-in-Ok-Some
returns-in-Ok-Some c = λ n wanted few goes.
    let i = c.loop.invariant n wanted few goes in
    let found : c.in-Ok-Some.field-0 ≡ Some c.in-Ok-Some.id = search rules in
    step_done c.args.symbols.now.terms wanted i.0 c.args.table.now c.loop.table c.step.new.table c.loop.self c.in-Ok-Some.id i.2 i.3
    (λ k g. subst (λ r. Steps k c.args.symbols.now.terms wanted c.loop.table c.step.new.table c.step.new.self (Ok r)) found (c.in-Ok-Some.ensures k wanted g))

pub returns-in-Err : goal.returns-in-Err
returns-in-Err c = λ n wanted few goes.
    let i = c.loop.invariant n wanted few goes in
    step_left c.args.symbols.now.terms wanted i.0 c.args.table.now c.loop.table c.step.new.table c.loop.self c.in-Err.stop i.2 i.3 (λ k g. c.in-Err.ensures k wanted g)

pub loop-preserved : goal.loop-preserved
loop-preserved c = λ n wanted few goes.
    let i = c.loop.invariant n wanted few goes in
    let none : c.in-Ok-None.field-0 ≡ None = search rules in
    step_on c.args.symbols.now.terms wanted i.0 c.loop.counter c.args.steps c.args.table.now c.loop.table c.step.new.table c.loop.self c.step.new.self i.1 i.2 i.3
    (λ k g. subst (λ r. Steps k c.args.symbols.now.terms wanted c.loop.table c.step.new.table c.step.new.self (Ok r)) none (c.in-Ok-None.ensures k wanted g))

pub returns : goal.returns
returns c = λ n wanted few goes.
    let i = c.loop.invariant n wanted few goes in
    let past : c.args.steps ≤ c.loop.counter = search rules in
    none_left c.args.symbols.now.terms wanted i.0 c.loop.counter c.args.steps c.loop.table c.loop.self i.1 past i.2
