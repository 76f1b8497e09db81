use Rattle.std.proofs.Common.{rules, ◌≡◌, [], arith, sym, subst, Ok, Some, None}
use Rattle.ffc_smt.specs.Making.{made}
use Rattle.ffc_making.specs.Machine.{GoesOn, Runs}
use Rattle.ffc_making.proofs.RunLemmas.{code_goes}
use Rattle.ffc_making.proofs.making.make.Goals as goal

pub run-requires : goal.run-requires
run-requires c =
    let t = c.requires.0 in
    let r = code_goes c.args.table.now c.args.symbols.now.terms t c.args.limit c.args.code.now c.requires.1 in
    let few = r.1 in
    record {
      steps = r.0;
      wanted = made [] c.args.table.now t;
      few = omega (arith, few);
      goes = subst (λ w. GoesOn r.0 c.args.symbols.now.terms (made [] c.args.table.now t) c.args.table.now w) (sym c.new-maker.ensures) r.2;
    }

pub returns-in-Ok-Some : goal.returns-in-Ok-Some
returns-in-Ok-Some c = λ t is.
    let r = code_goes c.args.table.now c.args.symbols.now.terms t c.args.limit c.args.code.now is in
    let few = r.1 in
    let wanted = made [] c.args.table.now t in
    let goes = subst (λ w. GoesOn r.0 c.args.symbols.now.terms wanted c.args.table.now w) (sym c.new-maker.ensures) r.2 in
    let found : c.in-Ok-Some.field-0 ≡ Some c.in-Ok-Some.id = search rules in
    subst (λ x. Runs wanted c.args.table.now c.run.new.table (Ok x)) found (c.in-Ok-Some.ensures r.0 wanted (omega (arith, few)) goes)

pub unreachable-requires : goal.unreachable-requires
unreachable-requires c =
    let t = c.requires.0 in
    let r = code_goes c.args.table.now c.args.symbols.now.terms t c.args.limit c.args.code.now c.requires.1 in
    let few = r.1 in
    let wanted = made [] c.args.table.now t in
    let goes = subst (λ w. GoesOn r.0 c.args.symbols.now.terms wanted c.args.table.now w) (sym c.new-maker.ensures) r.2 in
    let none : c.in-Ok-None.field-0 ≡ None = search rules in
    subst (λ x. Runs wanted c.args.table.now c.run.new.table (Ok x)) none (c.in-Ok-None.ensures r.0 wanted (omega (arith, few)) goes)

pub returns : goal.returns
returns c = λ t is.
    let r = code_goes c.args.table.now c.args.symbols.now.terms t c.args.limit c.args.code.now is in
    let few = r.1 in
    let wanted = made [] c.args.table.now t in
    let goes = subst (λ w. GoesOn r.0 c.args.symbols.now.terms wanted c.args.table.now w) (sym c.new-maker.ensures) r.2 in
    c.in-Err.ensures r.0 wanted (omega (arith, few)) goes
