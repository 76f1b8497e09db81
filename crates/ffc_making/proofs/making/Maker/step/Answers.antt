use Rattle.std.proofs.Common.{rules, suc, sym, ap, ◌∙◌, subst}
use Rattle.ffc_term.specs.Tables.{IsTable}
use Rattle.ffc_making.specs.Machine.{GoesOn, Making}
use Rattle.ffc_making.proofs.StepLemmas.{taken_goes}
use Rattle.ffc_making.proofs.making.Maker.step.Goals as goal

pub act-requires : goal.act-requires
act-requires c = record {
  steps = c.requires.steps;
  wanted = c.requires.wanted;
  goes = taken_goes c.args.symbols.now.terms c.requires.wanted c.requires.steps c.args.table.now c.args.self.now c.next.new.self c.in-Some.op c.in-Some.ensures.0 c.in-Some.ensures.1 c.requires.goes;
}

pub returns-in-None : goal.returns-in-None
returns-in-None c = λ n wanted goes.
    let table : IsTable c.args.table.now = search rules in
    c.end.ensures n c.args.symbols.now.terms wanted c.args.table.now table (ap (λ (w : Making). w.rest) c.in-None.ensures.1 ∙ c.in-None.ensures.0)
    (subst (λ w. GoesOn (suc n) c.args.symbols.now.terms wanted c.args.table.now w) (sym c.in-None.ensures.1) goes)

pub returns-in-Ok : goal.returns-in-Ok
returns-in-Ok c = λ n wanted goes.
    c.in-Ok.ensures n wanted (taken_goes c.args.symbols.now.terms wanted n c.args.table.now c.args.self.now c.next.new.self c.in-Some.op c.in-Some.ensures.0 c.in-Some.ensures.1 goes)

pub returns-in-Err : goal.returns-in-Err
returns-in-Err c = λ n wanted goes.
    c.in-Err.ensures n wanted (taken_goes c.args.symbols.now.terms wanted n c.args.table.now c.args.self.now c.next.new.self c.in-Some.op c.in-Some.ensures.0 c.in-Some.ensures.1 goes)
