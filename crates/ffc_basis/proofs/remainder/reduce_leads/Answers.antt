use Rattle.ffc_line.specs.Lines.{polys_of}
use Rattle.ffc_basis.specs.Remainders.{whole_of}
use Rattle.ffc_basis.proofs.Lists.{always_on_err}
use Rattle.ffc_basis.proofs.SplitLemmas.{stays_bounded}
use Rattle.ffc_basis.proofs.UnitLemmas.{takes_nothing, takes_both}
use Rattle.ffc_basis.proofs.remainder.reduce_leads.Goals as goal

pub loop-init : goal.loop-init
loop-init g c = record {
  split = c.requires.split;
  reduced = c.requires.reduced;
  continues = λ poly old h. h;
  multiples = c.requires.multiples;
  takes = takes_nothing c.args.meter.now;
}

pub loop-preserved : goal.loop-preserved
loop-preserved g c = record {
  split = c.in_ok-reduce_lead.ensures.split;
  reduced = c.in_ok-reduce_lead.ensures.reduced;
  continues = λ poly old h. c.in_ok-reduce_lead.ensures.continues poly old (c.loop.invariant.continues poly old h);
  multiples = c.in_ok-reduce_lead.ensures.multiples;
  takes = takes_both c.args.meter.now c.loop.meter c.reduce_lead.new.meter c.loop.invariant.takes c.reduce_lead.ensures.takes;
}

pub returns-in_err-reduce_lead-clause-bound : goal.returns-in_err-reduce_lead-clause-bound
returns-in_err-reduce_lead-clause-bound g c =
    let value = g.F.Field.value in
    always_on_err c.from_residual.result
    (stays_bounded g.F.Field.ORDER g.O.MonoOrder.cmp (polys_of c.args.lines.now) (whole_of value c.args.rest.now) (whole_of value c.loop.rest) c.args.parts.now c.loop.parts c.args.meter.now c.loop.meter c.reduce_lead.new.meter
    c.loop.invariant.continues c.loop.invariant.takes c.in_err-reduce_lead.ensures.unpaid)

pub returns-then-not-branch-clause-continues : goal.returns-then-not-branch-clause-continues
returns-then-not-branch-clause-continues g c = λ poly old h. c.in_ok-reduce_lead.ensures.continues poly old (c.loop.invariant.continues poly old h)
