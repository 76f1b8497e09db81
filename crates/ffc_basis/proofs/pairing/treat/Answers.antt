use Rattle.std.proofs.Common.{List, length, sym, ap, subst, arith}
use Rattle.ffc_line.specs.declared.line.Line.{Line}
use Rattle.ffc_dense.specs.Tables.{AreMultiplesOf}
use Rattle.ffc_basis.specs.PairTable.{AreRecords}
use Rattle.ffc_basis.specs.Units.{IsPairBound}
use Rattle.ffc_basis.proofs.BoundLemmas.{one_pair, no_pairs}
use Rattle.ffc_line.specs.Lines.{polys_of, AreLists}
use Rattle.ffc_basis.proofs.FewLemmas.{pending_within}
use Rattle.ffc_basis.proofs.KeptLemmas.{multiples_in_front}
use Rattle.ffc_basis.proofs.Lists.{length-polys}
use Rattle.ffc_basis.proofs.PairTableLemmas.{record_is}
use Rattle.ffc_basis.proofs.pairing.treat.Goals as goal

pub outcome_of-requires-clause-first : goal.outcome_of-requires-clause-first
outcome_of-requires-clause-first g c =
    let ls = c.args.lines.now.items in
    let pairing = c.args.pairing.now in
    let r = record_is g.F.Field.ORDER g.O.MonoOrder.cmp (polys_of ls) pairing.records.items pairing.paired c.args.place c.index-pair.result.now c.requires.pairs (pending_within pairing.records.items c.args.place c.requires.pending) (sym c.index-pair.ensures) in
    omega (arith, r.ordered, r.within, length-polys ls, ap length c.as_slice.ensures.value)

pub outcome_of-requires-clause-second : goal.outcome_of-requires-clause-second
outcome_of-requires-clause-second g c =
    let ls = c.args.lines.now.items in
    let pairing = c.args.pairing.now in
    let r = record_is g.F.Field.ORDER g.O.MonoOrder.cmp (polys_of ls) pairing.records.items pairing.paired c.args.place c.index-pair.result.now c.requires.pairs (pending_within pairing.records.items c.args.place c.requires.pending) (sym c.index-pair.ensures) in
    omega (arith, r.within, length-polys ls, ap length c.as_slice.ensures.value)

pub index-pair-requires : goal.index-pair-requires
index-pair-requires g c = omega (arith, pending_within c.args.pairing.now.records.items c.args.place c.requires.pending)

pub settle-requires-clause-within : goal.settle-requires-clause-within
settle-requires-clause-within g c = omega (arith, pending_within c.args.pairing.now.records.items c.args.place c.requires.pending)

pub returns-in_err-take-clause-bound : goal.returns-in_err-take-clause-bound
returns-in_err-take-clause-bound g c =
    no_pairs g.F.Field.ORDER g.O.MonoOrder.cmp (polys_of c.args.lines.now.items) 1 c.args.meter.now c.take.new.self c.in_err-take.ensures.kept

pub returns-in_err-outcome-clause-bound : goal.returns-in_err-outcome-clause-bound
returns-in_err-outcome-clause-bound g c =
    let p = g.F.Field.ORDER in
    let cmp = g.O.MonoOrder.cmp in
    one_pair p cmp (polys_of c.args.lines.now.items) c.args.meter.now c.take.new.self c.outcome_of.new.meter c.in_ok-take.ensures.taken
    (subst (λ (ls : List (Line g.row.F.Denot g.row.O.Denot)). IsPairBound p cmp (polys_of ls) c.take.new.self c.outcome_of.new.meter) c.as_slice.ensures.value c.in_err-outcome.ensures.bound)

pub returns-in_err-settle-clause-bound : goal.returns-in_err-settle-clause-bound
returns-in_err-settle-clause-bound g c =
    let p = g.F.Field.ORDER in
    let cmp = g.O.MonoOrder.cmp in
    one_pair p cmp (polys_of c.args.lines.now.items) c.args.meter.now c.take.new.self c.outcome_of.new.meter c.in_ok-take.ensures.taken
    (subst (λ (ls : List (Line g.row.F.Denot g.row.O.Denot)). IsPairBound p cmp (polys_of ls) c.take.new.self c.outcome_of.new.meter) c.as_slice.ensures.value c.in_ok-outcome.ensures.bound)

pub returns-clause-bound : goal.returns-clause-bound
returns-clause-bound g c =
    let p = g.F.Field.ORDER in
    let cmp = g.O.MonoOrder.cmp in
    one_pair p cmp (polys_of c.args.lines.now.items) c.args.meter.now c.take.new.self c.outcome_of.new.meter c.in_ok-take.ensures.taken
    (subst (λ (ls : List (Line g.row.F.Denot g.row.O.Denot)). IsPairBound p cmp (polys_of ls) c.take.new.self c.outcome_of.new.meter) c.as_slice.ensures.value c.in_ok-outcome.ensures.bound)

pub outcome_of-requires-clause-records : goal.outcome_of-requires-clause-records
outcome_of-requires-clause-records g c =
    let p = g.F.Field.ORDER in
    let cmp = g.O.MonoOrder.cmp in
    let pairing = c.args.pairing.now in
    subst (λ (ls : List (Line g.row.F.Denot g.row.O.Denot)). AreRecords p cmp (polys_of ls) c.as_slice-2.result.now) (sym c.as_slice.ensures.value)
    (subst (AreRecords p cmp (polys_of c.args.lines.now.items)) (sym c.as_slice-2.ensures.value) c.requires.pairs.records)

pub outcome_of-requires-clause-lists : goal.outcome_of-requires-clause-lists
outcome_of-requires-clause-lists g c =
    subst (λ (ls : List (Line g.row.F.Denot g.row.O.Denot)). AreLists (polys_of ls)) (sym c.as_slice.ensures.value) c.requires.pairs.lists

pub outcome_of-requires-clause-table : goal.outcome_of-requires-clause-table
outcome_of-requires-clause-table g c =
    subst (λ (ls : List (Line g.row.F.Denot g.row.O.Denot)). AreMultiplesOf g.F.Field.ORDER (polys_of ls) c.args.table.now.1) (sym c.as_slice.ensures.value) c.requires.table

pub returns-in_err-outcome-clause-table : goal.returns-in_err-outcome-clause-table
returns-in_err-outcome-clause-table g c =
    subst (λ (ls : List (Line g.row.F.Denot g.row.O.Denot)). AreMultiplesOf g.F.Field.ORDER (polys_of ls) c.outcome_of.new.table.1) c.as_slice.ensures.value c.outcome_of.ensures.table

pub returns-in_err-settle-clause-table : goal.returns-in_err-settle-clause-table
returns-in_err-settle-clause-table g c =
    multiples_in_front g.F.Field.ORDER g.O.MonoOrder.cmp c.args.lines.now.items c.settle.new.lines.items c.outcome_of.new.table.1 c.settle.ensures.front
    (subst (λ (ls : List (Line g.row.F.Denot g.row.O.Denot)). AreMultiplesOf g.F.Field.ORDER (polys_of ls) c.outcome_of.new.table.1) c.as_slice.ensures.value c.outcome_of.ensures.table)

pub returns-clause-table : goal.returns-clause-table
returns-clause-table g c =
    multiples_in_front g.F.Field.ORDER g.O.MonoOrder.cmp c.args.lines.now.items c.settle.new.lines.items c.outcome_of.new.table.1 c.settle.ensures.front
    (subst (λ (ls : List (Line g.row.F.Denot g.row.O.Denot)). AreMultiplesOf g.F.Field.ORDER (polys_of ls) c.outcome_of.new.table.1) c.as_slice.ensures.value c.outcome_of.ensures.table)
