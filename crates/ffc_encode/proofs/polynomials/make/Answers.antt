use Rattle.ffc_encode.proofs.PartLemmas.{keeps_known}
use Rattle.ffc_encode.proofs.LearningLemmas.{now_kept}
use Rattle.ffc_encode.proofs.polynomials.make.Goals as goal

pub returns-clause-known : goal.returns-clause-known
returns-clause-known g c =
    keeps_known g.F.Field.ORDER c.args.table.now c.args.known.now c.insert.new.self c.args.id c.in_ok-found.found c.requires.known c.in_ok-found.ensures c.in_ok-insert.ensures.updates.0

pub returns-clause-kept : goal.returns-clause-kept
returns-clause-kept g c = now_kept c.args.known.now c.insert.new.self c.args.id c.in_ok-found.found c.in_ok-insert.ensures.updates
