use Rattle.ffc_encode.proofs.LearningLemmas.{all_left, least_can, one_made}
use Rattle.ffc_encode.proofs.polynomials.learn.Goals as goal

pub loop-next-init : goal.loop-next-init
loop-next-init g c =
    all_left c.args.table.now g.F.Field.ORDER c.args.id c.args.known.now c.in_ok-to_make.to_make c.requires.known c.in_ok-to_make.ensures.made c.in_ok-to_make.ensures.itself

pub make-requires-clause-parts : goal.make-requires-clause-parts
make-requires-clause-parts g c =
    least_can c.args.table.now g.F.Field.ORDER c.args.id c.loop-next.known c.loop-next.to_make c.in-Some.next c.loop-next.invariant c.len-nodes.ensures.valid c.in-Some.ensures.member c.in-Some.ensures.least

pub loop-next-preserved : goal.loop-next-preserved
loop-next-preserved g c =
    one_made c.args.table.now g.F.Field.ORDER c.args.id c.loop-next.known c.loop-next.to_make c.in-Some.next c.loop-next.invariant c.make.new.known c.pop_first.new.self c.in-Some.ensures.updates c.make.ensures.known c.in_ok-make.ensures.kept
