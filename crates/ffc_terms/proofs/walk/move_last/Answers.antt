use Rattle.std.proofs.Common.{◌<◌, ◌∙◌, rules}
use Rattle.ffc_terms.proofs.WalkLemmas.{moved_one}
use Rattle.ffc_terms.proofs.walk.move_last.Goals as goal

pub loop-preserved : goal.loop-preserved
loop-preserved c =
    let more : c.loop.counter < c.args.count = search rules in
    moved_one (c.in-Some.name.items, c.in-Some.sort) c.loop.from c.pop.new.self c.loop.onto c.push.new.self c.args.count c.loop.counter more c.in-Some.ensures.some c.in_ok-push-in-Some.ensures.ok
    ∙ c.loop.invariant
