use Rattle.std.proofs.Common.{◌≡◌, ◌<◌, ◌∷◌, [], ◌++◌, rules}
use Rattle.ffc_making.proofs.MoveLemmas.{move_one}
use Rattle.ffc_making.proofs.making.move_last.Goals as goal

pub loop-preserved : goal.loop-preserved
loop-preserved c = λ kept ids last.
    let more : c.loop.counter < c.args.count = search rules in
    let popped : c.loop.stack.items ≡ c.pop.new.self.items ++ c.in-Some.id ∷ [] = search rules in
    let pushed : c.push.new.self.items ≡ c.loop.locals.items ++ c.in-Some.id ∷ [] = search rules in
    rw pushed (move_one c.loop.stack.items c.loop.locals.items c.args.locals.now.items kept ids c.args.stack.now.items c.pop.new.self.items c.in-Some.id c.loop.counter c.args.count more last popped (c.loop.invariant kept ids last))
