use Rattle.std.proofs.Common.{◌≡◌, ◌∷◌, true, false, sym, ◌∙◌}
use Rattle.std.proofs.lemmas.Result.{IfOk-weaker}
use Rattle.ffc_rules.specs.Cones.{is_listed}
use Rattle.ffc_conjunction.specs.Walks.{found_from, disequations_from, Visits, Walks}
use Rattle.ffc_conjunction.proofs.WalkLemmas.{walk_after, walk_same}
use Rattle.ffc_conjunction.proofs.walk.Walk.look_at.Goals as goal

pub returns-then-asserts-clause-walks : goal.returns-then-asserts-clause-walks
returns-then-asserts-clause-walks c = λ k ids xs same w.
    let id = c.args.id in
    let old = c.args.self.now in
    let new = c.visit.new.self in
    let found = found_from k.nodes ids xs in
    let denied = disequations_from k.nodes ids xs in
    let is : is_listed found id ≡ true = sym (w.forcing.asserted id) ∙ sym c.asserts.ensures ∙ c.if-asserts.true in
    IfOk-weaker c.visit.result (Visits k found denied id old new) (Walks k ids (id ∷ xs) new) (walk_after k ids xs id old new is w)
    (c.visit.ensures.visits k found denied same is w.forcing)

pub returns-else-asserts-clause-walks : goal.returns-else-asserts-clause-walks
returns-else-asserts-clause-walks c = λ k ids xs same w.
    let id = c.args.id in
    let none : is_listed (found_from k.nodes ids xs) id ≡ false = sym (w.forcing.asserted id) ∙ sym c.asserts.ensures ∙ c.if-asserts.false in
    walk_same k ids xs id c.args.self.now none w
