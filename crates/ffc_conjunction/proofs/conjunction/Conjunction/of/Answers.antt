use Rattle.std.proofs.Common.{◌<◌, length, All, true, false, refl, sym, subst}
use Rattle.ffc_conjunction.specs.Walks.{Walks}
use Rattle.ffc_conjunction.proofs.AssertedLemmas.{cone_within}
use Rattle.ffc_conjunction.proofs.WalkLemmas.{no_conjunction, literals_of}
use Rattle.ffc_check.specs.Judged.{judged_check}
use Rattle.ffc_conjunction.proofs.conjunction.Conjunction.of.Goals as goal

pub look_at_all-requires-clause-within : goal.look_at_all-requires-clause-within
look_at_all-requires-clause-within c =
    let table = c.args.check.now.table.now in
    subst (All (λ id. id < length table)) (sym c.requires.nodes) (cone_within table c.args.check.now.in_force.now)

pub returns-then-not-branch-clause-none : goal.returns-then-not-branch-clause-none
returns-then-not-branch-clause-none c = λ is.
    let k = judged_check c.args.check.now in
    let w = c.look_at_all.new.self in
    let walked : Walks k k.in_force c.args.nodes.now w c.in_ok-look_at_all.field-0 = c.in_ok-look_at_all.ensures k k.in_force refl (c.in_ok-walk.ensures.walk k refl refl) in
    no_conjunction k c.requires.valid.table (subst (λ xs. Walks k k.in_force xs w false) c.requires.nodes (subst (Walks k k.in_force c.args.nodes.now w) c.if-not-branch.true walked))

pub returns-clause-some : goal.returns-clause-some
returns-clause-some c =
    let k = judged_check c.args.check.now in
    let w = c.look_at_all.new.self in
    let walked : Walks k k.in_force c.args.nodes.now w c.in_ok-look_at_all.field-0 = c.in_ok-look_at_all.ensures k k.in_force refl (c.in_ok-walk.ensures.walk k refl refl) in
    let e = c.from_walk.ensures in
    literals_of k c.requires.valid.table w c.from_walk.result e.equations e.disequations e.reasons e.clashes
    (subst (λ xs. Walks k k.in_force xs w true) c.requires.nodes (subst (Walks k k.in_force c.args.nodes.now w) c.if-not-branch.false walked))
