use Rattle.std.proofs.Common.{◌≡◌, ◌<◌, Bool, true, false, All, List, length, sym, ap, ◌∙◌, subst, rules}
use Rattle.ffc_check.specs.Judged.{judged_check}
use Rattle.ffc_encode.specs.Clauses.{node_clauses}
use Rattle.ffc_rules.specs.Cones.{cone}
use Rattle.ffc_propagation.specs.Answers.{IsFound}
use Rattle.ffc_propagation.specs.Forcing.{IsGivenClause, Forced}
use Rattle.ffc_propagation.specs.Settling.{clauses_of, IsOpened, Completes}
use Rattle.ffc_propagation.specs.Trails.{IsWithin, HasTakenAll}
use Rattle.ffc_propagation.proofs.FoundSteps.{active_found, settled_found}
use Rattle.ffc_propagation.proofs.GivenLemmas.{all_given, cone_within, clauses_within}
use Rattle.ffc_propagation.proofs.SettlingLemmas.{opened_settling}
use Rattle.ffc_propagation.proofs.propagation.found.Goals as goal

pub clauses_of-requires : goal.clauses_of-requires
clauses_of-requires c =
    let k = judged_check c.args.check.now in
    subst (All (λ id. id < length k.nodes)) (sym c.requires.nodes) (cone_within k)

pub of-requires : goal.of-requires
of-requires c =
    let k = judged_check c.args.check.now in
    let listed : c.as_slice-clauses.result.now ≡ node_clauses k.nodes (cone k.nodes k.in_force) =
    c.as_slice-clauses.ensures.value ∙ c.in_ok-clauses.ensures.listed ∙ ap (node_clauses k.nodes) c.requires.nodes in
    subst (λ n. All (IsWithin n) (clauses_of c.as_slice-clauses.result.now)) (sym c.len.ensures.count)
    (subst (λ cs. All (IsWithin (length k.nodes)) (clauses_of cs)) (sym listed) (clauses_within k c.requires.valid))

pub returns-then-branch : goal.returns-then-branch
returns-then-branch c =
    let k = judged_check c.args.check.now in
    active_found k c.requires.valid c.in_ok-trail.trail c.take_active.new.self (c.in_ok-trail.ensures.long ∙ c.len-2.ensures.count)
    (subst (HasTakenAll k.in_force c.in_ok-trail.trail c.take_active.new.self) c.if-branch.true c.in_ok-take_active.ensures.taken)
    (subst (Forced k c.take_active.new.self) c.if-branch.true (c.in_ok-take_active.ensures.forced k (search rules) (c.in_ok-trail.ensures.forced k)))

pub settle-requires : goal.settle-requires
settle-requires c =
    let k = judged_check c.args.check.now in
    let listed : c.as_slice-clauses.result.now ≡ node_clauses k.nodes (cone k.nodes k.in_force) =
    c.as_slice-clauses.ensures.value ∙ c.in_ok-clauses.ensures.listed ∙ ap (node_clauses k.nodes) c.requires.nodes in
    let taken = subst (HasTakenAll k.in_force c.in_ok-trail.trail c.take_active.new.self) c.if-branch.false c.in_ok-take_active.ensures.taken in
    opened_settling (clauses_of c.as_slice-clauses.result.now) (length k.nodes) c.take_active.new.self c.in_ok-occurrences.occurrences taken.grown.trail
    (taken.grown.long ∙ c.in_ok-trail.ensures.long ∙ c.len-2.ensures.count)
    (subst (λ cs. All (IsWithin (length k.nodes)) (clauses_of cs)) (sym listed) (clauses_within k c.requires.valid))
    (subst (λ n. IsOpened n (clauses_of c.as_slice-clauses.result.now) c.in_ok-occurrences.occurrences) c.len.ensures.count c.in_ok-occurrences.ensures)

pub returns : goal.returns
returns c =
    let k = judged_check c.args.check.now in
    let clauses = node_clauses k.nodes (cone k.nodes k.in_force) in
    let listed : c.as_slice-clauses.result.now ≡ clauses =
    c.as_slice-clauses.ensures.value ∙ c.in_ok-clauses.ensures.listed ∙ ap (node_clauses k.nodes) c.requires.nodes in
    let taken = subst (HasTakenAll k.in_force c.in_ok-trail.trail c.take_active.new.self) c.if-branch.false c.in_ok-take_active.ensures.taken in
    let forced = subst (Forced k c.take_active.new.self) c.if-branch.false (c.in_ok-take_active.ensures.forced k (search rules) (c.in_ok-trail.ensures.forced k)) in
    settled_found k c.requires.valid c.take_active.new.self c.settle.new.trail c.settle.new.occurrences (taken.grown.long ∙ c.in_ok-trail.ensures.long ∙ c.len-2.ensures.count) taken.all
    c.in_ok-clash.clash
    (subst (λ cs. Completes (clauses_of cs) c.take_active.new.self c.settle.new.trail c.settle.new.occurrences c.in_ok-clash.clash) listed c.in_ok-clash.ensures.settled)
    (c.in_ok-clash.ensures.forced k (subst (All (IsGivenClause k)) (sym listed) (all_given k)) forced)
