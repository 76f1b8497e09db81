use Rattle.std.proofs.Common.{◌≤◌, take, sym, ap, ◌∙◌, subst, All}
use Rattle.ffc_cdcl.specs.State.{Implies, kept_clauses}
use Rattle.ffc_cdcl.specs.Resting.{learned_clauses}
use Rattle.ffc_cdcl.proofs.StateLemmas.{resting_cut, learned_cut, learned_implied}
use Rattle.ffc_cdcl.proofs.solver.Solver.pop_scope.Goals as goal

pub returns-in-Some-clause-learned : goal.returns-in-Some-clause-learned
returns-in-Some-clause-learned c = (c.resting_on.result, ap learned_clauses c.truncate.ensures.items ∙ learned_cut c.self.inside.learned.items c.resting_on.result ∙ ap (λ s. take c.resting_on.result s.learned) c.self.view_is)

pub returns-in-Some-clause-follow : goal.returns-in-Some-clause-follow
returns-in-Some-clause-follow c =
    let s = c.self.inside in
    let m = c.resting_on.result in
    let n = c.in-Some.count in
    let low = subst (λ xs. All (λ x. x.base ≤ n) (take m xs)) c.as_slice.ensures.value c.resting_on.ensures.resting in
    let cut = resting_cut s.nodes s.added.items s.lemmas.items s.learned.items c.self.invariant n m low in
    subst (λ added. All (Implies added (kept_clauses s.lemmas.items)) (learned_clauses c.truncate.new.self.items)) (sym c.truncate-in-Some.ensures.items)
    (subst (λ xs. All (Implies (take n s.added.items) (kept_clauses s.lemmas.items)) (learned_clauses xs)) (sym c.truncate.ensures.items)
    (learned_implied s.nodes (take n s.added.items) s.lemmas.items (take m s.learned.items) cut))
