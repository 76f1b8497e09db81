use Rattle.std.proofs.Common.{◌++◌, ◌∷◌, [], sym, ap, ◌∙◌, subst}
use Rattle.ffc_cdcl.specs.State.{State, AllBelow}
use Rattle.ffc_cdcl.specs.Resting.{IsResting}
use Rattle.ffc_cdcl.proofs.StateLemmas.{resting_more}
use Rattle.ffc_cdcl.proofs.solver.Solver.add_clause.Goals as goal

pub invariant_of-self-2 : goal.invariant_of-self-2
invariant_of-self-2 c =
    let s = c.self.inside in
    let pushed = c.in_ok-push.ensures.items ∙ ap (λ clause. s.added.items ++ clause ∷ []) c.in_ok-clause.ensures in
    let below = subst (λ (v : State). AllBelow v.nodes c.args.lits.now) (sym c.self.view_is) c.requires in
    subst (λ added. IsResting s.nodes added s.lemmas.items s.learned.items) (sym pushed) (resting_more s.nodes s.added.items s.lemmas.items s.learned.items c.self.invariant c.args.lits.now below)
