use Rattle.std.proofs.Common.{sym, subst}
use Rattle.ffc_cdcl.specs.Resting.{IsResting}
use Rattle.ffc_cdcl.proofs.StateLemmas.{resting_lemma}
use Rattle.ffc_cdcl.proofs.solver.Solver.keep_lemma.Goals as goal

pub invariant_of-self-2 : goal.invariant_of-self-2
invariant_of-self-2 c =
    let s = c.self.inside in
    subst (λ kept. IsResting s.nodes s.added.items kept s.learned.items) (sym c.in_ok-push.ensures.items) (resting_lemma s.nodes s.added.items s.lemmas.items s.learned.items c.self.invariant _)
