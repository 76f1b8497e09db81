use Rattle.std.proofs.Common.{subst}
use Rattle.ffc_cdcl.specs.State.{LearnedFollow}
use Rattle.ffc_cdcl.proofs.StateLemmas.{learned_implied}
use Rattle.ffc_cdcl.proofs.solver.Solver.learned_follow.Goals as goal

pub returns : goal.returns
returns c = let s = c.self.inside in subst LearnedFollow c.self.view_is (learned_implied s.nodes s.added.items s.lemmas.items s.learned.items c.self.invariant)
