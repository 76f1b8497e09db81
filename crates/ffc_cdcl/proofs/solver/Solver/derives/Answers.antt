use Rattle.std.proofs.Common.{◌≤◌, ◌++◌, ◌∷◌, [], take, map, subst, arith, refl}
use Rattle.ffc_clause.specs.Clauses.{negated}
use Rattle.ffc_clause.proofs.HintLemmas.{follows_true as follows_true_by}
use Rattle.ffc_cdcl.specs.State.{kept_clauses}
use Rattle.ffc_cdcl.specs.Walking.{IsAt}
use Rattle.ffc_cdcl.proofs.StateLemmas.{implies_more, implied_push, follows_implied}
use Rattle.ffc_cdcl.proofs.solver.Solver.derives.Goals as goal
use Rattle.ffc_cdcl.proofs.solver.Solver.derives.Goals.{then-base-rests, else-base-rests}

pub loop-hint-preserved : goal.loop-hint-preserved
loop-hint-preserved c =
    let was = c.loop-hint.invariant in
    let added = c.args.self.now.added in
    let lemmas = kept_clauses c.args.self.now.lemmas in
    let wider : c.loop-hint.base ≤ c.if-base-rests.base = elim c.if-base-rests.branch [ then-base-rests w ↦ omega arith | else-base-rests w ↦ omega arith ] in
    let rests : c.in-Some.rests ≤ c.if-base-rests.base = elim c.if-base-rests.branch [ then-base-rests w ↦ omega arith | else-base-rests w ↦ omega arith ] in (
      was.0 ++ c.in-Some.taken.now ∷ [],
      c.in_ok-take.ensures (map negated c.args.clause.now) was.0 was.1,
      implied_push added lemmas was.0 c.loop-hint.base c.if-base-rests.base c.in-Some.taken.now wider was.2 (implies_more added lemmas c.in-Some.rests c.if-base-rests.base c.in-Some.taken.now rests c.in-Some.ensures.implied),
      elim c.if-base-rests.branch [ then-base-rests w ↦ omega (arith, c.in-Some.ensures.base) | else-base-rests w ↦ omega (arith, was.3) ],
    )

pub returns-then-follows-clause-implied : goal.returns-then-follows-clause-implied
returns-then-follows-clause-implied c =
    let was = c.loop-hint.invariant in
    follows_implied follows_true_by (take c.loop-hint.base c.args.self.now.added) (kept_clauses c.args.self.now.lemmas) was.0 c.args.clause.now was.2
    (subst (λ p. IsAt (map negated c.args.clause.now) was.0 c.loop-hint.walk.assumed p) (c.if-follows.ensures refl) was.1)
