use Rattle.std.proofs.Common.{All, Contains, subst, refl}
use Rattle.ffc_clause.specs.Clauses.{Literal, negated}
use Rattle.ffc_engine.proofs.theory.FieldTheory.object.Goals as goal

pub returns-clause-refuted : goal.returns-clause-refuted
returns-clause-refuted c = subst (All (λ (literal : Literal). Contains c.args.trail.now (negated literal))) c.as_slice.ensures (c.if-not-falsify.ensures refl)
