use Rattle.ffc_cdcl.proofs.StepLemmas.{steps_refute}
use Rattle.ffc_cdcl.proofs.solver.Solver.answer.Goals as goal

pub returns-in-Some-clause-refuted : goal.returns-in-Some-clause-refuted
returns-in-Some-clause-refuted g c =
    steps_refute (g.T.Theory.lemmas c.args.theory.now) c.args.self.now c.forget.new.self c.refute_at_once.new.self c.in_ok-steps.field-0 c.in-Some.steps c.forget.ensures.same c.in_ok-steps.ensures.same c.requires
    c.forget.ensures.lemmas c.in_ok-steps.ensures.lemmas c.in_ok-steps.ensures.refuted c.in-Some.is
