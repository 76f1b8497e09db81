use Rattle.std.proofs.Common.{subst, sym}
use Rattle.ffc_cdcl.specs.State.{AreListed}
use Rattle.ffc_cdcl.proofs.StepLemmas.{listed_after, outcome_refuted}
use Rattle.ffc_cdcl.proofs.solver.Solver.turn.Goals as goal

pub returns-in-Some-clause-refuted : goal.returns-in-Some-clause-refuted
returns-in-Some-clause-refuted g c =
    let lemmas = g.T.Theory.lemmas c.args.theory.now in
    outcome_refuted lemmas c.args.self.now c.learn_from.new.self c.in_ok-found.found c.refuted_by.result c.in_ok-found.ensures.same
    (subst (AreListed lemmas) (sym c.in_ok-found.ensures.lemmas) c.requires) c.in_ok-found.ensures.refuted c.refuted_by.ensures.refuted

pub returns-in_err-found-in-Conflict-clause-listed : goal.returns-in_err-found-in-Conflict-clause-listed
returns-in_err-found-in-Conflict-clause-listed g c =
    listed_after (g.T.Theory.lemmas c.args.theory.now) (g.T.Theory.lemmas c.check.new.self) c.args.self.now.lemmas c.learn_lemma.new.self.lemmas c.in_ok-check.field-0 c.in-Conflict.lemma c.in-Conflict.number
    c.in_ok-check.ensures.kept c.requires c.in_ok-check.ensures.lemma c.in-Conflict.is c.in_err-found-in-Conflict.ensures.lemmas

pub returns-in_ok-found-in-Conflict-clause-listed : goal.returns-in_ok-found-in-Conflict-clause-listed
returns-in_ok-found-in-Conflict-clause-listed g c =
    listed_after (g.T.Theory.lemmas c.args.theory.now) (g.T.Theory.lemmas c.check.new.self) c.args.self.now.lemmas c.learn_lemma.new.self.lemmas c.in_ok-check.field-0 c.in-Conflict.lemma c.in-Conflict.number
    c.in_ok-check.ensures.kept c.requires c.in_ok-check.ensures.lemma c.in-Conflict.is c.in_ok-found-in-Conflict.ensures.lemmas

pub returns-in_ok-found-in-Conflict-clause-refuted : goal.returns-in_ok-found-in-Conflict-clause-refuted
returns-in_ok-found-in-Conflict-clause-refuted g c =
    let lemmas = g.T.Theory.lemmas c.check.new.self in
    let listed =
    listed_after (g.T.Theory.lemmas c.args.theory.now) lemmas c.args.self.now.lemmas c.learn_lemma.new.self.lemmas c.in_ok-check.field-0 c.in-Conflict.lemma c.in-Conflict.number
    c.in_ok-check.ensures.kept c.requires c.in_ok-check.ensures.lemma c.in-Conflict.is c.in_ok-found-in-Conflict.ensures.lemmas in
    outcome_refuted lemmas c.args.self.now c.learn_lemma.new.self c.in_ok-found-in-Conflict.found c.refuted_by-in-Conflict.result c.in_ok-found-in-Conflict.ensures.same
    listed c.in_ok-found-in-Conflict.ensures.refuted c.refuted_by-in-Conflict.ensures.refuted
