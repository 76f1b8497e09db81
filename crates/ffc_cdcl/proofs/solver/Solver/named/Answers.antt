use Rattle.std.proofs.Common.{◌<◌, [], subst, length, arith}
use Rattle.ffc_cdcl.specs.State.{State, Implies, kept_clauses}
use Rattle.ffc_cdcl.proofs.StateLemmas.{lemma_at}
use Rattle.ffc_cdcl.proofs.solver.Solver.named.Goals as goal

pub returns-else-k-len-clause-implied : goal.returns-else-k-len-clause-implied
returns-else-k-len-clause-implied c =
    let lemmas = c.self.inside.lemmas in
    let inside : c.in-Lemma.k < length lemmas.items = omega (arith, c.if-k-len.false, c.len.ensures, lemmas.ok.0) in
    subst (λ (s : State). Implies [] (kept_clauses s.lemmas) c.as_slice-in-Lemma.result.now) c.self.view_is
    (lemma_at lemmas.items c.in-Lemma.k c.index-lemma.result.now c.as_slice-in-Lemma.result.now inside c.index-lemma.ensures c.as_slice-in-Lemma.ensures)
