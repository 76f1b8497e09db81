use Rattle.ffc_cert.proofs.DecidedLemmas as decided
use Rattle.ffc_cert.proofs.FirstFaults as firsts
use Rattle.ffc_cert.proofs.laws.faults_are_first.Goals as goal

pub returns-clause-first : goal.returns-clause-first
returns-clause-first c = firsts.faults_are_first

pub returns-clause-decided : goal.returns-clause-decided
returns-clause-decided c = decided.lines_decide
