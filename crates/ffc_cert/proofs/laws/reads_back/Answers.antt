use Rattle.ffc_cert.proofs.BackLemmas as back
use Rattle.ffc_cert.proofs.laws.reads_back.Goals as goal

pub returns-clause-all : goal.returns-clause-all
returns-clause-all c = back.reads_back

pub returns-clause-first : goal.returns-clause-first
returns-clause-first c = back.reads_back_first
