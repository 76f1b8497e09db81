use Rattle.ffc_cert.proofs.OldVersions.{reads_old_versions}
use Rattle.ffc_cert.proofs.laws.reads_old_versions.Goals as goal

pub returns : goal.returns
returns c = reads_old_versions
