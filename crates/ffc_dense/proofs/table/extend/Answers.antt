use Rattle.std.proofs.Common.{◌≡◌}
use Rattle.ffc_dense.proofs.TableLemmas.{push_none}
use Rattle.ffc_dense.proofs.table.extend.Goals as goal
