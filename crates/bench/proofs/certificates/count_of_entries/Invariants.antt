use Rattle.std.proofs.Common.{◌≡◌, false}
use Rattle.bench.proofs.certificates.count_of_entries.Given as goal

abbrev pub invariant-pieces : goal.invariant-pieces
invariant-pieces l = l.reader.finished ≡ false
