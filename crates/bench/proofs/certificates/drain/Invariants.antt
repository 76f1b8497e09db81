use Rattle.std.proofs.Common.{◌≡◌, false}
use Rattle.bench.proofs.certificates.drain.Given as goal

abbrev pub invariant-entries : goal.invariant-entries
invariant-entries l = l.reader.finished ≡ false
