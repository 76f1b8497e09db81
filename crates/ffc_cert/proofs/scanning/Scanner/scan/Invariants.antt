use Rattle.std.proofs.Common.{◌≡◌, ◌-◌, length}
use Rattle.ffc_cert.specs.Scan.{IsReady}
use Rattle.ffc_cert.proofs.scanning.Scanner.scan.Given as goal

abbrev pub invariant-lines : goal.invariant-lines
invariant-lines l = IsReady l.bits l.wanted l.fed.bytes l.self × ((l.self.progress.complete ≡ l.fn.self.progress.complete) × (l.self.gone ≡ l.fn.self.gone))

abbrev pub decreases-lines : goal.decreases-lines
decreases-lines l = length l.fed.bytes - l.self.start
