use Rattle.std.proofs.Common.{◌≡◌, drop}
use Rattle.cnfsolve.specs.Reading.{reading_from}
use Rattle.cnfsolve.proofs.reading.Reader.take_bytes.Given as goal

abbrev pub invariant-loop-byte : goal.invariant-loop-byte
invariant-loop-byte l = reading_from l.initial.self l.text ≡ reading_from l.self (drop l.byte-index l.text)
