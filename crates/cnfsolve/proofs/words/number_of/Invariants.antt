use Rattle.std.proofs.Common.{◌≡◌, drop}
use Rattle.cnfsolve.specs.Words.{number_from}
use Rattle.cnfsolve.proofs.words.number_of.Given as goal

abbrev pub invariant-loop-byte : goal.invariant-loop-byte
invariant-loop-byte l = number_from 0 l.word ≡ number_from l.number (drop l.byte-index l.word)
