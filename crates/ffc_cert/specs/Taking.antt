-- What a call that took a line answers and leaves.
use Rattle.std.specs.Prelude.{◌≡◌, ℕ, ◌+◌, Option, Some, None, Result, Ok, Err}
use Rattle.ffc_cert.specs.declared.entries.CertFault.{CertFault}
use Rattle.ffc_cert.specs.declared.entries.CertStop.{CertStop}
use Rattle.ffc_cert.specs.declared.entries.CertStop.TheVariants.{Fault, Memory}
use Rattle.ffc_cert.specs.declared.entries.Numbered.{Numbered}
use Rattle.ffc_cert.specs.declared.progress.Progress.{Progress}
use Rattle.ffc_cert.specs.Reading.{Next, Halt, Move, Give}

-- a fact where a fault was the cause, and one where memory was
abbrev pub MatchStop : CertStop → (CertFault → Type 0) → Type 0 → Type 0
MatchStop (Fault fault) P Q = P fault
MatchStop Memory P Q = Q

-- what was read is the one or the fault, unless memory ran out
abbrev pub Judges : {A : Type 0} → Result A CertStop → Result A CertFault → Type 0
Judges (Ok read) judged = judged ≡ Ok read
Judges (Err stop) judged = MatchStop stop (λ fault. judged ≡ Err fault) (Unit {0})

-- the line led so from the old progress to the new one; where memory ran out, the line was not taken
abbrev pub Takes : Result (Option Numbered) CertStop → Progress → Progress → Next → Type 0
Takes (Ok None) old new next = next ≡ Move new
Takes (Ok (Some entry)) old new next = next ≡ Give entry new
Takes (Err stop) old new next = MatchStop stop (λ fault. next ≡ Halt fault) (new ≡ old)

-- how many entries are complete after a line, where so many were before
abbrev pub complete_after : Option Numbered → ℕ → ℕ
complete_after None n = n
complete_after (Some entry) n = n + 1
