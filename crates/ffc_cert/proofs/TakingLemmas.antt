-- A line that was judged, and what follows.
use Rattle.std.proofs.Common.{◌≡◌, Result, Ok, Err, ap}
use Rattle.ffc_cert.specs.declared.entries.CertFault.{CertFault}
use Rattle.ffc_cert.specs.declared.entries.CertStop.{CertStop}
use Rattle.ffc_cert.specs.declared.entries.CertStop.TheVariants.{Fault, Memory}
use Rattle.ffc_cert.specs.declared.progress.Progress.{Progress}
use Rattle.ffc_cert.specs.Reading.{Next, after}
use Rattle.ffc_cert.specs.Taking.{Judges, Takes}

pub refuses : {A : Type 0} (stop : CertStop) (judged : Result A CertFault) (next : A → Next) (old new : Progress)
    → Judges (Err stop) judged → new ≡ old → Takes (Err stop) old new (after judged next)
refuses (Fault fault) judged next old new h same = ap (λ (j : Result _ CertFault). after j next) h
refuses Memory judged next old new h same = same

pub goes : {A : Type 0} (judged : Result A CertFault) (next : A → Next) (read : A) → judged ≡ Ok read → after judged next ≡ next read
goes judged next read h = ap (λ (j : Result _ CertFault). after j next) h

pub ruleset takings = (refuses, goes)
