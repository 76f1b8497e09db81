use Rattle.std.proofs.Common.{ℕ}
use Rattle.ffc_cert.specs.declared.entries.Entry.{Entry}
use Rattle.ffc_cert.specs.declared.entries.Entry.TheVariants.{Sat, UnsatCases, UnsatSteps, Unknown}
use Rattle.ffc_cert.specs.WellFormed.{IsWellFormed, FitsVersion}
use Rattle.ffc_cert.proofs.laws.is_written.Goals as goal

fits : (version : ℕ) (e : Entry) → IsWellFormed version e → FitsVersion version e
fits version (Sat values) h = tt
fits version UnsatCases h = tt
fits version (UnsatSteps lines) h = h.fits
fits version (Unknown cause) h = tt

pub returns : goal.returns
returns c = fits
