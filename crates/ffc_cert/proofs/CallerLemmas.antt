-- What the crates above cite of this crate's proofs.
use Rattle.std.proofs.Common.{◌≡◌, ℕ, Option, Some, None, subst}
use Rattle.std.specs.Option.{IfSome}
use Rattle.ffc_cert.specs.declared.entries.Entry.{Entry}
use Rattle.ffc_cert.specs.declared.entries.Numbered.{Numbered}
use Rattle.ffc_cert.specs.WellFormed.{IsReadable, IsReadableIn}
pub use Rattle.ffc_cert.proofs.BackLemmas.{reads_back}
pub use Rattle.ffc_cert.proofs.GoesOnLemmas.{goes_on}

readable_in : (version : Option ℕ) (entry : Entry) → IsReadableIn version entry → (v : ℕ) × IsReadable v entry
readable_in None entry h = absurd h
readable_in (Some version) entry h = (version, h)

-- an entry that a reader gave is readable in some version
pub read_is_readable : (version : Option ℕ) (found : Option Numbered) (e : Numbered) → IfSome found (λ e. IsReadableIn version e.entry) → found ≡ Some e → (v : ℕ) × IsReadable v e.entry
read_is_readable version found e readable is = readable_in version e.entry (subst (λ o. IfSome o (λ e. IsReadableIn version e.entry)) is readable)
