-- What a reader keeps true of its fields: of the text it holds a window, which are the bytes after those that were dropped.
-- None was before line 1 was found to name a version.
use Rattle.std.specs.Prelude.{◌≡◌, ℕ, ◌<◌, ◌^◌, Bool, List, length, Option, None}
use Rattle.ffc_cert.specs.declared.entries.CertFault.{CertFault}
use Rattle.ffc_cert.specs.declared.scanning.Scanner.{Scanner}
use Rattle.ffc_cert.specs.Scan.{IsReady, IsWindow}
use Rattle.ffc_cert.specs.Certificate.{version_of}

pub record IsKept (bits : Bool) (wanted : ℕ) (text : List ℕ) (given : ℕ) (fault : Option CertFault) (scanner : Scanner) (held : List ℕ) (known : Option ℕ) : Type 0 where
  pub ready : fault ≡ None → IsReady bits wanted text scanner
  pub count : fault ≡ None → scanner.progress.complete ≡ given
  pub size : length text < 2 ^ 63
  pub window : IsWindow scanner.gone text held
  pub version : known ≡ version_of bits text
  pub front : known ≡ None → scanner.gone ≡ 0
