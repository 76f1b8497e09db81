-- What a call changes of an object of the outside: what a sink holds, its name, and what a source has left.
use Rattle.std.specs.Prelude.{◌≡◌, ℕ, List, Option}
use Rattle.std.specs.Borrow.{MutBor}
use denote.Triple.Both.{Both}

-- before and after, each where it is stated
pub record Change : Type 0 where
  pub old : Option (List ℕ)
  pub new : Option (List ℕ)

-- The change in what a ghost member says of a `&mut` parameter. An `ensures` that names such a parameter alone has it as a pair,
-- the reference at the call and the one at the return.
abbrev pub change : {S : Type 0} → (S → Option (List ℕ)) → Both (MutBor S) (MutBor S) → Change
change says object = record { old = says object.entry.now; new = says object.exit.now }

-- nothing was written to certificate and output
abbrev pub IsSilent : Change → Change → Type 0
IsSilent cert out = (cert.new ≡ cert.old) × (out.new ≡ out.old)
