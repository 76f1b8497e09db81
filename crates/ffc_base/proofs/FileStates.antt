-- What a file's state is after a call: a write that fails and a creation that fails change the count of faults alone.
use Rattle.std.proofs.Common.{◌≡◌, ℕ, List, Some, Result, Ok, Err, OnOk, OnErr, refl}
use Rattle.ffc_base.specs.Counts.{counted}
use Rattle.ffc_base.specs.Files.{FileState}

-- the count stays where the state does
pub steady_faults : {T E : Type 0} → (r : Result T E) (old new : FileState) → OnOk r (new ≡ old) → OnOk r (new.faults ≡ old.faults)
steady_faults (Ok x) old new ok = cc
steady_faults (Err e) old new ok = tt

-- it is this one where the state is this name and this count
pub named_faults : {T E : Type 0} → (r : Result T E) (count : ℕ) (new : FileState) (name : List ℕ) → OnOk r (new ≡ record { name = name; faults = count }) → OnOk r (new.faults ≡ count)
named_faults (Ok x) count new name ok = rw ok refl
named_faults (Err e) count new name ok = tt

-- it goes up where the call failed
pub risen_faults : {T E : Type 0} → (r : Result T E) (old new : FileState) → OnErr r (new ≡ record old { faults = counted old.faults }) → OnErr r (new.faults ≡ counted old.faults)
risen_faults (Ok x) old new err = tt
risen_faults (Err e) old new err = rw err refl

-- a write keeps the name
pub same_name : {T E : Type 0} → (r : Result T E) (old new : FileState) → OnOk r (new ≡ old) → OnErr r (new ≡ record old { faults = counted old.faults }) → Some new.name ≡ Some old.name
same_name (Ok x) old new ok err = rw ok refl
same_name (Err e) old new ok err = rw err refl

-- and so does a creation that fails
pub same_name_at_err : {T E : Type 0} → (r : Result T E) (old new : FileState) → OnErr r (new ≡ record old { faults = counted old.faults }) → OnErr r (Some new.name ≡ Some old.name)
same_name_at_err (Ok x) old new err = tt
same_name_at_err (Err e) old new err = rw err refl

-- a creation that succeeds gives the name
pub becomes_named : {T E : Type 0} → (r : Result T E) (count : ℕ) (new : FileState) (name : List ℕ) → OnOk r (new ≡ record { name = name; faults = count }) → OnOk r (Some new.name ≡ Some name)
becomes_named (Ok x) count new name ok = rw ok refl
becomes_named (Err e) count new name ok = tt
