-- A count of faults that stays after Ok and goes up after Err.
use Rattle.std.proofs.Common.{◌≡◌, ℕ, ◌≤◌, Result, Ok, Err, OnOk, OnErr, IfOk, arith}
use Rattle.ffc_base.specs.Outside.{Rose}
use Rattle.ffc_base.specs.Counts.{counted}

-- what holds anyway holds after Ok
pub on_ok : {T E P : Type 0} → (r : Result T E) → P → OnOk r P
on_ok (Ok x) holds = holds
on_ok (Err e) holds = tt

-- and after Err
pub on_err : {T E P : Type 0} → (r : Result T E) → P → OnErr r P
on_err (Ok x) holds = tt
on_err (Err e) holds = holds

-- and of the value of an Ok
pub if_ok : {T E : Type 0} {P : T → Type 0} → (r : Result T E) → ((x : T) → P x) → IfOk r P
if_ok (Ok x) holds = holds x
if_ok (Err e) holds = tt

-- the count doesn't fall
pub later : {T E : Type 0} → (r : Result T E) (old new : ℕ)
    → old ≤ 18446744073709551615 → OnOk r (new ≡ old) → OnErr r (new ≡ counted old) → old ≤ new
later (Ok x) old new bound ok err = omega arith
later (Err e) old new bound ok err = omega arith

-- the count rose where the call answered Err
pub rose : {T E : Type 0} → (r : Result T E) (old new : ℕ)
    → old ≤ 18446744073709551615 → OnErr r (new ≡ counted old) → OnErr r (Rose old new)
rose (Ok x) old new bound err = tt
rose (Err e) old new bound err = grind arith

-- the same where it answered one error
pub rose_at : {T E : Type 0} → (r : Result T E) (old new : ℕ)
    → old ≤ 18446744073709551615 → OnErr r (new ≡ counted old) → (e : E) → r ≡ Err e → Rose old new
rose_at (Ok x) old new bound err e is = cc
rose_at (Err f) old new bound err e is = grind arith
