-- One call after another that append to a vector.
use Rattle.std.proofs.Common.{◌≡◌, ℕ, List, [], ◌++◌, sym, ◌∙◌, ap, append_assoc}
use Rattle.std.proofs.lemmas.List.{append-nil}
use Rattle.ffc_cert.specs.Extending.{Extends}

pub Extends-same : (old new : List ℕ) → new ≡ old → Extends old new
Extends-same old new e = record { more = []; appended = e ∙ sym (append-nil old) }

pub Extends-appended : (old text new : List ℕ) → new ≡ old ++ text → Extends old new
Extends-appended old text new e = record { more = text; appended = e }

pub Extends-after : (old text middle new : List ℕ) → middle ≡ old ++ text → Extends middle new → Extends old new
Extends-after old text middle new e h =
    record { more = text ++ h.more; appended = h.appended ∙ ap (λ (front : List ℕ). front ++ h.more) e ∙ append_assoc old text h.more }

pub ruleset appending = (Extends-same, Extends-appended, Extends-after)
