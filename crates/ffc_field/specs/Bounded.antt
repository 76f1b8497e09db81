-- Values whose number is below a bound, beside the proof of that.
use Rattle.std.specs.Prelude.{◌≡◌, ℕ, ◌<◌}
use Rattle.std.proofs.Math.Bridge.{le_prop}
use mathlib.Core.HLevel.{Σ_prop_path}

-- there is one proof at most that a number is below a bound, so the value decides the pair
pub same_pair : {A : Type 0} (number : A → ℕ) (bound : ℕ) (x y : A) (below : number x < bound) (also : number y < bound) →
    x ≡ y → ◌≡◌ {A = (z : A) × (number z < bound)} (x, below) (y, also)
same_pair number bound x y below also same = Σ_prop_path (λ z. le_prop) same
