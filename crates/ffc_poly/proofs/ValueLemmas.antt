-- The coordinates of a point that a list of elements gives.
use Rattle.std.proofs.Common.{◌≡◌, ℕ, zero, suc, List, [], ◌∷◌, get_or, refl}
use Rattle.ffc_poly.specs.Ordered.{point_of}

-- the coordinate of a variable is the element there, or 0 past the end
pub point_of-get_or : {F : Type 0} (value : F → ℕ) (none : F) → value none ≡ 0 → (ys : List F) (x : ℕ) → value (get_or ys x none) ≡ point_of value ys x
point_of-get_or value none e [] x = e
point_of-get_or value none e (y ∷ ys) zero = refl
point_of-get_or value none e (y ∷ ys) (suc x) = point_of-get_or value none e ys x
