-- That a list of powers is a monomial has at most one proof.
use Rattle.std.proofs.Common.{◌≡◌, ap₂}
use Rattle.std.specs.Prelude.{ℕ, suc, ◌≤◌, [], ◌∷◌}
use Rattle.std.specs.Coded.{Unit-prop, le_prop}
use Rattle.ffc_ring.specs.Monomial.{Monomial, IsMonomialFrom, IsMonomial}

one_proof_from : (low : ℕ) (m : Monomial) (x y : IsMonomialFrom low m) → x ≡ y
one_proof_from low [] x y = Unit-prop x y
one_proof_from low (p ∷ m) x y =
    ap₂ (λ (f : (low ≤ p.0) × (1 ≤ p.1)) (g : IsMonomialFrom (suc p.0) m). (f.0, f.1, g))
    (ap₂ (λ (a : low ≤ p.0) (b : 1 ≤ p.1). (a, b)) (le_prop x.0 y.0) (le_prop x.1 y.1)) (one_proof_from (suc p.0) m x.2 y.2)

pub one_proof : (m : Monomial) (x y : IsMonomial m) → x ≡ y
one_proof m x y = one_proof_from 0 m x y
