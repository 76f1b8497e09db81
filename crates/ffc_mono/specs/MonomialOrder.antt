-- Monomial orders (Cox, Little and O'Shea, chapter 2, section 2, definition 1), over all monomials of any degree.
use Rattle.std.specs.Prelude.{◌≡◌, ◌≢◌, []}
use Rattle.std.specs.declared.cmp.Ordering.{Ordering}
use Rattle.std.specs.declared.cmp.Ordering.TheVariants.{Equal, Greater}
use Rattle.std.specs.Cmp.{IsTotalOrder}
use Rattle.ffc_ring.specs.Monomial.{Monomial, IsMonomial, mono_mul, Divides}

-- the order is total and tells all monomials apart, 1 is least, and a product with one monomial keeps it
pub record IsMonomialOrder (cmp : Monomial → Monomial → Ordering) : Type 0 where
  pub total : IsTotalOrder cmp
  pub exact : (a b : Monomial) → cmp a b ≡ Equal → a ≡ b
  pub least : (a : Monomial) → IsMonomial a → cmp [] a ≢ Greater
  pub kept : (a b c : Monomial) → IsMonomial a → IsMonomial b → IsMonomial c → cmp (mono_mul a c) (mono_mul b c) ≡ cmp a b

-- since 1 is least and products keep it, no divisor is greater
abbrev pub DivisorIsNoGreater : Type 0
DivisorIsNoGreater =
    (cmp : Monomial → Monomial → Ordering) → IsMonomialOrder cmp → (m n : Monomial) → IsMonomial m → IsMonomial n → Divides m n
    → cmp m n ≢ Greater
