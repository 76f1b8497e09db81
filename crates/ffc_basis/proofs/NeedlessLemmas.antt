-- Pairs that need no reduction: of a polynomial that is 0, or of coprime leading monomials.
use Rattle.std.proofs.Common.{ℕ, arith}
use Rattle.std.specs.declared.cmp.Ordering.{Ordering}
use Rattle.ffc_field.specs.Modular.{IsPrime}
use Rattle.ffc_ring.specs.Monomial.{Monomial, AreCoprime}
use Rattle.ffc_ring.specs.Polynomial.{Terms}
use Rattle.ffc_mono.specs.MonomialOrder.{IsMonomialOrder}
use Rattle.ffc_mono.specs.Leading.{IsLeading}
use Rattle.ffc_poly.specs.Ordered.{IsOrdered}
use Rattle.ffc_basis.specs.Completion.{IsPairClosed}
use Rattle.ffc_basis.specs.PairTable.{AreNeedless}
use Rattle.ffc_basis.proofs.CoprimeLemmas.{coprime_lines_close}
use Rattle.ffc_basis.proofs.PairLemmas.{symmetric_lines_close}

pub coprime_is_needless : (p : ℕ) → IsPrime p → (cmp : Monomial → Monomial → Ordering) → IsMonomialOrder cmp → (limit : ℕ) (a b : Terms) → IsOrdered p cmp limit a → IsOrdered p cmp limit b
    → (c : ℕ) (m : Monomial) (d : ℕ) (n : Monomial) → IsLeading p cmp a c m → IsLeading p cmp b d n → AreCoprime m n → AreNeedless p cmp a b
coprime_is_needless p prime cmp laws limit a b v w c m d n lead other apart gs i j h g e f =
    let closed : IsPairClosed p cmp gs i j = coprime_lines_close p prime cmp laws limit gs i j h g a b e f v w c d m n lead other apart in
    (closed, symmetric_lines_close p cmp limit (omega (arith, prime.least)) gs i j a b e f v w closed)
