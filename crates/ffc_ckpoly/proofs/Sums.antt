-- Sums of both, and halves of a sum.
use Rattle.std.proofs.Common.{◌≡◌, ℕ, ◌%◌, ◌++◌, [], ap, ◌∙◌, one-mul}
use Rattle.ffc_ring.specs.Polynomial.{Terms, written, SamePolynomial, scaled}
use Rattle.ffc_ring.proofs.PolynomialLemmas.{weighted, weighted-term_product, SamePolynomial-from_weighted, same_sums}

pub SamePolynomial-scaled_one : (p : ℕ) (ts : Terms) → SamePolynomial p (scaled 1 ts) ts
SamePolynomial-scaled_one p ts =
    SamePolynomial-from_weighted p (scaled 1 ts) ts (λ g. ap (λ k. k % p) (weighted-term_product g 1 [] ts ∙ one-mul (weighted g ts)))

-- two halves make the whole
pub SamePolynomial-halves : (p : ℕ) (r x y front back all : Terms) → SamePolynomial p r (x ++ scaled 1 y) → SamePolynomial p x front → SamePolynomial p y back → front ++ back ≡ all → SamePolynomial p r all
SamePolynomial-halves p r x y front back all h f b whole m =
    h m ∙ same_sums p x front (scaled 1 y) back f (λ n. SamePolynomial-scaled_one p y n ∙ b n) m ∙ ap (λ k. written k m % p) whole
