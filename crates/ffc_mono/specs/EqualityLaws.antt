-- The laws of the test for equal monomials, and what a hasher is fed of a monomial.
use Rattle.std.specs.Prelude.{◌≡◌, true, ◌++◌}
use Rattle.std.proofs.Common.{sym, ap}
use Rattle.std.specs.Cmp.{IsEquivalence, both_ways}
use Rattle.std.specs.Hash as fed
use Rattle.ffc_ring.specs.Monomial.{Monomial, same_monomial}
use Rattle.ffc_ring.proofs.PolynomialLemmas.{same_monomial-true, same_monomial-equal, same_monomial-self}

pub same_monomial_equivalence : IsEquivalence same_monomial
same_monomial_equivalence = record {
  refl = same_monomial-self;
  symm = λ m n.
      both_ways (same_monomial m n) (same_monomial n m)
      (λ h. same_monomial-equal n m (sym (same_monomial-true m n h))) (λ h. same_monomial-equal m n (sym (same_monomial-true n m h)));
  congr = λ m n k h. ap (λ l. same_monomial l k) (same_monomial-true m n h);
}

-- the same test on what has a monomial
pub same_powers_equivalence : {A : Type 0} (powers : A → Monomial) → IsEquivalence (λ a b. same_monomial (powers a) (powers b))
same_powers_equivalence powers = record {
  refl = λ a. same_monomial_equivalence.refl (powers a);
  symm = λ a b. same_monomial_equivalence.symm (powers a) (powers b);
  congr = λ a b c h. same_monomial_equivalence.congr (powers a) (powers b) (powers c) h;
}

-- the powers, as a slice of pairs
abbrev pub monomial_hash : Monomial → fed.HashWrites
monomial_hash m = fed.slice (λ f. fed.u32 f.0 ++ fed.u32 f.1) m

pub monomials_hash_alike : (m n : Monomial) → same_monomial m n ≡ true → monomial_hash m ≡ monomial_hash n
monomials_hash_alike m n same = ap monomial_hash (same_monomial-true m n same)
