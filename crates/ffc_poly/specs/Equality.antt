-- The test for equal polynomials: term for term. Its laws.
use Rattle.std.specs.Prelude.{ℕ, Bool, ◌==◌, ◌&&◌}
use Rattle.std.specs.Cmp.{IsEquivalence, nat_eq_equiv, on_equiv, and_equiv}
use Rattle.std.specs.Cmp.Lexicographic.{pointwise, lists_equiv}
use Rattle.ffc_ring.specs.Monomial.{Monomial, same_monomial}
use Rattle.ffc_ring.specs.Polynomial.{Terms}
use Rattle.ffc_mono.specs.EqualityLaws.{same_monomial_equivalence}

abbrev pub same_term : (ℕ × Monomial) → (ℕ × Monomial) → Bool
same_term s t = (s.0 == t.0) && same_monomial s.1 t.1

abbrev pub same_terms : Terms → Terms → Bool
same_terms = pointwise same_term

pub same_terms_equivalence : IsEquivalence same_terms
same_terms_equivalence = lists_equiv (and_equiv (on_equiv (λ t. t.0) nat_eq_equiv) (on_equiv (λ t. t.1) same_monomial_equivalence))
