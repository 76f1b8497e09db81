use Rattle.std.proofs.Common.{◌≡◌, ◌++◌, drop}
use Rattle.ffc_ring.specs.Polynomial.{AreTerms}
use Rattle.ffc_ckpoly.specs.Flat.{cut, Parts, HaveMonomials, as_written}
use Rattle.ffc_ckpoly.proofs.poly.CkPoly.from_terms.Given as goal

abbrev pub invariant-loop-term : goal.invariant-loop-term
invariant-loop-term g l =
    let value = g.F.Field.value in
    let done = cut value 0 l.buffer.marks.items l.buffer.powers.items in
    record {
      parts : Parts 0 l.buffer.marks.items l.buffer.powers.items;
      rest : AreTerms (as_written value (drop l.term-index l.terms) (λ v. v.items));
      monomials : HaveMonomials done;
      so_far : done ++ as_written value (drop l.term-index l.terms) (λ v. v.items) ≡ as_written value l.terms (λ v. v.items);
    }
