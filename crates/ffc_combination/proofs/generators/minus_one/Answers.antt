use Rattle.std.proofs.Common.{◌≡◌, ◌-◌, ◌*◌, [], ◌∷◌, ℕ, ap, ap₂, ◌∙◌}
use Rattle.ffc_ring.specs.Monomial.{Monomial}
use Rattle.ffc_ring.specs.Polynomial.{Terms, coefficient}
use Rattle.ffc_combination.proofs.SideLemmas.{minus_one_is, one_residue}
use Rattle.ffc_combination.proofs.generators.minus_one.Goals as goal

one_term : (a b : ℕ) (m n : Monomial) → a ≡ b → m ≡ n → (let t : Terms = (a, m) ∷ [] in t) ≡ (b, n) ∷ []
one_term a b m n one two = ap₂ (λ (k : ℕ) (x : Monomial). (let t : Terms = (k, x) ∷ [] in t)) one two

pub returns-in-Ok : goal.returns-in-Ok
returns-in-Ok g c m =
    let p = g.F.Field.ORDER in
    let value = g.F.Field.value in
    let number : value c.neg.result ≡ (p - 1) * 1 = minus_one_is p (value c.of.result) (value c.neg.result) g.met.F.Field.prime.least c.of.ensures c.neg.ensures in
    c.in-Ok.ensures.sum m
    ∙ ap (λ (ts : Terms). coefficient p ts m)
    (one_residue value c.as_slice.result.now c.push.new.self.items c.new-terms.result.items c.neg.result c.in_ok-one.field-0 c.as_slice.ensures.value c.in_ok-push.ensures.items c.new-terms.ensures.items
    ∙ one_term (value c.neg.result) ((p - 1) * 1) c.in_ok-one.field-0 [] number c.in_ok-one.ensures)
