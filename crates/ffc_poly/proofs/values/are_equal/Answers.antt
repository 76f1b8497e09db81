use Rattle.std.proofs.Common.{◌≡◌, ℕ, ◌<◌, ◌++◌, ◌∷◌, [], length, get_or, take_all, refl, sym, ap, ap₂, ◌∙◌, arith, true≢false}
use Rattle.std.proofs.lemmas.List.{take_more}
use Rattle.ffc_ring.specs.Monomial.{Monomial}
use Rattle.ffc_ring.specs.Polynomial.{Terms}
use Rattle.ffc_poly.proofs.EqualityLemmas.{monomials_differ, monomials_agree}
use Rattle.ffc_poly.proofs.values.are_equal.Goals as goal

pub returns-then-len : goal.returns-then-len
returns-then-len g c = (
  λ h. absurd (true≢false (sym h)),
  λ e. absurd (c.if-len.true (c.len.ensures ∙ ap length e ∙ sym c.len-2.ensures)),
)

pub returns-then-residue : goal.returns-then-residue
returns-then-residue g c = (
  λ h. absurd (true≢false (sym h)),
  λ e.
      absurd (
      c.if-residue.true
      (c.residue.ensures.value ∙ c.get-s.ensures.coefficient ∙ ap (λ (ts : Terms). (get_or ts c.loop-i.i (0, [])).0) e ∙ sym c.get-t.ensures.coefficient ∙ sym c.residue-in-loop-i.ensures.value)
      ),
)

pub returns-then-ne : goal.returns-then-ne
returns-then-ne g c = (
  λ h. absurd (true≢false (sym h)),
  λ e.
      absurd (
      monomials_differ c.get-s.result.1.powers.now c.get-t.result.1.powers.now c.if-ne.ensures
      (c.get-s.ensures.monomial ∙ ap (λ (ts : Terms). (get_or ts c.loop-i.i (0, [])).1) e ∙ sym c.get-t.ensures.monomial)
      ),
)

pub loop-i-preserved : goal.loop-i-preserved
loop-i-preserved g c =
    let a = c.args.a.now in
    let b = c.args.b.now in
    let i = c.loop-i.i in
    let low : i < length a = omega (arith, c.loop-i-test.true, c.len-i-end.ensures) in
    let low' : i < length b = omega (arith, low, c.if-len.false, c.len.ensures, c.len-2.ensures) in
    let coefficient : (get_or a i (0, [])).0 ≡ (get_or b i (0, [])).0 =
    sym c.get-s.ensures.coefficient ∙ sym c.residue.ensures.value ∙ c.if-residue.false ∙ c.residue-in-loop-i.ensures.value ∙ c.get-t.ensures.coefficient in
    let monomial : (get_or a i (0, [])).1 ≡ (get_or b i (0, [])).1 =
    sym c.get-s.ensures.monomial ∙ monomials_agree c.get-s.result.1.powers.now c.get-t.result.1.powers.now c.if-ne.ensures ∙ c.get-t.ensures.monomial in
    take_more a i (0, []) low
    ∙ ap₂ (λ (x : Terms) (y : ℕ × Monomial). x ++ y ∷ []) c.loop-i.invariant (ap₂ (λ x y. (x, y)) coefficient monomial)
    ∙ sym (take_more b i (0, []) low')

pub returns : goal.returns
returns g c = (
  λ _.
      sym (take_all c.loop-i.i c.args.a.now (omega (arith, c.loop-i-test.false, c.len-i-end.ensures))) ∙ c.loop-i.invariant
      ∙ take_all c.loop-i.i c.args.b.now (omega (arith, c.loop-i-test.false, c.len-i-end.ensures, c.if-len.false, c.len.ensures, c.len-2.ensures)),
  λ _. refl,
)
