use Rattle.std.proofs.Common.{◌≡◌, ℕ, ◌+◌, ◌++◌, List, [], ◌∷◌, length, drop, insert, sym, ap, ◌∙◌, arith}
use Rattle.ffc_ring.specs.Monomial.{Monomial}
use Rattle.ffc_ring.specs.Polynomial.{coefficient}
use Rattle.ffc_poly.specs.Ordered.{values_of}
use Rattle.ffc_dense.specs.Columns.{listed}
use Rattle.ffc_dense.proofs.DenseLemmas.{grown, grown_before}
use Rattle.ffc_dense.proofs.dense.Dense.number.Goals as goal

pub returns-then-place-self-clause-grows : goal.returns-then-place-self-clause-grows
returns-then-place-self-clause-grows g c =
    let value = g.F.Field.value in
    let p = g.F.Field.ORDER in
    let i = c.self.inside in
    let ms = i.columns.0 in
    let ns = i.columns.1 in
    let m : Monomial = c.in_ok-m.m in
    let place = c.in_ok-place.place in
    let pushed = c.push_zero.ensures.items in
    let items = pushed.2 ∙ ap (λ cs. cs ++ pushed.0 ∷ []) c.in_ok-reserve.ensures.items in
    record {
      more = (m ∷ [], ap (λ v. v.0) c.in_ok-place.ensures.inserted ∙ ap (λ v. v.0 ++ m ∷ []) c.self.view_is);
      same = λ x.
          ap (λ (v : List Monomial × List ℕ). coefficient p (listed (values_of value c.push_zero.new.coefficients.items) v.0 (drop (i.from + 1) v.1)) x) c.in_ok-place.ensures.inserted
          ∙ ap (λ cs. coefficient p (listed (values_of value cs) (ms ++ m ∷ []) (drop (i.from + 1) (insert ns place (length ms)))) x) items
          ∙ grown_before value p i.coefficients.items pushed.0 ms m ns place i.from c.self.invariant.0 c.len-number.ensures.columns.within c.in_ok-place.ensures.inside c.if-place-self.true x
          ∙ ap (λ v. coefficient p v.1 x) c.self.view_is;
    }

pub returns-else-place-self-clause-grows : goal.returns-else-place-self-clause-grows
returns-else-place-self-clause-grows g c =
    let value = g.F.Field.value in
    let p = g.F.Field.ORDER in
    let i = c.self.inside in
    let ms = i.columns.0 in
    let ns = i.columns.1 in
    let m : Monomial = c.in_ok-m.m in
    let place = c.in_ok-place.place in
    let pushed = c.push_zero.ensures.items in
    let items = pushed.2 ∙ ap (λ cs. cs ++ pushed.0 ∷ []) c.in_ok-reserve.ensures.items in
    record {
      more = (m ∷ [], ap (λ v. v.0) c.in_ok-place.ensures.inserted ∙ ap (λ v. v.0 ++ m ∷ []) c.self.view_is);
      same = λ x.
          ap (λ (v : List Monomial × List ℕ). coefficient p (listed (values_of value c.push_zero.new.coefficients.items) v.0 (drop i.from v.1)) x) c.in_ok-place.ensures.inserted
          ∙ ap (λ cs. coefficient p (listed (values_of value cs) (ms ++ m ∷ []) (drop i.from (insert ns place (length ms)))) x) items
          ∙ grown value p i.coefficients.items pushed.0 ms m ns place i.from c.self.invariant.0 c.len-number.ensures.columns.within c.in_ok-place.ensures.inside (omega (arith, c.if-place-self.false)) pushed.1 x
          ∙ ap (λ v. coefficient p v.1 x) c.self.view_is;
    }
