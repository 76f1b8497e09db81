use Rattle.std.proofs.Common.{◌≡◌, ◌<◌, [], ◌∷◌, ◌++◌, length, sym, ap, ◌∙◌, subst, inl, inr, arith}
use Rattle.std.specs.Prelude.{slice_range}
use Rattle.ffc_mono.specs.declared.mono.TheConstants.{DEGREE_LIMIT}
use Rattle.ffc_field.specs.Modular.{mul_mod}
use Rattle.ffc_ring.specs.Polynomial.{SamePolynomial, term_product}
use Rattle.ffc_poly.specs.Ordered.{IsOrdered, times}
use Rattle.ffc_poly.proofs.Merging.{merged}
use Rattle.ffc_poly.proofs.ProductLemmas.{merged_times_is}
use Rattle.ffc_poly.proofs.MultipleSteps.{AtStep, row_at, RowFits-rest, product_taken, term_taken, sum_taken, both_cancelled, multiple_finished}
use Rattle.ffc_poly.proofs.multiples.merged_multiple.Given.{Over}
use Rattle.ffc_poly.proofs.multiples.merged_multiple.Goals as goal
use Rattle.ffc_poly.proofs.multiples.merged_multiple.Goals.{After-compare_borrowed, then-residue-ne0+in_ok-push-in-Equal, else-residue-ne0, then-loop-i-test+else-j-len, else-loop-i-test}

-- the terms that are compared
compared : (g : Over) (c : After-compare_borrowed g) → AtStep g.F.Field.ORDER g.O.MonoOrder.cmp (g.F.Field.value c.args.c) c.args.m.powers.now c.args.a.now c.args.b.now c.loop-i.i c.loop-i.j (g.F.Field.value c.get-s.result.0) c.get-s.result.1.powers.now (g.F.Field.value c.mul-t.result) c.get-in-loop-i.result.powers.now c.loop-i.out (merged g.F.Field.ORDER g.O.MonoOrder.cmp 1 c.args.a.now (times g.F.Field.ORDER (g.F.Field.value c.args.c) c.args.m.powers.now c.args.b.now))
compared g c =
    let b = c.args.b.now in
    let in_b : c.loop-i.j < length b = omega (arith, c.if-j-len.true, c.len-in-loop-i.ensures) in
    record {
      positive = omega (arith, g.met.F.Field.prime.least);
      in_a = omega (arith, c.loop-i-test.true, c.len.ensures);
      in_b = in_b;
      s_is = c.get-s.ensures.coefficient;
      n_is = c.get-s.ensures.monomial;
      t_is = c.mul-t.ensures ∙ ap (mul_mod g.F.Field.ORDER (g.F.Field.value c.args.c)) c.get.ensures.coefficient;
      u_is = c.get-in-loop-i.ensures ∙ row_at c.args.m.powers.now c.loop-i.j b c.loop-i.product in_b c.loop-i.invariant.next;
      so_far = c.loop-i.invariant.so_far;
    }

pub loop-i-preserved-in-Continue-branch-3 : goal.loop-i-preserved-in-Continue-branch-3
loop-i-preserved-in-Continue-branch-3 g c =
    let at = c.loop-i in
    let step = compared g (goal.at.loop-i-preserved-in-Continue-branch-3 g c).After-compare_borrowed in
    let product : c.get-in-Less.result.powers.now ≡ c.get-in-loop-i.result.powers.now = c.get-in-Less.ensures ∙ sym c.get-in-loop-i.ensures in
    record {
      in_a = at.invariant.in_a;
      in_b = omega (arith, step.in_b);
      fits = RowFits-rest DEGREE_LIMIT c.args.m.powers.now at.j c.args.b.now step.in_b at.invariant.fits;
      next = c.in_ok-set_product-in-Less.ensures;
      so_far = product_taken step c.push.new.self (sym c.compare_borrowed.ensures ∙ c.in-Less.is) (c.in_ok-push-in-Less.ensures ∙ ap (λ u. at.out ++ (g.F.Field.value c.mul-t.result, u) ∷ []) product);
    }

pub loop-i-preserved-in-Continue-branch-5 : goal.loop-i-preserved-in-Continue-branch-5
loop-i-preserved-in-Continue-branch-5 g c =
    let at = c.loop-i in
    let step = compared g (goal.at.loop-i-preserved-in-Continue-branch-5 g c).After-compare_borrowed in
    let same = sym c.compare_borrowed.ensures ∙ c.in-Equal.is in
    record {
      in_a = omega (arith, step.in_a);
      in_b = omega (arith, step.in_b);
      fits = RowFits-rest DEGREE_LIMIT c.args.m.powers.now at.j c.args.b.now step.in_b at.invariant.fits;
      next = c.in_ok-set_product-in-Equal.ensures;
      so_far = elim c.if-residue-ne0.branch [
        | then-residue-ne0+in_ok-push-in-Equal w ↦
            sum_taken step c.if-residue-ne0.out same
            (λ zero. w.if-residue-ne0.true (c.residue.ensures.value ∙ c.add-sum.ensures ∙ zero))
            (w.out-is ∙ w.in_ok-push-in-Equal.ensures ∙ ap (λ v. at.out ++ (v, c.get-s.result.1.powers.now) ∷ []) c.add-sum.ensures)
        | else-residue-ne0 w ↦ both_cancelled step c.if-residue-ne0.out same (sym c.add-sum.ensures ∙ sym c.residue.ensures.value ∙ w.if-residue-ne0.false) w.out-is
      ];
    }

pub loop-i-preserved : goal.loop-i-preserved
loop-i-preserved g c =
    let at = c.loop-i in
    let step = compared g (goal.at.loop-i-preserved g c).After-compare_borrowed in
    record {
      in_a = omega (arith, step.in_a);
      in_b = at.invariant.in_b;
      fits = at.invariant.fits;
      next = at.invariant.next;
      so_far = term_taken step c.push-in-Greater.new.self (sym c.compare_borrowed.ensures ∙ c.in-Greater.is) c.in_ok-push-in-Greater.ensures;
    }

pub returns : goal.returns
returns g c =
    let p = g.F.Field.ORDER in
    let cmp = g.O.MonoOrder.cmp in
    let prime = g.met.F.Field.prime in
    let k = g.F.Field.value c.args.c in
    let m = c.args.m.powers.now in
    let a = c.args.a.now in
    let b = c.args.b.now in
    let at = c.loop-i in
    let all = merged p cmp 1 a (times p k m b) in
    let ended = multiple_finished p (omega (arith, prime.least)) cmp k m a b at.i at.j at.out c.extend_from.new.self c.extend_products.new.out all
    (c.in_ok-extend_from.ensures ∙ ap (λ n. at.out ++ slice_range a at.i n) c.len-2.ensures) c.in_ok-extend_products.ensures in
    let out : c.extend_products.new.out ≡ all = elim c.loop-i-test.branch [
      | then-loop-i-test+else-j-len w ↦ ended (inr (omega (arith, w.if-j-len.false, w.len-in-loop-i.ensures))) at.invariant.so_far
      | else-loop-i-test w ↦ ended (inl (omega (arith, w.loop-i-test.false, c.len.ensures))) at.invariant.so_far
    ] in
    let is =
    merged_times_is p prime cmp g.met.O.MonoOrder.laws DEGREE_LIMIT k c.requires.c_is (g.met.F.Field.below c.args.c) m c.args.m.is_monomial a b c.requires.a_is c.requires.b_is c.requires.fits in
    record {
      ordered = subst (IsOrdered p cmp DEGREE_LIMIT) (sym out) is.0;
      same = subst (λ v. SamePolynomial p v (a ++ term_product k m b)) (sym out) is.1;
    }
