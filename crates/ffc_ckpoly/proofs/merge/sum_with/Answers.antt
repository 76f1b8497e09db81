use Rattle.std.proofs.Common.{◌≡◌, ◌≢◌, ◌+◌, ◌++◌, drop, refl, sym, ap, ◌∙◌, subst, inl, inr, mod-eq_of_lt, length-drop, arith}
use Rattle.std.specs.declared.cmp.Ordering.TheVariants.{Equal}
use Rattle.ffc_field.specs.Modular.{add_mod, mul_mod}
use Rattle.ffc_ring.specs.Polynomial.{SamePolynomial, scaled}
use Rattle.ffc_ckpoly.specs.Sorted.{residues, multiplied, IsSorted, word_order}
use Rattle.ffc_ckpoly.proofs.Lists.{pushed, left_at, residues-push, sorted_drop, whole_tail}
use Rattle.ffc_ckpoly.proofs.OrderLemmas.{word_order_exact}
use Rattle.ffc_ckpoly.proofs.Merging.{merged, IsSorted-merged, SamePolynomial-merged}
use Rattle.ffc_ckpoly.proofs.MergingSteps.{step_less, step_equal, step_cancelled, step_greater, finished}
use Rattle.ffc_ckpoly.proofs.merge.sum_with.Goals as goal
use Rattle.ffc_ckpoly.proofs.merge.sum_with.Goals.{then-residue-ne0+in_ok-push-in-Equal, else-residue-ne0, then-loop-i-test+else-j-b, else-loop-i-test}

pub loop-i-preserved-in-Less : goal.loop-i-preserved-in-Less
loop-i-preserved-in-Less g c =
    let value = g.F.Field.value in
    let p = g.F.Field.ORDER in
    let i = c.loop-i.invariant in
    let k = value c.args.c in
    let s = c.index-a-i.result in
    let t = c.index-b-j.result in
    let left = left_at c.args.a.now c.loop-i.i s c.loop-i-test.true c.index-a-i.is in
    let right = left_at c.args.b.now c.loop-i.j t c.if-j-b.true c.index-b-j.is in
    let step = step_less value p word_order k _ _ _ _ s t left right (sym c.in-Less.ensures) in
    record {
      i_in = i.i_in;
      j_in = omega (arith, c.if-j-b.true);
      so_far = pushed _ _ _ _ _
          (residues-push value _ _ c.mul.result t.1 (mul_mod p k (value t.0)) t.1.now c.in_ok-push-in-Less.ensures.items c.mul.ensures refl)
          (ap (λ w. residues value c.loop-i.out.items ++ w) (sym step) ∙ i.so_far);
    }

pub loop-i-preserved-in-Equal : goal.loop-i-preserved-in-Equal
loop-i-preserved-in-Equal g c =
    let value = g.F.Field.value in
    let p = g.F.Field.ORDER in
    let i = c.loop-i.invariant in
    let k = value c.args.c in
    let s = c.index-a-i.result in
    let t = c.index-b-j.result in
    let left = left_at c.args.a.now c.loop-i.i s c.loop-i-test.true c.index-a-i.is in
    let right = left_at c.args.b.now c.loop-i.j t c.if-j-b.true c.index-b-j.is in
    let equal : word_order s.1.now t.1.now ≡ Equal = sym c.in-Equal.ensures in
    let sum : value c.add-coefficient.result ≡ add_mod p (value s.0) (mul_mod p k (value t.0)) =
    c.add-coefficient.ensures ∙ ap (add_mod p (value s.0)) c.mul-in-Equal.ensures in
    record {
      i_in = omega (arith, c.loop-i-test.true);
      j_in = omega (arith, c.if-j-b.true);
      so_far =
          elim c.if-residue-ne0.branch [
            | then-residue-ne0+in_ok-push-in-Equal w ↦
                let other : add_mod p (value s.0) (mul_mod p k (value t.0)) ≢ 0 = λ e. w.if-residue-ne0.true (c.residue.ensures.value ∙ sum ∙ e) in
                let step = step_equal value p word_order k _ _ _ _ s t left right equal other in
                pushed _ _ _ _ _
                (residues-push value _ _ c.add-coefficient.result s.1 (add_mod p (value s.0) (mul_mod p k (value t.0))) s.1.now (ap (λ v. v.items) w.out-is ∙ w.in_ok-push-in-Equal.ensures.items) sum refl)
                (ap (λ w. residues value c.loop-i.out.items ++ w) (sym step) ∙ i.so_far)
            | else-residue-ne0 w ↦
                let none : c.residue.result ≡ 0 = omega (arith, w.if-residue-ne0.false) in
                let step = step_cancelled value p word_order k _ _ _ _ s t left right equal (sym sum ∙ sym c.residue.ensures.value ∙ none) in
                ap (λ v. residues value v.items ++ merged p word_order k (residues value (drop (c.loop-i.i + 1) c.args.a.now)) (residues value (drop (c.loop-i.j + 1) c.args.b.now))) w.out-is
                ∙ ap (λ w. residues value c.loop-i.out.items ++ w) (sym step) ∙ i.so_far
          ];
    }

pub loop-i-preserved : goal.loop-i-preserved
loop-i-preserved g c =
    let value = g.F.Field.value in
    let p = g.F.Field.ORDER in
    let i = c.loop-i.invariant in
    let k = value c.args.c in
    let s = c.index-a-i.result in
    let t = c.index-b-j.result in
    let left = left_at c.args.a.now c.loop-i.i s c.loop-i-test.true c.index-a-i.is in
    let right = left_at c.args.b.now c.loop-i.j t c.if-j-b.true c.index-b-j.is in
    let step = step_greater value p word_order k _ _ _ _ s t left right (sym c.in-Greater.ensures) in
    record {
      i_in = omega (arith, c.loop-i-test.true);
      j_in = i.j_in;
      so_far = pushed _ _ _ _ _
          (residues-push value _ _ s.0 s.1 (value s.0) s.1.now c.in_ok-push-in-Greater.ensures.items refl refl)
          (ap (λ w. residues value c.loop-i.out.items ++ w) (sym step) ∙ i.so_far);
    }

pub returns : goal.returns
returns g c =
    let value = g.F.Field.value in
    let p = g.F.Field.ORDER in
    let prime = g.met.F.Field.prime in
    let k = value c.args.c in
    let a = residues value c.args.a.now in
    let b = residues value c.args.b.now in
    let left = drop c.loop-i.i c.args.a.now in
    let right = drop c.loop-i.j c.args.b.now in
    let one : value c.of-one.result ≡ 1 = c.of-one.ensures ∙ mod-eq_of_lt (omega (arith, prime.least)) in
    let ends = finished value p word_order k (value c.of-one.result) one left right (sorted_drop value p word_order c.loop-i.i c.args.a.now c.requires.a_is) in
    let first = c.in_ok-append_scaled.ensures ∙ ap (λ k. residues value c.loop-i.out.items ++ multiplied p (value c.of-one.result) (residues value k)) (whole_tail c.loop-i.i c.args.a.now) in
    let second = c.in_ok-append_scaled-2.ensures ∙ ap (λ k. residues value c.append_scaled.new.out.items ++ multiplied p (value c.args.c) (residues value k)) (whole_tail c.loop-i.j c.args.b.now) in
    let out : residues value c.append_scaled-2.new.out.items ≡ merged p word_order k a b =
    elim c.loop-i-test.branch [
      | then-loop-i-test+else-j-b w ↦
          ends _ _ _ _ first second (inl (omega (arith, length-drop c.loop-i.j c.args.b.now, w.if-j-b.false))) c.loop-i.invariant.so_far
      | else-loop-i-test w ↦
          ends _ _ _ _ first second (inr (omega (arith, length-drop c.loop-i.i c.args.a.now, w.loop-i-test.false))) c.loop-i.invariant.so_far
    ] in
    record {
      sorted = subst (IsSorted p) (sym out) (IsSorted-merged p prime word_order word_order_exact k c.requires.c_is (g.met.F.Field.below c.args.c) a b c.requires.a_is c.requires.b_is);
      same = subst (λ m. SamePolynomial p m (a ++ scaled k b)) (sym out) (SamePolynomial-merged p word_order word_order_exact k a b);
    }
