use Rattle.std.proofs.Common.{◌≡◌, ◌+◌, ◌<◌, [], ◌∷◌, ◌++◌, length, map, take, sym, ap, ◌∙◌, arith}
use Rattle.std.proofs.lemmas.List.{map_more}
use Rattle.ffc_linear.specs.Refuting.{summands_from}
use Rattle.ffc_linear.proofs.StepLemmas.{summands_more, summands_same, one_longer}
use Rattle.ffc_linear.proofs.refuting.summands_of.Goals as goal
use Rattle.ffc_linear.proofs.refuting.summands_of.Goals.{then-residue-ne0+in_ok-from_slice+in_ok-push, else-residue-ne0}

pub loop-coefficient-preserved : goal.loop-coefficient-preserved
loop-coefficient-preserved g c =
    let value = g.F.Field.value in
    let cs = c.args.coefficients.now in
    let m = c.args.monomial.now in
    let i = c.loop-coefficient.coefficient-index in
    let x = c.coefficient-item.result in
    let inside : i < length cs = c.loop-coefficient-test.true in
    let values : map value (take (i + 1) cs) ≡ map value (take i cs) ++ value x ∷ [] = map_more value cs i x inside ∙ ap (λ y. map value (take i cs) ++ value y ∷ []) (sym c.coefficient-item.is) in
    let wanted = summands_from 0 m (map value (take (i + 1) cs)) in
    let all : wanted ≡ summands_from 0 m (map value (take i cs) ++ value x ∷ []) = ap (summands_from 0 m) values in
    elim c.if-residue-ne0.branch [
      | then-residue-ne0+in_ok-from_slice+in_ok-push w ↦
          rw w.summands-is (record {
            few = one_longer c.loop-coefficient.summands.items w.push.new.self.items (w.len-number.result, (c.residue-residue.result, w.from_vec-powers.result)) i w.in_ok-push.ensures.items c.loop-coefficient.invariant.few;
            are = summands_more m w.from_vec-powers.result (map value (take i cs)) (value x) w.len-number.result c.residue-residue.result c.loop-coefficient.summands.items w.push.new.self.items wanted all
                w.in_ok-push.ensures.items c.loop-coefficient.invariant.are (w.len-number.ensures ∙ c.loop-coefficient.summands.ok.0) c.residue-residue.ensures.value
                (w.from_vec-powers.ensures ∙ w.in_ok-from_slice.ensures.items) w.if-residue-ne0.true;
          })
      | else-residue-ne0 w ↦
          rw w.summands-is (record {
            few = omega (arith, c.loop-coefficient.invariant.few);
            are = summands_same m (map value (take i cs)) (value x) c.residue-residue.result c.loop-coefficient.summands.items wanted all c.loop-coefficient.invariant.are c.residue-residue.ensures.value w.if-residue-ne0.false;
          })
    ]
