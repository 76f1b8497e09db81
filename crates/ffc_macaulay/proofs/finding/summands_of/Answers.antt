use Rattle.std.proofs.Common.{◌≡◌, ◌+◌, ◌<◌, [], ◌∷◌, ◌++◌, List, ℕ, length, map, take, get_or, sym, ap, ap₂, ◌∙◌, arith, length-take}
use Rattle.std.proofs.lemmas.List.{take_more, map_more, length-map, get_or_default}
use Rattle.ffc_refutation.specs.Combinations.{Summand}
use Rattle.ffc_ring.specs.Monomial.{Monomial}
use Rattle.ffc_macaulay.specs.Refuting.{summands_of}
use Rattle.ffc_macaulay.proofs.RefutingLemmas.{summands_more, summands_same}
use Rattle.ffc_macaulay.proofs.finding.summands_of.Goals as goal
use Rattle.ffc_macaulay.proofs.finding.summands_of.Goals.{then-residue-ne0+in_ok-from_slice+in_ok-push, else-residue-ne0}

pub loop-i-preserved : goal.loop-i-preserved
loop-i-preserved g c =
    let value = g.F.Field.value in
    let ms = c.args.multiples.now in
    let cs = c.args.coefficients.now in
    let i = c.loop-i.i in
    let x = c.index-coefficients-i.result in
    let m = get_or ms i (0, []) in
    let inside : i < length cs = c.loop-i-test.true in
    let within : i < length ms = omega (arith, c.requires) in
    let long : length (map value (take i cs)) ≡ length (take i ms) = omega (arith, length-map (take i cs) value, length-take i cs, length-take i ms, c.requires) in
    let front : take (i + 1) ms ≡ take i ms ++ m ∷ [] = take_more ms i (0, []) within in
    let values : map value (take (i + 1) cs) ≡ map value (take i cs) ++ value x ∷ [] = map_more value cs i x inside ∙ ap (λ y. map value (take i cs) ++ value y ∷ []) (sym c.index-coefficients-i.is) in
    let all : summands_of (take (i + 1) ms) (map value (take (i + 1) cs)) ≡ summands_of (take i ms ++ m ∷ []) (map value (take i cs) ++ value x ∷ []) = ap₂ summands_of front values in
    elim c.if-residue-ne0.branch [
      | then-residue-ne0+in_ok-from_slice+in_ok-push w ↦
          rw w.summands-is
          (let item : w.index-multiples-i.result ≡ m = w.index-multiples-i.is ∙ get_or_default ms i w.index-multiples-i.result (0, []) within in
          let powers : w.from_vec-powers.result ≡ m.1 = w.from_vec-powers.ensures ∙ w.in_ok-from_slice.ensures.items ∙ w.pairs.ensures.value ∙ ap (λ (n : ℕ × Monomial). n.1) item in
          let pushed : w.push.new.self.items ≡ c.loop-i.summands.items ++ (m.0, (value x, m.1)) ∷ [] =
          w.in_ok-push.ensures.items
          ∙ ap (λ (s : Summand). c.loop-i.summands.items ++ s ∷ [])
          (ap₂ (λ (n : ℕ) (k : ℕ × Monomial). (n, k)) (ap (λ (n : ℕ × Monomial). n.0) item) (ap₂ (λ (a : ℕ) (b : Monomial). (a, b)) c.residue-residue.ensures.value powers)) in
          pushed ∙ ap (λ (ss : List Summand). ss ++ (m.0, (value x, m.1)) ∷ []) c.loop-i.invariant
          ∙ sym (summands_more (take i ms) (map value (take i cs)) m (value x) long (λ e. w.if-residue-ne0.true (c.residue-residue.ensures.value ∙ e))) ∙ sym all)
      | else-residue-ne0 w ↦
          rw w.summands-is
          (c.loop-i.invariant
          ∙ sym (summands_same (take i ms) (map value (take i cs)) m (value x) long (sym c.residue-residue.ensures.value ∙ w.if-residue-ne0.false)) ∙ sym all)
    ]
