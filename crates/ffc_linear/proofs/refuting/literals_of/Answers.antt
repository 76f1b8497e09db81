use Rattle.std.proofs.Common.{◌≡◌, ◌+◌, ◌<◌, [], ◌∷◌, ◌++◌, length, map, take, get_or, sym, ap, ap₂, ◌∙◌, arith, length-take}
use Rattle.std.proofs.lemmas.List.{take_more, map_more, length-map}
use Rattle.ffc_linear.specs.Refuting.{literals_of}
use Rattle.ffc_linear.proofs.StepLemmas.{literals_more, literals_same}
use Rattle.ffc_linear.proofs.refuting.literals_of.Goals as goal
use Rattle.ffc_linear.proofs.refuting.literals_of.Goals.{then-residue-ne0+in_ok-push, else-residue-ne0}

pub loop-i-preserved : goal.loop-i-preserved
loop-i-preserved g c =
    let value = g.F.Field.value in
    let ids = c.args.equations.now in
    let cs = c.args.coefficients.now in
    let i = c.loop-i.i in
    let x = c.index-coefficients-i.result in
    let id = get_or ids i 0 in
    let inside : i < length cs = c.loop-i-test.true in
    let within : i < length ids = omega (arith, c.requires) in
    let long : length (map value (take i cs)) ≡ length (take i ids) = omega (arith, length-map (take i cs) value, length-take i cs, length-take i ids, c.requires) in
    let front : take (i + 1) ids ≡ take i ids ++ id ∷ [] = take_more ids i 0 within in
    let values : map value (take (i + 1) cs) ≡ map value (take i cs) ++ value x ∷ [] = map_more value cs i x inside ∙ ap (λ y. map value (take i cs) ++ value y ∷ []) (sym c.index-coefficients-i.is) in
    let wanted = literals_of (take (i + 1) ids) (map value (take (i + 1) cs)) in
    let all : wanted ≡ literals_of (take i ids ++ id ∷ []) (map value (take i cs) ++ value x ∷ []) = ap₂ literals_of front values in
    elim c.if-residue-ne0.branch [
      | then-residue-ne0+in_ok-push w ↦
          rw w.lits-is
          (literals_more (take i ids) (map value (take i cs)) id (value x) c.residue.result c.loop-i.lits.items w.push.new.self.items wanted long all w.in_ok-push.ensures.items c.loop-i.invariant c.residue.ensures.value w.if-residue-ne0.true)
      | else-residue-ne0 w ↦
          rw w.lits-is
          (literals_same (take i ids) (map value (take i cs)) id (value x) c.residue.result c.loop-i.lits.items wanted long all c.loop-i.invariant c.residue.ensures.value w.if-residue-ne0.false)
    ]
