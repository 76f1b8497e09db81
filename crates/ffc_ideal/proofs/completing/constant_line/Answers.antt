use Rattle.std.proofs.Common.{◌≡◌, [], get_or, sym, ap, ◌∙◌, inl, inr, arith}
use Rattle.std.proofs.lemmas.Bool.{cases_lt, false≢true}
use Rattle.ffc_line.specs.Lines.{polys_of}
use Rattle.ffc_basis.proofs.Lists.{poly_at}
use Rattle.ffc_ideal.proofs.Answering.{constant_there}
use Rattle.ffc_ideal.proofs.completing.constant_line.Goals as goal
use Rattle.ffc_ideal.proofs.completing.constant_line.Goals.{else-not-is_zero-via-then-not-is_zero+else-is_constant, else-not-is_zero-via-else-not-is_zero}

pub loop-place-preserved : goal.loop-place-preserved
loop-place-preserved g c i h constant =
    let p = g.F.Field.ORDER in
    let gs = polys_of c.args.lines.now in
    let line = c.index-lines-place.result in
    let at : get_or gs c.loop-place.place [] ≡ line.poly =
    poly_at c.args.lines.now c.loop-place.place line c.loop-place-test.true ∙ ap (λ l. l.poly) (sym c.index-lines-place.is) in
    elim (cases_lt i c.loop-place.place) [
      | inl below ↦ c.loop-place.invariant i below constant
      | inr above ↦
          let is = constant_there p gs i c.loop-place.place line.poly (omega (arith, h, above)) at constant in
          elim c.else-not-is_zero.branch [
            | else-not-is_zero-via-then-not-is_zero+else-is_constant w ↦ false≢true (sym w.if-is_constant.false ∙ w.is_constant.ensures.1 is.1)
            | else-not-is_zero-via-else-not-is_zero w ↦ is.0 (c.is_zero.ensures.0 (cc w.if-not-is_zero.false))
          ]
    ]
