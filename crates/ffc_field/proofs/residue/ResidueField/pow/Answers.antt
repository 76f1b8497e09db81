use Rattle.std.proofs.Common.{◌≡◌, ℕ, ◌%◌, ◌^◌, ◌*◌, ◌/◌, ap, ap₂, ◌∙◌, arith}
use Rattle.ffc_field.specs.Squaring.{square_and_multiply}
use Rattle.ffc_field.proofs.Rests.{digit_one, digit_zero}
use Rattle.ffc_field.proofs.residue.ResidueField.pow.Goals as goal
use Rattle.ffc_field.proofs.residue.ResidueField.pow.Goals.{then-rest-eq1, else-rest-eq1}

pub loop-rest-preserved : goal.loop-rest-preserved
loop-rest-preserved g c =
    let p : ℕ = g.O.Order.ORDER
    in let y : ℕ = g.W.Word.number c.loop-rest.product.word
    in let x : ℕ = g.W.Word.number c.loop-rest.square.word
    in let n : ℕ = c.loop-rest.rest
    in let digit : g.W.Word.number c.if-rest-eq1.product.word ≡ y * x ^ (n % 2) % p =
    elim c.if-rest-eq1.branch [
      | then-rest-eq1 w ↦
          ap (λ z. g.W.Word.number z.word) w.product-is ∙ w.mul-product.ensures ∙ digit_one p y x (n % 2) w.if-rest-eq1.true
      | else-rest-eq1 w ↦
          ap (λ z. g.W.Word.number z.word) w.product-is
          ∙ digit_zero p y x (n % 2) (omega (arith, w.if-rest-eq1.false)) c.loop-rest.product.below
    ]
    in record {
      power = ap₂ (λ z s. z * s ^ (n / 2) % p) digit c.mul-square.ensures
          ∙ square_and_multiply p y x n
          ∙ c.loop-rest.invariant.power;
      some = omega arith;
    }

pub returns : goal.returns
returns g c =
    c.mul.ensures
    ∙ digit_one g.O.Order.ORDER (g.W.Word.number c.loop-rest.product.word) (g.W.Word.number c.loop-rest.square.word) c.loop-rest.rest (omega arith)
    ∙ c.loop-rest.invariant.power
