use Rattle.std.proofs.Common.{◌≡◌, ℕ, ◌+◌, ◌*◌, ◌%◌}
use Rattle.std.proofs.Math.Nat.{add-mod-mod}
use Rattle.ffc_field.proofs.residue.ResidueField.add_scaled.Goals as goal

pub returns : goal.returns
returns g c =
    let x : ℕ = g.W.Word.number c.args.self.word
    in let y : ℕ = g.W.Word.number c.args.scale.word
    in let z : ℕ = g.W.Word.number c.args.other.word
    in cc (add-mod-mod x (y * z) g.O.Order.ORDER)
