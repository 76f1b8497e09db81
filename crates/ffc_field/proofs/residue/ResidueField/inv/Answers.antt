use Rattle.std.proofs.Common.{◌≡◌, ℕ, ◌-◌, ◌%◌, ◌*◌, sym, ap, ◌∙◌, mod-eq_of_lt}
use Rattle.ffc_field.specs.Modular.{pow_mod}
use Rattle.ffc_field.specs.Fermat.{power_inverse}
use Rattle.ffc_field.proofs.residue.ResidueField.inv.Goals as goal

pub returns-else-residue-eq0-clause-inverse : goal.returns-else-residue-eq0-clause-inverse
returns-else-residue-eq0-clause-inverse g c =
    let p : ℕ = g.O.Order.ORDER
    in let x : ℕ = g.W.Word.number c.args.self.word
    in let rest : x % p ≡ 0 → ⊥ = λ zero. c.if-residue-eq0.false (c.residue.ensures.value ∙ sym (mod-eq_of_lt c.args.self.below) ∙ zero)
    in ap (λ y. x * y % p) (c.pow.ensures ∙ ap (λ n. pow_mod p x (n - 2)) c.ORDER.ensures)
    ∙ power_inverse p g.met.O.Order.prime x rest
