use Rattle.std.proofs.Common.{◌≡◌, ◌%◌, ◌^◌, ◌*◌, ◌≤◌}
use Rattle.ffc_field.proofs.residue.ResidueField.pow.Given as goal

abbrev pub invariant-loop-rest : goal.invariant-loop-rest
invariant-loop-rest g l = record {
  power : (g.W.Word.number l.product.word * g.W.Word.number l.square.word ^ l.rest) % g.O.Order.ORDER
      ≡ g.W.Word.number l.fn.self.word ^ l.e % g.O.Order.ORDER;
  some : 1 ≤ l.rest;
}

abbrev pub decreases-loop-rest : goal.decreases-loop-rest
decreases-loop-rest g l = l.rest
