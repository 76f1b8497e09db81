use Rattle.std.proofs.Common.{◌≡◌, ◌%◌, take}
use Rattle.ffc_term.specs.Values.{residue_in, product_by}
use Rattle.ffc_term.proofs.modular.product.Given as goal

abbrev pub invariant-loop-id : goal.invariant-loop-id
invariant-loop-id g l = g.F.Field.value l.product ≡ product_by (residue_in l.known) (take l.id-index l.ids) % g.F.Field.ORDER
