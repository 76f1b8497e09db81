-- What is computed of residues modulo an order.
use Rattle.std.specs.Prelude.{ℕ, ◌%◌, List, sum_by}
use Rattle.ffc_term.specs.declared.modular.Operation.{Operation}
use Rattle.ffc_term.specs.declared.modular.Operation.TheVariants.{Sum, Product, BitSum}
use Rattle.ffc_term.specs.declared.value.Value.{Value}
use Rattle.ffc_term.specs.Values.{residue_in, product_by, bit_sum_from}

abbrev pub computed : Operation → List Value → List ℕ → ℕ → ℕ
computed Sum known ids p = sum_by (residue_in known) ids % p
computed Product known ids p = product_by (residue_in known) ids % p
computed BitSum known ids p = bit_sum_from 0 (residue_in known) ids % p
