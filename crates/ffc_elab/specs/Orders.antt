-- The orders that the words of a form name, in the order of the text.
use Rattle.std.specs.Prelude.{ℕ, List, flat_map}
use Rattle.ffc_smt.specs.Trees.{Word}
use Rattle.ffc_smt.specs.Scripts.{order_in}

abbrev pub orders_of : List Word → List ℕ
orders_of words = flat_map (λ w. order_in w.kind w.bytes) words
