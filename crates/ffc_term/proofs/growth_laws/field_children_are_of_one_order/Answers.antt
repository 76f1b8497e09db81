use Rattle.ffc_term.proofs.ValueLemmas.{IsOrder-from_IsFieldAt}
use Rattle.ffc_term.proofs.GrowthLemmas.{parts_of_one_order, sides_of_one_order}
use Rattle.ffc_term.proofs.growth_laws.field_children_are_of_one_order.Goals as goal

pub returns : goal.returns
returns c = record {
  sides = λ nodes id a b table at.
      let sides = sides_of_one_order nodes id a b table.well_formed at in
      (sides.0, IsOrder-from_IsFieldAt nodes a sides.0 table.well_formed sides.1, sides.1, sides.2);
  parts = λ nodes id p n table at is. (IsOrder-from_IsFieldAt nodes id p table.well_formed is, parts_of_one_order nodes id p n table.well_formed at is.1);
}
