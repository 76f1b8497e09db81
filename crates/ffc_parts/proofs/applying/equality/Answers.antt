use Rattle.std.proofs.Common.{sym, ◌∙◌}
use Rattle.ffc_smt.specs.Making.{equality}
use Rattle.ffc_parts.proofs.applying.equality.Goals as goal

pub returns-in-Bool : goal.returns-in-Bool
unfolding equality
returns-in-Bool c =
    rw (sym c.sort_of.ensures ∙ c.in-Bool.is) c.put.ensures

pub returns-in-Field : goal.returns-in-Field
unfolding equality
returns-in-Field c =
    rw (sym c.sort_of.ensures ∙ c.in-Field.is) c.put-in-Field.ensures
