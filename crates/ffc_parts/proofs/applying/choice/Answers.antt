use Rattle.std.proofs.Common.{sym, ◌∙◌}
use Rattle.ffc_parts.proofs.ChoosingLemmas.{ite_makes}
use Rattle.ffc_parts.proofs.applying.choice.Goals as goal

pub returns-in-Field : goal.returns-in-Field
returns-in-Field c =
    rw (sym c.sort_of.ensures ∙ c.in-Field.is)
    (ite_makes c.args.table.now c.ite_field-made.new.self c.in-Field.field-0 c.args.c c.args.a c.args.b c.ite_field-made.result c.len-before.ensures.valid c.len-after.ensures.valid
    c.ite_field-made.ensures.ok c.ite_field-made.ensures.full c.ite_field-made.ensures.err)
