use Rattle.std.proofs.Common.{rules, sym, ◌∙◌}
use Rattle.ffc_terms.proofs.SlotLemmas.{slot_within, not_found, found_at}
use Rattle.ffc_terms.proofs.environment.Names.locate.Goals as goal

pub value-requires : goal.value-requires
value-requires g c = slot_within c.args.self.now c.args.name.now c.in-Some.slot (search rules)

pub returns-in-Some-clause-value : goal.returns-in-Some-clause-value
returns-in-Some-clause-value g c = sym (found_at c.args.self.now c.args.name.now c.in-Some.slot (search rules) ∙ c.value.ensures)

pub returns-in-None-clause-value : goal.returns-in-None-clause-value
returns-in-None-clause-value g c = sym (not_found c.args.self.now c.args.name.now (search rules))
