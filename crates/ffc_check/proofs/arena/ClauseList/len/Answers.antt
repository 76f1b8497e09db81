use Rattle.std.proofs.Common.{length, sym, ap, ◌∙◌}
use Rattle.ffc_check.proofs.ArenaLemmas.{length-clauses_in}
use Rattle.ffc_check.proofs.arena.ClauseList.len.Goals as goal

pub returns : goal.returns
returns c = c.len.ensures ∙ c.self.inside.ends.ok.0 ∙ sym (length-clauses_in c.self.inside.literals.items 0 c.self.inside.ends.items) ∙ ap length c.self.view_is
