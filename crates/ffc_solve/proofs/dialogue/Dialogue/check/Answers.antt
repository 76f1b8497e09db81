use Rattle.std.proofs.Common.{◌∙◌, ap, length, refl, true}
use Rattle.ffc_rules.specs.Cores.{core}
use Rattle.ffc_solve.proofs.dialogue.Dialogue.check.Goals as goal

pub returns-clause-ok : goal.returns-clause-ok
returns-clause-ok g c = (
  c.entry-entry.result,
  c.entry-entry.ensures,
  record {
    reader = refl;
    task = refl;
    taken = refl;
    tally = c.count-self.ensures;
    last = record { entry = c.entry-entry.result; fresh = true; core = c.in_ok-core.core; asked = c.args.asked };
    last_is = refl;
    remembers = record { entry_is = refl; fresh = refl; core_is = c.in_ok-core.ensures ∙ ap (λ fs. core c.entry-entry.result (length fs)) c.check.ensures.in_force; asked_is = refl };
  },
  c.in_ok-tell.ensures.ok.0,
  c.in_ok-tell.ensures.ok.1,
)
