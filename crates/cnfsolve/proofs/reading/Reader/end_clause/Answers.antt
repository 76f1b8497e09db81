use Rattle.std.proofs.Common.{◌≡◌, true, rules, arith}
use Rattle.std.specs.Prelude.{nat_lt}
use Rattle.std.specs.List.{list_all}
use Rattle.std.proofs.lemmas.Grind.{common_steps}
use Rattle.ffc_clause.specs.Clauses.{Literal}
use Rattle.ffc_cdcl.specs.State.{AllBelow}
use Rattle.cnfsolve.proofs.FreshLemmas.{all_below}
use Rattle.cnfsolve.proofs.reading.Reader.end_clause.Goals as goal

pub returns-clause-ok : goal.returns-clause-ok
returns-clause-ok c =
    let below : AllBelow c.args.self.now.formula.nodes c.args.self.now.clause = search rules in
    rw (all_below c.args.self.now.formula.nodes c.args.self.now.clause below) (first_of (search rules, grind (arith, common_steps)))
