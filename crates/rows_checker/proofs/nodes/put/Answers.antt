use Rattle.std.proofs.Common.{inr, rules}
use Rattle.rows_checker.proofs.nodes.put.Goals as goal

pub intern-requires-clause-numbered : goal.intern-requires-clause-numbered
intern-requires-clause-numbered c = inr (search (rules, c.is_plain.ensures.numbered))
