use Rattle.std.proofs.Common.{inr, rules}
use Rattle.rows_solver.proofs.tables.put.Goals as goal

pub intern-requires-clause-numbered : goal.intern-requires-clause-numbered
intern-requires-clause-numbered c = inr (search (rules, c.if-not-is_plain.ensures.numbered))
