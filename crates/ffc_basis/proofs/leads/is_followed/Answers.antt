use Rattle.ffc_basis.proofs.leads.is_followed.Goals as goal

pub follows-requires-clause-first_closed : goal.follows-requires-clause-first_closed
follows-requires-clause-first_closed g c = (c.is_closed_between.ensures c.if-not-is_closed_between.false).0

pub follows-requires-clause-second_closed : goal.follows-requires-clause-second_closed
follows-requires-clause-second_closed g c = (c.is_closed_between-2.ensures c.if-not-is_closed_between-2.false).0
