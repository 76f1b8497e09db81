use Rattle.std.proofs.Common.{◌≡◌, ◌≤◌, ◌-◌, suc, get_or, subst, arith}
use Rattle.ffc_check.specs.Arena.{start_of}
use Rattle.ffc_check.proofs.ArenaLemmas.{start_le_end, end_le_last}
use Rattle.ffc_check.proofs.arena.bounds.Goals as goal

pub returns-then-k-eq0-clause-within : goal.returns-then-k-eq0-clause-within
returns-then-k-eq0-clause-within c = end_le_last 0 c.args.ends.now 0 (omega (arith, c.requires.inside)) c.requires.in_order

pub returns-else-k-eq0-clause-in_order : goal.returns-else-k-eq0-clause-in_order
returns-else-k-eq0-clause-in_order c =
    let k = c.args.k in
    let later : k ≡ suc (k - 1) = omega (arith, c.if-k-eq0.false) in
    subst (λ j. start_of 0 c.args.ends.now j ≤ get_or c.args.ends.now k 0) later (start_le_end 0 c.args.ends.now k c.requires.inside c.requires.in_order)

pub returns-else-k-eq0-clause-within : goal.returns-else-k-eq0-clause-within
returns-else-k-eq0-clause-within c = end_le_last 0 c.args.ends.now c.args.k c.requires.inside c.requires.in_order
