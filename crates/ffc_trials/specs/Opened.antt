-- The order of a refutation's lines, line by line: what is still to come before the next clause, which are trees of a lemma, and
-- before them steps of a chain.
use Rattle.std.specs.Prelude.{ℕ, ◌+◌, ◌-◌, ◌==◌, ◌&&◌, nat_lt, length, Option, Some, None, if◌then◌else◌}
use Rattle.ffc_cert.specs.declared.entries.CertLine.{CertLine}
use Rattle.ffc_cert.specs.declared.entries.CertLine.TheVariants.{Assume, Scheme, Hinted, Lemma, Combine, Bits, Chain, Step, Split, Values, Close}
use Rattle.ffc_trials.specs.declared.readable.Open.{Open}

-- after a clause that calls for so many trees: nothing may be to come before it
abbrev pub opened_by_clause : Open → ℕ → Option Open
opened_by_clause o trees = if o.steps == 0 && o.trees == 0 then Some (record { trees = trees; steps = 0 }) else None

-- after a line of a tree, with so many trees in the place of its own, and so many steps before them
abbrev pub opened_by_tree : Open → ℕ → ℕ → Option Open
opened_by_tree o trees steps = if o.steps == 0 && nat_lt 0 o.trees then Some (record { trees = o.trees - 1 + trees; steps = steps }) else None

-- after a step of a chain
abbrev pub opened_by_step : Open → Option Open
opened_by_step o = if nat_lt 0 o.steps then Some (record { trees = o.trees; steps = o.steps - 1 }) else None

-- after a line, where that line may come there
abbrev pub opened : Open → CertLine → Option Open
opened o (Assume k) = opened_by_clause o 0
opened o (Scheme node scheme index) = opened_by_clause o 0
opened o (Hinted lits hints) = opened_by_clause o 0
opened o (Lemma order lits) = opened_by_clause o 1
opened o (Combine multiples) = opened_by_tree o 1 0
opened o (Bits line chosen polynomial bits) = opened_by_tree o 1 0
opened o (Chain line variable steps) = opened_by_tree o 1 steps
opened o (Step quotient remainder) = opened_by_step o
opened o (Split line variable zeros) = opened_by_tree o (length zeros) 0
opened o (Values variable trees) = opened_by_tree o trees 0
opened o Close = opened_by_tree o 0 0
