use Rattle.std.proofs.Common.{◌≡◌, map, drop}
use Rattle.ffc_smt.specs.Meaning.{found}
use Rattle.ffc_parts.proofs.tables.found_in.Given as goal

-- what is left of the table has what the whole table has
abbrev pub invariant-loop-text : goal.invariant-loop-text
invariant-loop-text g l = found (map (λ e. (e.0.now, e.1)) (drop l.text-index l.table)) l.name ≡ found (map (λ e. (e.0.now, e.1)) l.table) l.name
