-- Places of words, as readers keep them.
use Rattle.std.specs.Prelude.{ℕ}
use Rattle.ffc_smt.specs.Trees.{Word}
use Rattle.ffc_smt.specs.Faults.{Fault}
use Rattle.ffc_terms.specs.declared.frames.Place.{Place}

abbrev pub place_of : Word → Place
place_of w = record { line = w.line; column = w.column }

abbrev pub fault : ℕ → Place → Fault
fault code p = record { line = p.line; column = p.column; code = code }
