use Rattle.std.proofs.Common.{◌≡◌, map, take}
use Rattle.ffc_lex.specs.Names.{written_symbol}
use Rattle.ffc_rules.specs.Cores.{names_at}
use Rattle.ffc_verify.proofs.lines.symbols_at.Given as goal

abbrev pub invariant-loop-number : goal.invariant-loop-number
invariant-loop-number l = l.texts.items ≡ map written_symbol (names_at l.names (take l.number-index l.numbers))
