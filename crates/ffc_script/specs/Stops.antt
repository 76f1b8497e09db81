-- Why a reader stops, from why a lexer or a context does.
use Rattle.ffc_lex.specs.declared.faults.LexStop.{LexStop}
use Rattle.ffc_lex.specs.declared.faults.LexStop.TheVariants as lex
use Rattle.ffc_words.specs.declared.faults.TakeStop.{TakeStop}
use Rattle.ffc_words.specs.declared.faults.TakeStop.TheVariants as take
use Rattle.ffc_script.specs.declared.stop.ScriptStop.{ScriptStop}
use Rattle.ffc_script.specs.declared.stop.ScriptStop.TheVariants.{Fault, Memory}

abbrev pub lexing_stop : LexStop → ScriptStop
lexing_stop (lex.Fault f) = Fault f
lexing_stop lex.Memory = Memory

abbrev pub taking_stop : TakeStop → ScriptStop
taking_stop (take.Fault f) = Fault f
taking_stop take.Memory = Memory
