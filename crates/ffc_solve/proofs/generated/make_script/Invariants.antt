use Rattle.std.proofs.Common.{◌≡◌, ◌++◌, string_bytes}
use Rattle.ffc_solve.specs.Generated.{head_text, steps_text}
use Rattle.ffc_solve.proofs.generated.make_script.Given as goal

abbrev pub invariant-loop-i : goal.invariant-loop-i
invariant-loop-i l = string_bytes l.text ≡ head_text ++ steps_text 1 l.i
