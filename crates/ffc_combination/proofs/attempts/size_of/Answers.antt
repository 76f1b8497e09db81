use Rattle.ffc_combination.proofs.AttemptLemmas.{counted_none}
use Rattle.ffc_combination.proofs.attempts.size_of.Goals as goal

pub returns-clause-none : goal.returns-clause-none
returns-clause-none c =
    counted_none c.args.degree c.args.choice.now.variables.items c.args.choice.now.degrees.items c.as_slice.result.now c.as_slice-2.result.now c.counted.result
    c.as_slice.ensures.value c.as_slice-2.ensures.value c.counted.ensures.exactly.1
