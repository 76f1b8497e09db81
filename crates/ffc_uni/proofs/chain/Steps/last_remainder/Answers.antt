use Rattle.std.proofs.Common.{◌<◌, ◌-◌, length, sym, ap, ◌∙◌, arith}
use Rattle.std.proofs.lemmas.Option.{slice_get_within}
use Rattle.ffc_uni.specs.Chains.{last_remainder}
use Rattle.ffc_uni.proofs.StepLemmas.{last_remainder_at}
use Rattle.ffc_uni.proofs.chain.Steps.last_remainder.Goals as goal

pub returns-in-Some : goal.returns-in-Some
returns-in-Some g c =
    let here = sym c.in-Some.ensures.value
    in let within : length c.as_slice.result.now - 1 < length c.as_slice.result.now = slice_get_within _ _ _ here
    in last_remainder_at c.args.first.now c.as_slice.result.now c.in-Some.pair.now (length c.as_slice.result.now - 1) (omega arith) here
    ∙ ap (last_remainder c.args.first.now) c.as_slice.ensures
