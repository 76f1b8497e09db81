use Rattle.std.proofs.Common.{◌≡◌, ◌<◌, true, false, length, get_or, sym, ap, ◌∙◌, arith}
use Rattle.ffc_rules.specs.Cones.{is_listed}
use Rattle.ffc_core.proofs.CoreLemmas.{core_below}
use Rattle.ffc_core.proofs.checking.first_outside.Goals as goal

pub returns-in-None : goal.returns-in-None
returns-in-None c k listed =
    let count = c.args.count in
    let below : k < count = core_below c.args.entry.now count k listed in
    let used : get_or c.in_ok-used.used.items k false ≡ true = c.in_ok-used.ensures.listed k below ∙ ap (λ ns. is_listed ns k) (c.as_slice.ensures.value ∙ c.in_ok-numbers.ensures) ∙ listed in
    let inside : k < length c.as_slice-2.result.now = omega (arith, below, ap length c.as_slice-2.ensures.value, c.in_ok-used.ensures.len) in
    sym (c.in_ok-among.ensures.listed k below)
    ∙ ap (λ ms. get_or ms k false) (sym c.as_slice-3.ensures.value)
    ∙ c.in-None.ensures.missing k inside (ap (λ ms. get_or ms k false) c.as_slice-2.ensures.value ∙ used)
