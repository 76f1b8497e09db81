use Rattle.std.proofs.Common.{◌++◌, [], ◌∷◌, get_or, sym, ap, ◌∙◌}
use Rattle.ffc_macaulay.proofs.ListLemmas.{place_found, place_missed}
use Rattle.ffc_macaulay.proofs.columns.place_of.Goals as goal

pub returns-in-Some-clause-place : goal.returns-in-Some-clause-place
returns-in-Some-clause-place c = place_found c.args.unknowns.now.keys c.args.m.now c.in-Some.place (sym c.in-Some.ensures.index)

pub returns-in-None-clause-place : goal.returns-in-None-clause-place
returns-in-None-clause-place c =
    ap (λ k. get_or (c.args.unknowns.now.keys ++ [] ∷ []) k []) c.len.ensures.len
    ∙ place_missed c.args.unknowns.now.keys c.args.m.now (sym c.in-None.ensures.found) c.requires
