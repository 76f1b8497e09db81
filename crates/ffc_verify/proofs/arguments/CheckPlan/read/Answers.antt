use Rattle.std.proofs.Common.{ℕ, List, [], false, codes, map, ap, ◌∙◌}
use Rattle.std.specs.Prelude.{unwrap_or, option_map}
use Rattle.std.specs.Borrow.{Bor}
use Rattle.clap.specs.Words.{app_of}
use Rattle.ffc_verify.specs.Arguments.{is_set}
use Rattle.ffc_verify.proofs.ArgumentLemmas.{first_is}
use Rattle.ffc_verify.proofs.arguments.CheckPlan.read.Goals as goal

pub returns-in-Ok-try_get_matches_from-clause-cert : goal.returns-in-Ok-try_get_matches_from-clause-cert
returns-in-Ok-try_get_matches_from-clause-cert c =
    let words = map (λ (w : Bor (List ℕ)). w.now) c.args.words.now in
    c.plan_of.ensures.cert ∙ ap (λ o. unwrap_or o []) (first_is c.in-Ok-try_get_matches_from.matches (app_of c.in-Ok.command) words c.in-Ok.ensures c.in-Ok-try_get_matches_from.ensures.matches (codes "cert"))

pub returns-in-Ok-try_get_matches_from-clause-cores : goal.returns-in-Ok-try_get_matches_from-clause-cores
returns-in-Ok-try_get_matches_from-clause-cores c =
    let words = map (λ (w : Bor (List ℕ)). w.now) c.args.words.now in
    c.plan_of.ensures.cores ∙ ap (λ o. unwrap_or (option_map is_set o) false) (first_is c.in-Ok-try_get_matches_from.matches (app_of c.in-Ok.command) words c.in-Ok.ensures c.in-Ok-try_get_matches_from.ensures.matches (codes "cores"))

pub returns-in-Ok-try_get_matches_from-clause-bits : goal.returns-in-Ok-try_get_matches_from-clause-bits
returns-in-Ok-try_get_matches_from-clause-bits c =
    let words = map (λ (w : Bor (List ℕ)). w.now) c.args.words.now in
    c.plan_of.ensures.bits ∙ ap (λ o. unwrap_or (option_map is_set o) false) (first_is c.in-Ok-try_get_matches_from.matches (app_of c.in-Ok.command) words c.in-Ok.ensures c.in-Ok-try_get_matches_from.ensures.matches (codes "bits"))
