use Rattle.std.proofs.Common.{unwrap_or, option_map, ◌≡◌, true, false, [], map, codes, refl, sym, ap, ◌∙◌, subst}
use Rattle.std.specs.Str.Parse.{ParsesUnsigned, ExplainsUnsignedError, HasUnsignedDigitsIfOk}
use Rattle.clap.specs.Words.{fault_of, first_of, found_of, HasKind, is_simple, is_simple_and_free, matches_of, one_of}
use Rattle.clap.proofs.OnLiterals.{clap_on_literals}
use Rattle.clap.proofs.WalkLemmas.{first_value-rows, one_text-rows}
use Rattle.ffc_solve.specs.Arguments.{IsInRange, is_set, number_read, solve_app}
use Rattle.ffc_solve.proofs.ArgumentLemmas.{not_taken, one_number, range_or}
use Rattle.ffc_solve.proofs.GivenLemmas.{make_passes, steps_pass}
use Rattle.ffc_solve.proofs.arguments.Plan.read.Goals as goal

simple_and_free : is_simple_and_free solve_app ≡ true
unfolding clap_on_literals
simple_and_free = refl

simple : is_simple solve_app ≡ true
unfolding clap_on_literals
simple = refl

pub returns-in-Err-clause-usage : goal.returns-in-Err-clause-usage
returns-in-Err-clause-usage c = λ is.
    let e = c.in_ok-command.ensures in
    let words = map (λ w. w.now) c.args.words.now in
    let kinds = c.in-Err.ensures.kinds (ap is_simple_and_free e ∙ simple_and_free) in
    not_taken (fault_of solve_app words) c.in-Err.error (subst (λ a. HasKind (fault_of a words) c.in-Err.error) e kinds) (c.stop_of.ensures (cc))

pub returns-clause-plan : goal.returns-clause-plan
returns-clause-plan c =
    let e = c.in_ok-command.ensures in
    let words = map (λ w. w.now) c.args.words.now in
    let f = found_of c.in-Ok.matches in
    let rows = (c.in-Ok.ensures.matches (ap is_simple e ∙ simple)).0 ∙ ap (λ a. matches_of a words) e in
    let parsed = c.in-Ok.ensures.parsed in
    let steps = one_number _ (λ t r. ParsesUnsigned 64 10 t r × ExplainsUnsignedError 10 t r × HasUnsignedDigitsIfOk t r) f (codes "steps") 1000000000000 c.get_one-steps.result (λ t r g. g.0) c.get_one-steps.ensures.none c.get_one-steps.ensures.value
    (steps_pass c.in_ok-command.command c.in-Ok.matches e parsed) in
    let make = one_number _ (λ t r. ParsesUnsigned 64 10 t r × ExplainsUnsignedError 10 t r × HasUnsignedDigitsIfOk t r) f (codes "make") 10000 c.get_one-make.result (λ t r g. g.0) c.get_one-make.ensures.none c.get_one-make.ensures.value
    (make_passes c.in_ok-command.command c.in-Ok.matches e parsed) in
    record {
      taken = ap (λ a. fault_of a words) (sym e) ∙ c.in-Ok.ensures.kinds (ap is_simple_and_free e ∙ simple_and_free);
      cert = c.in_ok-from_str.ensures.ok ∙ c.text_in-name.ensures ∙ ap (λ o. unwrap_or o []) (first_value-rows f (codes "cert") ∙ ap (first_of (codes "cert")) rows);
      steps = c.unwrap_or.ensures ∙ ap (λ o. unwrap_or o 1000000) (steps.is ∙ ap (option_map number_read) (one_text-rows f (codes "steps") ∙ ap (one_of (codes "steps")) rows));
      make = make.is ∙ ap (option_map number_read) (one_text-rows f (codes "make") ∙ ap (one_of (codes "make")) rows);
      bits = c.has_flag.ensures ∙ ap (λ o. unwrap_or (option_map is_set o) false) (first_value-rows f (codes "bits") ∙ ap (first_of (codes "bits")) rows);
      steps_in = subst (IsInRange 1000000000000) (sym c.unwrap_or.ensures) (range_or c.get_one-steps.result steps.within);
      make_in = make.within;
    }

pub returns-clause-refused : goal.returns-clause-refused
returns-clause-refused c = λ refused. absurd (refused (returns-clause-plan c).taken)
