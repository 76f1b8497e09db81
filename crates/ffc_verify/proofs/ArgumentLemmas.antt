-- What the matches of the arguments have.
use Rattle.std.proofs.Common.{◌≡◌, true, List, refl, ap, subst, ◌∙◌}
use Rattle.clap.specs.declared.parser.matches.ArgMatches.{ArgMatches}
use Rattle.clap.specs.Words.{App, Text, HasMatchesOf, is_simple, first_of, first_value, found_of, matches_of}
use Rattle.clap.proofs.OnLiterals.{clap_on_literals}
use Rattle.clap.proofs.WalkLemmas.{first_value-rows}
use Rattle.ffc_verify.specs.Arguments.{check_app}

simple : is_simple check_app ≡ true
unfolding clap_on_literals
simple = refl

pub first_is : (m : ArgMatches) (app : App) (words : List Text) → app ≡ check_app → HasMatchesOf app words m → (id : Text) → first_value (found_of m) id ≡ first_of id (matches_of check_app words)
first_is m app words e h id =
    let has : HasMatchesOf check_app words m = subst (λ a. HasMatchesOf a words m) e h in
    first_value-rows (found_of m) id ∙ ap (first_of id) (has simple).0
