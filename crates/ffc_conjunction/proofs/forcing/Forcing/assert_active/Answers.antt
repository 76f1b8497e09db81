use Rattle.std.proofs.Common.{◌≡◌, ◌+◌, ◌<◌, [], ◌∷◌, ◌++◌, length, take, get_or, slice_get, refl, sym, ap, ◌∙◌, subst, rules, arith}
use Rattle.std.proofs.lemmas.Grind.{common_steps}
use Rattle.std.proofs.lemmas.List.{take_more}
use Rattle.std.proofs.lemmas.Option.{slice_get-get_or}
use Rattle.ffc_clause.specs.Clauses.{plus}
use Rattle.ffc_refutation.specs.declared.reason.Reason.TheVariants as reason
use Rattle.ffc_rules.specs.Cones.{is_listed}
use Rattle.ffc_conjunction.specs.Forced.{Gives}
use Rattle.ffc_conjunction.proofs.ForcedLemmas.{IsForced-same}
use Rattle.ffc_conjunction.proofs.ListedLemmas.{is_listed-moved}
use Rattle.ffc_conjunction.proofs.VisitLemmas.{active_gives}
use Rattle.ffc_conjunction.proofs.forcing.Forcing.assert_active.Goals as goal

pub loop-number-preserved : goal.loop-number-preserved
loop-number-preserved c =
    let ids = c.args.ids.now in
    let i = c.loop-number.number in
    let x = get_or ids i 0 in
    let inside : i < length ids = c.loop-number-test.true in
    let number : c.in-Ok.number ≡ i = first_of (search rules, grind (arith, common_steps)) in
    let more : take (i + 1) ids ≡ take i ids ++ x ∷ [] = take_more ids i 0 inside in
    record {
      long = c.assert.ensures.long ∙ c.loop-number.invariant.long;
      forced = λ k same s.
          IsForced-same k (x ∷ (take i ids ++ [])) (take (i + 1) ids ++ []) [] [] _ _ _
          (λ j. is_listed-moved (take i ids) [] x j ∙ ap (λ xs. is_listed (xs ++ []) j) (sym more)) (λ j. refl)
          (c.in_ok-assert.ensures.forced k (take i ids ++ []) [] (c.loop-number.invariant.forced k same s)
          (subst (λ n. Gives k (take i ids ++ []) (plus x) (reason.Assertion n)) (sym number)
          (active_gives k (take i ids ++ []) i x (ap (λ xs. slice_get xs i) same ∙ slice_get-get_or ids i 0 inside))));
    }
