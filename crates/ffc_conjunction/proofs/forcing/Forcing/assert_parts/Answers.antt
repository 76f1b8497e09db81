use Rattle.std.proofs.Common.{◌≡◌, ◌+◌, ◌<◌, [], ◌∷◌, ◌++◌, length, take, get_or, refl, sym, ap, ◌∙◌, subst, rules, arith}
use Rattle.std.proofs.lemmas.Grind.{common_steps}
use Rattle.std.proofs.lemmas.List.{take_more}
use Rattle.std.proofs.lemmas.Option.{slice_get-get_or}
use Rattle.ffc_clause.specs.Clauses.{plus}
use Rattle.ffc_refutation.specs.declared.reason.Reason.TheVariants as reason
use Rattle.ffc_rules.specs.Cones.{is_listed}
use Rattle.ffc_rules.proofs.StepLemmas.{listed_right}
use Rattle.ffc_conjunction.specs.Forced.{Gives}
use Rattle.ffc_conjunction.proofs.ForcedLemmas.{IsForced-same}
use Rattle.ffc_conjunction.proofs.ListedLemmas.{is_listed-moved}
use Rattle.ffc_conjunction.proofs.VisitLemmas.{and_gives}
use Rattle.ffc_conjunction.proofs.forcing.Forcing.assert_parts.Goals as goal

pub loop-index-preserved : goal.loop-index-preserved
loop-index-preserved c =
    let ids = c.args.ids.now in
    let node = c.args.node in
    let i = c.loop-index.index in
    let x = get_or ids i 0 in
    let inside : i < length ids = c.loop-index-test.true in
    let number : c.in-Ok.index ≡ i = first_of (search rules, grind (arith, common_steps)) in
    let more : take (i + 1) ids ≡ take i ids ++ x ∷ [] = take_more ids i 0 inside in
    record {
      long = c.assert.ensures.long ∙ c.loop-index.invariant.long;
      forced = λ k found denied at has s.
          IsForced-same k (x ∷ (take i ids ++ found)) (take (i + 1) ids ++ found) denied denied _ _ _
          (λ j. is_listed-moved (take i ids) found x j ∙ ap (λ xs. is_listed (xs ++ found) j) (sym more)) (λ j. refl)
          (c.in_ok-assert.ensures.forced k (take i ids ++ found) denied (c.loop-index.invariant.forced k found denied at has s)
          (subst (λ n. Gives k (take i ids ++ found) (plus x) (reason.Scheme node 0 n)) (sym number)
          (and_gives k (take i ids ++ found) node (listed_right (take i ids) found node has) ids i x at (slice_get-get_or ids i 0 inside))));
    }
