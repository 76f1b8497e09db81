use Rattle.std.proofs.Common.{◌<◌, ◌≤◌, [], ◌∷◌, ◌++◌, ℕ, List, length, map, take, get_or, sym, ap, ◌∙◌, arith, take_all}
use Rattle.std.proofs.lemmas.List.{take_more, map_more, map-append}
use Rattle.std.proofs.lemmas.List.Elements.{All-push}
use Rattle.ffc_linear.proofs.ModelLemmas.{paired_values}
use Rattle.ffc_linear.proofs.values.model_of.Goals as goal

pub loop-place-preserved : goal.loop-place-preserved
loop-place-preserved g c =
    let value = g.F.Field.value in
    let ids = c.args.constants.now in
    let xs = c.args.values.now in
    let i = c.loop-place.place in
    let x = c.index-values-place.result in
    let inside : i < length xs = c.loop-place-test.true in
    let within : i < length ids = omega (arith, c.requires) in
    let pair : ℕ × ℕ = (get_or ids i 0, c.residue.result) in
    let old : List (ℕ × ℕ) = c.loop-place.pairs.items in
    rw c.in_ok-push.ensures.items (record {
      constants =
          map-append (λ p. p.0) old (pair ∷ []) ∙ ap (λ ys. ys ++ get_or ids i 0 ∷ []) c.loop-place.invariant.constants
          ∙ sym (take_more ids i 0 within);
      numbers =
          map-append (λ p. p.1) old (pair ∷ []) ∙ ap (λ ys. ys ++ c.residue.result ∷ []) c.loop-place.invariant.numbers
          ∙ ap (λ n. map value (take i xs) ++ n ∷ []) (c.residue.ensures.value ∙ ap value c.index-values-place.is)
          ∙ sym (map_more value xs i x inside);
      below = All-push (λ p. p.1 < g.F.Field.ORDER) old pair c.loop-place.invariant.below c.residue.ensures.below;
    })

pub returns-clause-model : goal.returns-clause-model
returns-clause-model g c = λ check equal unequal system solves.
    (let value = g.F.Field.value in
    let ids = c.args.constants.now in
    let xs = c.args.values.now in
    let i = c.loop-place.place in
    let past : length xs ≤ i = c.loop-place-test.false in
    let beyond : length ids ≤ i = omega (arith, c.requires) in
    paired_values check g.F.Field.ORDER ids (map value xs) c.loop-place.pairs.items equal unequal
    (c.loop-place.invariant.constants ∙ take_all i ids beyond) (c.loop-place.invariant.numbers ∙ ap (map value) (take_all i xs past))
    c.loop-place.invariant.below system solves)
