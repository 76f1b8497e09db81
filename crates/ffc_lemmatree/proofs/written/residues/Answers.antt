use Rattle.std.proofs.Common.{ℕ, ◌<◌, List, [], ◌∷◌, ◌++◌, map, sym, ap, ap₂, ◌∙◌}
use Rattle.std.proofs.lemmas.List.{map-append, take_all}
use Rattle.std.proofs.lemmas.List.Elements.{All-from_recursion}
use Rattle.std.specs.List.{AllByRecursion}
use Rattle.ffc_uni.proofs.Rows.{taken_at}
use Rattle.ffc_lemmatree.proofs.written.residues.Goals as goal

all_below : {F : Type 0} (value : F → ℕ) (p : ℕ) → ((x : F) → value x < p) → (xs : List F) → AllByRecursion (λ z. z < p) (map value xs)
all_below value p below [] = tt
all_below value p below (x ∷ xs) = (below x, all_below value p below xs)

pub loop-place-preserved : goal.loop-place-preserved
loop-place-preserved g c =
    let value = g.F.Field.value in
    c.in_ok-push.ensures.items
    ∙ ap₂ (λ (l : List ℕ) (n : ℕ). l ++ n ∷ []) c.loop-place.invariant c.residue.ensures.value
    ∙ sym (map-append value _ _)
    ∙ ap (map value) (sym (taken_at c.args.elements.now c.loop-place.place c.index-elements-place.result c.loop-place-test.true c.index-elements-place.is))

pub returns-clause-value : goal.returns-clause-value
returns-clause-value g c = c.loop-place.invariant ∙ ap (map g.F.Field.value) (take_all c.loop-place.place c.args.elements.now c.loop-place-test.false)

pub returns-clause-below : goal.returns-clause-below
returns-clause-below g c = All-from_recursion (λ z. z < g.F.Field.ORDER) (map g.F.Field.value c.args.elements.now) (all_below g.F.Field.value g.F.Field.ORDER g.met.F.Field.below c.args.elements.now)
