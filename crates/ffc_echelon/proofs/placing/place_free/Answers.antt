use Rattle.std.proofs.Common.{◌≡◌, ◌+◌, ◌<◌, Some, false, length, drop, slice_get, sym, ap, ◌∙◌, subst, arith, mod-eq_of_lt}
use Rattle.std.proofs.lemmas.List.{take_at, length-replicate}
use Rattle.std.proofs.lemmas.Option.{slice_get_within}
use Rattle.ffc_echelon.specs.Placing.{AreApart}
use Rattle.ffc_echelon.proofs.PlacingLemmas.{placed_differs, placed_is}
use Rattle.ffc_echelon.proofs.placing.place_free.Goals as goal

pub returns-clause-placed : goal.returns-clause-placed
returns-clause-placed g c = placed_differs g.F.Field.value c.args.column c.of.result c.args.point.now c.requires.inside

pub returns-clause-apart : goal.returns-clause-apart
returns-clause-apart g c =
    let value = g.F.Field.value in
    let p = g.F.Field.ORDER in
    let k = c.args.column in
    let r = c.in_ok-residue.residue in
    let found = c.in_ok-residue.ensures.found in
    let kept = c.mark_roots.auto.marks in
    let lent = c.as_mut_slice.ensures.len in
    let long : length c.mark_roots.new.marks ≡ c.in_ok-marks.marks.len = omega arith in
    let same : c.as_slice.result.now ≡ c.mark_roots.new.marks =
    c.as_slice.ensures.value ∙ take_at c.mark_roots.new.marks (drop (length c.mark_roots.new.marks) c.in_ok-marks.marks.items) c.in_ok-marks.marks.len long in
    let marked : slice_get c.mark_roots.new.marks r ≡ Some false = ap (λ l. slice_get l r) (sym same) ∙ found in
    let inside : r < length c.mark_roots.new.marks = slice_get_within c.mark_roots.new.marks r false marked in
    let count : length c.mark_roots.new.marks ≡ length c.args.group.now + 1 =
    kept ∙ ap length (c.as_mut_slice.ensures.value ∙ c.in_ok-marks.ensures) ∙ length-replicate (length c.args.group.now + 1) false in
    let low : r < p = omega (arith, c.requires.few) in
    subst (λ q. AreApart p q c.args.forms.now c.args.group.now) (placed_is value k r c.of.result c.args.point.now (c.of.ensures ∙ mod-eq_of_lt low)) (c.mark_roots.ensures.apart r marked)
