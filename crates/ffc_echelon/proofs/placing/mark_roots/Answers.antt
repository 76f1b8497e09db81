use Rattle.std.proofs.Common.{◌≡◌, ◌+◌, ◌<◌, ◌≤◌, ℕ, Some, false, [], length, map, set, take, count_by, slice_get, sym, ap, ◌∙◌, subst, arith}
use Rattle.std.proofs.lemmas.List.{get_or_read}
use Rattle.ffc_echelon.specs.Placing.{is_marked, IsRootIn, AreApart, Excludes, vector_at}
use Rattle.ffc_echelon.proofs.PlacingLemmas.{mark_apart, unmarked_apart, count_set}
use Rattle.ffc_echelon.proofs.placing.mark_roots.Goals as goal
use Rattle.ffc_echelon.proofs.placing.mark_roots.Goals.{then-root-marks, else-root-marks}

pub loop-member-preserved : goal.loop-member-preserved
loop-member-preserved g c =
    let value = g.F.Field.value in
    let p = g.F.Field.ORDER in
    let i = c.loop-member.member-index in
    let point = map value c.args.point.now in
    let forms = c.args.forms.now in
    let group = c.args.group.now in
    let m = c.member-item.result in
    let k = c.args.column in
    let r = c.residue-root.result in
    let marks = c.loop-member.marks in
    let within : i < length group = omega arith in
    let long = c.loop-member.auto.marks in
    let few : length marks ≤ p = omega (arith, c.requires.few) in
    let excludes : Excludes p value forms k m = subst (Excludes p value forms k) (sym c.member-item.is) (c.requires.group i m within) in
    let form : c.index-forms-member.result ≡ vector_at forms m.0 = get_or_read forms m.0 c.index-forms-member.result excludes.there c.index-forms-member.is [] in
    let root : IsRootIn p point (vector_at forms m.0) k r =
    subst (IsRootIn p point (vector_at forms m.0) k) (sym c.residue-root.ensures.value) (subst (λ v. IsRootIn p point v k (value c.root_in.result)) form c.root_in.ensures.root) in
    let before = c.loop-member.invariant.few in
    record {
      few = elim c.if-root-marks.branch as (λ _. count_by is_marked c.if-root-marks.marks ≤ count_by is_marked c.args.marks.now + (i + 1)) [
        | then-root-marks w ↦ (let more = count_set marks r w.if-root-marks.true in let e = ap (count_by is_marked) w.marks-is in omega arith)
        | else-root-marks w ↦ (let e = ap (count_by is_marked) w.marks-is in omega arith)
      ];
      apart = elim c.if-root-marks.branch as (λ _. (y : ℕ) → slice_get c.if-root-marks.marks y ≡ Some false → AreApart p (set point k y) forms (take (i + 1) group)) [
        | then-root-marks w ↦ λ y unmarked.
            mark_apart p k r i point forms group m marks within c.member-item.is few root c.loop-member.invariant.apart y (ap (λ l. slice_get l y) (sym w.marks-is) ∙ unmarked)
        | else-root-marks w ↦ λ y unmarked.
            unmarked_apart p k r i point forms group m marks within c.member-item.is few w.if-root-marks.false root c.loop-member.invariant.apart y (ap (λ l. slice_get l y) (sym w.marks-is) ∙ unmarked)
      ];
    }
