use Rattle.std.proofs.Common.{◌≡◌, ◌+◌, ◌<◌, All, length, map, set, ℕ, List, Vec, Global, ◌++◌, ◌∷◌, [], refl, sym, ap, ◌∙◌, subst, arith}
use Rattle.std.proofs.lemmas.List.{take_all, get_or_read, length-replicate, with_items_is}
use Rattle.std.proofs.lemmas.List.Elements.{All-more}
use Rattle.ffc_echelon.specs.Vectors.{AreCoordinates}
use Rattle.ffc_echelon.specs.Placing.{AreGroups, EndsBefore, IsLastUnknown, vector_at, group_at}
use Rattle.ffc_echelon.proofs.ColumnLemmas.{no_groups_yet, group_none, group_pushed}
use Rattle.ffc_echelon.proofs.grouping.groups_of.Goals as goal
use Rattle.ffc_echelon.proofs.grouping.groups_of.Goals.{in-Some+in_ok-append, in_default}

pub loop-number-init : goal.loop-number-init
loop-number-init g c = record {
  groups =
      (let empty = c.in_ok-groups.ensures in
      no_groups_yet g.F.Field.ORDER g.F.Field.value c.args.unknowns c.args.forms.now (map (λ h. h.items) c.in_ok-groups.groups.items) (ap length empty ∙ length-replicate c.args.unknowns []) empty);
  valid = λ k d few. absurd (omega arith);
}

pub loop-number-preserved : goal.loop-number-preserved
loop-number-preserved g c =
    let p = g.F.Field.ORDER in
    let value = g.F.Field.value in
    let n = c.args.unknowns in
    let forms = c.args.forms.now in
    let i = c.loop-number.number in
    let form = c.index-forms-number.result in
    let inside : i < length forms = omega arith in
    let here : form ≡ vector_at forms i = get_or_read forms i form inside c.index-forms-number.is [] in
    record {
      groups = elim c.match-last_unknown.branch as (λ _. AreGroups p value n forms (i + 1) (map (λ h. h.items) c.match-last_unknown.groups.items)) [
        | in-Some+in_ok-append w ↦
            subst (AreGroups p value n forms (i + 1)) (sym (ap (λ gs. map (λ h. h.items) gs.items) w.groups-is ∙ ap (map (λ h. h.items)) (with_items_is c.loop-number.groups w.append.new.groups (let kept = w.append.auto.groups in let long = w.as_mut_slice.ensures.len in omega arith)) ∙ w.in_ok-append.ensures
            ∙ ap (λ (gs : List (Vec (ℕ × g.row.F.Denot) Global)). set (map (λ h. h.items) gs) w.in-Some.last.0 (group_at (map (λ h. h.items) gs) w.in-Some.last.0 ++ (i, w.inverse_of-inverse.result) ∷ [])) w.as_mut_slice.ensures.value))
            (group_pushed p value n forms i w.in-Some.last.0 (value w.in-Some.last.1) (i, w.inverse_of-inverse.result) (map (λ h. h.items) c.loop-number.groups.items) refl inside
            (subst (λ v. IsLastUnknown n v w.in-Some.last.0 (value w.in-Some.last.1)) here w.in-Some.ensures.last) w.inverse_of-inverse.ensures c.loop-number.invariant.groups)
        | in_default w ↦
            subst (λ gs. AreGroups p value n forms (i + 1) (map (λ h. h.items) gs.items)) (sym w.groups-is)
            (group_none p value n forms i (map (λ h. h.items) c.loop-number.groups.items) (subst (EndsBefore n 0) here w.in_default.ensures.last) c.loop-number.invariant.groups)
      ];
      valid = All-more (AreCoordinates p) forms i [] inside c.loop-number.invariant.valid (subst (AreCoordinates p) here c.last_unknown.ensures.valid);
    }

pub returns-clause-valid : goal.returns-clause-valid
returns-clause-valid g c =
    let i = c.loop-number.number in
    subst (All (AreCoordinates g.F.Field.ORDER)) (take_all i c.args.forms.now (omega arith)) c.loop-number.invariant.valid

pub returns-clause-groups : goal.returns-clause-groups
returns-clause-groups g c =
    let p = g.F.Field.ORDER in
    let value = g.F.Field.value in
    let done : c.loop-number.number ≡ length c.args.forms.now = omega arith in
    subst (λ k. AreGroups p value c.args.unknowns c.args.forms.now k (map (λ h. h.items) c.loop-number.groups.items)) done c.loop-number.invariant.groups
