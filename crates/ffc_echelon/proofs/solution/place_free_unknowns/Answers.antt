use Rattle.std.proofs.Common.{◌≡◌, Bool, not, ◌+◌, ◌*◌, ◌<◌, ◌≤◌, ℕ, List, Ok, All, length, map, take, get_or, count_by, is_none, sym, ap, ◌∙◌, subst, arith}
use Rattle.std.proofs.lemmas.List.{length-map, get_or-set_other}
use Rattle.ffc_base.specs.declared.meter.Unit.TheVariants as unit
use Rattle.ffc_base.specs.declared.stop.Stop.TheVariants as stops
use Rattle.ffc_echelon.specs.Vectors.{IsBelow}
use Rattle.ffc_echelon.specs.Placing.{AreApart, Excludes}
use Rattle.ffc_echelon.proofs.PlacingLemmas.{AreSettled, settled_first, settled_leading, settled_free, settled_all, group_is, some_lead, free_more, free_same, free_within}
use Rattle.ffc_echelon.proofs.TrialLemmas.{IsTaken, none_taken, taken_more, taken_later, taken_of, takes_later, takes_freely, spent_part, not_spent}
use Rattle.ffc_echelon.proofs.solution.place_free_unknowns.Goals as goal
use Rattle.ffc_echelon.proofs.solution.place_free_unknowns.Goals.{then-is_none+in_ok-place_free, else-is_none}

is_some_not : {b r t : Bool} → b ≡ not r → r ≡ t → b ≡ not t
is_some_not e f = e ∙ ap not f

pub loop-column-init : goal.loop-column-init
loop-column-init g c =
    let value = g.F.Field.value in
    record {
      settled = settled_first g.F.Field.ORDER value c.args.leads.now c.args.forms.now (map (λ h. h.items) c.args.groups.now) c.requires.free c.requires.groups (map value c.args.point.now) c.requires.one;
      one = c.requires.one;
      taken = none_taken unit.Trial (0 * (length c.args.forms.now + 1)) c.args.meter.now;
    }

pub place_free-requires-clause-within : goal.place_free-requires-clause-within
place_free-requires-clause-within g c = λ k d inside.
    (let long : length c.args.leads.now + 1 ≡ length c.loop-column.point = (let kept = c.loop-column.auto.point in omega (arith, c.requires.long)) in
    subst (λ n. IsBelow n (get_or c.args.forms.now k d)) long (c.requires.free k d inside).within)

pub place_free-requires-clause-group : goal.place_free-requires-clause-group
place_free-requires-clause-group g c =
    let groups = c.args.groups.now in
    let k = c.loop-column.column in
    let inside : k < length groups = omega (arith, c.requires.groups.long, length-map groups (λ h. h.items)) in
    subst (All (Excludes g.F.Field.ORDER g.F.Field.value c.args.forms.now k)) (group_is groups k c.index-groups-column.result c.as_slice-group.result.now inside c.index-groups-column.is c.as_slice-group.ensures.value) (c.requires.groups.exclude k)

pub place_free-requires-clause-few : goal.place_free-requires-clause-few
place_free-requires-clause-few g c =
    let groups = c.args.groups.now in
    let k = c.loop-column.column in
    let inside : k < length groups = omega (arith, c.requires.groups.long, length-map groups (λ h. h.items)) in
    let same = ap length (group_is groups k c.index-groups-column.result c.as_slice-group.result.now inside c.index-groups-column.is c.as_slice-group.ensures.value) in
    omega (arith, c.requires.groups.short k, c.requires.few)

pub returns-in_err-place_free-clause-units : goal.returns-in_err-place_free-clause-units
returns-in_err-place_free-clause-units g c =
    let groups = c.args.groups.now in
    let leads = c.args.leads.now in
    let k = c.loop-column.column in
    let f = length c.args.forms.now in
    let d = length c.as_slice-group.result.now in
    let inside : k < length groups = omega (arith, c.requires.groups.long, length-map groups (λ h. h.items)) in
    let same = ap length (group_is groups k c.index-groups-column.result c.as_slice-group.result.now inside c.index-groups-column.is c.as_slice-group.ensures.value) in
    let few : d ≤ f = omega (arith, c.requires.groups.short k) in
    let more = free_more leads k d f (omega arith) c.if-is_none.ensures few in
    let all = free_within leads (k + 1) f in
    takes_later unit.Trial (count_by is_none (take k leads) * (f + 1)) (d + 1) (count_by is_none leads * (f + 1)) stops.Spent c.place_free.result c.from_residual.result c.args.meter.now c.loop-column.meter c.place_free.new.meter (omega arith)
    (spent_part c.place_free.result c.from_residual.result c.in_err-place_free.field-0.0 stops.Spent c.in_err-place_free.was c.from_residual.ensures.1) c.loop-column.invariant.taken c.place_free.ensures.units

pub loop-column-preserved : goal.loop-column-preserved
loop-column-preserved g c =
    let value = g.F.Field.value in
    let p = g.F.Field.ORDER in
    let groups = c.args.groups.now in
    let lists = map (λ h. h.items) groups in
    let leads = c.args.leads.now in
    let forms = c.args.forms.now in
    let n = length leads in
    let k = c.loop-column.column in
    let f = length forms in
    let old = map value c.loop-column.point in
    let inside : k < n = omega arith in
    let within : k < length groups = omega (arith, c.requires.groups.long, length-map groups (λ h. h.items)) in
    let long : length old ≡ n + 1 = (let kept = c.loop-column.auto.point in omega (arith, c.requires.long, length-map c.loop-column.point value)) in
    record {
      settled = elim c.if-is_none.branch as (λ _. AreSettled p n (map value c.if-is_none.point) forms (k + 1)) [
        | then-is_none+in_ok-place_free w ↦
            let new = map value w.place_free.new.point in
            let group = group_is groups k w.index-groups-column.result w.as_slice-group.result.now within w.index-groups-column.is w.as_slice-group.ensures.value in
            subst (λ l. AreSettled p n (map value l) forms (k + 1)) (sym w.point-is)
            (settled_free p value leads forms lists c.requires.free c.requires.groups k (get_or new k 0) old new inside long w.in_ok-place_free.ensures.placed
            (subst (AreApart p new forms) (sym group) w.in_ok-place_free.ensures.apart) c.loop-column.invariant.settled)
        | else-is_none w ↦
            let lead = some_lead leads k inside (is_some_not c.is_none.ensures w.if-is_none.false) in
            subst (λ l. AreSettled p n (map value l) forms (k + 1)) (sym w.point-is)
            (settled_leading p value leads forms lists c.requires.free c.requires.groups k lead.0 old lead.1 c.loop-column.invariant.settled)
      ];
      one = elim c.if-is_none.branch as (λ _. get_or (map value c.if-is_none.point) n 0 ≡ 1) [
        | then-is_none+in_ok-place_free w ↦
            let new = map value w.place_free.new.point in
            ap (λ l. get_or (map value l) n 0) w.point-is
            ∙ ap (λ (l : List ℕ). get_or l n 0) w.in_ok-place_free.ensures.placed
            ∙ get_or-set_other old k n (get_or new k 0) 0 (omega arith) ∙ c.loop-column.invariant.one
        | else-is_none w ↦ ap (λ l. get_or (map value l) n 0) w.point-is ∙ c.loop-column.invariant.one
      ];
      taken = elim c.if-is_none.branch as (λ _. IsTaken unit.Trial (count_by is_none (take (k + 1) leads) * (f + 1)) c.args.meter.now c.if-is_none.meter) [
        | then-is_none+in_ok-place_free w ↦
            let d = length w.as_slice-group.result.now in
            let same = ap length (group_is groups k w.index-groups-column.result w.as_slice-group.result.now within w.index-groups-column.is w.as_slice-group.ensures.value) in
            let few : d ≤ f = omega (arith, c.requires.groups.short k) in
            let more = free_more leads k d f inside (is_some_not c.is_none.ensures w.if-is_none.true) few in
            subst (IsTaken unit.Trial (count_by is_none (take (k + 1) leads) * (f + 1)) c.args.meter.now) (sym w.meter-is)
            (taken_later unit.Trial (count_by is_none (take k leads) * (f + 1)) (d + 1) (count_by is_none (take (k + 1) leads) * (f + 1)) c.args.meter.now c.loop-column.meter w.place_free.new.meter more c.loop-column.invariant.taken
            (taken_of unit.Trial (d + 1) stops.Spent w.place_free.result c.loop-column.meter w.place_free.new.meter w.place_free.ensures.units))
        | else-is_none w ↦
            let lead = is_some_not c.is_none.ensures w.if-is_none.false in
            subst (IsTaken unit.Trial (count_by is_none (take (k + 1) leads) * (f + 1)) c.args.meter.now) (sym w.meter-is)
            (subst (λ b. IsTaken unit.Trial b c.args.meter.now c.loop-column.meter) (free_same leads k f inside lead) c.loop-column.invariant.taken)
      ];
    }

pub returns-clause-apart : goal.returns-clause-apart
returns-clause-apart g c =
    settled_all g.F.Field.ORDER g.F.Field.value c.args.leads.now c.args.forms.now (map (λ h. h.items) c.args.groups.now) c.requires.free c.requires.groups (map g.F.Field.value c.loop-column.point) c.loop-column.column (omega arith) c.loop-column.invariant.settled

pub returns-clause-units : goal.returns-clause-units
returns-clause-units g c =
    let leads = c.args.leads.now in
    let f = length c.args.forms.now in
    let all = free_within leads c.loop-column.column f in
    takes_freely unit.Trial (count_by is_none leads * (f + 1)) stops.Spent (Ok tt) c.args.meter.now c.loop-column.meter (not_spent tt stops.Spent)
    (taken_more unit.Trial (count_by is_none (take c.loop-column.column leads) * (f + 1)) (count_by is_none leads * (f + 1)) c.args.meter.now c.loop-column.meter all c.loop-column.invariant.taken)
