use Rattle.std.proofs.Common.{◌≡◌, ◌≢◌, ◌+◌, ◌*◌, ◌++◌, ℕ, List, All, Ok, length, map, take, drop, get_or, count_by, is_none, is_some, sym, ap, ◌∙◌, subst, arith}
use Rattle.std.proofs.lemmas.List.{take_at}
use Rattle.ffc_base.specs.declared.meter.Unit.TheVariants as unit
use Rattle.ffc_base.specs.declared.stop.Stop.TheVariants as stops
use Rattle.ffc_echelon.specs.Forms.{IsSolution}
use Rattle.ffc_echelon.specs.Vectors.{dot}
use Rattle.ffc_echelon.specs.Placing.{AreGroups, form_of}
use Rattle.ffc_echelon.proofs.PlacingLemmas.{free_from_avoided, is_solution, all_units}
use Rattle.ffc_echelon.proofs.TrialLemmas.{none_taken, taken_later, taken_of, takes_later, takes_freely, spent_part, not_spent}
use Rattle.ffc_echelon.proofs.solution.solve.Goals as goal

abbrev get_or_zero : List ℕ → ℕ → ℕ
get_or_zero xs k = get_or xs k 0

pub place_free_unknowns-requires-clause-groups : goal.place_free_unknowns-requires-clause-groups
place_free_unknowns-requires-clause-groups g c =
    let p = g.F.Field.ORDER in
    let value = g.F.Field.value in
    let forms = c.args.forms.now in
    subst (λ n. AreGroups p value n forms (length forms) (map (λ h. h.items) c.as_slice.result.now)) (sym c.requires.leads.long)
    (subst (λ gs. AreGroups p value c.args.unknowns forms (length forms) (map (λ h. h.items) gs)) (sym c.as_slice.ensures.value) c.in_ok-groups.ensures.groups)

pub place_free_unknowns-requires-clause-free : goal.place_free_unknowns-requires-clause-free
place_free_unknowns-requires-clause-free g c = λ k d inside.
    free_from_avoided g.F.Field.ORDER c.args.unknowns c.args.rows.now c.args.leads.now (get_or c.args.forms.now k d) c.requires.leads (c.in_ok-groups.ensures.valid k d inside) (c.requires.forms k d inside)

pub returns-in_err-place_free_unknowns-clause-units : goal.returns-in_err-place_free_unknowns-clause-units
returns-in_err-place_free_unknowns-clause-units g c =
    let leads = c.args.leads.now in
    let f = length c.args.forms.now in
    let all = all_units leads c.args.unknowns f c.requires.leads.long in
    takes_later unit.Trial 0 (count_by is_none leads * (f + 1)) (c.args.unknowns * (f + 1)) stops.Spent c.place_free_unknowns.result c.from_residual-in_err-place_free_unknowns.result c.args.meter.now c.args.meter.now c.place_free_unknowns.new.meter (omega arith)
    (spent_part c.place_free_unknowns.result c.from_residual-in_err-place_free_unknowns.result c.in_err-place_free_unknowns.field-0.0 stops.Spent c.in_err-place_free_unknowns.was c.from_residual-in_err-place_free_unknowns.ensures.1) (none_taken unit.Trial 0 c.args.meter.now) c.place_free_unknowns.ensures.units

pub returns-in_err-place_leading_unknowns-clause-units : goal.returns-in_err-place_leading_unknowns-clause-units
returns-in_err-place_leading_unknowns-clause-units g c =
    let leads = c.args.leads.now in
    let f = length c.args.forms.now in
    let free = count_by is_none leads * (f + 1) in
    takes_later unit.Trial free (count_by is_some leads) (c.args.unknowns * (f + 1)) stops.Spent c.place_leading_unknowns.result c.from_residual-in_err-place_leading_unknowns.result c.args.meter.now c.place_free_unknowns.new.meter c.place_leading_unknowns.new.meter (all_units leads c.args.unknowns f c.requires.leads.long)
    (spent_part c.place_leading_unknowns.result c.from_residual-in_err-place_leading_unknowns.result c.in_err-place_leading_unknowns.field-0.0 stops.Spent c.in_err-place_leading_unknowns.was c.from_residual-in_err-place_leading_unknowns.ensures.1)
    (taken_of unit.Trial free stops.Spent c.place_free_unknowns.result c.args.meter.now c.place_free_unknowns.new.meter c.place_free_unknowns.ensures.units) c.place_leading_unknowns.ensures.units

pub returns-clause-found : goal.returns-clause-found
returns-clause-found g c =
    let value = g.F.Field.value in
    let p = g.F.Field.ORDER in
    let n = c.args.unknowns in
    let rows = c.args.rows.now in
    let forms = c.args.forms.now in
    let first = c.in_ok-point.point in
    let mid = c.place_free_unknowns.new.point in
    let lent = c.as_mut_slice-2.result.now in
    let point = c.place_leading_unknowns.new.point in
    let long_mid : length mid ≡ first.len = c.place_free_unknowns.auto.point ∙ c.as_mut_slice.ensures.len in
    let same : lent ≡ mid = c.as_mut_slice-2.ensures.value ∙ take_at mid (drop (length mid) first.items) first.len long_mid in
    let long_point : length point ≡ first.len = c.place_leading_unknowns.auto.point ∙ ap length same ∙ long_mid in
    let long : length point ≡ n + 1 =
    c.place_leading_unknowns.auto.point ∙ ap length same ∙ c.place_free_unknowns.auto.point ∙ ap length c.as_mut_slice.ensures.value ∙ c.in_ok-point.ensures.long in
    let one : get_or (map value point) n 0 ≡ 1 =
    ap (get_or_zero (map value point)) (sym c.requires.leads.long) ∙ c.in_ok-place_leading_unknowns.ensures.one
    ∙ ap (λ l. get_or (map value l) (length c.args.leads.now) 0) same ∙ c.in_ok-place_free_unknowns.ensures.one in
    let whole = take_at point (drop (length point) (take first.len (mid ++ drop (length mid) first.items))) first.len long_point in
    subst (λ (q : List ℕ). IsSolution p (form_of n rows) forms q) (sym (ap (map value) (c.truncate.ensures.items ∙ ap (take n) whole)))
    (is_solution p n value rows forms lent point long one c.in_ok-place_leading_unknowns.ensures.zeros c.requires.forms c.in_ok-groups.ensures.valid c.in_ok-place_leading_unknowns.ensures.kept
    (subst (λ l. All (λ v. dot p (map value l) v ≢ 0) forms) (sym same) c.in_ok-place_free_unknowns.ensures.apart))

pub returns-clause-units : goal.returns-clause-units
returns-clause-units g c =
    let leads = c.args.leads.now in
    let f = length c.args.forms.now in
    let free = count_by is_none leads * (f + 1) in
    let bound = c.args.unknowns * (f + 1) in
    takes_freely unit.Trial bound stops.Spent (Ok c.truncate.new.self) c.args.meter.now c.place_leading_unknowns.new.meter (not_spent c.truncate.new.self stops.Spent)
    (taken_later unit.Trial free (count_by is_some leads) bound c.args.meter.now c.place_free_unknowns.new.meter c.place_leading_unknowns.new.meter (all_units leads c.args.unknowns f c.requires.leads.long)
    (taken_of unit.Trial free stops.Spent c.place_free_unknowns.result c.args.meter.now c.place_free_unknowns.new.meter c.place_free_unknowns.ensures.units)
    (taken_of unit.Trial (count_by is_some leads) stops.Spent c.place_leading_unknowns.result c.place_free_unknowns.new.meter c.place_leading_unknowns.new.meter c.place_leading_unknowns.ensures.units))
