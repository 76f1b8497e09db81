use Rattle.std.proofs.Common.{◌≡◌, ℕ, List, length, map, take, All, refl, sym, ap, ap₂, ◌∙◌, subst, arith}
use Rattle.std.specs.List.Sorted.{IsStrictlyIncreasing}
use Rattle.ffc_check.specs.Judged.{judged_check}
use Rattle.ffc_refutation.specs.declared.combination.Determined.{Determined}
use Rattle.ffc_term.specs.declared.value.Value.{Value}
use Rattle.ffc_combination.specs.Values.{AreValuesUnder, IsFieldConstant}
use Rattle.ffc_combination.proofs.SolutionLemmas.{missed, model, one_value_each, pairs_constants, pairs_increase, tested_inside}
use Rattle.ffc_combination.proofs.solving.settled.Goals as goal

pub slice_bounds-constants-end : goal.slice_bounds-constants-end
slice_bounds-constants-end g c =
    let check = judged_check c.args.check.now in
    let x = c.args.choice.now in
    let values = c.args.determined.items in
    let len : c.len.result ≡ length values = omega (arith, c.len.ensures, c.args.determined.ok.0) in
    let vs : List ℕ = take c.len.result c.as_slice.result.now in
    let vs_are : vs ≡ take (length values) x.variables.items = ap₂ take len c.as_slice.ensures.value in
    len ∙ one_value_each check g.F.Field.ORDER c.args.reasons.now x c.args.tested.now values c.requires.solved vs vs_are

pub pairs_of-requires : goal.pairs_of-requires
pairs_of-requires g c =
    let check = judged_check c.args.check.now in
    let x = c.args.choice.now in
    let values = c.args.determined.items in
    let len : c.len.result ≡ length values = omega (arith, c.len.ensures, c.args.determined.ok.0) in
    let vs : List ℕ = take c.len.result c.as_slice.result.now in
    let vs_are : vs ≡ take (length values) x.variables.items = ap₂ take len c.as_slice.ensures.value in
    ap length c.as_slice-2.ensures.value ∙ one_value_each check g.F.Field.ORDER c.args.reasons.now x c.args.tested.now values c.requires.solved vs vs_are

pub values_under-requires-clause-constants : goal.values_under-requires-clause-constants
values_under-requires-clause-constants g c =
    let check = judged_check c.args.check.now in
    let x = c.args.choice.now in
    let values = c.args.determined.items in
    let len : c.len.result ≡ length values = omega (arith, c.len.ensures, c.args.determined.ok.0) in
    let vs : List ℕ = take c.len.result c.as_slice.result.now in
    let vs_are : vs ≡ take (length values) x.variables.items = ap₂ take len c.as_slice.ensures.value in
    let numbers = c.in_ok-pairs.ensures.values ∙ ap (map {A = Determined} {B = ℕ} (λ v. v.value)) c.as_slice-2.ensures.value in
    subst (All (λ (q : ℕ × ℕ). IsFieldConstant check.nodes q.0)) (sym c.as_slice-3.ensures.value)
    (pairs_constants check g.F.Field.ORDER c.args.reasons.now x c.args.tested.now values c.requires.solved c.in_ok-pairs.pairs.items vs vs_are c.in_ok-pairs.ensures.constants numbers)

pub values_under-requires-clause-increasing : goal.values_under-requires-clause-increasing
values_under-requires-clause-increasing g c =
    let check = judged_check c.args.check.now in
    let x = c.args.choice.now in
    let values = c.args.determined.items in
    let len : c.len.result ≡ length values = omega (arith, c.len.ensures, c.args.determined.ok.0) in
    let vs : List ℕ = take c.len.result c.as_slice.result.now in
    let vs_are : vs ≡ take (length values) x.variables.items = ap₂ take len c.as_slice.ensures.value in
    let numbers = c.in_ok-pairs.ensures.values ∙ ap (map {A = Determined} {B = ℕ} (λ v. v.value)) c.as_slice-2.ensures.value in
    subst (λ (qs : List (ℕ × ℕ)). IsStrictlyIncreasing (map (λ q. q.0) qs)) (sym c.as_slice-3.ensures.value)
    (pairs_increase check g.F.Field.ORDER c.args.reasons.now x c.args.tested.now values c.requires.solved c.in_ok-pairs.pairs.items vs vs_are c.in_ok-pairs.ensures.constants numbers)

pub first_true-requires : goal.first_true-requires
first_true-requires g c =
    let check = judged_check c.args.check.now in
    let p = g.F.Field.ORDER in
    let x = c.args.choice.now in
    let tested = c.args.tested.now in
    let values = c.args.determined.items in
    let pairs = c.in_ok-pairs.pairs.items in
    let len : c.len.result ≡ length values = omega (arith, c.len.ensures, c.args.determined.ok.0) in
    let vs : List ℕ = take c.len.result c.as_slice.result.now in
    let vs_are : vs ≡ take (length values) x.variables.items = ap₂ take len c.as_slice.ensures.value in
    let numbers = c.in_ok-pairs.ensures.values ∙ ap (map {A = Determined} {B = ℕ} (λ v. v.value)) c.as_slice-2.ensures.value in
    let under : List Value = c.as_slice-4.result.now in
    let are : AreValuesUnder check pairs under =
    subst (λ (qs : List (ℕ × ℕ)). AreValuesUnder check qs under) c.as_slice-3.ensures.value (subst (AreValuesUnder check c.as_slice-3.result.now) (sym c.as_slice-4.ensures.value) c.in_ok-values.ensures) in
    tested_inside check p c.args.reasons.now x tested values c.requires.solved pairs vs vs_are c.in_ok-pairs.ensures.constants numbers under are

pub returns-in_default : goal.returns-in_default
returns-in_default g c =
    let check = judged_check c.args.check.now in
    let p = g.F.Field.ORDER in
    let x = c.args.choice.now in
    let tested = c.args.tested.now in
    let values = c.args.determined.items in
    let pairs = c.in_ok-pairs.pairs.items in
    let len : c.len.result ≡ length values = omega (arith, c.len.ensures, c.args.determined.ok.0) in
    let vs : List ℕ = take c.len.result c.as_slice.result.now in
    let vs_are : vs ≡ take (length values) x.variables.items = ap₂ take len c.as_slice.ensures.value in
    let numbers = c.in_ok-pairs.ensures.values ∙ ap (map {A = Determined} {B = ℕ} (λ v. v.value)) c.as_slice-2.ensures.value in
    let under : List Value = c.as_slice-4.result.now in
    let are : AreValuesUnder check pairs under =
    subst (λ (qs : List (ℕ × ℕ)). AreValuesUnder check qs under) c.as_slice-3.ensures.value (subst (AreValuesUnder check c.as_slice-3.result.now) (sym c.as_slice-4.ensures.value) c.in_ok-values.ensures) in
    model check p c.args.reasons.now x tested values c.requires.solved pairs vs vs_are c.in_ok-pairs.ensures.constants numbers under are (c.in_default.ensures.none refl)

pub refuted_at-requires : goal.refuted_at-requires
refuted_at-requires g c =
    let check = judged_check c.args.check.now in
    let p = g.F.Field.ORDER in
    let x = c.args.choice.now in
    let tested = c.args.tested.now in
    let values = c.args.determined.items in
    let pairs = c.in_ok-pairs.pairs.items in
    let len : c.len.result ≡ length values = omega (arith, c.len.ensures, c.args.determined.ok.0) in
    let vs : List ℕ = take c.len.result c.as_slice.result.now in
    let vs_are : vs ≡ take (length values) x.variables.items = ap₂ take len c.as_slice.ensures.value in
    let numbers = c.in_ok-pairs.ensures.values ∙ ap (map {A = Determined} {B = ℕ} (λ v. v.value)) c.as_slice-2.ensures.value in
    let under : List Value = c.as_slice-4.result.now in
    let are : AreValuesUnder check pairs under =
    subst (λ (qs : List (ℕ × ℕ)). AreValuesUnder check qs under) c.as_slice-3.ensures.value (subst (AreValuesUnder check c.as_slice-3.result.now) (sym c.as_slice-4.ensures.value) c.in_ok-values.ensures) in
    missed check p c.args.reasons.now x tested values c.requires.solved pairs vs vs_are c.in_ok-pairs.ensures.constants numbers under are c.in-Some.place c.in-Some.ensures.some
