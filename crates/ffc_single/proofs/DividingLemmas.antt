-- A common divisor goes on to the next polynomial.
use Rattle.std.proofs.Common.{◌≡◌, ℕ, ◌+◌, ◌*◌, ◌≤◌, List, [], ◌∷◌, ◌++◌, length, take, Some, All, sym, ap, ◌∙◌, subst, arith, length-append}
use Rattle.std.specs.Prelude.{slice_get}
use Rattle.std.proofs.Math.Nat.{zero-mod, mul-le-mul}
use Rattle.std.proofs.lemmas.List.{take_more}
use Rattle.std.proofs.lemmas.List.Elements.{All-push, All-weaker}
use Rattle.std.proofs.lemmas.Option.{get_or_from_slice_get, slice_get_within}
use Rattle.ffc_lemmatree.specs.declared.endings.EuclidStep.{EuclidStep}
use Rattle.ffc_lemmatree.specs.Roots.{IsEuclidStep, LeadsTo}
use Rattle.ffc_lemmatree.specs.Roots.LeadsTo.{nothing, next}
use Rattle.ffc_roots.specs.Roots.{IsCombination}
use Rattle.ffc_uni.specs.Univariate.{Coefficients, IsNormal, value_of}
use Rattle.ffc_single.specs.declared.divisor.Divisor.{Divisor}
use Rattle.ffc_single.specs.declared.euclid.Combination.{Combination}
use Rattle.ffc_single.specs.Dividing.{IsFirstNonzero, IsDivisorOf}
use Rattle.ffc_single.specs.Euclid.{IsNextDivisor, HasRootsOf}

-- ---- lists

-- one more polynomial that is 0 at a point
zeros_more : (p x : ℕ) (forms : List Coefficients) (place : ℕ) (f : Coefficients) → slice_get forms place ≡ Some f → All (λ g. value_of p x g ≡ 0) (take place forms) → value_of p x f ≡ 0
    → All (λ g. value_of p x g ≡ 0) (take (place + 1) forms)
zeros_more p x forms place f at zeros zero_there =
    let Zero : Coefficients → Type 0 = λ g. value_of p x g ≡ 0 in
    subst (All Zero) (sym (take_more forms place f (slice_get_within forms place f at) ∙ ap (λ g. take place forms ++ g ∷ []) (get_or_from_slice_get forms place f f at)))
    (All-push Zero (take place forms) f zeros zero_there)

-- one more polynomial that is the empty list
pub empty_more : (forms : List Coefficients) (place : ℕ) (f : Coefficients) → slice_get forms place ≡ Some f → All (λ (g : Coefficients). g ≡ []) (take place forms) → f ≡ []
    → All (λ (g : Coefficients). g ≡ []) (take (place + 1) forms)
empty_more forms place f at empty none =
    let Empty : Coefficients → Type 0 = λ g. g ≡ [] in
    subst (All Empty) (sym (take_more forms place f (slice_get_within forms place f at) ∙ ap (λ g. take place forms ++ g ∷ []) (get_or_from_slice_get forms place f f at)))
    (All-push Empty (take place forms) f empty none)

-- one of polynomials with so many coefficients at most
pub low_at : (n : ℕ) (forms : List Coefficients) (k : ℕ) (f : Coefficients) → All (λ g. length g ≤ n) forms → slice_get forms k ≡ Some f → length f ≤ n
low_at n forms k f each at = subst (λ (g : Coefficients). length g ≤ n) (get_or_from_slice_get forms k f f at) (each k f (slice_get_within forms k f at))

-- ---- steps

-- one more step
leads_push : {F : Type 0} (p : ℕ) (forms : List Coefficients) (f g h : Coefficients) (steps : List (EuclidStep F)) (step : EuclidStep F) → LeadsTo p forms f steps g → IsEuclidStep p forms g step h
    → LeadsTo p forms f (steps ++ step ∷ []) h
leads_push p forms f g h steps step nothing is = next step h is nothing
leads_push p forms f g h steps step (next first k here rest) is = next first k here (leads_push p forms k g h _ step rest is)

module _ {F : Type 0} (p : ℕ) (forms : List Coefficients) where
  -- the first polynomial that is not 0
  pub divisor_start : (place : ℕ) (f : Coefficients) (d : Divisor F) → IsFirstNonzero forms place → slice_get forms place ≡ Some f → d.start ≡ place → d.steps.items ≡ [] → d.value ≡ f → IsNormal p d.value → 1 ≤ length d.value
      → IsDivisorOf p forms (place + 1) d
  divisor_start place f d first at start none value normal some =
      let zero_before : (x : ℕ) → All (λ g. value_of p x g ≡ 0) (take place forms) = λ x.
      All-weaker (λ (g : Coefficients). g ≡ []) (λ g. value_of p x g ≡ 0) (λ g empty. ap (value_of p x) empty ∙ zero-mod p) (take place forms) first.zeros in
      let count = ap length none in
      let long = ap length value in
      record {
        first = f;
        at = ap (slice_get forms) start ∙ at;
        leads = subst (λ (steps : List (EuclidStep F)). LeadsTo p forms f steps d.value) (sym none) (subst (λ g. LeadsTo {F = F} p forms f [] g) (sym value) nothing);
        normal = normal;
        some = some;
        short = omega (arith, count, long);
        roots = λ x zero_there. zeros_more p x forms place f at (zero_before x) (ap (value_of p x) (sym value) ∙ zero_there);
      }

  -- a multiple of the divisor changes nothing
  pub divisor_stays : (place : ℕ) (f : Coefficients) (d : Divisor F) → IsDivisorOf p forms place d → slice_get forms place ≡ Some f → HasRootsOf p d.value f → IsDivisorOf p forms (place + 1) d
  divisor_stays place f d is at roots = record {
    first = is.first;
    at = is.at;
    leads = is.leads;
    normal = is.normal;
    some = is.some;
    short = is.short;
    roots = λ x zero_there. zeros_more p x forms place f at (is.roots x zero_there) (roots x zero_there);
  }

  -- a further step
  pub divisor_goes_on : (place : ℕ) (f : Coefficients) (old new : Divisor F) (step : EuclidStep F) (found : Combination F) → All (λ g. length g ≤ 256) forms → IsDivisorOf p forms place old
      → slice_get forms place ≡ Some f → IsNextDivisor p old.value f found → step.equation ≡ place → step.a ≡ found.a → step.b ≡ found.b
      → new.start ≡ old.start → new.steps.items ≡ old.steps.items ++ step ∷ [] → new.value ≡ found.value → IsDivisorOf p forms (place + 1) new
  divisor_goes_on place f old new step found low is at found_is place_is a_is b_is start steps value =
      let f_low : length f ≤ 256 = low_at 256 forms place f low at in
      let first_low : length is.first ≤ 256 = low_at 256 forms old.start is.first low is.at in
      let old_short = is.short in
      let lower = found_is.lower in
      let short_a = found_is.short_a in
      let short_b = found_is.short_b in
      let a_long = ap length a_is in
      let b_long = ap length b_is in
      let value_long = ap length value in
      let some = found_is.some in
      let more = ap length steps ∙ length-append old.steps.items (step ∷ []) in
      let taken : IsEuclidStep p forms old.value step found.value = record {
        polynomial = f;
        at = ap (slice_get forms) place_is ∙ at;
        combination = subst (λ a. IsCombination p old.value f a step.b found.value) (sym a_is) (subst (λ b. IsCombination p old.value f found.a b found.value) (sym b_is) found_is.is);
        low_a = omega arith;
        low_b = omega arith;
        low = omega arith;
      } in
      record {
        first = is.first;
        at = ap (slice_get forms) start ∙ is.at;
        leads = subst (λ (ss : List (EuclidStep F)). LeadsTo p forms is.first ss new.value) (sym steps)
            (subst (λ g. LeadsTo p forms is.first (old.steps.items ++ step ∷ []) g) (sym value) (leads_push p forms is.first old.value found.value old.steps.items step is.leads taken));
        normal = subst (IsNormal p) (sym value) found_is.normal;
        some = omega (arith, some, value_long);
        short = omega (arith, old_short, lower, value_long, more);
        roots = λ x zero_there.
            (let here : value_of p x found.value ≡ 0 = ap (value_of p x) (sym value) ∙ zero_there in
            zeros_more p x forms place f at (is.roots x (found_is.of_first x here)) (found_is.of_second x here));
      }

-- the units of a step
pub step_units : {F : Type 0} (p : ℕ) (forms : List Coefficients) (place n : ℕ) (f : Coefficients) (d : Divisor F) → All (λ g. length g ≤ n) forms → IsDivisorOf p forms place d → slice_get forms place ≡ Some f
    → length f + length d.value * length d.value ≤ n + n * n
step_units p forms place n f d low is at =
    let f_low = low_at n forms place f low at in
    let first_low = low_at n forms d.start is.first low is.at in
    let short = is.short in
    let value_low : length d.value ≤ n = omega arith in
    let square : length d.value * length d.value ≤ n * n = mul-le-mul value_low value_low in
    omega (arith, f_low, square)
