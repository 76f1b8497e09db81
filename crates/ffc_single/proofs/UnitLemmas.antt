-- Units that are taken by Euclid's algorithm, and by all of a decision.
use Rattle.std.proofs.Common.{◌≡◌, ℕ, ◌+◌, ◌-◌, ◌*◌, ◌^◌, ◌<◌, ◌≤◌, max, Result, IsErrOf, refl, ap, ◌∙◌, arith, mul-le-mul_right}
use Rattle.std.proofs.Math.Nat.{mul-le-mul_left, mul-le-mul, pow-le-pow_left, pow-suc, pow-zero}
use Rattle.ffc_base.specs.declared.stop.Stop.{Stop}
use Rattle.ffc_base.specs.declared.stop.Stop.TheVariants.{Spent}
use Rattle.ffc_base.specs.Metering.{Spending, Takes, total}
use Rattle.ffc_linear.specs.Units.{TakesWithin}
use Rattle.ffc_linear.proofs.UnitLemmas.{IsTakenWithin, within_last}
use Rattle.ffc_roots.specs.Separation.{unit_bound}
use Rattle.ffc_single.specs.Outcomes.{root_units}

-- what was taken, and n for each coefficient that is left, are within h and the square of n
pub record IsTakenSoFar (n h left : ℕ) (old new : Spending) : Type 0 where
  pub takes : Takes old new
  pub within : total new + left * n ≤ total old + (h + n * n)

pub started : (n h left : ℕ) (old new : Spending) → left ≤ n → IsTakenWithin h old new → IsTakenSoFar n h left old new
started n h left old new few taken =
    let most : left * n ≤ n * n = mul-le-mul_right n few in
    record { takes = taken.takes; within = omega (arith, taken.within, most) }

pub went_on : (n h left fewer k : ℕ) (old mid new : Spending) → fewer < left → k ≤ n → IsTakenSoFar n h left old mid → IsTakenWithin k mid new → IsTakenSoFar n h fewer old new
went_on n h left fewer k old mid new falls few first second =
    let step : (fewer + 1) * n ≤ left * n = mul-le-mul_right n (let less : fewer + 1 ≤ left = omega arith in less) in
    record {
      takes = record { same_budget = second.takes.same_budget ∙ first.takes.same_budget; taken = omega (arith, first.takes.taken, second.takes.taken) };
      within = omega (arith, first.within, second.within, step);
    }

pub all_taken : (n h left : ℕ) (old new : Spending) → IsTakenSoFar n h left old new → IsTakenWithin (h + n * n) old new
all_taken n h left old new taken = record { takes = taken.takes; within = omega (arith, taken.within) }

-- before a further step there is room for it
pub room_for_step : (n h left : ℕ) (old new : Spending) → 1 ≤ left → IsTakenSoFar n h left old new → (n ≤ h + n * n) × IsTakenWithin (h + n * n - n) old new
room_for_step n h left old new some taken =
    let step : 1 * n ≤ left * n = mul-le-mul_right n some in
    let fits : n ≤ h + n * n = omega (arith, taken.within, taken.takes.taken, step) in
    (fits, record { takes = taken.takes; within = omega (arith, taken.within, step, fits) })

pub stopped_at_step : {A B : Type 0} (n h left k : ℕ) (part : Result A Stop) (result : Result B Stop) (old mid new : Spending) → 1 ≤ left → k ≤ n → (IsErrOf result Spent → IsErrOf part Spent)
    → IsTakenSoFar n h left old mid → TakesWithin k Spent part mid new → TakesWithin (h + n * n) Spent result old new
stopped_at_step n h left k part result old mid new some few as_part first takes =
    let (fits, room) = room_for_step n h left old mid some first in
    within_last (h + n * n - n) k (h + n * n) Spent part result old mid new (omega (arith, few, fits)) as_part room takes

-- ---- within more units

pub within_more : {A B : Type 0} (few many : ℕ) (part : Result A Stop) (result : Result B Stop) (old new : Spending) → few ≤ many → (IsErrOf result Spent → IsErrOf part Spent)
    → TakesWithin few Spent part old new → TakesWithin many Spent result old new
within_more few many part result old new most as_part takes = record {
  takes = takes.takes;
  within = omega (arith, takes.within, most);
  spent_only = λ e. (let less = takes.spent_only (as_part e) in omega (arith, less, most));
}

-- a call in its turn among so many
pub stopped_in_turn : {A B : Type 0} (n m count : ℕ) (part : Result A Stop) (result : Result B Stop) (old mid new : Spending) → n < count → (IsErrOf result Spent → IsErrOf part Spent)
    → IsTakenWithin (n * m) old mid → TakesWithin m Spent part mid new → TakesWithin (count * m) Spent result old new
stopped_in_turn n m count part result old mid new turn as_part first takes =
    let more : (n + 1) * m ≤ count * m = mul-le-mul_right m (let less : n + 1 ≤ count = omega arith in less) in
    within_last (n * m) m (count * m) Spent part result old mid new (omega (arith, more)) as_part first takes

-- nothing taken
pub none_taken : (bound : ℕ) (s : Spending) → IsTakenWithin bound s s
none_taken bound s = record { takes = record { same_budget = refl; taken = omega arith }; within = omega arith }

-- ---- all of a decision

-- m * (e + 1) is at most the square of m + e
squared : (m e : ℕ) → 1 ≤ m → m * (e + 1) ≤ (m + e) ^ 2
squared m e some =
    let square : (m + e) ^ 2 ≡ (m + e) * (m + e) =
    pow-suc (m + e) 1 ∙ ap (λ n. n * (m + e)) (pow-suc (m + e) 0 ∙ ap (λ n. n * (m + e)) (pow-zero (m + e)) ∙ omega arith) in
    let one : m * (e + 1) ≤ m * (m + e) = mul-le-mul_left m (let less : e + 1 ≤ m + e = omega arith in less) in
    let two : m * (m + e) ≤ (m + e) * (m + e) = mul-le-mul_right (m + e) (let less : m ≤ m + e = omega arith in less) in
    omega (arith, square, one, two)

pub divisor_within : (m e : ℕ) → 1 ≤ m → m * (e + 1 + (e + 1) * (e + 1)) ≤ (m + e) ^ 2 * (2 * e + 2)
divisor_within m e some =
    let most : m * (e + 1) * (2 * e + 2) ≤ (m + e) ^ 2 * (2 * e + 2) = mul-le-mul_right (2 * e + 2) (squared m e some) in
    let inner : m * (e + 1 + (e + 1) * (e + 1)) ≤ m * (e + 1) * (2 * e + 2) =
    (let less : e + 1 + (e + 1) * (e + 1) ≤ (e + 1) * (2 * e + 2) = omega (arith, mul-le-mul_left (e + 1) (let small : e + 2 ≤ 2 * e + 2 = omega arith in small)) in
    let all : m * (e + 1 + (e + 1) * (e + 1)) ≤ m * ((e + 1) * (2 * e + 2)) = mul-le-mul_left m less in
    omega (arith, all)) in
    omega (arith, most, inner)

unit_bound_more : (d e : ℕ) → d ≤ e → unit_bound d ≤ unit_bound e
unit_bound_more d e low =
    let cube : (d + 2) ^ 3 ≤ (e + 2) ^ 3 = pow-le-pow_left (let less : d + 2 ≤ e + 2 = omega arith in less) 3 in
    omega (arith, cube)

pub roots_within : (d e bound : ℕ) → d ≤ e → root_units d bound ≤ max 1 (e * bound) * unit_bound e + e
roots_within d e bound low =
    let product : d * bound ≤ e * bound = mul-le-mul_right bound low in
    let times : max 1 (d * bound) ≤ max 1 (e * bound) = omega arith in
    let more : max 1 (d * bound) * unit_bound d ≤ max 1 (e * bound) * unit_bound e = mul-le-mul times (unit_bound_more d e low) in
    omega (arith, more)
