-- How many units are taken at most, as they add up.
use Rattle.std.proofs.Common.{◌≡◌, ℕ, zero, suc, ◌+◌, ◌*◌, ◌^◌, ◌<◌, ◌≤◌, ◌⊎◌, inl, inr, sym, ap, ◌∙◌, arith}
use Rattle.std.proofs.Math.Nat.{mul-le-mul_left}
use Rattle.ffc_base.specs.Metering.{Spending, total}
use Rattle.ffc_uni.specs.Units.{chained, IsAtMost, IsChained}
use Rattle.ffc_uni.proofs.UnitLemmas.{at_most_later, at_most_more, chained-none, chained_later}
use Rattle.ffc_roots.specs.Separation.{unit_bound, HasFewerUnits}

pub at_most_chained : (k : ℕ) (a b : Spending) → IsAtMost k a b → IsChained a b
at_most_chained k a b some = (some.0, some.2)

pub nothing_taken : (k : ℕ) (a : Spending) → IsAtMost k a a
nothing_taken k a = (0, omega arith, chained-none a)

-- some turns, and then some more
pub turns_later : (bound j k n : ℕ) (a b c : Spending) → j + k ≤ n → IsAtMost (128 * (bound * j)) a b → IsAtMost (128 * (bound * k)) b c → IsAtMost (128 * (bound * n)) a c
turns_later bound j k n a b c within first second =
    at_most_more (128 * (bound * j) + 128 * (bound * k)) (128 * (bound * n)) a c (omega (arith, mul-le-mul_left bound within))
    (at_most_later (128 * (bound * j)) (128 * (bound * k)) a b c first second)

pub turns_more : (bound j n : ℕ) (a b : Spending) → j ≤ n → IsAtMost (128 * (bound * j)) a b → IsAtMost (128 * (bound * n)) a b
turns_more bound j n a b within some = at_most_more (128 * (bound * j)) (128 * (bound * n)) a b (omega (arith, mul-le-mul_left bound within)) some

-- Fewer polynomials than the degree are taken apart, each in at most as many turns as the bound says.
enough : (d bound turns z n : ℕ) → suc turns ≤ d → n ≤ 126 + 128 * (bound * turns) → (n < 128 + z) ⊎ (n < d * bound * (128 + z))
enough d zero turns z n within few = inl (omega arith)
enough d (suc bound) zero z n within few = inl (omega arith)
enough d (suc bound) (suc turns) z n within few =
    inr (let more : suc bound * suc (suc turns) ≤ suc bound * d = mul-le-mul_left (suc bound) within in omega arith)

-- so many units and no more were left
left_over : (old new : Spending) (m : ℕ) → new ≡ chained old m → total new ≡ new.budget → old.budget ≡ total old + m
left_over old new m taken full =
    let budget : new.budget ≡ old.budget = ap (λ (s : Spending). s.budget) taken in
    let sum : total new ≡ total old + m = ap total taken ∙ omega arith in
    sym budget ∙ sym full ∙ sum

-- The meter is full after the chain and some turns: few units were left.
pub few_left : (d bound turns n : ℕ) (old middle new : Spending) → suc turns ≤ d → n ≤ 126 → middle ≡ chained old n → IsAtMost (128 * (bound * turns)) middle new → total new ≡ new.budget
    → HasFewerUnits old (unit_bound d) ⊎ HasFewerUnits old (d * bound * unit_bound d)
few_left d bound turns n old middle new within chain first later full =
    let m = n + later.0 in
    let all : new ≡ chained old m = chained_later old middle new n later.0 first later.2 in
    let left : old.budget ≡ total old + m = left_over old new m all full in
    let low = later.1 in
    elim (enough d bound turns (2 * (d + 2) ^ 3) m within (omega (arith, low, chain))) [
      | inl few ↦ inl (omega (arith, left, few))
      | inr many ↦ inr (omega (arith, left, many))
    ]

-- the chain alone
pub chain_left : (d pairs : ℕ) (old : Spending) → pairs ≤ 126 → old.budget < total old + pairs → HasFewerUnits old (unit_bound d)
chain_left d pairs old few spent = omega (arith, few, spent)

-- where nothing is separated by nothing
pub only_few : (d : ℕ) (old : Spending) → (HasFewerUnits old (unit_bound d)) ⊎ (HasFewerUnits old (d * 0 * unit_bound d)) → HasFewerUnits old (unit_bound d)
only_few d old (inl few) = few
only_few d old (inr none) = let zero_is : d * 0 * unit_bound d ≡ 0 = omega arith in omega (arith, none, zero_is)
