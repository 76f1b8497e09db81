-- Units that are taken one call after another.
use Rattle.std.proofs.Common.{◌≡◌, ℕ, ◌+◌, ◌*◌, ◌<◌, ◌≤◌, Result, sym, ap, ◌∙◌, arith, add-zero, add_assoc, mul-le-mul_right}
use Rattle.std.specs.Prelude.{IsErrOf}
use Rattle.ffc_base.specs.Metering.{Spending, total, more, one_more}
use Rattle.ffc_base.specs.declared.meter.Unit.TheVariants.{Reduction}
use Rattle.ffc_echelon.specs.Units.{TakesAtMost}

pub more_none : (s : Spending) → s ≡ more s Reduction 0
more_none s = ap (λ n. record s { reductions = n }) (sym (add-zero s.reductions))

pub more_more : (a b c : Spending) (k n : ℕ) → b ≡ more a Reduction k → c ≡ more b Reduction n → c ≡ more a Reduction (k + n)
more_more a b c k n first second =
    second ∙ ap (λ s. more s Reduction n) first ∙ ap (λ m. record a { reductions = m }) (add_assoc a.reductions k n)

pub more_one : (a b c : Spending) (k : ℕ) → b ≡ more a Reduction k → c ≡ one_more b Reduction → c ≡ more a Reduction (k + 1)
more_one a b c k first second = more_more a b c k 1 first second

-- so many units more
pub total_more : (a b : Spending) (k : ℕ) → b ≡ more a Reduction k → total b ≡ total a + k
total_more a b k is = ap total is ∙ omega arith

pub budget_more : (a b : Spending) (k : ℕ) → b ≡ more a Reduction k → b.budget ≡ a.budget
budget_more a b k is = ap (λ s. s.budget) is

rows_below : (n m count : ℕ) → n < count → n * m + m ≤ count * m
rows_below n m count turn =
    let more : (n + 1) * m ≤ count * m = mul-le-mul_right m (let less : n + 1 ≤ count = omega arith in less) in omega (arith, more)

-- what several calls take that each take at most m
pub takes_in_turn : {A B E : Type 0} {each : Result B E} (spent : E) (all : Result A E) (a b c : Spending) (k n l m count : ℕ) → l ≡ m → b ≡ more a Reduction k → k ≤ n * m → n < count → TakesAtMost Reduction l spent each b c → (IsErrOf all spent → IsErrOf each spent) → TakesAtMost Reduction (count * m) spent all a c
takes_in_turn spent all a b c k n l m count long first few turn next same =
    let most : n * m + m ≤ count * m = rows_below n m count turn in
    record {
      units = k + next.units;
      taken = more_more a b c k next.units first next.taken;
      within = omega (arith, long, few, next.within, most);
      spent_only = λ h.
          let less = next.spent_only (same h) in
          omega (arith, long, few, most, less, total_more a b k first, budget_more a b k first);
    }
