-- Units of any kinds, taken one call after another.
use Rattle.std.proofs.Common.{◌≡◌, ℕ, ◌+◌, ◌*◌, ◌≤◌, ◌<◌, Result, IsErrOf, ◌∙◌, arith, mul-le-mul_right}
use Rattle.std.specs.Result.{IsErrAnd}
use Rattle.std.proofs.lemmas.Result.{err_from_is_err_and}
use Rattle.ffc_base.specs.declared.stop.Stop.{Stop}
use Rattle.ffc_base.specs.declared.stop.Stop.TheVariants.{Spent, Memory}
use Rattle.ffc_base.specs.Metering.{Spending, Takes, total}
use Rattle.ffc_echelon.specs.Units.{TakesWithin}

-- at most so many units were taken
pub record IsTakenWithin (bound : ℕ) (old new : Spending) : Type 0 where
  pub takes : Takes old new
  pub within : total new ≤ total old + bound

pub within_later : (a b bound : ℕ) (old mid new : Spending) → a + b ≤ bound → IsTakenWithin a old mid → IsTakenWithin b mid new → IsTakenWithin bound old new
within_later a b bound old mid new few first second = record {
  takes = record { same_budget = second.takes.same_budget ∙ first.takes.same_budget; taken = omega (arith, first.takes.taken, second.takes.taken) };
  within = omega (arith, few, first.within, second.within);
}

pub taken_within : {A E : Type 0} (bound : ℕ) (spent : E) (result : Result A E) (old new : Spending) → TakesWithin bound spent result old new → IsTakenWithin bound old new
taken_within bound spent result old new t = record { takes = t.takes; within = t.within }

-- a call that does not answer that the budget is spent
pub within_freely : {A E : Type 0} (bound : ℕ) (spent : E) (result : Result A E) (old new : Spending) → (IsErrOf result spent → ⊥) → IsTakenWithin bound old new → TakesWithin bound spent result old new
within_freely bound spent result old new other taken = record { takes = taken.takes; within = taken.within; spent_only = λ e. absurd (other e) }

-- a call whose last part answers as it does
pub within_last : {A B E : Type 0} (a b bound : ℕ) (spent : E) (part : Result A E) (result : Result B E) (old mid new : Spending) → a + b ≤ bound → (IsErrOf result spent → IsErrOf part spent) → IsTakenWithin a old mid
    → TakesWithin b spent part mid new → TakesWithin bound spent result old new
within_last a b bound spent part result old mid new few as_part first takes =
    let all = within_later a b bound old mid new few first (taken_within b spent part mid new takes) in
    record {
      takes = all.takes;
      within = all.within;
      spent_only = λ e.
          (let less = takes.spent_only (as_part e) in
          omega (arith, few, less, first.within, first.takes.same_budget));
    }

pub within_next : (n m : ℕ) (old mid new : Spending) → IsTakenWithin (n * m) old mid → IsTakenWithin m mid new → IsTakenWithin ((n + 1) * m) old new
within_next n m old mid new first second = within_later (n * m) m ((n + 1) * m) old mid new (omega arith) first second

-- a call in its turn among so many
pub within_turn : (n m count : ℕ) (old mid new : Spending) → n < count → IsTakenWithin (n * m) old mid → IsTakenWithin m mid new → IsTakenWithin (count * m) old new
within_turn n m count old mid new turn first second =
    let more : (n + 1) * m ≤ count * m = mul-le-mul_right m (let less : n + 1 ≤ count = omega arith in less) in
    within_later (n * m) m (count * m) old mid new (omega (arith, more)) first second

-- out of memory is not a budget that is spent
pub memory_not_spent : {A : Type 0} (result : Result A Stop) → IsErrAnd result (λ e. e ≡ Memory) → IsErrOf result Spent → ⊥
memory_not_spent result handed spent =
    let why = err_from_is_err_and result handed in
    let same = why.1 in
    let memory = why.2 in
    cc
