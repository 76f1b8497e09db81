-- Units of one kind, taken one call after another.
use Rattle.std.proofs.Common.{◌≡◌, ℕ, ◌+◌, ◌≤◌, ◌<◌, Result, Ok, Err, IsErrOf, refl, sym, ap, ◌∙◌, subst, arith, add_assoc, add-zero}
use Rattle.std.specs.Result.{IsErrAnd}
use Rattle.std.proofs.lemmas.Result.{err_from_is_err_and}
use Rattle.ffc_base.specs.Metering.{Spending, total, more, one_more}
use Rattle.ffc_base.specs.declared.meter.Unit.{Unit as Kind}
use Rattle.ffc_base.specs.declared.meter.Unit.TheVariants.{Trial, Reduction, Assignment, Chain}
use Rattle.ffc_echelon.specs.Units.{TakesAtMost}

pub total-more : (s : Spending) (kind : Kind) (n : ℕ) → total (more s kind n) ≡ total s + n
total-more s Trial n = omega arith
total-more s Reduction n = omega arith
total-more s Assignment n = omega arith
total-more s Chain n = omega arith

pub budget-more : (s : Spending) (kind : Kind) (n : ℕ) → (more s kind n).budget ≡ s.budget
budget-more s Trial n = refl
budget-more s Reduction n = refl
budget-more s Assignment n = refl
budget-more s Chain n = refl

pub more-more : (s : Spending) (kind : Kind) (m n : ℕ) → more (more s kind m) kind n ≡ more s kind (m + n)
more-more s Trial m n = ap (λ k. record s { trials = k }) (add_assoc s.trials m n)
more-more s Reduction m n = ap (λ k. record s { reductions = k }) (add_assoc s.reductions m n)
more-more s Assignment m n = ap (λ k. record s { assignments = k }) (add_assoc s.assignments m n)
more-more s Chain m n = ap (λ k. record s { chains = k }) (add_assoc s.chains m n)

pub more-none : (s : Spending) (kind : Kind) → s ≡ more s kind 0
more-none s Trial = ap (λ k. record s { trials = k }) (sym (add-zero s.trials))
more-none s Reduction = ap (λ k. record s { reductions = k }) (sym (add-zero s.reductions))
more-none s Assignment = ap (λ k. record s { assignments = k }) (sym (add-zero s.assignments))
more-none s Chain = ap (λ k. record s { chains = k }) (sym (add-zero s.chains))

pub one_more-is : (s : Spending) (kind : Kind) → one_more s kind ≡ more s kind 1
one_more-is s Trial = refl
one_more-is s Reduction = refl
one_more-is s Assignment = refl
one_more-is s Chain = refl

-- at most so many units of a kind were taken, and no others
pub record IsTaken (kind : Kind) (bound : ℕ) (old new : Spending) : Type 0 where
  pub units : ℕ
  pub taken : new ≡ more old kind units
  pub within : units ≤ bound

pub none_taken : (kind : Kind) (bound : ℕ) (s : Spending) → IsTaken kind bound s s
none_taken kind bound s = record { units = 0; taken = more-none s kind; within = omega arith }

pub one_taken : (kind : Kind) (old new : Spending) → new ≡ one_more old kind → IsTaken kind 1 old new
one_taken kind old new e = record { units = 1; taken = e ∙ one_more-is old kind; within = omega arith }

pub taken_later : (kind : Kind) (a b bound : ℕ) (old mid new : Spending) → a + b ≤ bound → IsTaken kind a old mid → IsTaken kind b mid new → IsTaken kind bound old new
taken_later kind a b bound old mid new within first second = record {
  units = first.units + second.units;
  taken = second.taken ∙ ap (λ s. more s kind second.units) first.taken ∙ more-more old kind first.units second.units;
  within = omega (arith, first.within, second.within);
}

pub taken_of : {A E : Type 0} (kind : Kind) (bound : ℕ) (spent : E) (result : Result A E) (old new : Spending) → TakesAtMost kind bound spent result old new → IsTaken kind bound old new
taken_of kind bound spent result old new takes = record { units = takes.units; taken = takes.taken; within = takes.within }

taken_total : (kind : Kind) (bound : ℕ) (old new : Spending) → IsTaken kind bound old new → total new ≤ total old + bound
taken_total kind bound old new taken =
    let e : total new ≡ total old + taken.units = ap total taken.taken ∙ total-more old kind taken.units in
    omega (arith, taken.within)

taken_budget : (kind : Kind) (bound : ℕ) (old new : Spending) → IsTaken kind bound old new → new.budget ≡ old.budget
taken_budget kind bound old new taken = ap (λ (s : Spending). s.budget) taken.taken ∙ budget-more old kind taken.units

-- a call that does not stop for want of units
pub takes_freely : {A E : Type 0} (kind : Kind) (bound : ℕ) (spent : E) (result : Result A E) (old new : Spending) → (IsErrOf result spent → ⊥) → IsTaken kind bound old new → TakesAtMost kind bound spent result old new
takes_freely kind bound spent result old new other taken =
    record { units = taken.units; taken = taken.taken; within = taken.within; spent_only = λ e. absurd (other e) }

-- a call that stops where fewer than the bound were taken, and none is left
pub takes_all : {A E : Type 0} (kind : Kind) (a bound : ℕ) (spent : E) (result : Result A E) (old new : Spending) → a < bound → IsTaken kind a old new → total new ≡ new.budget → TakesAtMost kind bound spent result old new
takes_all kind a bound spent result old new within taken full =
    let most = taken_total kind a old new taken in
    let same = taken_budget kind a old new taken in
    record { units = taken.units; taken = taken.taken; within = omega (arith, taken.within); spent_only = λ e. omega arith }

-- a call whose last part answers as it does
pub takes_later : {A B E : Type 0} (kind : Kind) (a b bound : ℕ) (spent : E) (part : Result A E) (result : Result B E) (old mid new : Spending) → a + b ≤ bound → (IsErrOf result spent → IsErrOf part spent) → IsTaken kind a old mid
    → TakesAtMost kind b spent part mid new → TakesAtMost kind bound spent result old new
takes_later kind a b bound spent part result old mid new within as_part first takes =
    let most = taken_total kind a old mid first in
    let same = taken_budget kind a old mid first in
    let later = taken_later kind a b bound old mid new within first (taken_of kind b spent part mid new takes) in
    record {
      units = later.units;
      taken = later.taken;
      within = later.within;
      spent_only = λ e. (let few = takes.spent_only (as_part e) in omega arith);
    }

-- what is answered after all does not stop for want of units
pub not_spent : {A E : Type 0} (x : A) (spent : E) → IsErrOf (Ok x) spent → ⊥
not_spent x spent e = cc

-- where a unit is refused, all are taken
pub refused : (kind : Kind) (a : ℕ) (old now new : Spending) → IsTaken kind a old now → new ≡ now → IsTaken kind a old new
refused kind a old now new taken same = subst (IsTaken kind a old) (sym same) taken

pub one_more_taken : (kind : Kind) (a : ℕ) (old now new : Spending) → IsTaken kind a old now → new ≡ one_more now kind → IsTaken kind (a + 1) old new
one_more_taken kind a old now new taken more_is = taken_later kind a 1 (a + 1) old now new (omega arith) taken (one_taken kind now new more_is)

pub taken_more : (kind : Kind) (a b : ℕ) (old new : Spending) → a ≤ b → IsTaken kind a old new → IsTaken kind b old new
taken_more kind a b old new within taken = record { units = taken.units; taken = taken.taken; within = omega (arith, taken.within) }

pub full_still : (now new : Spending) → new ≡ now → total now ≡ now.budget → total new ≡ new.budget
full_still now new same full = subst (λ (s : Spending). total s ≡ s.budget) (sym same) full

-- the error that a part stopped with is handed on
pub spent_part : {A B E : Type 0} (part : Result A E) (result : Result B E) (stop spent : E) → part ≡ Err stop → IsErrAnd result (λ e. e ≡ stop) → IsErrOf result spent → IsErrOf part spent
spent_part part result stop spent was handed is =
    let p = err_from_is_err_and result handed in
    let same = p.1 in
    let equal = p.2 in
    cc
