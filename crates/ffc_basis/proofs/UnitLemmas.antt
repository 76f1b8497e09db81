-- Units that are taken of a budget, one call after another.
use Rattle.std.proofs.Common.{◌≡◌, ◌+◌, ◌≤◌, refl, ap, ◌∙◌, arith}
use Rattle.ffc_base.specs.Metering.{Spending, total, one_more}
use Rattle.ffc_base.specs.declared.meter.Unit.TheVariants.{Reduction}
use Rattle.ffc_basis.specs.Units.{TakesReductions}

-- nothing was taken
pub takes_nothing : (a : Spending) → TakesReductions a a
takes_nothing a = record { same_budget = refl; trials = refl; assignments = refl; chains = refl; taken = omega arith }

-- what two calls take
pub takes_both : (a b c : Spending) → TakesReductions a b → TakesReductions b c → TakesReductions a c
takes_both a b c t u = record {
  same_budget = u.same_budget ∙ t.same_budget;
  trials = u.trials ∙ t.trials;
  assignments = u.assignments ∙ t.assignments;
  chains = u.chains ∙ t.chains;
  taken = omega (arith, t.taken, u.taken);
}

pub takes_one : (a b : Spending) → b ≡ one_more a Reduction → TakesReductions a b
takes_one a b is = record {
  same_budget = ap (λ s. s.budget) is;
  trials = ap (λ s. s.trials) is;
  assignments = ap (λ s. s.assignments) is;
  chains = ap (λ s. s.chains) is;
  taken = let e : b.reductions ≡ a.reductions + 1 = ap (λ s. s.reductions) is in omega arith;
}

pub takes_same : (a b : Spending) → b ≡ a → TakesReductions a b
takes_same a b is = record {
  same_budget = ap (λ s. s.budget) is;
  trials = ap (λ s. s.trials) is;
  assignments = ap (λ s. s.assignments) is;
  chains = ap (λ s. s.chains) is;
  taken = let e : b.reductions ≡ a.reductions = ap (λ s. s.reductions) is in omega arith;
}

-- with one more unit
pub takes_next : (a b c : Spending) → TakesReductions a b → c ≡ one_more b Reduction → TakesReductions a c
takes_next a b c t is = takes_both a b c t (takes_one b c is)

-- nothing is given back
pub takes_no_less : (a b : Spending) → TakesReductions a b → total a ≤ total b
takes_no_less a b t = omega (arith, t.trials, t.assignments, t.chains, t.taken)
