-- The degrees in turn, and their units.
use Rattle.std.proofs.Common.{inl, inr, ◌≡◌, ◌⊎◌, ℕ, suc, ◌+◌, ◌-◌, ◌<◌, ◌≤◌, List, [], sum_by, Option, Some, None, refl, sym, ap, ◌∙◌, subst, arith}
use Rattle.std.specs.List.{range_with_len}
use Rattle.std.proofs.lemmas.Bool.{cases_lt}
use Rattle.ffc_base.specs.Metering.{Spending, Takes, total}
use Rattle.ffc_bounds.specs.Combinations.{literals_of}
use Rattle.ffc_clause.specs.Clauses.{Literal}
use Rattle.ffc_refutation.specs.Combinations.{Summand, IsRefuted}
use Rattle.ffc_refutation.specs.declared.reason.Reason.{Reason}
use Rattle.ffc_rules.specs.Entries.{NodeCheck}
use Rattle.ffc_term.specs.declared.node.Node.{Node}
use Rattle.ffc_combination.specs.Choices.{IsGreatestDegree}
use Rattle.ffc_combination.specs.declared.choices.Choice.{Choice}
use Rattle.ffc_combination.specs.declared.search.Choices.{Choices}
use Rattle.ffc_combination.specs.declared.search.Outcome.{Outcome}
use Rattle.ffc_combination.specs.declared.search.Outcome.TheVariants.{Decided, Excluded, Unpaid}
use Rattle.ffc_combination.specs.Attempts.{IsUnpaid, IsSumFor, TakesAtMost, IsExcluded, units_at}
use Rattle.ffc_combination.specs.Search.{AreBounded, IsBoundedIfSome, IsDenied, IsDeniedChoice, IsDeniedIfSome, AreChoicesOf, DefersIfSome, DefersBoth, CanWait, IsChoiceOf, IsChosen, IsOutcome, IsOutcomeOfBoth, IsSecondOf, AreExcluded, AreAllExcluded, IsExcludedIfSome, IsLowestIfSome, tested_if, tested_of, units_below, units_if, units_of_both}
use Rattle.ffc_combination.proofs.AttemptLemmas.{excluded_before}
use Rattle.ffc_combination.proofs.RangeLemmas.{sum_more, sum_upto}

-- ---- units

-- one more degree
pub units_more : (d : ℕ) (x : Choices) → 2 ≤ d → units_below (d + 1) x ≡ units_below d x + units_of_both d x
units_more d x least =
    ap (λ n. sum_by (λ k. units_of_both k x) (range_with_len 2 n)) (let e : d + 1 - 2 ≡ suc (d - 2) = omega arith in e)
    ∙ sum_more (λ k. units_of_both k x) 2 (d - 2)
    ∙ ap (λ n. units_below d x + units_of_both n x) (let e : 2 + (d - 2) ≡ d = omega arith in e)

pub units_upto : (d e : ℕ) (x : Choices) → d ≤ e → units_below d x ≤ units_below e x
units_upto d e x less = sum_upto (λ k. units_of_both k x) 2 (d - 2) (e - 2) (omega arith)

-- ---- one degree

pub takes_more : (a b n : ℕ) (old mid new : Spending) → a + b ≡ n → TakesAtMost a old mid → TakesAtMost b mid new → TakesAtMost n old new
takes_more a b n old mid new is one two = record {
  takes = record { same_budget = two.takes.same_budget ∙ one.takes.same_budget; taken = omega (arith, one.takes.taken, two.takes.taken) };
  within = omega (arith, one.within, two.within, is);
}

-- what the second choice gives is what both give, where the first is excluded
pub second_outcome : (c : NodeCheck) (p d : ℕ) (x : Choices) (second : Choice) (old mid : Spending) → x.all ≡ Some second → TakesAtMost (units_at d x.equations) old mid → IsExcluded p c.nodes d x.equations
    → (outcome : Outcome) → IsOutcome c p d second mid outcome → IsOutcomeOfBoth c p d x old outcome
second_outcome c p d x second old mid there takes excluded (Decided combined) is = is
second_outcome c p d x second old mid there takes excluded Excluded is = (excluded, subst (IsExcludedIfSome p c.nodes d) (sym there) is)
second_outcome c p d x second old mid there takes excluded Unpaid is =
    let units : units_of_both d x ≡ units_at d x.equations + units_at d second = ap (λ a. units_at d x.equations + units_if d a) there in
    omega (arith, is, takes.takes.same_budget, takes.within, units)

-- ---- waiting

excluded_before_if : (c : NodeCheck) (p d : ℕ) (reasons : List Reason) (o : Option Choice) → 2 ≤ p → IsDeniedIfSome c p reasons o → DefersIfSome d o → IsExcludedIfSome p c.nodes (d + 1) o → IsExcludedIfSome p c.nodes d o
excluded_before_if c p d reasons None least denied s excluded = tt
excluded_before_if c p d reasons (Some x) least denied (n, s) excluded = excluded_before p d n c.nodes x least denied.choice s excluded

-- a degree that is deferred is excluded where the next one is
both_before : (c : NodeCheck) (p d units : ℕ) (reasons : List Reason) (x : Choices) → 2 ≤ p → AreChoicesOf c p reasons x → DefersBoth d x units → AreExcluded p c.nodes (d + 1) x → AreExcluded p c.nodes d x
both_before c p d units reasons x least choices s excluded =
    (excluded_before p d s.first c.nodes x.equations least choices.first_denied.choice s.equations excluded.0, excluded_before_if c p d reasons x.all least choices.second_denied s.all excluded.1)

-- ---- the search

abbrev pub AreExcludedBelow : ℕ → List Node → Choices → ℕ → ℕ → Type 0
AreExcludedBelow p nodes x first d = (k : ℕ) → first ≤ k → k < d → AreExcluded p nodes k x

-- degrees below one wait for it, and it can be paid
pub record IsAwaited (p : ℕ) (nodes : List Node) (x : Choices) (first d : ℕ) (now : Spending) : Type 0 where
  pub high : d ≤ 1024
  pub below : AreExcluded p nodes d x → AreExcludedBelow p nodes x first d
  pub paid : total now + units_of_both d x ≤ now.budget

-- the degrees from the first on, below one, are excluded, or wait for it, and no more was taken than the units up to it
pub record IsSearched (p : ℕ) (nodes : List Node) (x : Choices) (first d : ℕ) (old now : Spending) : Type 0 where
  pub state : AreExcludedBelow p nodes x first d ⊎ IsAwaited p nodes x first d now
  pub units : TakesAtMost (units_below d x) old now

pub searched_none : (p : ℕ) (nodes : List Node) (x : Choices) (first : ℕ) (old : Spending) → IsSearched p nodes x first first old old
searched_none p nodes x first old = record {
  state = inl (λ k least below. absurd (omega arith));
  units = record { takes = record { same_budget = refl; taken = omega arith }; within = omega arith };
}

-- what is below a degree, with it
excluded_upto : (p : ℕ) (nodes : List Node) (x : Choices) (first d : ℕ) → AreExcluded p nodes d x → AreExcludedBelow p nodes x first d → AreExcludedBelow p nodes x first (d + 1)
excluded_upto p nodes x first d here below k low less = elim (cases_lt k d) as (λ _. AreExcluded p nodes k x) [
  | inl before ↦ below k low before
  | inr after ↦ subst (λ j. AreExcluded p nodes j x) (let e : d ≡ k = omega arith in e) here
]

all_below : (p : ℕ) (nodes : List Node) (x : Choices) (first d : ℕ) (now : Spending) → AreExcluded p nodes d x → AreExcludedBelow p nodes x first d ⊎ IsAwaited p nodes x first d now → AreExcludedBelow p nodes x first d
all_below p nodes x first d now here (inl below) = below
all_below p nodes x first d now here (inr awaited) = awaited.below here

pub searched_more : (p : ℕ) (nodes : List Node) (x : Choices) (first d : ℕ) (old now next : Spending) → 2 ≤ d → IsSearched p nodes x first d old now → TakesAtMost (units_of_both d x) now next → AreExcluded p nodes d x
    → IsSearched p nodes x first (d + 1) old next
searched_more p nodes x first d old now next least s takes here = record {
  state = inl (excluded_upto p nodes x first d here (all_below p nodes x first d now here s.state));
  units = takes_more (units_below d x) (units_of_both d x) (units_below (d + 1) x) old now next (sym (units_more d x least)) s.units takes;
}

-- a degree that waits
pub searched_waits : (c : NodeCheck) (p : ℕ) (reasons : List Reason) (x : Choices) (first d left : ℕ) (old now : Spending) → 2 ≤ p → 2 ≤ d → AreChoicesOf c p reasons x → IsSearched p c.nodes x first d old now → CanWait d x left → left + total now ≡ now.budget
    → IsSearched p c.nodes x first (d + 1) old now
searched_waits c p reasons x first d left old now prime least choices s can all =
    let high = can.below in
    let paid = can.paid in
    let units = can.defers.units_are in
    let more = units_more d x least in
    let within = s.units.within in
    record {
      state = inr (record {
        high = omega (arith, high);
        below = λ next.
            let here = both_before c p d can.units reasons x prime choices can.defers next in
            excluded_upto p c.nodes x first d here (all_below p c.nodes x first d now here s.state);
        paid = omega (arith, paid, units, all);
      });
      units = record { takes = s.units.takes; within = omega (arith, within, more) };
    }

-- a degree that cannot be paid ends the search
pub unpaid_ends : (p : ℕ) (nodes : List Node) (x : Choices) (first d : ℕ) (old now : Spending) → first ≤ 2 → 2 ≤ d → IsSearched p nodes x first d old now → IsUnpaid (units_of_both d x) now → AreAllExcluded p nodes x old
unpaid_ends p nodes x first d old now begins least s unpaid k low high enough = by_state s.state
  where
    by_state : AreExcludedBelow p nodes x first d ⊎ IsAwaited p nodes x first d now → AreExcluded p nodes k x
    by_state (inr awaited) = let paid = awaited.paid in absurd (omega (arith, paid, unpaid))
    by_state (inl below) = elim (cases_lt k d) as (λ _. AreExcluded p nodes k x) [
      | inl before ↦ below k (omega (arith, begins, low)) before
      | inr after ↦
          absurd (
          let more = units_more d x least in
          let upto = units_upto (d + 1) (k + 1) x (omega arith) in
          omega (arith, unpaid, s.units.within, s.units.takes.same_budget, more, upto, enough))
    ]

pub search_ends : (p : ℕ) (nodes : List Node) (x : Choices) (first d : ℕ) (old now : Spending) → first ≤ 2 → 1024 < d → IsSearched p nodes x first d old now → AreAllExcluded p nodes x old
search_ends p nodes x first d old now begins past s k low high enough = by_state s.state
  where
    by_state : AreExcludedBelow p nodes x first d ⊎ IsAwaited p nodes x first d now → AreExcluded p nodes k x
    by_state (inl below) = below k (omega (arith, begins, low)) (omega (arith, past, high))
    by_state (inr awaited) = let least = awaited.high in absurd (omega (arith, least, past))

-- what the search takes, with one degree more
pub search_takes : (p : ℕ) (nodes : List Node) (x : Choices) (first d : ℕ) (old now next : Spending) → IsSearched p nodes x first d old now → TakesAtMost (units_of_both d x) now next → Takes old next
search_takes p nodes x first d old now next s takes = record {
  same_budget = takes.takes.same_budget ∙ s.units.takes.same_budget;
  taken = omega (arith, takes.takes.taken, s.units.takes.taken);
}

-- ---- refutations

-- the sum of a choice refutes the check
pub refuted : (c : NodeCheck) (p : ℕ) (reasons : List Reason) (x : Choice) (summands : List Summand) → IsDeniedChoice c p reasons x → IsSumFor p c.nodes x summands
    → (q : ℕ) (lits : List Literal) → q ≡ p → lits ≡ x.literals.items → IsRefuted c reasons q lits summands
refuted c p reasons x summands denied sum q lits one two =
    subst (λ (k : ℕ). IsRefuted c reasons k lits summands) (sym one)
    (subst (λ (ls : List Literal). IsRefuted c reasons p ls summands) (sym two)
    (record { forced = denied.denied.forced; forces = denied.denied.forces; lemma = denied.denied.lemma; combination = sum.constant_sum }))

-- ---- one choice

prefix_denied : (c : NodeCheck) (p d : ℕ) (reasons : List Reason) (x : Choices) → AreChoicesOf c p reasons x → IsDenied c p reasons (tested_of x)
prefix_denied c p d reasons x choices = by_all x.all choices.second_denied
  where
    by_all : (o : Option Choice) → IsDeniedIfSome c p reasons o → IsDenied c p reasons (tested_if x.equations.literals.items o)
    by_all None h = choices.first_denied.denied
    by_all (Some y) h = h.denied

tested_are : (c : NodeCheck) (p : ℕ) (reasons : List Reason) (x : Choices) (choices : AreChoicesOf c p reasons x) → tested_of x ≡ literals_of choices.equal choices.unequal
tested_are c p reasons x choices = by_all x.all choices.second
  where
    by_all : (o : Option Choice) → IsSecondOf c choices.equal choices.unequal o → tested_if x.equations.literals.items o ≡ literals_of choices.equal choices.unequal
    by_all None none = choices.first.literals ∙ ap (literals_of choices.equal) (sym none)
    by_all (Some y) is = is.1.literals

-- each choice is of what is forced of the check
chosen_of : (c : NodeCheck) (p d : ℕ) (reasons : List Reason) (x : Choices) (y : Choice) (choices : AreChoicesOf c p reasons x) (other : List ℕ) → 2 ≤ d → d ≤ 1024 → IsGreatestDegree c.nodes choices.unequal y.lowest
    → (other ≡ []) ⊎ (other ≡ choices.unequal) → IsChoiceOf c choices.equal other y → IsDeniedChoice c p reasons y → (tested : List Literal) → tested ≡ tested_of x → IsChosen c p d reasons y tested
chosen_of c p d reasons x y choices other least most lowest other_is choice denied tested is = record {
  check = choices.check;
  least = least;
  most = most;
  equal = choices.equal;
  unequal = choices.unequal;
  forced = choices.forced;
  other = other;
  other_is = other_is;
  choice = choice;
  denied = denied;
  tested_are = is ∙ tested_are c p reasons x choices;
  tested_denied = subst (IsDenied c p reasons) (sym is) (prefix_denied c p d reasons x choices);
  lowest = lowest;
}

pub first_chosen : (c : NodeCheck) (p d : ℕ) (reasons : List Reason) (x : Choices) → AreChoicesOf c p reasons x → 2 ≤ d → d ≤ 1024 → (tested : List Literal) → tested ≡ tested_of x → IsChosen c p d reasons x.equations tested
first_chosen c p d reasons x choices least most tested is =
    chosen_of c p d reasons x x.equations choices [] least most choices.first_lowest (inl refl) choices.first choices.first_denied tested is

pub second_chosen : (c : NodeCheck) (p d : ℕ) (reasons : List Reason) (x : Choices) (y : Choice) → AreChoicesOf c p reasons x → x.all ≡ Some y → 2 ≤ d → d ≤ 1024 → (tested : List Literal) → tested ≡ tested_of x → IsChosen c p d reasons y tested
second_chosen c p d reasons x y choices there least most tested is =
    chosen_of c p d reasons x y choices choices.unequal least most (subst (IsLowestIfSome c.nodes choices.unequal) there choices.second_lowest) (inr refl) (subst (IsSecondOf c choices.equal choices.unequal) there choices.second).1 (subst (IsDeniedIfSome c p reasons) there choices.second_denied) tested is

-- the greatest degrees of both choices are those that they have
pub bounded : (c : NodeCheck) (p : ℕ) (reasons : List Reason) (x : Choices) → AreChoicesOf c p reasons x → AreBounded x
bounded c p reasons x choices = record {
  equations = record { bound = choices.first_denied.choice.bound; least = choices.first_denied.choice.least };
  all = by_all x.all choices.second_denied;
}
  where
    by_all : (o : Option Choice) → IsDeniedIfSome c p reasons o → IsBoundedIfSome o
    by_all None h = tt
    by_all (Some y) h = record { bound = h.choice.bound; least = h.choice.least }
