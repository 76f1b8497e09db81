-- Checks that no bound speaks of.
use Rattle.std.proofs.Common.{Result, Ok, Err, IfOk, ◌≡◌, ℕ, Bool, true, false, ◌&&◌, ◌||◌, nat_lt, nat_le, List, [], ◌∷◌, refl, sym, ap, ◌∙◌, inl, inr, arith, Option, Some, None, IfNone}
use Rattle.std.specs.List.{list_all, list_any}
use Rattle.std.proofs.lemmas.Bool.{false≢true, cases_Bool}
use Rattle.std.proofs.lemmas.Bool.Decides.{nat_tests}
use Rattle.ffc_field.specs.declared.id.FieldId.{FieldId}
use Rattle.ffc_theory.specs.Bounds.{IsBeyondBounds, IsBeyondEarly, IsBeyondLate, IsAnswerBeyond, IsCauseBeyond}
use Rattle.ffc_bounds.specs.Conjunctions.{is_conjunction, has_no_ite, has_one_order}
use Rattle.ffc_bounds.specs.Linear.{is_affine, is_linear, is_linear_within}
use Rattle.ffc_bounds.specs.Forced.{IsRefutedByForcing}
use Rattle.ffc_flat.specs.Answering.{IsRightAnswer}
use Rattle.ffc_linear.specs.declared.deciding.LinearAnswer.{LinearAnswer}
use Rattle.ffc_linear.specs.declared.deciding.LinearAnswer.TheVariants.{Undecided}
use Rattle.ffc_single.specs.Bounds.{IsDecidedSingle}
use Rattle.ffc_rules.specs.Causes.{passes_degree, passes_length}
use Rattle.ffc_rules.specs.Cones.{atoms}
use Rattle.ffc_rules.specs.Entries.{NodeCheck, limits}
use Rattle.ffc_term.specs.Measuring.{degree_at, length_at}
use Rattle.ffc_trials.specs.declared.stop.DecideStop.{DecideStop}
use Rattle.ffc_trials.specs.declared.stop.DecideStop.TheVariants as stops
use Rattle.ffc_trials.specs.Stops.{cause_of, IsPassed}

third_fails : (a b c d e : Bool) → c ≡ false → ((a && (b && (c && d))) && e) ≡ false
third_fails a b true d e is = absurd (false≢true (sym is))
third_fails true true false d e is = refl
third_fails true false false d e is = refl
third_fails false b false d e is = refl

two_fields_not_linear : (budget : ℕ) (c : NodeCheck) → has_one_order c.nodes c.in_force ≡ false → is_linear_within limits c budget ≡ false
unfolding is_linear is_linear_within
two_fields_not_linear budget c two = third_fails (is_conjunction c.nodes c.in_force) (has_no_ite c.nodes c.in_force) (has_one_order c.nodes c.in_force) (is_affine limits c) _ two

two_fields_beyond_early : (budget : ℕ) (c : NodeCheck) → has_one_order c.nodes c.in_force ≡ false → IsBeyondEarly budget c
two_fields_beyond_early budget c two = record {
  not_linear = two_fields_not_linear budget c two;
  not_forced = λ f. false≢true (sym two ∙ f.one_field);
  not_single = λ f. false≢true (sym two ∙ f.one_field);
}

two_fields_beyond_late : (budget : ℕ) (c : NodeCheck) → has_one_order c.nodes c.in_force ≡ false → IsBeyondLate budget c
two_fields_beyond_late budget c two = record {
  not_refuted = λ f. false≢true (sym two ∙ f.reached.one_field);
  not_solved = λ f. false≢true (sym two ∙ f.reached.one_field);
}

-- no bound speaks of a check that is not over one field
pub no_field_beyond_early : (budget : ℕ) (c : NodeCheck) (found : Option FieldId) → ((id : FieldId) → found ≡ Some id → ⊥)
    → IfNone found (has_one_order c.nodes c.in_force ≡ false) → IsBeyondEarly budget c
no_field_beyond_early budget c None none two = two_fields_beyond_early budget c two
no_field_beyond_early budget c (Some id) none two = absurd (none id refl)

pub no_field_beyond_late : (budget : ℕ) (c : NodeCheck) (found : Option FieldId) → ((id : FieldId) → found ≡ Some id → ⊥)
    → IfNone found (has_one_order c.nodes c.in_force ≡ false) → IsBeyondLate budget c
no_field_beyond_late budget c None none two = two_fields_beyond_late budget c two
no_field_beyond_late budget c (Some id) none two = absurd (none id refl)

fourth_fails : (a b c d e : Bool) → d ≡ false → ((a && (b && (c && d))) && e) ≡ false
fourth_fails a b c true e is = absurd (false≢true (sym is))
fourth_fails true true true false e is = refl
fourth_fails true true false false e is = refl
fourth_fails true false c false e is = refl
fourth_fails false b c false e is = refl

not_affine_not_linear : (budget : ℕ) (c : NodeCheck) → is_affine limits c ≡ false → is_linear_within limits c budget ≡ false
unfolding is_linear is_linear_within
not_affine_not_linear budget c high = fourth_fails (is_conjunction c.nodes c.in_force) (has_no_ite c.nodes c.in_force) (has_one_order c.nodes c.in_force) (is_affine limits c) _ high

-- where one of some passes a test, and none that does is right, not all are right
one_fails : (test right : ℕ → Bool) → ((id : ℕ) → test id ≡ true → right id ≡ false) → (ids : List ℕ) → list_any test ids ≡ true → list_all right ids ≡ false
one_fails test right fails [] any = absurd (false≢true any)
one_fails test right fails (id ∷ ids) any =
    elim (cases_Bool (test id)) as (λ _. (right id && list_all right ids) ≡ false) [
      | inl passes ↦ ap (λ b. b && list_all right ids) (fails id passes)
      | inr other ↦ rest_fails (right id) (list_all right ids) (one_fails test right fails ids (sym (ap (λ b. b || list_any test ids) other) ∙ any))
    ]
  where
    rest_fails : (a b : Bool) → b ≡ false → (a && b) ≡ false
    rest_fails true b is = is
    rest_fails false b is = refl

too_high : (d : ℕ) (b : Bool) → nat_lt 255 d ≡ true → (nat_le d 1 && b) ≡ false
too_high d b high = ap (λ a. a && b) (let no : nat_le d 1 ≡ false = grind (arith, nat_tests, high) in no)

too_long : (n : ℕ) (b : Bool) → nat_lt 65536 n ≡ true → (b && nat_le n 65536) ≡ false
too_long n b long = both_fail b (nat_le n 65536) (grind (arith, nat_tests, long))
  where
    both_fail : (a b : Bool) → b ≡ false → (a && b) ≡ false
    both_fail true b is = is
    both_fail false b is = refl

high_beyond : (budget : ℕ) (c : NodeCheck) → passes_degree limits c ≡ true → IsBeyondBounds budget c
high_beyond budget c passed = record {
  early = record {
    not_linear = not_affine_not_linear budget c (one_fails (λ id. nat_lt 255 (degree_at c.nodes id)) _ (λ id high. too_high (degree_at c.nodes id) (nat_le (length_at c.nodes id) 65536) high) (atoms c.nodes c.in_force) passed);
    not_forced = λ f. false≢true (sym f.low ∙ passed);
    not_single = λ f. false≢true (sym f.low ∙ passed);
  };
  late = record {
    not_refuted = λ f. false≢true (sym f.reached.low ∙ passed);
    not_solved = λ f. false≢true (sym f.reached.low ∙ passed);
  };
}

long_beyond : (budget : ℕ) (c : NodeCheck) → passes_length limits c ≡ true → IsBeyondBounds budget c
long_beyond budget c passed = record {
  early = record {
    not_linear = not_affine_not_linear budget c (one_fails (λ id. nat_lt 65536 (length_at c.nodes id)) _ (λ id long. too_long (length_at c.nodes id) (nat_le (degree_at c.nodes id) 1) long) (atoms c.nodes c.in_force) passed);
    not_forced = λ f. false≢true (sym f.short ∙ passed);
    not_single = λ f. false≢true (sym f.short ∙ passed);
  };
  late = record {
    not_refuted = λ f. false≢true (sym f.reached.short ∙ passed);
    not_solved = λ f. false≢true (sym f.reached.short ∙ passed);
  };
}

-- no bound speaks of a check with an equality that passes a limit
pub limit_beyond : (budget : ℕ) (c : NodeCheck) (stop : DecideStop) → IsPassed c stop → IsCauseBeyond budget c (cause_of stop)
limit_beyond budget c (stops.Spent t r a k) passed = absurd passed
limit_beyond budget c stops.TooHigh passed = high_beyond budget c passed
limit_beyond budget c stops.TooLong passed = long_beyond budget c passed.1
limit_beyond budget c stops.Memory passed = tt

-- a check that no bound speaks of may be left undecided for any cause
pub beyond_for_any_cause : (budget : ℕ) (c : NodeCheck) (stop : DecideStop) → IsBeyondEarly budget c → IsBeyondLate budget c → IsCauseBeyond budget c (cause_of stop)
beyond_for_any_cause budget c (stops.Spent t r a k) early late = record { early = early; late = late }
beyond_for_any_cause budget c stops.TooHigh early late = record { early = early; late = late }
beyond_for_any_cause budget c stops.TooLong early late = record { early = early; late = late }
beyond_for_any_cause budget c stops.Memory early late = tt

-- where the earlier attempts leave a check, the answer of the last one is right, or no bound of them speaks of the check
pub last_is_beyond : {E : Type 0} (budget : ℕ) (c : NodeCheck) (result : Result LinearAnswer E) → is_linear_within limits c budget ≡ false → (IsRefutedByForcing budget c → ⊥)
    → IfOk result (IsRightAnswer c) → (result ≡ Ok Undecided → IsDecidedSingle budget c → ⊥) → IfOk result (IsAnswerBeyond (IsBeyondEarly budget) c)
last_is_beyond budget c (Ok answer) not_linear not_forced right undecided =
    (right, λ is. record { not_linear = not_linear; not_forced = not_forced; not_single = undecided (ap Ok is) })
last_is_beyond budget c (Err e) not_linear not_forced right undecided = tt
