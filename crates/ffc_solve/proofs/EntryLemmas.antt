-- Entries that a decided check gets.
use Rattle.std.proofs.Common.{◌≡◌, ℕ, ◌+◌, ◌^◌, ◌<◌, ◌≤◌, List, [], ◌∷◌, ◌++◌, length, codes, refl, sym, ap, ◌∙◌, subst, arith, lit≤, true}
use Rattle.std.proofs.lemmas.List.{length-append}
use Rattle.std.proofs.lemmas.Fmt.{length-decimal-le}
use Rattle.ffc_theory.specs.Bounds.{IsCauseBeyond}
use Rattle.ffc_cert.specs.declared.entries.Entry.TheVariants.{Unknown}
use Rattle.ffc_cert.specs.declared.entries.Cause.{Cause}
use Rattle.ffc_cert.specs.declared.entries.Cause.TheVariants.{Degree, Terms, Steps, Memory}
use Rattle.ffc_cert.specs.Ranges.{IsCause}
use Rattle.ffc_cert.specs.Spelling.{number, cause_items, entry_text}
use Rattle.ffc_term.specs.declared.check.Check.{Check}
use Rattle.ffc_smt.specs.TableChecks.{TableCheck, declared_nodes, nodes_in_force}
use Rattle.ffc_rules.specs.Causes.{is_cause_within}
use Rattle.ffc_rules.specs.Entries.{NodeCheck, limits, entry_fault_within, EntryOk}
use Rattle.ffc_rules.specs.Judging.{node_check}
use Rattle.ffc_check.specs.Judged as judged
use Rattle.ffc_trials.specs.declared.stop.DecideStop.{DecideStop}
use Rattle.ffc_trials.specs.declared.stop.DecideStop.TheVariants as stops
use Rattle.ffc_trials.specs.Stops.{cause_of, IsCaused}
use Rattle.ffc_solve.specs.declared.arguments.Task.{Task}
use Rattle.ffc_solve.specs.Solving.{IsRight}
use Rattle.ffc_solve.proofs.RememberLemmas.{cause_for}

-- what an entry is judged by, as a check over a table and as a check of a script
pub same_check : (a : Check) (c : TableCheck) → a.table.now ≡ c.nodes → a.declared.now ≡ declared_nodes c → a.in_force.now ≡ nodes_in_force c → a.first_order ≡ c.check.first_order
    → judged.judged_check a ≡ node_check c
same_check a c nodes declared in_force order = λ i. record { nodes = nodes i; declared = declared i; in_force = in_force i; first_order = order i }

-- Causes

number-short : (n : ℕ) → n < 2 ^ 64 → length (number n) ≤ 21
number-short n wide = let h = length-decimal-le 20 n (omega arith) (omega arith) wide in omega arith

cause-short : (cause : Cause) → IsCause cause → length (entry_text (Unknown cause)) ≤ 67108864
unfolding entry_text cause_items
cause-short Degree is = lit≤ tt
cause-short Terms is = lit≤ tt
cause-short Memory is = lit≤ tt
cause-short (Steps t r a k) is =
    let head : List ℕ = codes " steps" in
    let h1 = number-short t is.0 in
    let h2 = number-short r is.1.0 in
    let h3 = number-short a is.1.1.0 in
    let h4 = number-short k is.1.1.1 in
    let long : length (((((codes "unknown" ++ (codes " steps" ++ number t ++ number r ++ number a ++ number k)) ++ 10 ∷ [])))) ≡ 7 + (6 + length (number t) + length (number r) + length (number a) + length (number k)) + 1 =
    length-append (codes "unknown" ++ (codes " steps" ++ number t ++ number r ++ number a ++ number k)) (10 ∷ [])
    ∙ ap (λ n. n + 1)
    (length-append (codes "unknown") (codes " steps" ++ number t ++ number r ++ number a ++ number k)
    ∙ ap (λ n. 7 + n)
    (length-append (codes " steps" ++ number t ++ number r ++ number a) (number k)
    ∙ ap (λ n. n + length (number k)) (length-append (codes " steps" ++ number t ++ number r) (number a)
    ∙ ap (λ n. n + length (number a)) (length-append (codes " steps" ++ number t) (number r) ∙ ap (λ n. n + length (number r)) (length-append (codes " steps") (number t)))))) in
    omega arith

unknown_ok : (c : NodeCheck) (cause : Cause) → EntryOk c (Unknown cause)
unfolding entry_fault_within
unknown_ok c cause line = refl

-- a check that is left undecided
pub undecided_right : (task : Task) (a : NodeCheck) (c : TableCheck) (stop : DecideStop) (cause : Cause) → cause ≡ cause_of stop → a ≡ node_check c → IsCause cause → IsCaused task.steps a stop → IsCauseBeyond task.steps a (cause_of stop) → IsRight task c (Unknown cause)
undecided_right task a c stop cause e same is caused beyond =
    record {
      readable = record { well_formed = is; short = cause-short cause is };
      right = unknown_ok (node_check c) cause;
      caused = subst (λ n. is_cause_within limits n task.steps cause ≡ true) same (subst (λ k. is_cause_within limits a task.steps k ≡ true) (sym e) caused);
      allowed = tt;
      beyond = subst (λ n. IsCauseBeyond task.steps n cause) same (subst (IsCauseBeyond task.steps a) (sym e) beyond);
    }

-- what is spent within a budget of 64 bits has counts of 64 bits
pub cause_range : (budget : ℕ) (a : NodeCheck) (stop : DecideStop) → budget < 2 ^ 64 → IsCaused budget a stop → IsCause (cause_of stop)
cause_range budget a (stops.Spent t r x k) few caused =
    let sum = cause_for budget a (Steps t r x k) few caused in
    (omega arith, (omega arith, (omega arith, omega arith)))
cause_range budget a stops.TooHigh few caused = tt
cause_range budget a stops.TooLong few caused = tt
cause_range budget a stops.Memory few caused = tt
