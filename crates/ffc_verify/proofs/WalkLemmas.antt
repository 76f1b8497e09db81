-- Walking a script from check to check.
use Rattle.std.proofs.Common.{◌≡◌, ℕ, suc, ◌+◌, ◌-◌, ◌<◌, ◌≤◌, ◌^◌, true, false, List, [], ◌∷◌, ◌++◌, length, Some, None, Option, refl, sym, ap, ◌∙◌, subst, arith, append-nil}
use Rattle.std.proofs.lemmas.List.{take_all, length_push}
use Rattle.ffc_lex.specs.Lexing.{extended}
use Rattle.ffc_lex.specs.Limits.{max_bytes}
use Rattle.ffc_smt.specs.Scripts.{Step, Done, reads}
use Rattle.ffc_smt.specs.TableChecks.{TableCheck, table_check_of, table_checks}
use Rattle.ffc_elab.specs.declared.answers.Command.{Command}
use Rattle.ffc_elab.specs.declared.answers.Command.TheVariants as command
use Rattle.ffc_elab.specs.Histories.{Known, check_now}
use Rattle.ffc_verify.specs.declared.script.Kind.TheVariants as kind
use Rattle.ffc_script.specs.declared.stop.ScriptStop.{ScriptStop}
use Rattle.ffc_script.specs.declared.stop.ScriptStop.TheVariants as stop
use Rattle.ffc_script.specs.Progress.{Progress, steps_of, known_at, steps_from}
use Rattle.ffc_script.specs.Answers.{ends, check_by, end_at_fault, Gives, StopsAt, EndsAt}
use Rattle.ffc_script.proofs.StepLemmas.{checks_more}
use Rattle.ffc_verify.specs.Walking.{kind_by, GivesCheck, IsThrough, IsCounted, IsFaultOf}

-- Checks of steps

checks_cons_few : (x : Step) (xs : List Step) → length (table_checks xs) ≤ length xs → length (table_checks (x ∷ xs)) ≤ suc (length xs)
checks_cons_few x xs h = by_check (table_check_of x)
  where
    by_check : (o : Option TableCheck) → length {A = TableCheck} (elim o [ None ↦ table_checks xs | Some c ↦ c ∷ table_checks xs ]) ≤ suc (length xs)
    by_check None = omega arith
    by_check (Some c) = omega arith

pub checks_few : (xs : List Step) → length (table_checks xs) ≤ length xs
checks_few [] = omega arith
checks_few (x ∷ xs) = checks_cons_few x xs (checks_few xs)

-- One command

by_check : (c : Command) (k : Known) → kind_by c ≡ kind.Check → check_by c k ≡ Some (check_now k)
by_check command.Check k e = refl
by_check (command.CheckAssuming asked) k e = refl
by_check _ k e = cc

by_last : (c : Command) (k : Known) → kind_by c ≡ kind.Last → (check_by c k ≡ None) × (ends c ≡ true)
by_last command.Exit k e = (refl, refl)
by_last _ k e = cc

by_other : (c : Command) (k : Known) → kind_by c ≡ kind.Other → (check_by c k ≡ None) × (ends c ≡ false)
by_other command.Check k e = cc
by_other (command.CheckAssuming asked) k e = cc
by_other command.Exit k e = cc
by_other _ k e = (refl, refl)

check_goes : (c : Command) → kind_by c ≡ kind.Check → ends c ≡ false
check_goes command.Exit e = cc
check_goes _ e = refl

gives_check : (old new : Progress) (c : Command) → Gives old new c → kind_by c ≡ kind.Check → table_checks (steps_of new) ≡ table_checks (steps_of old) ++ check_now (known_at new) ∷ []
gives_check old new c g e = ap table_checks g.steps ∙ checks_more (steps_of old) g.step (Some (check_now (known_at new))) (g.check ∙ by_check c (known_at new) e)

gives_none : (old new : Progress) (c : Command) → Gives old new c → check_by c (known_at new) ≡ None → table_checks (steps_of new) ≡ table_checks (steps_of old)
gives_none old new c g e = ap table_checks g.steps ∙ checks_more (steps_of old) g.step None (g.check ∙ e) ∙ append-nil (table_checks (steps_of old))

rise_by : (n o a b : ℕ) → n ≡ o + 1 → a ≡ b → n ≤ a → a + 1 - n < b + 1 - o
rise_by n o a b e f few = omega arith

-- no check was given since
pub record HasNoMore (old new : Progress) : Type 0 where
  pub text : new.text ≡ old.text
  pub over : new.over ≡ false
  pub checks : table_checks (steps_of new) ≡ table_checks (steps_of old)

pub none_first : (p : Progress) → p.over ≡ false → HasNoMore p p
none_first p e = record { text = refl; over = e; checks = refl }

module _ (old now new : Progress) (c : Command) (h : HasNoMore old now) (g : Gives now new c) where
  pub found_check : kind_by c ≡ kind.Check → GivesCheck old new
  found_check e = record {
    text = g.text ∙ h.text;
    over = g.over ∙ check_goes c e;
    checks = gives_check now new c g e ∙ ap (λ cs. cs ++ check_now (known_at new) ∷ []) h.checks;
  }

  pub found_last : kind_by c ≡ kind.Last → IsThrough old
  found_last e =
      let last = by_last c (known_at new) e in
      let all : reads new.text ≡ record { steps = steps_of new; end = Done } = ap reads (sym (append-nil new.text)) ∙ g.ended last.1 [] in
      let here : reads old.text ≡ record { steps = steps_of new; end = Done } = ap reads (sym (g.text ∙ h.text)) ∙ all in
      record { done = ap (λ s. s.end) here; checks = ap (λ s. table_checks s.steps) here ∙ gives_none now new c g last.0 ∙ h.checks }

  pub goes_on : kind_by c ≡ kind.Other → HasNoMore old new
  goes_on e =
      let other = by_other c (known_at new) e in
      record { text = g.text ∙ h.text; over = g.over ∙ other.1; checks = gives_none now new c g other.0 ∙ h.checks }

  -- a command takes a byte
  pub steps_rise : length (steps_of new) ≤ length new.text → length new.text + 1 - length (steps_of new) < length now.text + 1 - length (steps_of now)
  steps_rise few = rise_by (length (steps_of new)) (length (steps_of now)) (length new.text) (length now.text) (ap length g.steps ∙ length_push (steps_of now) g.step) (ap length g.text) few

pub stops_at : (old now : Progress) (s : ScriptStop) → HasNoMore old now → StopsAt now s → IsFaultOf old.text s
stops_at old now (stop.Fault f) h says =
    let here : reads old.text ≡ record { steps = steps_of now; end = end_at_fault f } = ap reads (sym h.text ∙ sym (append-nil now.text)) ∙ says [] in
    ap (λ s. s.end) here
stops_at old now stop.Memory h says = tt

pub ends_at : (old now : Progress) (s : ScriptStop) → HasNoMore old now → EndsAt now s → IsFaultOf old.text s
ends_at old now (stop.Fault f) h says =
    let here : reads old.text ≡ record { steps = steps_of now; end = end_at_fault f } = ap reads (sym h.text) ∙ says in
    ap (λ s. s.end) here
ends_at old now stop.Memory h says = tt

-- arithmetic

room_by : (n c x t s : ℕ) → c ≡ n + 1 → c ≤ x → x ≤ t → t ≡ s → s ≤ 67108865 → n + 1 ≤ 67108865
room_by n c x t s e a b f short = omega arith

smaller_by : (new old n : ℕ) → new ≡ n + 1 → old ≡ n → n + 1 ≤ 67108865 → 67108866 - new < 67108866 - old
smaller_by new old n e f room = omega arith

few_by : (n : ℕ) → n ≤ 67108865 → n < 2 ^ 32
few_by n h = omega arith

-- A whole script

pub fed_whole : (script : List ℕ) → length script ≤ 67108865 → extended [] script ≡ script
fed_whole script h = take_all (max_bytes + 1) script (omega arith)

-- so many checks were given
pub record HasCounted (script : List ℕ) (p : Progress) (count : ℕ) : Type 0 where
  pub text : p.text ≡ script
  pub over : p.over ≡ false
  pub count_is : length (table_checks (steps_of p)) ≡ count
  pub few : count ≤ 67108865

pub counted_first : (script : List ℕ) (p : Progress) → p ≡ record { text = script; forms = []; over = false } → HasCounted script p 0
unfolding steps_from
counted_first script p e = subst (λ p. HasCounted script p 0) (sym e) (record { text = refl; over = refl; count_is = refl; few = omega arith })

module _ (script : List ℕ) (short : length script ≤ 67108865) (old : Progress) (count : ℕ) (h : HasCounted script old count) where
  longer : (new : Progress) → GivesCheck old new → length (table_checks (steps_of new)) ≡ count + 1
  longer new g = ap length g.checks ∙ length_push (table_checks (steps_of old)) (check_now (known_at new)) ∙ ap (λ n. n + 1) h.count_is

  pub counted_room : (new : Progress) → GivesCheck old new → length (steps_of new) ≤ length new.text → count + 1 ≤ 67108865
  counted_room new g few =
      room_by count (length (table_checks (steps_of new))) (length (steps_of new)) (length new.text) (length script) (longer new g) (checks_few (steps_of new)) few (ap length (g.text ∙ h.text)) short

  pub counted_more : (new : Progress) → GivesCheck old new → length (steps_of new) ≤ length new.text → HasCounted script new (count + 1)
  counted_more new g few = record { text = g.text ∙ h.text; over = g.over; count_is = longer new g; few = counted_room new g few }

  pub counted_smaller : (new : Progress) → GivesCheck old new → length (steps_of new) ≤ length new.text → 67108866 - length (table_checks (steps_of new)) < 67108866 - length (table_checks (steps_of old))
  counted_smaller new g few = smaller_by (length (table_checks (steps_of new))) (length (table_checks (steps_of old))) count (longer new g) h.count_is (counted_room new g few)

  pub counted_all : IsThrough old → IsCounted script count
  counted_all t = record {
    done = ap (λ b. (reads b).end) (sym h.text) ∙ t.done;
    checks = ap (λ b. length (table_checks (reads b).steps)) (sym h.text) ∙ ap length t.checks ∙ h.count_is;
    few = few_by count h.few;
  }
