-- What an accepted certificate means for the checks of a script.
use Rattle.std.proofs.Common.{◌≡◌, ℕ, zero, suc, ◌<◌, Bool, true, false, List, [], ◌∷◌, length, Option, Some, None, refl, sym, ap, ◌∙◌, subst, arith, slice_get, option_map}
use Rattle.std.specs.List.{AllByRecursion}
use Rattle.std.proofs.lemmas.Bool.{true≢false, false≢true}
use Rattle.std.proofs.lemmas.Option.{none-some, same_Some, slice_get_within, get_or_from_slice_get, slice_get-map}
use Rattle.ffc_cert.specs.declared.entries.Entry.{Entry}
use Rattle.ffc_cert.specs.declared.entries.Entry.TheVariants.{Sat, UnsatCases, UnsatSteps, Unknown}
use Rattle.ffc_cert.specs.declared.entries.Numbered.{Numbered}
use Rattle.ffc_cert.specs.Reading.{End, Complete, Open, Stopped, Reading, reading_of}
use Rattle.ffc_smt.specs.Scripts.{reads}
use Rattle.ffc_smt.specs.TableChecks.{TableCheck, nodes_in_force, table_checks}
use Rattle.ffc_smt.specs.CommandReading.{limits as script_limits}
use Rattle.ffc_smt.specs.CheckLaws.{KeepsCheck}
use Rattle.ffc_smt.proofs.CheckLemmas.{scripts_keep_checks}
use Rattle.ffc_rules.specs.Entries.{NodeCheck, Limits, limits, Broken, entry_fault_within}
use Rattle.ffc_rules.specs.Judging.{node_check, Rule, Counts, Judgement, Accepted, Refused, first_broken, end_judgement, judgement_of, checks_in, Accepts}
use Rattle.ffc_rules.specs.Cores.{core}
use Rattle.ffc_rules.specs.Laws.{IsTrueOfCheck, HasEntry}
use Rattle.ffc_rules.proofs.EntryLemmas.{entry_true, core_sound}
use Rattle.ffc_rules.proofs.ModelLemmas.{HasValues, check_sorts, completed, completed_agrees, completed_fits}
use Rattle.ffc_rules.proofs.ReadingLemmas.{all_read}

-- an entry that breaks no rule is true of a check whose nodes keep its terms' values
kept_true : (l : Limits) (c : TableCheck) (entry : Entry) (line : ℕ) → KeepsCheck c → AllByRecursion HasValues c.check.constants → entry_fault_within l (node_check c) entry line ≡ None → IsTrueOfCheck c entry
kept_true l c (Sat pairs) line keeps sorts e =
    let is = entry_true l (node_check c) (Sat pairs) line keeps.valid e in
    let A = completed c pairs in
    let agrees = completed_agrees c keeps pairs is.0 in (
      is.0,
      (λ B fits given. (keeps.holds B).1 (fits, is.1 B given)),
      record { assignment = A; agrees = agrees; holds = (keeps.holds A).1 (completed_fits c pairs sorts, is.1 A agrees) },
    )
kept_true l c UnsatCases line keeps sorts e = (
  (λ A holds. entry_true l (node_check c) UnsatCases line keeps.valid e A ((keeps.holds A).0 holds).1),
  keeps.core (core UnsatCases (length (nodes_in_force c))) (λ A fits all. core_sound l (node_check c) UnsatCases line A keeps.valid tt e all),
)
kept_true l c (UnsatSteps lines) line keeps sorts e = (
  (λ A holds. entry_true l (node_check c) (UnsatSteps lines) line keeps.valid e A ((keeps.holds A).0 holds).1),
  keeps.core (core (UnsatSteps lines) (length (nodes_in_force c))) (λ A fits all. core_sound l (node_check c) (UnsatSteps lines) line A keeps.valid tt e all),
)
kept_true l c (Unknown cause) line keeps sorts e = tt

check_keeps : (script : List ℕ) (k : ℕ) (c : TableCheck) → slice_get (table_checks (reads script).steps) k ≡ Some c → KeepsCheck c
check_keeps script k c at =
    subst KeepsCheck (get_or_from_slice_get (table_checks (reads script).steps) k c c at)
    ((scripts_keep_checks script_limits script (omega arith)).1 k c (slice_get_within (table_checks (reads script).steps) k c at))

pub check_true : (l : Limits) (script : List ℕ) (k : ℕ) (c : TableCheck) (entry : Entry) (line : ℕ) → slice_get (table_checks (reads script).steps) k ≡ Some c → entry_fault_within l (node_check c) entry line ≡ None → IsTrueOfCheck c entry
check_true l script k c entry line at e = kept_true l c entry line (check_keeps script k c at) (check_sorts script k c at) e

-- where no entry breaks a rule, the entry at a place breaks none of its check
at_place : (l : Limits) (checks : List NodeCheck) (entries : List Numbered) (k : ℕ) (c : NodeCheck) (e : Numbered) → first_broken l checks entries ≡ None → slice_get checks k ≡ Some c → slice_get entries k ≡ Some e → entry_fault_within l c e.entry e.first_line ≡ None
unfolding first_broken
at_place l checks [] k c e none at is = absurd (none-some e is)
at_place l [] (x ∷ entries) k c e none at is = absurd (none-some c at)
at_place l (d ∷ checks) (x ∷ entries) k c e none at is = by_first (entry_fault_within l d x.entry x.first_line) refl none k at is (λ j rest. at_place l checks entries j c e rest)
  where
    by_first : (o : Option Broken) → entry_fault_within l d x.entry x.first_line ≡ o
        → elim o as (λ _. Option Judgement) [ Some broken ↦ Some (Refused x.number broken.line (Rule broken.rule)) | None ↦ first_broken l checks entries ] ≡ None
        → (j : ℕ) → slice_get (d ∷ checks) j ≡ Some c → slice_get (x ∷ entries) j ≡ Some e
        → ((i : ℕ) → first_broken l checks entries ≡ None → slice_get checks i ≡ Some c → slice_get entries i ≡ Some e → entry_fault_within l c e.entry e.first_line ≡ None)
        → entry_fault_within l c e.entry e.first_line ≡ None
    by_first (Some broken) f rest j at is next = absurd (none-some _ (sym rest))
    by_first None f rest zero at is next =
        subst (λ y. entry_fault_within l c y.entry y.first_line ≡ None) (same_Some x e is)
        (subst (λ y. entry_fault_within l y x.entry x.first_line ≡ None) (same_Some d c at) f)
    by_first None f rest (suc j) at is next = next j rest at is

-- a refusal is not an acceptance
is_accepted : Judgement → Bool
is_accepted (Accepted n) = true
is_accepted (Refused e l c) = false

broken_refuses : (l : Limits) (checks : List NodeCheck) (entries : List Numbered) (j : Judgement) → first_broken l checks entries ≡ Some j → is_accepted j ≡ false
unfolding first_broken is_accepted
broken_refuses l checks [] j e = absurd (none-some j e)
broken_refuses l [] (x ∷ entries) j e = absurd (none-some j e)
broken_refuses l (d ∷ checks) (x ∷ entries) j e = by_first (entry_fault_within l d x.entry x.first_line) e (broken_refuses l checks entries j)
  where
    by_first : (o : Option Broken) → elim o as (λ _. Option Judgement) [ Some broken ↦ Some (Refused x.number broken.line (Rule broken.rule)) | None ↦ first_broken l checks entries ] ≡ Some j → (first_broken l checks entries ≡ Some j → is_accepted j ≡ false) → is_accepted j ≡ false
    by_first (Some broken) is next = ap is_accepted (sym (same_Some _ j is))
    by_first None is next = next is

-- an element by its place
element : {X : Type 0} (xs : List X) (k : ℕ) → k < length xs → (x : X) × (slice_get xs k ≡ Some x)
element [] k inside = absurd (omega arith)
element (x ∷ xs) zero inside = (x, refl)
element (x ∷ xs) (suc k) inside = element xs k (omega arith)

-- an accepted certificate has no broken entry, and is read to its end
accepted_parts : (l : Limits) (checks : List NodeCheck) (r : Reading) (n : Counts) → judgement_of l checks r ≡ Accepted n → (first_broken l checks r.entries ≡ None) × (r.end ≡ Complete)
unfolding judgement_of is_accepted
accepted_parts l checks r n e = by_broken (first_broken l checks r.entries) refl e
  where
    by_end : (end : End) → r.end ≡ end → end_judgement r.entries end ≡ Accepted n → r.end ≡ Complete
    by_end Complete at is = at
    by_end (Open fault) at is = absurd (false≢true (ap is_accepted is))
    by_end (Stopped fault) at is = absurd (false≢true (ap is_accepted is))

    by_broken : (o : Option Judgement) → first_broken l checks r.entries ≡ o → elim o as (λ _. Judgement) [ Some refused ↦ refused | None ↦ end_judgement r.entries r.end ] ≡ Accepted n → (first_broken l checks r.entries ≡ None) × (r.end ≡ Complete)
    by_broken (Some refused) at is = absurd (true≢false (sym (ap is_accepted is) ∙ broken_refuses l checks r.entries refused at))
    by_broken None at is = (at, by_end r.end refl is)

pub accepted_sound : (bits : Bool) (script certificate : List ℕ) → Accepts bits script certificate → (k : ℕ) (c : TableCheck) → slice_get (table_checks (reads script).steps) k ≡ Some c → HasEntry bits script certificate k c
accepted_sound bits script certificate accepts k c at =
    let checks = checks_in script in
    let r = reading_of bits (length checks) certificate in
    let parts = accepted_parts limits checks r accepts.counts accepts.accepted in
    let here : slice_get checks k ≡ Some (node_check c) = slice_get-map node_check (table_checks (reads script).steps) k ∙ ap (option_map node_check) at in
    let inside : k < length checks = slice_get_within checks k (node_check c) here in
    let long = all_read bits (length checks) certificate parts.1 in
    let (e, is) = element r.entries k (omega (arith, long, inside)) in
    record {
      entry = e;
      at = is;
      true_of = check_true limits script k c e.entry e.first_line at (at_place limits checks r.entries k (node_check c) e parts.0 here is);
    }
