-- Answers and entries of lists of commands.
use Rattle.std.proofs.Common.{◌≡◌, ℕ, zero, suc, ◌+◌, ◌≤◌, List, [], ◌∷◌, ◌++◌, length, take, Option, Some, None, slice_get, refl, sym, ap, ◌∙◌, subst, arith, append_assoc, append-nil, length-append, inl, inr, ◌⊎◌}
use Rattle.std.proofs.Common.{Result, Ok, Err, OnErr}
use Rattle.std.specs.List.{flat_map}
use Rattle.std.proofs.lemmas.List.{take-append-le, take_all}
use Rattle.ffc_base.specs.Outside.{Appends, AppendsPrefix, Becomes, Rose}
use Rattle.ffc_cert.specs.declared.entries.Entry.{Entry}
use Rattle.ffc_cert.specs.declared.entries.Entry.TheVariants.{Sat, UnsatCases, UnsatSteps, Unknown}
use Rattle.ffc_cert.specs.Spelling.{entry_text}
use Rattle.ffc_smt.specs.Scripts.{Step}
use Rattle.ffc_smt.specs.TableChecks.{TableCheck, table_check_of, table_checks}
use Rattle.ffc_answer.specs.Answers.{Last, answer_of, answers_from, checked, last_after, last_from, sat_count, unsat_count, unknown_count}
use Rattle.ffc_solve.specs.declared.arguments.Task.{Task}
use Rattle.ffc_solve.specs.Changes.{Change}
use Rattle.ffc_solve.specs.Solving.{AreEntries, IsRight}
use Rattle.std.specs.Result.{IfErr, IsErrOf}
use Rattle.ffc_solve.specs.declared.stop.Stop.{Stop}
use Rattle.ffc_solve.specs.declared.stop.Stop.TheVariants as stops

-- from one state to a later one
abbrev pub between : Option (List ℕ) → Option (List ℕ) → Change
between x y = record { old = x; new = y }

-- Texts that are appended

pub Appends-nil : (x : Option (List ℕ)) → Appends [] x x
Appends-nil None = tt
Appends-nil (Some held) = ap Some (sym (append-nil held))

pub Appends-more : (a b : List ℕ) (x y z : Option (List ℕ)) → Appends a x y → Appends b y z → Appends (a ++ b) x z
Appends-more a b None y z first second = tt
Appends-more a b (Some held) y z first second =
    let there : Appends b (Some (held ++ a)) z = (let P : Option (List ℕ) → Type 0 = λ o. Appends b o z in subst P first second) in
    there ∙ ap Some (append_assoc held a b)

pub Appends-same : (a : List ℕ) (x y z : Option (List ℕ)) → z ≡ y → Appends a x y → Appends a x z
Appends-same a x y z e h = subst (Appends a x) (sym e) h

pub Becomes-more : (a b : List ℕ) (x y z : Option (List ℕ)) → Becomes a x y → Appends b y z → Becomes (a ++ b) x z
Becomes-more a b None y z first second = tt
Becomes-more a b (Some held) y z first second = let P : Option (List ℕ) → Type 0 = λ o. Appends b o z in subst P first second

-- how much of a text was written
pub record WroteFront (b : List ℕ) (y z : Option (List ℕ)) : Type 0 where
  pub size : ℕ
  pub within : size ≤ length b
  pub appended : Appends (take size b) y z

pub front_of : (b : List ℕ) (y z : Option (List ℕ)) → AppendsPrefix b y z → WroteFront b y z
front_of b None z h = record { size = 0; within = omega arith; appended = tt }
front_of b (Some held) z (n, within, e) = record { size = n; within = within; appended = e }

-- a front of a text is one of a longer text
pub front_is_prefix : (text : List ℕ) (x z : Option (List ℕ)) (front behind : List ℕ) → text ≡ front ++ behind → Appends front x z → AppendsPrefix text x z
front_is_prefix text None z front behind e h = tt
front_is_prefix text (Some held) z front behind e h =
    (length front, rw e (omega (arith, length-append front behind)), h ∙ ap (λ t. Some (held ++ t)) (sym (rw e (take-append-le (length front) front behind (omega arith) ∙ take_all (length front) front (omega arith)))))

-- Lists of entries

pub checks-append : (xs ys : List Step) → table_checks (xs ++ ys) ≡ table_checks xs ++ table_checks ys
checks-append [] ys = refl
checks-append (x ∷ xs) ys = by_check (table_check_of x) (checks-append xs ys)
  where
    by_check : (o : Option TableCheck) → table_checks (xs ++ ys) ≡ table_checks xs ++ table_checks ys
        → elim o as (λ _. List TableCheck) [ None ↦ table_checks (xs ++ ys) | Some c ↦ c ∷ table_checks (xs ++ ys) ]
        ≡ elim o as (λ _. List TableCheck) [ None ↦ table_checks xs | Some c ↦ c ∷ table_checks xs ] ++ table_checks ys
    by_check None same = same
    by_check (Some c) same = ap (λ cs. c ∷ cs) same

pub AreEntries-more : (task : Task) (checks rest : List TableCheck) (entries : List Entry) → AreEntries task checks entries → AreEntries task (checks ++ rest) entries
AreEntries-more task checks rest [] each = tt
AreEntries-more task [] rest (e ∷ es) each = absurd each
AreEntries-more task (c ∷ cs) rest (e ∷ es) each = (each.0, AreEntries-more task cs rest es each.1)

pub AreEntries-push : (task : Task) (checks : List TableCheck) (entries : List Entry) (check : TableCheck) (entry : Entry) → length entries ≡ length checks → AreEntries task checks entries → IsRight task check entry
    → AreEntries task (checks ++ check ∷ []) (entries ++ entry ∷ [])
AreEntries-push task [] [] check entry e each is = (is, tt)
AreEntries-push task [] (x ∷ entries) check entry e each is = absurd (omega arith)
AreEntries-push task (c ∷ checks) [] check entry e each is = absurd (omega arith)
AreEntries-push task (c ∷ checks) (x ∷ entries) check entry e each is = (each.0, AreEntries-push task checks entries check entry (omega arith) each.1 is)

pub check_at_end : (checks rest : List TableCheck) (check : TableCheck) (k : ℕ) → k ≡ length checks → slice_get (checks ++ check ∷ rest) k ≡ Some check
check_at_end [] rest check zero e = refl
check_at_end [] rest check (suc k) e = absurd (omega arith)
check_at_end (c ∷ checks) rest check zero e = absurd (omega arith)
check_at_end (c ∷ checks) rest check (suc k) e = check_at_end checks rest check k (omega arith)

pub texts-append : (entries more : List Entry) → flat_map entry_text (entries ++ more) ≡ flat_map entry_text entries ++ flat_map entry_text more
texts-append [] more = refl
texts-append (x ∷ entries) more = ap (λ t. entry_text x ++ t) (texts-append entries more) ∙ sym (append_assoc (entry_text x) (flat_map entry_text entries) (flat_map entry_text more))

-- Answers

module _ (x : Step) (xs : List Step) (l : Option Last) where
  pub checks-none : table_check_of x ≡ None → table_checks (x ∷ xs) ≡ table_checks xs
  checks-none is = ap (λ (o : Option TableCheck). elim o as (λ _. List TableCheck) [ None ↦ table_checks xs | Some c ↦ c ∷ table_checks xs ]) is

  pub checks-some : (c : TableCheck) → table_check_of x ≡ Some c → table_checks (x ∷ xs) ≡ c ∷ table_checks xs
  checks-some c is = ap (λ (o : Option TableCheck). elim o as (λ _. List TableCheck) [ None ↦ table_checks xs | Some d ↦ d ∷ table_checks xs ]) is

  answers_by : List Entry → Option TableCheck → List ℕ
  answers_by entries o = elim o as (λ _. List ℕ) [
    | None ↦ answer_of (last_after l x.command) x ++ answers_from (last_after l x.command) xs entries
    | Some check ↦
        elim entries as (λ _. List ℕ) [
          | [] ↦ []
          | entry ∷ rest ↦ answer_of (Some (checked x.command check entry)) x ++ answers_from (Some (checked x.command check entry)) xs rest
        ]
  ]

  last_by : List Entry → Option TableCheck → Option Last
  last_by entries o = elim o as (λ _. Option Last) [
    | None ↦ last_from (last_after l x.command) xs entries
    | Some check ↦ elim entries as (λ _. Option Last) [ [] ↦ l | entry ∷ rest ↦ last_from (Some (checked x.command check entry)) xs rest ]
  ]

  pub answers-none : (entries : List Entry) → table_check_of x ≡ None → answers_from l (x ∷ xs) entries ≡ answer_of (last_after l x.command) x ++ answers_from (last_after l x.command) xs entries
  unfolding answers_from answers_by
  answers-none entries is = ap (answers_by entries) is

  pub answers-some : (c : TableCheck) (entry : Entry) (entries : List Entry) → table_check_of x ≡ Some c
      → answers_from l (x ∷ xs) (entry ∷ entries) ≡ answer_of (Some (checked x.command c entry)) x ++ answers_from (Some (checked x.command c entry)) xs entries
  unfolding answers_from answers_by
  answers-some c entry entries is = ap (answers_by (entry ∷ entries)) is

  pub answers-end : (c : TableCheck) → table_check_of x ≡ Some c → answers_from l (x ∷ xs) [] ≡ []
  unfolding answers_from answers_by
  answers-end c is = ap (answers_by []) is

  pub last-none : (entries : List Entry) → table_check_of x ≡ None → last_from l (x ∷ xs) entries ≡ last_from (last_after l x.command) xs entries
  unfolding last_from last_by
  last-none entries is = ap (last_by entries) is

  pub last-some : (c : TableCheck) (entry : Entry) (entries : List Entry) → table_check_of x ≡ Some c → last_from l (x ∷ xs) (entry ∷ entries) ≡ last_from (Some (checked x.command c entry)) xs entries
  unfolding last_from last_by
  last-some c entry entries is = ap (last_by (entry ∷ entries)) is

pub record AnswersSplit (l : Option Last) (xs ys : List Step) (es fs : List Entry) : Type 0 where
  pub answers_are : answers_from l (xs ++ ys) (es ++ fs) ≡ answers_from l xs es ++ answers_from (last_from l xs es) ys fs
  pub last_is : last_from l (xs ++ ys) (es ++ fs) ≡ last_from (last_from l xs es) ys fs

split_on : (x : Step) (xs ys : List Step) (l : Option Last) (es fs : List Entry) (o : Option TableCheck) → table_check_of x ≡ o → length es ≡ length (table_checks (x ∷ xs))
    → ((k : Option Last) (gs : List Entry) → length gs ≡ length (table_checks xs) → AnswersSplit k xs ys gs fs) → AnswersSplit l (x ∷ xs) ys es fs
split_on x xs ys l es fs None is e rest =
    let k = last_after l x.command in
    let h = rest k es (e ∙ ap length (checks-none x xs l is)) in
    record {
      answers_are = answers-none x (xs ++ ys) l (es ++ fs) is ∙ ap (λ t. answer_of k x ++ t) h.answers_are
          ∙ sym (append_assoc (answer_of k x) (answers_from k xs es) (answers_from (last_from k xs es) ys fs))
          ∙ ap (λ t. t ++ answers_from (last_from k xs es) ys fs) (sym (answers-none x xs l es is))
          ∙ ap (λ m. answers_from l (x ∷ xs) es ++ answers_from m ys fs) (sym (last-none x xs l es is));
      last_is = last-none x (xs ++ ys) l (es ++ fs) is ∙ h.last_is ∙ ap (λ m. last_from m ys fs) (sym (last-none x xs l es is));
    }
split_on x xs ys l [] fs (Some c) is e rest = absurd (let long = ap length (checks-some x xs l c is) in omega arith)
split_on x xs ys l (en ∷ es) fs (Some c) is e rest =
    let k = Some (checked x.command c en) in
    let long = ap length (checks-some x xs l c is) in
    let h = rest k es (omega arith) in
    record {
      answers_are = answers-some x (xs ++ ys) l c en (es ++ fs) is ∙ ap (λ t. answer_of k x ++ t) h.answers_are
          ∙ sym (append_assoc (answer_of k x) (answers_from k xs es) (answers_from (last_from k xs es) ys fs))
          ∙ ap (λ t. t ++ answers_from (last_from k xs es) ys fs) (sym (answers-some x xs l c en es is))
          ∙ ap (λ m. answers_from l (x ∷ xs) (en ∷ es) ++ answers_from m ys fs) (sym (last-some x xs l c en es is));
      last_is = last-some x (xs ++ ys) l c en (es ++ fs) is ∙ h.last_is ∙ ap (λ m. last_from m ys fs) (sym (last-some x xs l c en es is));
    }

pub answers-append : (xs ys : List Step) (l : Option Last) (es fs : List Entry) → length es ≡ length (table_checks xs) → AnswersSplit l xs ys es fs
unfolding answers_from last_from
answers-append [] ys l [] fs e = record { answers_are = refl; last_is = refl }
answers-append [] ys l (x ∷ es) fs e = absurd (omega arith)
answers-append (x ∷ xs) ys l es fs e = split_on x xs ys l es fs (table_check_of x) refl e (λ k gs long. answers-append xs ys k gs fs long)

pub last_end : (k : Option Last) → last_from k [] [] ≡ k
unfolding last_from
last_end k = refl

-- Counts

pub counts-push : (f : List Entry → ℕ) → ((e : Entry) (es : List Entry) → f (e ∷ es) ≡ f (e ∷ []) + f es) → f [] ≡ 0 → (es : List Entry) (e : Entry) → f (es ++ e ∷ []) ≡ f es + f (e ∷ [])
counts-push f more none [] e = let h = none in omega arith
counts-push f more none (x ∷ es) e = more x (es ++ e ∷ []) ∙ ap (λ n. f (x ∷ []) + n) (counts-push f more none es e) ∙ (let h = more x es in omega arith)

pub sat-more : (e : Entry) (es : List Entry) → sat_count (e ∷ es) ≡ sat_count (e ∷ []) + sat_count es
sat-more (Sat pairs) es = omega arith
sat-more UnsatCases es = omega arith
sat-more (UnsatSteps lines) es = omega arith
sat-more (Unknown cause) es = omega arith

pub unsat-more : (e : Entry) (es : List Entry) → unsat_count (e ∷ es) ≡ unsat_count (e ∷ []) + unsat_count es
unsat-more (Sat pairs) es = omega arith
unsat-more UnsatCases es = omega arith
unsat-more (UnsatSteps lines) es = omega arith
unsat-more (Unknown cause) es = omega arith

pub unknown-more : (e : Entry) (es : List Entry) → unknown_count (e ∷ es) ≡ unknown_count (e ∷ []) + unknown_count es
unknown-more (Sat pairs) es = omega arith
unknown-more UnsatCases es = omega arith
unknown-more (UnsatSteps lines) es = omega arith
unknown-more (Unknown cause) es = omega arith

pub sat-few : (es : List Entry) → sat_count es ≤ length es
sat-few [] = omega arith
sat-few (Sat pairs ∷ es) = let h = sat-few es in omega arith
sat-few (UnsatCases ∷ es) = let h = sat-few es in omega arith
sat-few (UnsatSteps lines ∷ es) = let h = sat-few es in omega arith
sat-few (Unknown cause ∷ es) = let h = sat-few es in omega arith

pub unsat-few : (es : List Entry) → unsat_count es ≤ length es
unsat-few [] = omega arith
unsat-few (Sat pairs ∷ es) = let h = unsat-few es in omega arith
unsat-few (UnsatCases ∷ es) = let h = unsat-few es in omega arith
unsat-few (UnsatSteps lines ∷ es) = let h = unsat-few es in omega arith
unsat-few (Unknown cause ∷ es) = let h = unsat-few es in omega arith

pub unknown-few : (es : List Entry) → unknown_count es ≤ length es
unknown-few [] = omega arith
unknown-few (Sat pairs ∷ es) = let h = unknown-few es in omega arith
unknown-few (UnsatCases ∷ es) = let h = unknown-few es in omega arith
unknown-few (UnsatSteps lines ∷ es) = let h = unknown-few es in omega arith
unknown-few (Unknown cause ∷ es) = let h = unknown-few es in omega arith

pub checks-few : (xs : List Step) → length (table_checks xs) ≤ length xs
checks-few [] = omega arith
checks-few (x ∷ xs) = by_check (table_check_of x) (checks-few xs)
  where
    by_check : (o : Option TableCheck) → length (table_checks xs) ≤ length xs → length (elim o as (λ _. List TableCheck) [ None ↦ table_checks xs | Some c ↦ c ∷ table_checks xs ]) ≤ length (x ∷ xs)
    by_check None few = omega arith
    by_check (Some c) few = omega arith

-- what holds anyway holds at an error
pub on_err : {T E : Type 0} (r : Result T E) (P : Type 0) → P → OnErr r P
on_err (Ok x) P h = tt
on_err (Err e) P h = h

pub AppendsPrefix-none : (text : List ℕ) (x : Option (List ℕ)) → AppendsPrefix text x x
AppendsPrefix-none text None = tt
AppendsPrefix-none text (Some held) = (0, omega arith, ap Some (sym (append-nil held)))

pub empty_from : {A : Type 0} (xs : List A) → length xs ≡ 0 → xs ≡ []
empty_from [] e = refl
empty_from (x ∷ xs) e = absurd (omega arith)

-- writing an answer fails for its own causes
pub not_by_cert : {T : Type 0} (r : Result T Stop) → IfErr r (λ s. (s ≡ stops.WriteFault) ⊎ (s ≡ stops.Memory)) → IsErrOf r stops.CertFault → ⊥
not_by_cert (Ok x) only h = cc
not_by_cert (Err e) (inl a) h = cc
not_by_cert (Err e) (inr a) h = cc

-- an object of which nothing fails has no further fault
pub never_rose : Rose 0 0 → ⊥
never_rose (inl less) = absurd (omega (arith, less))
never_rose (inr last) = absurd (omega (arith, last))

pub not_by_read : {T : Type 0} (r : Result T Stop) → IfErr r (λ s. (s ≡ stops.WriteFault) ⊎ (s ≡ stops.Memory)) → IsErrOf r stops.ReadFault → ⊥
not_by_read (Ok x) only h = cc
not_by_read (Err e) (inl a) h = cc
not_by_read (Err e) (inr a) h = cc
