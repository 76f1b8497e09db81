-- What a dialogue remembers of the last check, and how far it is.
use Rattle.std.specs.Prelude.{◌≡◌, ℕ, ◌+◌, ◌≤◌, ◌<◌, ◌^◌, Bool, true, false, List, [], length, map, All, Option, Some, None, option_map}
use Rattle.std.specs.Global.{Vec}
use Rattle.ffc_cert.specs.declared.entries.Entry.{Entry}
use Rattle.ffc_cert.specs.declared.entries.Entry.TheVariants.{Sat, UnsatCases, UnsatSteps, Unknown}
use Rattle.ffc_smt.specs.TableChecks.{nodes_in_force, table_checks}
use Rattle.ffc_smt.specs.Answering.{asked_text}
use Rattle.ffc_elab.specs.declared.answers.Asked.{Asked}
use Rattle.ffc_elab.specs.declared.answers.Command.{Command}
use Rattle.ffc_elab.specs.declared.answers.Command.TheVariants as command
use Rattle.ffc_elab.specs.declared.answers.Effect.{Effect}
use Rattle.ffc_elab.specs.declared.answers.Effect.TheVariants as effect
use Rattle.ffc_elab.specs.Histories.{assumptions_of, check_now}
use Rattle.ffc_elab.specs.Answers.{IsAnswered}
use Rattle.ffc_elab.specs.Contexts.{terms_of}
use Rattle.ffc_smt.specs.Scripts.{Step, after}
use Rattle.ffc_smt.specs.ScriptLaw.{HasNode}
use Rattle.ffc_script.specs.Answers.{Gives}
use Rattle.ffc_rules.specs.Cores.{core}
use Rattle.ffc_answer.specs.Answers.{Last, last_from, sat_count, unsat_count, unknown_count}
use Rattle.ffc_answer.specs.Views.{IsRememberedAt}
use Rattle.ffc_script.specs.Progress.{Progress, steps_of, known_at}
use Rattle.ffc_solve.specs.declared.remembered.Remembered.{Remembered}
use Rattle.ffc_solve.specs.declared.remembered.Tally.{Tally}
use Rattle.ffc_solve.specs.declared.dialogue.Dialogue.{Dialogue}
use Rattle.ffc_solve.specs.Solving.{AreEntries}

-- Last checks

abbrev pub texts_of : Option (Vec Asked) → Option (List (List ℕ))
texts_of asked = option_map (λ v. map (λ a. a.text) v.items) asked

-- one check, as it is remembered
pub record RemembersCheck (r : Remembered) (l : Last) : Type 0 where
  pub entry : r.entry ≡ l.entry
  pub fresh : r.fresh ≡ l.fresh
  pub core : r.core.items ≡ core l.entry (length (nodes_in_force l.check))
  pub asked : texts_of r.asked ≡ option_map (map asked_text) l.asked

abbrev pub Remembers : Option Remembered → Option Last → Type 0
Remembers None None = Unit {0}
Remembers None (Some l) = ⊥
Remembers (Some r) None = ⊥
Remembers (Some r) (Some l) = RemembersCheck r l

-- what is remembered after an effect
abbrev pub no_longer_fresh : Remembered → Remembered
no_longer_fresh r = record r { fresh = false }

abbrev pub remembered_after : Effect → Option Remembered → Option Remembered
remembered_after effect.Keeps last = last
remembered_after effect.EndsModel last = option_map no_longer_fresh last
remembered_after effect.Forgets last = None

-- the effect of a command: one that asks for something has none
abbrev pub effect_by : Command → Effect
effect_by (command.Quiet e) = e
effect_by _ = effect.Keeps

-- neither a check nor an end
abbrev pub is_plain : Command → Bool
is_plain command.Check = false
is_plain (command.CheckAssuming asked) = false
is_plain command.Exit = false
is_plain _ = true

-- Counts

abbrev pub counted : Entry → Tally → Tally
counted (Sat pairs) t = record t { sat = t.sat + 1 }
counted UnsatCases t = record t { unsat = t.unsat + 1 }
counted (UnsatSteps lines) t = record t { unsat = t.unsat + 1 }
counted (Unknown cause) t = record t { unknown = t.unknown + 1 }

pub record Counts (t : Tally) (entries : List Entry) : Type 0 where
  pub sat : t.sat ≡ sat_count entries
  pub unsat : t.unsat ≡ unsat_count entries
  pub unknown : t.unknown ≡ unknown_count entries

-- one more can be counted
pub record HasRoom (t : Tally) : Type 0 where
  pub sat : t.sat < 2 ^ 63
  pub unsat : t.unsat < 2 ^ 63
  pub unknown : t.unknown < 2 ^ 63

-- Dialogues

-- A dialogue has these entries and remembers this of the last check, where its script was read so far.
pub record Holds (p : Progress) (s : Dialogue) (entries : List Entry) (l : Option Last) : Type 0 where
  pub each : AreEntries s.task (table_checks (steps_of p)) entries
  pub count : length entries ≡ length (table_checks (steps_of p))
  pub last : last_from None (steps_of p) entries ≡ l
  pub remembers : Remembers s.last l
  pub kept : IsRememberedAt l (known_at p).state
  pub tally : Counts s.tally entries

-- the budget is in its range
pub record IsBudget (steps : ℕ) : Type 0 where
  pub some : 0 < steps
  pub few : steps ≤ 1000000000000

-- the last check as it is remembered after this entry of it
pub record RemembersEntry (s : Dialogue) (entry : Entry) (asked : Option (Vec Asked)) (r : Remembered) : Type 0 where
  pub entry_is : r.entry ≡ entry
  pub fresh : r.fresh ≡ true
  pub core_is : r.core.items ≡ core entry (length (nodes_in_force (check_now (known_at s.reader))))
  pub asked_is : r.asked ≡ asked

-- a check got this entry
pub record IsChecked (old new : Dialogue) (asked : Option (Vec Asked)) (entry : Entry) : Type 0 where
  pub reader : new.reader ≡ old.reader
  pub task : new.task ≡ old.task
  pub taken : new.taken ≡ old.taken
  pub tally : new.tally ≡ counted entry old.tally
  pub last : Remembered
  pub last_is : new.last ≡ Some last
  pub remembers : RemembersEntry old entry asked last

-- What a view of a dialogue needs, whose last command was answered so, where this is remembered after it.
pub record IsAsked (s : Dialogue) (command : Command) (l : Option Last) (x : Step) : Type 0 where
  pub values : All (HasNode (after x.before x.tree x.command).nodes) (terms_of x.command)
  pub known : known_at s.reader ≡ record { state = after x.before x.tree x.command; assumptions = assumptions_of x.command }
  pub answered : IsAnswered (after x.before x.tree x.command) x.command command
  pub kept : IsRememberedAt l (after x.before x.tree x.command)
  pub remembers : Remembers s.last l

-- A command was given that is no check and no end, and is not answered yet.
pub record IsNext (p : Progress) (s : Dialogue) (entries : List Entry) (l : Option Last) (command : Command) : Type 0 where
  pub holds : Holds p s entries l
  pub gives : Gives p s.reader command
  pub plain : is_plain command ≡ true

abbrev pub entry_in : Option Remembered → Option Entry
entry_in last = option_map (λ r. r.entry) last

abbrev pub fresh_in : Option Remembered → Bool
fresh_in None = false
fresh_in (Some r) = r.fresh

abbrev pub core_in : Option Remembered → List ℕ
core_in None = []
core_in (Some r) = r.core.items

abbrev pub asked_in : Option Remembered → Option (List (List ℕ))
asked_in None = None
asked_in (Some r) = texts_of r.asked
