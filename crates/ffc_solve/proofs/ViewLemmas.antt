-- Views of a dialogue.
use Rattle.std.proofs.Common.{◌≡◌, Bool, map, Option, Some, None, option_map, refl, ap, ◌∙◌}
use Rattle.std.specs.Option.{option_copied}
use Rattle.ffc_smt.specs.Scripts.{Step}
use Rattle.ffc_rules.specs.Cores.{core}
use Rattle.ffc_elab.specs.declared.answers.Command.{Command}
use Rattle.ffc_elab.specs.Histories.{known_of}
use Rattle.ffc_answer.specs.declared.view.View.{View}
use Rattle.ffc_answer.specs.Answers.{Last}
use Rattle.ffc_answer.specs.Views.{IsFreshAs, IsView, assumed_of, entry_of, numbers_of}
use Rattle.ffc_script.specs.Progress.{known_at}
use Rattle.ffc_solve.specs.declared.remembered.Remembered.{Remembered}
use Rattle.ffc_solve.specs.declared.dialogue.Dialogue.{Dialogue}
use Rattle.ffc_solve.specs.Remembering.{IsAsked, Remembers, asked_in, core_in, entry_in, fresh_in}

same_entry : (r : Option Remembered) (l : Option Last) → Remembers r l → entry_in r ≡ entry_of l
same_entry None None h = refl
same_entry None (Some l) h = absurd h
same_entry (Some r) None h = absurd h
same_entry (Some r) (Some l) h = ap Some h.entry

same_fresh : (r : Option Remembered) (l : Option Last) (fresh : Bool) → Remembers r l → fresh ≡ fresh_in r → IsFreshAs l fresh
same_fresh None None fresh h e = tt
same_fresh None (Some l) fresh h e = absurd h
same_fresh (Some r) None fresh h e = tt
same_fresh (Some r) (Some l) fresh h e = e ∙ h.fresh

same_core : (r : Option Remembered) (l : Option Last) → Remembers r l → core_in r ≡ numbers_of l
same_core None None h = refl
same_core None (Some l) h = absurd h
same_core (Some r) None h = absurd h
same_core (Some r) (Some l) h = h.core

same_asked : (r : Option Remembered) (l : Option Last) → Remembers r l → asked_in r ≡ assumed_of l
same_asked None None h = refl
same_asked None (Some l) h = absurd h
same_asked (Some r) None h = absurd h
same_asked (Some r) (Some l) h = h.asked

pub view_is : (s : Dialogue) (v : View) (c : Command) (l : Option Last) (x : Step) → IsAsked s c l x → known_of v.context.now ≡ known_at s.reader → option_copied v.last ≡ entry_in s.last → v.fresh ≡ fresh_in s.last
    → v.core.now ≡ core_in s.last → option_map (λ asked. map (λ a. a.text) asked) (option_copied v.asked) ≡ asked_in s.last → IsView v c l x
view_is s v c l x asked context last fresh core texts =
    record {
      values = asked.values;
      known = context ∙ asked.known;
      answered = asked.answered;
      remembered = asked.kept;
      last = last ∙ same_entry s.last l asked.remembers;
      fresh = same_fresh s.last l v.fresh asked.remembers fresh;
      core = core ∙ same_core s.last l asked.remembers;
      asked = texts ∙ same_asked s.last l asked.remembers;
    }
