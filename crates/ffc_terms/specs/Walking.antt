-- A term word by word, from the left: what is around the next word, and what a word does.
use Rattle.std.specs.Prelude.{◌≡◌, ℕ, ◌+◌, ◌≤◌, ◌==◌, nat_lt, max, zero, suc, Bool, false, List, [], ◌∷◌, ◌++◌, length, drop, if◌then◌else◌, Option, Some, None, Result, Ok, Err}
use Rattle.ffc_lex.specs.Names.{is_theory_name}
use Rattle.ffc_term.specs.declared.node.Sort.{Sort}
use Rattle.ffc_term.specs.declared.node.Sort.TheVariants as sort
use Rattle.ffc_parts.specs.declared.numbers.Signed.{Signed}
use Rattle.ffc_smt.specs.Trees.{Word, name_of}
use Rattle.ffc_smt.specs.Terms.{Name}
use Rattle.ffc_smt.specs.Meaning.{Env, residue_of_number}
use Rattle.ffc_smt.specs.Faults.{Fault, word_fault}
use Rattle.ffc_smt.specs.TermReading.{is_wanted}
use Rattle.ffc_words.specs.declared.faults.TakeStop.{TakeStop}
use Rattle.ffc_words.specs.declared.faults.TakeStop.TheVariants as stop
use Rattle.ffc_words.specs.Words.{fault_of, no_word}
use Rattle.ffc_terms.specs.declared.callees.Callee.{Callee}
use Rattle.ffc_terms.specs.declared.callees.Parts.{Parts}
use Rattle.ffc_terms.specs.declared.codes.Op.{Op}
use Rattle.ffc_terms.specs.declared.codes.Op.TheVariants as op
use Rattle.ffc_terms.specs.declared.frames.Frame.{Frame}
use Rattle.ffc_terms.specs.declared.frames.Frame.TheVariants as frame
use Rattle.ffc_terms.specs.declared.frames.Place.{Place}
use Rattle.ffc_terms.specs.declared.frames.Stage.{Stage}
use Rattle.ffc_terms.specs.declared.frames.Stage.TheVariants as stage
use Rattle.ffc_terms.specs.declared.leaves.Leaf.{Leaf}
use Rattle.ffc_terms.specs.declared.leaves.Head.{Head}
use Rattle.ffc_terms.specs.declared.leaves.Head.TheVariants as heads
use Rattle.ffc_terms.specs.declared.scope.Symbols.{Symbols}
use Rattle.ffc_terms.specs.declared.sorts.SortStage.{SortStage}
use Rattle.ffc_terms.specs.declared.sorts.SortStage.TheVariants as sort_stage
use Rattle.ffc_terms.specs.declared.sorts.SortStep.{SortStep}
use Rattle.ffc_terms.specs.declared.sorts.SortStep.TheVariants as then
use Rattle.ffc_terms.specs.declared.terms.TermRead.{TermRead}
use Rattle.ffc_terms.specs.declared.values.Value.{Value}
use Rattle.ffc_terms.specs.Slots.{slot_of, with_last}
use Rattle.ffc_terms.specs.Callees.{capped, no_parts, with_part, with_body, least, is_full, wanted, result_sort, body, op_of}
use Rattle.ffc_terms.specs.Leaves as leaves
use Rattle.ffc_terms.specs.Places.{place_of, fault}
use Rattle.ffc_terms.specs.SortSteps as sorts

-- what is around the next word, the code so far, the local variables and those of `let`s whose terms are still being read
pub record Walking : Type 0 where
  pub stage : Stage
  pub frames : List Frame
  pub code : List Op
  pub locals : Env Sort
  pub pending : Env Sort

-- what there is after a word
pub data Stepped : Type 0 where
  Going : Walking → Stepped
  -- the outermost term is complete
  Done : Value → List Op → Stepped
  Failed : Fault → Stepped

abbrev pub at_stage : Stage → Walking → Walking
at_stage s w = record w { stage = s }

-- a frame around the next term
abbrev pub inside : Frame → Walking → Walking
inside f w = record w { stage = stage.Term; frames = f ∷ w.frames }

abbrev pub with_op : Op → Walking → Walking
with_op o w = record w { code = w.code ++ o ∷ [] }

abbrev pub refused : ℕ → Word → Stepped
refused code word = Failed (word_fault code word)

abbrev pub plus_one : ℕ → ℕ
plus_one weight = capped (weight + 1)

-- the last of the one become those of the other, the last one first
abbrev pub moved : ℕ → Env Sort → Env Sort → Env Sort × Env Sort
moved zero from onto = (from, onto)
moved (suc n) [] onto = ([], onto)
moved (suc n) (x ∷ from) onto = moved n from (x ∷ onto)

-- whether one of the last names is this one
abbrev pub is_late : ℕ → Env Sort → Option ℕ → Bool
is_late count pending None = false
is_late count pending (Some slot) = nat_lt (length pending) (slot + count + 1)

abbrev pub residue_or : Signed → ℕ → ℕ
residue_or n p = if p == 0 then 0 else residue_of_number n.negative n.size p

module _ (limit : ℕ) (symbols : Symbols) where
  -- A term is complete

  abbrev pub given_to : Value → Walking → List Frame → Stepped
  given_to v w [] = Done v w.code
  given_to v w (frame.Call at callee parts ∷ frames) =
      if is_wanted (wanted symbols callee parts.first parts.second parts.count) v.sort
      then Going (record w { stage = stage.Term; frames = frame.Call at callee (with_part v.sort v.height v.weight parts) ∷ frames })
      else Failed (fault 10 v.place)
  given_to v w (frame.Value at parts ∷ frames) =
      Going (record w { stage = stage.Bound at (with_part v.sort v.height v.weight parts); frames = frames; pending = with_last v.sort w.pending })
  given_to v w (frame.Body at parts ∷ frames) = Going (record w { stage = stage.End at (with_body v.height v.weight parts) v.sort; frames = frames })

  unfoldable pub given : Value → Walking → Stepped
  given v w = given_to v w w.frames

  -- a term in parentheses is complete, unless it is too high
  unfoldable pub ended : Place → Sort → ℕ → ℕ → Op → Walking → Stepped
  ended at s height weight o w =
      if nat_lt limit height then Failed (fault 14 at)
      else given (record { place = at; sort = s; height = height; weight = weight }) (with_op o w)

  -- Calls

  abbrev pub call_ended : Place → Callee → Parts → Walking → Stepped
  call_ended at callee parts w =
      let b = body symbols callee in
      ended at (result_sort symbols callee parts.first parts.second) (max parts.height b.0 + 1) (plus_one (capped (parts.weight + b.1))) (op_of callee parts.count) w

  unfoldable pub closed : Word → Walking → List Frame → Stepped
  closed word w [] = refused 5 word
  closed word w (frame.Call at callee parts ∷ frames) =
      if nat_lt parts.count (least symbols callee) then refused 5 word else call_ended at callee parts (record w { frames = frames })
  closed word w (frame.Value at parts ∷ frames) = refused 5 word
  closed word w (frame.Body at parts ∷ frames) = refused 5 word

  -- no further argument is taken
  abbrev pub takes_none : List Frame → Bool
  takes_none [] = false
  takes_none (frame.Call at callee parts ∷ frames) = is_full symbols callee parts.count
  takes_none (frame.Value at parts ∷ frames) = false
  takes_none (frame.Body at parts ∷ frames) = false

  abbrev pub leaf_read : Word → Walking → Result Leaf Fault → Stepped
  leaf_read word w (Ok l) = given (record { place = place_of word; sort = l.sort; height = 0; weight = 1 }) (with_op l.op w)
  leaf_read word w (Err f) = Failed f

  unfoldable pub leaf_at : Word → Walking → Stepped
  leaf_at word w = leaf_read word w (leaves.leaf symbols w.locals word)

  -- a term begins
  abbrev pub begun : Word → Walking → Stepped
  begun word w =
      if takes_none w.frames then refused 5 word else
      (if sorts.opens word.kind then Going (at_stage (stage.Head (place_of word)) w)
      else leaf_at word w)

  unfoldable pub term_step : Word → Walking → Stepped
  term_step word w = if sorts.closes word.kind then closed word w w.frames else begun word w

  abbrev pub head_read : Place → Walking → Result Head Fault → Stepped
  head_read at w (Ok heads.Let) = Going (at_stage (stage.Let at) w)
  head_read at w (Ok heads.As) = Going (at_stage (stage.Constant at) w)
  head_read at w (Ok (heads.Callee c)) = Going (inside (frame.Call at c no_parts) w)
  head_read at w (Err f) = Failed f

  unfoldable pub head_step : Place → Word → Walking → Stepped
  head_step at word w = head_read at w (leaves.head symbols w.locals word)

  -- `let`

  unfoldable pub bound : Place → Parts → Walking → Walking
  bound at parts w =
      let m = moved parts.count w.pending w.locals in
      record {
        stage = stage.Term;
        frames = frame.Body at parts ∷ w.frames;
        code = w.code ++ op.Bind parts.count ∷ [];
        locals = m.1;
        pending = m.0;
      }

  unfoldable pub open_step : Place → Word → Walking → Stepped
  open_step at word w = if sorts.opens word.kind then Going (at_stage (stage.Bindings at no_parts) w) else refused 5 word

  unfoldable pub bound_step : Place → Parts → Word → Walking → Stepped
  bound_step at parts word w = if sorts.closes word.kind then Going (at_stage (stage.Bindings at parts) w) else refused 5 word

  unfoldable pub bindings_step : Place → Parts → Word → Walking → Stepped
  bindings_step at parts word w =
      if sorts.opens word.kind then Going (at_stage (stage.Variable at parts) w) else
      (if sorts.closes word.kind then (if parts.count == 0 then refused 5 word else Going (bound at parts w))
      else refused 5 word)

  abbrev pub variable_named : Place → Parts → Word → Walking → Option Name → Stepped
  variable_named at parts word w None = refused 5 word
  variable_named at parts word w (Some name) =
      if is_theory_name name then refused 9 word else
      (if is_late parts.count w.pending (slot_of w.pending name) then refused 9 word
      else Going (inside (frame.Value at parts) (record w { pending = (name, sort.Bool) ∷ w.pending })))

  unfoldable pub variable_step : Place → Parts → Word → Walking → Stepped
  variable_step at parts word w = variable_named at parts word w (name_of word)

  unfoldable pub end_step : Place → Parts → Sort → Word → Walking → Stepped
  end_step at parts s word w =
      if sorts.closes word.kind then ended at s (parts.height + 1) (plus_one parts.weight) (op.Unbind parts.count) (record w { locals = drop parts.count w.locals })
      else refused 5 word

  -- `as`

  abbrev pub constant_read : Place → Walking → Result Signed Fault → Stepped
  constant_read at w (Ok n) = Going (at_stage (stage.SortStart at n) w)
  constant_read at w (Err f) = Failed f

  unfoldable pub constant_step : Place → Word → Walking → Stepped
  constant_step at word w = constant_read at w (leaves.constant word)

  abbrev pub sort_read : Place → Signed → Place → Walking → Result SortStep Fault → Stepped
  sort_read at n front w (Ok (then.More next)) = Going (at_stage (stage.SortMore at n front next) w)
  sort_read at n front w (Ok (then.Whole sort.Bool)) = Failed (fault 10 front)
  sort_read at n front w (Ok (then.Whole (sort.Field p))) = Going (at_stage (stage.Close at n p) w)
  sort_read at n front w (Err f) = Failed f

  unfoldable pub sort_word : Place → Signed → Place → SortStage → Word → Walking → Stepped
  sort_word at n front next word w = sort_read at n front w (sorts.step symbols.sorts next word)

  unfoldable pub close_step : Place → Signed → ℕ → Word → Walking → Stepped
  close_step at n p word w =
      if sorts.closes word.kind then given (record { place = at; sort = sort.Field p; height = 0; weight = 1 }) (with_op (op.Number (residue_or n p) p) w)
      else refused 5 word

  -- a word
  abbrev pub step_at : Stage → Word → Walking → Stepped
  step_at stage.Term word w = term_step word w
  step_at (stage.Head at) word w = head_step at word w
  step_at (stage.Let at) word w = open_step at word w
  step_at (stage.Bindings at parts) word w = bindings_step at parts word w
  step_at (stage.Variable at parts) word w = variable_step at parts word w
  step_at (stage.Bound at parts) word w = bound_step at parts word w
  step_at (stage.End at parts s) word w = end_step at parts s word w
  step_at (stage.Constant at) word w = constant_step at word w
  step_at (stage.SortStart at n) word w = sort_word at n (place_of word) sort_stage.Start word w
  step_at (stage.SortMore at n front next) word w = sort_word at n front next word w
  step_at (stage.Close at n p) word w = close_step at n p word w

  abbrev pub step : Word → Walking → Stepped
  step word w = step_at w.stage word w

-- what a call that takes a word answers
abbrev pub Steps : Stepped → Result (Option Value) TakeStop → Walking → Type 0
Steps s (Ok None) w = s ≡ Going w
Steps s (Ok (Some v)) w = s ≡ Done v w.code
Steps s (Err (stop.Fault f)) w = s ≡ Failed (fault_of f)
Steps s (Err stop.Memory) w = Unit {0}

-- the same of a call after which the outermost term is not complete
abbrev pub Moves : Stepped → Result (Unit {0}) TakeStop → Walking → Type 0
Moves s (Ok u) w = s ≡ Going w
Moves s (Err (stop.Fault f)) w = s ≡ Failed (fault_of f)
Moves s (Err stop.Memory) w = Unit {0}

-- the outermost term, its code, and the words after it
abbrev pub goes_on : (Walking → Result (Value × List Op × List Word) Fault) → List Word → Stepped → Result (Value × List Op × List Word) Fault
goes_on next words (Going w) = next w
goes_on next words (Done v code) = Ok (v, code, words)
goes_on next words (Failed f) = Err f

-- reading on over these words
unfoldable pub run : ℕ → Symbols → Walking → List Word → Result (Value × List Op × List Word) Fault
run limit symbols w [] = Err (word_fault 5 no_word)
run limit symbols w (word ∷ words) = goes_on (λ next. run limit symbols next words) words (step limit symbols word w)

abbrev pub first_walking : Env Sort → Walking
first_walking locals = record { stage = stage.Term; frames = []; code = []; locals = locals; pending = [] }

-- the term at a place
abbrev pub at : ℕ → Symbols → Env Sort → List Word → ℕ → Result (Value × List Op × List Word) Fault
at limit symbols locals words i = run limit symbols (first_walking locals) (drop i words)

-- a term with its code and the place after it
pub record IsRead (words : List Word) (t : TermRead) (x : Value × List Op × List Word) : Type 0 where
  pub sort : t.sort ≡ x.0.sort
  pub height : t.height ≡ x.0.height
  pub weight : t.weight ≡ x.0.weight
  pub code : t.code.items ≡ x.1
  pub within : t.next ≤ length words
  pub rest : drop t.next words ≡ x.2

abbrev pub RunsAs : List Word → Result (Value × List Op × List Word) Fault → Result TermRead TakeStop → Type 0
RunsAs words r (Ok t) = (x : Value × List Op × List Word) × (r ≡ Ok x) × IsRead words t x
RunsAs words r (Err (stop.Fault f)) = r ≡ Err (fault_of f)
RunsAs words r (Err stop.Memory) = Unit {0}

-- Counts of arguments are at most so many, so that one more fits.

abbrev pub IsFrameBelow : ℕ → Frame → Type 0
IsFrameBelow n (frame.Call at callee parts) = parts.count ≤ n
IsFrameBelow n (frame.Value at parts) = parts.count ≤ n
IsFrameBelow n (frame.Body at parts) = parts.count ≤ n

abbrev pub AreFramesBelow : ℕ → List Frame → Type 0
AreFramesBelow n [] = Unit {0}
AreFramesBelow n (f ∷ fs) = IsFrameBelow n f × AreFramesBelow n fs

abbrev pub IsStageBelow : ℕ → Stage → Type 0
IsStageBelow n (stage.Bindings at parts) = parts.count ≤ n
IsStageBelow n (stage.Variable at parts) = parts.count ≤ n
IsStageBelow n (stage.Bound at parts) = parts.count ≤ n
IsStageBelow n (stage.End at parts s) = parts.count ≤ n
IsStageBelow n _ = Unit {0}

pub record IsBelow (n : ℕ) (w : Walking) : Type 0 where
  pub frames : AreFramesBelow n w.frames
  pub stage : IsStageBelow n w.stage
