-- Counts of arguments stay below the number of words.
use Rattle.std.proofs.Common.{◌≡◌, ℕ, ◌+◌, ◌≤◌, ◌==◌, Bool, true, false, List, [], ◌∷◌, if◌then◌else◌, Option, Some, None, Result, Ok, Err, nat_lt, subst, arith}
use Rattle.ffc_term.specs.declared.node.Sort.{Sort}
use Rattle.ffc_term.specs.declared.node.Sort.TheVariants as sort
use Rattle.ffc_parts.specs.declared.numbers.Signed.{Signed}
use Rattle.ffc_smt.specs.Trees.{Word, name_of}
use Rattle.ffc_smt.specs.Terms.{Name}
use Rattle.ffc_smt.specs.Faults.{Fault}
use Rattle.ffc_terms.specs.declared.callees.Parts.{Parts}
use Rattle.ffc_terms.specs.declared.codes.Op.{Op}
use Rattle.ffc_terms.specs.declared.frames.Frame.{Frame}
use Rattle.ffc_terms.specs.declared.frames.Frame.TheVariants as frame
use Rattle.ffc_terms.specs.declared.frames.Place.{Place}
use Rattle.ffc_terms.specs.declared.frames.Stage.{Stage}
use Rattle.ffc_terms.specs.declared.frames.Stage.TheVariants as stage
use Rattle.ffc_terms.specs.declared.leaves.Leaf.{Leaf}
use Rattle.ffc_terms.specs.declared.leaves.Head.{Head}
use Rattle.ffc_terms.specs.declared.leaves.Head.TheVariants as heads
use Rattle.ffc_terms.specs.declared.scope.Symbols.{Symbols}
use Rattle.ffc_terms.specs.declared.sorts.SortStep.{SortStep}
use Rattle.ffc_terms.specs.declared.sorts.SortStep.TheVariants as then
use Rattle.ffc_terms.specs.declared.values.Value.{Value}
use Rattle.ffc_terms.specs.Callees.{least, wanted, with_part}
use Rattle.ffc_smt.specs.TermReading.{is_wanted}
use Rattle.ffc_lex.specs.Names.{is_theory_name}
use Rattle.ffc_terms.specs.Slots.{slot_of}
use Rattle.ffc_terms.specs.Places.{fault}
use Rattle.ffc_terms.specs.Leaves as leaves
use Rattle.ffc_terms.specs.SortSteps as sorts
use Rattle.ffc_terms.specs.Walking.{Walking, Stepped, Going, Done, Failed, at_stage, refused, inside, is_late, given, given_to, ended, call_ended, closed, leaf_read, leaf_at, takes_none, term_step, head_read, head_step, open_step, bound_step, bound, bindings_step, variable_named, variable_step, end_step, constant_read, constant_step, sort_read, sort_word, close_step, step, step_at, IsFrameBelow, AreFramesBelow, IsStageBelow, IsBelow}

abbrev pub IfGoing : Stepped → (Walking → Type 0) → Type 0
IfGoing (Going w) P = P w
IfGoing (Done v code) P = Unit {0}
IfGoing (Failed f) P = Unit {0}

-- where reading goes on after a word, the counts are below this
record Keeps (n : ℕ) (s : Stepped) : Type 0 where
  holds : IfGoing s (IsBelow n)

either : {n : ℕ} (b : Bool) (s t : Stepped) → Keeps n s → Keeps n t → Keeps n (if b then s else t)
either true s t h g = h
either false s t h g = g

going : {n : ℕ} {w : Walking} → IsBelow n w → Keeps n (Going w)
going h = record { holds = h }

failed : {n : ℕ} {f : Fault} → Keeps n (Failed f)
failed = record { holds = tt }

done : {n : ℕ} {v : Value} {code : List Op} → Keeps n (Done v code)
done = record { holds = tt }

frame_more : (n : ℕ) (f : Frame) → IsFrameBelow n f → IsFrameBelow (n + 1) f
frame_more n (frame.Call at callee parts) h = omega arith
frame_more n (frame.Value at parts) h = omega arith
frame_more n (frame.Body at parts) h = omega arith

frames_more : (n : ℕ) (fs : List Frame) → AreFramesBelow n fs → AreFramesBelow (n + 1) fs
frames_more n [] h = tt
frames_more n (f ∷ fs) h = (frame_more n f h.0, frames_more n fs h.1)

module _ (limit : ℕ) (symbols : Symbols) (n : ℕ) where
  abbrev Next : Walking → Type 0
  Next w = IsBelow (n + 1) w

  given_below : (v : Value) (w : Walking) (fs : List Frame) → AreFramesBelow n fs → Keeps (n + 1) (given_to limit symbols v w fs)
  given_below v w [] h = done
  given_below v w (frame.Call at callee parts ∷ fs) h =
      let more : parts.count + 1 ≤ n + 1 = omega (arith, h.0) in
      let kept : Next (record w { stage = stage.Term; frames = frame.Call at callee (with_part v.sort v.height v.weight parts) ∷ fs }) = record { frames = (more, frames_more n fs h.1); stage = tt } in
      either (is_wanted (wanted symbols callee parts.first parts.second parts.count) v.sort) (Going _) (Failed (fault 10 v.place)) (going kept) failed
  given_below v w (frame.Value at parts ∷ fs) h = let more : parts.count + 1 ≤ n + 1 = omega (arith, h.0) in going (record { frames = frames_more n fs h.1; stage = more })
  given_below v w (frame.Body at parts ∷ fs) h = let more : parts.count ≤ n + 1 = omega (arith, h.0) in going (record { frames = frames_more n fs h.1; stage = more })

  value_below : (v : Value) (w : Walking) → AreFramesBelow n w.frames → Keeps (n + 1) (given limit symbols v w)
  unfolding given
  value_below v w h = given_below v w w.frames h

  ended_below : (at : Place) (s : Sort) (height weight : ℕ) (o : Op) (w : Walking) → AreFramesBelow n w.frames → Keeps (n + 1) (ended limit symbols at s height weight o w)
  unfolding ended
  ended_below at s height weight o w h = either (nat_lt limit height) _ _ failed (value_below _ _ h)

  closed_below : (word : Word) (w : Walking) (fs : List Frame) → AreFramesBelow n fs → Keeps (n + 1) (closed limit symbols word w fs)
  unfolding closed
  closed_below word w [] h = failed
  closed_below word w (frame.Call at callee parts ∷ fs) h =
      either (nat_lt parts.count (least symbols callee)) (refused 5 word) (call_ended limit symbols at callee parts (record w { frames = fs })) failed
      (ended_below _ _ _ _ _ (record w { frames = fs }) h.1)
  closed_below word w (frame.Value at parts ∷ fs) h = failed
  closed_below word w (frame.Body at parts ∷ fs) h = failed

  leaf_below : (word : Word) (w : Walking) (r : Result Leaf Fault) → AreFramesBelow n w.frames → Keeps (n + 1) (leaf_read limit symbols word w r)
  leaf_below word w (Ok l) h = value_below _ _ h
  leaf_below word w (Err f) h = failed

  stage_below : (s : Stage) (w : Walking) → AreFramesBelow n w.frames → IsStageBelow (n + 1) s → Keeps (n + 1) (Going (at_stage s w))
  stage_below s w h k = going (record { frames = frames_more n w.frames h; stage = k })

  term_below : (word : Word) (w : Walking) → AreFramesBelow n w.frames → Keeps (n + 1) (term_step limit symbols word w)
  unfolding term_step leaf_at
  term_below word w h =
      either _ _ _ (closed_below word w w.frames h)
      (either (takes_none limit symbols w.frames) _ _ failed
      (either (sorts.opens word.kind) _ _ (stage_below _ w h tt) (leaf_below word w (leaves.leaf symbols w.locals word) h)))

  head_below : (at : Place) (w : Walking) (r : Result Head Fault) → AreFramesBelow n w.frames → Keeps (n + 1) (head_read limit symbols at w r)
  head_below at w (Ok heads.Let) h = stage_below _ w h tt
  head_below at w (Ok heads.As) h = stage_below _ w h tt
  head_below at w (Ok (heads.Callee c)) h = let none : 0 ≤ n + 1 = omega arith in going (record { frames = (none, frames_more n w.frames h); stage = tt })
  head_below at w (Err f) h = failed

  variable_below : (at : Place) (parts : Parts) (word : Word) (w : Walking) (o : Option Name) → AreFramesBelow n w.frames → parts.count ≤ n
      → Keeps (n + 1) (variable_named limit symbols at parts word w o)
  variable_below at parts word w None h k = failed
  variable_below at parts word w (Some name) h k =
      let more : parts.count ≤ n + 1 = omega arith in
      let kept : Next (inside (frame.Value at parts) (record w { pending = (name, sort.Bool) ∷ w.pending })) = record { frames = (more, frames_more n w.frames h); stage = tt } in
      either (is_theory_name name) (refused 9 word) _ failed (either (is_late parts.count w.pending (slot_of w.pending name)) (refused 9 word) (Going _) failed (going kept))

  sort_below : (at : Place) (m : Signed) (front : Place) (w : Walking) (r : Result SortStep Fault) → AreFramesBelow n w.frames → Keeps (n + 1) (sort_read limit symbols at m front w r)
  sort_below at m front w (Ok (then.More next)) h = stage_below _ w h tt
  sort_below at m front w (Ok (then.Whole sort.Bool)) h = failed
  sort_below at m front w (Ok (then.Whole (sort.Field p))) h = stage_below _ w h tt
  sort_below at m front w (Err f) h = failed

  constant_below : (at : Place) (w : Walking) (r : Result Signed Fault) → AreFramesBelow n w.frames → Keeps (n + 1) (constant_read limit symbols at w r)
  constant_below at w (Ok m) h = stage_below _ w h tt
  constant_below at w (Err f) h = failed

  at_below : (s : Stage) (word : Word) (w : Walking) → AreFramesBelow n w.frames → IsStageBelow n s → Keeps (n + 1) (step_at limit symbols s word w)
  unfolding head_step open_step bound_step bound bindings_step variable_step end_step constant_step sort_word close_step
  at_below stage.Term word w h k = term_below word w h
  at_below (stage.Head at) word w h k = head_below at w (leaves.head symbols w.locals word) h
  at_below (stage.Let at) word w h k = let none : 0 ≤ n + 1 = omega arith in either _ _ _ (stage_below _ w h none) failed
  at_below (stage.Bindings at parts) word w h k =
      let more : parts.count ≤ n + 1 = omega arith in
      let kept : Next (bound limit symbols at parts w) = record { frames = (more, frames_more n w.frames h); stage = tt } in
      either (sorts.opens word.kind) _ _ (stage_below (stage.Variable at parts) w h more)
      (either (sorts.closes word.kind) _ (refused 5 word) (either (parts.count == 0) (refused 5 word) _ failed (going kept)) failed)
  at_below (stage.Variable at parts) word w h k = variable_below at parts word w (name_of word) h k
  at_below (stage.Bound at parts) word w h k = let more : parts.count ≤ n + 1 = omega arith in either _ _ _ (stage_below _ w h more) failed
  at_below (stage.End at parts s) word w h k = either _ _ _ (ended_below _ _ _ _ _ _ h) failed
  at_below (stage.Constant at) word w h k = constant_below at w (leaves.constant word) h
  at_below (stage.SortStart at m) word w h k = sort_below at m _ w _ h
  at_below (stage.SortMore at m front next) word w h k = sort_below at m front w _ h
  at_below (stage.Close at m p) word w h k = either _ _ _ (value_below _ _ h) failed

-- so after each word
pub going_below : (limit : ℕ) (symbols : Symbols) (n : ℕ) (word : Word) (w next : Walking) → IsBelow n w → step limit symbols word w ≡ Going next → IsBelow (n + 1) next
going_below limit symbols n word w next h e = subst (λ s. IfGoing s (IsBelow (n + 1))) e (at_below limit symbols n w.stage word w h.frames h.stage).holds

frame_least : (n m : ℕ) (f : Frame) → n ≤ m → IsFrameBelow n f → IsFrameBelow m f
frame_least n m (frame.Call at callee parts) le h = omega arith
frame_least n m (frame.Value at parts) le h = omega arith
frame_least n m (frame.Body at parts) le h = omega arith

frames_least : (n m : ℕ) (fs : List Frame) → n ≤ m → AreFramesBelow n fs → AreFramesBelow m fs
frames_least n m [] le h = tt
frames_least n m (f ∷ fs) le h = (frame_least n m f le h.0, frames_least n m fs le h.1)

stage_least : (n m : ℕ) (s : Stage) → n ≤ m → IsStageBelow n s → IsStageBelow m s
stage_least n m (stage.Bindings at parts) le h = omega arith
stage_least n m (stage.Variable at parts) le h = omega arith
stage_least n m (stage.Bound at parts) le h = omega arith
stage_least n m (stage.End at parts s) le h = omega arith
stage_least n m stage.Term le h = tt
stage_least n m (stage.Head at) le h = tt
stage_least n m (stage.Let at) le h = tt
stage_least n m (stage.Constant at) le h = tt
stage_least n m (stage.SortStart at k) le h = tt
stage_least n m (stage.SortMore at k front next) le h = tt
stage_least n m (stage.Close at k p) le h = tt

-- a higher bound
pub below_least : (n m : ℕ) (w : Walking) → n ≤ m → IsBelow n w → IsBelow m w
below_least n m w le h = record { frames = frames_least n m w.frames le h.frames; stage = stage_least n m w.stage le h.stage }
