-- Every fault that a walk meets has code 5 or more.
use Rattle.std.proofs.Common.{◌≡◌, ℕ, ◌≤◌, ◌==◌, Bool, true, false, List, [], ◌∷◌, if◌then◌else◌, codes, Option, Some, None, Result, Ok, Err, nat_lt, is_some, subst, arith}
use Rattle.std.specs.Str.{bytes_eq}
use Rattle.ffc_lex.specs.Names.{is_theory_name}
use Rattle.ffc_term.specs.declared.node.Sort.{Sort}
use Rattle.ffc_term.specs.declared.node.Sort.TheVariants as sort
use Rattle.ffc_parts.specs.declared.numbers.Signed.{Signed as KeptSigned}
use Rattle.ffc_smt.specs.Trees.{Word, name_of}
use Rattle.ffc_smt.specs.Terms.{Name, Operator}
use Rattle.ffc_smt.specs.Numbers.{Signed, is_order, number_of, literal_number, literal_order, constant_of}
use Rattle.ffc_smt.specs.Meaning.{Env, found}
use Rattle.ffc_smt.specs.Faults.{Fault, word_fault}
use Rattle.ffc_smt.specs.TermReading.{is_word, is_named, is_numeral, is_wanted, operators}
use Rattle.ffc_words.specs.Words.{no_word}
use Rattle.ffc_terms.specs.declared.callees.Parts.{Parts}
use Rattle.ffc_terms.specs.declared.codes.Op.{Op}
use Rattle.ffc_terms.specs.declared.frames.Frame.{Frame}
use Rattle.ffc_terms.specs.declared.frames.Frame.TheVariants as frame
use Rattle.ffc_terms.specs.declared.frames.Place.{Place}
use Rattle.ffc_terms.specs.declared.frames.Stage.{Stage}
use Rattle.ffc_terms.specs.declared.frames.Stage.TheVariants as stage
use Rattle.ffc_terms.specs.declared.leaves.Leaf.{Leaf}
use Rattle.ffc_terms.specs.declared.leaves.Head.{Head}
use Rattle.ffc_terms.specs.declared.leaves.Head.TheVariants as heads
use Rattle.ffc_terms.specs.declared.scope.Meaning.{Meaning}
use Rattle.ffc_terms.specs.declared.scope.Meaning.TheVariants as meaning
use Rattle.ffc_terms.specs.declared.scope.Symbols.{Symbols}
use Rattle.ffc_terms.specs.declared.sorts.SortStage.{SortStage}
use Rattle.ffc_terms.specs.declared.sorts.SortStage.TheVariants as sort_stage
use Rattle.ffc_terms.specs.declared.sorts.SortStep.{SortStep}
use Rattle.ffc_terms.specs.declared.sorts.SortStep.TheVariants as then
use Rattle.ffc_terms.specs.declared.values.Value.{Value}
use Rattle.ffc_terms.specs.Slots.{slot_of}
use Rattle.ffc_terms.specs.Callees.{least, wanted}
use Rattle.ffc_terms.specs.Leaves as leaves
use Rattle.ffc_terms.specs.SortSteps as sorts
use Rattle.ffc_terms.specs.Walking.{Walking, Stepped, Going, Done, Failed, refused, is_late, given, given_to, ended, call_ended, closed, leaf_read, leaf_at, takes_none, term_step, head_read, head_step, open_step, bound_step, bindings_step, variable_named, variable_step, end_step, constant_read, constant_step, sort_read, sort_word, close_step, step, step_at, goes_on, run}

abbrev IfErr : {A : Type 0} → Result A Fault → Type 0
IfErr (Ok a) = Unit {0}
IfErr (Err f) = 5 ≤ f.code

record Errs {A : Type 0} (r : Result A Fault) : Type 0 where
  code : IfErr r

abbrev IfFailed : Stepped → Type 0
IfFailed (Going w) = Unit {0}
IfFailed (Done v code) = Unit {0}
IfFailed (Failed f) = 5 ≤ f.code

record Fails (s : Stepped) : Type 0 where
  code : IfFailed s

module _ {A : Type 0} where
  ok : {a : A} → Errs {A = A} (Ok a)
  ok = record { code = tt }

  choose : (b : Bool) (r q : Result A Fault) → Errs r → Errs q → Errs (if b then r else q)
  choose true r q h g = h
  choose false r q h g = g

  err : (n : ℕ) (w : Word) → 5 ≤ n → Errs {A = A} (Err (word_fault n w))
  err n w h = record { code = h }

either : (b : Bool) (s t : Stepped) → Fails s → Fails t → Fails (if b then s else t)
either true s t h g = h
either false s t h g = g

goes : {w : Walking} → Fails (Going w)
goes = record { code = tt }

refuses : (n : ℕ) (w : Word) → 5 ≤ n → Fails (refused n w)
refuses n w h = record { code = h }

-- Words alone

small_leaf : (w : Word) (p : ℕ) (o : Option Signed) → Errs (leaves.number_leaf w p o)
small_leaf w p None = err 13 w (omega arith)
small_leaf w p (Some n) = ok

literal_codes : (w : Word) → Errs (leaves.literal w)
literal_codes w = choose (is_order (literal_order w.bytes)) _ _ (small_leaf w (literal_order w.bytes) (leaves.small (literal_number w.bytes))) (err 11 w (omega arith))

meant_codes : (w : Word) (o : Option Meaning) → Errs (leaves.meant w o)
meant_codes w None = err 8 w (omega arith)
meant_codes w (Some (meaning.Constant n s id)) = ok
meant_codes w (Some (meaning.Defined s id)) = ok
meant_codes w (Some (meaning.Macro m)) = err 5 w (omega arith)

local_codes : (r : Result Leaf Fault) (o : Option ℕ) (s : Option Sort) → Errs r → Errs (leaves.local r o s)
local_codes r None None h = h
local_codes r None (Some s) h = h
local_codes r (Some slot) None h = h
local_codes r (Some slot) (Some s) h = ok

named_codes : (symbols : Symbols) (locals : Env Sort) (w : Word) (o : Option Name) → Errs (leaves.by_name symbols locals w o)
named_codes symbols locals w None = err 5 w (omega arith)
named_codes symbols locals w (Some name) =
    choose (bytes_eq name (codes "true")) _ _ ok (choose (bytes_eq name (codes "false")) _ _ ok (choose (is_theory_name name) _ _ (err 5 w (omega arith))
    (local_codes (leaves.global symbols w name) (slot_of locals name) (found locals name) (meant_codes w (found symbols.terms name)))))

leaf_codes : (symbols : Symbols) (locals : Env Sort) (w : Word) → Errs (leaves.leaf symbols locals w)
unfolding leaves.leaf
leaf_codes symbols locals w = choose (leaves.is_literal w.kind) _ _ (literal_codes w) (named_codes symbols locals w (name_of w))

head_meant_codes : (w : Word) (o : Option ℕ) (m : Option Meaning) → Errs (leaves.head_meant w o m)
head_meant_codes w None None = err 8 w (omega arith)
head_meant_codes w None (Some m) = err 8 w (omega arith)
head_meant_codes w (Some place) None = err 8 w (omega arith)
head_meant_codes w (Some place) (Some (meaning.Constant n s id)) = err 5 w (omega arith)
head_meant_codes w (Some place) (Some (meaning.Defined s id)) = err 5 w (omega arith)
head_meant_codes w (Some place) (Some (meaning.Macro m)) = ok

function_codes : (r : Result Head Fault) (o : Option Operator) → Errs r → Errs (leaves.function_head r o)
function_codes r None h = h
function_codes r (Some f) h = ok

head_name_codes : (symbols : Symbols) (locals : Env Sort) (w : Word) (o : Option Name) → Errs (leaves.head_by_name symbols locals w o)
head_name_codes symbols locals w None = err 5 w (omega arith)
head_name_codes symbols locals w (Some name) =
    function_codes _ (found operators name) (choose (is_theory_name name) _ _ (err 5 w (omega arith)) (choose (is_some (slot_of locals name)) _ _ (err 5 w (omega arith))
    (head_meant_codes w (slot_of symbols.terms name) (found symbols.terms name))))

head_codes : (symbols : Symbols) (locals : Env Sort) (w : Word) → Errs (leaves.head symbols locals w)
unfolding leaves.head
head_codes symbols locals w = choose (is_word (codes "let") w) _ _ ok (choose (is_word (codes "as") w) _ _ ok (head_name_codes symbols locals w (name_of w)))

kept_codes : (w : Word) (o : Option Signed) → Errs (leaves.kept w o)
kept_codes w None = err 13 w (omega arith)
kept_codes w (Some n) = ok

constant_codes : (w : Word) (o : Option Name) → Errs (leaves.constant_named w o)
constant_codes w None = err 5 w (omega arith)
constant_codes w (Some name) = kept_codes w (leaves.small (constant_of name))

known_codes : (w : Word) (o : Option Sort) → Errs (sorts.known w o)
known_codes w None = err 8 w (omega arith)
known_codes w (Some s) = ok

sort_name_codes : (names : Env Sort) (w : Word) (o : Option Name) → Errs (sorts.by_name names w o)
sort_name_codes names w None = err 5 w (omega arith)
sort_name_codes names w (Some name) = choose (bytes_eq name (codes "Bool")) _ _ ok (known_codes w (found names name))

sort_codes : (names : Env Sort) (s : SortStage) (w : Word) → Errs (sorts.step names s w)
unfolding sorts.step
sort_codes names sort_stage.Start w = choose (sorts.opens w.kind) _ _ ok (sort_name_codes names w (name_of w))
sort_codes names sort_stage.Underscore w = choose (is_word (codes "_") w) _ _ ok (err 5 w (omega arith))
sort_codes names sort_stage.Family w = choose (is_named (codes "FiniteField") w) _ _ ok (err 5 w (omega arith))
sort_codes names sort_stage.Order w = choose (is_numeral w.kind) _ _ (choose (is_order (number_of w.bytes)) _ _ ok (err 11 w (omega arith))) (err 5 w (omega arith))
sort_codes names (sort_stage.Close p) w = choose (sorts.closes w.kind) _ _ ok (err 5 w (omega arith))

-- Steps

module _ (limit : ℕ) (symbols : Symbols) where
  given_codes : (v : Value) (w : Walking) (fs : List Frame) → Fails (given_to limit symbols v w fs)
  given_codes v w [] = record { code = tt }
  given_codes v w (frame.Call at callee parts ∷ fs) =
      either (is_wanted (wanted symbols callee parts.first parts.second parts.count) v.sort) (Going _) (Failed _) goes (record { code = (let h : 5 ≤ 10 = omega arith in h) })
  given_codes v w (frame.Value at parts ∷ fs) = goes
  given_codes v w (frame.Body at parts ∷ fs) = goes

  value_codes : (v : Value) (w : Walking) → Fails (given limit symbols v w)
  unfolding given
  value_codes v w = given_codes v w w.frames

  ended_codes : (at : Place) (s : Sort) (height weight : ℕ) (o : Op) (w : Walking) → Fails (ended limit symbols at s height weight o w)
  unfolding ended
  ended_codes at s height weight o w = either (nat_lt limit height) (Failed _) _ (record { code = (let h : 5 ≤ 14 = omega arith in h) }) (value_codes _ _)

  closed_codes : (word : Word) (w : Walking) (fs : List Frame) → Fails (closed limit symbols word w fs)
  unfolding closed
  closed_codes word w [] = refuses 5 word (omega arith)
  closed_codes word w (frame.Call at callee parts ∷ fs) =
      either (nat_lt parts.count (least symbols callee)) (refused 5 word) (call_ended limit symbols at callee parts (record w { frames = fs })) (refuses 5 word (omega arith)) (ended_codes _ _ _ _ _ (record w { frames = fs }))
  closed_codes word w (frame.Value at parts ∷ fs) = refuses 5 word (omega arith)
  closed_codes word w (frame.Body at parts ∷ fs) = refuses 5 word (omega arith)

  leaf_read_codes : (word : Word) (w : Walking) (r : Result Leaf Fault) → Errs r → Fails (leaf_read limit symbols word w r)
  leaf_read_codes word w (Ok l) h = value_codes _ _
  leaf_read_codes word w (Err f) h = record { code = h.code }

  head_read_codes : (at : Place) (w : Walking) (r : Result Head Fault) → Errs r → Fails (head_read limit symbols at w r)
  head_read_codes at w (Ok heads.Let) h = goes
  head_read_codes at w (Ok heads.As) h = goes
  head_read_codes at w (Ok (heads.Callee c)) h = goes
  head_read_codes at w (Err f) h = record { code = h.code }

  variable_codes : (at : Place) (parts : Parts) (word : Word) (w : Walking) (o : Option Name) → Fails (variable_named limit symbols at parts word w o)
  variable_codes at parts word w None = refuses 5 word (omega arith)
  variable_codes at parts word w (Some name) =
      either (is_theory_name name) (refused 9 word) _ (refuses 9 word (omega arith))
      (either (is_late parts.count w.pending (slot_of w.pending name)) (refused 9 word) (Going _) (refuses 9 word (omega arith)) goes)

  sort_read_codes : (at : Place) (n : KeptSigned) (front : Place) (w : Walking) (r : Result SortStep Fault) → Errs r → Fails (sort_read limit symbols at n front w r)
  sort_read_codes at n front w (Ok (then.More next)) h = goes
  sort_read_codes at n front w (Ok (then.Whole sort.Bool)) h = record { code = (let g : 5 ≤ 10 = omega arith in g) }
  sort_read_codes at n front w (Ok (then.Whole (sort.Field p))) h = goes
  sort_read_codes at n front w (Err f) h = record { code = h.code }

  constant_read_codes : (at : Place) (w : Walking) (r : Result KeptSigned Fault) → Errs r → Fails (constant_read limit symbols at w r)
  constant_read_codes at w (Ok n) h = goes
  constant_read_codes at w (Err f) h = record { code = h.code }

  at_codes : (s : Stage) (word : Word) (w : Walking) → Fails (step_at limit symbols s word w)
  unfolding term_step leaf_at head_step open_step bound_step bindings_step variable_step end_step constant_step sort_word close_step leaves.constant
  at_codes stage.Term word w =
      either (sorts.closes word.kind) _ _ (closed_codes word w w.frames)
      (either (takes_none limit symbols w.frames) (refused 5 word) _ (refuses 5 word (omega arith))
      (either (sorts.opens word.kind) (Going _) _ goes (leaf_read_codes word w (leaves.leaf symbols w.locals word) (leaf_codes symbols w.locals word))))
  at_codes (stage.Head at) word w = head_read_codes at w (leaves.head symbols w.locals word) (head_codes symbols w.locals word)
  at_codes (stage.Let at) word w = either (sorts.opens word.kind) (Going _) (refused 5 word) goes (refuses 5 word (omega arith))
  at_codes (stage.Bindings at parts) word w =
      either (sorts.opens word.kind) (Going _) _ goes
      (either (sorts.closes word.kind) _ (refused 5 word) (either (parts.count == 0) (refused 5 word) (Going _) (refuses 5 word (omega arith)) goes) (refuses 5 word (omega arith)))
  at_codes (stage.Variable at parts) word w = variable_codes at parts word w (name_of word)
  at_codes (stage.Bound at parts) word w = either (sorts.closes word.kind) (Going _) (refused 5 word) goes (refuses 5 word (omega arith))
  at_codes (stage.End at parts s) word w = either (sorts.closes word.kind) _ (refused 5 word) (ended_codes _ _ _ _ _ _) (refuses 5 word (omega arith))
  at_codes (stage.Constant at) word w = constant_read_codes at w (leaves.constant_named word (name_of word)) (constant_codes word (name_of word))
  at_codes (stage.SortStart at n) word w = sort_read_codes at n _ w (sorts.step symbols.sorts sort_stage.Start word) (sort_codes symbols.sorts sort_stage.Start word)
  at_codes (stage.SortMore at n front next) word w = sort_read_codes at n front w (sorts.step symbols.sorts next word) (sort_codes symbols.sorts next word)
  at_codes (stage.Close at n p) word w = either (sorts.closes word.kind) _ (refused 5 word) (value_codes _ _) (refuses 5 word (omega arith))

  run_errs : (w : Walking) (words : List Word) → Errs (run limit symbols w words)
  unfolding run
  run_errs w [] = err 5 no_word (omega arith)
  run_errs w (word ∷ words) = on (step limit symbols word w) (at_codes w.stage word w) (λ next. run_errs next words)
    where
      on : (s : Stepped) → Fails s → ((next : Walking) → Errs (run limit symbols next words)) → Errs (goes_on (λ n. run limit symbols n words) words s)
      on (Going next) h k = k next
      on (Done v code) h k = ok
      on (Failed f) h k = record { code = h.code }

-- so of every fault that running meets
pub run_codes : (limit : ℕ) (symbols : Symbols) (w : Walking) (words : List Word) (f : Fault) → run limit symbols w words ≡ Err f → 5 ≤ f.code
run_codes limit symbols w words f e = subst IfErr e (run_errs limit symbols w words).code
