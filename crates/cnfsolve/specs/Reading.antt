-- Formulas in the DIMACS format, one after another. A formula has the words `p cnf`, its greatest variable and the number of its
-- clauses, and then the literals of each clause with `0` after them. Words end at spaces, tabs and line ends; a line that begins
-- with `c` is no part of a formula. Lines are numbered from 1.
use Rattle.std.specs.Prelude.{ℕ, ◌+◌, ◌-◌, ◌==◌, ◌||◌, min, nat_lt, if◌then◌else◌, List, [], ◌∷◌, ◌++◌, codes, Option, Some, None, Result, Ok, Err}
use Rattle.std.specs.List.{list_all}
use Rattle.std.specs.Str.{bytes_eq}
use Rattle.ffc_clause.specs.Clauses.{Literal as ClauseLiteral, Clause}
use Rattle.ffc_cdcl.specs.State.{State}
use Rattle.cnfsolve.specs.Words.{number_of, item_of}
use Rattle.cnfsolve.specs.declared.words.Item.{Item}
use Rattle.cnfsolve.specs.declared.words.Item.TheVariants.{End, Literal}
use Rattle.cnfsolve.specs.declared.faults.Cause.{Cause}
use Rattle.cnfsolve.specs.declared.faults.Cause.TheVariants as because
use Rattle.cnfsolve.specs.declared.faults.Fault.{Fault}
use Rattle.cnfsolve.specs.declared.stages.Mode.{Mode}
use Rattle.cnfsolve.specs.declared.stages.Mode.TheVariants.{Fresh, Words, Comment}
use Rattle.cnfsolve.specs.declared.stages.Stage.{Stage}
use Rattle.cnfsolve.specs.declared.stages.Stage.TheVariants.{Problem, Format, Variables, Clauses, Body}

-- what was read of a text
pub record Reading : Type 0 where
  pub line : ℕ
  pub mode : Mode
  -- the bytes of a word that has not ended
  pub word : List ℕ
  -- what the next word is
  pub stage : Stage
  -- the literals of a clause that has not ended
  pub clause : Clause
  -- the formula that has not ended, and those before it
  pub formula : State
  pub formulas : List State

-- a formula with no clauses over so many variables
abbrev pub without_clauses : ℕ → State
without_clauses n = record { nodes = n; added = []; scopes = []; lemmas = []; learned = [] }

abbrev pub start : Reading
start = record { line = 1; mode = Fresh; word = []; stage = Problem; clause = []; formula = without_clauses 0; formulas = [] }

abbrev pub refused : Cause → Reading → Result Reading Fault
refused cause r = Err (record { line = r.line; cause = cause })

abbrev pub at_stage : Stage → Reading → Reading
at_stage stage r = record r { stage = stage }

-- so many clauses of the formula are to come
abbrev pub expecting : ℕ → Reading → Reading
expecting n r = if n == 0 then record r { stage = Problem; formula = without_clauses 0; formulas = r.formulas ++ r.formula ∷ [] } else record r { stage = Body n }

-- the clause ends
abbrev pub with_clause : Reading → Reading
with_clause r = record r { formula = record r.formula { added = r.formula.added ++ r.clause ∷ [] }; clause = [] }

abbrev pub take_item : Item → ℕ → Reading → Result Reading Fault
take_item (Literal l) n r = Ok (record r { clause = r.clause ++ l ∷ [] })
take_item End n r = if list_all (λ (l : ClauseLiteral). nat_lt l.1 r.formula.nodes) r.clause then Ok (expecting (n - 1) (with_clause r)) else refused because.Range r

abbrev pub take_item_or_none : Option Item → ℕ → Reading → Result Reading Fault
take_item_or_none None n r = refused because.Item r
take_item_or_none (Some item) n r = take_item item n r

abbrev pub take_variables : Option ℕ → Reading → Result Reading Fault
take_variables None r = refused because.Head r
take_variables (Some n) r = Ok (at_stage (Clauses n) r)

abbrev pub take_clauses : Option ℕ → ℕ → Reading → Result Reading Fault
take_clauses None variables r = refused because.Head r
take_clauses (Some n) variables r = Ok (expecting n (record r { formula = without_clauses variables }))

abbrev pub take_at : Stage → List ℕ → Reading → Result Reading Fault
take_at Problem word r = if bytes_eq word (codes "p") then Ok (at_stage Format r) else refused because.Head r
take_at Format word r = if bytes_eq word (codes "cnf") then Ok (at_stage Variables r) else refused because.Head r
take_at Variables word r = take_variables (number_of word) r
take_at (Clauses variables) word r = take_clauses (number_of word) variables r
take_at (Body n) word r = take_item_or_none (item_of word) n r

-- a word that ends here is taken; a place without one says nothing
abbrev pub take_word : List ℕ → Reading → Result Reading Fault
take_word [] r = Ok r
take_word (b ∷ bs) r = take_at r.stage (b ∷ bs) (record r { word = [] })

abbrev pub in_mode : Mode → Result Reading Fault → Result Reading Fault
in_mode mode (Ok r) = Ok (record r { mode = mode })
in_mode mode (Err fault) = Err fault

-- lines are counted up to 2^64 - 1
abbrev pub on_next_line : Result Reading Fault → Result Reading Fault
on_next_line (Ok r) = Ok (record r { line = min (r.line + 1) 18446744073709551615; mode = Fresh })
on_next_line (Err fault) = Err fault

abbrev pub take_plain : ℕ → Reading → Result Reading Fault
take_plain b r = if (b == 32) || ((b == 9) || (b == 13)) then in_mode Words (take_word r.word r) else Ok (record r { word = r.word ++ b ∷ []; mode = Words })

abbrev pub take_in : Mode → ℕ → Reading → Result Reading Fault
take_in Fresh b r = if b == 99 then Ok (record r { mode = Comment }) else take_plain b r
take_in Words b r = take_plain b r
take_in Comment b r = Ok r

abbrev pub take_byte : ℕ → Reading → Result Reading Fault
take_byte b r = if b == 10 then on_next_line (take_word r.word r) else take_in r.mode b r

abbrev pub then_reading : (Reading → Result Reading Fault) → Result Reading Fault → Result Reading Fault
then_reading f (Ok r) = f r
then_reading f (Err fault) = Err fault

-- the bytes of a text in order, up to the first fault
abbrev pub reading_from : Reading → List ℕ → Result Reading Fault
reading_from r [] = Ok r
reading_from r (b ∷ bs) = then_reading (λ q. reading_from q bs) (take_byte b r)

-- the text may end between formulas
abbrev pub ended_at : Stage → Reading → Result (List State) Fault
ended_at Problem r = Ok r.formulas
ended_at Format r = Err (record { line = r.line; cause = because.End })
ended_at Variables r = Err (record { line = r.line; cause = because.End })
ended_at (Clauses n) r = Err (record { line = r.line; cause = because.End })
ended_at (Body n) r = Err (record { line = r.line; cause = because.End })

abbrev pub finished : Result Reading Fault → Result (List State) Fault
finished (Ok r) = ended_at r.stage r
finished (Err fault) = Err fault

-- the formulas of a text, or the fault at which it is refused
abbrev pub formulas_of : List ℕ → Result (List State) Fault
formulas_of text = finished (then_reading (λ r. take_word r.word r) (reading_from start text))
