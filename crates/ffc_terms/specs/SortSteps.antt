-- A sort word by word: what each word may be, from the left.
use Rattle.std.specs.Prelude.{◌≡◌, ℕ, ◌+◌, ◌≤◌, Bool, true, false, List, [], ◌∷◌, drop, length, codes, if◌then◌else◌, Option, Some, None, Result, Ok, Err}
use Rattle.std.specs.Str.{bytes_eq}
use Rattle.ffc_lex.specs.declared.tokens.TokenKind.{TokenKind}
use Rattle.ffc_lex.specs.declared.tokens.TokenKind.TheVariants as kinds
use Rattle.ffc_term.specs.declared.node.Sort.{Sort}
use Rattle.ffc_term.specs.declared.node.Sort.TheVariants as sort
use Rattle.ffc_smt.specs.Trees.{Word, Tree, tokens_of, name_of}
use Rattle.ffc_smt.specs.Terms.{Name}
use Rattle.ffc_smt.specs.Meaning.{Env, found}
use Rattle.ffc_smt.specs.Numbers.{number_of, is_order}
use Rattle.ffc_smt.specs.Faults.{Fault, word_fault}
use Rattle.ffc_smt.specs.TermReading.{is_numeral, is_named, is_word}
use Rattle.ffc_words.specs.Words.{no_word, fault_of}
use Rattle.ffc_lex.specs.declared.faults.ScriptFault.{ScriptFault}
use Rattle.ffc_terms.specs.declared.sorts.SortStage.{SortStage}
use Rattle.ffc_terms.specs.declared.sorts.SortStage.TheVariants as stage
use Rattle.ffc_terms.specs.declared.sorts.SortStep.{SortStep}
use Rattle.ffc_terms.specs.declared.sorts.SortStep.TheVariants as then

abbrev pub fault : {A : Type 0} → ℕ → Word → Result A Fault
fault code w = Err (word_fault code w)

abbrev pub known : Word → Option Sort → Result SortStep Fault
known w None = fault 8 w
known w (Some s) = Ok (then.Whole s)

abbrev pub by_name : Env Sort → Word → Option Name → Result SortStep Fault
by_name sorts w None = fault 5 w
by_name sorts w (Some name) = if bytes_eq name (codes "Bool") then Ok (then.Whole sort.Bool) else known w (found sorts name)

abbrev pub named : Env Sort → Word → Result SortStep Fault
named sorts w = by_name sorts w (name_of w)

abbrev pub order : Word → Result SortStep Fault
order w =
    if is_numeral w.kind then (if is_order (number_of w.bytes) then Ok (then.More (stage.Close (number_of w.bytes))) else fault 11 w)
    else fault 5 w

abbrev pub opens : TokenKind → Bool
opens kinds.LeftParen = true
opens _ = false

abbrev pub closes : TokenKind → Bool
closes kinds.RightParen = true
closes _ = false

unfoldable pub step : Env Sort → SortStage → Word → Result SortStep Fault
step sorts stage.Start w = if opens w.kind then Ok (then.More stage.Underscore) else named sorts w
step sorts stage.Underscore w = if is_word (codes "_") w then Ok (then.More stage.Family) else fault 5 w
step sorts stage.Family w = if is_named (codes "FiniteField") w then Ok (then.More stage.Order) else fault 5 w
step sorts stage.Order w = order w
step sorts (stage.Close p) w = if closes w.kind then Ok (then.Whole (sort.Field p)) else fault 5 w

abbrev pub goes_on : (SortStage → Result (Sort × List Word) Fault) → List Word → Result SortStep Fault → Result (Sort × List Word) Fault
goes_on next words (Ok (then.More stage)) = next stage
goes_on next words (Ok (then.Whole s)) = Ok (s, words)
goes_on next words (Err f) = Err f

-- the sort that these words begin with, and the words after it
unfoldable pub run : Env Sort → SortStage → List Word → Result (Sort × List Word) Fault
run sorts stage [] = fault 5 no_word
run sorts stage (w ∷ ws) = goes_on (λ next. run sorts next ws) ws (step sorts stage w)

-- the sort at a place
abbrev pub at : Env Sort → List Word → ℕ → Result (Sort × List Word) Fault
at sorts words i = run sorts stage.Start (drop i words)

-- a sort with the place after it
abbrev pub RunsAs : List Word → Result (Sort × List Word) Fault → Result (Sort × ℕ) ScriptFault → Type 0
RunsAs words r (Ok x) = (r ≡ Ok (x.0, drop x.1 words)) × (x.1 ≤ length words)
RunsAs words r (Err f) = r ≡ Err (fault_of f)

-- a sort, and the place after its tree
abbrev pub placed : Tree → ℕ → Result Sort Fault → Result (Sort × ℕ) Fault
placed tree i (Ok s) = Ok (s, i + length (tokens_of tree))
placed tree i (Err f) = Err f
