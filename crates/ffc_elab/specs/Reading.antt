-- How a command is read from the words of its form.
use Rattle.std.specs.Prelude.{◌≡◌, ◌⊎◌, true, false, ℕ, suc, ◌+◌, ◌≤◌, nat_le, drop, Bool, List, [], ◌∷◌, All, Some, None, Result, Ok, Err}
use Rattle.ffc_lex.specs.declared.tokens.TokenKind.{TokenKind}
use Rattle.ffc_lex.specs.declared.tokens.TokenKind.TheVariants as kinds
use Rattle.ffc_smt.specs.Trees.{Word, Tree, Leaf, Group, Trees, Empty, First, items_of, tokens_of}
use Rattle.ffc_smt.specs.TreeShapes.{IsProper}
use Rattle.ffc_smt.specs.FaultLaws.{IsWordBefore}
use Rattle.ffc_smt.specs.Faults.{Fault, word_fault, Read, faulty}
use Rattle.ffc_smt.specs.Meaning.{found}
use Rattle.ffc_smt.specs.Terms.{Name, Command}
use Rattle.ffc_smt.specs.Terms as smt
use Rattle.ffc_smt.specs.Scopes.{State}
use Rattle.ffc_smt.specs.TermReading.{exactly}
use Rattle.ffc_smt.specs.CommandReading.{Limits, limits, readers, form_read, fresh_read, is_named_word}
use Rattle.ffc_parts.specs.declared.heads.Head.{Head}
use Rattle.ffc_parts.specs.declared.heads.Head.TheVariants as head
use Rattle.ffc_parts.specs.Heads.{head_name, setting_of, MayComeAs}
use Rattle.ffc_elab.specs.declared.plain.Info.{Info}
use Rattle.ffc_elab.specs.declared.plain.Info.TheVariants as info
use Rattle.ffc_elab.specs.declared.plain.Plain.{Plain}
use Rattle.ffc_elab.specs.declared.plain.Plain.TheVariants as plain
use Rattle.ffc_lex.specs.declared.faults.ScriptFault.{ScriptFault}
use Rattle.ffc_words.specs.Words.{AreItemsAt, word_at, fault_of}
use Rattle.ffc_words.specs.Outcomes.{outcome}

-- each word is to the left of those after it, or above
abbrev pub AreInOrder : List Word → Type 0
AreInOrder [] = Unit {0}
AreInOrder (w ∷ ws) = All (IsWordBefore w) ws × AreInOrder ws

-- the words of a form, and its tree
pub record IsFormOf (words : List Word) (tree : Tree) : Type 0 where
  pub spelled : tokens_of tree ≡ words
  pub proper : IsProper tree
  pub opened : (word_at words 0).kind ≡ kinds.LeftParen
  pub places : AreInOrder words

-- what the code answers, as the definitions say it
abbrev pub result_as : {A B : Type 0} → (B → A) → Result B ScriptFault → Result A Fault
result_as f (Ok b) = Ok (f b)
result_as f (Err g) = Err (fault_of g)

-- one step after another
abbrev pub and_then : {A B : Type 0} → Result A Fault → (A → Result B Fault) → Result B Fault
and_then (Ok a) next = next a
and_then (Err f) next = Err f

-- the items but the first
abbrev pub later_items : Trees → Trees
later_items Empty = Empty
later_items (First t ts) = ts

abbrev pub end_at_kind : TokenKind → Word → Result (Unit {0}) Fault
end_at_kind kinds.RightParen w = Ok tt
end_at_kind _ w = Err (word_fault 5 w)

-- the parenthesis that closes the list, or code 5
abbrev pub end_at : Word → Result (Unit {0}) Fault
end_at w = end_at_kind w.kind w

-- `:named` and a new name, at these words, and then the ends of the list and of the form
abbrev pub label_of : (Name → Bool) → Word → Word → Word → Word → Result Name Fault
label_of taken v w end last =
    and_then (outcome (exactly is_named_word (Leaf v))) (λ u.
    and_then (outcome (fresh_read taken (Leaf w))) (λ name.
    and_then (end_at end) (λ u. and_then (end_at last) (λ u. Ok name))))

-- the same from a place on
abbrev pub label_at : (Name → Bool) → List Word → ℕ → Result Name Fault
label_at taken words i = label_of taken (word_at words i) (word_at words (suc i)) (word_at words (suc (suc i))) (word_at words (suc (suc (suc i))))

abbrev pub keyword_of_kind : TokenKind → Word → Result (List ℕ) Fault
keyword_of_kind kinds.Keyword w = Ok w.bytes
keyword_of_kind _ w = Err (word_fault 5 w)

-- a keyword as it is written, or code 5
abbrev pub keyword_of : Word → Result (List ℕ) Fault
keyword_of w = keyword_of_kind w.kind w

-- what the reader of a command reads
abbrev pub read_by_head : Limits → State → Head → Word → List Tree → Read Command
read_by_head l s h closing items = elim (found (readers l s) (head_name h)) [ None ↦ faulty 5 closing | Some r ↦ r.read closing items ]

-- the command that is meant

abbrev pub info_of : Info → smt.Info
info_of info.SolverName = smt.SolverName
info_of info.Version = smt.Version
info_of info.AssertionStackLevels = smt.AssertionStackLevels
info_of info.ReasonUnknown = smt.ReasonUnknown

abbrev pub plain_of : Plain → Command
plain_of plain.SetLogic = smt.SetLogic
plain_of (plain.SetOption o b) = smt.SetOption (setting_of o) b
plain_of (plain.GetOption o) = smt.GetOption (setting_of o)
plain_of plain.SetInfo = smt.SetInfo
plain_of (plain.GetInfo i) = smt.GetInfo (info_of i)
plain_of plain.Unsupported = smt.Unsupported
plain_of (plain.Echo bytes) = smt.Echo bytes.now
plain_of plain.CheckSat = smt.CheckSat
plain_of plain.GetModel = smt.GetModel
plain_of plain.GetUnsatCore = smt.GetUnsatCore
plain_of plain.GetUnsatAssumptions = smt.GetUnsatAssumptions
plain_of (plain.Push n) = smt.Push n
plain_of (plain.Pop n) = smt.Pop n
plain_of plain.ResetAssertions = smt.ResetAssertions
plain_of plain.Reset = smt.Reset
plain_of plain.Exit = smt.Exit

-- at most so many
abbrev pub up_to : ℕ → ℕ → Bool
up_to most n = nat_le n most

-- a command without names, sorts and terms
abbrev pub IsPlainHead : Head → Type 0
IsPlainHead head.DeclareConst = ⊥
IsPlainHead head.DeclareFun = ⊥
IsPlainHead head.DefineSort = ⊥
IsPlainHead head.DefineFun = ⊥
IsPlainHead head.Assert = ⊥
IsPlainHead head.CheckSatAssuming = ⊥
IsPlainHead head.GetValue = ⊥
IsPlainHead _ = Unit {0}

-- A form with the head of this command: its items are read from the third word on.
pub record IsCommandForm (words : List Word) (s : State) (tree : Tree) (h : Head) : Type 0 where
  pub opening : Word
  pub name : Word
  pub items : Trees
  pub closing : Word
  pub shape : tree ≡ Group opening (First (Leaf name) items) closing
  pub at : AreItemsAt words 2 items closing []
  pub order : AreInOrder (drop 2 words)
  pub read : outcome (form_read limits s tree) ≡ outcome (read_by_head limits s h closing (items_of items))

-- the command of a form, or its fault
abbrev pub IsHeadOf : List Word → State → Tree → Result Head ScriptFault → Type 0
IsHeadOf words s tree (Ok h) = IsCommandForm words s tree h
IsHeadOf words s tree (Err f) = outcome (form_read limits s tree) ≡ Err (fault_of f)

-- the command that a word names, at a moment when it may come; else code 4 or 7
abbrev pub TimelyAs : Word → Bool → Result Head ScriptFault → Type 0
TimelyAs w logic (Ok h) = (w.bytes ≡ head_name h) × ((s : State) → MayComeAs (found (readers limits s) (head_name h)) logic true)
TimelyAs w logic (Err f) =
    ((fault_of f ≡ word_fault 4 w) × ((s : State) → found (readers limits s) w.bytes ≡ None))
    ⊎ ((h : Head) × (fault_of f ≡ word_fault 7 w) × (w.bytes ≡ head_name h) × ((s : State) → MayComeAs (found (readers limits s) (head_name h)) logic false))

-- levels that may be opened or closed where so many are open
abbrev pub IsWithin : ℕ → Plain → Type 0
IsWithin level (plain.Push n) = level + n ≤ 65536
IsWithin level (plain.Pop n) = n ≤ level
IsWithin level _ = Unit {0}
