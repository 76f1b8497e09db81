-- What the commands without names, sorts and terms read as, word by word.
use Rattle.std.proofs.Common.{◌≡◌, ℕ, suc, Bool, true, false, List, [], ◌∷◌, ◌++◌, All, drop, if◌then◌else◌, Option, Some, None, Result, Ok, Err, refl, sym, ap, ◌∙◌, subst}
use Rattle.std.specs.Prelude.{codes}
use Rattle.std.specs.Str.{bytes_eq}
use Rattle.std.proofs.lemmas.List.Elements.{All-nil}
use Rattle.ffc_lex.specs.declared.tokens.TokenKind.{TokenKind}
use Rattle.ffc_lex.specs.declared.tokens.TokenKind.TheVariants as kinds
use Rattle.ffc_smt.specs.Trees.{Word, Tree, Leaf, Group, Trees, Empty, First, items_of, front, tokens_of_items, name_of, name_by_kind}
use Rattle.ffc_smt.specs.TreeShapes.{IsProper, AreProper, is_parenthesis}
use Rattle.ffc_smt.specs.Terms.{Name, Setting, Command, SetLogic, SetOption, SetInfo, Unsupported, Echo}
use Rattle.ffc_smt.specs.FaultLaws.{IsWordBefore}
use Rattle.ffc_smt.specs.Faults.{Fault, word_fault, Read, Sound, Faulty, faults, faulty, unless, read_map, no_more, last, item}
use Rattle.ffc_smt.specs.Meaning.{found}
use Rattle.ffc_smt.specs.Numbers.{number_of}
use Rattle.ffc_smt.specs.Scopes.{State}
use Rattle.ffc_smt.specs.CommandReading.{alone, one, at_most_one, keyword_read, logic_read, logic_named, string_read, truth_read, truth_named, counted, count_read, levels_read, options, option_read, setting_read, is_too_late}
use Rattle.ffc_smt.proofs.WalkLemmas.{MayFail, one_fault, no_more_at, reads_last}
use Rattle.ffc_words.specs.Words.{AreItemsAt, word_at}
use Rattle.ffc_words.specs.Outcomes.{outcome}
use Rattle.ffc_elab.specs.Reading.{AreInOrder, and_then, later_items, end_at, keyword_of, keyword_of_kind}
use Rattle.ffc_elab.proofs.OutcomeLemmas.{IsAt, IsAfterWord, all_at, all_right, after_each, items_front, tail_of, first_word, word_at_items, front_kind, outcome_behind, outcome_unless_after, IsLeafRead, FaultsThere, outcome_map, end_outcome, leaf_item, next_items, next_order, read_word, with_ok}

-- Items that are one word

-- what is said of a name, and code 5 at what is none
abbrev named : {A : Type 0} → (Word → Name → Read A) → Tree → Read A
named by (Leaf w) = elim (name_of w) [ None ↦ faulty 5 w | Some name ↦ by w name ]
named by (Group opening items closing) = faulty 5 opening

no_name : (k : TokenKind) (bytes : List ℕ) → is_parenthesis k ≡ true → name_by_kind k bytes ≡ None
no_name kinds.LeftParen bytes e = refl
no_name kinds.RightParen bytes e = refl
no_name kinds.Symbol bytes e = cc
no_name kinds.Quoted bytes e = cc
no_name kinds.Numeral bytes e = cc
no_name kinds.Decimal bytes e = cc
no_name kinds.Keyword bytes e = cc
no_name kinds.Str bytes e = cc
no_name kinds.FieldLiteral bytes e = cc

named_at : {A : Type 0} (P : Fault → Type 0) (by : Word → Name → Read A) (w : Word) (o : Option Name) → MayFail P w → ((name : Name) → All P (faults (by w name)))
    → All P (faults {A = A} (elim o [ None ↦ faulty 5 w | Some name ↦ by w name ]))
named_at P by w None m h = one_fault P 5 w m
named_at P by w (Some name) m h = h name

pub named_leaf : {A : Type 0} (by : Word → Name → Read A) → ((P : Fault → Type 0) (w : Word) (name : Name) → MayFail P w → All P (faults (by w name))) → IsLeafRead (named by)
named_leaf {A} by h = record {
  paren = λ w e. ap (λ o. elim o as (λ x. Read A) [ None ↦ faulty 5 w | Some name ↦ by w name ]) (no_name w.kind w.bytes e);
  group = λ o items c. refl;
  at = λ P w m. named_at P by w (name_of w) m (λ name. h P w name m);
}

either_at : {A : Type 0} (P : Fault → Type 0) (b : Bool) (r q : Read A) → All P (faults r) → All P (faults q) → All P (faults (if b then r else q))
either_at P true r q h g = h
either_at P false r q h g = g

logic_named_at : (P : Fault → Type 0) (w : Word) (name : Name) → MayFail P w → All P (faults (logic_named w name))
logic_named_at P w name m = either_at P (bytes_eq name (codes "QF_FF")) (Sound SetLogic) (faulty 6 w) (All-nil P) (one_fault P 6 w m)

pub logic_leaf : IsLeafRead logic_read
logic_leaf = let by = named_leaf logic_named logic_named_at in record { paren = by.paren; group = λ o items c. refl; at = by.at }

truth_named_at : (P : Fault → Type 0) (w : Word) (name : Name) → MayFail P w → All P (faults (truth_named w name))
truth_named_at P w name m =
    either_at P (bytes_eq name (codes "true")) (Sound true) (if bytes_eq name (codes "false") then Sound false else faulty 5 w) (All-nil P)
    (either_at P (bytes_eq name (codes "false")) (Sound false) (faulty 5 w) (All-nil P) (one_fault P 5 w m))

pub truth_leaf : IsLeafRead truth_read
truth_leaf = let by = named_leaf truth_named truth_named_at in record { paren = by.paren; group = λ o items c. refl; at = by.at }

-- by the kind of the word

keyword_paren : (k : TokenKind) (w : Word) → is_parenthesis k ≡ true → (elim k as (λ x. Read Word) [ kinds.Keyword ↦ Sound w | _ ↦ faulty 5 w ]) ≡ faulty 5 w
keyword_paren kinds.Keyword w e = cc
keyword_paren _ w e = refl

keyword_kind_at : (P : Fault → Type 0) (k : TokenKind) (w : Word) → MayFail P w → All P (faults {A = Word} (elim k as (λ x. Read Word) [ kinds.Keyword ↦ Sound w | _ ↦ faulty 5 w ]))
keyword_kind_at P kinds.Keyword w m = All-nil P
keyword_kind_at P _ w m = one_fault P 5 w m

pub keyword_leaf : IsLeafRead keyword_read
keyword_leaf = record { paren = λ w e. keyword_paren w.kind w e; group = λ o items c. refl; at = λ P w m. keyword_kind_at P w.kind w m }

string_paren : (k : TokenKind) (w : Word) → is_parenthesis k ≡ true → (elim k as (λ x. Read Command) [ kinds.Str ↦ Sound (Echo w.bytes) | _ ↦ faulty 5 w ]) ≡ faulty 5 w
string_paren kinds.Str w e = cc
string_paren _ w e = refl

string_kind_at : (P : Fault → Type 0) (k : TokenKind) (w : Word) → MayFail P w → All P (faults {A = Command} (elim k as (λ x. Read Command) [ kinds.Str ↦ Sound (Echo w.bytes) | _ ↦ faulty 5 w ]))
string_kind_at P kinds.Str w m = All-nil P
string_kind_at P _ w m = one_fault P 5 w m

pub string_leaf : IsLeafRead string_read
string_leaf = record { paren = λ w e. string_paren w.kind w e; group = λ o items c. refl; at = λ P w m. string_kind_at P w.kind w m }

counted_at : (P : Fault → Type 0) (test : ℕ → Bool) (w : Word) (n : ℕ) → MayFail P w → All P (faults (counted test w n))
counted_at P test w n m = either_at P (test n) (Sound n) (faulty 16 w) (All-nil P) (one_fault P 16 w m)

count_paren : (test : ℕ → Bool) (k : TokenKind) (w : Word) → is_parenthesis k ≡ true → (elim k as (λ x. Read ℕ) [ kinds.Numeral ↦ counted test w (number_of w.bytes) | _ ↦ faulty 5 w ]) ≡ faulty 5 w
count_paren test kinds.Numeral w e = cc
count_paren test _ w e = refl

count_kind_at : (P : Fault → Type 0) (test : ℕ → Bool) (k : TokenKind) (w : Word) → MayFail P w → All P (faults {A = ℕ} (elim k as (λ x. Read ℕ) [ kinds.Numeral ↦ counted test w (number_of w.bytes) | _ ↦ faulty 5 w ]))
count_kind_at P test kinds.Numeral w m = counted_at P test w (number_of w.bytes) m
count_kind_at P test _ w m = one_fault P 5 w m

pub count_leaf : (test : ℕ → Bool) → IsLeafRead (count_read test)
count_leaf test = record { paren = λ w e. count_paren test w.kind w e; group = λ o items c. refl; at = λ P w m. count_kind_at P test w.kind w m }

map_at : {A B : Type 0} (P : Fault → Type 0) (f : A → B) (r : Read A) → All P (faults r) → All P (faults (read_map f r))
map_at P f (Sound a) h = All-nil P
map_at P f (Faulty g gs) h = h

pub mapped_leaf : {A B : Type 0} (f : A → B) (read : Tree → Read A) → IsLeafRead read → IsLeafRead (λ t. read_map f (read t))
mapped_leaf f read leaf = record {
  paren = λ w e. ap (read_map f) (leaf.paren w e);
  group = λ o items c. ap (read_map f) (leaf.group o items c);
  at = λ P w m. map_at P f (read (Leaf w)) (leaf.at P w m);
}

-- a keyword, and what it means
keyword_outcome : {A : Type 0} (f : List ℕ → A) (w : Word) → outcome (read_map (λ v. f v.bytes) (keyword_read (Leaf w))) ≡ and_then (keyword_of w) (λ key. Ok (f key))
keyword_outcome f w = by_kind w.kind
  where
    by_kind : (k : TokenKind) → outcome (read_map (λ v. f v.bytes) (elim k as (λ x. Read Word) [ kinds.Keyword ↦ Sound w | _ ↦ faulty 5 w ])) ≡ and_then (keyword_of_kind k w) (λ key. Ok (f key))
    by_kind kinds.Keyword = refl
    by_kind _ = refl

-- Commands of one item

abbrev Anything : Word → Type 0
Anything w = Unit {0}

pub last_there : FaultsThere (λ closing ts. last ts)
last_there P closing ts m i = (reads_last P Anything ts i).0

-- where the next step is only taken after this one
pub and_then_same : {A B : Type 0} (r : Result A Fault) (f g : A → Result B Fault) → ((a : A) → r ≡ Ok a → f a ≡ g a) → and_then r f ≡ and_then r g
and_then_same (Ok a) f g h = h a refl
and_then_same (Err e) f g h = refl

and_then_twice : {A B C : Type 0} (r : Result A Fault) (f : A → Result B Fault) (g : B → Result C Fault) → and_then (and_then r f) g ≡ and_then r (λ a. and_then (f a) g)
and_then_twice (Ok a) f g = refl
and_then_twice (Err e) f g = refl

then_with : {A B C : Type 0} (a : A) (q : Result B Fault) (f : A × B → C) → and_then (with_ok a q) (λ p. Ok (f p)) ≡ and_then q (λ b. Ok (f (a, b)))
then_with a (Ok b) f = refl
then_with a (Err x) f = refl

with_same : {A B C : Type 0} (a : A) (r q : Result B Fault) (f : A × B → C) → r ≡ q → and_then (with_ok a r) (λ p. Ok (f p)) ≡ and_then q (λ b. Ok (f (a, b)))
with_same a r q f e = ap (λ x. and_then (with_ok a x) (λ p. Ok (f p))) e ∙ then_with a q f

-- a keyword, what it means, and the end of the form
pub keyword_ended : {A : Type 0} (f : List ℕ → A) (w end : Word) → and_then (outcome (read_map (λ v. f v.bytes) (keyword_read (Leaf w)))) (λ a. and_then (end_at end) (λ u. Ok a)) ≡ and_then (keyword_of w) (λ key. and_then (end_at end) (λ u. Ok (f key)))
keyword_ended f w end =
    ap (λ r. and_then r (λ a. and_then (end_at end) (λ u. Ok a))) (keyword_outcome f w) ∙ and_then_twice (keyword_of w) (λ key. Ok (f key)) (λ a. and_then (end_at end) (λ u. Ok a))

pub one_outcome : (read : Tree → Read Command) (words : List Word) (i : ℕ) (items : Trees) (closing : Word) (rest : List Word)
    → IsLeafRead read → AreItemsAt words i items closing rest → AreInOrder (drop i words)
    → outcome (one read closing (items_of items)) ≡ and_then (outcome (read (Leaf (word_at words i)))) (λ c. and_then (end_at (word_at words (suc i))) (λ u. Ok c))
one_outcome read words i items closing rest leaf at order =
    let w = word_at words i in
    outcome_map (λ p. p.0) (item closing read last (items_of items))
    ∙ ap (λ r. and_then r (λ p. Ok (p.0))) (leaf_item read (λ c ts. last ts) words i items closing rest leaf last_there at order)
    ∙ and_then_twice (outcome (read (Leaf w))) _ _
    ∙ and_then_same (outcome (read (Leaf w))) _ _ (λ c e.
    let next = next_items words i items closing rest at (read_word read w c leaf e) in
    with_same c (outcome (last (items_of (later_items items)))) (end_at (word_at words (suc i))) (λ p. p.0) (end_outcome words (suc i) (later_items items) closing rest next))

pub alone_outcome : (c : Command) (words : List Word) (i : ℕ) (items : Trees) (closing : Word) (rest : List Word)
    → AreItemsAt words i items closing rest → outcome (alone c closing (items_of items)) ≡ and_then (end_at (word_at words i)) (λ u. Ok c)
alone_outcome c words i items closing rest at =
    outcome_map (λ u. c) (last (items_of items)) ∙ ap (λ r. and_then r (λ u. Ok c)) (end_outcome words i items closing rest at)

-- Commands with a keyword, and one more item or none

items_later : (ts : Trees) → items_of (later_items ts) ≡ drop 1 (items_of ts)
unfolding items_of
items_later Empty = refl
items_later (First t ts) = refl

at_most_there : FaultsThere (λ closing ts. at_most_one ts)
at_most_there P closing [] m i = (reads_last P Anything [] i).0
at_most_there P closing (t ∷ ts) m i = (reads_last P Anything ts i.1).0

-- a place after the item at another one, if there is one
abbrev pub IsPlaceAfter : List Word → ℕ → ℕ → Word → List Word → Type 0
IsPlaceAfter words i j closing rest = (items : Trees) → AreItemsAt words i items closing rest → AreItemsAt words j (later_items items) closing rest

at_most_outcome : (words : List Word) (i j : ℕ) (items : Trees) (closing : Word) (rest : List Word) → IsPlaceAfter words i j closing rest → AreItemsAt words i items closing rest
    → outcome (at_most_one (items_of items)) ≡ end_at (word_at words j)
at_most_outcome words i j items closing rest after at =
    ap (λ ts. outcome (last ts)) (sym (items_later items)) ∙ end_outcome words j (later_items items) closing rest (after items at)

-- what follows a keyword
after_keyword : {A : Type 0} (w : Word) (f : Word → Result A Fault) → and_then (outcome (keyword_read (Leaf w))) f ≡ and_then (keyword_of w) (λ key. f w)
after_keyword {A} w f = by_kind w.kind
  where
    by_kind : (k : TokenKind) → and_then {B = A} (outcome (elim k as (λ x. Read Word) [ kinds.Keyword ↦ Sound w | _ ↦ faulty 5 w ])) f ≡ and_then (keyword_of_kind k w) (λ key. f w)
    by_kind kinds.Keyword = refl
    by_kind _ = refl

pub info_outcome : (words : List Word) (i j : ℕ) (items : Trees) (closing : Word) (rest : List Word) → IsPlaceAfter words (suc i) j closing rest
    → AreItemsAt words i items closing rest → AreInOrder (drop i words)
    → outcome (read_map (λ p. SetInfo) (item closing keyword_read at_most_one (items_of items))) ≡ and_then (keyword_of (word_at words i)) (λ key. and_then (end_at (word_at words j)) (λ u. Ok SetInfo))
info_outcome words i j items closing rest after at order =
    let w = word_at words i in
    outcome_map (λ p. SetInfo) (item closing keyword_read at_most_one (items_of items))
    ∙ ap (λ r. and_then r (λ p. Ok SetInfo)) (leaf_item keyword_read (λ c ts. at_most_one ts) words i items closing rest keyword_leaf at_most_there at order)
    ∙ and_then_twice (outcome (keyword_read (Leaf w))) _ _
    ∙ and_then_same (outcome (keyword_read (Leaf w))) _ (λ v. and_then (end_at (word_at words j)) (λ u. Ok SetInfo)) (λ v e.
    let next = next_items words i items closing rest at (read_word keyword_read w v keyword_leaf e) in
    with_same v (outcome (at_most_one (items_of (later_items items)))) (end_at (word_at words j)) (λ p. SetInfo) (at_most_outcome words (suc i) j (later_items items) closing rest after next))
    ∙ after_keyword w _

-- An item that is one word, and the end
pub ended_outcome : {A B : Type 0} (f : A × Unit {0} → B) (read : Tree → Read A) (words : List Word) (i : ℕ) (items : Trees) (closing : Word) (rest : List Word)
    → IsLeafRead read → AreItemsAt words i items closing rest → AreInOrder (drop i words)
    → outcome (read_map f (item closing read last (items_of items))) ≡ and_then (outcome (read (Leaf (word_at words i)))) (λ a. and_then (end_at (word_at words (suc i))) (λ u. Ok (f (a, u))))
ended_outcome f read words i items closing rest leaf at order =
    let w = word_at words i in
    outcome_map f (item closing read last (items_of items))
    ∙ ap (λ r. and_then r (λ p. Ok (f p))) (leaf_item read (λ c ts. last ts) words i items closing rest leaf last_there at order)
    ∙ and_then_twice (outcome (read (Leaf w))) _ _
    ∙ and_then_same (outcome (read (Leaf w))) _ (λ a. and_then (end_at (word_at words (suc i))) (λ u. Ok (f (a, u)))) (λ a e.
    let next = next_items words i items closing rest at (read_word read w a leaf e) in
    with_same a (outcome (last (items_of (later_items items)))) (end_at (word_at words (suc i))) f (end_outcome words (suc i) (later_items items) closing rest next))

-- `set-option`

option_by_items : (s : State) (items : Trees) (closing : Word) → AreProper items → closing.kind ≡ kinds.RightParen
    → outcome (option_read s closing (items_of items)) ≡ and_then (keyword_of (first_word items closing)) (λ key. outcome (setting_read s closing (first_word items closing) (items_of (later_items items)) (found options key)))
unfolding items_of
option_by_items s Empty closing p c = sym (ap (λ k. and_then (keyword_of_kind k closing) (λ key. outcome (setting_read s closing closing [] (found options key)))) c)
option_by_items s (First (Group opening items last) ts) closing p c =
    sym (ap (λ k. and_then (keyword_of_kind k opening) (λ key. outcome (setting_read s closing opening (items_of ts) (found options key)))) p.0.0)
option_by_items s (First (Leaf w) ts) closing p c =
    outcome_behind (keyword_read (Leaf w)) (λ v. setting_read s closing v (items_of ts) (found options v.bytes)) ∙ by_kind w.kind
  where
    by_kind : (k : TokenKind) → and_then {B = Command} (outcome (elim k as (λ x. Read Word) [ kinds.Keyword ↦ Sound w | _ ↦ faulty 5 w ])) (λ v. outcome (setting_read s closing v (items_of ts) (found options v.bytes)))
        ≡ and_then (keyword_of_kind k w) (λ key. outcome (setting_read s closing w (items_of ts) (found options key)))
    by_kind kinds.Keyword = refl
    by_kind _ = refl

unless_ok : {A : Type 0} (fs : List Fault) (a : A) → outcome (unless fs (Sound a)) ≡ and_then (outcome (unless fs (Sound tt))) (λ (u : Unit {0}). Ok a)
unless_ok [] a = refl
unless_ok (f ∷ fs) a = refl

pub unknown_outcome : (s : State) (words : List Word) (i j : ℕ) (w : Word) (items : Trees) (closing : Word) (rest : List Word) → IsPlaceAfter words i j closing rest → AreItemsAt words i items closing rest
    → outcome (setting_read s closing w (items_of items) None) ≡ and_then (end_at (word_at words j)) (λ u. Ok Unsupported)
unknown_outcome s words i j w items closing rest after at =
    unless_ok (no_more (drop 1 (items_of items))) Unsupported ∙ ap (λ r. and_then r (λ u. Ok Unsupported)) (at_most_outcome words i j items closing rest after at)

pub known_outcome : (s : State) (o : Setting) (words : List Word) (i : ℕ) (w : Word) (items : Trees) (closing : Word) (rest : List Word) → AreItemsAt words i items closing rest → AreInOrder (drop i words)
    → outcome (setting_read s closing w (items_of items) (Some o))
    ≡ (if is_too_late s o then Err (word_fault 7 w) else and_then (outcome (truth_read (Leaf (word_at words i)))) (λ b. and_then (end_at (word_at words (suc i))) (λ u. Ok (SetOption o b))))
known_outcome s o words i w items closing rest at order = by_test (is_too_late s o)
  where
    by_test : (b : Bool) → outcome (if b then faulty 7 w else read_map (λ p. SetOption o p.0) (item closing truth_read last (items_of items)))
        ≡ (if b then Err (word_fault 7 w) else and_then (outcome (truth_read (Leaf (word_at words i)))) (λ b. and_then (end_at (word_at words (suc i))) (λ u. Ok (SetOption o b))))
    by_test true = refl
    by_test false = ended_outcome (λ p. SetOption o p.0) truth_read words i items closing rest truth_leaf at order

pub option_outcome : (s : State) (words : List Word) (i : ℕ) (items : Trees) (closing : Word) (rest : List Word) → AreItemsAt words i items closing rest
    → outcome (option_read s closing (items_of items)) ≡ and_then (keyword_of (word_at words i)) (λ key. outcome (setting_read s closing (word_at words i) (items_of (later_items items)) (found options key)))
option_outcome s words i items closing rest at =
    option_by_items s items closing at.proper at.closed
    ∙ ap (λ w. and_then (keyword_of w) (λ key. outcome (setting_read s closing w (items_of (later_items items)) (found options key)))) (sym (word_at_items words i items closing rest at))

-- `push` and `pop`

pub default_outcome : (test : ℕ → Bool) (words : List Word) (i : ℕ) (items : Trees) (closing : Word) (rest : List Word) → AreItemsAt words i items closing rest → (word_at words i).kind ≡ kinds.RightParen
    → outcome (levels_read test closing (items_of items)) ≡ outcome (counted test (word_at words i) 1)
unfolding items_of
default_outcome test words i Empty closing rest at e = ap (λ w. outcome (counted test w 1)) (sym (word_at_items words i Empty closing rest at))
default_outcome test words i (First t ts) closing rest at e = absurd (front_kind t at.proper.0 (ap (λ w. w.kind) (sym (word_at_items words i (First t ts) closing rest at)) ∙ e))

count_front : (test : ℕ → Bool) (t : Tree) → IsProper t → count_read test t ≡ count_read test (Leaf (front t))
count_front test (Leaf w) p = refl
count_front test (Group opening items closing) p = sym ((count_leaf test).paren opening (ap is_parenthesis p.0))

counted_by_items : (test : ℕ → Bool) (t : Tree) (ts : Trees) (closing : Word) (rest : List Word) → IsProper t → AreInOrder (tokens_of_items (First t ts) ++ closing ∷ rest)
    → outcome (levels_read test closing (items_of (First t ts))) ≡ and_then (outcome (count_read test (Leaf (front t)))) (λ n. and_then (outcome (last (items_of ts))) (λ u. Ok n))
unfolding items_of
counted_by_items test t ts closing rest p order =
    let v = front t in
    let r = count_read test (Leaf v) in
    let fs = no_more (items_of ts) in
    let ordered = subst AreInOrder (items_front (First t ts) closing rest) order in
    let others = all_right (IsWordBefore v) (tail_of t) (tokens_of_items ts ++ closing ∷ rest) ordered.0 in
    let after = no_more_at (IsAfterWord v) Anything (items_of ts) (after_each v ts closing rest others) in
    ap (λ q. outcome (unless fs q)) (count_front test t p)
    ∙ outcome_unless_after fs r (all_at v fs (faults r) ((count_leaf test).at (IsAt v) v (λ code. (refl, refl))) after)
    ∙ and_then_same (outcome r) (λ n. outcome (unless fs (Sound n))) (λ n. and_then (outcome (last (items_of ts))) (λ u. Ok n)) (λ n e. unless_ok fs n)

pub counted_outcome : (test : ℕ → Bool) (words : List Word) (i : ℕ) (items : Trees) (closing : Word) (rest : List Word) → AreItemsAt words i items closing rest → AreInOrder (drop i words)
    → ((word_at words i).kind ≡ kinds.RightParen → ⊥)
    → outcome (levels_read test closing (items_of items)) ≡ and_then (outcome (count_read test (Leaf (word_at words i)))) (λ n. and_then (end_at (word_at words (suc i))) (λ u. Ok n))
counted_outcome test words i Empty closing rest at order e = absurd (e (ap (λ w. w.kind) (word_at_items words i Empty closing rest at) ∙ at.closed))
counted_outcome test words i (First t ts) closing rest at order e =
    let is = word_at_items words i (First t ts) closing rest at in
    counted_by_items test t ts closing rest at.proper.0 (subst AreInOrder at.text order)
    ∙ ap (λ w. and_then (outcome (count_read test (Leaf w))) (λ n. and_then (outcome (last (items_of ts))) (λ u. Ok n))) (sym is)
    ∙ and_then_same (outcome (count_read test (Leaf (word_at words i)))) _ _ (λ n ok.
    let next = next_items words i (First t ts) closing rest at (read_word (count_read test) (word_at words i) n (count_leaf test) ok) in
    ap (λ r. and_then r (λ u. Ok n)) (end_outcome words (suc i) ts closing rest next))

pub levels_same : (test other : ℕ → Bool) → ((n : ℕ) → test n ≡ other n) → (closing : Word) (ts : List Tree) → levels_read test closing ts ≡ levels_read other closing ts
levels_same test other h closing [] = ap (λ b. if b then Sound 1 else faulty 16 closing) (h 1)
levels_same test other h closing (Leaf w ∷ ts) = ap (unless (no_more ts)) (by_kind w.kind)
  where
    by_kind : (k : TokenKind) → (elim k as (λ x. Read ℕ) [ kinds.Numeral ↦ counted test w (number_of w.bytes) | _ ↦ faulty 5 w ]) ≡ (elim k as (λ x. Read ℕ) [ kinds.Numeral ↦ counted other w (number_of w.bytes) | _ ↦ faulty 5 w ])
    by_kind kinds.Numeral = ap (λ b. if b then Sound (number_of w.bytes) else faulty 16 w) (h (number_of w.bytes))
    by_kind _ = refl
levels_same test other h closing (Group opening items last ∷ ts) = refl

-- `set-option`, once its keyword is read

keyword_leaves : (w : Word) (key : List ℕ) → keyword_of w ≡ Ok key → is_parenthesis w.kind ≡ false
keyword_leaves w key e = by_kind w.kind e
  where
    by_kind : (k : TokenKind) → keyword_of_kind k w ≡ Ok key → is_parenthesis k ≡ false
    by_kind kinds.LeftParen e = cc
    by_kind kinds.RightParen e = cc
    by_kind kinds.Keyword e = refl
    by_kind kinds.Numeral e = cc
    by_kind kinds.Decimal e = cc
    by_kind kinds.Symbol e = cc
    by_kind kinds.Quoted e = cc
    by_kind kinds.Str e = cc
    by_kind kinds.FieldLiteral e = cc

module _ (s : State) (words : List Word) (i : ℕ) (items : Trees) (closing : Word) (rest : List Word) (at : AreItemsAt words i items closing rest) (order : AreInOrder (drop i words)) where
  pub option_refused : (f : Fault) → keyword_of (word_at words i) ≡ Err f → outcome (option_read s closing (items_of items)) ≡ Err f
  option_refused f e =
      option_outcome s words i items closing rest at
      ∙ ap (λ r. and_then r (λ key. outcome (setting_read s closing (word_at words i) (items_of (later_items items)) (found options key)))) e

  option_keyed : (key : List ℕ) (o : Option Setting) → keyword_of (word_at words i) ≡ Ok key → found options key ≡ o
      → outcome (option_read s closing (items_of items)) ≡ outcome (setting_read s closing (word_at words i) (items_of (later_items items)) o)
  option_keyed key o e is =
      option_outcome s words i items closing rest at
      ∙ ap (λ r. and_then r (λ key. outcome (setting_read s closing (word_at words i) (items_of (later_items items)) (found options key)))) e
      ∙ ap (λ o. outcome (setting_read s closing (word_at words i) (items_of (later_items items)) o)) is

  pub option_unknown : (key : List ℕ) (j : ℕ) → keyword_of (word_at words i) ≡ Ok key → found options key ≡ None → IsPlaceAfter words (suc i) j closing rest
      → outcome (option_read s closing (items_of items)) ≡ and_then (end_at (word_at words j)) (λ u. Ok Unsupported)
  option_unknown key j e is after =
      option_keyed key None e is
      ∙ unknown_outcome s words (suc i) j (word_at words i) (later_items items) closing rest after (next_items words i items closing rest at (keyword_leaves (word_at words i) key e))

  pub option_known : (key : List ℕ) (o : Setting) → keyword_of (word_at words i) ≡ Ok key → found options key ≡ Some o
      → outcome (option_read s closing (items_of items))
      ≡ (if is_too_late s o then Err (word_fault 7 (word_at words i)) else and_then (outcome (truth_read (Leaf (word_at words (suc i))))) (λ b. and_then (end_at (word_at words (suc (suc i)))) (λ u. Ok (SetOption o b))))
  option_known key o e is =
      option_keyed key (Some o) e is
      ∙ known_outcome s o words (suc i) (word_at words i) (later_items items) closing rest (next_items words i items closing rest at (keyword_leaves (word_at words i) key e)) (next_order words i items closing rest at order)

-- `push` and `pop`, from what is read of their number
pub levels_command : (f : ℕ → Command) (test other : ℕ → Bool) (closing : Word) (ts : List Tree) (r : Result ℕ Fault) → ((n : ℕ) → test n ≡ other n) → r ≡ outcome (levels_read test closing ts)
    → and_then r (λ n. Ok (f n)) ≡ outcome (read_map f (levels_read other closing ts))
levels_command f test other closing ts r same e =
    ap (λ q. and_then q (λ n. Ok (f n))) (e ∙ ap outcome (levels_same test other same closing ts)) ∙ sym (outcome_map f (levels_read other closing ts))
