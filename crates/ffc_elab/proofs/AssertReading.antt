-- What `assert` reads as.
use Rattle.std.proofs.Common.{append_assoc, nat_lt, zero, ◌<◌, ◌≡◌, ℕ, suc, ◌+◌, ◌-◌, ◌^◌, ◌≤◌, min, Bool, true, false, ◌&&◌, List, [], ◌∷◌, ◌++◌, drop, length, if◌then◌else◌, Some, None, Result, Ok, Err, refl, sym, ap, ◌∙◌, subst, arith}
use Rattle.std.specs.Prelude.{codes, option_map}
use Rattle.std.specs.Str.{bytes_eq}
use Rattle.std.proofs.lemmas.List.Elements.{All-nil}
use Rattle.std.proofs.lemmas.Bool.Decides.{nat_tests}
use Rattle.ffc_lex.specs.declared.tokens.TokenKind.{TokenKind}
use Rattle.ffc_lex.specs.declared.tokens.TokenKind.TheVariants as kinds
use Rattle.ffc_term.specs.declared.node.Node.{Node}
use Rattle.ffc_term.specs.declared.node.Sort.TheVariants as sort
use Rattle.ffc_smt.specs.Trees.{Word, Tree, Leaf, Group, Trees, Empty, First, items_of, tokens_of, tokens_of_items, is_symbol}
use Rattle.ffc_lex.specs.Names.{is_reserved_word}
use Rattle.ffc_smt.specs.TreeShapes.{is_parenthesis, AreProper}
use Rattle.ffc_smt.specs.Terms.{Name, Term, Command, Assert}
use Rattle.ffc_smt.specs.Faults.{Fault, word_fault, Read, Sound, Faulty, faulty, read_map, both, last, item}
use Rattle.ffc_smt.specs.Scopes.{State}
use Rattle.ffc_smt.specs.TermReading.{exactly, is_word}
use Rattle.ffc_smt.specs.CommandReading.{limits, term_of_sort, is_named_word, fresh_read, is_taken, named_assertion, plain_assertion, assertion_read, one}
use Rattle.ffc_smt.proofs.WalkLemmas.{MayFail, each_in, one_fault}
use Rattle.ffc_words.specs.declared.faults.TakeStop.{TakeStop}
use Rattle.ffc_words.specs.declared.faults.TakeStop.TheVariants as stop
use Rattle.ffc_words.specs.Words.{IsTreeAt, AreItemsAt, no_word, word_at, fault_of}
use Rattle.ffc_words.specs.Outcomes.{outcome}
use Rattle.ffc_elab.specs.Reading.{AreInOrder, and_then, end_at, end_at_kind, later_items, label_at}
use Rattle.ffc_terms.specs.declared.scope.Symbols.{Symbols}
use Rattle.ffc_terms.specs.declared.terms.TermRead.{TermRead}
use Rattle.ffc_elab.specs.declared.asserting.Assertion.{Assertion}
use Rattle.ffc_elab.specs.SortedTerms.{ReadsOfSort, IsTermOfSort, IsReadTerm, ReadsAsTerm}
use Rattle.ffc_elab.specs.Asserting.{IsAssertion, ReadsAssertion}
use Rattle.ffc_elab.proofs.ChangeLemmas.{sound_of}
use Rattle.ffc_elab.proofs.OutcomeLemmas.{drop_plus, outcome_map, drop_next, FaultsThere, IsLeafRead, with_ok, word_at_items, front_kind, end_outcome, leaf_item, next_items, next_order, read_word, spelled_first}
use Rattle.ffc_elab.proofs.PlainLemmas.{last_there}
use Rattle.ffc_elab.proofs.NamingLemmas.{fresh_leaf, fresh_same}
use Rattle.ffc_elab.proofs.ItemLemmas.{tree_item, first_tree, after_first, order_drop}
use Rattle.ffc_elab.proofs.TermItemLemmas.{FaultsIn, mapped_at, either_at, item_there, leaf_in, sorted_in, at_tokens, tree_then_end}

-- The faults

named_kind : (k : TokenKind) (b : List ℕ) → is_parenthesis k ≡ true → (elim k as (λ x. Bool) [ kinds.Keyword ↦ bytes_eq b (codes ":named") | _ ↦ false ]) ≡ false
named_kind kinds.Keyword b e = cc
named_kind _ b e = refl

pub named_word_leaf : IsLeafRead (exactly is_named_word)
named_word_leaf = record {
  paren = λ w e. ap (λ b. if b then Sound tt else faulty 5 w) (named_kind w.kind w.bytes e);
  group = λ o items c. refl;
  at = λ P w m. either_at P (is_named_word w) (Sound tt) (faulty 5 w) (All-nil P) (one_fault P 5 w m);
}

abbrev labels : State → Word → List Tree → Read (Unit {0} × (Name × Unit {0}))
labels s closing ts = item closing (exactly is_named_word) (item closing (fresh_read (is_taken s)) last) ts

name_there : (s : State) → FaultsThere (λ closing ts. item closing (fresh_read (is_taken s)) last ts)
name_there s = item_there (fresh_read (is_taken s)) (λ closing ts. last ts) (leaf_in (fresh_read (is_taken s)) (fresh_leaf (is_taken s))) last_there

labels_there : (s : State) → FaultsThere (labels s)
labels_there s = item_there (exactly is_named_word) (λ closing ts. item closing (fresh_read (is_taken s)) last ts) (leaf_in (exactly is_named_word) named_word_leaf) (name_there s)

plain_in : (s : State) → FaultsIn (plain_assertion limits s)
plain_in s P t m = mapped_at P (Assert None) (term_of_sort limits s [] sort.Bool t) (sorted_in s [] sort.Bool P t m)

named_there : (s : State) → FaultsThere (named_assertion limits s)
named_there s P closing ts m i =
    mapped_at P (λ p. Assert (Some (p.1.1.0)) p.0) (item closing (term_of_sort limits s [] sort.Bool) (labels s closing) ts)
    (item_there (term_of_sort limits s [] sort.Bool) (labels s) (sorted_in s [] sort.Bool) (labels_there s) P closing ts m i)

pub assertion_in : (s : State) → FaultsIn (assertion_read limits s)
assertion_in s P (Leaf w) m = plain_in s P (Leaf w) m
assertion_in s P (Group o Empty c) m = plain_in s P (Group o Empty c) m
assertion_in s P (Group o (First (Group q is d) rest) c) m = plain_in s P (Group o (First (Group q is d) rest) c) m
assertion_in s P (Group o (First (Leaf w) rest) c) m =
    either_at P (is_word (codes "!") w) (named_assertion limits s c (items_of rest)) (plain_assertion limits s (Group o (First (Leaf w) rest) c))
    (named_there s P c (items_of rest) m.2 (each_in (MayFail P) rest m.1.1)) (plain_in s P (Group o (First (Leaf w) rest) c) m)

-- Inside a list

abbrev pub after_list : Trees → Word → List Word
after_list ts closing = tokens_of_items ts ++ closing ∷ []

inner_at : (words : List Word) (i : ℕ) (o c closing : Word) (is ts : Trees) → AreItemsAt words i (First (Group o is c) ts) closing [] → AreItemsAt words (suc i) is c (after_list ts closing)
unfolding tokens_of
inner_at words i o c closing is ts at = record {
  text = drop_next words i o (tokens_of_items is ++ c ∷ after_list ts closing)
      (at.text ∙ spelled_first (Group o is c) ts closing [] ∙ ap (λ ws. o ∷ ws) (append_assoc (tokens_of_items is) (c ∷ []) (after_list ts closing)));
  proper = at.proper.0.1;
  closed = at.proper.0.2;
}

pub after_leaf : (words : List Word) (i : ℕ) (w c : Word) (is : Trees) (rest : List Word) → AreItemsAt words i (First (Leaf w) is) c rest → AreItemsAt words (suc i) is c rest
unfolding tokens_of
after_leaf words i w c is rest at = record { text = drop_next words i w (tokens_of_items is ++ c ∷ rest) at.text; proper = at.proper.1; closed = at.closed }

-- `(! T :named N)`, and then the others
pub record IsLabelled (words : List Word) (items : Trees) (closing : Word) : Type 0 where
  pub opening : Word
  pub mark : Word
  pub inside : Trees
  pub close : Word
  pub others : Trees
  pub shape : items ≡ First (Group opening (First (Leaf mark) inside) close) others
  pub whole : AreItemsAt words 2 (First (Group opening (First (Leaf mark) inside) close) others) closing []
  pub marked : is_word (codes "!") mark ≡ true
  pub at : AreItemsAt words 4 inside close (after_list others closing)
  pub proper : AreProper others

word_kind : (k : TokenKind) (b : List ℕ) → is_parenthesis k ≡ true → (is_symbol k && is_reserved_word b) && bytes_eq b (codes "!") ≡ true → ⊥
word_kind kinds.Symbol b e h = cc
word_kind kinds.LeftParen b e h = cc
word_kind kinds.RightParen b e h = cc
word_kind kinds.Quoted b e h = cc
word_kind kinds.Numeral b e h = cc
word_kind kinds.Decimal b e h = cc
word_kind kinds.Keyword b e h = cc
word_kind kinds.Str b e h = cc
word_kind kinds.FieldLiteral b e h = cc

paren_is_no_word : (w : Word) → is_parenthesis w.kind ≡ true → is_word (codes "!") w ≡ true → ⊥
paren_is_no_word w e h = word_kind w.kind w.bytes e h

module _ (words : List Word) (closing : Word) (opens : (word_at words 2).kind ≡ kinds.LeftParen) (bang : is_word (codes "!") (word_at words 3) ≡ true) where
  pub labelled_shape : (items : Trees) → AreItemsAt words 2 items closing [] → IsLabelled words items closing
  labelled_shape Empty at = let q : kinds.RightParen ≡ kinds.LeftParen = sym at.closed ∙ ap (λ w. w.kind) (sym (word_at_items words 2 Empty closing [] at)) ∙ opens in cc
  labelled_shape (First (Leaf w) ts) at =
      let q : is_parenthesis kinds.LeftParen ≡ false = ap is_parenthesis (sym opens) ∙ ap (λ v. is_parenthesis v.kind) (word_at_items words 2 (First (Leaf w) ts) closing [] at) ∙ at.proper.0 in cc
  labelled_shape (First (Group o Empty c) ts) at =
      let inner = inner_at words 2 o c closing Empty ts at in
      let is = word_at_items words 3 Empty c (after_list ts closing) inner in
      absurd (paren_is_no_word c (ap is_parenthesis inner.closed) (ap (is_word (codes "!")) (sym is) ∙ bang))
  labelled_shape (First (Group o (First (Group q is d) rest) c) ts) at =
      let inner = inner_at words 2 o c closing (First (Group q is d) rest) ts at in
      let e = word_at_items words 3 (First (Group q is d) rest) c (after_list ts closing) inner in
      absurd (paren_is_no_word q (ap is_parenthesis inner.proper.0.0) (ap (is_word (codes "!")) (sym e) ∙ bang))
  labelled_shape (First (Group o (First (Leaf w) rest) c) ts) at =
      let inner = inner_at words 2 o c closing (First (Leaf w) rest) ts at in
      record {
        opening = o;
        mark = w;
        inside = rest;
        close = c;
        others = ts;
        shape = refl;
        whole = at;
        marked = ap (is_word (codes "!")) (sym (word_at_items words 3 (First (Leaf w) rest) c (after_list ts closing) inner)) ∙ bang;
        at = after_leaf words 3 w c rest (after_list ts closing) inner;
        proper = at.proper.1;
      }

-- The label

pub ended_kind : (k : TokenKind) (w : Word) (u : Unit {0}) → end_at_kind k w ≡ Ok u → k ≡ kinds.RightParen
ended_kind kinds.RightParen w u e = refl
ended_kind kinds.LeftParen w u e = cc
ended_kind kinds.Symbol w u e = cc
ended_kind kinds.Quoted w u e = cc
ended_kind kinds.Numeral w u e = cc
ended_kind kinds.Decimal w u e = cc
ended_kind kinds.Keyword w u e = cc
ended_kind kinds.Str w u e = cc
ended_kind kinds.FieldLiteral w u e = cc

-- after the end of a list
pub past_end : (words : List Word) (i : ℕ) (items : Trees) (closing : Word) (rest : List Word) (u : Unit {0}) → AreItemsAt words i items closing rest → end_at (word_at words i) ≡ Ok u → drop (suc i) words ≡ rest
unfolding tokens_of
past_end words i Empty closing rest u at e = drop_next words i closing rest at.text
past_end words i (First t ts) closing rest u at e =
    absurd (front_kind t at.proper.0 (ap (λ w. w.kind) (sym (word_at_items words i (First t ts) closing rest at)) ∙ ended_kind (word_at words i).kind (word_at words i) u e))

then_assoc : {A B C : Type 0} (r : Result A Fault) (f : A → Result B Fault) (g : B → Result C Fault) → and_then (and_then r f) g ≡ and_then r (λ a. and_then (f a) g)
then_assoc (Ok a) f g = refl
then_assoc (Err e) f g = refl

then_same : {A B : Type 0} (r : Result A Fault) (f g : A → Result B Fault) → ((a : A) → r ≡ Ok a → f a ≡ g a) → and_then r f ≡ and_then r g
then_same (Ok a) f g h = h a refl
then_same (Err e) f g h = refl

module _ (s : State) (words : List Word) (ts : Trees) (close closing : Word) (proper : AreProper ts) (closed : closing.kind ≡ kinds.RightParen) where
  abbrev Last : Result (Unit {0}) Fault
  Last = outcome (last (items_of ts))

  last_is : (j : ℕ) → drop j words ≡ after_list ts closing → Last ≡ end_at (word_at words j)
  last_is j e = end_outcome words j ts closing [] (record { text = e; proper = proper; closed = closed })

  -- the two ends
  ends_are : {A : Type 0} (j : ℕ) (us : Trees) (a : A) → AreItemsAt words j us close (after_list ts closing)
      → and_then (outcome (last (items_of us))) (λ u. and_then Last (λ v. Ok a)) ≡ and_then (end_at (word_at words j)) (λ u. and_then (end_at (word_at words (suc j))) (λ v. Ok a))
  ends_are j us a at =
      ap (λ r. and_then r (λ u. and_then Last (λ v. Ok a))) (end_outcome words j us close (after_list ts closing) at)
      ∙ then_same (end_at (word_at words j)) (λ u. and_then Last (λ v. Ok a)) (λ u. and_then (end_at (word_at words (suc j))) (λ v. Ok a))
      (λ u e. ap (λ r. and_then r (λ v. Ok a)) (last_is (suc j) (past_end words j us close (after_list ts closing) u at e)))

  name_ends : (j : ℕ) (us : Trees) → AreItemsAt words j us close (after_list ts closing) → AreInOrder (drop j words)
      → and_then (outcome (item close (fresh_read (is_taken s)) last (items_of us))) (λ p. and_then Last (λ v. Ok p.0))
      ≡ and_then (outcome (fresh_read (is_taken s) (Leaf (word_at words j)))) (λ n. and_then (end_at (word_at words (suc j))) (λ u. and_then (end_at (word_at words (suc (suc j)))) (λ v. Ok n)))
  name_ends j us at order =
      let fresh = fresh_read (is_taken s) in
      let r = outcome (fresh (Leaf (word_at words j))) in
      ap (λ q. and_then q (λ p. and_then Last (λ v. Ok p.0))) (leaf_item fresh (λ c vs. last vs) words j us close (after_list ts closing) (fresh_leaf (is_taken s)) last_there at order)
      ∙ then_assoc r (λ n. with_ok n (outcome (last (items_of (later_items us))))) (λ p. and_then Last (λ v. Ok p.0))
      ∙ then_same r _ (λ n. and_then (end_at (word_at words (suc j))) (λ u. and_then (end_at (word_at words (suc (suc j)))) (λ v. Ok n)))
      (λ n e.
      then_assoc (outcome (last (items_of (later_items us)))) (λ b. Ok (n, b)) (λ p. and_then Last (λ v. Ok p.0))
      ∙ ends_are (suc j) (later_items us) n (next_items words j us close (after_list ts closing) at (read_word fresh (word_at words j) n (fresh_leaf (is_taken s)) e)))

  pub label_is : (j : ℕ) (us : Trees) → AreItemsAt words j us close (after_list ts closing) → AreInOrder (drop j words)
      → and_then (outcome (labels s close (items_of us))) (λ p. and_then Last (λ v. Ok (p.1.0))) ≡ label_at (is_taken s) words j
  label_is j us at order =
      let r = outcome (exactly is_named_word (Leaf (word_at words j))) in
      let next : Word → List Tree → Read (Name × Unit {0}) = λ c vs. item c (fresh_read (is_taken s)) last vs in
      ap (λ q. and_then q (λ p. and_then Last (λ v. Ok (p.1.0)))) (leaf_item (exactly is_named_word) next words j us close (after_list ts closing) named_word_leaf (name_there s) at order)
      ∙ then_assoc r (λ a. with_ok a (outcome (next close (items_of (later_items us))))) (λ p. and_then Last (λ v. Ok (p.1.0)))
      ∙ then_same r _ (λ a. and_then (outcome (fresh_read (is_taken s) (Leaf (word_at words (suc j))))) (λ n. and_then (end_at (word_at words (suc (suc j)))) (λ u. and_then (end_at (word_at words (suc (suc (suc j))))) (λ v. Ok n))))
      (λ a e.
      then_assoc (outcome (next close (items_of (later_items us)))) (λ b. Ok (a, b)) (λ p. and_then Last (λ v. Ok (p.1.0)))
      ∙ name_ends (suc j) (later_items us) (next_items words j us close (after_list ts closing) at (read_word (exactly is_named_word) (word_at words j) a named_word_leaf e))
      (next_order words j us close (after_list ts closing) at order))

-- the same names are taken
pub label_same : (test other : Name → Bool) → ((name : Name) → test name ≡ other name) → (words : List Word) (i : ℕ) → label_at test words i ≡ label_at other words i
label_same test other h words i =
    ap (λ r. and_then (outcome (exactly is_named_word (Leaf (word_at words i)))) (λ u. and_then (outcome r) (λ name.
    and_then (end_at (word_at words (suc (suc i)))) (λ u. and_then (end_at (word_at words (suc (suc (suc i))))) (λ u. Ok name))))) (fresh_same test other h (word_at words (suc i)))

abbrev pub Read_as : State → Word → Trees → Read Command
Read_as s closing items = one (assertion_read limits s) closing (items_of items)

-- `(! T :named N)`
module _ (s : State) (words : List Word) (o w c closing : Word) (ts : Trees) (marked : is_word (codes "!") w ≡ true) (proper : AreProper ts) (closed : closing.kind ≡ kinds.RightParen)
    (order : AreInOrder (drop 2 words)) where
  abbrev Form : Trees → Trees
  Form inside = First (Group o (First (Leaf w) inside) c) ts

  abbrev Reader : Tree → Read Term
  Reader = term_of_sort limits s [] sort.Bool

  abbrev After : Result (Unit {0}) Fault
  After = outcome (last (items_of ts))

  abbrev made_of : Term × (Unit {0} × (Name × Unit {0})) → Command
  made_of p = Assert (Some (p.1.1.0)) p.0

  later_order : AreInOrder (drop 4 words)
  later_order = subst AreInOrder (sym (drop_plus 2 2 words)) (order_drop 2 (drop 2 words) order)

  labelled_then : (inside : Trees) → AreItemsAt words 2 (Form inside) closing []
      → outcome (Read_as s closing (Form inside)) ≡ and_then (outcome (item c Reader (labels s c) (items_of inside))) (λ p. and_then After (λ u. Ok (made_of p)))
  labelled_then inside at =
      let g = Group o (First (Leaf w) inside) c in
      let inner = item c Reader (labels s c) (items_of inside) in
      tree_then_end (λ p. p.0) (assertion_read limits s) g ts closing [] (assertion_in s) (subst AreInOrder at.text order)
      ∙ ap (λ b. and_then (outcome (if b then named_assertion limits s c (items_of inside) else plain_assertion limits s g)) (λ a. and_then After (λ u. Ok a))) marked
      ∙ ap (λ r. and_then r (λ a. and_then After (λ u. Ok a))) (outcome_map made_of inner)
      ∙ then_assoc (outcome inner) (λ p. Ok (made_of p)) (λ a. and_then After (λ u. Ok a))

  join : (L : Result (Unit {0} × (Name × Unit {0})) Fault) (e : Result (Unit {0}) Fault) (a : Term)
      → and_then L (λ q. and_then e (λ u. Ok (made_of (a, q)))) ≡ and_then (and_then L (λ q. and_then e (λ u. Ok (q.1.0)))) (λ n. Ok (Assert (Some n) a))
  join (Ok q) (Ok u) a = refl
  join (Ok q) (Err f) a = refl
  join (Err f) e a = refl

  term_then_label : (t : Tree) (us : Trees) → AreItemsAt words 2 (Form (First t us)) closing [] → AreItemsAt words 4 (First t us) c (after_list ts closing)
      → outcome (Read_as s closing (Form (First t us))) ≡ and_then (outcome (Reader t)) (λ a. and_then (label_at (is_taken s) words (4 + length (tokens_of t))) (λ n. Ok (Assert (Some n) a)))
  term_then_label t us whole at =
      let r = outcome (Reader t) in
      let L = outcome (labels s c (items_of us)) in
      let j = 4 + length (tokens_of t) in
      labelled_then (First t us) whole
      ∙ ap (λ q. and_then q (λ p. and_then After (λ u. Ok (made_of p)))) (tree_item Reader (labels s) t us c (after_list ts closing) (at_tokens Reader (sorted_in s [] sort.Bool) t) (labels_there s) (subst AreInOrder at.text later_order))
      ∙ then_assoc r (λ a. with_ok a L) (λ p. and_then After (λ u. Ok (made_of p)))
      ∙ then_same r _ (λ a. and_then (label_at (is_taken s) words j) (λ n. Ok (Assert (Some n) a)))
      (λ a e.
      then_assoc L (λ b. Ok (a, b)) (λ p. and_then After (λ u. Ok (made_of p)))
      ∙ join L After a
      ∙ ap (λ q. and_then q (λ n. Ok (Assert (Some n) a))) (label_is s words ts c closing proper closed j us (after_first words 4 t us c (after_list ts closing) at)
      (subst AreInOrder (sym (drop_plus (length (tokens_of t)) 4 words)) (order_drop (length (tokens_of t)) (drop 4 words) later_order))))

  pub labelled_missing : (inside : Trees) → AreItemsAt words 2 (Form inside) closing [] → AreItemsAt words 4 inside c (after_list ts closing) → (word_at words 4).kind ≡ kinds.RightParen
      → outcome (Read_as s closing (Form inside)) ≡ Err (word_fault 5 (word_at words 4))
  unfolding items_of
  labelled_missing Empty whole at e = labelled_then Empty whole ∙ ap (λ v. Err (word_fault 5 v)) (sym (word_at_items words 4 Empty c (after_list ts closing) at))
  labelled_missing (First t us) whole at e = absurd (front_kind t at.proper.0 (ap (λ v. v.kind) (sym (word_at_items words 4 (First t us) c (after_list ts closing) at)) ∙ e))

  module _ (nodes : List Node) (symbols : Symbols) (n : (word_at words 4).kind ≡ kinds.RightParen → ⊥) where
    abbrev Reads : Result TermRead TakeStop → Type 0
    Reads r = (t : Tree) (more : List Word) → IsTreeAt words 4 t more → ReadsOfSort nodes symbols [] sort.Bool (Reader t) t 4 r

    not_empty : (A : Type 0) → AreItemsAt words 4 Empty c (after_list ts closing) → A
    not_empty A at = absurd (n (ap (λ v. v.kind) (word_at_items words 4 Empty c (after_list ts closing) at) ∙ at.closed))

    pub labelled_stop : (inside : Trees) (e : TakeStop) → AreItemsAt words 2 (Form inside) closing [] → AreItemsAt words 4 inside c (after_list ts closing) → Reads (Err e)
        → ReadsAssertion nodes symbols (Read_as s closing (Form inside)) (Err e)
    labelled_stop inside stop.Memory whole at reads = tt
    labelled_stop Empty (stop.Fault f) whole at reads = not_empty (outcome (Read_as s closing (Form Empty)) ≡ Err (fault_of f)) at
    labelled_stop (First t us) (stop.Fault f) whole at reads =
        term_then_label t us whole at
        ∙ ap (λ r. and_then r (λ a. and_then (label_at (is_taken s) words (4 + length (tokens_of t))) (λ m. Ok (Assert (Some m) a)))) (reads t (tokens_of_items us ++ c ∷ after_list ts closing) (first_tree words 4 t us c (after_list ts closing) at))

    read_then_label : (t : Tree) (us : Trees) (x : TermRead) (it : IsTermOfSort nodes symbols [] sort.Bool (Reader t) t 4 x) → AreItemsAt words 2 (Form (First t us)) closing [] → AreItemsAt words 4 (First t us) c (after_list ts closing)
        → outcome (Read_as s closing (Form (First t us))) ≡ and_then (label_at (is_taken s) words x.next) (λ m. Ok (Assert (Some m) it.term))
    read_then_label t us x it whole at =
        term_then_label t us whole at
        ∙ ap (λ r. and_then (outcome r) (λ a. and_then (label_at (is_taken s) words (4 + length (tokens_of t))) (λ m. Ok (Assert (Some m) a)))) it.sound
        ∙ ap (λ k. and_then (label_at (is_taken s) words k) (λ m. Ok (Assert (Some m) it.term))) (sym it.next)

    pub labelled_wrong : (inside : Trees) (x : TermRead) (f : Fault) → AreItemsAt words 2 (Form inside) closing [] → AreItemsAt words 4 inside c (after_list ts closing) → Reads (Ok x)
        → label_at (is_taken s) words x.next ≡ Err f → outcome (Read_as s closing (Form inside)) ≡ Err f
    labelled_wrong Empty x f whole at reads e = not_empty (outcome (Read_as s closing (Form Empty)) ≡ Err f) at
    labelled_wrong (First t us) x f whole at reads e =
        let it = reads t (tokens_of_items us ++ c ∷ after_list ts closing) (first_tree words 4 t us c (after_list ts closing) at) in
        read_then_label t us x it whole at ∙ ap (λ r. and_then r (λ m. Ok (Assert (Some m) it.term))) e

    pub labelled_read : (inside : Trees) (a : Assertion) (name : Name) → AreItemsAt words 2 (Form inside) closing [] → AreItemsAt words 4 inside c (after_list ts closing) → Reads (Ok a.term)
        → option_map (λ b. b.now) a.name ≡ Some name → label_at (is_taken s) words a.term.next ≡ Ok name → IsAssertion nodes symbols (Read_as s closing (Form inside)) a
    labelled_read Empty a name whole at reads is e = not_empty (IsAssertion nodes symbols (Read_as s closing (Form Empty)) a) at
    labelled_read (First t us) a name whole at reads is e =
        let it = reads t (tokens_of_items us ++ c ∷ after_list ts closing) (first_tree words 4 t us c (after_list ts closing) at) in
        record {
          term = it.term;
          sound = sound_of (Read_as s closing (Form (First t us))) (Assert (option_map (λ b. b.now) a.name) it.term)
              (read_then_label t us a.term it whole at ∙ ap (λ r. and_then r (λ m. Ok (Assert (Some m) it.term))) e ∙ ap (λ o. Ok (Assert o it.term)) (sym is));
          code = it.code;
          weight_is = it.weight_is;
        }

-- No label

fused : (r : Read Term) (q : Read (Unit {0})) → read_map (λ p. p.0) (both (read_map (Assert None) r) q) ≡ read_map (Assert None) (read_map (λ p. p.0) (both r q))
fused (Sound a) (Sound b) = refl
fused (Sound a) (Faulty f fs) = refl
fused (Faulty f fs) (Sound b) = refl
fused (Faulty f fs) (Faulty g gs) = refl

module _ (s : State) (words : List Word) (closing : Word) (n : (word_at words 2).kind ≡ kinds.LeftParen → is_word (codes "!") (word_at words 3) ≡ true → ⊥) where
  no_mark : (t : Tree) (ts : Trees) → AreItemsAt words 2 (First t ts) closing [] → assertion_read limits s t ≡ plain_assertion limits s t
  no_mark (Leaf w) ts at = refl
  no_mark (Group o Empty c) ts at = refl
  no_mark (Group o (First (Group q is d) rest) c) ts at = refl
  no_mark (Group o (First (Leaf w) rest) c) ts at =
      let g = Group o (First (Leaf w) rest) c in
      ap (λ b. if b then named_assertion limits s c (items_of rest) else plain_assertion limits s g) (by_test (is_word (codes "!") w) refl)
    where
      by_test : (b : Bool) → is_word (codes "!") w ≡ b → is_word (codes "!") w ≡ false
      by_test false e = e
      by_test true e =
          absurd (n (ap (λ v. v.kind) (word_at_items words 2 (First (Group o (First (Leaf w) rest) c) ts) closing [] at) ∙ at.proper.0.0)
          (ap (is_word (codes "!")) (word_at_items words 3 (First (Leaf w) rest) c (after_list ts closing) (inner_at words 2 o c closing (First (Leaf w) rest) ts at)) ∙ e))

  pub plain_reads : (items : Trees) → AreItemsAt words 2 items closing []
      → Read_as s closing items ≡ read_map (Assert None) (read_map (λ p. p.0) (item closing (term_of_sort limits s [] sort.Bool) last (items_of items)))
  unfolding items_of
  plain_reads Empty at = refl
  plain_reads (First t ts) at =
      ap (λ r. read_map (λ p. p.0) (both r (last (items_of ts)))) (no_mark t ts at) ∙ fused (term_of_sort limits s [] sort.Bool t) (last (items_of ts))

  module _ (nodes : List Node) (symbols : Symbols) (items : Trees) (at : AreItemsAt words 2 items closing []) where
    abbrev pub Inner : Read Term
    Inner = read_map (λ p. p.0) (item closing (term_of_sort limits s [] sort.Bool) last (items_of items))

    pub plain_stop : (e : TakeStop) → ReadsAsTerm nodes symbols [] Inner (Err e) → ReadsAssertion nodes symbols (Read_as s closing items) (Err e)
    plain_stop stop.Memory h = tt
    plain_stop (stop.Fault f) h = ap outcome (plain_reads items at) ∙ outcome_map (Assert None) Inner ∙ ap (λ r. and_then r (λ a. Ok (Assert None a))) h

    pub plain_read : (a : Assertion) → a.name ≡ None → IsReadTerm nodes symbols [] Inner a.term → IsAssertion nodes symbols (Read_as s closing items) a
    plain_read a e it = record {
      term = it.term;
      sound = plain_reads items at ∙ ap (read_map (Assert None)) it.sound ∙ ap (λ o. Sound (Assert (option_map (λ b. b.now) o) it.term)) (sym e);
      code = it.code;
      weight_is = it.weight_is;
    }

-- Places past those that can be counted have no word, as the last one that can.

beyond : (words : List Word) (i : ℕ) → length words ≤ i → word_at words i ≡ no_word
beyond [] i h = refl
beyond (w ∷ ws) zero h = absurd (omega arith)
beyond (w ∷ ws) (suc i) h = beyond ws i (omega arith)

pub word_capped : (words : List Word) (i n : ℕ) → length words ≤ 2 ^ 64 - 1 → n ≡ min i (2 ^ 64 - 1) → word_at words n ≡ word_at words i
word_capped words i n few e = by_test (nat_lt (2 ^ 64 - 1) i) refl
  where
    by_test : (b : Bool) → nat_lt (2 ^ 64 - 1) i ≡ b → word_at words n ≡ word_at words i
    by_test true h = let far : 2 ^ 64 - 1 < i = grind (arith, nat_tests) in beyond words n (omega (arith, few, e, far)) ∙ sym (beyond words i (omega (arith, few, far)))
    by_test false h = let near : i ≤ 2 ^ 64 - 1 = grind (arith, nat_tests) in let same : n ≡ i = omega (arith, e, near) in ap (word_at words) same
