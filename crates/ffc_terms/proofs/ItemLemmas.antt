-- Items of a list that are read one after another, over words and by their trees.
use Rattle.std.proofs.Common.{◌≡◌, ℕ, ◌+◌, ◌<◌, ◌≤◌, false, List, [], ◌∷◌, ◌++◌, length, drop, Contains, Result, Ok, Err, refl, sym, ap, ◌∙◌, subst, inl, arith, append_assoc}
use Rattle.std.proofs.lemmas.List.{length-append, length-drop}
use Rattle.std.proofs.lemmas.List.Elements.{All-contains, Contains-append_left}
use Rattle.ffc_lex.specs.declared.tokens.TokenKind.{TokenKind}
use Rattle.ffc_lex.specs.declared.tokens.TokenKind.TheVariants as kinds
use Rattle.ffc_smt.specs.Trees.{Word, Tree, Leaf, Group, Trees, Empty, First, tokens_of, tokens_of_items, items_of, front}
use Rattle.ffc_smt.specs.TreeShapes.{is_parenthesis, IsProper, AreProper}
use Rattle.ffc_smt.specs.Faults.{Fault, word_fault, is_before, first_fault, Read, Sound, Faulty, faults, read_map, both, behind, last, item}
use Rattle.ffc_words.specs.Outcomes.{outcome}
use Rattle.ffc_terms.specs.SortSteps.{opens, closes}
use Rattle.ffc_terms.proofs.FirstLemmas.{Each, all_from, each_append, each_weaker, AreInOrder, order_left, order_right, IsAt, at_left, at_right, NoneBefore, none_later, outcome_faulty, first_is}

-- what follows from an outcome
abbrev pub answer : {A X : Type 0} → (Fault → X) → (A → X) → Result A Fault → X
answer err ok (Ok a) = ok a
answer err ok (Err f) = err f

pub answers : {A X : Type 0} (r : Result A Fault) (f g : A → X) (err : Fault → X) → ((a : A) → f a ≡ g a) → answer err f r ≡ answer err g r
answers (Ok a) f g err h = h a
answers (Err e) f g err h = refl

pub each_has : {A : Type 0} (P : A → Type 0) (xs : List A) (x : A) → Each P xs → Contains xs x → P x
each_has P xs x h has = All-contains P xs x (all_from P xs h) has

-- Outcomes of parts

pub outcome_map : {A B : Type 0} (f : A → B) (r : Read A) {X : Type 0} (err : Fault → X) (ok : B → X) → answer err ok (outcome (read_map f r)) ≡ answer err (λ a. ok (f a)) (outcome r)
outcome_map f (Sound a) err ok = refl
outcome_map f (Faulty g gs) err ok = refl

pub outcome_behind : {A B : Type 0} (r : Read A) (next : A → Read B) {X : Type 0} (err : Fault → X) (ok : B → X)
    → answer err ok (outcome (behind r next)) ≡ answer err (λ a. answer err ok (outcome (next a))) (outcome r)
outcome_behind (Sound a) next err ok = refl
outcome_behind (Faulty f fs) next err ok = refl

-- where the faults of the second part are not before the first one's
pub outcome_both : {A B : Type 0} (r : Read A) (q : Read B) {X : Type 0} (err : Fault → X) (ok : A × B → X) → ((g : Fault) → outcome r ≡ Err g → NoneBefore g (faults q))
    → answer err ok (outcome (both r q)) ≡ answer err (λ a. answer err (λ b. ok (a, b)) (outcome q)) (outcome r)
outcome_both (Sound a) (Sound b) err ok h = refl
outcome_both (Sound a) (Faulty f fs) err ok h = refl
outcome_both {A} (Faulty f fs) q err ok h =
    let own = outcome_faulty {A = A} (Faulty f fs) (first_fault f fs) refl in
    let none = h (first_fault f fs) refl in
    ap err (first_is f (fs ++ faults q) (first_fault f fs) (Contains-append_left (f ∷ fs) (faults q) (first_fault f fs) own.0)
    (own.1.0, each_append (λ x. is_before x (first_fault f fs) ≡ false) fs (faults q) own.1.1 none))

-- Words and trees

pub opens_leaf : (k : TokenKind) → is_parenthesis k ≡ false → opens k ≡ false
opens_leaf kinds.LeftParen h = cc
opens_leaf kinds.RightParen h = refl
opens_leaf kinds.Numeral h = refl
opens_leaf kinds.Decimal h = refl
opens_leaf kinds.Symbol h = refl
opens_leaf kinds.Quoted h = refl
opens_leaf kinds.Keyword h = refl
opens_leaf kinds.Str h = refl
opens_leaf kinds.FieldLiteral h = refl

pub closes_leaf : (k : TokenKind) → is_parenthesis k ≡ false → closes k ≡ false
closes_leaf kinds.LeftParen h = refl
closes_leaf kinds.RightParen h = cc
closes_leaf kinds.Numeral h = refl
closes_leaf kinds.Decimal h = refl
closes_leaf kinds.Symbol h = refl
closes_leaf kinds.Quoted h = refl
closes_leaf kinds.Keyword h = refl
closes_leaf kinds.Str h = refl
closes_leaf kinds.FieldLiteral h = refl

-- no tree begins with a right parenthesis
pub closes_front : (t : Tree) → IsProper t → closes (front t).kind ≡ false
closes_front (Leaf w) h = closes_leaf w.kind h
closes_front (Group opening items closing) h = ap closes h.0

-- the words of a tree after the first
abbrev pub others : Tree → List Word
others (Leaf w) = []
others (Group opening items closing) = tokens_of_items items ++ closing ∷ []

pub tokens_front : (t : Tree) → tokens_of t ≡ front t ∷ others t
unfolding tokens_of
tokens_front (Leaf w) = refl
tokens_front (Group opening items closing) = refl

pub at_front : (t : Tree) (f : Fault) → f.line ≡ (front t).line → f.column ≡ (front t).column → IsAt (tokens_of t) f
at_front t f l c = subst (λ ws. IsAt ws f) (sym (tokens_front t)) (inl (l, c))

pub tokens_some : (t : Tree) → 0 < length (tokens_of t)
tokens_some t = let e = ap length (tokens_front t) in omega arith

-- the items and the parenthesis that closes their list
abbrev pub closed : Trees → Word → List Word
closed ts closing = tokens_of_items ts ++ closing ∷ []

abbrev pub FaultsAtTree : {A : Type 0} → (Tree → Read A) → Type 0
FaultsAtTree read = (t : Tree) → Each (IsAt (tokens_of t)) (faults (read t))

abbrev pub FaultsAtItems : {A : Type 0} → Word → (List Tree → Read A) → Type 0
FaultsAtItems closing next = (ts : Trees) → Each (IsAt (closed ts closing)) (faults (next (items_of ts)))

pub last_at : (closing : Word) → FaultsAtItems closing last
unfolding items_of tokens_of tokens_of_items
last_at closing Empty = tt
last_at closing (First t ts) =
    (at_left (tokens_of_items (First t ts)) (closing ∷ []) (word_fault 5 (front t)) (at_left (tokens_of t) (tokens_of_items ts) (word_fault 5 (front t)) (at_front t (word_fault 5 (front t)) refl refl)), tt)

faults_both : {A B : Type 0} (P : Fault → Type 0) (r : Read A) (q : Read B) → Each P (faults r) → Each P (faults q) → Each P (faults (both r q))
faults_both P (Sound a) (Sound b) h g = tt
faults_both P (Sound a) (Faulty f fs) h g = g
faults_both P (Faulty f fs) q h g = (h.0, each_append P fs (faults q) h.1 g)

pub item_at : {A B : Type 0} (closing : Word) (read : Tree → Read A) (next : List Tree → Read B) → FaultsAtTree read → FaultsAtItems closing next
    → FaultsAtItems closing (item closing read next)
unfolding items_of tokens_of_items
item_at closing read next h g Empty = (inl (refl, refl), tt)
item_at closing read next h g (First t ts) =
    faults_both (IsAt (closed (First t ts) closing)) (read t) (next (items_of ts))
    (each_weaker (IsAt (tokens_of t)) (IsAt (closed (First t ts) closing)) (λ f a. at_left (tokens_of_items (First t ts)) (closing ∷ []) f (at_left (tokens_of t) (tokens_of_items ts) f a)) (faults (read t)) (h t))
    (each_weaker (IsAt (closed ts closing)) (IsAt (closed (First t ts) closing))
    (λ f a. subst (λ ws. IsAt ws f) (sym (append_assoc (tokens_of t) (tokens_of_items ts) (closing ∷ []))) (at_right (tokens_of t) (closed ts closing) f a)) (faults (next (items_of ts))) (g ts))

-- a fault of an item is before those of what follows
pub item_first : {A B : Type 0} (closing : Word) (read : Tree → Read A) (next : List Tree → Read B) (t : Tree) (ts : Trees) → FaultsAtTree read → FaultsAtItems closing next
    → AreInOrder (tokens_of t ++ closed ts closing) → (g : Fault) → outcome (read t) ≡ Err g → NoneBefore g (faults (next (items_of ts)))
item_first closing read next t ts h k order g e =
    none_later (tokens_of t) (closed ts closing) g (faults (next (items_of ts))) order (each_has (IsAt (tokens_of t)) (faults (read t)) g (h t) (outcome_faulty (read t) g e).0) (k ts)

-- An item and then others, read by a reader of words: `at` before the item, `then` after it.
pub item_runs : {A B X : Type 0} (at : List Word → X) (then : A → List Word → X) (err : Fault → X) (fin : A × B → X) (closing : Word) (rest : List Word) (read : Tree → Read A) (next : List Tree → Read B)
    → at (closing ∷ rest) ≡ err (word_fault 5 closing)
    → ((t : Tree) (ws : List Word) → IsProper t → AreInOrder (tokens_of t) → at (tokens_of t ++ ws) ≡ answer err (λ a. then a ws) (outcome (read t)))
    → ((a : A) (ts : Trees) → AreProper ts → AreInOrder (closed ts closing) → then a (tokens_of_items ts ++ closing ∷ rest) ≡ answer err (λ b. fin (a, b)) (outcome (next (items_of ts))))
    → FaultsAtTree read → FaultsAtItems closing next
    → (ts : Trees) → AreProper ts → AreInOrder (closed ts closing) → at (tokens_of_items ts ++ closing ∷ rest) ≡ answer err fin (outcome (item closing read next (items_of ts)))
unfolding items_of tokens_of_items
item_runs at then err fin closing rest read next ends tree more at_tree at_next Empty proper order = ends
item_runs at then err fin closing rest read next ends tree more at_tree at_next (First t ts) proper order =
    let split = append_assoc (tokens_of t) (tokens_of_items ts) (closing ∷ []) in
    let ordered = subst AreInOrder split order in
    ap at (append_assoc (tokens_of t) (tokens_of_items ts) (closing ∷ rest))
    ∙ tree t (tokens_of_items ts ++ closing ∷ rest) proper.0 (order_left (tokens_of t) (closed ts closing) ordered)
    ∙ answers (outcome (read t)) (λ a. then a (tokens_of_items ts ++ closing ∷ rest)) (λ a. answer err (λ b. fin (a, b)) (outcome (next (items_of ts)))) err
    (λ a. more a ts proper.1 (order_right (tokens_of t) (closed ts closing) ordered))
    ∙ sym (outcome_both (read t) (next (items_of ts)) err fin (item_first closing read next t ts at_tree at_next ordered))

-- the place after a tree
pub place_after : (words : List Word) (i next : ℕ) (t : Tree) (rest : List Word) → drop i words ≡ tokens_of t ++ rest → drop next words ≡ rest → next ≤ length words → next ≡ i + length (tokens_of t)
place_after words i next t rest from to within =
    let a = sym (length-drop i words) ∙ ap length from ∙ length-append (tokens_of t) rest in
    let b = sym (length-drop next words) ∙ ap length to in
    let c = tokens_some t in
    omega arith
