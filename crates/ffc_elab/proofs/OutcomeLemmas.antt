-- Reading stops at the first fault that it meets from the left.
use Rattle.std.proofs.Common.{◌≡◌, ℕ, zero, suc, ◌+◌, Bool, true, false, List, [], ◌∷◌, ◌++◌, All, length, drop, Result, Ok, Err, refl, sym, ap, ◌∙◌, subst, arith, append_assoc, zero-add}
use Rattle.std.proofs.lemmas.List.{drop_all}
use Rattle.std.proofs.Math.Seq.{drop-append_seam}
use Rattle.std.proofs.lemmas.List.Elements.{All-cons, All-nil, All-head, All-tail, All-weaker, All-contains, Contains-append_left, Contains-append_right}
use Rattle.ffc_lex.specs.declared.tokens.TokenKind.{TokenKind}
use Rattle.ffc_lex.specs.declared.tokens.TokenKind.TheVariants as kinds
use Rattle.ffc_lex.specs.Order.{IsPlaceBefore}
use Rattle.ffc_smt.specs.Trees.{Word, Tree, Leaf, Group, Trees, Empty, First, items_of, front, tokens_of, tokens_of_items}
use Rattle.ffc_smt.specs.TreeShapes.{IsProper, AreProper, is_parenthesis}
use Rattle.ffc_smt.specs.FaultLaws.{IsWordBefore, IsFaultBefore, AreAllBefore}
use Rattle.ffc_smt.specs.Faults.{Fault, word_fault, first_fault, Read, Sound, Faulty, faults, faulty, unless, read_map, both, behind, last, item}
use Rattle.ffc_smt.proofs.FaultLemmas.{first_of_left, first_of_right}
use Rattle.ffc_smt.proofs.PlaceLemmas.{each_from_items}
use Rattle.ffc_smt.proofs.WalkLemmas.{EachToken, EachTokens, EachIn, each_in, MayFail}
use Rattle.ffc_words.specs.Words.{IsTreeAt, AreItemsAt, word_at}
use Rattle.ffc_words.specs.Outcomes.{outcome}
use Rattle.ffc_elab.specs.Reading.{AreInOrder, and_then, later_items, end_at_kind, end_at}

-- Parts one after another

pub outcome_map : {A B : Type 0} (f : A → B) (r : Read A) → outcome (read_map f r) ≡ and_then (outcome r) (λ a. Ok (f a))
outcome_map f (Sound a) = refl
outcome_map f (Faulty g gs) = refl

pub outcome_behind : {A B : Type 0} (r : Read A) (next : A → Read B) → outcome (behind r next) ≡ and_then (outcome r) (λ a. outcome (next a))
outcome_behind (Sound a) next = refl
outcome_behind (Faulty f fs) next = refl

pub outcome_both : {A B : Type 0} (r : Read A) (q : Read B) → AreAllBefore (faults r) (faults q) → outcome (both r q) ≡ and_then (outcome r) (λ a. and_then (outcome q) (λ b. Ok (a, b)))
outcome_both (Sound a) (Sound b) h = refl
outcome_both (Sound a) (Faulty f fs) h = refl
outcome_both (Faulty f fs) q h = ap Err (first_of_left f fs (faults q) h)

-- what is read first is to the left of what else may be wrong
pub outcome_unless_after : {A : Type 0} (fs : List Fault) (r : Read A) → AreAllBefore (faults r) fs → outcome (unless fs r) ≡ and_then (outcome r) (λ a. outcome (unless fs (Sound a)))
outcome_unless_after [] (Sound a) h = refl
outcome_unless_after [] (Faulty g gs) h = refl
outcome_unless_after (f ∷ fs) (Sound a) h = refl
outcome_unless_after (f ∷ fs) (Faulty g gs) h = ap Err (right_of g gs f fs h)
  where
    right_of : (g : Fault) (gs : List Fault) (f : Fault) (fs : List Fault) → AreAllBefore (g ∷ gs) (f ∷ fs) → first_fault f (fs ++ g ∷ gs) ≡ first_fault g gs
    right_of g gs f fs h = first_of_right g f gs fs (All-head (λ x. All (IsFaultBefore x) (f ∷ fs)) g gs h)

pub outcome_unless_before : {A : Type 0} (f : Fault) (fs : List Fault) (r : Read A) → AreAllBefore (f ∷ fs) (faults r) → outcome (unless (f ∷ fs) r) ≡ Err (first_fault f fs)
outcome_unless_before f fs r h = ap Err (first_of_left f fs (faults r) h)

-- Words

pub word_is : (words : List Word) (i : ℕ) (w : Word) (ws : List Word) → drop i words ≡ w ∷ ws → word_at words i ≡ w
word_is [] zero w ws e = cc
word_is [] (suc i) w ws e = cc
word_is (v ∷ vs) zero w ws e = cc
word_is (v ∷ vs) (suc i) w ws e = word_is vs i w ws e

pub drop_next : (words : List Word) (i : ℕ) (w : Word) (ws : List Word) → drop i words ≡ w ∷ ws → drop (suc i) words ≡ ws
drop_next [] zero w ws e = cc
drop_next [] (suc i) w ws e = cc
drop_next (v ∷ vs) zero w ws e = cc
drop_next (v ∷ vs) (suc i) w ws e = drop_next vs i w ws e

pub front_kind : (t : Tree) → IsProper t → (front t).kind ≡ kinds.RightParen → ⊥
front_kind (Leaf w) p e = let q : is_parenthesis kinds.RightParen ≡ false = ap is_parenthesis (sym e) ∙ p in cc
front_kind (Group opening items closing) p e = let q : kinds.LeftParen ≡ kinds.RightParen = sym p.0 ∙ e in cc

abbrev pub tail_of : Tree → List Word
tail_of (Leaf w) = []
tail_of (Group opening items closing) = tokens_of_items items ++ closing ∷ []

pub tokens_front : (t : Tree) → tokens_of t ≡ front t ∷ tail_of t
unfolding tokens_of
tokens_front (Leaf w) = refl
tokens_front (Group opening items closing) = refl

-- the first word of items
abbrev pub first_word : Trees → Word → Word
first_word Empty closing = closing
first_word (First t ts) closing = front t

abbrev pub words_after : Trees → Word → List Word → List Word
words_after Empty closing rest = rest
words_after (First t ts) closing rest = tail_of t ++ (tokens_of_items ts ++ closing ∷ rest)

pub items_front : (items : Trees) (closing : Word) (rest : List Word) → tokens_of_items items ++ closing ∷ rest ≡ first_word items closing ∷ words_after items closing rest
unfolding tokens_of
items_front Empty closing rest = refl
items_front (First t ts) closing rest = append_assoc (tokens_of t) (tokens_of_items ts) (closing ∷ rest) ∙ ap (λ ws. ws ++ (tokens_of_items ts ++ closing ∷ rest)) (tokens_front t)

pub word_at_items : (words : List Word) (i : ℕ) (items : Trees) (closing : Word) (rest : List Word) → AreItemsAt words i items closing rest → word_at words i ≡ first_word items closing
word_at_items words i items closing rest h = word_is words i _ _ (h.text ∙ items_front items closing rest)

-- The end of a list

not_end : (k : TokenKind) (w : Word) → (k ≡ kinds.RightParen → ⊥) → end_at_kind k w ≡ Err (word_fault 5 w)
not_end kinds.RightParen w h = absurd (h refl)
not_end kinds.LeftParen w h = refl
not_end kinds.Numeral w h = refl
not_end kinds.Decimal w h = refl
not_end kinds.Symbol w h = refl
not_end kinds.Quoted w h = refl
not_end kinds.Keyword w h = refl
not_end kinds.Str w h = refl
not_end kinds.FieldLiteral w h = refl

end_by_items : (items : Trees) (closing : Word) → AreProper items → closing.kind ≡ kinds.RightParen → outcome (last (items_of items)) ≡ end_at (first_word items closing)
unfolding items_of
end_by_items Empty closing p c = sym (ap (λ k. end_at_kind k closing) c)
end_by_items (First t ts) closing p c = sym (not_end (front t).kind (front t) (front_kind t p.0))

pub end_outcome : (words : List Word) (i : ℕ) (items : Trees) (closing : Word) (rest : List Word) → AreItemsAt words i items closing rest → outcome (last (items_of items)) ≡ end_at (word_at words i)
end_outcome words i items closing rest h = end_by_items items closing h.proper h.closed ∙ ap end_at (sym (word_at_items words i items closing rest h))

-- Items that are one word

pub record IsLeafRead {A : Type 0} (read : Tree → Read A) : Type 1 where
  pub paren : (w : Word) → is_parenthesis w.kind ≡ true → read (Leaf w) ≡ faulty 5 w
  pub group : (o : Word) (items : Trees) (c : Word) → read (Group o items c) ≡ faulty 5 o
  pub at : (P : Fault → Type 0) (w : Word) → MayFail P w → All P (faults (read (Leaf w)))

-- what is read of these items has its faults at their tokens and at the closing parenthesis
abbrev pub FaultsThere : {A : Type 0} → (Word → List Tree → Read A) → Type 1
FaultsThere next = (P : Fault → Type 0) (closing : Word) (ts : List Tree) → MayFail P closing → EachIn (MayFail P) ts → All P (faults (next closing ts))

abbrev pub IsAfterWord : Word → Fault → Type 0
IsAfterWord w f = IsPlaceBefore w.line w.column f.line f.column

pub all_right : {A : Type 0} (P : A → Type 0) (xs ys : List A) → All P (xs ++ ys) → All P ys
all_right P [] ys h = h
all_right P (x ∷ xs) ys h = all_right P xs ys (All-tail P x (xs ++ ys) h)

pub order_right : (xs ys : List Word) → AreInOrder (xs ++ ys) → AreInOrder ys
order_right [] ys h = h
order_right (x ∷ xs) ys h = order_right xs ys h.1

pub each_of_words : (M : Word → Type 0) (ts : Trees) (closing : Word) (rest : List Word) → All M (tokens_of_items ts ++ closing ∷ rest) → EachTokens M ts × M closing
each_of_words M ts closing rest h = (
  each_from_items M ts (λ w has. All-contains M (tokens_of_items ts ++ closing ∷ rest) w h (Contains-append_left (tokens_of_items ts) (closing ∷ rest) w has)),
  All-contains M (tokens_of_items ts ++ closing ∷ rest) closing h (Contains-append_right (tokens_of_items ts) (closing ∷ rest) closing (0, omega arith, refl)),
)

mutual
  each_may_one : (v : Word) (t : Tree) → EachToken (IsWordBefore v) t → EachToken (MayFail (IsAfterWord v)) t
  each_may_one v (Leaf w) h = λ code. h
  each_may_one v (Group opening items closing) h = (λ code. h.0, each_may v items h.1, λ code. h.2)

  pub each_may : (v : Word) (ts : Trees) → EachTokens (IsWordBefore v) ts → EachTokens (MayFail (IsAfterWord v)) ts
  each_may v Empty h = tt
  each_may v (First t ts) h = (each_may_one v t h.0, each_may v ts h.1)

-- what may be wrong with the items after a word is after it
pub after_each : (v : Word) (ts : Trees) (closing : Word) (rest : List Word) → All (IsWordBefore v) (tokens_of_items ts ++ closing ∷ rest) → EachIn (MayFail (IsAfterWord v)) (items_of ts)
after_each v ts closing rest h = each_in (MayFail (IsAfterWord v)) ts (each_may v ts (each_of_words (IsWordBefore v) ts closing rest h).0)

-- the faults of the items after a word are after it
pub faults_after : {A : Type 0} (next : Word → List Tree → Read A) (v : Word) (ts : Trees) (closing : Word) (rest : List Word) → FaultsThere next
    → All (IsWordBefore v) (tokens_of_items ts ++ closing ∷ rest) → All (IsAfterWord v) (faults (next closing (items_of ts)))
faults_after next v ts closing rest there h =
    let each = each_of_words (IsWordBefore v) ts closing rest h in
    there (IsAfterWord v) closing (items_of ts) (λ code. each.1) (each_in (MayFail (IsAfterWord v)) ts (each_may v ts each.0))

abbrev pub IsAt : Word → Fault → Type 0
IsAt v f = (f.line ≡ v.line) × (f.column ≡ v.column)

before_at : (v : Word) (f g : Fault) → IsAt v f → IsAfterWord v g → IsFaultBefore f g
before_at v f g e h =
    let P : ℕ → Type 0 = λ line. IsPlaceBefore line f.column g.line g.column in
    let Q : ℕ → Type 0 = λ column. IsPlaceBefore v.line column g.line g.column in
    subst P (sym e.0) (subst Q (sym e.1) h)

pub all_at : (v : Word) (gs : List Fault) (fs : List Fault) → All (IsAt v) fs → All (IsAfterWord v) gs → AreAllBefore fs gs
all_at v gs fs h g = All-weaker (IsAt v) (λ f. All (IsFaultBefore f) gs) (λ f e. All-weaker (IsAfterWord v) (IsFaultBefore f) (λ x a. before_at v f x e a) gs g) fs h

abbrev pub with_ok : {A B : Type 0} → A → Result B Fault → Result (A × B) Fault
with_ok a r = and_then r (λ b. Ok (a, b))

-- an item that is one word, and then others
leaf_by_items : {A B : Type 0} (read : Tree → Read A) (next : Word → List Tree → Read B) (items : Trees) (closing : Word) (rest : List Word)
    → IsLeafRead read → FaultsThere next → AreProper items → AreInOrder (tokens_of_items items ++ closing ∷ rest) → closing.kind ≡ kinds.RightParen
    → outcome (item closing read (next closing) (items_of items)) ≡ and_then (outcome (read (Leaf (first_word items closing)))) (λ a. with_ok a (outcome (next closing (items_of (later_items items)))))
unfolding items_of tokens_of
leaf_by_items read next Empty closing rest leaf there p o c =
    ap (λ r. and_then (outcome r) (λ a. with_ok a (outcome (next closing [])))) (sym (leaf.paren closing (ap is_parenthesis c)))
leaf_by_items read next (First (Group opening items last) ts) closing rest leaf there p o c =
    let q = next closing (items_of ts) in
    let same : (tokens_of (Group opening items last) ++ tokens_of_items ts) ++ closing ∷ rest ≡ opening ∷ ((tokens_of_items items ++ last ∷ []) ++ (tokens_of_items ts ++ closing ∷ rest)) =
    append_assoc (tokens_of (Group opening items last)) (tokens_of_items ts) (closing ∷ rest) in
    let order = subst AreInOrder same o in
    let after = faults_after next opening ts closing rest there (all_right (IsWordBefore opening) (tokens_of_items items ++ last ∷ []) (tokens_of_items ts ++ closing ∷ rest) order.0) in
    ap (λ r. outcome (both r q)) (leaf.group opening items last)
    ∙ outcome_both (faulty 5 opening) q (all_at opening (faults q) (word_fault 5 opening ∷ []) (All-cons (IsAt opening) (word_fault 5 opening) [] (refl, refl) (All-nil (IsAt opening))) after)
    ∙ sym (ap (λ r. and_then (outcome r) (λ a. with_ok a (outcome q))) (leaf.paren opening (ap is_parenthesis p.0.0)))
leaf_by_items read next (First (Leaf w) ts) closing rest leaf there p o c =
    let q = next closing (items_of ts) in
    let after = faults_after next w ts closing rest there o.0 in
    outcome_both (read (Leaf w)) q (all_at w (faults q) (faults (read (Leaf w))) (leaf.at (IsAt w) w (λ code. (refl, refl))) after)

pub leaf_item : {A B : Type 0} (read : Tree → Read A) (next : Word → List Tree → Read B) (words : List Word) (i : ℕ) (items : Trees) (closing : Word) (rest : List Word)
    → IsLeafRead read → FaultsThere next → AreItemsAt words i items closing rest → AreInOrder (drop i words)
    → outcome (item closing read (next closing) (items_of items)) ≡ and_then (outcome (read (Leaf (word_at words i)))) (λ a. with_ok a (outcome (next closing (items_of (later_items items)))))
leaf_item read next words i items closing rest leaf there at order =
    leaf_by_items read next items closing rest leaf there at.proper (subst AreInOrder at.text order) at.closed
    ∙ ap (λ w. and_then (outcome (read (Leaf w))) (λ a. with_ok a (outcome (next closing (items_of (later_items items)))))) (sym (word_at_items words i items closing rest at))

later_words : (items : Trees) (closing : Word) (rest : List Word) → AreProper items → closing.kind ≡ kinds.RightParen → is_parenthesis (first_word items closing).kind ≡ false
    → words_after items closing rest ≡ tokens_of_items (later_items items) ++ closing ∷ rest
later_words Empty closing rest p c e = let q : is_parenthesis kinds.RightParen ≡ false = ap is_parenthesis (sym c) ∙ e in cc
later_words (First (Leaf w) ts) closing rest p c e = refl
later_words (First (Group opening items last) ts) closing rest p c e = let q : is_parenthesis kinds.LeftParen ≡ false = ap is_parenthesis (sym p.0.0) ∙ e in cc

later_proper : (items : Trees) → AreProper items → AreProper (later_items items)
later_proper Empty p = tt
later_proper (First t ts) p = p.1

-- the items after one that is one word
pub next_items : (words : List Word) (i : ℕ) (items : Trees) (closing : Word) (rest : List Word) → AreItemsAt words i items closing rest → is_parenthesis (word_at words i).kind ≡ false
    → AreItemsAt words (suc i) (later_items items) closing rest
next_items words i items closing rest at e =
    let is = word_at_items words i items closing rest at in
    record {
      text = drop_next words i (first_word items closing) (words_after items closing rest) (at.text ∙ items_front items closing rest)
          ∙ later_words items closing rest at.proper at.closed (ap (λ w. is_parenthesis w.kind) (sym is) ∙ e);
      proper = later_proper items at.proper;
      closed = at.closed;
    }

pub next_order : (words : List Word) (i : ℕ) (items : Trees) (closing : Word) (rest : List Word) → AreItemsAt words i items closing rest → AreInOrder (drop i words) → AreInOrder (drop (suc i) words)
next_order words i items closing rest at o =
    let e = at.text ∙ items_front items closing rest in
    subst AreInOrder (sym (drop_next words i (first_word items closing) (words_after items closing rest) e)) (subst AreInOrder e o).1

-- a word that is read isn't a parenthesis
pub read_word : {A : Type 0} (read : Tree → Read A) (w : Word) (a : A) → IsLeafRead read → outcome (read (Leaf w)) ≡ Ok a → is_parenthesis w.kind ≡ false
read_word read w a leaf e = by_test (is_parenthesis w.kind) refl
  where
    by_test : (b : Bool) → is_parenthesis w.kind ≡ b → b ≡ false
    by_test false is = refl
    by_test true is = let q = ap outcome (leaf.paren w is) in cc

-- after an item, if there is one

pub none_there : (words : List Word) (i : ℕ) (items : Trees) (closing : Word) (rest : List Word) → AreItemsAt words i items closing rest → (word_at words i).kind ≡ kinds.RightParen
    → AreItemsAt words i (later_items items) closing rest
none_there words i Empty closing rest at e = at
none_there words i (First t ts) closing rest at e =
    absurd (front_kind t at.proper.0 (ap (λ w. w.kind) (sym (word_at_items words i (First t ts) closing rest at)) ∙ e))

pub drop_plus : {A : Type 0} (n i : ℕ) (words : List A) → drop (i + n) words ≡ drop n (drop i words)
drop_plus n zero words = ap (λ k. drop k words) (zero-add n)
drop_plus n (suc i) [] = drop_all (suc i + n) [] (omega arith) ∙ sym (drop_all n [] (omega arith))
drop_plus n (suc i) (x ∷ xs) = let e : suc i + n ≡ suc (i + n) = omega arith in ap (λ k. drop k (x ∷ xs)) e ∙ drop_plus n i xs

pub after_tree : (t : Tree) (ws : List Word) → drop (length (tokens_of t)) (tokens_of t ++ ws) ≡ ws
after_tree t ws = drop-append_seam (tokens_of t) ws

pub spelled_first : (t : Tree) (ts : Trees) (closing : Word) (rest : List Word) → tokens_of_items (First t ts) ++ closing ∷ rest ≡ tokens_of t ++ (tokens_of_items ts ++ closing ∷ rest)
unfolding tokens_of
spelled_first t ts closing rest = append_assoc (tokens_of t) (tokens_of_items ts) (closing ∷ rest)

pub one_there : (words : List Word) (i j : ℕ) (items : Trees) (closing : Word) (rest : List Word) → AreItemsAt words i items closing rest → ((word_at words i).kind ≡ kinds.RightParen → ⊥)
    → ((tree : Tree) (more : List Word) → IsTreeAt words i tree more → j ≡ i + length (tokens_of tree)) → AreItemsAt words j (later_items items) closing rest
one_there words i j Empty closing rest at e skip = absurd (e (ap (λ w. w.kind) (word_at_items words i Empty closing rest at) ∙ at.closed))
one_there words i j (First t ts) closing rest at e skip =
    let text : drop i words ≡ tokens_of t ++ (tokens_of_items ts ++ closing ∷ rest) = at.text ∙ spelled_first t ts closing rest in
    let long = skip t (tokens_of_items ts ++ closing ∷ rest) (record { text = text; proper = at.proper.0 }) in
    record {
      text = ap (λ n. drop n words) long ∙ drop_plus (length (tokens_of t)) i words ∙ ap (drop (length (tokens_of t))) text ∙ after_tree t (tokens_of_items ts ++ closing ∷ rest);
      proper = at.proper.1;
      closed = at.closed;
    }
