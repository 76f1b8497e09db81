-- Terms that are asked for and assumptions, one at a time.
use Rattle.std.proofs.Common.{◌≡◌, ℕ, zero, suc, ◌+◌, ◌-◌, ◌^◌, ◌≤◌, min, Bool, true, false, List, [], ◌∷◌, ◌++◌, length, drop, codes, Option, Some, None, Result, Ok, Err, if◌then◌else◌, refl, sym, ap, ◌∙◌, subst, arith, append-nil}
use Rattle.ffc_lex.specs.declared.tokens.TokenKind.{TokenKind}
use Rattle.ffc_lex.specs.declared.tokens.TokenKind.TheVariants as kinds
use Rattle.ffc_term.specs.declared.node.Node.{Node}
use Rattle.ffc_term.specs.declared.node.Sort.TheVariants as sort
use Rattle.ffc_smt.specs.Trees.{Word, Tree, Leaf, Group, Trees, Empty, First, items_of, tokens_of, tokens_of_items, name_by_kind, name_of}
use Rattle.ffc_smt.specs.TreeShapes.{AreProper, is_parenthesis}
use Rattle.ffc_smt.specs.Terms.{Name, Asked, Term, weight}
use Rattle.ffc_smt.specs.Faults.{Read, faulty, read_map, behind, word_fault}
use Rattle.ffc_smt.specs.Scopes.{State, scope_of}
use Rattle.ffc_smt.specs.TermReading.{Sorted, is_named, leaf_by_kind, term_named, term_read}
use Rattle.ffc_smt.specs.CommandReading.{limits, of_sort, term_of_sort, asked_read, negated, assumed, assumption_of, assumption_read, assumption_asked}
use Rattle.ffc_parts.specs.declared.operators.Operator.TheVariants as operator
use Rattle.ffc_words.specs.declared.faults.TakeStop.{TakeStop}
use Rattle.ffc_words.specs.declared.faults.TakeStop.TheVariants as stop
use Rattle.ffc_words.specs.Outcomes.{outcome}
use Rattle.ffc_words.specs.Words.{IsTreeAt, AreItemsAt, word_at}
use Rattle.ffc_terms.specs.declared.codes.Op.{Op}
use Rattle.ffc_terms.specs.declared.codes.Op.TheVariants as op
use Rattle.ffc_terms.specs.declared.scope.Symbols.{Symbols}
use Rattle.ffc_terms.specs.declared.terms.TermRead.{TermRead}
use Rattle.ffc_terms.specs.Codes.{IsCode, capped_weight}
use Rattle.ffc_terms.specs.TermAnswers.{ReadsTerm}
use Rattle.ffc_elab.specs.declared.asked_terms.AskedTerm.{AskedTerm}
use Rattle.ffc_elab.specs.Reading.{and_then}
use Rattle.ffc_elab.specs.SortedTerms.{ReadsOfSort}
use Rattle.ffc_elab.specs.Asked.{IsAskedAt, ReadsAsked, IsNegation, Negates}
use Rattle.ffc_elab.proofs.OutcomeLemmas.{word_is, drop_next, front_kind, word_at_items, outcome_map, spelled_first, tokens_front, tail_of}

-- A term of any sort

module _ (nodes : List Node) (symbols : Symbols) (words : List Word) (s : State) (tree : Tree) (rest : List Word) (at : ℕ) (there : IsTreeAt words at tree rest) where
  abbrev read : Read Sorted
  read = term_read 65536 (scope_of s) [] tree

  pub value_stops : (e : TakeStop) → ReadsTerm nodes symbols [] read tree at (Err e) → ReadsAsked nodes symbols words (asked_read limits s tree) tree at (Err e)
  value_stops (stop.Fault f) h = outcome_map (λ x. record { tree = tree; term = x.term }) read ∙ ap (λ r. and_then r (λ x. Ok (record { tree = tree; term = x.term }))) h
  value_stops stop.Memory h = tt

  pub value_reads : (t : TermRead) (new : AskedTerm) → ReadsTerm nodes symbols [] read tree at (Ok t) → new ≡ record { code = t.code; weight = t.weight; at = at; next = t.next }
      → IsAskedAt nodes symbols words (asked_read limits s tree) tree at new
  value_reads t new h e =
      subst (λ (v : AskedTerm). IsAskedAt nodes symbols words (asked_read limits s tree) tree at v) (sym e)
      (record {
        asked = record { tree = tree; term = h.term.term };
        sound = ap (read_map (λ x. record { tree = tree; term = x.term })) h.sound;
        tree_is = refl;
        place = refl;
        term = record { code = h.code; weight_is = h.weight_is; rest = rest; written = there; next = h.next };
      })

-- A name

named_alone : (s : State) (w : Word) (name : Name) → name_of w ≡ Some name → leaf_by_kind (scope_of s) [] w.kind w ≡ term_named (scope_of s) [] w name
named_alone s w name e = by_kind w.kind refl
  where
    next : Option Name → Read Sorted
    next o = elim o [ None ↦ faulty 5 w | Some n ↦ term_named (scope_of s) [] w n ]

    by_kind : (k : TokenKind) → w.kind ≡ k → leaf_by_kind (scope_of s) [] k w ≡ term_named (scope_of s) [] w name
    by_kind kinds.FieldLiteral is = let none : None ≡ Some name = sym (ap (λ k. name_by_kind k w.bytes) is) ∙ e in cc
    by_kind kinds.LeftParen is = ap next e
    by_kind kinds.RightParen is = ap next e
    by_kind kinds.Numeral is = ap next e
    by_kind kinds.Decimal is = ap next e
    by_kind kinds.Symbol is = ap next e
    by_kind kinds.Quoted is = ap next e
    by_kind kinds.Keyword is = ap next e
    by_kind kinds.Str is = ap next e

pub leaf_word : (words : List Word) (at : ℕ) (w : Word) (rest : List Word) → IsTreeAt words at (Leaf w) rest → word_at words at ≡ w
unfolding tokens_of
leaf_word words at w rest h = word_is words at w rest h.text

pub name_reads : (s : State) (opening w : Word) (name : Name) → name_of w ≡ Some name → term_of_sort limits s [] sort.Bool (Leaf w) ≡ assumed s opening w (name_of w)
unfolding term_read
name_reads s opening w name e = ap (λ r. behind r (of_sort sort.Bool w)) (named_alone s w name e) ∙ ap (assumed s opening w) (sym e)

pub no_name_reads : (s : State) (opening w : Word) → name_of w ≡ None → outcome (assumed s opening w (name_of w)) ≡ Err (word_fault 5 opening)
no_name_reads s opening w e = ap (λ o. outcome (assumed s opening w o)) e

-- An assumption that is a name

module _ (nodes : List Node) (symbols : Symbols) (words : List Word) (s : State) (w : Word) (rest : List Word) (at : ℕ) (there : IsTreeAt words at (Leaf w) rest) where
  abbrev name_read : Read Term
  name_read = assumed s w w (name_of w)

  pub name_stops : (e : TakeStop) → ReadsOfSort nodes symbols [] sort.Bool name_read (Leaf w) at (Err e) → ReadsAsked nodes symbols words (assumption_asked s (Leaf w)) (Leaf w) at (Err e)
  name_stops (stop.Fault f) h = outcome_map (λ x. record { tree = Leaf w; term = x }) name_read ∙ ap (λ r. and_then r (λ x. Ok (record { tree = Leaf w; term = x }))) h
  name_stops stop.Memory h = tt

  pub name_is : (t : TermRead) (new : AskedTerm) → ReadsOfSort nodes symbols [] sort.Bool name_read (Leaf w) at (Ok t) → new ≡ record { code = t.code; weight = t.weight; at = at; next = t.next }
      → IsAskedAt nodes symbols words (assumption_asked s (Leaf w)) (Leaf w) at new
  name_is t new h e =
      subst (λ (v : AskedTerm). IsAskedAt nodes symbols words (assumption_asked s (Leaf w)) (Leaf w) at v) (sym e)
      (record {
        asked = record { tree = Leaf w; term = h.term };
        sound = ap (read_map (λ x. record { tree = Leaf w; term = x })) h.sound;
        tree_is = refl;
        place = refl;
        term = record { code = h.code; weight_is = h.weight_is; rest = rest; written = there; next = h.next };
      })

-- Items in parentheses

pub inside : (words : List Word) (at : ℕ) (opening closing : Word) (items : Trees) (rest : List Word) → IsTreeAt words at (Group opening items closing) rest → AreItemsAt words (suc at) items closing rest
unfolding tokens_of
inside words at opening closing items rest h = record {
  text = drop_next words at opening (tokens_of_items items ++ closing ∷ rest)
      (h.text ∙ ap (λ ws. opening ∷ ws) (Rattle.std.proofs.Common.append_assoc (tokens_of_items items) (closing ∷ []) rest));
  proper = h.proper.1;
  closed = h.proper.2;
}

pub group_word : (words : List Word) (at : ℕ) (opening closing : Word) (items : Trees) (rest : List Word) → IsTreeAt words at (Group opening items closing) rest → word_at words at ≡ opening
unfolding tokens_of
group_word words at opening closing items rest h = word_is words at opening _ h.text

kind_no_name : (w : Word) (k : TokenKind) → w.kind ≡ k → is_parenthesis k ≡ true → is_named (codes "not") w ≡ false
kind_no_name w kinds.LeftParen e p = ap (λ k. elim (name_by_kind k w.bytes) [ None ↦ false | Some n ↦ Rattle.std.specs.Str.bytes_eq n (codes "not") ]) e
kind_no_name w kinds.RightParen e p = ap (λ k. elim (name_by_kind k w.bytes) [ None ↦ false | Some n ↦ Rattle.std.specs.Str.bytes_eq n (codes "not") ]) e
kind_no_name w kinds.Numeral e p = cc
kind_no_name w kinds.Decimal e p = cc
kind_no_name w kinds.Symbol e p = cc
kind_no_name w kinds.Quoted e p = cc
kind_no_name w kinds.Keyword e p = cc
kind_no_name w kinds.Str e p = cc
kind_no_name w kinds.FieldLiteral e p = cc

-- `(not name)`

other_shapes : (items : Trees) → ((head w : Word) → items ≡ First (Leaf head) (First (Leaf w) Empty) → (s : State) (opening : Word) → assumption_of s opening (Leaf head ∷ Leaf w ∷ []) ≡ faulty 5 opening)
    → IsNegation items false
unfolding items_of
other_shapes Empty h = λ s opening. refl
other_shapes (First (Group o is c) ts) h = λ s opening. refl
other_shapes (First (Leaf head) Empty) h = λ s opening. refl
other_shapes (First (Leaf head) (First (Group o is c) ts)) h = λ s opening. refl
other_shapes (First (Leaf head) (First (Leaf w) Empty)) h = h head w refl
other_shapes (First (Leaf head) (First (Leaf w) (First t ts))) h = λ s opening. refl

module _ (words : List Word) (at : ℕ) (opening closing : Word) (items : Trees) (rest : List Word) (there : IsTreeAt words at (Group opening items closing) rest) where
  four_words : (head w : Word) → items ≡ First (Leaf head) (First (Leaf w) Empty) → drop at words ≡ opening ∷ head ∷ w ∷ closing ∷ rest
  unfolding tokens_of
  four_words head w e = there.text ∙ ap (λ ts. tokens_of (Group opening ts closing) ++ rest) e

  nth : (n : ℕ) (w : Word) (ws : List Word) → drop n (drop at words) ≡ w ∷ ws → word_at words (at + n) ≡ w
  nth n w ws e = word_is words (at + n) w ws (Rattle.ffc_elab.proofs.OutcomeLemmas.drop_plus n at words ∙ e)

  two_leaves : (head w : Word) → items ≡ First (Leaf head) (First (Leaf w) Empty) → (is_parenthesis head.kind ≡ false) × (is_parenthesis w.kind ≡ false)
  two_leaves head w e = let p : AreProper (First (Leaf head) (First (Leaf w) Empty)) = subst AreProper e there.proper.1 in (p.0, p.1.0)

  pub too_short : length words - at ≤ 3 → IsNegation items false
  too_short short = other_shapes items (λ head w e.
      let long : length (drop at words) ≡ suc (suc (suc (suc (length rest)))) = ap length (four_words head w e) in
      absurd (omega (arith, long, short, Rattle.std.proofs.Common.length-drop at words)))

  pub not_named : is_named (codes "not") (word_at words (at + 1)) ≡ false → IsNegation items false
  not_named unnamed = other_shapes items (λ head w e s opening.
      let is = nth 1 head (w ∷ closing ∷ rest) (ap (drop 1) (four_words head w e)) in
      let n : is_named (codes "not") head ≡ false = ap (is_named (codes "not")) (sym is) ∙ unnamed in
      ap (λ b. if b then read_map negated (assumed s opening w (name_of w)) else faulty 5 opening) n)

  pub second_wrong : is_parenthesis (word_at words (at + 2)).kind ≡ true → IsNegation items false
  second_wrong p = other_shapes items (λ head w e s opening.
      let is = nth 2 w (closing ∷ rest) (ap (drop 2) (four_words head w e)) in
      let q : true ≡ false = sym p ∙ ap (λ v. is_parenthesis v.kind) is ∙ (two_leaves head w e).1 in cc)

  pub end_wrong : ((word_at words (at + 3)).kind ≡ kinds.RightParen → ⊥) → IsNegation items false
  end_wrong open_yet = other_shapes items (λ head w e s opening.
      let is = nth 3 closing rest (ap (drop 3) (four_words head w e)) in absurd (open_yet (ap (λ v. v.kind) is ∙ there.proper.2)))

  first_item : AreItemsAt words (at + 1) items closing rest
  first_item = let e : suc at ≡ at + 1 = omega arith in subst (λ i. AreItemsAt words i items closing rest) e (inside words at opening closing items rest there)

after_leaf : (words : List Word) (i : ℕ) (w : Word) (ts : Trees) (closing : Word) (rest : List Word) → AreItemsAt words i (First (Leaf w) ts) closing rest → AreItemsAt words (i + 1) ts closing rest
unfolding tokens_of
after_leaf words i w ts closing rest h =
    let e : suc i ≡ i + 1 = omega arith in
    subst (λ j. AreItemsAt words j ts closing rest) e (record { text = drop_next words i w (tokens_of_items ts ++ closing ∷ rest) h.text; proper = h.proper.1; closed = h.closed })

is_negation : (words : List Word) (at : ℕ) (closing : Word) (items : Trees) (rest : List Word) → AreItemsAt words (at + 1) items closing rest → is_named (codes "not") (word_at words (at + 1)) ≡ true
    → is_parenthesis (word_at words (at + 2)).kind ≡ false → (word_at words (at + 3)).kind ≡ kinds.RightParen → IsNegation items true
is_negation words at closing Empty rest h named second last =
    let is = word_at_items words (at + 1) Empty closing rest h in
    let unnamed : is_named (codes "not") closing ≡ false = kind_no_name closing kinds.RightParen h.closed refl in
    let q : true ≡ false = sym named ∙ ap (is_named (codes "not")) is ∙ unnamed in cc
is_negation words at closing (First (Group o is c) ts) rest h named second last =
    let e = word_at_items words (at + 1) (First (Group o is c) ts) closing rest h in
    let unnamed : is_named (codes "not") o ≡ false = kind_no_name o kinds.LeftParen h.proper.0.0 refl in
    let q : true ≡ false = sym named ∙ ap (is_named (codes "not")) e ∙ unnamed in cc
is_negation words at closing (First (Leaf head) Empty) rest h named second last =
    let here : (at + 1) + 1 ≡ at + 2 = omega arith in
    let e = word_at_items words (at + 2) Empty closing rest (subst (λ i. AreItemsAt words i Empty closing rest) here (after_leaf words (at + 1) head Empty closing rest h)) in
    let q : true ≡ false = sym (ap is_parenthesis h.closed) ∙ ap (λ v. is_parenthesis v.kind) (sym e) ∙ second in cc
is_negation words at closing (First (Leaf head) (First (Group o is c) ts)) rest h named second last =
    let here : (at + 1) + 1 ≡ at + 2 = omega arith in
    let items = First (Group o is c) ts in
    let e = word_at_items words (at + 2) items closing rest (subst (λ i. AreItemsAt words i items closing rest) here (after_leaf words (at + 1) head items closing rest h)) in
    let q : true ≡ false = sym (ap is_parenthesis h.proper.1.0.0) ∙ ap (λ v. is_parenthesis v.kind) (sym e) ∙ second in cc
is_negation words at closing (First (Leaf head) (First (Leaf w) (First t ts))) rest h named second last =
    let there : (at + 1 + 1) + 1 ≡ at + 3 = omega arith in
    let two = after_leaf words (at + 1) head (First (Leaf w) (First t ts)) closing rest h in
    let three = subst (λ i. AreItemsAt words i (First t ts) closing rest) there (after_leaf words (at + 1 + 1) w (First t ts) closing rest two) in
    absurd (front_kind t h.proper.1.1.0 (ap (λ v. v.kind) (sym (word_at_items words (at + 3) (First t ts) closing rest three)) ∙ last))
is_negation words at closing (First (Leaf head) (First (Leaf w) Empty)) rest h named second last =
    (head, w, refl, ap (is_named (codes "not")) (sym (word_at_items words (at + 1) (First (Leaf head) (First (Leaf w) Empty)) closing rest h)) ∙ named)

pub is_one : (words : List Word) (at : ℕ) (opening closing : Word) (items : Trees) (rest : List Word) → IsTreeAt words at (Group opening items closing) rest → is_named (codes "not") (word_at words (at + 1)) ≡ true
    → is_parenthesis (word_at words (at + 2)).kind ≡ false → (word_at words (at + 3)).kind ≡ kinds.RightParen → IsNegation items true
is_one words at opening closing items rest there named second last = is_negation words at closing items rest (first_item words at opening closing items rest there) named second last

pub no_parenthesis : (k : TokenKind) → (k ≡ kinds.LeftParen → ⊥) → (k ≡ kinds.RightParen → ⊥) → is_parenthesis k ≡ false
no_parenthesis kinds.LeftParen h g = absurd (h refl)
no_parenthesis kinds.RightParen h g = absurd (g refl)
no_parenthesis kinds.Numeral h g = refl
no_parenthesis kinds.Decimal h g = refl
no_parenthesis kinds.Symbol h g = refl
no_parenthesis kinds.Quoted h g = refl
no_parenthesis kinds.Keyword h g = refl
no_parenthesis kinds.Str h g = refl
no_parenthesis kinds.FieldLiteral h g = refl

module _ (nodes : List Node) (symbols : Symbols) (words : List Word) (s : State) (opening closing : Word) (items : Trees) (rest : List Word) (at : ℕ) (there : IsTreeAt words at (Group opening items closing) rest) where
  abbrev tree : Tree
  tree = Group opening items closing

  abbrev asked_so : Term → Asked
  asked_so x = record { tree = tree; term = x }

  -- other items
  pub no_negation : IsNegation items false → outcome (assumption_asked s tree) ≡ Err (word_fault 5 (word_at words at))
  no_negation other = ap (λ r. outcome (read_map asked_so r)) (other s opening) ∙ ap (λ w. Err (word_fault 5 w)) (sym (group_word words at opening closing items rest there))

  module _ (is : IsNegation items true) where
    abbrev head : Word
    head = is.0

    abbrev name : Word
    name = is.1

    abbrev inner : Read Term
    inner = assumed s (word_at words at) name (name_of name)

    pub name_there : IsTreeAt words (at + 2) (Leaf name) (closing ∷ rest)
    unfolding tokens_of
    name_there = record {
      text = Rattle.ffc_elab.proofs.OutcomeLemmas.drop_plus 2 at words ∙ ap (drop 2) (four_words words at opening closing items rest there head name is.2);
      proper = (two_leaves words at opening closing items rest there head name is.2).1;
    }

    reads_so : assumption_read s tree ≡ read_map negated inner
    unfolding items_of
    reads_so =
        ap (λ ts. assumption_of s opening (items_of ts)) is.2
        ∙ ap (λ b. if b then read_map negated (assumed s opening name (name_of name)) else faulty 5 opening) is.3
        ∙ ap (λ w. read_map negated (assumed s w name (name_of name))) (sym (group_word words at opening closing items rest there))

    pub negation_stops : (e : TakeStop) → ReadsOfSort nodes symbols [] sort.Bool inner (Leaf name) (at + 2) (Err e) → ReadsAsked nodes symbols words (assumption_asked s tree) tree at (Err e)
    negation_stops (stop.Fault f) h =
        ap (λ r. outcome (read_map asked_so r)) reads_so ∙ outcome_map asked_so (read_map negated inner) ∙ ap (λ r. and_then r (λ x. Ok (asked_so x))) (outcome_map negated inner ∙ ap (λ r. and_then r (λ x. Ok (negated x))) h)
    negation_stops stop.Memory h = tt

    long : length (tokens_of tree) ≡ 4
    unfolding tokens_of
    long = ap (λ ts. length (tokens_of (Group opening ts closing))) is.2

    heavier : (t : Term) (w v : ℕ) → w ≡ capped_weight (weight t) → v ≡ min (w + 1) (2 ^ 32 - 1) → v ≡ capped_weight (weight (negated t))
    unfolding weight
    heavier t w v e f = omega (arith, e, f)

    negated_code : (t : Term) (old new : List Op) → IsCode nodes symbols.terms [] t old → new ≡ old ++ op.Apply operator.Not 1 ∷ [] → IsCode nodes symbols.terms [] (negated t) new
    negated_code t old new h e = (old, 1, operator.Not, (old, [], 0, h, (refl, refl), refl, sym (append-nil old)), refl, e)

    pub negation_reads : (t : TermRead) (new : AskedTerm) → ReadsOfSort nodes symbols [] sort.Bool inner (Leaf name) (at + 2) (Ok t) → Negates t at (at + 4) new → IsAskedAt nodes symbols words (assumption_asked s tree) tree at new
    negation_reads t new h e = record {
      asked = asked_so (negated h.term);
      sound = ap (read_map asked_so) (reads_so ∙ ap (read_map negated) h.sound);
      tree_is = refl;
      place = e.at_is;
      term = record {
        code = negated_code h.term t.code.items new.code.items h.code e.code;
        weight_is = heavier h.term t.weight new.weight h.weight_is e.weight_is;
        rest = rest;
        written = subst (λ i. IsTreeAt words i tree rest) (sym e.at_is) there;
        next = let count = long in omega (arith, count, e.next_is, e.at_is);
      };
    }
