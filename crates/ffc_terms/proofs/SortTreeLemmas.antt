-- A sort word by word is the sort of its tree.
use Rattle.std.proofs.Common.{◌≡◌, ℕ, ◌&&◌, Bool, true, false, List, [], ◌∷◌, ◌++◌, if◌then◌else◌, drop, codes, Option, Some, None, Result, Ok, Err, refl, sym, ap, ◌∙◌, subst, inl, append_assoc}
use Rattle.std.specs.Str.{bytes_eq}
use Rattle.ffc_lex.specs.declared.tokens.TokenKind.{TokenKind}
use Rattle.ffc_lex.specs.declared.tokens.TokenKind.TheVariants as kinds
use Rattle.ffc_lex.specs.Names.{is_reserved_word}
use Rattle.ffc_term.specs.declared.node.Sort.{Sort}
use Rattle.ffc_term.specs.declared.node.Sort.TheVariants as sort
use Rattle.ffc_smt.specs.Trees.{Word, Tree, Leaf, Group, Trees, Empty, First, tokens_of, tokens_of_items, items_of, front, is_symbol, name_by_kind, name_of}
use Rattle.ffc_smt.specs.TreeShapes.{IsProper, AreProper}
use Rattle.ffc_smt.specs.Meaning.{Env, found}
use Rattle.ffc_smt.specs.Numbers.{number_of, is_order}
use Rattle.ffc_smt.specs.Terms.{Name}
use Rattle.ffc_smt.specs.Faults.{Fault, word_fault, Read, Sound, faults, faulty, last, item}
use Rattle.ffc_smt.specs.TermReading.{is_numeral, is_named, is_word, exactly, order_read, named_sort, sort_read}
use Rattle.ffc_words.specs.Outcomes.{outcome}
use Rattle.ffc_words.specs.Words.{IsTreeAt, fault_of}
use Rattle.ffc_lex.specs.declared.faults.ScriptFault.{ScriptFault}
use Rattle.ffc_terms.specs.Answers.{answered}
use Rattle.ffc_terms.specs.declared.sorts.SortStage.{SortStage}
use Rattle.ffc_terms.specs.declared.sorts.SortStage.TheVariants as stage
use Rattle.ffc_terms.specs.declared.sorts.SortStep.{SortStep}
use Rattle.ffc_terms.specs.declared.sorts.SortStep.TheVariants as then
use Rattle.ffc_terms.specs.SortSteps as steps
use Rattle.ffc_terms.proofs.FirstLemmas.{Each, AreInOrder, order_left, order_drop, IsAt}
use Rattle.ffc_terms.proofs.ItemLemmas.{answer, outcome_map, opens_leaf, closes_front, tokens_front, others, closed, last_at, item_at, item_runs, place_after, FaultsAtTree}

-- Names that are no parentheses

pub is_word_paren : (word : List ℕ) (w : Word) (k : TokenKind) → w.kind ≡ k → is_symbol k ≡ false → is_word word w ≡ false
is_word_paren word w k e n = ap (λ b. (b && is_reserved_word w.bytes) && bytes_eq w.bytes word) (ap is_symbol e ∙ n)

pub name_left : (w : Word) → w.kind ≡ kinds.LeftParen → name_of w ≡ None
name_left w e = ap (λ k. name_by_kind k w.bytes) e

pub name_right : (w : Word) → w.kind ≡ kinds.RightParen → name_of w ≡ None
name_right w e = ap (λ k. name_by_kind k w.bytes) e

pub is_named_none : (name : List ℕ) (w : Word) → name_of w ≡ None → is_named name w ≡ false
is_named_none name w e = ap (elim [ None ↦ false | Some n ↦ bytes_eq n name ]) e

-- Words that have to be something

module _ (sorts : Env Sort) where
  abbrev Runs : Type 0
  Runs = Result (Sort × List Word) Fault

  abbrev wrong : Fault → Runs
  wrong f = Err f

  at_one : (s : SortStage) (w : Word) (ws : List Word) → steps.run sorts s (w ∷ ws) ≡ steps.goes_on (λ n. steps.run sorts n ws) ws (steps.step sorts s w)
  unfolding steps.run
  at_one s w ws = refl

  -- a word that passes a test, after which a stage is next
  passes : (s next : SortStage) (test : Word → Bool) (t : Tree) (ws : List Word) → ((w : Word) → steps.step sorts s w ≡ if test w then Ok (then.More next) else steps.fault 5 w)
      → ((w : Word) → w.kind ≡ kinds.LeftParen → test w ≡ false) → IsProper t
      → steps.run sorts s (tokens_of t ++ ws) ≡ answer wrong (λ u. steps.run sorts next ws) (outcome (exactly test t))
  unfolding tokens_of
  passes s next test (Leaf w) ws step paren proper = at_one s w ws ∙ ap (steps.goes_on (λ n. steps.run sorts n ws) ws) (step w) ∙ by_test (test w)
    where
      by_test : (b : Bool) → steps.goes_on (λ n. steps.run sorts n ws) ws (if b then Ok (then.More next) else steps.fault 5 w) ≡ answer wrong (λ (u : Unit {0}). steps.run sorts next ws) (outcome (if b then Sound tt else faulty 5 w))
      by_test true = refl
      by_test false = refl
  passes s next test (Group opening items closing) ws step paren proper =
      let more = (tokens_of_items items ++ closing ∷ []) ++ ws in
      at_one s opening more
      ∙ ap (steps.goes_on (λ n. steps.run sorts n more) more) (step opening ∙ ap (λ b. if b then Ok (then.More next) else steps.fault 5 opening) (paren opening proper.0))

  refuses : (s next : SortStage) (test : Word → Bool) (w : Word) (ws : List Word) → steps.step sorts s w ≡ (if test w then Ok (then.More next) else steps.fault 5 w) → test w ≡ false
      → steps.run sorts s (w ∷ ws) ≡ wrong (word_fault 5 w)
  refuses s next test w ws step fails = at_one s w ws ∙ ap (steps.goes_on (λ n. steps.run sorts n ws) ws) (step ∙ ap (λ b. if b then Ok (then.More next) else steps.fault 5 w) fails)

  -- the closing parenthesis
  closes_runs : (p : ℕ) (closing : Word) (rest : List Word) (ts : Trees) → closing.kind ≡ kinds.RightParen → AreProper ts
      → steps.run sorts (stage.Close p) (tokens_of_items ts ++ closing ∷ rest) ≡ answer wrong (λ u. Ok (sort.Field p, rest)) (outcome (last (items_of ts)))
  unfolding steps.step items_of tokens_of_items
  closes_runs p closing rest Empty k proper =
      at_one (stage.Close p) closing rest
      ∙ ap (λ b. steps.goes_on (λ n. steps.run sorts n rest) rest (if b then Ok (then.Whole (sort.Field p)) else steps.fault 5 closing)) (ap steps.closes k)
  closes_runs p closing rest (First t ts) k proper =
      let more = (others t ++ tokens_of_items ts) ++ closing ∷ rest in
      ap (λ ws. steps.run sorts (stage.Close p) ((ws ++ tokens_of_items ts) ++ closing ∷ rest)) (tokens_front t)
      ∙ at_one (stage.Close p) (front t) more
      ∙ ap (λ b. steps.goes_on (λ n. steps.run sorts n more) more (if b then Ok (then.Whole (sort.Field p)) else steps.fault 5 (front t))) (closes_front t proper.0)

  abbrev ordered : Bool → Bool → Word → Result SortStep Fault
  ordered numeral good w = if numeral then (if good then Ok (then.More (stage.Close (number_of w.bytes))) else steps.fault 11 w) else steps.fault 5 w

  numeral_paren : (w : Word) → w.kind ≡ kinds.LeftParen → is_numeral w.kind ≡ false
  numeral_paren w e = ap is_numeral e

  order_runs : (t : Tree) (ws : List Word) → IsProper t → steps.run sorts stage.Order (tokens_of t ++ ws) ≡ answer wrong (λ p. steps.run sorts (stage.Close p) ws) (outcome (order_read t))
  unfolding steps.step tokens_of
  order_runs (Leaf w) ws proper = at_one stage.Order w ws ∙ by_test (is_numeral w.kind) (is_order (number_of w.bytes))
    where
      by_test : (a b : Bool) → steps.goes_on (λ n. steps.run sorts n ws) ws (ordered a b w)
          ≡ answer wrong (λ p. steps.run sorts (stage.Close p) ws) (outcome (if a then (if b then Sound (number_of w.bytes) else faulty 11 w) else faulty 5 w))
      by_test true true = refl
      by_test true false = refl
      by_test false b = refl
  order_runs (Group opening items closing) ws proper =
      let more = (tokens_of_items items ++ closing ∷ []) ++ ws in
      at_one stage.Order opening more ∙ ap (λ b. steps.goes_on (λ n. steps.run sorts n more) more (ordered b (is_order (number_of opening.bytes)) opening)) (numeral_paren opening proper.0)

  order_close : (w : Word) (ws : List Word) → w.kind ≡ kinds.RightParen → steps.run sorts stage.Order (w ∷ ws) ≡ wrong (word_fault 5 w)
  unfolding steps.step
  order_close w ws e = at_one stage.Order w ws ∙ ap (λ b. steps.goes_on (λ n. steps.run sorts n ws) ws (ordered b (is_order (number_of w.bytes)) w)) (ap is_numeral e)

abbrev passed : Read (Unit {0})
passed = Sound tt

exactly_at : (test : Word → Bool) → FaultsAtTree (exactly test)
unfolding tokens_of
exactly_at test (Leaf w) = by_test (test w)
  where
    by_test : (b : Bool) → Each (IsAt (w ∷ [])) (faults (if b then passed else faulty 5 w))
    by_test true = tt
    by_test false = (inl (refl, refl), tt)
exactly_at test (Group opening items closing) = (inl (refl, refl), tt)

order_at : FaultsAtTree order_read
unfolding tokens_of
order_at (Leaf w) = by_test (is_numeral w.kind) (is_order (number_of w.bytes))
  where
    by_test : (a b : Bool) → Each (IsAt (w ∷ [])) (faults (if a then (if b then Sound (number_of w.bytes) else faulty 11 w) else faulty 5 w))
    by_test true true = tt
    by_test true false = (inl (refl, refl), tt)
    by_test false b = (inl (refl, refl), tt)
order_at (Group opening items closing) = (inl (refl, refl), tt)

module _ (sorts : Env Sort) (closing : Word) (rest : List Word) (k : closing.kind ≡ kinds.RightParen) where
  abbrev Answer : Type 0
  Answer = Result (Sort × List Word) Fault

  after_family : (ts : Trees) → AreProper ts → AreInOrder (closed ts closing)
      → steps.run sorts stage.Order (tokens_of_items ts ++ closing ∷ rest) ≡ answer (wrong sorts) (λ p. Ok (sort.Field p.0, rest)) (outcome (item closing order_read last (items_of ts)))
  after_family =
      item_runs (steps.run sorts stage.Order) (λ p ws. steps.run sorts (stage.Close p) ws) (wrong sorts) (λ p. Ok (sort.Field p.0, rest)) closing rest order_read last
      (order_close sorts closing rest k) (λ t ws proper order. order_runs sorts t ws proper) (λ p ts proper order. closes_runs sorts p closing rest ts k proper) order_at (last_at closing)

  after_underscore : (ts : Trees) → AreProper ts → AreInOrder (closed ts closing)
      → steps.run sorts stage.Family (tokens_of_items ts ++ closing ∷ rest)
      ≡ answer (wrong sorts) (λ p. Ok (sort.Field p.1.0, rest)) (outcome (item closing (exactly (is_named (codes "FiniteField"))) (item closing order_read last) (items_of ts)))
  unfolding steps.step
  after_underscore =
      item_runs (steps.run sorts stage.Family) (λ u ws. steps.run sorts stage.Order ws) (wrong sorts) (λ p. Ok (sort.Field p.1.0, rest)) closing rest (exactly (is_named (codes "FiniteField"))) (item closing order_read last)
      (refuses sorts stage.Family stage.Order (is_named (codes "FiniteField")) closing rest refl (is_named_none (codes "FiniteField") closing (name_right closing k)))
      (λ t ws proper order. passes sorts stage.Family stage.Order (is_named (codes "FiniteField")) t ws (λ w. refl) (λ w e. is_named_none (codes "FiniteField") w (name_left w e)) proper)
      (λ u ts proper order. after_family ts proper order) (exactly_at (is_named (codes "FiniteField"))) (item_at closing order_read last order_at (last_at closing))

  after_opening : (ts : Trees) → AreProper ts → AreInOrder (closed ts closing)
      → steps.run sorts stage.Underscore (tokens_of_items ts ++ closing ∷ rest)
      ≡ answer (wrong sorts) (λ p. Ok (sort.Field p.1.1.0, rest)) (outcome (item closing (exactly (is_word (codes "_"))) (item closing (exactly (is_named (codes "FiniteField"))) (item closing order_read last)) (items_of ts)))
  unfolding steps.step
  after_opening =
      item_runs (steps.run sorts stage.Underscore) (λ u ws. steps.run sorts stage.Family ws) (wrong sorts) (λ p. Ok (sort.Field p.1.1.0, rest)) closing rest
      (exactly (is_word (codes "_"))) (item closing (exactly (is_named (codes "FiniteField"))) (item closing order_read last))
      (refuses sorts stage.Underscore stage.Family (is_word (codes "_")) closing rest refl (is_word_paren (codes "_") closing kinds.RightParen k refl))
      (λ t ws proper order. passes sorts stage.Underscore stage.Family (is_word (codes "_")) t ws (λ w. refl) (λ w e. is_word_paren (codes "_") w kinds.LeftParen e refl) proper)
      (λ u ts proper order. after_underscore ts proper order) (exactly_at (is_word (codes "_")))
      (item_at closing (exactly (is_named (codes "FiniteField"))) (item closing order_read last) (exactly_at (is_named (codes "FiniteField"))) (item_at closing order_read last order_at (last_at closing)))

named_runs : (sorts : Env Sort) (w : Word) (rest : List Word) (next : SortStage → Result (Sort × List Word) Fault) (o : Option Name)
    → steps.goes_on next rest (steps.by_name sorts w o) ≡ answer (wrong sorts) (λ s. Ok (s, rest)) (outcome (elim o [ None ↦ faulty 5 w | Some name ↦ named_sort sorts w name ]))
named_runs sorts w rest next None = refl
named_runs sorts w rest next (Some name) = by_test (bytes_eq name (codes "Bool")) (found sorts name)
  where
    by_test : (b : Bool) (o : Option Sort) → steps.goes_on next rest (if b then Ok (then.Whole sort.Bool) else steps.known w o)
        ≡ answer (wrong sorts) (λ s. Ok (s, rest)) (outcome (if b then Sound sort.Bool else (elim o [ None ↦ faulty 8 w | Some s ↦ Sound s ])))
    by_test true o = refl
    by_test false None = refl
    by_test false (Some s) = refl

-- the words of a sort's tree are read as the tree is
pub sort_runs : (sorts : Env Sort) (t : Tree) (rest : List Word) → IsProper t → AreInOrder (tokens_of t)
    → steps.run sorts stage.Start (tokens_of t ++ rest) ≡ answer (λ f. Err f) (λ s. Ok (s, rest)) (outcome (sort_read sorts t))
unfolding steps.step sort_read tokens_of
sort_runs sorts (Leaf w) rest proper order =
    at_one sorts stage.Start w rest
    ∙ ap (λ b. steps.goes_on (λ n. steps.run sorts n rest) rest (if b then Ok (then.More stage.Underscore) else steps.named sorts w)) (opens_leaf w.kind proper)
    ∙ named_runs sorts w rest (λ n. steps.run sorts n rest) (name_of w)
sort_runs sorts (Group opening items closing) rest proper order =
    let more = (tokens_of_items items ++ closing ∷ []) ++ rest in
    at_one sorts stage.Start opening more
    ∙ ap (λ b. steps.goes_on (λ n. steps.run sorts n more) more (if b then Ok (then.More stage.Underscore) else steps.named sorts opening)) (ap steps.opens proper.0)
    ∙ ap (steps.run sorts stage.Underscore) (append_assoc (tokens_of_items items) (closing ∷ []) rest)
    ∙ after_opening sorts closing rest proper.2 items proper.1 order.1
    ∙ sym (outcome_map (λ parts. sort.Field parts.1.1.0) (item closing (exactly (is_word (codes "_"))) (item closing (exactly (is_named (codes "FiniteField"))) (item closing order_read last)) (items_of items)) (λ f. Err f) (λ s. Ok (s, rest)))

pub ok_is : {A B : Type 0} {a b : A} → ◌≡◌ {A = Result A B} (Ok a) (Ok b) → a ≡ b
ok_is e = cc

pub pair_is : {A B : Type 0} {a c : A} {b d : B} → a ≡ c → b ≡ d → ◌≡◌ {A = A × B} (a, b) (c, d)
pair_is {A} {B} {a} {c} {b} {d} e f = ap (λ x. (x, b)) e ∙ ap (λ y. (c, y)) f

-- what a call that runs over the words answers
pub sort_placed : (sorts : Env Sort) (words : List Word) (i : ℕ) (t : Tree) (rest : List Word) (r : Result (Sort × ℕ) ScriptFault) → AreInOrder words → IsTreeAt words i t rest
    → steps.RunsAs words (steps.at sorts words i) r → answered r ≡ steps.placed t i (outcome (sort_read sorts t))
sort_placed sorts words i t rest r order at runs =
    let ordered = order_left (tokens_of t) rest (subst AreInOrder at.text (order_drop i words order)) in
    by_result r (outcome (sort_read sorts t)) runs (ap (steps.run sorts stage.Start) at.text ∙ sort_runs sorts t rest at.proper ordered)
  where
    by_result : (q : Result (Sort × ℕ) ScriptFault) (o : Result Sort Fault) → steps.RunsAs words (steps.at sorts words i) q
        → steps.at sorts words i ≡ answer (λ f. Err f) (λ s. Ok (s, rest)) o → answered q ≡ steps.placed t i o
    by_result (Ok x) (Ok s) h e =
        let same = ok_is (sym h.0 ∙ e) in
        let sort_is : x.0 ≡ s = ap (λ p. p.0) same in
        let rest_is : drop x.1 words ≡ rest = ap (λ p. p.1) same in
        ap (λ (p : Sort × ℕ). Ok p) (pair_is sort_is (place_after words i x.1 t rest at.text rest_is h.1))
    by_result (Ok x) (Err f) h e = let same = sym h.0 ∙ e in cc
    by_result (Err f) (Ok s) h e = let same = sym h ∙ e in cc
    by_result (Err f) (Err g) h e = let same = sym h ∙ e in let one : fault_of f ≡ g = cc in ap Err one
