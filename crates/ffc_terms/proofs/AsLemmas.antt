-- Constants of fields, `(as W S)`, word by word and by their trees.
use Rattle.std.proofs.Common.{◌≡◌, ℕ, ◌<◌, ◌==◌, Bool, true, false, List, [], ◌∷◌, ◌++◌, if◌then◌else◌, Option, Some, None, Result, Ok, Err, refl, sym, ap, ◌∙◌, subst, inl, arith, append_assoc}
use Rattle.std.proofs.lemmas.Bool.Decides.{nat_tests}
use Rattle.ffc_lex.specs.declared.tokens.TokenKind.TheVariants as kinds
use Rattle.ffc_parts.specs.declared.numbers.Signed.{Signed as KeptSigned}
use Rattle.ffc_term.specs.declared.node.Node.{Node}
use Rattle.ffc_term.specs.declared.node.Sort.{Sort}
use Rattle.ffc_term.specs.declared.node.Sort.TheVariants as sort
use Rattle.ffc_smt.specs.Trees.{Word, Tree, Leaf, Group, Trees, Empty, First, tokens_of, tokens_of_items, items_of, front, name_of}
use Rattle.ffc_smt.specs.TreeShapes.{IsProper, AreProper}
use Rattle.ffc_smt.specs.Terms.{Name, height, weight}
use Rattle.ffc_smt.specs.Numbers.{Signed, is_small, constant_of}
use Rattle.ffc_smt.specs.Meaning.{Env, residue_of_number}
use Rattle.ffc_smt.specs.Scopes.{Scope}
use Rattle.ffc_smt.specs.Faults.{Fault, word_fault, Read, Sound, Faulty, faults, faulty, read_map, behind, last, item}
use Rattle.ffc_smt.specs.TermReading.{sort_read, number_term, number_read, constant_read, order_of_sort, field_read, as_read}
use Rattle.ffc_smt.proofs.PlaceLemmas.{sort_faults}
use Rattle.ffc_words.specs.Outcomes.{outcome}
use Rattle.ffc_terms.specs.declared.codes.Op.{Op}
use Rattle.ffc_terms.specs.declared.codes.Op.TheVariants as op
use Rattle.ffc_terms.specs.declared.frames.Frame.{Frame}
use Rattle.ffc_terms.specs.declared.frames.Place.{Place}
use Rattle.ffc_terms.specs.declared.frames.Frame.TheVariants as frame
use Rattle.ffc_terms.specs.declared.frames.Stage.{Stage}
use Rattle.ffc_terms.specs.declared.frames.Stage.TheVariants as stage
use Rattle.ffc_terms.specs.declared.leaves.Head.TheVariants as heads
use Rattle.ffc_terms.specs.declared.scope.Symbols.{Symbols}
use Rattle.ffc_terms.specs.declared.sorts.SortStage.{SortStage}
use Rattle.ffc_terms.specs.declared.sorts.SortStage.TheVariants as sort_stage
use Rattle.ffc_terms.specs.declared.sorts.SortStep.{SortStep}
use Rattle.ffc_terms.specs.declared.sorts.SortStep.TheVariants as then
use Rattle.ffc_terms.specs.declared.values.Value.{Value}
use Rattle.ffc_terms.specs.Codes.{IsScope}
use Rattle.ffc_terms.specs.Leaves as leaves
use Rattle.ffc_terms.specs.Places.{place_of, fault}
use Rattle.ffc_terms.specs.SortSteps as steps
use Rattle.ffc_terms.specs.Walking as walking
use Rattle.ffc_terms.specs.Walking.{Walking, Stepped, Going, Failed, refused, at_stage, with_op, constant_read as constant_kept, constant_step, sort_word, close_step, residue_or, given, goes_on, run, takes_none, step}
use Rattle.ffc_terms.proofs.FirstLemmas.{Each, AreInOrder, IsAt, at_from}
use Rattle.ffc_terms.proofs.ItemLemmas.{answer, outcome_behind, closes_front, tokens_front, others, at_front, closed, last_at, item_at, item_runs, FaultsAtTree}
use Rattle.ffc_terms.proofs.RunLemmas.{at_term, then_given, one_is, head_runs, TermRuns}
use Rattle.ffc_terms.proofs.SortTreeLemmas.{sort_runs, name_left, name_right}

pub stage_given : (limit : ℕ) (symbols : Symbols) (v : Value) (s : Stage) (fs : List Frame) (code : List Op) (locals pending : Env Sort)
    → given limit symbols v (record { stage = s; frames = fs; code = code; locals = locals; pending = pending }) ≡ given limit symbols v (at_term fs code locals pending)
unfolding given
stage_given limit symbols v s [] code locals pending = refl
stage_given limit symbols v s (frame.Call at c p ∷ fs) code locals pending = refl
stage_given limit symbols v s (frame.Value at p ∷ fs) code locals pending = refl
stage_given limit symbols v s (frame.Body at p ∷ fs) code locals pending = refl

-- a number as it is kept
abbrev kept : Signed → KeptSigned
kept n = record { negative = n.negative; size = n.size }

module _ (limit : ℕ) (symbols : Symbols) (at : Place) (w : Walking) where
  abbrev Runs : Type 0
  Runs = Result (Value × List Op × List Word) Fault

  abbrev wrong : Fault → Runs
  wrong f = Err f

  -- W

  constant_one : (word : Word) (words : List Word)
      → run limit symbols (at_stage (stage.Constant at) w) (word ∷ words)
      ≡ goes_on (λ n. run limit symbols n words) words (constant_kept limit symbols at (at_stage (stage.Constant at) w) (leaves.constant_named word (name_of word)))
  unfolding constant_step leaves.constant
  constant_one word words = one_is limit symbols (at_stage (stage.Constant at) w) word words _ refl

  constant_by : (word : Word) (words : List Word) (o : Option Name)
      → goes_on (λ n. run limit symbols n words) words (constant_kept limit symbols at (at_stage (stage.Constant at) w) (leaves.constant_named word o))
      ≡ answer wrong (λ n. run limit symbols (at_stage (stage.SortStart at (kept n)) w) words) (outcome (elim o [ None ↦ faulty 5 word | Some name ↦ number_read word (constant_of name) ]))
  constant_by word words None = refl
  constant_by word words (Some name) = by_number (constant_of name)
    where
      by_number : (o : Option Signed)
          → goes_on (λ n. run limit symbols n words) words (constant_kept limit symbols at (at_stage (stage.Constant at) w) (leaves.kept word (leaves.small o)))
          ≡ answer wrong (λ n. run limit symbols (at_stage (stage.SortStart at (kept n)) w) words) (outcome (number_read word o))
      by_number None = refl
      by_number (Some n) = by_size (is_small n)
        where
          by_size : (b : Bool)
              → goes_on (λ x. run limit symbols x words) words (constant_kept limit symbols at (at_stage (stage.Constant at) w) (leaves.kept word (if b then Some n else None)))
              ≡ answer wrong (λ x. run limit symbols (at_stage (stage.SortStart at (kept x)) w) words) (outcome (if b then Sound n else faulty 13 word))
          by_size true = refl
          by_size false = refl

  constant_none : (word : Word) (words : List Word) → name_of word ≡ None → run limit symbols (at_stage (stage.Constant at) w) (word ∷ words) ≡ wrong (word_fault 5 word)
  constant_none word words e =
      constant_one word words
      ∙ ap (λ o. goes_on (λ n. run limit symbols n words) words (constant_kept limit symbols at (at_stage (stage.Constant at) w) (leaves.constant_named word o))) e

  constant_runs : (t : Tree) (ws : List Word) → IsProper t
      → run limit symbols (at_stage (stage.Constant at) w) (tokens_of t ++ ws) ≡ answer wrong (λ n. run limit symbols (at_stage (stage.SortStart at (kept n)) w) ws) (outcome (constant_read t))
  unfolding tokens_of
  constant_runs (Leaf word) ws proper = constant_one word ws ∙ constant_by word ws (name_of word)
  constant_runs (Group opening items closing) ws proper = constant_none opening ((tokens_of_items items ++ closing ∷ []) ++ ws) (name_left opening proper.0)

  -- S

  -- what follows from a sort that was read
  abbrev sort_then : KeptSigned → Place → Result (Sort × List Word) Fault → Runs
  sort_then n front (Ok (sort.Bool, rest)) = wrong (fault 10 front)
  sort_then n front (Ok (sort.Field p, rest)) = run limit symbols (at_stage (stage.Close at n p) w) rest
  sort_then n front (Err f) = wrong f

  sort_more : (n : KeptSigned) (front : Place) (s : SortStage) (words : List Word)
      → run limit symbols (at_stage (stage.SortMore at n front s) w) words ≡ sort_then n front (steps.run symbols.sorts s words)
  unfolding run steps.run sort_word
  sort_more n front s [] = refl
  sort_more n front s (word ∷ words) = by_step (λ next. sort_more n front next words) (steps.step symbols.sorts s word)
    where
      by_step : ((next : SortStage) → run limit symbols (at_stage (stage.SortMore at n front next) w) words ≡ sort_then n front (steps.run symbols.sorts next words)) → (r : Result SortStep Fault)
          → goes_on (λ x. run limit symbols x words) words (walking.sort_read limit symbols at n front (at_stage (stage.SortMore at n front s) w) r)
          ≡ sort_then n front (steps.goes_on (λ x. steps.run symbols.sorts x words) words r)
      by_step more (Ok (then.More next)) = more next
      by_step more (Ok (then.Whole sort.Bool)) = refl
      by_step more (Ok (then.Whole (sort.Field p))) = refl
      by_step more (Err f) = refl

  sort_first : (n : KeptSigned) (word : Word) (words : List Word)
      → run limit symbols (at_stage (stage.SortStart at n) w) (word ∷ words) ≡ sort_then n (place_of word) (steps.run symbols.sorts sort_stage.Start (word ∷ words))
  unfolding run steps.run sort_word
  sort_first n word words = by_step (steps.step symbols.sorts sort_stage.Start word)
    where
      by_step : (r : Result SortStep Fault)
          → goes_on (λ x. run limit symbols x words) words (walking.sort_read limit symbols at n (place_of word) (at_stage (stage.SortStart at n) w) r)
          ≡ sort_then n (place_of word) (steps.goes_on (λ x. steps.run symbols.sorts x words) words r)
      by_step (Ok (then.More next)) = sort_more n (place_of word) next words
      by_step (Ok (then.Whole sort.Bool)) = refl
      by_step (Ok (then.Whole (sort.Field p))) = refl
      by_step (Err f) = refl

  field_runs : (n : KeptSigned) (t : Tree) (ws : List Word) → IsProper t → AreInOrder (tokens_of t)
      → run limit symbols (at_stage (stage.SortStart at n) w) (tokens_of t ++ ws) ≡ answer wrong (λ p. run limit symbols (at_stage (stage.Close at n p) w) ws) (outcome (field_read symbols.sorts t))
  field_runs n t ws proper order =
      ap (λ xs. run limit symbols (at_stage (stage.SortStart at n) w) (xs ++ ws)) (tokens_front t)
      ∙ sort_first n (front t) (others t ++ ws)
      ∙ ap (λ xs. sort_then n (place_of (front t)) (steps.run symbols.sorts sort_stage.Start (xs ++ ws))) (sym (tokens_front t))
      ∙ ap (sort_then n (place_of (front t))) (sort_runs symbols.sorts t ws proper order)
      ∙ by_outcome (outcome (sort_read symbols.sorts t))
      ∙ sym (outcome_behind (sort_read symbols.sorts t) (order_of_sort (front t)) wrong (λ p. run limit symbols (at_stage (stage.Close at n p) w) ws))
    where
      by_outcome : (o : Result Sort Fault)
          → sort_then n (place_of (front t)) (answer (λ f. Err f) (λ s. Ok (s, ws)) o)
          ≡ answer wrong (λ s. answer wrong (λ p. run limit symbols (at_stage (stage.Close at n p) w) ws) (outcome (order_of_sort (front t) s))) o
      by_outcome (Ok sort.Bool) = refl
      by_outcome (Ok (sort.Field p)) = refl
      by_outcome (Err f) = refl

  sort_close : (n : KeptSigned) (closing : Word) (ws : List Word) → closing.kind ≡ kinds.RightParen → run limit symbols (at_stage (stage.SortStart at n) w) (closing ∷ ws) ≡ wrong (word_fault 5 closing)
  unfolding sort_word steps.step
  sort_close n closing ws right =
      one_is limit symbols (at_stage (stage.SortStart at n) w) closing ws _ refl
      ∙ ap (λ k. goes_on (λ x. run limit symbols x ws) ws (walking.sort_read limit symbols at n (place_of closing) (at_stage (stage.SortStart at n) w) (if k then Ok (then.More sort_stage.Underscore) else steps.by_name symbols.sorts closing (name_of closing)))) (ap steps.opens right)
      ∙ ap (λ o. goes_on (λ x. run limit symbols x ws) ws (walking.sort_read limit symbols at n (place_of closing) (at_stage (stage.SortStart at n) w) (steps.by_name symbols.sorts closing o))) (name_right closing right)

  -- the end

  abbrev number_value : ℕ → Value
  number_value p = record { place = at; sort = sort.Field p; height = 0; weight = 1 }

  close_runs : (n : KeptSigned) (p : ℕ) (closing : Word) (rest : List Word) (ts : Trees) → closing.kind ≡ kinds.RightParen → AreProper ts
      → run limit symbols (at_stage (stage.Close at n p) w) (tokens_of_items ts ++ closing ∷ rest)
      ≡ answer wrong (λ u. then_given limit symbols (number_value p) (with_op (op.Number (residue_or n p) p) (at_stage (stage.Close at n p) w)) rest) (outcome (last (items_of ts)))
  unfolding close_step items_of tokens_of_items
  close_runs n p closing rest Empty right proper =
      one_is limit symbols (at_stage (stage.Close at n p) w) closing rest _ refl
      ∙ ap (λ b. goes_on (λ x. run limit symbols x rest) rest (if b then given limit symbols (number_value p) (with_op (op.Number (residue_or n p) p) (at_stage (stage.Close at n p) w)) else refused 5 closing)) (ap steps.closes right)
  close_runs n p closing rest (First t ts) right proper =
      let more = (others t ++ tokens_of_items ts) ++ closing ∷ rest in
      ap (λ ws. run limit symbols (at_stage (stage.Close at n p) w) ((ws ++ tokens_of_items ts) ++ closing ∷ rest)) (tokens_front t)
      ∙ one_is limit symbols (at_stage (stage.Close at n p) w) (front t) more _ refl
      ∙ ap (λ b. goes_on (λ x. run limit symbols x more) more (if b then given limit symbols (number_value p) (with_op (op.Number (residue_or n p) p) (at_stage (stage.Close at n p) w)) else refused 5 (front t))) (closes_front t proper.0)

constant_at : FaultsAtTree constant_read
unfolding tokens_of
constant_at (Leaf w) = by_name (name_of w)
  where
    by_number : (o : Option Signed) → Each (IsAt (w ∷ [])) (faults (number_read w o))
    by_number None = (inl (refl, refl), tt)
    by_number (Some n) = by_size (is_small n)
      where
        by_size : (b : Bool) → Each (IsAt (w ∷ [])) (faults (if b then Sound n else faulty 13 w))
        by_size true = tt
        by_size false = (inl (refl, refl), tt)

    by_name : (o : Option Name) → Each (IsAt (w ∷ [])) (faults {A = Signed} (elim o [ None ↦ faulty 5 w | Some name ↦ number_read w (constant_of name) ]))
    by_name None = (inl (refl, refl), tt)
    by_name (Some name) = by_number (constant_of name)
constant_at (Group opening items closing) = (inl (refl, refl), tt)

field_at : (sorts : Env Sort) → FaultsAtTree (field_read sorts)
field_at sorts t = by_sort (sort_read sorts t) (at_from (tokens_of t) (faults (sort_read sorts t)) (sort_faults sorts t))
  where
    by_sort : (r : Read Sort) → Each (IsAt (tokens_of t)) (faults r) → Each (IsAt (tokens_of t)) (faults (behind r (order_of_sort (front t))))
    by_sort (Sound sort.Bool) h = (at_front t (word_fault 10 (front t)) refl refl, tt)
    by_sort (Sound (sort.Field p)) h = tt
    by_sort (Faulty f fs) h = h

module _ (limit : ℕ) (nodes : List Node) (symbols : Symbols) (scope : Scope) (is : IsScope nodes symbols scope) (locals : Env Sort) (opening word closing : Word) (items : Trees)
    (left : opening.kind ≡ kinds.LeftParen) (right : closing.kind ≡ kinds.RightParen) (head : leaves.head symbols locals word ≡ Ok heads.As)
    (proper : AreProper items) (order : AreInOrder (closed items closing)) where
  abbrev tree : Tree
  tree = Group opening (First (Leaf word) items) closing

  abbrev Parts : Type 0
  Parts = Signed × (ℕ × Unit {0})

  abbrev parts : Read Parts
  parts = item closing constant_read (item closing (field_read symbols.sorts) last) (items_of items)

  abbrev number_op : Parts → Op
  number_op x = op.Number (residue_or (kept x.0) x.1.0) x.1.0

  -- what follows the whole term
  abbrev follows : List Frame → List Op → Env Sort → List Word → Parts → Result (Value × List Op × List Word) Fault
  follows fs code pending rest x =
      then_given limit symbols (record { place = place_of opening; sort = sort.Field x.1.0; height = 0; weight = 1 }) (at_term fs (code ++ number_op x ∷ []) locals pending) rest

  items_run : (fs : List Frame) (code : List Op) (pending : Env Sort) (rest : List Word)
      → run limit symbols (at_stage (stage.Constant (place_of opening)) (at_term fs code locals pending)) (tokens_of_items items ++ closing ∷ rest)
      ≡ answer (λ f. Err f) (follows fs code pending rest) (outcome parts)
  unfolding given
  items_run fs code pending rest =
      let w = at_term fs code locals pending in
      let at = place_of opening in
      item_runs (run limit symbols (at_stage (stage.Constant at) w)) (λ n ws. run limit symbols (at_stage (stage.SortStart at (kept n)) w) ws) (λ f. Err f) (follows fs code pending rest) closing rest
      constant_read (item closing (field_read symbols.sorts) last)
      (constant_none limit symbols at w closing rest (name_right closing right))
      (λ t ws p o. constant_runs limit symbols at w t ws p)
      (λ n ts p o.
      item_runs (run limit symbols (at_stage (stage.SortStart at (kept n)) w)) (λ q ws. run limit symbols (at_stage (stage.Close at (kept n) q) w) ws) (λ f. Err f) (λ x. follows fs code pending rest (n, x)) closing rest
      (field_read symbols.sorts) last
      (sort_close limit symbols at w (kept n) closing rest right)
      (λ t ws k q. field_runs limit symbols at w (kept n) t ws k q)
      (λ q us k l. close_runs limit symbols at w (kept n) q closing rest us right k ∙ ap (λ s. answer (λ f. Err f) s (outcome (last (items_of us)))) (followed fs code pending rest n q))
      (field_at symbols.sorts) (last_at closing) ts p o)
      constant_at (item_at closing (field_read symbols.sorts) last (field_at symbols.sorts) (last_at closing)) items proper order
    where
      followed : (gs : List Frame) (k : List Op) (ps : Env Sort) (more : List Word) (n : Signed) (q : ℕ)
          → ◌≡◌ {A = Unit {0} → Result (Value × List Op × List Word) Fault}
          (λ u. then_given limit symbols (number_value limit symbols (place_of opening) (at_term gs k locals ps) q) (with_op (op.Number (residue_or (kept n) q) q) (at_stage (stage.Close (place_of opening) (kept n) q) (at_term gs k locals ps))) more)
          (λ u. follows gs k ps more (n, (q, u)))
      followed gs k ps more n q = ap (λ st. λ (u : Unit {0}). goes_on (λ x. run limit symbols x more) more st)
          (stage_given limit symbols (number_value limit symbols (place_of opening) (at_term gs k locals ps) q) (stage.Close (place_of opening) (kept n) q) gs (k ++ op.Number (residue_or (kept n) q) q ∷ []) locals ps)

  residue_is : (n : Signed) (p : ℕ) → 0 < p → residue_or (kept n) p ≡ residue_of_number n.negative n.size p
  residue_is n p less = let some : (p == 0) ≡ false = grind (arith, nat_tests) in ap (λ b. if b then 0 else residue_of_number n.negative n.size p) some

  up_to : (fs : List Frame) (code : List Op) (pending : Env Sort) (rest : List Word) → takes_none limit symbols fs ≡ false
      → run limit symbols (at_term fs code locals pending) (tokens_of tree ++ rest) ≡ answer (λ f. Err f) (follows fs code pending rest) (outcome parts)
  unfolding tokens_of tokens_of_items
  up_to fs code pending rest takes =
      head_runs limit nodes symbols scope is fs code locals pending opening word ((tokens_of_items items ++ closing ∷ []) ++ rest) _ takes left head
      ∙ ap (run limit symbols (at_stage (stage.Constant (place_of opening)) (at_term fs code locals pending))) (append_assoc (tokens_of_items items) (closing ∷ []) rest)
      ∙ items_run fs code pending rest

  by_parts : (r : Read Parts)
      → ((fs : List Frame) (code : List Op) (pending : Env Sort) (rest : List Word) → takes_none limit symbols fs ≡ false
      → run limit symbols (at_term fs code locals pending) (tokens_of tree ++ rest) ≡ answer (λ f. Err f) (follows fs code pending rest) (outcome r))
      → TermRuns limit nodes symbols scope is locals tree (outcome (read_map (λ x. number_term x.0 x.1.0) r))
  unfolding height weight
  by_parts (Sound x) h = (number_op x ∷ [], (residue_or (kept x.0) x.1.0, refl, residue_is x.0 x.1.0), h)
  by_parts (Faulty f fs) h = h

  pub as_runs : TermRuns limit nodes symbols scope is locals tree (outcome (as_read scope closing (items_of items)))
  as_runs =
      subst (λ names. TermRuns limit nodes symbols scope is locals tree (outcome (read_map (λ x. number_term x.0 x.1.0) (item closing constant_read (item closing (field_read names) last) (items_of items))))) is.sorts
      (by_parts parts up_to)
