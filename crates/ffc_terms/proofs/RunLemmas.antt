-- Running over the words of a term: what its first words do.
use Rattle.std.proofs.Common.{◌≡◌, ℕ, true, false, List, [], ◌∷◌, ◌++◌, codes, map, None, Result, Ok, Err, refl, sym, ap, ◌∙◌}
use Rattle.ffc_lex.specs.declared.tokens.TokenKind.TheVariants as kinds
use Rattle.ffc_term.specs.declared.node.Node.{Node}
use Rattle.ffc_term.specs.declared.node.Sort.{Sort}
use Rattle.ffc_smt.specs.Trees.{Word, Tree, Leaf, tokens_of, front, name_of}
use Rattle.ffc_smt.specs.TreeShapes.{is_parenthesis, IsProper}
use Rattle.ffc_smt.specs.Terms.{height, weight}
use Rattle.ffc_smt.specs.Meaning.{Env}
use Rattle.ffc_smt.specs.Scopes.{Scope}
use Rattle.ffc_smt.specs.Faults.{Fault, word_fault}
use Rattle.ffc_smt.specs.TermReading.{Sorted, is_word, leaf_by_kind}
use Rattle.ffc_words.specs.Outcomes.{outcome}
use Rattle.ffc_terms.specs.declared.codes.Op.{Op}
use Rattle.ffc_terms.specs.declared.frames.Frame.{Frame}
use Rattle.ffc_terms.specs.declared.frames.Place.{Place}
use Rattle.ffc_terms.specs.declared.frames.Stage.TheVariants as stage
use Rattle.ffc_terms.specs.declared.leaves.Leaf.{Leaf as KeptLeaf}
use Rattle.ffc_terms.specs.declared.leaves.Head.{Head as KeptHead}
use Rattle.ffc_terms.specs.declared.scope.Symbols.{Symbols}
use Rattle.ffc_terms.specs.declared.values.Value.{Value}
use Rattle.ffc_terms.specs.Callees.{capped}
use Rattle.ffc_terms.specs.Codes.{IsCode, IsScope}
use Rattle.ffc_terms.specs.Leaves as leaves
use Rattle.ffc_terms.specs.Places.{place_of}
use Rattle.ffc_terms.specs.SortSteps.{opens, closes}
use Rattle.ffc_terms.specs.Walking.{Walking, Stepped, Going, at_stage, refused, given, leaf_read, leaf_at, takes_none, term_step, head_read, head_step, step, goes_on, run}
use Rattle.ffc_terms.proofs.ItemLemmas.{opens_leaf, closes_leaf, closes_front}
use Rattle.ffc_terms.proofs.LeafLemmas.{LeafIs, leaf_is}
use Rattle.ffc_terms.proofs.SortTreeLemmas.{is_word_paren, name_left, name_right}

-- before a term
abbrev pub at_term : List Frame → List Op → Env Sort → Env Sort → Walking
at_term fs code locals pending = record { stage = stage.Term; frames = fs; code = code; locals = locals; pending = pending }

-- a term that was read
abbrev pub value_of : Word → Sorted → Value
value_of w s = record { place = place_of w; sort = s.sort; height = height s.term; weight = capped (weight s.term) }

module _ (limit : ℕ) (symbols : Symbols) where
  -- a term is complete, and these words follow
  abbrev pub then_given : Value → Walking → List Word → Result (Value × List Op × List Word) Fault
  then_given v w rest = goes_on (λ n. run limit symbols n rest) rest (given limit symbols v w)

  pub one : (w : Walking) (word : Word) (words : List Word) → run limit symbols w (word ∷ words) ≡ goes_on (λ n. run limit symbols n words) words (step limit symbols word w)
  unfolding run
  one w word words = refl

  pub one_is : (w : Walking) (word : Word) (words : List Word) (s : Stepped) → step limit symbols word w ≡ s
      → run limit symbols w (word ∷ words) ≡ goes_on (λ n. run limit symbols n words) words s
  one_is w word words s e = one w word words ∙ ap (goes_on (λ n. run limit symbols n words) words) e

  module _ (fs : List Frame) (code : List Op) (locals pending : Env Sort) (takes : takes_none limit symbols fs ≡ false) where
    pub step_leaf : (word : Word) → is_parenthesis word.kind ≡ false
        → step limit symbols word (at_term fs code locals pending) ≡ leaf_read limit symbols word (at_term fs code locals pending) (leaves.leaf symbols locals word)
    unfolding term_step leaf_at
    step_leaf word k = rw (closes_leaf word.kind k, takes, opens_leaf word.kind k) refl

    pub step_open : (word : Word) → word.kind ≡ kinds.LeftParen → step limit symbols word (at_term fs code locals pending) ≡ Going (at_stage (stage.Head (place_of word)) (at_term fs code locals pending))
    unfolding term_step leaf_at
    step_open word k = rw (ap closes k, takes, ap opens k) refl

  -- no further argument is taken
  pub step_full : (fs : List Frame) (code : List Op) (locals pending : Env Sort) (t : Tree) → takes_none limit symbols fs ≡ true → IsProper t
      → step limit symbols (front t) (at_term fs code locals pending) ≡ refused 5 (front t)
  unfolding term_step leaf_at
  step_full fs code locals pending t takes k = rw (closes_front t k, takes) refl

  pub step_head : (at : Place) (fs : List Frame) (code : List Op) (locals pending : Env Sort) (word : Word) (r : Result KeptHead Fault) → leaves.head symbols locals word ≡ r
      → step limit symbols word (at_stage (stage.Head at) (at_term fs code locals pending)) ≡ head_read limit symbols at (at_stage (stage.Head at) (at_term fs code locals pending)) r
  unfolding head_step
  step_head at fs code locals pending word r e = ap (head_read limit symbols at (at_stage (stage.Head at) (at_term fs code locals pending))) e

  no_head : (locals : Env Sort) (word : Word) → is_word (codes "let") word ≡ false → is_word (codes "as") word ≡ false → name_of word ≡ None → leaves.head symbols locals word ≡ Err (word_fault 5 word)
  unfolding leaves.head
  no_head locals word a b c = rw (a, b, c) refl

  pub head_left : (locals : Env Sort) (word : Word) → word.kind ≡ kinds.LeftParen → leaves.head symbols locals word ≡ Err (word_fault 5 word)
  head_left locals word k = no_head locals word (is_word_paren (codes "let") word kinds.LeftParen k refl) (is_word_paren (codes "as") word kinds.LeftParen k refl) (name_left word k)

  pub head_right : (locals : Env Sort) (word : Word) → word.kind ≡ kinds.RightParen → leaves.head symbols locals word ≡ Err (word_fault 5 word)
  head_right locals word k = no_head locals word (is_word_paren (codes "let") word kinds.RightParen k refl) (is_word_paren (codes "as") word kinds.RightParen k refl) (name_right word k)

module _ (limit : ℕ) (nodes : List Node) (symbols : Symbols) (scope : Scope) (is : IsScope nodes symbols scope) where
  -- The words of a tree are read as this outcome says.
  abbrev pub TermRuns : Env Sort → Tree → Result Sorted Fault → Type 0
  TermRuns locals t (Ok s) =
      (ops : List Op) × IsCode nodes symbols.terms (map (λ x. x.0) locals) s.term ops
      × ((fs : List Frame) (code : List Op) (pending : Env Sort) (rest : List Word) → takes_none limit symbols fs ≡ false
      → run limit symbols (at_term fs code locals pending) (tokens_of t ++ rest) ≡ then_given limit symbols (value_of (front t) s) (at_term fs (code ++ ops) locals pending) rest)
  TermRuns locals t (Err f) =
      (fs : List Frame) (code : List Op) (pending : Env Sort) (rest : List Word) → takes_none limit symbols fs ≡ false
      → run limit symbols (at_term fs code locals pending) (tokens_of t ++ rest) ≡ Err f

  leaf_by : (locals : Env Sort) (w : Word) → is_parenthesis w.kind ≡ false → (o : Result Sorted Fault) (l : Result KeptLeaf Fault) → leaves.leaf symbols locals w ≡ l
      → LeafIs nodes symbols scope is locals o l → TermRuns locals (Leaf w) o
  unfolding tokens_of
  leaf_by locals w k (Ok t) (Ok l) e h = (
    l.op ∷ [],
    h.1,
    λ fs code pending rest takes.
        one_is limit symbols (at_term fs code locals pending) w rest _ (step_leaf limit symbols fs code locals pending takes w k ∙ ap (leaf_read limit symbols w (at_term fs code locals pending)) e)
        ∙ ap (λ v. then_given limit symbols v (at_term fs (code ++ l.op ∷ []) locals pending) rest)
        (ap (λ s. record { place = place_of w; sort = s; height = 0; weight = 1 }) h.0 ∙ ap (λ n. record { place = place_of w; sort = t.sort; height = n; weight = 1 }) (sym h.2)
        ∙ ap (λ n. record { place = place_of w; sort = t.sort; height = height t.term; weight = capped n }) (sym h.3)),
  )
  leaf_by locals w k (Ok t) (Err f) e h = absurd h
  leaf_by locals w k (Err g) (Ok l) e h = absurd h
  leaf_by locals w k (Err g) (Err f) e h = λ fs code pending rest takes.
      one_is limit symbols (at_term fs code locals pending) w rest _ (step_leaf limit symbols fs code locals pending takes w k ∙ ap (leaf_read limit symbols w (at_term fs code locals pending)) e) ∙ ap Err (sym h)

  pub leaf_runs : (locals : Env Sort) (w : Word) → is_parenthesis w.kind ≡ false → TermRuns locals (Leaf w) (outcome (leaf_by_kind scope locals w.kind w))
  leaf_runs locals w k = leaf_by locals w k (outcome (leaf_by_kind scope locals w.kind w)) (leaves.leaf symbols locals w) refl (leaf_is nodes symbols scope is locals w)

  -- The words of a term in parentheses, up to its head.
  pub head_runs : (fs : List Frame) (code : List Op) (locals pending : Env Sort) (opening word : Word) (words : List Word) (r : Result KeptHead Fault) → takes_none limit symbols fs ≡ false
      → opening.kind ≡ kinds.LeftParen → leaves.head symbols locals word ≡ r
      → run limit symbols (at_term fs code locals pending) (opening ∷ word ∷ words)
      ≡ goes_on (λ n. run limit symbols n words) words (head_read limit symbols (place_of opening) (at_stage (stage.Head (place_of opening)) (at_term fs code locals pending)) r)
  head_runs fs code locals pending opening word words r takes k e =
      one_is limit symbols (at_term fs code locals pending) opening (word ∷ words) _ (step_open limit symbols fs code locals pending takes opening k)
      ∙ one_is limit symbols (at_stage (stage.Head (place_of opening)) (at_term fs code locals pending)) word words _ (step_head limit symbols (place_of opening) fs code locals pending word r e)
