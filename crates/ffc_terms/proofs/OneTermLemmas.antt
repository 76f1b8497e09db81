-- One term and the parenthesis after it, inside a `let`.
use Rattle.std.proofs.Common.{◌≡◌, ℕ, false, List, [], ◌∷◌, ◌++◌, map, Contains, Result, Ok, Err, refl, sym, ap, ◌∙◌, subst, append_assoc}
use Rattle.std.proofs.lemmas.List.Elements.{Contains-append_right}
use Rattle.ffc_lex.specs.declared.tokens.TokenKind.TheVariants as kinds
use Rattle.ffc_term.specs.declared.node.Node.{Node}
use Rattle.ffc_term.specs.declared.node.Sort.{Sort}
use Rattle.ffc_smt.specs.Trees.{Word, Tree, Trees, Empty, First, tokens_of, tokens_of_items, items_of, front}
use Rattle.ffc_smt.specs.TreeShapes.{IsProper, AreProper}
use Rattle.ffc_smt.specs.Meaning.{Env}
use Rattle.ffc_smt.specs.Scopes.{Scope}
use Rattle.ffc_smt.specs.Faults.{Fault, word_fault, is_before, Read, faults, faulty, unless, no_more}
use Rattle.ffc_smt.specs.TermReading.{Sorted, term_read}
use Rattle.ffc_smt.proofs.PlaceLemmas.{term_faults}
use Rattle.ffc_words.specs.Outcomes.{outcome}
use Rattle.ffc_terms.specs.declared.codes.Op.{Op}
use Rattle.ffc_terms.specs.declared.frames.Frame.{Frame}
use Rattle.ffc_terms.specs.declared.frames.Frame.TheVariants as frame
use Rattle.ffc_terms.specs.declared.scope.Symbols.{Symbols}
use Rattle.ffc_terms.specs.declared.values.Value.{Value}
use Rattle.ffc_terms.specs.Codes.{IsCode, IsScope}
use Rattle.ffc_terms.specs.SortSteps.{closes}
use Rattle.ffc_terms.specs.Walking.{refused, given, bound_step, end_step, term_step, closed, run, takes_none}
use Rattle.ffc_terms.proofs.FirstLemmas.{AreInOrder, IsAt, at_from, at_left, NoneBefore, none_later, outcome_faulty, outcome_sound, first_is}
use Rattle.ffc_terms.proofs.ItemLemmas.{each_has, at_front, tokens_front, others, closes_front}
use Rattle.ffc_terms.proofs.RunLemmas.{at_term, value_of, then_given, one_is, TermRuns}

-- a frame of a `let`
abbrev pub IsOfLet : Frame → Type 0
IsOfLet (frame.Call at c p) = ⊥
IsOfLet (frame.Value at p) = Unit {0}
IsOfLet (frame.Body at p) = Unit {0}

-- a fault that is before one more of a part is the part's
pub outcome_more : {A : Type 0} (r : Read A) (e f : Fault) → Contains (faults r) e → NoneBefore e (faults r) → is_before f e ≡ false → outcome (unless (f ∷ []) r) ≡ Err e
outcome_more r e f has none later = ap Err (first_is f (faults r) e (Contains-append_right (f ∷ []) (faults r) e has) (later, none))

module _ (limit : ℕ) (nodes : List Node) (symbols : Symbols) (scope : Scope) (is : IsScope nodes symbols scope) (locals : Env Sort) where
  -- these items are one term, before this parenthesis
  abbrev pub one_read : Trees → Word → Read Sorted
  one_read Empty closing = faulty 5 closing
  one_read (First t rest) closing = unless (no_more (items_of rest)) (term_read limit scope locals t)

  abbrev pub OneRuns : Trees → Word → Result Sorted Fault → Type 0
  OneRuns items closing (Ok s) =
      (w : Word) × (ops : List Op) × IsCode nodes symbols.terms (map (λ x. x.0) locals) s.term ops
      × ((f : Frame) (fs : List Frame) (code : List Op) (pending : Env Sort) (rest : List Word) → IsOfLet f
      → run limit symbols (at_term (f ∷ fs) code locals pending) (tokens_of_items items ++ closing ∷ rest) ≡ then_given limit symbols (value_of w s) (at_term (f ∷ fs) (code ++ ops) locals pending) (closing ∷ rest))
  OneRuns items closing (Err e) =
      (f : Frame) (fs : List Frame) (code : List Op) (pending : Env Sort) (rest : List Word) → IsOfLet f
      → run limit symbols (at_term (f ∷ fs) code locals pending) (tokens_of_items items ++ closing ∷ rest) ≡ Err e

  takes : (f : Frame) (fs : List Frame) → IsOfLet f → takes_none limit symbols (f ∷ fs) ≡ false
  takes (frame.Call at c p) fs h = absurd h
  takes (frame.Value at p) fs h = refl
  takes (frame.Body at p) fs h = refl

  none_here : (f : Frame) (fs : List Frame) (code : List Op) (pending : Env Sort) (closing : Word) (rest : List Word) → IsOfLet f → closing.kind ≡ kinds.RightParen
      → run limit symbols (at_term (f ∷ fs) code locals pending) (closing ∷ rest) ≡ Err (word_fault 5 closing)
  unfolding term_step closed
  none_here (frame.Call at c p) fs code pending closing rest h right = absurd h
  none_here (frame.Value at p) fs code pending closing rest h right =
      one_is limit symbols (at_term (frame.Value at p ∷ fs) code locals pending) closing rest (refused 5 closing) (rw (ap closes right) refl)
  none_here (frame.Body at p) fs code pending closing rest h right =
      one_is limit symbols (at_term (frame.Body at p ∷ fs) code locals pending) closing rest (refused 5 closing) (rw (ap closes right) refl)

  -- another item after the term
  one_more : (v : Value) (f : Frame) (fs : List Frame) (code : List Op) (pending : Env Sort) (t : Tree) (ws : List Word) → IsOfLet f → IsProper t
      → then_given limit symbols v (at_term (f ∷ fs) code locals pending) (tokens_of t ++ ws) ≡ Err (word_fault 5 (front t))
  unfolding given bound_step end_step
  one_more v (frame.Call at c p) fs code pending t ws h proper = absurd h
  one_more v (frame.Value at p) fs code pending t ws h proper =
      ap (λ xs. then_given limit symbols v (at_term (frame.Value at p ∷ fs) code locals pending) (xs ++ ws)) (tokens_front t)
      ∙ one_is limit symbols _ (front t) (others t ++ ws) (refused 5 (front t)) (rw (closes_front t proper) refl)
  one_more v (frame.Body at p) fs code pending t ws h proper =
      ap (λ xs. then_given limit symbols v (at_term (frame.Body at p ∷ fs) code locals pending) (xs ++ ws)) (tokens_front t)
      ∙ one_is limit symbols _ (front t) (others t ++ ws) (refused 5 (front t)) (rw (closes_front t proper) refl)

  split : (t : Tree) (ts : Trees) (ws : List Word) → tokens_of_items (First t ts) ++ ws ≡ tokens_of t ++ (tokens_of_items ts ++ ws)
  unfolding tokens_of_items
  split t ts ws = append_assoc (tokens_of t) (tokens_of_items ts) ws

  nothing : (closing : Word) → closing.kind ≡ kinds.RightParen → OneRuns Empty closing (Err (word_fault 5 closing))
  unfolding tokens_of_items
  nothing closing right = λ f fs code pending rest h. none_here f fs code pending closing rest h right

  alone : (t : Tree) (closing : Word) (o : Result Sorted Fault) → TermRuns limit nodes symbols scope is locals t o → OneRuns (First t Empty) closing o
  unfolding tokens_of_items
  alone t closing (Ok s) h = (
    front t,
    h.0,
    h.1,
    λ f fs code pending rest k.
        ap (run limit symbols (at_term (f ∷ fs) code locals pending)) (split t Empty (closing ∷ rest)) ∙ h.2 (f ∷ fs) code pending (closing ∷ rest) (takes f fs k),
  )
  alone t closing (Err e) h = λ f fs code pending rest k.
      ap (run limit symbols (at_term (f ∷ fs) code locals pending)) (split t Empty (closing ∷ rest)) ∙ h (f ∷ fs) code pending (closing ∷ rest) (takes f fs k)

  not_alone : (t u : Tree) (us : Trees) (closing : Word) (o : Result Sorted Fault) → outcome (term_read limit scope locals t) ≡ o → IsProper u → AreInOrder (tokens_of t ++ tokens_of_items (First u us))
      → TermRuns limit nodes symbols scope is locals t o → OneRuns (First t (First u us)) closing (outcome (unless (word_fault 5 (front u) ∷ []) (term_read limit scope locals t)))
  unfolding tokens_of_items
  not_alone t u us closing (Ok s) e proper order h =
      subst (λ r. OneRuns (First t (First u us)) closing (outcome (unless (word_fault 5 (front u) ∷ []) r))) (sym (outcome_sound (term_read limit scope locals t) s e))
      (λ f fs code pending rest k.
      ap (run limit symbols (at_term (f ∷ fs) code locals pending)) (split t (First u us) (closing ∷ rest)) ∙ h.2 (f ∷ fs) code pending (tokens_of_items (First u us) ++ closing ∷ rest) (takes f fs k)
      ∙ ap (then_given limit symbols (value_of (front t) s) (at_term (f ∷ fs) (code ++ h.0) locals pending)) (split u us (closing ∷ rest))
      ∙ one_more (value_of (front t) s) f fs (code ++ h.0) pending u (tokens_of_items us ++ closing ∷ rest) k proper)
  not_alone t u us closing (Err e) is_err proper order h =
      let first = outcome_faulty (term_read limit scope locals t) e is_err in
      let at = each_has (IsAt (tokens_of t)) (faults (term_read limit scope locals t)) e (at_from (tokens_of t) (faults (term_read limit scope locals t)) (term_faults limit scope locals t)) first.0 in
      let next : IsAt (tokens_of_items (First u us)) (word_fault 5 (front u)) = at_left (tokens_of u) (tokens_of_items us) (word_fault 5 (front u)) (at_front u (word_fault 5 (front u)) refl refl) in
      let later : NoneBefore e (word_fault 5 (front u) ∷ []) = none_later (tokens_of t) (tokens_of_items (First u us)) e (word_fault 5 (front u) ∷ []) order at (next, tt) in
      subst (OneRuns (First t (First u us)) closing)
      (sym (outcome_more (term_read limit scope locals t) e (word_fault 5 (front u)) first.0 first.1 later.0))
      (λ f fs code pending rest k.
      ap (run limit symbols (at_term (f ∷ fs) code locals pending)) (split t (First u us) (closing ∷ rest)) ∙ h (f ∷ fs) code pending (tokens_of_items (First u us) ++ closing ∷ rest) (takes f fs k))

  pub one_runs : (items : Trees) (closing : Word) → closing.kind ≡ kinds.RightParen → AreProper items → AreInOrder (tokens_of_items items)
      → ((t : Tree) (rest : Trees) → items ≡ First t rest → TermRuns limit nodes symbols scope is locals t (outcome (term_read limit scope locals t)))
      → OneRuns items closing (outcome (one_read items closing))
  unfolding tokens_of_items items_of
  one_runs Empty closing right proper order h = nothing closing right
  one_runs (First t Empty) closing right proper order h = alone t closing (outcome (term_read limit scope locals t)) (h t Empty refl)
  one_runs (First t (First u us)) closing right proper order h = not_alone t u us closing (outcome (term_read limit scope locals t)) refl proper.1.0 order (h t (First u us) refl)
