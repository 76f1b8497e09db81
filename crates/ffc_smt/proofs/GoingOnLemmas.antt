-- A script goes on where its text does.
use Rattle.std.proofs.Common.{◌≡◌, ℕ, zero, suc, ◌+◌, ◌≤◌, List, [], ◌∷◌, ◌++◌, length, take, drop, map, Some, None, Option, All, Contains, refl, sym, ap, ap₂, ◌∙◌, arith, append-nil, length-drop}
use Rattle.std.proofs.lemmas.List.{take-append-le}
use Rattle.std.proofs.lemmas.List.Elements.{All-head, All-tail, All-contains}
use Rattle.ffc_lex.specs.declared.tokens.Token.{Token}
use Rattle.ffc_lex.specs.declared.faults.ScriptFault.{ScriptFault}
use Rattle.ffc_lex.specs.Order.{IsInOrder}
use Rattle.ffc_lex.specs.Reading.{Stopped, Reading, forms_of, reading_of}
use Rattle.ffc_lex.specs.GoingOn.{IsFront}
use Rattle.ffc_lex.proofs.OrderLemmas.{forms_in_order}
use Rattle.ffc_smt.specs.Trees.{word_of, Tree, tree_of, form_tree}
use Rattle.ffc_smt.specs.Terms.{Command, Exit}
use Rattle.ffc_smt.specs.Scopes.{State, first_state}
use Rattle.ffc_smt.specs.Faults.{Read, Sound, Faulty, first_fault}
use Rattle.ffc_smt.specs.CommandReading.{Limits, command_read}
use Rattle.ffc_smt.specs.Scripts.{Step, Script, End, Done, ended, with_step, end_at, end_of_text, after, script_from, trees_of, reads_within}
use Rattle.ffc_smt.specs.GoingOn.{Run, Going, Over, after_step, run_from, run_of, with_steps, goes_on, runs_on}

-- Trees

drop_front : (n : ℕ) (xs ys : List ℕ) → n ≤ length xs → drop n (xs ++ ys) ≡ drop n xs ++ ys
drop_front zero xs ys h = refl
drop_front (suc n) [] ys h = absurd (omega arith)
drop_front (suc n) (x ∷ xs) ys h = drop_front n xs ys (omega arith)

word_stays : (text more : List ℕ) (t : Token) → t.start + t.length ≤ length text → word_of (text ++ more) t ≡ word_of text t
word_stays text more t h =
    let bytes : take t.length (drop t.start (text ++ more)) ≡ take t.length (drop t.start text) =
    ap (take t.length) (drop_front t.start text more (omega arith)) ∙ take-append-le t.length (drop t.start text) more (omega (arith, length-drop t.start text)) in
    ap (λ b. record { kind = t.kind; bytes = b; line = t.line; column = t.column }) bytes

words_stay : (text more : List ℕ) (form : List Token) → All (λ t. t.start + t.length ≤ length text) form → map (word_of (text ++ more)) form ≡ map (word_of text) form
words_stay text more [] h = refl
words_stay text more (t ∷ ts) h =
    let P = λ (u : Token). u.start + u.length ≤ length text in
    ap₂ (λ w ws. w ∷ ws) (word_stays text more t (All-head P t ts h)) (words_stay text more ts (All-tail P t ts h))

tree_stays_in : (text more : List ℕ) (form : List Token) → IsInOrder text form → form_tree (text ++ more) form ≡ form_tree text form
tree_stays_in text more form h = ap tree_of (words_stay text more form h.within)

pub tree_stays : (text more : List ℕ) (form : List Token) → Contains (forms_of text) form → form_tree (text ++ more) form ≡ form_tree text form
tree_stays text more form has = tree_stays_in text more form (All-contains (IsInOrder text) (forms_of text) form (forms_in_order text) has)

abbrev with_tree : Option Tree → List Tree → List Tree
with_tree None ts = ts
with_tree (Some t) ts = t ∷ ts

trees_cons : (text : List ℕ) (form : List Token) (forms : List (List Token)) → trees_of text (form ∷ forms) ≡ with_tree (form_tree text form) (trees_of text forms)
trees_cons text form forms = by_tree (form_tree text form)
  where
    by_tree : (o : Option Tree) → (elim o [ None ↦ trees_of text forms | Some t ↦ t ∷ trees_of text forms ]) ≡ with_tree o (trees_of text forms)
    by_tree None = refl
    by_tree (Some t) = refl

with_tree_append : (o : Option Tree) (ts us : List Tree) → with_tree o ts ++ us ≡ with_tree o (ts ++ us)
with_tree_append None ts us = refl
with_tree_append (Some t) ts us = refl

trees_stay : (text more : List ℕ) (forms rest : List (List Token)) → All (IsInOrder text) forms → trees_of (text ++ more) (forms ++ rest) ≡ trees_of text forms ++ trees_of (text ++ more) rest
trees_stay text more [] rest h = refl
trees_stay text more (form ∷ forms) rest h =
    let P = IsInOrder text in
    trees_cons (text ++ more) form (forms ++ rest)
    ∙ ap₂ with_tree (tree_stays_in text more form (All-head P form forms h)) (trees_stay text more forms rest (All-tail P form forms h))
    ∙ sym (with_tree_append (form_tree text form) (trees_of text forms) (trees_of (text ++ more) rest))
    ∙ ap (λ ts. ts ++ trees_of (text ++ more) rest) (sym (trees_cons text form forms))

-- Scripts

step_goes : (x : Step) (r : Run) (next : State → Script) → goes_on (after_step x r) next ≡ with_step x (goes_on r next)
step_goes x (Going xs s) next = refl
step_goes x (Over script) next = refl

step_runs : (x : Step) (r : Run) (next : State → Run) → runs_on (after_step x r) next ≡ after_step x (runs_on r next)
step_runs x (Going xs s) next = refl
step_runs x (Over script) next = refl

module _ (l : Limits) where
  abbrev Next : State → Tree → (Tree → Command → Script) → Read Command → Script
  Next s t more r = elim r [
    | Faulty f fs ↦ ended (end_at (first_fault f fs))
    | Sound Exit ↦ with_step (record { before = s; tree = t; command = Exit }) (ended Done)
    | Sound c ↦ with_step (record { before = s; tree = t; command = c }) (more t c)
  ]

  abbrev NextRun : State → Tree → (Tree → Command → Run) → Read Command → Run
  NextRun s t more r = elim r [
    | Faulty f fs ↦ Over (ended (end_at (first_fault f fs)))
    | Sound Exit ↦ Over (with_step (record { before = s; tree = t; command = Exit }) (ended Done))
    | Sound c ↦ after_step (record { before = s; tree = t; command = c }) (more t c)
  ]

  next_goes : (s : State) (t : Tree) (more : Tree → Command → Script) (runs : Tree → Command → Run) (next : State → Script) (r : Read Command) → ((c : Command) → more t c ≡ goes_on (runs t c) next)
      → Next s t more r ≡ goes_on (NextRun s t runs r) next
  next_goes s t more runs next (Faulty f fs) h = refl
  next_goes s t more runs next (Sound Exit) h = refl
  next_goes s t more runs next (Sound c) h =
      let x : Step = record { before = s; tree = t; command = c } in
      ap (with_step x) (h c) ∙ sym (step_goes x (runs t c) next)

  next_runs : (s : State) (t : Tree) (more runs : Tree → Command → Run) (next : State → Run) (r : Read Command) → ((c : Command) → more t c ≡ runs_on (runs t c) next)
      → NextRun s t more r ≡ runs_on (NextRun s t runs r) next
  next_runs s t more runs next (Faulty f fs) h = refl
  next_runs s t more runs next (Sound Exit) h = refl
  next_runs s t more runs next (Sound c) h =
      let x : Step = record { before = s; tree = t; command = c } in
      ap (after_step x) (h c) ∙ sym (step_runs x (runs t c) next)

  pub script_goes : (ts us : List Tree) (s : State) (end : End) → script_from l s (ts ++ us) end ≡ goes_on (run_from l s ts) (λ now. script_from l now us end)
  unfolding script_from run_from
  script_goes [] us s end = refl
  script_goes (t ∷ ts) us s end =
      next_goes s t (λ t c. script_from l (after s t c) (ts ++ us) end) (λ t c. run_from l (after s t c) ts) (λ now. script_from l now us end) (command_read l s t)
      (λ c. script_goes ts us (after s t c) end)

  pub run_goes : (ts us : List Tree) (s : State) → run_from l s (ts ++ us) ≡ runs_on (run_from l s ts) (λ now. run_from l now us)
  unfolding run_from
  run_goes [] us s = refl
  run_goes (t ∷ ts) us s =
      next_runs s t (λ t c. run_from l (after s t c) (ts ++ us)) (λ t c. run_from l (after s t c) ts) (λ now. run_from l now us) (command_read l s t) (λ c. run_goes ts us (after s t c))

  script_none : (s : State) (end : End) → script_from l s [] end ≡ ended end
  unfolding script_from
  script_none s end = refl

  goes_same : (r : Run) (one two : State → Script) → ((s : State) → one s ≡ two s) → goes_on r one ≡ goes_on r two
  goes_same (Going xs s) one two h = ap (with_steps xs) (h s)
  goes_same (Over script) one two h = refl

  pub reads_are : (text : List ℕ) → reads_within l text ≡ goes_on (run_of l text) (λ now. ended (end_of_text (reading_of text).end))
  unfolding reads_within
  reads_are text =
      let ts = trees_of text (forms_of text) in
      let end = end_of_text (reading_of text).end in
      ap (λ us. script_from l first_state us end) (sym (append-nil ts)) ∙ script_goes ts [] first_state end
      ∙ goes_same (run_of l text) (λ now. script_from l now [] end) (λ now. ended end) (λ now. script_none now end)

  with_steps_are : (xs : List Step) (script : Script) → (with_steps xs script).steps ≡ xs ++ script.steps
  with_steps_are [] script = refl
  with_steps_are (x ∷ xs) script = ap (λ ys. x ∷ ys) (with_steps_are xs script)

  goes_steps : (r : Run) (e : End) (next : State → Script) → (rest : List Step) × ((goes_on r next).steps ≡ (goes_on r (λ now. ended e)).steps ++ rest)
  goes_steps (Going xs s) e next =
      ((next s).steps, with_steps_are xs (next s) ∙ ap (λ ys. ys ++ (next s).steps) (sym (append-nil xs) ∙ sym (with_steps_are xs (ended e))))
  goes_steps (Over script) e next = ([], sym (append-nil script.steps))

  module _ (goes : (text more : List ℕ) → IsFront (reading_of text) (reading_of (text ++ more))) where
    pub longer_goes : (text more : List ℕ) → (us : List Tree) × (reads_within l (text ++ more) ≡ goes_on (run_of l text) (λ now. script_from l now us (end_of_text (reading_of (text ++ more)).end)))
    unfolding reads_within
    longer_goes text more =
        let front = goes text more in
        let us = trees_of (text ++ more) front.rest in
        let ts = trees_of text (forms_of text) in
        let end = end_of_text (reading_of (text ++ more)).end in (
          us,
          ap (λ forms. script_from l first_state (trees_of (text ++ more) forms) end) front.forms
              ∙ ap (λ vs. script_from l first_state vs end) (trees_stay text more (forms_of text) front.rest (forms_in_order text)) ∙ script_goes ts us first_state end,
        )

    pub steps_go : (text more : List ℕ) → (rest : List Step) × ((reads_within l (text ++ more)).steps ≡ (reads_within l text).steps ++ rest)
    steps_go text more =
        let longer = longer_goes text more in
        let all = goes_steps (run_of l text) (end_of_text (reading_of text).end) (λ now. script_from l now longer.0 (end_of_text (reading_of (text ++ more)).end)) in
        (all.0, ap (λ x. x.steps) longer.1 ∙ all.1 ∙ ap (λ x. x.steps ++ all.0) (sym (reads_are text)))

    pub stopped_goes : (text more : List ℕ) (fault : ScriptFault) → (reading_of text).end ≡ Stopped fault → reads_within l (text ++ more) ≡ reads_within l text
    unfolding reads_within
    stopped_goes text more fault e =
        let front = goes text more in
        let same : reading_of (text ++ more) ≡ reading_of text = front.fault fault e in
        let trees = trees_stay text more (forms_of text) [] (forms_in_order text) in
        ap (λ (r : Reading). script_from l first_state (trees_of (text ++ more) r.forms) (end_of_text r.end)) same
        ∙ ap (λ ts. script_from l first_state ts (end_of_text (reading_of text).end)) (ap (trees_of (text ++ more)) (sym (append-nil (forms_of text))) ∙ trees ∙ append-nil (trees_of text (forms_of text)))
