-- The first forms of a text, run from the start.
use Rattle.std.proofs.Common.{◌≡◌, ℕ, zero, suc, ◌+◌, ◌<◌, ◌≤◌, List, [], ◌∷◌, ◌++◌, length, take, drop, Some, None, Option, All, Contains, refl, sym, ap, ap₂, ◌∙◌, arith, append-nil}
use Rattle.std.proofs.lemmas.List.{take-append-le, take-append-drop, take_more, length-append}
use Rattle.std.proofs.lemmas.List.Elements.{All-head, All-tail, All-take, All-weaker, All-contains_itself}
use Rattle.std.proofs.lemmas.Option.{slice_get_within, get_or_from_slice_get}
use Rattle.ffc_lex.specs.declared.tokens.Token.{Token}
use Rattle.ffc_lex.specs.declared.faults.ScriptFault.{ScriptFault}
use Rattle.ffc_lex.specs.Lexing.{next_form_of}
use Rattle.ffc_lex.specs.Reading.{Stopped, stop_fault, End as TextEnd, Between, Within, forms_of, fault_of, reading_of}
use Rattle.ffc_lex.proofs.GoesOnLemmas.{goes_on as text_goes_on}
use Rattle.ffc_smt.specs.Trees.{Tree, form_tree}
use Rattle.ffc_smt.specs.Scopes.{State, first_state}
use Rattle.ffc_smt.specs.CommandReading.{limits}
use Rattle.ffc_smt.specs.Scripts.{Step, Script, End, ended, with_step, end_of_text, script_from, trees_of, reads_within, reads}
use Rattle.ffc_smt.specs.GoingOn.{Run, Going, Over, after_step, run_from, run_of, with_steps, goes_on, runs_on}
use Rattle.ffc_smt.proofs.GoingOnLemmas.{tree_stays, script_goes, run_goes, reads_are, stopped_goes}

-- Trees

abbrev with_tree : Option Tree → List Tree → List Tree
with_tree None ts = ts
with_tree (Some t) ts = t ∷ ts

trees_cons : (text : List ℕ) (form : List Token) (forms : List (List Token)) → trees_of text (form ∷ forms) ≡ with_tree (form_tree text form) (trees_of text forms)
trees_cons text form forms = by_tree (form_tree text form)
  where
    by_tree : (o : Option Tree) → (elim o [ None ↦ trees_of text forms | Some t ↦ t ∷ trees_of text forms ]) ≡ with_tree o (trees_of text forms)
    by_tree None = refl
    by_tree (Some t) = refl

with_tree_append : (o : Option Tree) (ts us : List Tree) → with_tree o ts ++ us ≡ with_tree o (ts ++ us)
with_tree_append None ts us = refl
with_tree_append (Some t) ts us = refl

pub trees_append : (text : List ℕ) (fs gs : List (List Token)) → trees_of text (fs ++ gs) ≡ trees_of text fs ++ trees_of text gs
trees_append text [] gs = refl
trees_append text (f ∷ fs) gs =
    trees_cons text f (fs ++ gs) ∙ ap (with_tree (form_tree text f)) (trees_append text fs gs)
    ∙ sym (with_tree_append (form_tree text f) (trees_of text fs) (trees_of text gs)) ∙ ap (λ ts. ts ++ trees_of text gs) (sym (trees_cons text f fs))

trees_same : (one two : List ℕ) (forms : List (List Token)) → All (λ f. form_tree one f ≡ form_tree two f) forms → trees_of one forms ≡ trees_of two forms
trees_same one two [] h = refl
trees_same one two (f ∷ fs) h =
    let P = λ (g : List Token). form_tree one g ≡ form_tree two g in
    trees_cons one f fs ∙ ap₂ with_tree (All-head P f fs h) (trees_same one two fs (All-tail P f fs h)) ∙ sym (trees_cons two f fs)

pub trees_length : (text : List ℕ) (forms : List (List Token)) → All (λ form. (tree : Tree) × (form_tree text form ≡ Some tree)) forms → length (trees_of text forms) ≡ length forms
trees_length text [] h = refl
trees_length text (f ∷ fs) h =
    let P = λ (g : List Token). (tree : Tree) × (form_tree text g ≡ Some tree) in
    let head = All-head P f fs h in
    ap length (trees_cons text f fs ∙ ap (λ o. with_tree o (trees_of text fs)) head.1) ∙ ap suc (trees_length text fs (All-tail P f fs h))

-- Runs

-- the first forms of a text
abbrev pub first_trees : List ℕ → ℕ → List Tree
first_trees text n = trees_of text (take n (forms_of text))

abbrev pub run_to : List ℕ → ℕ → Run
run_to text n = run_from limits first_state (first_trees text n)

-- where the text goes on, they are the same
pub first_forms_stay : (text more : List ℕ) (n : ℕ) → n ≤ length (forms_of text) → take n (forms_of (text ++ more)) ≡ take n (forms_of text)
first_forms_stay text more n h = let front = text_goes_on text more in ap (take n) front.forms ∙ take-append-le n (forms_of text) front.rest h

pub first_trees_stay : (text more : List ℕ) (n : ℕ) → n ≤ length (forms_of text) → first_trees (text ++ more) n ≡ first_trees text n
first_trees_stay text more n h =
    ap (trees_of (text ++ more)) (first_forms_stay text more n h)
    ∙ trees_same (text ++ more) text (take n (forms_of text))
    (All-take (λ f. form_tree (text ++ more) f ≡ form_tree text f) n (forms_of text)
    (All-weaker (Contains (forms_of text)) (λ f. form_tree (text ++ more) f ≡ form_tree text f) (λ f has. tree_stays text more f has) (forms_of text) (All-contains_itself (forms_of text))))

pub run_stays : (text more : List ℕ) (n : ℕ) → n ≤ length (forms_of text) → run_to (text ++ more) n ≡ run_to text n
run_stays text more n h = ap (run_from limits first_state) (first_trees_stay text more n h)

pub more_forms : (text more : List ℕ) → length (forms_of text) ≤ length (forms_of (text ++ more))
more_forms text more = let front = text_goes_on text more in rw front.forms (omega (arith, length-append (forms_of text) front.rest))

-- what a text says goes on from its first forms
pub reads_from : (text more : List ℕ) (n : ℕ) → n ≤ length (forms_of text)
    → (us : List Tree) × (reads (text ++ more) ≡ goes_on (run_to text n) (λ now. script_from limits now us (end_of_text (reading_of (text ++ more)).end)))
unfolding reads_within
reads_from text more n h =
    let forms = forms_of (text ++ more) in
    let us = trees_of (text ++ more) (drop n forms) in
    let end = end_of_text (reading_of (text ++ more)).end in (
      us,
      ap (λ fs. script_from limits first_state (trees_of (text ++ more) fs) end) (sym (take-append-drop n forms))
          ∙ ap (λ ts. script_from limits first_state ts end) (trees_append (text ++ more) (take n forms) (drop n forms) ∙ ap (λ ts. ts ++ us) (first_trees_stay text more n h))
          ∙ script_goes limits (first_trees text n) us first_state end,
    )

-- one more form
pub first_trees_more : (text : List ℕ) (n : ℕ) (form : List Token) (tree : Tree) → next_form_of text n ≡ Some form → form_tree text form ≡ Some tree
    → first_trees text (n + 1) ≡ first_trees text n ++ tree ∷ []
first_trees_more text n form tree e is =
    let at = get_or_from_slice_get (forms_of text) n form form e in
    ap (trees_of text) (take_more (forms_of text) n form (slice_get_within (forms_of text) n form e) ∙ ap (λ f. take n (forms_of text) ++ f ∷ []) at)
    ∙ trees_append text (take n (forms_of text)) (form ∷ []) ∙ ap (λ ts. first_trees text n ++ ts) (trees_cons text form [] ∙ ap (λ o. with_tree o []) is)

pub run_more : (text : List ℕ) (n : ℕ) (form : List Token) (tree : Tree) → next_form_of text n ≡ Some form → form_tree text form ≡ Some tree
    → run_to text (n + 1) ≡ runs_on (run_to text n) (λ now. run_from limits now (tree ∷ []))
run_more text n form tree e is = ap (run_from limits first_state) (first_trees_more text n form tree e is) ∙ run_goes limits (first_trees text n) (tree ∷ []) first_state

-- Steps

pub with_steps_is : (xs : List Step) (script : Script) → with_steps xs script ≡ record { steps = xs ++ script.steps; end = script.end }
with_steps_is [] script = refl
with_steps_is (x ∷ xs) script = ap (with_step x) (with_steps_is xs script)

pub going_on : (xs ys : List Step) (s t : State) (next : State → Run) → next s ≡ Going ys t → runs_on (Going xs s) next ≡ Going (xs ++ ys) t
going_on [] ys s t next e = e
going_on (x ∷ xs) ys s t next e = ap (after_step x) (going_on xs ys s t next e)

pub going_over : (xs : List Step) (s : State) (script : Script) (next : State → Run) → next s ≡ Over script → runs_on (Going xs s) next ≡ Over (record { steps = xs ++ script.steps; end = script.end })
going_over [] s script next e = e
going_over (x ∷ xs) s script next e = ap (after_step x) (going_over xs s script next e)
