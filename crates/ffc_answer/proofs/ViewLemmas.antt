-- A view of a step shows the answer to it.
use Rattle.std.proofs.Common.{◌≡◌, ℕ, ◌<◌, ◌≤◌, Bool, true, false, cond, List, [], ◌∷◌, ◌++◌, length, map, All, Option, Some, None, option_map, refl, sym, ap, ap₂, ◌∙◌, subst, arith, append-nil, length-append}
use Rattle.std.specs.Option.{option_copied}
use Rattle.std.proofs.lemmas.List.{length-map}
use Rattle.std.proofs.lemmas.List.Elements.{All-weaker}
use Rattle.std.proofs.lemmas.Option.{slice_get_within}
use Rattle.ffc_lex.specs.Names.{written_symbol}
use Rattle.ffc_cert.specs.declared.entries.Entry.{Entry}
use Rattle.ffc_cert.specs.declared.entries.Entry.TheVariants.{Sat, UnsatCases, UnsatSteps, Unknown}
use Rattle.ffc_term.specs.declared.node.Node.{Node}
use Rattle.ffc_term.specs.declared.value.Value.{Value}
use Rattle.ffc_term.specs.Nodes.{IsNodeAt, IsConstantAt}
use Rattle.ffc_term.specs.Tables.{constant_count}
use Rattle.ffc_smt.specs.Terms.{Name, Constant}
use Rattle.ffc_smt.specs.Terms as smt
use Rattle.ffc_smt.specs.Making.{constant_node}
use Rattle.ffc_smt.specs.Scopes.{State, Declared, declared_of, assertions_of}
use Rattle.ffc_smt.specs.States.{IsSoundState}
use Rattle.ffc_smt.specs.ScriptLaw.{HasNode}
use Rattle.ffc_smt.specs.Scripts.{Step, after}
use Rattle.ffc_smt.specs.TableChecks.{TableCheck, node_of, declared_nodes, nodes_in_force, names_in_force}
use Rattle.ffc_smt.specs.CheckLaws.{HasConstantNode}
use Rattle.ffc_smt.specs.Answering.{asked_text}
use Rattle.ffc_smt.proofs.Extends.{Extends, node_stays}
use Rattle.ffc_smt.proofs.DeclaredLemmas.{node_there}
use Rattle.ffc_rules.specs.Assignments.{listed_assignment}
use Rattle.ffc_rules.specs.Cores.{names_at}
use Rattle.ffc_elab.specs.declared.answers.Asked.{Asked}
use Rattle.ffc_elab.specs.declared.answers.Effect.{Effect}
use Rattle.ffc_elab.specs.declared.answers.Command.{Command}
use Rattle.ffc_elab.specs.declared.answers.Command.TheVariants as command
use Rattle.ffc_elab.specs.Histories.{Known, assumptions_of, check_now, known_of}
use Rattle.ffc_elab.specs.Answers.{Says, IsQuiet, ChecksUnder, AsksFor, IsAnswered, asked_as, declared_as}
use Rattle.ffc_elab.specs.Contexts.{asked_nodes, terms_of}
use Rattle.ffc_elab.proofs.ContextLemmas.{asked_have_nodes, context_is_sound, from_map}
use Rattle.ffc_answer.specs.declared.view.View.{View}
use Rattle.ffc_answer.specs.Answers.{Last, line, listed, error_answer, no_assumptions, model_of, core_of, model_answer, values_answer, core_answer, assumptions_answer, assumption_texts, reason_answer, verdict_answer, success_answer, answer_to, answer_of}
use Rattle.ffc_answer.specs.Seen.{pairs_of, pairs_seen, model_by, model_seen, values_by, values_seen, is_refutation, has_core, core_seen, assumed_texts, assumptions_by, assumptions_seen, reason_seen, verdict_seen, success_seen, answer_seen, FitsModel, EntryHasBudget, CanAnswer}
use Rattle.ffc_answer.specs.Views.{IsEntryFor, IsRemembered, IsRememberedAt, IsFreshAs, IsView, entry_of, numbers_of, assumed_of}
use Rattle.ffc_answer.proofs.SeenLemmas.{listed_stays, definitions_are, pairs_are, by_model, by_core, names_without, nones, none_for_each}

-- Models

record IsModelOf (s : State) (k : Last) (pairs : List (ℕ × ℕ)) : Type 0 where
  same : listed_assignment s.nodes pairs ≡ listed_assignment k.check.nodes pairs
  at : All (λ d. IsNodeAt s.nodes (node_of s.nodes (Constant d.number d.sort)) (constant_node d.number d.sort)) (declared_of s)
  within : All (λ p. p.0 < length s.nodes) pairs

constant_within : (ns : List Node) (id : ℕ) → IsConstantAt ns id → id < length ns
constant_within ns id (n, at, is) = slice_get_within ns id n at

constant_there : (c : TableCheck) (s : State) → IsSoundState s → Extends c.nodes s.nodes → (d : Declared) → HasConstantNode c d → IsNodeAt s.nodes (node_of s.nodes (Constant d.number d.sort)) (constant_node d.number d.sort)
constant_there c s sound grown d has =
    let n = constant_node d.number d.sort in
    let id = node_of c.nodes (Constant d.number d.sort) in
    let at = node_stays c.nodes s.nodes id n grown has.at in
    subst (λ k. IsNodeAt s.nodes k n) (sym (node_there s.nodes sound.nodes.table.well_formed d.number d.sort id at)) at

is_model : (s : State) (k : Last) (pairs : List (ℕ × ℕ)) → IsSoundState s → IsRemembered k s → k.entry ≡ Sat pairs → k.fresh ≡ true → IsModelOf s k pairs
is_model s k pairs sound h sat fresh =
    let c = k.check in
    let kept = h.unchanged fresh in
    let more = h.grown.0 in
    let Within : ℕ → Type 0 = λ id. id < length c.nodes in
    let names : map (λ p. p.0) pairs ≡ declared_nodes c = subst (IsEntryFor c) sat h.entry in
    let constants : All Within (declared_nodes c) = All-weaker (IsConstantAt c.nodes) Within (constant_within c.nodes) (declared_nodes c) h.kept.valid.constants in
    let inside : All (λ p. p.0 < length c.nodes) pairs = from_map Within (λ p. p.0) pairs (subst (All Within) (sym names) constants) in
    let long : length c.nodes ≤ length s.nodes = omega (arith, ap length h.grown.1, length-append c.nodes more) in
    let counts : constant_count s.nodes ≡ constant_count c.nodes = sound.nodes.counted ∙ ap length kept.constants ∙ sym h.counted in
    record {
      same = ap (λ ns. listed_assignment ns pairs) h.grown.1 ∙ listed_stays c.nodes more pairs (ap constant_count (sym h.grown.1) ∙ counts) inside;
      at =
          subst (All (λ d. IsNodeAt s.nodes (node_of s.nodes (Constant d.number d.sort)) (constant_node d.number d.sort))) (sym kept.declared)
          (All-weaker (HasConstantNode c) (λ d. IsNodeAt s.nodes (node_of s.nodes (Constant d.number d.sort)) (constant_node d.number d.sort)) (constant_there c s sound h.grown) c.declared h.kept.declared);
      within = All-weaker (λ p. p.0 < length c.nodes) (λ p. p.0 < length s.nodes) (λ p less. omega arith) pairs inside;
    }

no_pairs : (fresh : Bool) → cond fresh (pairs_of None) None ≡ None
no_pairs true = refl
no_pairs false = refl

abbrev PairsOf : Option Last → Bool → Option (List (ℕ × ℕ))
PairsOf l fresh = cond fresh (pairs_of (entry_of l)) None

pub model_is : (s : State) (l : Option Last) (fresh : Bool) → IsSoundState s → IsRememberedAt l s → IsFreshAs l fresh
    → model_by s.nodes (map (declared_as s.nodes) (declared_of s)) (PairsOf l fresh) ≡ model_answer (declared_of s) (model_of l)
model_is s None fresh sound h f = ap (model_by s.nodes (map (declared_as s.nodes) (declared_of s))) (no_pairs fresh)
model_is s (Some k) fresh sound h f =
    let By : Option (List (ℕ × ℕ)) → Option (List Value) → Type 0 = λ o m. model_by s.nodes (map (declared_as s.nodes) (declared_of s)) o ≡ model_answer (declared_of s) m in
    subst (λ b. By (PairsOf (Some k) b) (model_of (Some k))) (sym f)
    (by_model By k.check k.entry k.fresh refl (λ pairs sat yes.
    let is = is_model s k pairs sound h sat yes in
    ap (λ t. line (40 ∷ []) ++ t ++ line (41 ∷ [])) (definitions_are s.nodes pairs (listed_assignment k.check.nodes pairs) (declared_of s) is.same sound.nodes.table.well_formed is.at)))

pub values_are : (s : State) (l : Option Last) (fresh : Bool) (asked : List smt.Asked) → IsSoundState s → IsRememberedAt l s → IsFreshAs l fresh → All (λ a. HasNode s.nodes a.term) asked
    → values_by s.nodes (map (asked_as s.nodes) asked) (PairsOf l fresh) ≡ values_answer asked (model_of l)
values_are s None fresh asked sound h f has = ap (values_by s.nodes (map (asked_as s.nodes) asked)) (no_pairs fresh)
values_are s (Some k) fresh asked sound h f has =
    let By : Option (List (ℕ × ℕ)) → Option (List Value) → Type 0 = λ o m. values_by s.nodes (map (asked_as s.nodes) asked) o ≡ values_answer asked m in
    subst (λ b. By (PairsOf (Some k) b) (model_of (Some k))) (sym f)
    (by_model By k.check k.entry k.fresh refl (λ pairs sat yes.
    ap listed (pairs_are s.nodes pairs (listed_assignment k.check.nodes pairs) asked (is_model s k pairs sound h sat yes).same has)))

-- what a model lists is in the table
abbrev ModelFits : State → Option (List (ℕ × ℕ)) → Type 0
ModelFits s o = (pairs : List (ℕ × ℕ)) → o ≡ Some pairs → All (λ p. p.0 < length s.nodes) pairs

none_fits : (s : State) → ModelFits s None
none_fits s pairs e = cc

pub model_fits : (s : State) (l : Option Last) (fresh : Bool) → IsSoundState s → IsRememberedAt l s → IsFreshAs l fresh → ModelFits s (PairsOf l fresh)
model_fits s None fresh sound h f = subst (ModelFits s) (sym (no_pairs fresh)) (none_fits s)
model_fits s (Some k) fresh sound h f =
    let By : Option (List (ℕ × ℕ)) → Option (List Value) → Type 0 = λ o m. ModelFits s o in
    subst (λ b. ModelFits s (PairsOf (Some k) b)) (sym f)
    (by_model By k.check k.entry k.fresh (none_fits s) (λ pairs sat yes others e.
    let same : pairs ≡ others = cc in
    subst (λ ps. All (λ p. p.0 < length s.nodes) ps) same (is_model s k pairs sound h sat yes).within))

-- Cores

abbrev without : State → Known
without s = record { state = s; assumptions = [] }

names_same : (s : State) (k : Last) (numbers : List ℕ) → assertions_of s ≡ k.check.check.assertions → names_at (names_in_force (check_now (without s))) numbers ≡ names_at (names_in_force k.check) numbers
names_same s k numbers same =
    let c = k.check.check in
    ap (λ names. names_at names numbers) (append-nil (map (λ a. a.label) (assertions_of s)) ∙ ap (map (λ a. a.label)) same)
    ∙ sym (names_without (map (λ a. a.label) c.assertions) c.assumptions numbers)

pub core_is : (s : State) (l : Option Last) (fresh : Bool) → IsRememberedAt l s → IsFreshAs l fresh
    → cond (is_refutation (entry_of l) fresh) (listed (map written_symbol (names_at (names_in_force (check_now (without s))) (numbers_of l)))) (error_answer (110 ∷ 111 ∷ 32 ∷ 99 ∷ 111 ∷ 114 ∷ 101 ∷ [])) ≡ core_answer l
core_is s None fresh h f = refl
core_is s (Some k) fresh h f =
    let there = listed (map written_symbol (names_at (names_in_force (check_now (without s))) (numbers_of (Some k)))) in
    let none = error_answer (110 ∷ 111 ∷ 32 ∷ 99 ∷ 111 ∷ 114 ∷ 101 ∷ []) in
    let By : Bool → Option (List ℕ) → Type 0 = λ b o. cond b there none ≡ elim o [ None ↦ none | Some numbers ↦ listed (map written_symbol (names_at (names_in_force k.check) numbers)) ] in
    subst (λ b. By (is_refutation (Some k.entry) b) (core_of k)) (sym f)
    (by_core By k.check k.entry k.fresh refl (λ yes.
    ap (λ names. listed (map written_symbol names)) (names_same s k (numbers_of (Some k)) (h.unchanged yes).asserted)))

map_some : {A : Type 0} (f : A → List ℕ) (xs : List A) → map (λ x. Some (f x)) xs ≡ map (λ t. Some t) (map f xs)
map_some f [] = refl
map_some f (x ∷ xs) = ap (λ ys. Some (f x) ∷ ys) (map_some f xs)

assertions_counted : (s : State) → length (nodes_in_force (check_now (without s))) ≡ length (assertions_of s)
assertions_counted s =
    let terms = map (λ a. a.term) (assertions_of s) in
    length-map (terms ++ []) (node_of s.nodes) ∙ ap length (append-nil terms) ∙ length-map (assertions_of s) (λ a. a.term)

texts_same : (s : State) (k : Last) (seen : List Asked) (asked : List smt.Asked) → map (λ a. a.text) seen ≡ map asked_text asked → assertions_of s ≡ k.check.check.assertions
    → assumed_texts (length (nodes_in_force (check_now (without s)))) seen ≡ assumption_texts k.check asked
texts_same s k seen asked texts same =
    ap₂ (λ (front back : List (Option Name)). front ++ back)
    (ap nones (assertions_counted s ∙ ap length same) ∙ none_for_each k.check.check.assertions)
    (map_some (λ a. a.text) seen ∙ ap (map (λ t. Some t)) texts ∙ sym (map_some asked_text asked))

assumptions_by_core : (s : State) (k : Last) (fresh : Bool) → IsRemembered k s → fresh ≡ k.fresh → (o : Option (List Asked)) (a : Option (List smt.Asked))
    → option_map (λ asked. map (λ x. x.text) asked) o ≡ option_map (map asked_text) a
    → assumptions_by (is_refutation (Some k.entry) fresh) (length (nodes_in_force (check_now (without s)))) (numbers_of (Some k)) o
    ≡ elim a [ None ↦ no_assumptions | Some asked ↦ elim (core_of k) [ None ↦ no_assumptions | Some numbers ↦ listed (names_at (assumption_texts k.check asked) numbers) ] ]
assumptions_by_core s k fresh h f None None e = refl
assumptions_by_core s k fresh h f None (Some asked) e = cc
assumptions_by_core s k fresh h f (Some seen) None e = cc
assumptions_by_core s k fresh h f (Some seen) (Some asked) e =
    let texts : map (λ a. a.text) seen ≡ map asked_text asked = cc in
    let there = listed (names_at (assumed_texts (length (nodes_in_force (check_now (without s)))) seen) (numbers_of (Some k))) in
    let By : Bool → Option (List ℕ) → Type 0 = λ b o. cond b there no_assumptions ≡ elim o [ None ↦ no_assumptions | Some numbers ↦ listed (names_at (assumption_texts k.check asked) numbers) ] in
    subst (λ b. By (is_refutation (Some k.entry) b) (core_of k)) (sym f)
    (by_core By k.check k.entry k.fresh refl (λ yes. ap (λ names. listed (names_at names (numbers_of (Some k)))) (texts_same s k seen asked texts (h.unchanged yes).asserted)))

no_texts : (b : Bool) (n : ℕ) (numbers : List ℕ) (o : Option (List Asked)) → option_map (λ asked. map (λ x. x.text) asked) o ≡ None → assumptions_by b n numbers o ≡ no_assumptions
no_texts b n numbers None e = refl
no_texts b n numbers (Some seen) e = cc

pub assumptions_are : (s : State) (l : Option Last) (fresh : Bool) (o : Option (List Asked)) → IsRememberedAt l s → IsFreshAs l fresh → option_map (λ asked. map (λ x. x.text) asked) o ≡ assumed_of l
    → assumptions_by (is_refutation (entry_of l) fresh) (length (nodes_in_force (check_now (without s)))) (numbers_of l) o ≡ assumptions_answer l
assumptions_are s None fresh o h f e = no_texts (is_refutation None fresh) (length (nodes_in_force (check_now (without s)))) [] o e
assumptions_are s (Some k) fresh o h f e = assumptions_by_core s k fresh h f o k.asked e

-- Others

pub reason_is : (l : Option Last) → reason_seen (entry_of l) ≡ reason_answer l
reason_is None = refl
reason_is (Some k) = refl

pub verdict_is : (l : Option Last) → verdict_seen (entry_of l) ≡ verdict_answer l
verdict_is None = refl
verdict_is (Some k) = refl

entry_budget : (c : TableCheck) (entry : Entry) → IsEntryFor c entry → EntryHasBudget (Some entry)
entry_budget c (Sat pairs) h = tt
entry_budget c UnsatCases h = tt
entry_budget c (UnsatSteps lines) h = tt
entry_budget c (Unknown cause) h = h

pub has_budget : (s : State) (l : Option Last) → IsRememberedAt l s → EntryHasBudget (entry_of l)
has_budget s None h = tt
has_budget s (Some k) h = entry_budget k.check k.entry h.entry

abbrev no_core : List ℕ
no_core = error_answer (110 ∷ 111 ∷ 32 ∷ 99 ∷ 111 ∷ 114 ∷ 101 ∷ [])

abbrev success_text : List ℕ
success_text = 115 ∷ 117 ∷ 99 ∷ 99 ∷ 101 ∷ 115 ∷ 115 ∷ []

-- What a command was answered, by its kind

module _ (v : View) (asked_for : Command) (l : Option Last) (x : Step) (h : IsView v asked_for l x) where
  abbrev Now : State
  Now = after x.before x.tree x.command

  abbrev Knows : Known
  Knows = record { state = Now; assumptions = assumptions_of x.command }

  sound : IsSoundState Now
  sound = subst (λ (k : Known). IsSoundState k.state) h.known (context_is_sound v.context.now).state

  pairs_left : pairs_seen v ≡ PairsOf l v.fresh
  pairs_left = ap (λ o. cond v.fresh (pairs_of o) None) h.last

  model_here : model_seen v ≡ model_answer (declared_of Now) (model_of l)
  model_here =
      ap (λ (k : Known). model_by k.state.nodes (map (declared_as k.state.nodes) (declared_of k.state)) (pairs_seen v)) h.known
      ∙ ap (model_by Now.nodes (map (declared_as Now.nodes) (declared_of Now))) pairs_left
      ∙ model_is Now l v.fresh sound h.remembered h.fresh

  has_nodes : (asked : List smt.Asked) → x.command ≡ smt.GetValue asked → All (λ a. HasNode Now.nodes a.term) asked
  has_nodes asked is = from_map (HasNode Now.nodes) (λ (a : smt.Asked). a.term) asked (subst (λ c. All (HasNode Now.nodes) (terms_of c)) is h.values)

  values_here : (asked : List smt.Asked) (terms : List Asked) → x.command ≡ smt.GetValue asked → terms ≡ map (asked_as Now.nodes) asked → values_seen v terms ≡ values_answer asked (model_of l)
  values_here asked terms is same =
      ap (λ (k : Known). values_by k.state.nodes terms (pairs_seen v)) h.known
      ∙ ap₂ (values_by Now.nodes) same pairs_left
      ∙ values_are Now l v.fresh asked sound h.remembered h.fresh (has_nodes asked is)

  known_without : assumptions_of x.command ≡ [] → check_now (known_of v.context.now) ≡ check_now (without Now)
  known_without none = ap check_now (h.known ∙ ap (λ as_. record { state = Now; assumptions = as_ }) none)

  there : has_core v ≡ is_refutation (entry_of l) v.fresh
  there = ap (λ o. is_refutation o v.fresh) h.last

  core_here : assumptions_of x.command ≡ [] → core_seen v ≡ core_answer l
  core_here none =
      ap₂ (λ b c. cond b (listed (map written_symbol (names_at (names_in_force c) v.core.now))) no_core) there (known_without none)
      ∙ ap (λ numbers. cond (is_refutation (entry_of l) v.fresh) (listed (map written_symbol (names_at (names_in_force (check_now (without Now))) numbers))) no_core) h.core
      ∙ core_is Now l v.fresh h.remembered h.fresh

  assumptions_here : assumptions_of x.command ≡ [] → assumptions_seen v ≡ assumptions_answer l
  assumptions_here none =
      ap₂ (λ b c. assumptions_by b (length (nodes_in_force c)) v.core.now (option_copied v.asked)) there (known_without none)
      ∙ ap (λ numbers. assumptions_by (is_refutation (entry_of l) v.fresh) (length (nodes_in_force (check_now (without Now)))) numbers (option_copied v.asked)) h.core
      ∙ assumptions_are Now l v.fresh (option_copied v.asked) h.remembered h.fresh h.asked

  reason_here : reason_seen (option_copied v.last) ≡ reason_answer l
  reason_here = ap reason_seen h.last ∙ reason_is l

  verdict_here : verdict_seen (option_copied v.last) ≡ verdict_answer l
  verdict_here = ap verdict_seen h.last ∙ verdict_is l

  success_here : success_seen v ≡ success_answer Now
  success_here = ap (λ (k : Known). cond k.state.options.print_success (line success_text) []) h.known

  says : (text : List ℕ) (r : Command) → Says text r → answer_seen v r ≡ line text
  says text (command.Say t) e = ap line e
  says text _ e = absurd e

  quiet : (e : Effect) (r : Command) → IsQuiet e r → answer_seen v r ≡ success_answer Now
  quiet e (command.Quiet f) same = success_here
  quiet e _ same = absurd same

  checks : (terms : List Asked) (r : Command) → ChecksUnder terms r → answer_seen v r ≡ verdict_answer l
  checks terms (command.CheckAssuming found) same = verdict_here
  checks terms _ same = absurd same

  asks : (asked : List smt.Asked) (r : Command) → x.command ≡ smt.GetValue asked → AsksFor (map (asked_as Now.nodes) asked) r → answer_seen v r ≡ values_answer asked (model_of l)
  asks asked (command.GetValue terms) is same = values_here asked terms.items is same
  asks asked _ is same = absurd same

  answer_is : (c : smt.Command) (r : Command) → x.command ≡ c → IsAnswered Now c r → answer_seen v r ≡ answer_to l Now c
  answer_is (smt.GetOption o) r is a = says _ r a
  answer_is (smt.GetInfo smt.SolverName) r is a = says _ r a
  answer_is (smt.GetInfo smt.Version) r is a = says _ r a
  answer_is (smt.GetInfo smt.AssertionStackLevels) r is a = says _ r a
  answer_is (smt.GetInfo smt.ReasonUnknown) r is a = ap (answer_seen v) a ∙ reason_here
  answer_is smt.Unsupported r is a = ap (answer_seen v) a
  answer_is (smt.Echo bytes) r is a = says bytes r a
  answer_is smt.CheckSat r is a = ap (answer_seen v) a ∙ verdict_here
  answer_is (smt.CheckSatAssuming asked) r is a = checks _ r a
  answer_is smt.GetModel r is a = ap (answer_seen v) a ∙ model_here
  answer_is (smt.GetValue asked) r is a = asks asked r is a
  answer_is smt.GetUnsatCore r is a = ap (answer_seen v) a ∙ core_here (ap assumptions_of is)
  answer_is smt.GetUnsatAssumptions r is a = ap (answer_seen v) a ∙ assumptions_here (ap assumptions_of is)
  answer_is smt.Exit r is a = ap (answer_seen v) a
  answer_is smt.SetLogic r is a = quiet _ r a
  answer_is (smt.SetOption o b) r is a = quiet _ r a
  answer_is smt.SetInfo r is a = quiet _ r a
  answer_is (smt.Declare name s) r is a = quiet _ r a
  answer_is (smt.DefineSort name s) r is a = quiet _ r a
  answer_is (smt.Define name parameters s t) r is a = quiet _ r a
  answer_is (smt.Assert label t) r is a = quiet _ r a
  answer_is (smt.Push n) r is a = quiet _ r a
  answer_is (smt.Pop n) r is a = quiet _ r a
  answer_is smt.ResetAssertions r is a = quiet _ r a
  answer_is smt.Reset r is a = quiet _ r a

  pub seen_is_answer : answer_seen v asked_for ≡ answer_of l x
  seen_is_answer = answer_is x.command asked_for refl h.answered

  -- and what it looks at is there

  fits : FitsModel v
  fits pairs e =
      subst (λ (k : Known). All (λ p. p.0 < length k.state.nodes) pairs) (sym h.known) (model_fits Now l v.fresh sound h.remembered h.fresh pairs (sym pairs_left ∙ e))

  pub view_can_answer : CanAnswer v asked_for
  view_can_answer = record {
    model = fits;
    asked = subst (λ (k : Known). All (λ id. id < length k.state.nodes) (asked_nodes asked_for)) (sym h.known) (asked_have_nodes Now x.command asked_for h.answered h.values);
    budget = subst EntryHasBudget (sym h.last) (has_budget Now l h.remembered);
  }
