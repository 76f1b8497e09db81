-- What is known after an assertion.
use Rattle.std.proofs.Common.{◌≡◌, ℕ, ◌≤◌, ⊎_elim, Bool, true, false, List, [], ◌∷◌, ◌++◌, All, length, if◌then◌else◌, Option, Some, None, Ok, Err, refl, sym, ap, ◌∙◌, subst, append-nil}
use Rattle.std.specs.Prelude.{option_map}
use Rattle.ffc_field.specs.Orders.{IsOrder}
use Rattle.ffc_term.specs.declared.node.Node.{Node}
use Rattle.ffc_term.specs.declared.node.Sort.TheVariants as sort
use Rattle.ffc_smt.specs.Trees.{Word, Tree, items_of}
use Rattle.ffc_smt.specs.Faults.{Sound, word_fault}
use Rattle.ffc_smt.specs.Terms.{Name, Term, weight}
use Rattle.ffc_smt.specs.Terms as smt
use Rattle.ffc_smt.specs.Making.{Made, made}
use Rattle.ffc_smt.specs.Scopes.{Meant, Assertion, Level, State, with_name, with_assertion, at_innermost}
use Rattle.ffc_smt.specs.CommandReading.{limits, nodes_after, command_weight, form_read, command_read}
use Rattle.ffc_smt.specs.Scripts.{after, labelled, named_orders, orders_in}
use Rattle.ffc_smt.specs.TableChecks.{node_of}
use Rattle.ffc_smt.proofs.Again.{made_anew}
use Rattle.ffc_smt.proofs.Extends.{extends_same}
use Rattle.ffc_smt.proofs.OrderLemmas.{named_are_orders}
use Rattle.ffc_smt.proofs.ReadLemmas.{IfSound}
use Rattle.ffc_smt.proofs.SoundStates.{IsSoundHere, Fine}
use Rattle.ffc_parts.specs.declared.heads.Head.{Head}
use Rattle.ffc_parts.specs.Growing.{IsDone}
use Rattle.ffc_terms.specs.Codes.{IsKnown as IsKnownNode}
use Rattle.ffc_words.specs.declared.faults.TakeStop.{TakeStop}
use Rattle.ffc_words.specs.declared.faults.TakeStop.TheVariants as stop
use Rattle.ffc_words.specs.Words.{word_at, fault_of}
use Rattle.ffc_words.specs.Outcomes.{outcome}
use Rattle.ffc_elab.specs.declared.asserting.Assertion.{Assertion as Asserted}
use Rattle.ffc_elab.specs.declared.answers.Command.TheVariants as command
use Rattle.ffc_elab.specs.declared.answers.Effect.TheVariants as effect
use Rattle.ffc_elab.specs.declared.store.Store.{Store}
use Rattle.ffc_elab.specs.Asserting.{IsAssertion, ReadsAssertion}
use Rattle.ffc_elab.specs.Histories.{Known}
use Rattle.ffc_elab.specs.Kept.{IsKept, IsKnown}
use Rattle.ffc_elab.specs.Changes.{HasGlobalNames, in_state, with_nodes, with_orders, with_state}
use Rattle.ffc_elab.specs.Making.{FitsOrNot, IsSoundRead, IsTooMuch}
use Rattle.ffc_elab.specs.Orders.{orders_of}
use Rattle.ffc_elab.specs.Reading.{IsFormOf, IsCommandForm, read_by_head}
use Rattle.ffc_elab.specs.Taking.{IsCommandTaken, TakesKept}
use Rattle.ffc_elab.proofs.ChangeLemmas.{plain_fault, room_read, full_read, heavy_read, sound_of}
use Rattle.ffc_elab.proofs.DeclareLemmas.{form_fine, front_is}
use Rattle.ffc_elab.proofs.GrowthLemmas.{kept_grown}
use Rattle.ffc_elab.proofs.SortNameLemmas.{form_orders}
use Rattle.ffc_elab.proofs.SameLemmas.{same_nodes}

-- A state with these levels and this option. Each state is one with its own.

abbrev set_out : State → List Level → Bool → State
set_out s levels global = record s { levels = levels; options = record s.options { global_declarations = global } }

commuted : (a : Assertion) (name : Name) (m : Meant) (s : State) (levels : List Level) (global : Bool)
    → with_assertion a (with_name name m (set_out s levels global)) ≡ with_name name m (with_assertion a (set_out s levels global))
commuted a name m s [] true = refl
commuted a name m s [] false = refl
commuted a name m s (l ∷ ls) true = refl
commuted a name m s (l ∷ ls) false = refl

-- a label is given before or after its assertion
pub label_then_assertion : (a : Assertion) (name : Name) (m : Meant) (s : State) → with_assertion a (with_name name m s) ≡ with_name name m (with_assertion a s)
label_then_assertion a name m s = commuted a name m s s.levels s.options.global_declarations

pub innermost_nodes : (change : Level → Level) (ls : List Level) (s : State) → (at_innermost change ls s).nodes ≡ s.nodes
innermost_nodes change [] s = refl
innermost_nodes change (l ∷ ls) s = refl

pub name_nodes : (name : Name) (m : Meant) (s : State) → (with_name name m s).nodes ≡ s.nodes
name_nodes name m s = innermost_nodes (λ l. record l { names = (name, m) ∷ l.names }) (if s.options.global_declarations then [] else s.levels) s

abbrev pub an_assertion : Option Name → Term → Assertion
an_assertion label t = record { term = t; label = label }

after_out : (s : State) (levels : List Level) (global : Bool) (tree : Tree) (label : Option Name) (t : Term)
    → after (set_out s levels global) tree (smt.Assert label t)
    ≡ with_orders (orders_in tree) (labelled label t (with_assertion (an_assertion label t) (with_nodes (made [] s.nodes t).nodes (set_out s levels global))))
unfolding after nodes_after named_orders
after_out s [] global tree None t = refl
after_out s (l ∷ ls) global tree None t = refl
after_out s [] true tree (Some name) t = refl
after_out s [] false tree (Some name) t = refl
after_out s (l ∷ ls) true tree (Some name) t = refl
after_out s (l ∷ ls) false tree (Some name) t = refl

assert_after : (s : State) (tree : Tree) (label : Option Name) (t : Term)
    → after s tree (smt.Assert label t) ≡ with_orders (orders_in tree) (labelled label t (with_assertion (an_assertion label t) (with_nodes (made [] s.nodes t).nodes s)))
assert_after s tree label t = after_out s s.levels s.options.global_declarations tree label t

-- The node of a term that was just made

pub just_known : (old new : List Node) (t : Term) (id : ℕ) → made [] old t ≡ record { nodes = new; id = id } → IsKnownNode new t id
just_known old new t id e = record {
  before = old;
  more = [];
  made_then = sym (ap (λ m. m.nodes) e) ∙ sym (append-nil (made [] old t).nodes);
  node = sym (ap (λ m. m.id) e);
}

pub just_made : (old new : List Node) (t : Term) (id : ℕ) → made [] old t ≡ record { nodes = new; id = id } → id ≡ node_of new t
just_made old new t id e =
    let again : node_of (made [] old t).nodes t ≡ (made [] old t).id = ap (λ m. m.id) (made_anew t [] old (made [] old t).nodes tt (extends_same (made [] old t).nodes)) in
    sym (ap (λ m. m.id) e) ∙ sym again ∙ ap (λ m. node_of m.nodes t) e

-- what is kept with its nodes
pub grown_by : (k : Known) (x y : Store) (t : Term) (id : ℕ) → IsKnown k → IsKept k x → y ≡ record x { table = y.table } → IsDone x.table y.table (made [] x.table t) id
    → IsKept (with_state k (with_nodes y.table k.state)) y
grown_by k x y t id known h e done =
    subst (IsKept (with_state k (with_nodes y.table k.state))) (sym e) (kept_grown k x y.table known h (done.grows.more, done.grows.put ∙ ap (λ ns. ns ++ done.grows.more) h.nodes))

-- The command

module _ (k : Known) (tree : Tree) (words : List Word) (known : IsKnown k) (h : Head) (form : IsCommandForm words k.state tree h) (label : Option Name) (t : Term)
    (e : read_by_head limits k.state h form.closing (items_of form.items) ≡ Sound (smt.Assert label t)) where
  abbrev s : State
  s = k.state

  abbrev asserted : List Node → State
  asserted nodes = labelled label t (with_assertion (an_assertion label t) (with_nodes nodes s))

  read_form : form_read limits s tree ≡ Sound (smt.Assert label t)
  read_form = sound_of (form_read limits s tree) (smt.Assert label t) (form.read ∙ ap outcome e)

  pub assert_sound : IsSoundHere s known.sound [] t sort.Bool
  assert_sound = subst (λ r. IfSound r (Fine s known.sound)) read_form (form_fine s known.sound tree)

  module _ (whole : IsFormOf words tree) where
    refused : IsTooMuch s.nodes t → outcome (command_read limits s tree) ≡ Err (word_fault 15 (word_at words 0))
    unfolding nodes_after command_weight
    refused much =
        ⊎_elim (λ heavy. heavy_read s tree (smt.Assert label t) heavy read_form) (λ many. full_read s tree (smt.Assert label t) many read_form) much
        ∙ ap (λ w. Err (word_fault 15 w)) (sym (front_is words tree whole.spelled))

    pub assert_stopped : (x y : Store) (why : TakeStop) → IsKept k x → y ≡ record x { table = y.table } → FitsOrNot words x.table y.table t (Err why) → TakesKept k tree y (Err why)
    assert_stopped x y (stop.Fault f) kept same fits = (
      refused (subst (λ ns. IsTooMuch ns t) kept.nodes fits.1) ∙ ap Err (sym fits.0),
      subst (IsKept k) (sym (same_nodes x y y.table same fits.2)) kept,
    )
    assert_stopped x y stop.Memory kept same fits = subst (IsKept k) (sym (same_nodes x y y.table same fits)) kept

    module _ (x y : Store) (id : ℕ) (kept : IsKept k x) (same : y ≡ record x { table = y.table }) (fits : FitsOrNot words x.table y.table t (Ok id)) where
      made_so : made [] s.nodes t ≡ record { nodes = y.table; id = id }
      made_so = ap (λ ns. made [] ns t) (sym kept.nodes) ∙ fits.1.made

      read_so : command_read limits s tree ≡ Sound (smt.Assert label t)
      unfolding nodes_after command_weight
      read_so = room_read s tree (smt.Assert label t) (subst (λ m. length m.nodes ≤ limits.nodes) (sym made_so) fits.1.grows.table.well_formed.within) fits.0 read_form

      orders : All IsOrder (orders_of words)
      unfolding named_orders
      orders = subst (All IsOrder) (form_orders words tree whole) (named_are_orders limits s tree (smt.Assert label t) read_so)

      -- what asserting it leaves
      abbrev pub Leaves : Store → Type 0
      Leaves z = (j : Known) (u : Term) → HasGlobalNames j.state → IsKnownNode j.state.nodes u id → id ≡ node_of j.state.nodes u → All IsOrder (orders_of words) → IsKept j y
          → IsKept (in_state (with_orders (orders_of words) (labelled label u (with_assertion (an_assertion label u) j.state)))) z

      pub assert_taken : (z : Store) → Leaves z → IsCommandTaken k tree z (command.Quiet effect.EndsModel)
      assert_taken z leaves =
          let after_it : IsKept (in_state (with_orders (orders_of words) (asserted y.table))) z =
          leaves (with_state k (with_nodes y.table s)) t known.scoped.global (just_known s.nodes y.table t id made_so) (just_made s.nodes y.table t id made_so) orders
          (grown_by k x y t id known kept same fits.1) in
          record {
            command = smt.Assert label t;
            read = read_so;
            kept = subst (λ v. IsKept (in_state v) z)
                (ap (λ (m : Made). with_orders (orders_of words) (asserted m.nodes)) (sym made_so) ∙ ap (λ ps. with_orders ps (asserted (made [] s.nodes t).nodes)) (sym (form_orders words tree whole)) ∙ sym (assert_after s tree label t)) after_it;
            answered = refl;
          }

-- a sound term that was read
pub assertion_sound : (k : Known) (x : Store) (tree : Tree) (words : List Word) (h : Head) (form : IsCommandForm words k.state tree h) (a : Asserted) → IsKnown k → IsKept k x
    → (it : IsAssertion k.state.nodes x.symbols (read_by_head limits k.state h form.closing (items_of form.items)) a) → IsSoundRead x.table x.symbols.terms it.term a.term
assertion_sound k x tree words h form a known kept it =
    subst (λ ns. IsSoundRead ns x.symbols.terms it.term a.term) (sym kept.nodes)
    (record {
      constants = k.state.constants;
      count = length k.state.constants;
      sort = sort.Bool;
      table = known.sound.nodes;
      sound = assert_sound k tree words known h form (option_map (λ b. b.now) a.name) it.term it.sound;
      code = it.code;
      weight_is = it.weight_is;
    })

pub assertion_stopped : (k : Known) (x : Store) (tree : Tree) (words : List Word) (h : Head) (form : IsCommandForm words k.state tree h) (e : TakeStop) → IsKnown k → IsKept k x
    → ReadsAssertion k.state.nodes x.symbols (read_by_head limits k.state h form.closing (items_of form.items)) (Err e) → TakesKept k tree x (Err e)
assertion_stopped k x tree words h form (stop.Fault f) known kept reads = (plain_fault k tree words h known form (fault_of f) (sym reads), kept)
assertion_stopped k x tree words h form stop.Memory known kept reads = kept
