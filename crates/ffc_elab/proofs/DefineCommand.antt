-- What is known after a definition.
use Rattle.std.proofs.lemmas.Bool.Decides.{nat_tests}
use Rattle.std.proofs.Common.{◌==◌, ◌≡◌, ◌≢◌, ℕ, ◌<◌, ◌≤◌, ⊎_elim, Bool, true, false, List, [], ◌∷◌, All, length, map, Ok, Err, refl, sym, ap, ◌∙◌, subst, arith}
use Rattle.ffc_field.specs.Orders.{IsOrder}
use Rattle.ffc_term.specs.declared.node.Node.{Node}
use Rattle.ffc_term.specs.declared.node.Sort.{Sort}
use Rattle.ffc_smt.specs.Trees.{Word, Tree, items_of}
use Rattle.ffc_smt.specs.Faults.{Sound, word_fault}
use Rattle.ffc_smt.specs.Terms.{Name, Term, Parameter, weight}
use Rattle.ffc_smt.specs.Terms as smt
use Rattle.ffc_smt.specs.Making.{Made, made}
use Rattle.ffc_smt.specs.Scopes.{Meant, Level, State, with_name}
use Rattle.ffc_smt.specs.CommandReading.{limits, nodes_after, command_weight, form_read, command_read}
use Rattle.ffc_smt.specs.Scripts.{after, meant_by, named_orders, orders_in}
use Rattle.ffc_smt.proofs.OrderLemmas.{named_are_orders}
use Rattle.ffc_smt.proofs.ReadLemmas.{IfSound}
use Rattle.ffc_smt.proofs.SoundStates.{Fine}
use Rattle.ffc_parts.specs.declared.heads.Head.{Head}
use Rattle.ffc_terms.specs.declared.scope.Macro.{Macro}
use Rattle.ffc_terms.specs.declared.scope.Meaning.{Meaning}
use Rattle.ffc_terms.specs.declared.scope.Meaning.TheVariants as meaning
use Rattle.ffc_terms.specs.Codes.{IsCode, IsMeaning}
use Rattle.ffc_words.specs.declared.faults.TakeStop.{TakeStop}
use Rattle.ffc_words.specs.declared.faults.TakeStop.TheVariants as stop
use Rattle.ffc_words.specs.Words.{word_at, fault_of}
use Rattle.ffc_words.specs.Outcomes.{outcome}
use Rattle.ffc_elab.specs.declared.defining.Definition.{Definition}
use Rattle.ffc_elab.specs.declared.answers.Command.TheVariants as command
use Rattle.ffc_elab.specs.declared.answers.Effect.TheVariants as effect
use Rattle.ffc_elab.specs.declared.store.Store.{Store}
use Rattle.ffc_elab.specs.Defining.{IsDefinitionRead, ReadsDefinition}
use Rattle.ffc_elab.specs.Histories.{Known}
use Rattle.ffc_elab.specs.Kept.{IsKept, IsKnown}
use Rattle.ffc_elab.specs.Changes.{HasGlobalNames, IsDefinition, in_state, with_nodes, with_orders, with_state}
use Rattle.ffc_elab.specs.Making.{FitsOrNot, IsSoundRead, IsTooMuch}
use Rattle.ffc_elab.specs.Orders.{orders_of}
use Rattle.ffc_elab.specs.Reading.{IsFormOf, IsCommandForm, read_by_head}
use Rattle.ffc_elab.specs.Taking.{IsCommandTaken, TakesKept}
use Rattle.ffc_elab.proofs.ChangeLemmas.{plain_fault, room_read, full_read, heavy_read, sound_of}
use Rattle.ffc_elab.proofs.DeclareLemmas.{form_fine, front_is}
use Rattle.ffc_elab.proofs.SortNameLemmas.{form_orders}
use Rattle.ffc_elab.proofs.SameLemmas.{same_nodes}
use Rattle.ffc_elab.proofs.AssertCommand.{just_known, grown_by}
use Rattle.ffc_elab.proofs.MakingLemmas.{light_weight, heavy_weight}

-- A state with these levels and this option. Each state is one with its own.

abbrev set_out : State → List Level → Bool → State
set_out s levels global = record s { levels = levels; options = record s.options { global_declarations = global } }

after_out : (s : State) (levels : List Level) (global : Bool) (tree : Tree) (name : Name) (ps : List Parameter) (sort : Sort) (t : Term)
    → after (set_out s levels global) tree (smt.Define name ps sort t)
    ≡ with_orders (orders_in tree) (with_name name (meant_by ps sort t) (with_nodes (nodes_after s (smt.Define name ps sort t)) (set_out s levels global)))
unfolding after nodes_after named_orders
after_out s [] true tree name [] sort t = refl
after_out s [] false tree name [] sort t = refl
after_out s (l ∷ ls) true tree name [] sort t = refl
after_out s (l ∷ ls) false tree name [] sort t = refl
after_out s [] true tree name (p ∷ ps) sort t = refl
after_out s [] false tree name (p ∷ ps) sort t = refl
after_out s (l ∷ ls) true tree name (p ∷ ps) sort t = refl
after_out s (l ∷ ls) false tree name (p ∷ ps) sort t = refl

define_after : (s : State) (tree : Tree) (name : Name) (ps : List Parameter) (sort : Sort) (t : Term)
    → after s tree (smt.Define name ps sort t) ≡ with_orders (orders_in tree) (with_name name (meant_by ps sort t) (with_nodes (nodes_after s (smt.Define name ps sort t)) s))
define_after s tree name ps sort t = after_out s s.levels s.options.global_declarations tree name ps sort t

is_definition : (ps : List Parameter) (sort : Sort) (t : Term) → IsDefinition (meant_by ps sort t)
is_definition [] sort t = tt
is_definition (p ∷ ps) sort t = tt

-- what naming leaves
abbrev pub Leaves : List Word → Name → Meaning → Store → Store → Type 0
Leaves words name v y z = (j : Known) (m : Meant) → HasGlobalNames j.state → IsDefinition m → IsMeaning j.state.nodes y.symbols.terms v m → All IsOrder (orders_of words) → IsKept j y
    → IsKept (in_state (with_orders (orders_of words) (with_name name m j.state))) z

module _ (k : Known) (tree : Tree) (words : List Word) (known : IsKnown k) (h : Head) (form : IsCommandForm words k.state tree h) (name : Name) (ps : List Parameter) (sort : Sort) (t : Term)
    (e : read_by_head limits k.state h form.closing (items_of form.items) ≡ Sound (smt.Define name ps sort t)) where
  abbrev s : State
  s = k.state

  abbrev c : smt.Command
  c = smt.Define name ps sort t

  read_form : form_read limits s tree ≡ Sound c
  read_form = sound_of (form_read limits s tree) c (form.read ∙ ap outcome e)

  pub define_fine : Fine s known.sound c
  define_fine = subst (λ r. IfSound r (Fine s known.sound)) read_form (form_fine s known.sound tree)

  module _ (whole : IsFormOf words tree) where
    too_heavy : limits.weight < weight t → outcome (command_read limits s tree) ≡ Err (word_fault 15 (word_at words 0))
    unfolding command_weight
    too_heavy heavy = heavy_read s tree c heavy read_form ∙ ap (λ w. Err (word_fault 15 w)) (sym (front_is words tree whole.spelled))

    too_many : limits.nodes < length (nodes_after s c) → outcome (command_read limits s tree) ≡ Err (word_fault 15 (word_at words 0))
    too_many many = full_read s tree c many read_form ∙ ap (λ w. Err (word_fault 15 w)) (sym (front_is words tree whole.spelled))

    module _ (light : weight t ≤ limits.weight) (nodes : List Node) (nodes_are : nodes_after s c ≡ nodes) (room : length nodes ≤ limits.nodes) where
      read_so : command_read limits s tree ≡ Sound c
      unfolding command_weight
      read_so = room_read s tree c (subst (λ ns. length ns ≤ limits.nodes) (sym nodes_are) room) light read_form

      orders : All IsOrder (orders_of words)
      unfolding named_orders
      orders = subst (All IsOrder) (form_orders words tree whole) (named_are_orders limits s tree c read_so)

      pub define_taken : (y z : Store) (v : Meaning) → IsKept (with_state k (with_nodes nodes s)) y → IsMeaning nodes y.symbols.terms v (meant_by ps sort t) → Leaves words name v y z → IsCommandTaken k tree z (command.Quiet effect.EndsModel)
      define_taken y z v kept meant leaves =
          let m = meant_by ps sort t in
          let after_it = leaves (with_state k (with_nodes nodes s)) m known.scoped.global (is_definition ps sort t) meant orders kept in
          record {
            command = c;
            read = read_so;
            kept = subst (λ v. IsKept (in_state v) z)
                (ap (λ ns. with_orders (orders_of words) (with_name name m (with_nodes ns s))) (sym nodes_are) ∙ ap (λ os. with_orders os (with_name name m (with_nodes (nodes_after s c) s))) (sym (form_orders words tree whole))
                ∙ sym (define_after s tree name ps sort t)) after_it;
            answered = refl;
          }

-- Without parameters

none_left : (ps : List Parameter) → map (λ p. p.sort) ps ≡ [] → ps ≡ []
none_left [] e = refl
none_left (p ∷ ps) e = cc

some_left : (ps : List Parameter) → (map (λ p. p.sort) ps ≡ [] → ⊥) → ps ≡ [] → ⊥
some_left ps n e = n (ap (map (λ p. p.sort)) e)

module _ (k : Known) (x : Store) (tree : Tree) (words : List Word) (known : IsKnown k) (kept : IsKept k x) (h : Head) (form : IsCommandForm words k.state tree h) (d : Definition)
    (it : IsDefinitionRead k.state.nodes x.symbols (read_by_head limits k.state h form.closing (items_of form.items)) d) where
  abbrev name : Name
  name = d.name.now

  module _ (none : d.parameters.items ≡ []) where
    parameters_none : it.parameters ≡ []
    parameters_none = none_left it.parameters (sym it.sorts_are ∙ none)

    sound_so : read_by_head limits k.state h form.closing (items_of form.items) ≡ Sound (smt.Define name [] d.sort it.term)
    sound_so = it.sound ∙ ap (λ ps. Sound (smt.Define name ps d.sort it.term)) parameters_none

    pub term_sound : IsSoundRead x.table x.symbols.terms it.term d.body
    term_sound =
        subst (λ ns. IsSoundRead ns x.symbols.terms it.term d.body) (sym kept.nodes)
        (record {
          constants = k.state.constants;
          count = length k.state.constants;
          sort = d.sort;
          table = known.sound.nodes;
          sound = define_fine k tree words known h form name [] d.sort it.term sound_so;
          code = subst (λ (ps : List Parameter). IsCode k.state.nodes x.symbols.terms (map (λ p. p.name) ps) it.term d.body.code.items) parameters_none it.code;
          weight_is = it.weight_is;
        })

    module _ (whole : IsFormOf words tree) (y : Store) where
      many_nodes : limits.nodes < length (made [] k.state.nodes it.term).nodes → limits.nodes < length (nodes_after k.state (smt.Define name [] d.sort it.term))
      unfolding nodes_after
      many_nodes many = many

      refused : IsTooMuch k.state.nodes it.term → outcome (command_read limits k.state tree) ≡ Err (word_fault 15 (word_at words 0))
      refused much =
          ⊎_elim (λ heavy. too_heavy k tree words known h form name [] d.sort it.term sound_so whole heavy) (λ many. too_many k tree words known h form name [] d.sort it.term sound_so whole (many_nodes many)) much

      pub term_stopped : (why : TakeStop) → y ≡ record x { table = y.table } → FitsOrNot words x.table y.table it.term (Err why) → TakesKept k tree y (Err why)
      term_stopped (stop.Fault f) same fits = (refused (subst (λ ns. IsTooMuch ns it.term) kept.nodes fits.1) ∙ ap Err (sym fits.0), subst (IsKept k) (sym (same_nodes x y y.table same fits.2)) kept)
      term_stopped stop.Memory same fits = subst (IsKept k) (sym (same_nodes x y y.table same fits)) kept

      module _ (id : ℕ) (same : y ≡ record x { table = y.table }) (fits : FitsOrNot words x.table y.table it.term (Ok id)) where
        made_so : made [] k.state.nodes it.term ≡ record { nodes = y.table; id = id }
        made_so = ap (λ ns. made [] ns it.term) (sym kept.nodes) ∙ fits.1.made

        nodes_so : nodes_after k.state (smt.Define name [] d.sort it.term) ≡ y.table
        unfolding nodes_after
        nodes_so = ap (λ (m : Made). m.nodes) made_so

        pub term_taken : (z : Store) → Leaves words name (meaning.Defined d.sort id) y z → IsCommandTaken k tree z (command.Quiet effect.EndsModel)
        term_taken z leaves =
            define_taken k tree words known h form name [] d.sort it.term sound_so whole fits.0 y.table nodes_so fits.1.grows.table.well_formed.within y z (meaning.Defined d.sort id)
            (grown_by k x y it.term id known kept same fits.1) (refl, just_known k.state.nodes y.table it.term id made_so) leaves

  -- With parameters

  module _ (some : d.parameters.items ≢ []) (whole : IsFormOf words tree) where
    parameters_some : it.parameters ≡ [] → ⊥
    parameters_some = some_left it.parameters (λ e. some (it.sorts_are ∙ e))

    abbrev the_macro : Macro
    the_macro = record { parameters = d.parameters; sort = d.sort; code = d.body.code; height = d.body.height; weight = d.body.weight }

    pub macro_refused : limits.weight < d.body.weight → outcome (command_read limits k.state tree) ≡ Err (word_fault 15 (word_at words 0))
    macro_refused heavy = too_heavy k tree words known h form name it.parameters d.sort it.term it.sound whole (heavy_weight it.term d.body.weight it.weight_is heavy)

    no_nodes : (ps : List Parameter) → (ps ≡ [] → ⊥) → nodes_after k.state (smt.Define name ps d.sort it.term) ≡ k.state.nodes
    unfolding nodes_after
    no_nodes [] n = absurd (n refl)
    no_nodes (p ∷ ps) n = refl

    as_macro : (ps : List Parameter) → (ps ≡ [] → ⊥) → d.parameters.items ≡ map (λ p. p.sort) ps → IsCode k.state.nodes x.symbols.terms (map (λ p. p.name) ps) it.term d.body.code.items
        → IsMeaning k.state.nodes x.symbols.terms (meaning.Macro the_macro) (meant_by ps d.sort it.term)
    as_macro [] n sorts code = absurd (n refl)
    as_macro (p ∷ ps) n sorts code = record { parameters_are = sorts; sort_is = refl; code = code; height_is = it.height_is; weight_is = it.weight_is }

    module _ (light : d.body.weight ≤ limits.weight) where
      pub macro_taken : (z : Store) → Leaves words name (meaning.Macro the_macro) x z → IsCommandTaken k tree z (command.Quiet effect.EndsModel)
      macro_taken z leaves =
          define_taken k tree words known h form name it.parameters d.sort it.term it.sound whole (light_weight it.term d.body.weight it.weight_is light) k.state.nodes (no_nodes it.parameters parameters_some)
          known.sound.nodes.table.well_formed.within x z (meaning.Macro the_macro) kept (as_macro it.parameters parameters_some it.sorts_are it.code) leaves

pub definition_stopped : (k : Known) (x : Store) (tree : Tree) (words : List Word) (h : Head) (form : IsCommandForm words k.state tree h) (e : TakeStop) → IsKnown k → IsKept k x
    → ReadsDefinition k.state.nodes x.symbols (read_by_head limits k.state h form.closing (items_of form.items)) (Err e) → TakesKept k tree x (Err e)
definition_stopped k x tree words h form (stop.Fault f) known kept reads = (plain_fault k tree words h known form (fault_of f) (sym reads), kept)
definition_stopped k x tree words h form stop.Memory known kept reads = kept

-- Whether there are parameters

pub counted_none : (xs : List Sort) (n : ℕ) → n ≡ length xs → true ≡ (n == 0) → xs ≡ []
counted_none [] n e h = refl
counted_none (x ∷ xs) n e h = let zero_many : n ≡ 0 = grind (arith, nat_tests) in absurd (omega (arith, e, zero_many))

pub counted_some : (xs : List Sort) (n : ℕ) → n ≡ length xs → false ≡ (n == 0) → xs ≢ []
counted_some xs n e h none = let no_zero : n ≢ 0 = grind (arith, nat_tests) in let empty = ap length none in absurd (omega (arith, e, empty, no_zero))
