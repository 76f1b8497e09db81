-- What is known after a declaration.
use Rattle.std.proofs.Common.{◌≡◌, ◌+◌, ◌<◌, ◌≤◌, List, [], ◌∷◌, ◌++◌, All, length, if◌then◌else◌, Ok, Err, refl, sym, ap, ◌∙◌, subst, arith, length-append}
use Rattle.ffc_field.specs.Orders.{IsOrder}
use Rattle.ffc_term.specs.declared.node.Node.{Node}
use Rattle.ffc_term.specs.declared.node.Sort.{Sort}
use Rattle.ffc_term.specs.Tables.{most_nodes}
use Rattle.ffc_smt.specs.Trees.{Word, Tree, Leaf, Group, items_of, front, tokens_of, tokens_of_items}
use Rattle.ffc_smt.specs.Faults.{Sound, word_fault}
use Rattle.ffc_smt.specs.Terms.{Name}
use Rattle.ffc_smt.specs.Terms as smt
use Rattle.ffc_smt.specs.Making.{constant_node}
use Rattle.ffc_smt.specs.Scopes.{AsConstant, Level, State, scope_of, at_innermost, with_name}
use Rattle.ffc_smt.specs.States.{IsSoundSort, IsSoundState}
use Rattle.ffc_smt.specs.CommandReading.{limits, nodes_after, command_weight, form_read, command_read}
use Rattle.ffc_smt.specs.Scripts.{after, first_named, named_orders, orders_in}
use Rattle.ffc_smt.proofs.CommandLemmas.{form_sorted}
use Rattle.ffc_smt.proofs.OrderLemmas.{named_are_orders}
use Rattle.ffc_smt.proofs.ReadLemmas.{IfSound}
use Rattle.ffc_smt.proofs.SoundReading.{term_sound, named_sound, sort_read_good}
use Rattle.ffc_smt.proofs.SoundStates.{IsSoundHere, Fine, scope_is_sound, negation_sound}
use Rattle.ffc_parts.specs.declared.heads.Head.{Head}
use Rattle.ffc_words.specs.Words.{word_at}
use Rattle.ffc_words.specs.Outcomes.{outcome}
use Rattle.ffc_elab.specs.declared.answers.Command.TheVariants as command
use Rattle.ffc_elab.specs.declared.answers.Effect.TheVariants as effect
use Rattle.ffc_elab.specs.declared.store.Store.{Store}
use Rattle.ffc_elab.specs.Histories.{Known}
use Rattle.ffc_elab.specs.Kept.{IsKept, IsKnown}
use Rattle.ffc_elab.specs.Changes.{in_state, with_nodes, with_orders, declared_in}
use Rattle.ffc_elab.specs.Orders.{orders_of}
use Rattle.ffc_elab.specs.Reading.{IsFormOf, IsCommandForm, read_by_head}
use Rattle.ffc_elab.specs.Taking.{IsCommandTaken}
use Rattle.ffc_elab.proofs.OutcomeLemmas.{word_is}
use Rattle.ffc_elab.proofs.ChangeLemmas.{fits_read, full_read, sound_of}
use Rattle.ffc_elab.proofs.ConstantLemmas.{interned_so}
use Rattle.ffc_elab.proofs.SortNameLemmas.{form_orders, innermost_first}

pub form_fine : (s : State) (h : IsSoundState s) (t : Tree) → IfSound (form_read limits s t) (Fine s h)
form_fine s h t =
    let well = scope_is_sound s h in
    form_sorted limits s (IsSoundHere s h) IsSoundSort (λ locals tree. term_sound s.constants s.nodes limits.height (scope_of s) well tree locals)
    (λ tree. sort_read_good (scope_of s).sorts tree well.sorts) (λ w name. named_sound s.constants s.nodes limits.height (scope_of s) well [] w name) (negation_sound s h) t

pub sound_sort : (s : State) (t : Tree) (name : Name) (sort : Sort) → IsSoundState s → form_read limits s t ≡ Sound (smt.Declare name sort) → IsSoundSort sort
sound_sort s t name sort h e = subst (λ r. IfSound r (Fine s h)) e (form_fine s h t)

pub front_is : (words : List Word) (tree : Tree) → tokens_of tree ≡ words → word_at words 0 ≡ front tree
unfolding tokens_of
front_is words (Leaf w) e = word_is words 0 w [] (sym e)
front_is words (Group opening items closing) e = word_is words 0 opening (tokens_of_items items ++ closing ∷ []) (sym e)

innermost_nodes : (change : Level → Level) (ls : List Level) (s : State) (ns : List Node) → with_nodes ns (at_innermost change ls s) ≡ at_innermost change ls (with_nodes ns s)
innermost_nodes change [] s ns = refl
innermost_nodes change (l ∷ ls) s ns = refl

module _ (k : Known) (name : Name) (sort : Sort) (x : Store) (known : IsKnown k) (kept : IsKept k x) where
  abbrev s : State
  s = k.state

  abbrev node : Node
  node = constant_node (length s.constants) sort

  nodes_are : nodes_after s (smt.Declare name sort) ≡ s.nodes ++ node ∷ []
  unfolding nodes_after
  nodes_are = ap (λ m. m.nodes) (interned_so k name sort x known kept)

  constant_after : (tree : Tree) → after s tree (smt.Declare name sort) ≡ with_orders (orders_in tree) (declared_in name sort s)
  unfolding after named_orders
  constant_after tree =
      let m = AsConstant (length s.constants) sort in
      let change : Level → Level = λ l. record l { names = (name, m) ∷ l.names } in
      let ls = if s.options.global_declarations then [] else s.levels in
      let cs = s.constants ++ sort ∷ [] in
      let new = s.nodes ++ node ∷ [] in
      let orders = orders_in tree in
      ap (λ ns. record (with_name name m s) { constants = cs; nodes = ns; first_order = first_named s.first_order orders }) nodes_are
      ∙ ap (λ (t : State). record t { constants = cs; first_order = first_named s.first_order orders }) (innermost_nodes change ls s new)
      ∙ ap (λ o. record (with_name name m (with_nodes new s)) { constants = cs; first_order = first_named o orders }) (sym (innermost_first change ls (with_nodes new s)))

  module _ (tree : Tree) (words : List Word) (h : Head) (whole : IsFormOf words tree) (form : IsCommandForm words s tree h)
      (e : Ok (smt.Declare name sort) ≡ outcome (read_by_head limits s h form.closing (items_of form.items))) where
    read_form : form_read limits s tree ≡ Sound (smt.Declare name sort)
    read_form = sound_of (form_read limits s tree) (smt.Declare name sort) (form.read ∙ sym e)

    read_so : length s.nodes + 1 ≤ most_nodes → command_read limits s tree ≡ Sound (smt.Declare name sort)
    unfolding command_weight
    read_so room = fits_read s tree (smt.Declare name sort) (subst (λ ns. length ns ≤ limits.nodes) (sym nodes_are) (omega (arith, room, length-append s.nodes (node ∷ [])))) refl read_form

    pub declare_full : length s.nodes ≡ most_nodes → outcome (command_read limits s tree) ≡ Err (word_fault 15 (word_at words 0))
    declare_full full =
        full_read s tree (smt.Declare name sort) (subst (λ ns. limits.nodes < length ns) (sym nodes_are) (omega (arith, full, length-append s.nodes (node ∷ [])))) read_form
        ∙ ap (λ w. Err (word_fault 15 w)) (sym (front_is words tree whole.spelled))

    pub declare_orders : length s.nodes + 1 ≤ most_nodes → All IsOrder (orders_of words)
    unfolding named_orders
    declare_orders room = subst (All IsOrder) (form_orders words tree whole) (named_are_orders limits s tree (smt.Declare name sort) (read_so room))

    pub declare_taken : (y : Store) → length s.nodes + 1 ≤ most_nodes → IsKept (in_state (with_orders (orders_of words) (declared_in name sort s))) y → IsCommandTaken k tree y (command.Quiet effect.EndsModel)
    declare_taken y room after_it = record {
      command = smt.Declare name sort;
      read = read_so room;
      kept = subst (λ t. IsKept (in_state t) y) (ap (λ ps. with_orders ps (declared_in name sort s)) (sym (form_orders words tree whole)) ∙ sym (constant_after tree)) after_it;
      answered = refl;
    }
