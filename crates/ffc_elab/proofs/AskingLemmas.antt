-- The commands `get-value` and `check-sat-assuming`: what their form says, and what is kept after them.
use Rattle.std.proofs.Common.{◌≡◌, ℕ, ◌+◌, ◌<◌, ◌≤◌, List, [], ◌∷◌, ◌++◌, All, length, map, Ok, Err, refl, sym, ap, ◌∙◌, subst, arith}
use Rattle.std.proofs.lemmas.List.Elements.{All-nil, All-cons}
use Rattle.std.proofs.lemmas.List.Sums.{sum_by-cons}
use Rattle.ffc_field.specs.Orders.{IsOrder}
use Rattle.ffc_term.specs.declared.node.Node.{Node}
use Rattle.ffc_term.specs.declared.node.Sort.{Sort}
use Rattle.ffc_term.specs.Tables.{most_nodes}
use Rattle.ffc_smt.specs.Trees.{Word, Tree, items_of}
use Rattle.ffc_smt.specs.Faults.{Read, Sound, Faulty, word_fault, read_map, both, item, last}
use Rattle.ffc_smt.specs.Terms as smt
use Rattle.ffc_smt.specs.Scopes.{State}
use Rattle.ffc_smt.specs.CommandReading.{limits, nodes_after, asked_made, command_weight, form_read, command_read}
use Rattle.ffc_smt.specs.Scripts.{after, named_orders, orders_in}
use Rattle.ffc_smt.proofs.OrderLemmas.{named_are_orders}
use Rattle.ffc_smt.proofs.ReadLemmas.{IfSound}
use Rattle.ffc_smt.proofs.SoundStates.{IsSoundHere, Fine, some_sort}
use Rattle.ffc_words.specs.declared.faults.TakeStop.{TakeStop}
use Rattle.ffc_words.specs.declared.faults.TakeStop.TheVariants as stop
use Rattle.ffc_words.specs.Outcomes.{outcome}
use Rattle.ffc_words.specs.Words.{fault_of, word_at}
use Rattle.ffc_terms.specs.declared.scope.Symbols.{Symbols}
use Rattle.ffc_elab.specs.declared.answers.Asked.{Asked}
use Rattle.ffc_elab.specs.declared.asked_lists.Listed.{Listed}
use Rattle.ffc_elab.specs.declared.asked_lists.Listed.TheVariants as listed
use Rattle.ffc_elab.specs.declared.asked_lists.AskedList.{AskedList}
use Rattle.ffc_elab.specs.declared.store.Store.{Store}
use Rattle.ffc_elab.specs.Histories.{Known}
use Rattle.ffc_elab.specs.Answers.{asked_as}
use Rattle.ffc_elab.specs.Kept.{IsKept, IsKnown}
use Rattle.ffc_elab.specs.Changes.{in_state, with_state, with_nodes, with_orders, assuming}
use Rattle.ffc_elab.specs.Orders.{orders_of}
use Rattle.ffc_elab.specs.Reading.{IsFormOf, IsCommandForm, and_then, read_by_head}
use Rattle.ffc_elab.specs.Taking.{IsCommandTaken, TakesKept}
use Rattle.ffc_elab.specs.AskedLists.{AreReadAs, IsListRead, ReadsList, list_alone, listed_command, listed_head, total_weight}
use Rattle.ffc_elab.specs.AskedNodes.{AreToMake, AreMade}
use Rattle.ffc_elab.specs.Asking.{IsLightList, ReadsLight, IsListMade, MakesListed}
use Rattle.ffc_elab.proofs.ChangeLemmas.{sound_of, none_named, room_read, heavy_read, full_read, fault_read}
use Rattle.ffc_elab.proofs.DeclareLemmas.{form_fine, front_is}
use Rattle.ffc_elab.proofs.GrowthLemmas.{kept_grown}
use Rattle.ffc_elab.proofs.SameLemmas.{same_nodes}
use Rattle.ffc_elab.proofs.SortNameLemmas.{form_orders}

-- What the form says

item_map : {A B : Type 0} (f : A → B) (read : Tree → Read A) (closing : Word) (items : List Tree)
    → outcome (read_map (λ p. p.0) (item closing (λ t. read_map f (read t)) last items)) ≡ and_then (outcome (item closing read last items)) (λ p. Ok (f p.0))
item_map f read closing [] = refl
item_map f read closing (t ∷ ts) = by_parts f (read t) (last ts)
  where
    by_parts : {A B : Type 0} (f : A → B) (r : Read A) (q : Read (Unit {0})) → outcome (read_map (λ p. p.0) (both (read_map f r) q)) ≡ and_then (outcome (both r q)) (λ p. Ok (f p.0))
    by_parts f (Sound a) (Sound u) = refl
    by_parts f (Sound a) (Faulty g gs) = refl
    by_parts f (Faulty g gs) q = refl

listed_reads : (which : Listed) (s : State) (closing : Word) (items : List Tree)
    → outcome (read_by_head limits s (listed_head which) closing items) ≡ and_then (outcome (list_alone which s closing items)) (λ p. Ok (listed_command which p.0))
listed_reads listed.Values s closing items = item_map smt.GetValue _ closing items
listed_reads listed.Assumptions s closing items = item_map smt.CheckSatAssuming _ closing items

listed_nodes : (which : Listed) (s : State) (asked : List smt.Asked) → nodes_after s (listed_command which asked) ≡ asked_made s.nodes asked
unfolding nodes_after
listed_nodes listed.Values s asked = refl
listed_nodes listed.Assumptions s asked = refl

listed_weight : (which : Listed) (asked : List smt.Asked) → command_weight (listed_command which asked) ≡ total_weight asked
unfolding command_weight
listed_weight listed.Values asked = refl
listed_weight listed.Assumptions asked = refl

listed_sound : (which : Listed) (s : State) (h : Rattle.ffc_smt.specs.States.IsSoundState s) (asked : List smt.Asked) → Fine s h (listed_command which asked) → All (λ a. (u : Sort) × IsSoundHere s h [] a.term u) asked
listed_sound listed.Values s h asked fine = fine
listed_sound listed.Assumptions s h asked fine = some_sort s h asked fine

each_light : (most : ℕ) (asked : List smt.Asked) → total_weight asked ≤ most → All (λ a. smt.weight a.term ≤ most) asked
each_light most [] light = All-nil (λ (a : smt.Asked). smt.weight a.term ≤ most)
each_light most (a ∷ rest) light =
    let sum : total_weight (a ∷ rest) ≡ smt.weight a.term + total_weight rest = sum_by-cons (λ (b : smt.Asked). smt.weight b.term) a rest in
    All-cons (λ (b : smt.Asked). smt.weight b.term ≤ most) a rest (omega (arith, sum, light)) (each_light most rest (omega (arith, sum, light)))

module _ (k : Known) (tree : Tree) (words : List Word) (which : Listed) (form : IsCommandForm words k.state tree (listed_head which)) where
  abbrev s : State
  s = k.state

  abbrev items : List Tree
  items = items_of form.items

  pub light_stops : (symbols : Symbols) (e : TakeStop) → ReadsList s.nodes symbols words which s form.items form.closing (Err e) → ReadsLight k tree symbols words which (Err e)
  light_stops symbols (stop.Fault f) h = λ whole.
      fault_read s tree (fault_of f) (form.read ∙ listed_reads which s form.closing items ∙ ap (λ r. and_then r (λ p. Ok (listed_command which p.0))) h)
  light_stops symbols stop.Memory h = tt

  module _ (symbols : Symbols) (l : AskedList) (h : IsListRead s.nodes symbols words which s form.items form.closing l) where
    abbrev c : smt.Command
    c = listed_command which h.asked

    says : form_read limits s tree ≡ Sound c
    says = sound_of (form_read limits s tree) c (form.read ∙ listed_reads which s form.closing items ∙ ap (λ r. and_then r (λ p. Ok (listed_command which p.0))) h.whole)

    pub light_list : l.weight ≤ limits.weight → IsLightList k tree symbols words which l
    light_list light = record { asked = h.asked; form = says; terms = h.terms; light = omega (arith, light, h.weight_is) }

    pub heavy_list : limits.weight < l.weight → IsFormOf words tree → outcome (command_read limits s tree) ≡ Err (word_fault 15 (word_at words 0))
    heavy_list heavy whole =
        heavy_read s tree c (subst (λ n. limits.weight < n) (sym (listed_weight which h.asked)) (omega (arith, heavy, h.weight_is))) says ∙ ap (λ w. Err (word_fault 15 w)) (sym (front_is words tree whole.spelled))

-- What is left after the nodes are interned

module _ (k : Known) (tree : Tree) (words : List Word) (which : Listed) (x : Store) (known : IsKnown k) (kept : IsKept k x) (l : AskedList) (light : IsLightList k tree x.symbols words which l) where
  abbrev command : smt.Command
  command = listed_command which light.asked

  pub to_make : AreToMake words x.table x.symbols light.asked l.terms.items
  to_make = record {
    state = k.state;
    good = known.sound;
    nodes = kept.nodes;
    sound = listed_sound which k.state known.sound light.asked (subst (λ r. IfSound r (Fine k.state known.sound)) light.form (form_fine k.state known.sound tree));
    light = each_light limits.weight light.asked light.light;
    read = subst (λ (ns : List Node). AreReadAs ns x.symbols words light.asked l.terms.items) (sym kept.nodes) light.terms;
  }

  same_made : asked_made x.table light.asked ≡ nodes_after k.state command
  same_made = ap (λ ns. asked_made ns light.asked) kept.nodes ∙ sym (listed_nodes which k.state light.asked)

  pub list_made : (new : List Node) (r : List Asked) → AreMade x.table new light.asked r → IsListMade k tree which x.table new r
  list_made new r made = record {
    asked = light.asked;
    read = room_read k.state tree command (subst (λ ns. length ns ≤ limits.nodes) (made.nodes ∙ same_made) made.grows.table.well_formed.within)
        (subst (λ n. n ≤ limits.weight) (sym (listed_weight which light.asked)) light.light) light.form;
    made = made;
  }

  pub list_full : most_nodes < length (asked_made x.table light.asked) → IsFormOf words tree → outcome (command_read limits k.state tree) ≡ Err (word_fault 15 (word_at words 0))
  list_full many whole =
      full_read k.state tree command (subst (λ ns. limits.nodes < length ns) same_made many) light.form ∙ ap (λ w. Err (word_fault 15 w)) (sym (front_is words tree whole.spelled))

pub list_stops : (k : Known) (tree : Tree) (symbols : Symbols) (words : List Word) (which : Listed) (old : List Node) (e : TakeStop) → ReadsLight k tree symbols words which (Err e) → MakesListed k tree words which old old (Err e)
list_stops k tree symbols words which old (stop.Fault f) h = (h, refl)
list_stops k tree symbols words which old stop.Memory h = refl

pub list_refused : (k : Known) (tree : Tree) (words : List Word) (which : Listed) (x y : Store) (e : TakeStop) → MakesListed k tree words which x.table y.table (Err e) → y ≡ record x { table = y.table }
    → IsFormOf words tree → IsKept k x → TakesKept k tree y (Err e)
list_refused k tree words which x y (stop.Fault f) h same whole kept = (h.0 whole, subst (IsKept k) (sym (same_nodes x y y.table same h.1)) kept)
list_refused k tree words which x y stop.Memory h same whole kept = subst (IsKept k) (sym (same_nodes x y y.table same h)) kept

-- What is kept after the commands

module _ (k : Known) (tree : Tree) (which : Listed) (x y : Store) (known : IsKnown k) (kept : IsKept k x) (same : y ≡ record x { table = y.table }) (r : List Asked) (made : IsListMade k tree which x.table y.table r) where
  abbrev grown : State
  grown = with_nodes y.table k.state

  pub grown_kept : IsKept (with_state k grown) y
  grown_kept =
      subst (IsKept (with_state k grown)) (sym same)
      (kept_grown k x y.table known kept (made.made.grows.more, made.made.grows.put ∙ ap (λ ns. ns ++ made.made.grows.more) kept.nodes))

  nodes_now : y.table ≡ asked_made k.state.nodes made.asked
  nodes_now = made.made.nodes ∙ ap (λ ns. asked_made ns made.asked) kept.nodes

  pub listed_now : r ≡ map (asked_as grown.nodes) made.asked
  listed_now = made.made.listed

module _ (k : Known) (tree : Tree) (words : List Word) (x y : Store) (known : IsKnown k) (kept : IsKept k x) (same : y ≡ record x { table = y.table }) (whole : IsFormOf words tree) where
  module _ (r : Rattle.std.specs.Prelude.Vec Asked Rattle.std.specs.declared.alloc.Global.Global) (made : IsListMade k tree listed.Values x.table y.table r.items) where
    pub value_orders : All IsOrder (orders_of words)
    unfolding named_orders
    value_orders = subst (All IsOrder) (form_orders words tree whole) (named_are_orders limits k.state tree (smt.GetValue made.asked) made.read)

    value_after : with_orders (orders_of words) (with_nodes y.table k.state) ≡ after k.state tree (smt.GetValue made.asked)
    unfolding after nodes_after named_orders
    value_after =
        ap (λ ps. with_orders ps (with_nodes y.table k.state)) (sym (form_orders words tree whole))
        ∙ ap (λ ns. with_orders (orders_in tree) (with_nodes ns k.state)) (nodes_now k tree listed.Values x y known kept same r.items made)

    pub value_taken : (z : Store) → IsKept (in_state (with_orders (orders_of words) (with_nodes y.table k.state))) z → IsCommandTaken k tree z (Rattle.ffc_elab.specs.declared.answers.Command.TheVariants.GetValue r)
    value_taken z after_it = record {
      command = smt.GetValue made.asked;
      read = made.read;
      kept = subst (λ v. IsKept (in_state v) z) value_after after_it;
      answered = made.made.listed ∙ ap (λ (v : State). map (asked_as v.nodes) made.asked) value_after;
    }

  module _ (r : Rattle.std.specs.Prelude.Vec Asked Rattle.std.specs.declared.alloc.Global.Global) (made : IsListMade k tree listed.Assumptions x.table y.table r.items) where
    assuming_after : with_nodes y.table k.state ≡ after k.state tree (smt.CheckSatAssuming made.asked)
    unfolding after nodes_after named_orders
    assuming_after =
        ap (λ ns. with_nodes ns k.state) (nodes_now k tree listed.Assumptions x y known kept same r.items made)
        ∙ ap (λ o. record (with_nodes (asked_made k.state.nodes made.asked) k.state) { first_order = o }) (sym (none_named k.state.first_order))

    pub assuming_taken : (z : Store) → IsKept (assuming made.asked (with_nodes y.table k.state)) z → IsCommandTaken k tree z (Rattle.ffc_elab.specs.declared.answers.Command.TheVariants.CheckAssuming r)
    assuming_taken z after_it = record {
      command = smt.CheckSatAssuming made.asked;
      read = made.read;
      kept = subst (λ v. IsKept (assuming made.asked v) z) assuming_after after_it;
      answered = made.made.listed ∙ ap (λ (v : State). map (asked_as v.nodes) made.asked) assuming_after;
    }
