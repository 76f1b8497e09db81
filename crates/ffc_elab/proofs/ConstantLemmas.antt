-- What declaring a constant does.
use Rattle.std.proofs.Common.{◌≡◌, ℕ, ◌+◌, ◌-◌, ◌^◌, ◌≤◌, min, true, false, List, [], ◌∷◌, ◌++◌, length, map, Contains, refl, sym, ap, ◌∙◌, subst, arith, ⊎_elim, append-nil, length-append}
use Rattle.std.specs.Prelude.{Vec}
use Rattle.std.specs.declared.alloc.Global.{Global}
use Rattle.std.proofs.lemmas.Bool.{cases_lt}
use Rattle.ffc_term.specs.declared.node.Node.{Node}
use Rattle.ffc_term.specs.declared.node.Sort.{Sort}
use Rattle.std.proofs.lemmas.List.Sums.{count_by-le-length}
use Rattle.ffc_term.specs.Nodes.{is_constant}
use Rattle.ffc_term.specs.Tables.{IsInterned, most_nodes}
use Rattle.ffc_smt.specs.Meaning.{Env}
use Rattle.ffc_smt.specs.Terms.{Name, Constant}
use Rattle.ffc_smt.specs.Making.{constant_node, interned, made}
use Rattle.ffc_smt.specs.Scopes.{AsConstant, Declared, State}
use Rattle.ffc_smt.specs.States.{IsTableWith}
use Rattle.ffc_smt.specs.TableChecks.{node_of}
use Rattle.ffc_smt.proofs.Again.{made_anew}
use Rattle.ffc_smt.proofs.InterningLemmas.{interned_absent}
use Rattle.ffc_smt.proofs.SoundStates.{constant_new}
use Rattle.ffc_terms.specs.declared.scope.Meaning.{Meaning}
use Rattle.ffc_terms.specs.declared.scope.Meaning.TheVariants as meaning
use Rattle.ffc_terms.specs.Codes.{IsKnown as IsKnownNode}
use Rattle.ffc_elab.specs.declared.answers.Declared.{Declared as Entry}
use Rattle.ffc_elab.specs.declared.levels.Mark.{Mark}
use Rattle.ffc_elab.specs.declared.store.Store.{Store}
use Rattle.ffc_elab.specs.Histories.{Known}
use Rattle.ffc_elab.specs.Answers.{declared_as}
use Rattle.ffc_elab.specs.Kept.{IsKept, IsKnown}
use Rattle.ffc_elab.specs.Changes.{with_nodes, with_state, declared_in, LastIsMore}
use Rattle.ffc_elab.proofs.GrowthLemmas.{kept_grown}
use Rattle.ffc_elab.proofs.NameLemmas.{a_name, name_global, name_local}

-- the node of a new constant is put after the others
pub put_behind : (cs : List Sort) (ns new : List Node) (count : ℕ) (s : Sort) (id : ℕ) → IsTableWith cs (length cs) ns → count ≡ length cs → IsInterned ns new (constant_node count s) id
    → ((Contains ns (constant_node count s) → ⊥) × (length ns ≡ most_nodes) → ⊥) → (new ≡ ns ++ constant_node count s ∷ []) × (id ≡ length ns) × (length ns + 1 ≤ most_nodes)
put_behind cs ns new count s id table is put room =
    let absent : Contains ns (constant_node count s) → ⊥ = subst (λ n. Contains ns (constant_node n s) → ⊥) (sym is) (constant_new ns cs s table) in
    let less : length ns + 1 ≤ most_nodes = ⊎_elim (λ lt. omega arith) (λ le. let e : length ns ≡ most_nodes = omega (arith, le, table.table.well_formed.within) in absurd (room (absent, e))) (cases_lt (length ns) most_nodes) in
    ⊎_elim (λ there. absurd (absent there.0)) (λ later. (later.1, later.2, less)) put.added

module _ (k : Known) (name : Name) (sort : Sort) (x : Store) (known : IsKnown k) (h : IsKept k x) where
  abbrev s : State
  s = k.state

  abbrev number : ℕ
  number = length s.constants

  abbrev node : Node
  node = constant_node number sort

  abbrev nodes : List Node
  nodes = s.nodes ++ node ∷ []

  abbrev place : ℕ
  place = length s.nodes

  pub interned_so : interned s.nodes node ≡ record { nodes = nodes; id = place }
  interned_so = interned_absent s.nodes node (constant_new s.nodes s.constants sort known.sound.nodes)

  abbrev entry : Declared
  entry = record { name = name; number = number; sort = sort }

  node_is : node_of nodes (Constant number sort) ≡ place
  unfolding made
  node_is =
      ap (λ m. m.id) (made_anew (Constant number sort) [] s.nodes nodes tt ([], ap (λ m. m.nodes) (sym interned_so) ∙ sym (append-nil (interned s.nodes node).nodes))) ∙ ap (λ m. m.id) interned_so

  known_node : IsKnownNode nodes (Constant number sort) place
  unfolding made
  known_node = record { before = s.nodes; more = []; made_then = ap (λ m. m.nodes) (sym interned_so) ∙ sym (append-nil (interned s.nodes node).nodes); node = ap (λ m. m.id) (sym interned_so) }

  abbrev k1 : Known
  k1 = with_state k (with_nodes nodes s)

  abbrev x1 : Store
  x1 = record x { table = nodes }

  grown : IsKept k1 x1
  grown = kept_grown k x nodes known h (node ∷ [], refl)

  few_constants : length s.constants ≤ 1048576
  few_constants = omega (arith, known.sound.nodes.counted, count_by-le-length is_constant s.nodes, known.sound.nodes.table.well_formed.within)

  module _ (terms : Env Meaning) (table : List Node) (id count : ℕ) (marks : Vec Mark Global) (declared : Vec Entry Global) (places : Vec ℕ Global)
      (terms_are : terms ≡ (name, meaning.Constant x.constants sort id) ∷ x.symbols.terms) (id_is : id ≡ length x.table) (table_is : table ≡ x.table ++ constant_node x.constants sort ∷ [])
      (count_is : count ≡ min (x.constants + 1) (2 ^ 32 - 1))
      (declared_is : declared.items ≡ x.declared.items ++ record { name = name; node = id; sort = sort } ∷ []) (places_are : places.items ≡ x.declared_nodes.items ++ id ∷ []) where
    abbrev y : Store
    y = record x { marks = marks; table = table; constants = count; declared = declared; declared_nodes = places; symbols = record x.symbols { terms = terms } }

    here : id ≡ place
    here = id_is ∙ ap length h.nodes

    value : meaning.Constant x.constants sort id ≡ meaning.Constant number sort place
    value = ap (λ n. meaning.Constant n sort id) h.constants ∙ ap (λ i. meaning.Constant number sort i) here

    same : record x1 { marks = marks; constants = count; declared = declared; declared_nodes = places; symbols = record x.symbols { terms = (name, meaning.Constant number sort place) ∷ x.symbols.terms } } ≡ y
    same =
        ap (λ (v : Env Meaning). record x1 { marks = marks; constants = count; declared = declared; declared_nodes = places; symbols = record x.symbols { terms = v } }) (ap (λ v. (name, v) ∷ x.symbols.terms) (sym value) ∙ sym terms_are)
        ∙ ap (λ (ns : List Node). record y { table = ns }) (ap (λ ns. ns ++ node ∷ []) (sym h.nodes) ∙ ap (λ n. x.table ++ constant_node n sort ∷ []) (sym h.constants) ∙ sym table_is)

    counted : count ≡ length (s.constants ++ sort ∷ [])
    counted = let few = few_constants in omega (arith, count_is, h.constants, few, length-append s.constants (sort ∷ []))

    entries : declared.items ≡ x.declared.items ++ map (declared_as nodes) (entry ∷ [])
    entries = declared_is ∙ ap (λ i. x.declared.items ++ record { name = name; node = i; sort = sort } ∷ []) (here ∙ sym node_is)

    listed : places.items ≡ x.declared_nodes.items ++ map (λ (d : Declared). node_of nodes (Constant d.number d.sort)) (entry ∷ [])
    listed = places_are ∙ ap (λ i. x.declared_nodes.items ++ i ∷ []) (here ∙ sym node_is)

    pub constant_global : s.options.global_declarations ≡ true → marks.items ≡ x.marks.items → IsKept (with_state k (declared_in name sort s)) y
    constant_global g e =
        subst (IsKept (with_state k (declared_in name sort s))) same
        (name_global k1 name (AsConstant number sort) (s.constants ++ sort ∷ []) x1 grown (meaning.Constant number sort place) (refl, refl, known_node) count counted marks declared places entries listed (known.scoped.global g) g e)

    pub constant_local : s.options.global_declarations ≡ false → length x.symbols.terms + 1 ≤ 2 ^ 64 - 1 → LastIsMore (a_name name (AsConstant number sort)) x.marks.items marks.items
        → IsKept (with_state k (declared_in name sort s)) y
    constant_local g few e =
        subst (IsKept (with_state k (declared_in name sort s))) same
        (name_local k1 name (AsConstant number sort) (s.constants ++ sort ∷ []) x1 grown (meaning.Constant number sort place) (refl, refl, known_node) count counted marks declared places entries listed g few e)
