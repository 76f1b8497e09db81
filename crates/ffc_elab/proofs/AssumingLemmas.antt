-- What a context keeps where terms are assumed.
use Rattle.std.proofs.Common.{◌≡◌, ℕ, ◌+◌, ◌-◌, List, [], ◌∷◌, ◌++◌, length, take, map, Option, None, refl, sym, ap, ◌∙◌, arith, length-append}
use Rattle.std.specs.Prelude.{Vec}
use Rattle.std.specs.declared.alloc.Global.{Global}
use Rattle.std.proofs.lemmas.List.{map-append, length-map}
use Rattle.ffc_term.specs.declared.node.Node.{Node}
use Rattle.ffc_smt.specs.Terms.{Name, Term}
use Rattle.ffc_smt.specs.Terms as smt
use Rattle.ffc_smt.specs.Scopes.{State, assertions_of}
use Rattle.ffc_smt.specs.TableChecks.{node_of}
use Rattle.ffc_elab.specs.declared.answers.Asked.{Asked}
use Rattle.ffc_elab.specs.declared.store.Store.{Store}
use Rattle.ffc_elab.specs.Histories.{Known}
use Rattle.ffc_elab.specs.Answers.{asked_as}
use Rattle.ffc_elab.specs.Kept.{IsKept}
use Rattle.ffc_elab.specs.Changes.{assuming}
use Rattle.ffc_elab.proofs.LevelLemmas.{take_front}

asked_nodes : (ns : List Node) (terms : List smt.Asked) → map (λ a. a.node) (map (asked_as ns) terms) ≡ map (node_of ns) (map (λ a. a.term) terms)
asked_nodes ns [] = refl
asked_nodes ns (t ∷ ts) = ap (λ v. node_of ns t.term ∷ v) (asked_nodes ns ts)

abbrev unnamed : Asked → Option Name
unnamed a = None

no_names : (ns : List Node) (terms : List smt.Asked) → map unnamed (map (asked_as ns) terms) ≡ map (λ _. None) terms
no_names ns [] = refl
no_names ns (t ∷ ts) = ap (λ v. None ∷ v) (no_names ns ts)

module _ (k : Known) (terms : List smt.Asked) (asked : List Asked) (x : Store) (h : IsKept k x) (is : asked ≡ map (asked_as k.state.nodes) terms) (forced : Vec ℕ Global) (names : Vec (Option Name) Global)
    (forced_is : forced.items ≡ take (length x.in_force.items - x.assumed) x.in_force.items ++ map (λ a. a.node) asked)
    (names_are : names.items ≡ take (length x.in_force.items - x.assumed) x.names.items ++ map (λ _. None) asked) where
  abbrev s : State
  s = k.state

  abbrev old_terms : List Term
  old_terms = map (λ b. b.term) (assertions_of s)

  abbrev assumed_terms : List Term
  assumed_terms = map (λ b. b.term) k.assumptions

  abbrev old_labels : List (Option Name)
  old_labels = map (λ b. b.label) (assertions_of s)

  abbrev no_labels : List (Option Name)
  no_labels = map (λ _. None) k.assumptions

  forced_old : take (length x.in_force.items - x.assumed) x.in_force.items ≡ map (node_of s.nodes) old_terms
  forced_old =
      take_front x.in_force.items (map (node_of s.nodes) old_terms) (map (node_of s.nodes) assumed_terms) x.assumed
      (h.in_force ∙ map-append (node_of s.nodes) old_terms assumed_terms) (h.assumed ∙ sym (length-map assumed_terms (node_of s.nodes) ∙ length-map k.assumptions (λ b. b.term)))

  none_long : length no_labels ≡ length k.assumptions
  none_long = length-map k.assumptions (λ _. None)

  lengths : length x.in_force.items ≡ length x.names.items
  lengths =
      let terms_long : length old_terms ≡ length (assertions_of s) = length-map (assertions_of s) (λ b. b.term) in
      let asked_long : length assumed_terms ≡ length k.assumptions = length-map k.assumptions (λ b. b.term) in
      let labels : length old_labels ≡ length (assertions_of s) = length-map (assertions_of s) (λ b. b.label) in
      let one : length x.in_force.items ≡ length old_terms + length assumed_terms = ap length h.in_force ∙ length-map (old_terms ++ assumed_terms) (node_of s.nodes) ∙ length-append old_terms assumed_terms in
      let two : length x.names.items ≡ length old_labels + length no_labels = ap length h.names ∙ length-append old_labels no_labels in
      omega (arith, one, two, terms_long, asked_long, labels, none_long)

  names_old : take (length x.in_force.items - x.assumed) x.names.items ≡ old_labels
  names_old = ap (λ n. take (n - x.assumed) x.names.items) lengths ∙ take_front x.names.items old_labels no_labels x.assumed h.names (h.assumed ∙ sym none_long)

  pub assumed_kept : IsKept (assuming terms s) (record x { in_force = forced; names = names; assumed = length asked })
  assumed_kept = record {
    logic = h.logic;
    options = h.options;
    marks = h.marks;
    levels = h.levels;
    scope = h.scope;
    nodes = h.nodes;
    constants = h.constants;
    first = h.first;
    in_force = forced_is ∙ ap (λ v. v ++ map (λ a. a.node) asked) forced_old ∙ ap (λ v. map (node_of s.nodes) old_terms ++ v) (ap (map (λ a. a.node)) is ∙ asked_nodes s.nodes terms)
        ∙ sym (map-append (node_of s.nodes) old_terms (map (λ a. a.term) terms));
    names = names_are ∙ ap (λ v. v ++ map (λ _. None) asked) names_old ∙ ap (λ v. old_labels ++ v) (ap (map unnamed) is ∙ no_names s.nodes terms);
    assumed = ap length is ∙ length-map terms (asked_as s.nodes);
    declared = h.declared;
    declared_nodes = h.declared_nodes;
  }
