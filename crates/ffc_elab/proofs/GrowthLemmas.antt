-- What a context keeps where nodes come.
use Rattle.std.proofs.Common.{◌≡◌, ℕ, List, [], ◌∷◌, ◌++◌, All, length, map, reverse, flat_map, slice_get, Some, refl, sym, ap, ◌∙◌, subst, append_assoc, append-nil, arith}
use Rattle.std.proofs.lemmas.List.Elements.{All-nil, All-cons, All-head, All-tail, All-append, All-weaker}
use Rattle.ffc_term.specs.declared.node.Node.{Node}
use Rattle.ffc_term.specs.declared.node.Sort.{Sort}
use Rattle.ffc_term.proofs.NodeLemmas.{IsNodeAt-from_Contains}
use Rattle.ffc_smt.specs.Trees.{Tree}
use Rattle.ffc_smt.specs.CommandReading.{nodes_after, asked_made}
use Rattle.ffc_smt.specs.Scripts.{after}
use Rattle.ffc_smt.specs.Terms.{Name, Asked, Command, CheckSatAssuming, Term, Truth, Number, Constant, Variable, Defined, Applied, Let, Called, Terms, NoTerm, AndTerm}
use Rattle.ffc_smt.specs.Meaning.{Env}
use Rattle.ffc_smt.specs.Making.{constant_node, made, interned}
use Rattle.ffc_smt.specs.Bounds.{IsMade}
use Rattle.ffc_smt.specs.Scopes.{Meant, AsConstant, AsTerm, AsMacro, Declared, Assertion, Level, State, scope_of, declared_of, assertions_of}
use Rattle.ffc_smt.specs.States.{IsSoundMeant, IsSoundLevel, IsSoundState, IsSoundAssertion}
use Rattle.ffc_smt.specs.TableChecks.{node_of}
use Rattle.ffc_smt.proofs.Again.{interned_present, made_anew}
use Rattle.ffc_smt.proofs.Bounds.{made_nothing, made_stays}
use Rattle.ffc_smt.proofs.DeclaredLemmas.{IfConstant, declared_all}
use Rattle.ffc_smt.proofs.Extends.{Extends}
use Rattle.ffc_smt.proofs.SoundStates.{flat_all, all_reverse, asked_extends, made_here}
use Rattle.ffc_terms.specs.declared.codes.Op.{Op}
use Rattle.ffc_terms.specs.declared.scope.Meaning.{Meaning}
use Rattle.ffc_terms.specs.declared.scope.Meaning.TheVariants as meaning
use Rattle.ffc_terms.specs.Codes.{IsKnown as IsKnownNode, IsCode, AreCodes, IsMeaning, AreMeanings}
use Rattle.ffc_elab.specs.declared.store.Store.{Store}
use Rattle.ffc_elab.specs.Histories.{Known, assumptions_of}
use Rattle.ffc_elab.specs.Answers.{declared_as}
use Rattle.ffc_elab.specs.Kept.{IsKept, IsKnown}
use Rattle.ffc_elab.specs.Changes.{with_nodes, with_state}

-- Nodes of terms that were made

pub node_stays : (old new : List Node) (t : Term) → Extends old new → IsMade old t → node_of new t ≡ node_of old t
node_stays old new t further h =
    ap (λ m. m.id) (made_anew t [] old new tt (subst (λ ns. Extends ns new) (sym (made_nothing t old h)) further))

nodes_stay : {A : Type 0} (term : A → Term) (old new : List Node) (xs : List A) → Extends old new → All (λ x. IsMade old (term x)) xs
    → map (λ x. node_of new (term x)) xs ≡ map (λ x. node_of old (term x)) xs
nodes_stay term old new [] further h = refl
nodes_stay term old new (x ∷ xs) further h =
    ap (λ n. n ∷ map (λ x. node_of new (term x)) xs) (node_stays old new (term x) further (All-head (λ y. IsMade old (term y)) x xs h))
    ∙ ap (λ ns. node_of old (term x) ∷ ns) (nodes_stay term old new xs further (All-tail (λ y. IsMade old (term y)) x xs h))

-- Code

known_stays : (old new : List Node) (t : Term) (id : ℕ) → Extends old new → IsKnownNode old t id → IsKnownNode new t id
known_stays old new t id (more, e) h = record {
  before = h.before;
  more = h.more ++ more;
  made_then = e ∙ ap (λ ns. ns ++ more) h.made_then ∙ append_assoc (made [] h.before t).nodes h.more more;
  node = h.node;
}

mutual
  pub code_stays : (t : Term) (old new : List Node) (symbols : Env Meaning) (locals : List Name) (ops : List Op) → Extends old new → IsCode old symbols locals t ops → IsCode new symbols locals t ops
  code_stays (Truth b) old new symbols locals ops e h = h
  code_stays (Number negative size p) old new symbols locals ops e h = h
  code_stays (Constant k s) old new symbols locals ops e h = (h.0, h.1, known_stays old new (Constant k s) h.0 e h.2)
  code_stays (Variable name) old new symbols locals ops e h = h
  code_stays (Defined t) old new symbols locals ops e h = (h.0, h.1, known_stays old new t h.0 e h.2)
  code_stays (Applied f ts) old new symbols locals ops e h = (h.0, h.1, h.2, codes_stay ts old new symbols locals h.1 h.0 e h.3, h.4, h.5)
  code_stays (Let names ts t) old new symbols locals ops e h = (h.0, h.1, codes_stay ts old new symbols locals (length names) h.0 e h.2, code_stays t old new symbols _ h.1 e h.3, h.4)
  code_stays (Called names t ts) old new symbols locals ops e h =
      (h.0, h.1, h.2, codes_stay ts old new symbols locals (length names) h.0 e h.3, h.4, code_stays t old new symbols names _ e h.5, h.6)

  codes_stay : (ts : Terms) (old new : List Node) (symbols : Env Meaning) (locals : List Name) (n : ℕ) (ops : List Op) → Extends old new → AreCodes old symbols locals ts n ops → AreCodes new symbols locals ts n ops
  codes_stay NoTerm old new symbols locals n ops e h = h
  codes_stay (AndTerm t ts) old new symbols locals n ops e h = (h.0, h.1, h.2, code_stays t old new symbols locals h.0 e h.3, codes_stay ts old new symbols locals h.2 h.1 e h.4, h.5, h.6)

meaning_stays : (old new : List Node) (earlier : Env Meaning) (m : Meaning) (x : Meant) → Extends old new → IsMeaning old earlier m x → IsMeaning new earlier m x
meaning_stays old new earlier (meaning.Constant n s id) (AsConstant k t) e h = (h.0, h.1, known_stays old new (Constant k t) id e h.2)
meaning_stays old new earlier (meaning.Constant n s id) (AsTerm k t) e h = h
meaning_stays old new earlier (meaning.Constant n s id) (AsMacro p k t) e h = h
meaning_stays old new earlier (meaning.Defined s id) (AsConstant k t) e h = h
meaning_stays old new earlier (meaning.Defined s id) (AsTerm k t) e h = (h.0, known_stays old new t id e h.1)
meaning_stays old new earlier (meaning.Defined s id) (AsMacro p k t) e h = h
meaning_stays old new earlier (meaning.Macro m) (AsConstant k t) e h = h
meaning_stays old new earlier (meaning.Macro m) (AsTerm k t) e h = h
meaning_stays old new earlier (meaning.Macro m) (AsMacro ps s t) e h = record {
  parameters_are = h.parameters_are;
  sort_is = h.sort_is;
  code = code_stays t old new earlier _ _ e h.code;
  height_is = h.height_is;
  weight_is = h.weight_is;
}

pub meanings_stay : (old new : List Node) (ms : Env Meaning) (xs : Env Meant) → Extends old new → AreMeanings old ms xs → AreMeanings new ms xs
meanings_stay old new [] [] e h = h
meanings_stay old new [] (x ∷ xs) e h = h
meanings_stay old new (m ∷ ms) [] e h = h
meanings_stay old new (m ∷ ms) (x ∷ xs) e h = (h.0, meaning_stays old new ms m.1 x.1 e h.1, meanings_stay old new ms xs e h.2)

-- What is active and declared was made

module _ (s : State) (h : IsSoundState s) where
  abbrev Sound : Level → Type 0
  Sound = IsSoundLevel s.constants s.nodes

  asserted_made : All (λ a. IsMade s.nodes a.term) (assertions_of s)
  asserted_made =
      let P : Assertion → Type 0 = λ a. IsMade s.nodes a.term in
      let one : (l : Level) → Sound l → All P l.asserted = λ l g. All-weaker (IsSoundAssertion s.constants s.nodes) P (λ a k. k.1) l.asserted g.asserted in
      All-append P s.base.asserted (flat_map (λ l. l.asserted) (reverse s.levels)) (one s.base h.base)
      (flat_all (λ l. l.asserted) P (reverse s.levels) (all_reverse (λ l. All P l.asserted) s.levels (All-weaker Sound (λ l. All P l.asserted) one s.levels h.levels)))

  constant_made : (k : ℕ) (u : Sort) → slice_get s.constants k ≡ Some u → IsMade s.nodes (Constant k u)
  unfolding made
  constant_made k u e =
      let there = IsNodeAt-from_Contains s.nodes (constant_node k u) (h.nodes.declared k u e) in
      record { before = s.nodes; more = []; made_then = sym (append-nil (interned s.nodes (constant_node k u)).nodes ∙ interned_present s.nodes (constant_node k u) there.0 there.1) }

  meant_made : (x : Name × Meant) → IsSoundMeant s.constants s.nodes x.1 → IfConstant (λ d. IsMade s.nodes (Constant d.number d.sort)) x
  meant_made (name, AsConstant k u) e = constant_made k u e
  meant_made (name, AsTerm u t) e = tt
  meant_made (name, AsMacro ps u t) e = tt

  declared_made : All (λ d. IsMade s.nodes (Constant d.number d.sort)) (declared_of s)
  declared_made =
      let P : Name × Meant → Type 0 = λ x. IsSoundMeant s.constants s.nodes x.1 in
      let Q = IfConstant (λ d. IsMade s.nodes (Constant d.number d.sort)) in
      let all : All Sound (s.levels ++ s.base ∷ []) = All-append Sound s.levels (s.base ∷ []) h.levels (All-cons Sound s.base [] h.base (All-nil Sound)) in
      let names = flat_all (λ l. l.names) P (s.levels ++ s.base ∷ []) (All-weaker Sound (λ l. All P l.names) (λ l g. g.names) (s.levels ++ s.base ∷ []) all) in
      declared_all (λ d. IsMade s.nodes (Constant d.number d.sort)) (scope_of s).names (All-weaker P Q meant_made (scope_of s).names names)

module _ (k : Known) (x : Store) (new : List Node) (known : IsKnown k) (h : IsKept k x) (further : Extends k.state.nodes new) where
  abbrev s : State
  s = k.state

  entries_stay : (ds : List Declared) → All (λ d. IsMade s.nodes (Constant d.number d.sort)) ds → map (declared_as s.nodes) ds ≡ map (declared_as new) ds
  entries_stay [] all = refl
  entries_stay (d ∷ ds) all =
      let P : Declared → Type 0 = λ d. IsMade s.nodes (Constant d.number d.sort) in
      ap (λ n. record { name = d.name; node = n; sort = d.sort } ∷ map (declared_as s.nodes) ds) (sym (node_stays s.nodes new (Constant d.number d.sort) further (All-head P d ds all)))
      ∙ ap (λ v. declared_as new d ∷ v) (entries_stay ds (All-tail P d ds all))

  terms_made : All (IsMade s.nodes) (map (λ a. a.term) (assertions_of s) ++ map (λ a. a.term) k.assumptions)
  terms_made =
      All-append (IsMade s.nodes) (map (λ a. a.term) (assertions_of s)) (map (λ a. a.term) k.assumptions)
      (All-map (λ (a : Assertion). a.term) (assertions_of s) (asserted_made s known.sound)) (All-map (λ (a : Asked). a.term) k.assumptions known.assumed)
    where
      All-map : {A : Type 0} (f : A → Term) (xs : List A) → All (λ a. IsMade s.nodes (f a)) xs → All (IsMade s.nodes) (map f xs)
      All-map f [] g = All-nil (IsMade s.nodes)
      All-map f (y ∷ ys) g = All-cons (IsMade s.nodes) (f y) (map f ys) (All-head (λ a. IsMade s.nodes (f a)) y ys g) (All-map f ys (All-tail (λ a. IsMade s.nodes (f a)) y ys g))

  pub kept_grown : IsKept (with_state k (with_nodes new s)) (record x { table = new })
  kept_grown = record {
    logic = h.logic;
    options = h.options;
    marks = h.marks;
    levels = h.levels;
    scope = record { terms = meanings_stay s.nodes new x.symbols.terms (scope_of s).names further h.scope.terms; sorts = h.scope.sorts };
    nodes = refl;
    constants = h.constants;
    first = h.first;
    in_force = h.in_force ∙ sym (nodes_stay (λ (t : Term). t) s.nodes new (map (λ a. a.term) (assertions_of s) ++ map (λ a. a.term) k.assumptions) further terms_made);
    names = h.names;
    assumed = h.assumed;
    declared = h.declared ∙ entries_stay (declared_of s) (declared_made s known.sound);
    declared_nodes = h.declared_nodes ∙ sym (nodes_stay (λ (d : Declared). Constant d.number d.sort) s.nodes new (declared_of s) further (declared_made s known.sound));
  }

-- What is asked for was made

asked_are_made : (asked : List Asked) (ns : List Node) → All (λ a. IsMade (asked_made ns asked) a.term) asked
unfolding asked_made
asked_are_made [] ns = All-nil (λ (a : Asked). IsMade ns a.term)
asked_are_made (a ∷ rest) ns =
    let m = made [] ns a.term in
    All-cons (λ (b : Asked). IsMade (asked_made m.nodes rest) b.term) a rest
    (made_stays a.term m.nodes (asked_made m.nodes rest) (asked_extends rest m.nodes) (made_here a.term ns)) (asked_are_made rest m.nodes)

pub assumed_made : (s : State) (t : Tree) (c : Command) → All (λ a. IsMade (after s t c).nodes a.term) (assumptions_of c)
unfolding after nodes_after
assumed_made s t (CheckSatAssuming asked) = asked_are_made asked s.nodes
assumed_made s t _ = λ k d inside. absurd (omega (arith, inside))
