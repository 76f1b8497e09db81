-- What `define-fun` reads as.
use Rattle.std.proofs.Common.{◌≡◌, ℕ, ◌+◌, Bool, List, [], ◌∷◌, ◌++◌, All, Contains, false, map, drop, length, reverse, Result, Ok, Err, refl, sym, ap, ◌∙◌, subst, inl, arith}
use Rattle.std.proofs.lemmas.List.Elements.{All-append, All-contains, Contains-append_left, Contains-append_right}
use Rattle.ffc_lex.specs.declared.tokens.TokenKind.TheVariants as kinds
use Rattle.ffc_term.specs.declared.node.Node.{Node}
use Rattle.ffc_term.specs.declared.node.Sort.{Sort}
use Rattle.ffc_smt.specs.Trees.{Word, Tree, Leaf, Trees, Empty, First, items_of, tokens_of, tokens_of_items}
use Rattle.ffc_smt.specs.FaultLaws.{IsAtOneOf}
use Rattle.ffc_smt.specs.Meaning.{Env}
use Rattle.ffc_smt.specs.Terms.{Name, Term, Parameter, Command, Define}
use Rattle.ffc_smt.specs.Faults.{Fault, word_fault, is_before, first_fault, Read, Sound, Faulty, faults, faulty, unless, read_map, both, behind, last, item}
use Rattle.ffc_smt.specs.Scopes.{State, scope_of}
use Rattle.ffc_smt.specs.TermReading.{sort_read}
use Rattle.ffc_smt.specs.CommandReading.{limits, term_of_sort, parameters_read, body_read, definition_of, fresh_read, is_taken}
use Rattle.ffc_smt.proofs.PlaceLemmas.{each_from_items}
use Rattle.ffc_smt.proofs.TermWalk.{reads_sort}
use Rattle.ffc_smt.proofs.WalkLemmas.{EachToken, EachIn, each_in, MayFail, one_fault}
use Rattle.ffc_terms.proofs.FirstLemmas as first
use Rattle.ffc_terms.proofs.FirstLemmas.{Each, IsAt, NoneBefore, each_append, none_later, outcome_faulty, contains_first, first_is}
use Rattle.ffc_lex.specs.declared.faults.ScriptFault.{ScriptFault}
use Rattle.ffc_words.specs.declared.faults.TakeStop.{TakeStop}
use Rattle.ffc_words.specs.declared.faults.TakeStop.TheVariants as stop
use Rattle.ffc_words.specs.Words.{IsTreeAt, AreItemsAt, word_at, fault_of}
use Rattle.ffc_terms.specs.declared.scope.Meaning.{Meaning}
use Rattle.ffc_terms.specs.declared.scope.Symbols.{Symbols}
use Rattle.ffc_terms.specs.declared.terms.TermRead.{TermRead}
use Rattle.ffc_terms.specs.Codes.{IsCode, IsScope}
use Rattle.ffc_words.specs.Outcomes.{outcome}
use Rattle.ffc_elab.specs.declared.defining.Definition.{Definition}
use Rattle.ffc_elab.specs.declared.parameters.Parameters.{Parameters}
use Rattle.ffc_elab.specs.Reading.{AreInOrder, and_then, later_items}
use Rattle.ffc_elab.specs.SortedTerms.{ReadsAsTerm}
use Rattle.ffc_elab.specs.Defining.{body_after, pair_of, ReadsSortItem, ReadsParameterItem, IsBody, ReadsBody, IsDefinitionRead, ReadsDefinition}
use Rattle.ffc_elab.proofs.OutcomeLemmas.{outcome_map, FaultsThere, spelled_first, drop_plus, word_at_items, front_kind}
use Rattle.ffc_terms.specs.Answers.{answered}
use Rattle.ffc_terms.specs.SortSteps.{placed}
use Rattle.ffc_elab.proofs.ChangeLemmas.{sound_of}
use Rattle.ffc_elab.proofs.NamingLemmas.{fresh_same, name_refused, name_given, name_then_items, name_then_order}
use Rattle.ffc_elab.proofs.ItemLemmas.{after_first, first_tree, order_drop, empty_spelled, placed_right, placed_wrong}
use Rattle.ffc_elab.proofs.PlainLemmas.{last_there}
use Rattle.ffc_elab.proofs.TermItemLemmas.{at_tokens, FaultsIn, both_at, mapped_at, sorted_in}
use Rattle.ffc_elab.proofs.ParameterLemmas.{order_is, parameters_in}

sorts_in : (sorts : Env Sort) → FaultsIn (sort_read sorts)
sorts_in sorts P t m = (reads_sort P sorts t m).0

behind_at : {A B : Type 0} (P : Fault → Type 0) (r : Read A) (next : A → Read B) → All P (faults r) → ((a : A) → All P (faults (next a))) → All P (faults (behind r next))
behind_at P (Sound a) next h g = g a
behind_at P (Faulty f fs) next h g = h

unless_at : {A : Type 0} (P : Fault → Type 0) (fs : List Fault) (r : Read A) → All P fs → All P (faults r) → All P (faults (unless fs r))
unless_at P [] r h g = g
unless_at P (f ∷ fs) r h g = All-append P (f ∷ fs) (faults r) h g

-- the faults of a definition
pub definition_there : (s : State) → FaultsThere (λ closing ts. definition_of limits s closing ts)
definition_there s P closing [] m i = one_fault P 5 closing m
definition_there s P closing (ps ∷ []) m i = unless_at P (faults (parameters_read s ps)) (faulty 5 closing) (parameters_in s P ps i.0) (one_fault P 5 closing m)
definition_there s P closing (ps ∷ r ∷ rest) m i =
    let parameters = parameters_read s ps in
    let sort = sort_read (scope_of s).sorts r in
    let body = item closing (body_read limits s ps r) last rest in
    mapped_at P (λ d. (d.0, d.1.0, d.1.1.0)) (both parameters (both sort body))
    (both_at P parameters (both sort body) (parameters_in s P ps i.0) (both_at P sort body (sorts_in (scope_of s).sorts P r i.1.0) (body_at rest i.1.1)))
  where
    one_body : (t : Tree) → EachToken (MayFail P) t → All P (faults (body_read limits s ps r t))
    one_body t k =
        behind_at P (both (parameters_read s ps) (sort_read (scope_of s).sorts r)) (λ head. term_of_sort limits s head.0 head.1 t)
        (both_at P (parameters_read s ps) (sort_read (scope_of s).sorts r) (parameters_in s P ps i.0) (sorts_in (scope_of s).sorts P r i.1.0)) (λ head. sorted_in s head.0 head.1 P t k)

    body_at : (ts : List Tree) → EachIn (MayFail P) ts → All P (faults (item closing (body_read limits s ps r) last ts))
    body_at [] k = one_fault P 5 closing m
    body_at (t ∷ ts) k = both_at P (body_read limits s ps r t) (last ts) (one_body t k.0) (last_there P closing ts m k.1)

each_at : (ws : List Word) (fs : List Fault) (g : Fault) → Contains fs g → Each (IsAt ws) fs → IsAt ws g
each_at ws fs g has h = All-contains (IsAt ws) fs g (first.all_from (IsAt ws) fs h) has

-- more faults of which none is before
least : (f : Fault) (fs more : List Fault) → NoneBefore (first_fault f fs) more → first_fault f (fs ++ more) ≡ first_fault f fs
least f fs more none =
    let r : Read (Unit {0}) = Faulty f fs in
    let own = outcome_faulty r (first_fault f fs) refl in
    first_is f (fs ++ more) (first_fault f fs) (Contains-append_left (f ∷ fs) more (first_fault f fs) own.0) (own.1.0, each_append (λ x. is_before x (first_fault f fs) ≡ false) fs more own.1.1 none)

-- Of parameters, a sort and a body the first one at fault counts.

module _ (s : State) (closing : Word) where
  abbrev body_of : Read (List Parameter) → Read Sort → Tree → Read Term
  body_of P R t = behind (both P R) (λ head. term_of_sort limits s head.0 head.1 t)

  abbrev parts_of : Read (List Parameter) → Read Sort → List Tree → Read (List Parameter × (Sort × (Term × Unit {0})))
  parts_of P R rest = both P (both R (item closing (body_of P R) last rest))

  abbrev body_ended : List Parameter → Sort → List Tree → Result (Term × Unit {0}) Fault
  body_ended ps sort rest = outcome (item closing (term_of_sort limits s ps sort) last rest)

  abbrev parts_as : Read (List Parameter) → Read Sort → List Tree → Result (List Parameter × (Sort × (Term × Unit {0}))) Fault
  parts_as P R rest = and_then (outcome P) (λ ps. and_then (outcome R) (λ sort. and_then (body_ended ps sort rest) (λ q. Ok (ps, (sort, q)))))

  none_both : {A B : Type 0} (g : Fault) (r : Read A) (q : Read B) → NoneBefore g (faults r) → NoneBefore g (faults q) → NoneBefore g (faults (both r q))
  none_both g (Sound a) (Sound b) h k = tt
  none_both g (Sound a) (Faulty f fs) h k = k
  none_both g (Faulty f fs) q h k = each_append (λ x. is_before x g ≡ false) (f ∷ fs) (faults q) h k

  module _ (W1 W2 W3 : List Word) (order : first.AreInOrder (W1 ++ (W2 ++ W3))) (rest : List Tree) (at_closing : Each (IsAt W3) (word_fault 5 closing ∷ [])) (at_last : (us : List Tree) (t : Tree) → rest ≡ t ∷ us → Each (IsAt W3) (faults (last us))) where
    -- where the body has these faults, and nothing is before one
    none_item : (g : Fault) (read : Tree → Read Term) → ((t : Tree) → NoneBefore g (faults (read t))) → ((fs : List Fault) → Each (IsAt W3) fs → NoneBefore g fs) → (ts : List Tree) → rest ≡ ts → NoneBefore g (faults (item closing read last ts))
    none_item g read h late [] e = late (word_fault 5 closing ∷ []) at_closing
    none_item g read h late (t ∷ us) e = none_both g (read t) (last us) (h t) (late (faults (last us)) (at_last us t e))

    pub parts_are : (P : Read (List Parameter)) (R : Read Sort) → Each (IsAt W1) (faults P) → Each (IsAt W2) (faults R) → outcome (parts_of P R rest) ≡ parts_as P R rest
    parts_are (Sound ps) (Sound sort) hp hr = by_body (item closing (term_of_sort limits s ps sort) last rest)
      where
        by_body : (x : Read (Term × Unit {0})) → outcome (both (Sound ps) (both (Sound sort) x)) ≡ and_then (outcome x) (λ q. Ok (ps, (sort, q)))
        by_body (Sound q) = refl
        by_body (Faulty f fs) = refl
    parts_are (Sound ps) (Faulty h hs) hp hr =
        let r : Read (Unit {0}) = Faulty h hs in
        let g = first_fault h hs in
        let own = outcome_faulty r g refl in
        let at : IsAt W2 g = each_at W2 (h ∷ hs) g own.0 hr in
        ap Err (least h hs (faults (item closing (body_of (Sound ps) (Faulty h hs)) last rest))
        (none_item g (body_of (Sound ps) (Faulty h hs)) (λ t. own.1) (λ fs k. none_later W2 W3 g fs (first.order_right W1 (W2 ++ W3) order) at k) rest refl))
    parts_are (Faulty f fs) R hp hr =
        let r : Read (Unit {0}) = Faulty f fs in
        let g = first_fault f fs in
        let own = outcome_faulty r g refl in
        let at : IsAt W1 g = each_at W1 (f ∷ fs) g own.0 hp in
        let sort_late : NoneBefore g (faults R) = none_later W1 (W2 ++ W3) g (faults R) order at (first.each_weaker (IsAt W2) (IsAt (W2 ++ W3)) (λ x k. first.at_left W2 W3 x k) (faults R) hr) in
        ap Err (least f fs (faults (both R (item closing (body_of (Faulty f fs) R) last rest)))
        (none_both g R (item closing (body_of (Faulty f fs) R) last rest) sort_late
        (none_item g (body_of (Faulty f fs) R) (λ t. each_append (λ x. is_before x g ≡ false) (f ∷ fs) (faults R) own.1 sort_late)
        (λ xs k. none_later W1 (W2 ++ W3) g xs order at (first.each_weaker (IsAt W3) (IsAt (W2 ++ W3)) (λ x j. first.at_right W2 W3 x j) xs k)) rest refl)))

-- what follows the name
abbrev pub definition_as : State → Word → Trees → Result (List Parameter × Sort × Term) Fault
definition_as s closing Empty = Err (word_fault 5 closing)
definition_as s closing (First ps rest) = and_then (outcome (parameters_read s ps)) (λ parameters. and_then (body_after s parameters closing rest) (λ d. Ok (parameters, d.0, d.1)))

module _ (s : State) (words : List Word) (i : ℕ) (closing : Word) where
  after_parameters : (P : Read (List Parameter)) (ps : Tree) → Each (IsAt (tokens_of ps)) (faults P) → first.AreInOrder (tokens_of ps ++ closing ∷ [])
      → outcome (unless (faults P) (faulty {A = List Parameter × Sort × Term} 5 closing)) ≡ and_then (outcome P) (λ parameters. Err (word_fault 5 closing))
  after_parameters (Sound a) ps at order = refl
  after_parameters (Faulty f fs) ps at order =
      let r : Read (Unit {0}) = Faulty f fs in
      let own = outcome_faulty r (first_fault f fs) refl in
      ap Err (least f fs (word_fault 5 closing ∷ []) (none_later (tokens_of ps) (closing ∷ []) (first_fault f fs) (word_fault 5 closing ∷ []) order (each_at (tokens_of ps) (f ∷ fs) (first_fault f fs) own.0 at) (inl (refl, refl), tt)))

  abbrev tuple : List Parameter × (Sort × (Term × Unit {0})) → List Parameter × Sort × Term
  tuple d = (d.0, d.1.0, d.1.1.0)

  joined : (p : Result (List Parameter) Fault) (r : Result Sort Fault) (X : List Parameter → Sort → Read (Term × Unit {0}))
      → and_then {A = List Parameter × (Sort × (Term × Unit {0}))} (and_then p (λ ps. and_then r (λ sort. and_then (outcome (X ps sort)) (λ q. Ok (ps, (sort, q)))))) (λ d. Ok (tuple d))
      ≡ and_then p (λ ps. and_then {A = Sort × Term} {B = List Parameter × Sort × Term} (and_then r (λ sort. and_then (outcome (read_map (λ q. q.0) (X ps sort))) (λ t. Ok (sort, t)))) (λ d. Ok (ps, d.0, d.1)))
  joined (Err e) r X = refl
  joined (Ok ps) (Err e) X = refl
  joined (Ok ps) (Ok sort) X = by_term (X ps sort)
    where
      by_term : (x : Read (Term × Unit {0})) → and_then {A = List Parameter × (Sort × (Term × Unit {0}))} (and_then (outcome x) (λ q. Ok (ps, (sort, q)))) (λ d. Ok (tuple d)) ≡ and_then {A = Sort × Term} {B = List Parameter × Sort × Term} (and_then (outcome (read_map (λ q. q.0) x)) (λ t. Ok (sort, t))) (λ d. Ok (ps, d.0, d.1))
      by_term (Sound q) = refl
      by_term (Faulty f fs) = refl

  pub definition_is : (items : Trees) → AreItemsAt words i items closing [] → AreInOrder (drop i words) → outcome (definition_of limits s closing (items_of items)) ≡ definition_as s closing items
  unfolding items_of
  definition_is Empty at order = refl
  definition_is (First ps Empty) at order =
      after_parameters (parameters_read s ps) ps (first.at_from (tokens_of ps) (faults (parameters_read s ps)) (at_tokens (parameters_read s) (parameters_in s) ps))
      (order_is (tokens_of ps ++ closing ∷ []) (subst AreInOrder (at.text ∙ spelled_first ps Empty closing [] ∙ none_spelled ps) order))
    where
      none_spelled : (t : Tree) → tokens_of t ++ (tokens_of_items Empty ++ closing ∷ []) ≡ tokens_of t ++ closing ∷ []
      none_spelled t = ap (λ ws. tokens_of t ++ ws) (empty_spelled closing [])
  definition_is (First ps (First r rest)) at order =
      let P = parameters_read s ps in
      let R = sort_read (scope_of s).sorts r in
      let W3 = tokens_of_items rest ++ closing ∷ [] in
      let whole = at.text ∙ spelled_first ps (First r rest) closing [] ∙ ap (λ ws. tokens_of ps ++ ws) (spelled_first r rest closing []) in
      let may = λ (w : Word) (has : Contains W3 w) (code : ℕ). let f : IsAtOneOf W3 (word_fault code w) = record { word = w; among = has; line = refl; column = refl } in f in
      let each = each_in (MayFail (IsAtOneOf W3)) rest (each_from_items (MayFail (IsAtOneOf W3)) rest (λ w has. may w (Contains-append_left (tokens_of_items rest) (closing ∷ []) w has))) in
      let closes = may closing (Contains-append_right (tokens_of_items rest) (closing ∷ []) closing (0, omega arith, refl)) in
      outcome_map tuple (both P (both R (item closing (body_read limits s ps r) last (items_of rest))))
      ∙ ap (λ x. and_then x (λ d. Ok (tuple d)))
      (parts_are s closing (tokens_of ps) (tokens_of r) W3 (order_is (tokens_of ps ++ (tokens_of r ++ W3)) (subst AreInOrder whole order)) (items_of rest)
      (first.at_right (tokens_of_items rest) (closing ∷ []) (word_fault 5 closing) (inl (refl, refl)), tt)
      (λ us t e. first.at_from W3 (faults (last us)) (last_there (IsAtOneOf W3) closing us closes (subst (EachIn (MayFail (IsAtOneOf W3))) e each).1)) P R
      (first.at_from (tokens_of ps) (faults P) (at_tokens (parameters_read s) (parameters_in s) ps)) (first.at_from (tokens_of r) (faults R) (at_tokens (sort_read (scope_of s).sorts) (sorts_in (scope_of s).sorts) r)))
      ∙ joined (outcome P) (outcome R) (λ parameters sort. item closing (term_of_sort limits s parameters sort) last (items_of rest))

-- The sort and the body

sorts_same : (sorts : Env Sort) (s : State) (t : Tree) (r : Result Sort Fault) → sorts ≡ (scope_of s).sorts → outcome (sort_read sorts t) ≡ r → outcome (sort_read (scope_of s).sorts t) ≡ r
sorts_same sorts s t r e h = ap (λ v. outcome (sort_read v t)) (sym e) ∙ h

pub no_sort_item : (s : State) (ps : List Parameter) (sorts : Env Sort) (closing : Word) (i : ℕ) (items : Trees) (f : ScriptFault) → sorts ≡ (scope_of s).sorts → ReadsSortItem sorts items closing i (Err f)
    → body_after s ps closing items ≡ Err (fault_of f)
no_sort_item s ps sorts closing i Empty f e h = ap Err h
no_sort_item s ps sorts closing i (First r rest) f e h =
    ap (λ x. and_then x (λ sort. and_then (outcome (read_map (λ p. p.0) (item closing (term_of_sort limits s ps sort) last (items_of rest)))) (λ t. Ok (sort, t)))) (sorts_same sorts s r (Err (fault_of f)) e h)

names_of_pairs : (ps : List Parameter) → map (λ (x : Name × Sort). x.0) (map pair_of ps) ≡ map (λ (p : Parameter). p.name) ps
names_of_pairs [] = refl
names_of_pairs (p ∷ ps) = ap (λ v. p.name ∷ v) (names_of_pairs ps)

module _ (s : State) (ps : List Parameter) (symbols : Symbols) (scope : IsScope s.nodes symbols (scope_of s)) (words : List Word) (closing : Word) (i : ℕ) (sort : Sort) (next : ℕ) (locals : Env Sort) (locals_are : locals ≡ map pair_of ps) where
  abbrev Ended : Trees → Read Term
  Ended rest = read_map (λ p. p.0) (item closing (term_of_sort limits s ps sort) last (items_of rest))

  body_is : (r : Tree) (rest : Trees) → outcome (sort_read symbols.sorts r) ≡ Ok sort → body_after s ps closing (First r rest) ≡ and_then (outcome (Ended rest)) (λ t. Ok (sort, t))
  body_is r rest e =
      ap (λ x. and_then x (λ sort. and_then (outcome (read_map (λ p. p.0) (item closing (term_of_sort limits s ps sort) last (items_of rest)))) (λ t. Ok (sort, t)))) (sorts_same symbols.sorts s r (Ok sort) scope.sorts e)

  -- what reading the last term answers
  abbrev pub Answers : Result TermRead TakeStop → Type 0
  Answers x = (us : Trees) → AreItemsAt words next us closing [] → AreInOrder (drop next words) → ReadsAsTerm s.nodes symbols locals (read_map (λ p. p.0) (item closing (term_of_sort limits s ps sort) last (items_of us))) x

  later_items_at : (r : Tree) (rest : Trees) → AreItemsAt words i (First r rest) closing [] → next ≡ i + length (tokens_of r) → AreItemsAt words next rest closing []
  later_items_at r rest at e = subst (λ k. AreItemsAt words k rest closing []) (sym e) (after_first words i r rest closing [] at)

  later_order : (r : Tree) → AreInOrder (drop i words) → next ≡ i + length (tokens_of r) → AreInOrder (drop next words)
  later_order r order e = subst (λ k. AreInOrder (drop k words)) (sym e) (subst AreInOrder (sym (drop_plus (length (tokens_of r)) i words)) (order_drop (length (tokens_of r)) (drop i words) order))

  pub body_stops : (items : Trees) (why : TakeStop) → AreItemsAt words i items closing [] → AreInOrder (drop i words) → ReadsSortItem symbols.sorts items closing i (Ok (sort, next)) → Answers (Err why)
      → ReadsBody s.nodes symbols ps (body_after s ps closing items) (Err why)
  body_stops items stop.Memory at order h answers = tt
  body_stops Empty (stop.Fault f) at order h answers = absurd h
  body_stops (First r rest) (stop.Fault f) at order h answers = body_is r rest h.0 ∙ ap (λ x. and_then x (λ t. Ok (sort, t))) (answers rest (later_items_at r rest at h.1) (later_order r order h.1))

  pub body_read_so : (items : Trees) (t : TermRead) → AreItemsAt words i items closing [] → AreInOrder (drop i words) → ReadsSortItem symbols.sorts items closing i (Ok (sort, next)) → Answers (Ok t)
      → IsBody s.nodes symbols ps (body_after s ps closing items) sort t
  body_read_so Empty t at order h answers = absurd h
  body_read_so (First r rest) t at order h answers =
      let it = answers rest (later_items_at r rest at h.1) (later_order r order h.1) in
      record {
        term = it.term;
        reads = body_is r rest h.0 ∙ ap (λ x. and_then (outcome x) (λ u. Ok (sort, u))) it.sound;
        code = subst (λ ns. IsCode s.nodes symbols.terms ns it.term t.code.items) (ap (map (λ (x : Name × Sort). x.0)) locals_are ∙ names_of_pairs ps) it.code;
        height_is = it.height_is;
        weight_is = it.weight_is;
      }

-- The whole definition

module _ (s : State) (terms : Env Meaning) (test : Name → Bool) (same : (name : Name) → test name ≡ is_taken s name) (words : List Word) (items : Trees) (closing : Word) (at : AreItemsAt words 2 items closing []) (order : AreInOrder (drop 2 words)) where
  abbrev pub Whole : Read Command
  Whole = read_map (λ p. Define p.0 p.1.0 p.1.1 p.1.2) (item closing (fresh_read (is_taken s)) (definition_of limits s closing) (items_of items))

  abbrev made_of : Name × (List Parameter × Sort × Term) → Command
  made_of p = Define p.0 p.1.0 p.1.1 p.1.2

  other : (r : Result Name Fault) → r ≡ outcome (fresh_read test (Leaf (word_at words 2))) → r ≡ outcome (fresh_read (is_taken s) (Leaf (word_at words 2)))
  other r e = e ∙ ap outcome (fresh_same test (is_taken s) same (word_at words 2))

  pub unnamed : (f : Fault) → Err f ≡ outcome (fresh_read test (Leaf (word_at words 2))) → outcome Whole ≡ Err f
  unnamed f e = name_refused made_of (is_taken s) (definition_of limits s) words items closing (definition_there s) at order f (other (Err f) e)

  module _ (name : Name) (e : Ok name ≡ outcome (fresh_read test (Leaf (word_at words 2)))) where
    pub after_name : AreItemsAt words 3 (later_items items) closing []
    after_name = name_then_items made_of (is_taken s) (definition_of limits s) words items closing (definition_there s) at order name (other (Ok name) e)

    pub order_after : AreInOrder (drop 3 words)
    order_after = name_then_order made_of (is_taken s) (definition_of limits s) words items closing (definition_there s) at order

    pub named_as : outcome Whole ≡ and_then (definition_as s closing (later_items items)) (λ d. Ok (Define name d.0 d.1 d.2))
    named_as =
        name_given made_of (is_taken s) (definition_of limits s) words items closing (definition_there s) at order name (other (Ok name) e)
        ∙ outcome_map (λ d. made_of (name, d)) (definition_of limits s closing (items_of (later_items items)))
        ∙ ap (λ r. and_then r (λ d. Ok (Define name d.0 d.1 d.2))) (definition_is s words 3 closing (later_items items) after_name order_after)

    -- the parameters are at fault
    pub no_parameters : (left : Trees) (why : TakeStop) → later_items items ≡ left → ReadsParameterItem s left closing 3 (Err why) → (nodes : List Node) (symbols : Symbols) → ReadsDefinition nodes symbols Whole (Err why)
    no_parameters left stop.Memory is h nodes symbols = tt
    no_parameters Empty (stop.Fault f) is h nodes symbols = named_as ∙ ap (λ ts. and_then (definition_as s closing ts) (λ d. Ok (Define name d.0 d.1 d.2))) is ∙ ap Err h
    no_parameters (First ps rest) (stop.Fault f) is h nodes symbols =
        named_as ∙ ap (λ ts. and_then (definition_as s closing ts) (λ d. Ok (Define name d.0 d.1 d.2))) is
        ∙ ap (λ r. and_then {A = List Parameter × Sort × Term} (and_then r (λ parameters. and_then (body_after s parameters closing rest) (λ d. Ok (parameters, d.0, d.1)))) (λ d. Ok (Define name d.0 d.1 d.2))) h

    -- the parameters, and what follows them
    pub record HasParameters (p : Parameters) (next : ℕ) : Type 0 where
      pub parameters : List Parameter
      pub others : Trees
      pub names : p.names ≡ reverse (map pair_of parameters)
      pub sorts_are : p.sorts.items ≡ map (λ q. q.sort) parameters
      pub here : AreItemsAt words next others closing []
      pub order_here : AreInOrder (drop next words)
      pub whole : outcome Whole ≡ and_then (body_after s parameters closing others) (λ d. Ok (Define name parameters d.0 d.1))

    pub some_parameters : (left : Trees) (p : Parameters) (next : ℕ) → later_items items ≡ left → ReadsParameterItem s left closing 3 (Ok (p, next)) → HasParameters p next
    some_parameters Empty p next is h = absurd h
    some_parameters (First ps rest) p next is h =
        let here = subst (λ ts. AreItemsAt words 3 ts closing []) is after_name in
        record {
          parameters = h.parameters;
          others = rest;
          names = h.names;
          sorts_are = h.sorts_are;
          here = subst (λ k. AreItemsAt words k rest closing []) (sym h.next_is) (after_first words 3 ps rest closing [] here);
          order_here = subst (λ k. AreInOrder (drop k words)) (sym h.next_is) (subst AreInOrder (sym (drop_plus (length (tokens_of ps)) 3 words)) (order_drop (length (tokens_of ps)) (drop 3 words) order_after));
          whole = named_as ∙ ap (λ ts. and_then (definition_as s closing ts) (λ d. Ok (Define name d.0 d.1 d.2))) is
              ∙ ap (λ r. and_then {A = List Parameter × Sort × Term} (and_then (outcome r) (λ parameters. and_then (body_after s parameters closing rest) (λ d. Ok (parameters, d.0, d.1)))) (λ d. Ok (Define name d.0 d.1 d.2))) h.sound
              ∙ flat (body_after s h.parameters closing rest);
        }
      where
        flat : (r : Result (Sort × Term) Fault) → and_then {A = List Parameter × Sort × Term} (and_then r (λ d. Ok (h.parameters, d.0, d.1))) (λ d. Ok (Define name d.0 d.1 d.2)) ≡ and_then r (λ d. Ok (Define name h.parameters d.0 d.1))
        flat (Ok d) = refl
        flat (Err f) = refl

    module _ (nodes : List Node) (symbols : Symbols) (p : Parameters) (next : ℕ) (has : HasParameters p next) where
      pub no_body : (why : TakeStop) → ReadsBody nodes symbols has.parameters (body_after s has.parameters closing has.others) (Err why) → ReadsDefinition nodes symbols Whole (Err why)
      no_body stop.Memory h = tt
      no_body (stop.Fault f) h = has.whole ∙ ap (λ r. and_then r (λ d. Ok (Define name has.parameters d.0 d.1))) h

      pub some_body : (d : Definition) → d.name.now ≡ name → d.parameters.items ≡ p.sorts.items → IsBody nodes symbols has.parameters (body_after s has.parameters closing has.others) d.sort d.body → IsDefinitionRead nodes symbols Whole d
      some_body d is sorts_is it = record {
        parameters = has.parameters;
        term = it.term;
        sound = sound_of Whole (Define d.name.now has.parameters d.sort it.term)
            (has.whole ∙ ap (λ r. and_then r (λ v. Ok (Define name has.parameters v.0 v.1))) it.reads ∙ ap (λ m. Ok (Define m has.parameters d.sort it.term)) (sym is));
        sorts_are = sorts_is ∙ has.sorts_are;
        code = it.code;
        height_is = it.height_is;
        weight_is = it.weight_is;
      }

-- A sort that is an item

module _ (sorts : Env Sort) (words : List Word) (i : ℕ) (closing : Word) (rest : List Word) where
  pub item_missing : (items : Trees) (f : ScriptFault) → AreItemsAt words i items closing rest → (word_at words i).kind ≡ kinds.RightParen → fault_of f ≡ word_fault 5 (word_at words i) → ReadsSortItem sorts items closing i (Err f)
  item_missing Empty f at e is = sym (is ∙ ap (word_fault 5) (word_at_items words i Empty closing rest at))
  item_missing (First t ts) f at e is = absurd (front_kind t at.proper.0 (ap (λ w. w.kind) (sym (word_at_items words i (First t ts) closing rest at)) ∙ e))

  by_result : (t : Tree) (ts : Trees) (r : Result (Sort × ℕ) ScriptFault) → answered r ≡ placed t i (outcome (sort_read sorts t)) → ReadsSortItem sorts (First t ts) closing i r
  by_result t ts (Ok (sort, next)) e = let h = placed_right t i next (outcome (sort_read sorts t)) sort e in (h.0, h.1)
  by_result t ts (Err f) e = placed_wrong t i (outcome (sort_read sorts t)) (fault_of f) e

  pub item_sorted : (items : Trees) (r : Result (Sort × ℕ) ScriptFault) → AreItemsAt words i items closing rest → ((word_at words i).kind ≡ kinds.RightParen → ⊥)
      → ((t : Tree) (more : List Word) → IsTreeAt words i t more → answered r ≡ placed t i (outcome (sort_read sorts t))) → ReadsSortItem sorts items closing i r
  item_sorted Empty r at n h = absurd (n (ap (λ w. w.kind) (word_at_items words i Empty closing rest at) ∙ at.closed))
  item_sorted (First t ts) r at n h = by_result t ts r (h t (tokens_of_items ts ++ closing ∷ rest) (first_tree words i t ts closing rest at))
