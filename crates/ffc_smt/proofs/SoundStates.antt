-- Every state of a script is sound.
use Rattle.std.proofs.Common.{◌≡◌, ℕ, zero, suc, ◌+◌, ◌-◌, ◌<◌, ◌≤◌, ◌⊎◌, inl, inr, ⊎_elim, nat_lt, if◌then◌else◌, Bool, true, false, cond, List, [], ◌∷◌, ◌++◌, length, take, replicate, flat_map, reverse, Some, None, Option, All, Contains, slice_get, refl, sym, ap, ◌∙◌, subst, arith, append-nil, length-append}
use Rattle.std.specs.Str.{bytes_eq}
use Rattle.std.proofs.lemmas.Bool.Decides.{nat_tests}
use Rattle.std.proofs.lemmas.List.{get_or-reverse, length-reverse}
use Rattle.std.proofs.lemmas.List.Elements.{All-cons, All-nil, All-head, All-tail, All-append, All-push, All-weaker, All-drop, All-replicate}
use Rattle.std.proofs.lemmas.List.Sums.{sum_by_push, sum_by-take-le, count_by_more_yes}
use Rattle.std.proofs.lemmas.Option.{slice_get_within, get_or_from_slice_get}
use Rattle.ffc_term.specs.declared.node.Node.{Node}
use Rattle.ffc_term.specs.declared.node.Sort.{Sort}
use Rattle.ffc_term.specs.declared.node.Sort.TheVariants as sort
use Rattle.ffc_term.specs.Nodes.{is_constant}
use Rattle.ffc_term.specs.Tables.{Fits, IsNumbered, IsFieldIte, constant_count, most_nodes}
use Rattle.ffc_term.proofs.NodeLemmas.{IsNodeAt-from_Contains, Contains-from_IsNodeAt, IsNodeAt-last}
use Rattle.ffc_term.proofs.TableLemmas.{IsWellFormed-nil, HasEqualities-nil, IsWellFormed-push, HasEqualities-push}
use Rattle.ffc_smt.specs.Trees.{Word, Tree, front}
use Rattle.ffc_smt.specs.Terms.{Name, Term, Asked, Command, SetLogic, SetOption, CheckSatAssuming, GetValue, Declare, DefineSort, Define, Assert, Push, Pop, ResetAssertions, Reset}
use Rattle.ffc_smt.specs.Meaning.{Env, found}
use Rattle.ffc_smt.specs.Making.{interned, constant_node, made}
use Rattle.ffc_smt.specs.Bounds.{IsMade}
use Rattle.ffc_smt.specs.Scopes.{Meant, AsConstant, AsTerm, AsMacro, Assertion, Level, State, first_state, scope_of, empty_level, at_innermost, with_name, with_sort, with_assertion}
use Rattle.ffc_smt.specs.Faults.{Sound, faulty}
use Rattle.ffc_smt.specs.CommandReading.{Limits, negated, form_read, nodes_after, asked_made, command_weight, within, command_read}
use Rattle.ffc_smt.specs.Scripts.{changed, labelled, after}
use Rattle.ffc_smt.specs.Scripts.{meant_by}
use Rattle.ffc_smt.specs.Sorting.{sorts_of_parameters}
use Rattle.ffc_smt.specs.WellSorted.{IsSoundTerm}
use Rattle.ffc_smt.specs.States.{IsTableWith, IsMadeTerm, IsSoundMeant, IsSoundSort, IsSoundScope, IsSoundAssertion, IsSoundLevel, IsSoundState}
use Rattle.ffc_smt.proofs.ReadLemmas.{IfSound, all_sound, behind_sound}
use Rattle.ffc_smt.proofs.CommandLemmas.{IsCommandOf, command_is}
use Rattle.ffc_smt.proofs.Extends.{Extends, extends_same, extends_further, interned_extends, made_extends}
use Rattle.ffc_smt.proofs.InterningLemmas.{interned_absent}
use Rattle.ffc_smt.proofs.Bounds.{made_stays}
use Rattle.ffc_smt.proofs.TableMaking.{room_before, contains_behind}
use Rattle.ffc_smt.proofs.SoundTerms.{made_good, stays_get, sound_stays}
use Rattle.ffc_smt.proofs.SoundReading.{term_sound, named_sound, sort_read_good}

-- Lists

pub flat_all : {A B : Type 0} (f : A → List B) (P : B → Type 0) (xs : List A) → All (λ x. All P (f x)) xs → All P (flat_map f xs)
flat_all f P [] h = All-nil P
flat_all f P (x ∷ xs) h = All-append P (f x) (flat_map f xs) (All-head (λ y. All P (f y)) x xs h) (flat_all f P xs (All-tail (λ y. All P (f y)) x xs h))

pub all_reverse : {A : Type 0} (P : A → Type 0) (xs : List A) → All P xs → All P (reverse xs)
all_reverse P xs h k d inside =
    let short : k < length xs = omega (arith, inside, length-reverse xs) in
    subst P (sym (get_or-reverse xs k d short)) (h (length xs - 1 - k) d (omega arith))

found_first : {A : Type 0} (P : A → Type 0) (b : Bool) (x m : A) (o : Option A) → (if b then Some x else o) ≡ Some m → P x → (o ≡ Some m → P m) → P m
found_first P true x m o e h k = let same : x ≡ m = cc in subst P same h
found_first P false x m o e h k = k e

pub found_all : {A : Type 0} (P : A → Type 0) (ns : Env A) (name : Name) (m : A) → All (λ x. P x.1) ns → found ns name ≡ Some m → P m
found_all P [] name m h e = cc
found_all P (n ∷ ns) name m h e =
    found_first P (bytes_eq n.0 name) n.1 m (found ns name) e (All-head (λ x. P x.1) n ns h) (found_all P ns name m (All-tail (λ x. P x.1) n ns h))

-- Names in scope

pub all_levels : (s : State) → IsSoundState s → All (IsSoundLevel s.constants s.nodes) (s.levels ++ s.base ∷ [])
all_levels s h = All-push (IsSoundLevel s.constants s.nodes) s.levels s.base h.levels h.base

pub scope_is_sound : (s : State) → IsSoundState s → IsSoundScope s.constants s.nodes (scope_of s)
scope_is_sound s h =
    let P = IsSoundLevel s.constants s.nodes in
    let all = all_levels s h in
    record {
      names = λ name m e.
          found_all (IsSoundMeant s.constants s.nodes) (scope_of s).names name m
          (flat_all (λ l. l.names) (λ x. IsSoundMeant s.constants s.nodes x.1) (s.levels ++ s.base ∷ []) (All-weaker P (λ l. All (λ x. IsSoundMeant s.constants s.nodes x.1) l.names) (λ l g. g.names) (s.levels ++ s.base ∷ []) all)) e;
      sorts = λ name u e.
          found_all IsSoundSort (scope_of s).sorts name u
          (flat_all (λ l. l.sorts) (λ x. IsSoundSort x.1) (s.levels ++ s.base ∷ []) (All-weaker P (λ l. All (λ x. IsSoundSort x.1) l.sorts) (λ l g. g.sorts) (s.levels ++ s.base ∷ []) all)) e;
    }

empty_is_sound : (cs : List Sort) (ns : List Node) → IsSoundLevel cs ns empty_level
empty_is_sound cs ns = record {
  names = All-nil (λ x. IsSoundMeant cs ns x.1);
  sorts = All-nil (λ x. IsSoundSort x.1);
  asserted = All-nil (IsSoundAssertion cs ns);
}

pub first_is_sound : IsSoundState first_state
first_is_sound = record {
  nodes = record {
    table = record { well_formed = IsWellFormed-nil; equalities = HasEqualities-nil };
    declared = λ k s e. cc;
    counted = refl;
  };
  levels = All-nil (IsSoundLevel [] []);
  base = empty_is_sound [] [];
}

-- With more constants and nodes

module _ (cs more : List Sort) (old new : List Node) (further : Extends old new) where
  made_term_stays : (t : Term) (s : Sort) → IsMadeTerm cs old t s → IsMadeTerm (cs ++ more) new t s
  made_term_stays t s h = (sound_stays cs more old new further t [] s h.0, made_stays t old new further h.1)

  meant_stays : (m : Meant) → IsSoundMeant cs old m → IsSoundMeant (cs ++ more) new m
  meant_stays (AsConstant k s) h = stays_get cs more k s h
  meant_stays (AsTerm s t) h = made_term_stays t s h
  meant_stays (AsMacro ps s t) h = sound_stays cs more old new further t (sorts_of_parameters ps) s h

  level_stays : (l : Level) → IsSoundLevel cs old l → IsSoundLevel (cs ++ more) new l
  level_stays l h = record {
    names = All-weaker (λ x. IsSoundMeant cs old x.1) (λ x. IsSoundMeant (cs ++ more) new x.1) (λ x g. meant_stays x.1 g) l.names h.names;
    sorts = h.sorts;
    asserted = All-weaker (IsSoundAssertion cs old) (IsSoundAssertion (cs ++ more) new) (λ a g. made_term_stays a.term sort.Bool g) l.asserted h.asserted;
  }

-- Commands

module _ (cs : List Sort) (ns : List Node) where
  abbrev AreSoundLevels : State → Type 0
  AreSoundLevels s = All (IsSoundLevel cs ns) s.levels × IsSoundLevel cs ns s.base

  innermost_sound : (change : Level → Level) (ls : List Level) (s : State) → ((l : Level) → IsSoundLevel cs ns l → IsSoundLevel cs ns (change l)) → All (IsSoundLevel cs ns) ls → AreSoundLevels s
      → AreSoundLevels (at_innermost change ls s)
  innermost_sound change [] s k g h = (h.0, k s.base h.1)
  innermost_sound change (l ∷ ls) s k g h =
      (All-cons (IsSoundLevel cs ns) (change l) ls (k l (All-head (IsSoundLevel cs ns) l ls g)) (All-tail (IsSoundLevel cs ns) l ls g), h.1)

  chosen_levels : (b : Bool) (ls : List Level) → All (IsSoundLevel cs ns) ls → All (IsSoundLevel cs ns) (if b then [] else ls)
  chosen_levels true ls h = All-nil (IsSoundLevel cs ns)
  chosen_levels false ls h = h

  name_sound : (name : Name) (m : Meant) (s : State) → IsSoundMeant cs ns m → AreSoundLevels s → AreSoundLevels (with_name name m s)
  name_sound name m s g h =
      innermost_sound _ (if s.options.global_declarations then [] else s.levels) s
      (λ l k. record { names = All-cons (λ x. IsSoundMeant cs ns x.1) (name, m) l.names g k.names; sorts = k.sorts; asserted = k.asserted })
      (chosen_levels s.options.global_declarations s.levels h.0) h

  sort_sound : (name : Name) (t : Sort) (s : State) → IsSoundSort t → AreSoundLevels s → AreSoundLevels (with_sort name t s)
  sort_sound name t s g h =
      innermost_sound _ (if s.options.global_declarations then [] else s.levels) s
      (λ l k. record { names = k.names; sorts = All-cons (λ x. IsSoundSort x.1) (name, t) l.sorts g k.sorts; asserted = k.asserted })
      (chosen_levels s.options.global_declarations s.levels h.0) h

  assertion_sound : (a : Assertion) (s : State) → IsSoundAssertion cs ns a → AreSoundLevels s → AreSoundLevels (with_assertion a s)
  assertion_sound a s g h =
      innermost_sound _ s.levels s (λ l k. record { names = k.names; sorts = k.sorts; asserted = All-push (IsSoundAssertion cs ns) l.asserted a k.asserted g }) h.0 h

  label_sound : (label : Option Name) (t : Term) (s : State) → IsMadeTerm cs ns t sort.Bool → AreSoundLevels s → AreSoundLevels (labelled label t s)
  label_sound None t s g h = h
  label_sound (Some name) t s g h = name_sound name (AsTerm sort.Bool t) s g h

  cleared_sound : (b : Bool) (base : Level) → IsSoundLevel cs ns base → IsSoundLevel cs ns (if b then record base { asserted = [] } else empty_level)
  cleared_sound true base h = record { names = h.names; sorts = h.sorts; asserted = All-nil (IsSoundAssertion cs ns) }
  cleared_sound false base h = empty_is_sound cs ns

  -- what a command adds is sound
  abbrev BringsSound : State → Command → Type 0
  BringsSound s (Declare name t) = slice_get cs (length s.constants) ≡ Some t
  BringsSound s (DefineSort name t) = IsSoundSort t
  BringsSound s (Define name ps r t) = IsSoundMeant cs ns (meant_by ps r t)
  BringsSound s (Assert label t) = IsMadeTerm cs ns t sort.Bool
  BringsSound s _ = Unit {0}

  changed_sound : (c : Command) (s : State) → BringsSound s c → AreSoundLevels s → AreSoundLevels (changed c s)
  changed_sound SetLogic s g h = h
  changed_sound (SetOption o b) s g h = h
  changed_sound (Declare name t) s g h = name_sound name (AsConstant (length s.constants) t) s g h
  changed_sound (DefineSort name t) s g h = sort_sound name t s g h
  changed_sound (Define name ps r t) s g h = name_sound name (meant_by ps r t) s g h
  changed_sound (Assert label t) s g h =
      label_sound label t (with_assertion (record { term = t; label = label }) s) g (assertion_sound (record { term = t; label = label }) s g h)
  changed_sound (Push n) s g h =
      (All-append (IsSoundLevel cs ns) (replicate n empty_level) s.levels (All-replicate (IsSoundLevel cs ns) n empty_level (empty_is_sound cs ns)) h.0, h.1)
  changed_sound (Pop n) s g h = (All-drop (IsSoundLevel cs ns) n s.levels h.0, h.1)
  changed_sound ResetAssertions s g h = (All-nil (IsSoundLevel cs ns), cleared_sound s.options.global_declarations s.base h.1)
  changed_sound Reset s g h = (All-nil (IsSoundLevel cs ns), empty_is_sound cs ns)
  changed_sound _ s g h = h

-- Nodes

pub made_here : (t : Term) (ns : List Node) → IsMade (made [] ns t).nodes t
made_here t ns = record { before = ns; more = []; made_then = sym (append-nil (made [] ns t).nodes) }

pub asked_extends : (asked : List Asked) (ns : List Node) → Extends ns (asked_made ns asked)
unfolding asked_made
asked_extends [] ns = extends_same ns
asked_extends (a ∷ rest) ns = extends_further ns (made [] ns a.term).nodes _ (made_extends a.term [] ns) (asked_extends rest (made [] ns a.term).nodes)

-- A new constant

pub constant_counts : (k : ℕ) (s : Sort) → is_constant (constant_node k s) ≡ true
constant_counts k sort.Bool = refl
constant_counts k (sort.Field p) = refl

constant_fits : (ns : List Node) (k : ℕ) (s : Sort) → IsSoundSort s → Fits ns (constant_node k s)
constant_fits ns k sort.Bool h = tt
constant_fits ns k (sort.Field p) h = h

pub constant_number : (ns : List Node) (k : ℕ) (s : Sort) → IsNumbered ns (constant_node k s) → k ≡ constant_count ns
constant_number ns k sort.Bool h = h
constant_number ns k (sort.Field p) h = h

constant_numbered : (ns : List Node) (k : ℕ) (s : Sort) → k ≡ constant_count ns → IsNumbered ns (constant_node k s)
constant_numbered ns k sort.Bool h = h
constant_numbered ns k (sort.Field p) h = h

constant_no_ite : (k : ℕ) (s : Sort) → ¬ (IsFieldIte (constant_node k s))
constant_no_ite k sort.Bool = λ i. i
constant_no_ite k (sort.Field p) = λ i. i

-- a constant that is in a table has a number below their count
pub constant_new : (ns : List Node) (cs : List Sort) (s : Sort) → IsTableWith cs (length cs) ns → ¬ (Contains ns (constant_node (length cs) s))
constant_new ns cs s table has =
    let n = constant_node (length cs) s in
    let there = IsNodeAt-from_Contains ns n has in
    let inside = slice_get_within ns there.0 n there.1 in
    let number = constant_number (take there.0 ns) (length cs) s (table.table.well_formed.numbered there.0 n there.1) in
    let one_more = count_by_more_yes is_constant ns there.0 n inside (ap is_constant (get_or_from_slice_get ns there.0 n n there.1) ∙ constant_counts (length cs) s) in
    let most = sum_by-take-le (λ x. cond (is_constant x) 1 0) ns (there.0 + 1) in
    absurd (omega (arith, number, one_more, most, table.counted))

get_push : (cs : List Sort) (s u : Sort) (k : ℕ) → slice_get (cs ++ s ∷ []) k ≡ Some u → (slice_get cs k ≡ Some u) ⊎ ((k ≡ length cs) × (u ≡ s))
get_push [] s u zero e = inr (refl, cc)
get_push [] s u (suc k) e = cc
get_push (c ∷ cs) s u zero e = inl e
get_push (c ∷ cs) s u (suc k) e = ⊎_elim (λ old. inl old) (λ new. inr (ap suc new.0, new.1)) (get_push cs s u k e)

get_last : (cs : List Sort) (s : Sort) → slice_get (cs ++ s ∷ []) (length cs) ≡ Some s
get_last [] s = refl
get_last (c ∷ cs) s = get_last cs s

declared_sound : (cs : List Sort) (s : Sort) (ns : List Node) → IsSoundSort s → IsTableWith cs (length cs) ns → length (interned ns (constant_node (length cs) s)).nodes ≤ most_nodes
    → IsTableWith (cs ++ s ∷ []) (length (cs ++ s ∷ [])) (interned ns (constant_node (length cs) s)).nodes
declared_sound cs s ns sound h room =
    let n = constant_node (length cs) s in
    let new = constant_new ns cs s h in
    let is = interned_absent ns n new in
    let short : length (ns ++ n ∷ []) ≤ most_nodes = subst (λ m. length m.nodes ≤ most_nodes) is room in
    subst (λ m. IsTableWith (cs ++ s ∷ []) (length (cs ++ s ∷ [])) m.nodes) (sym is) (record {
      table = record {
        well_formed =
            IsWellFormed-push ns n h.table.well_formed (constant_fits ns (length cs) s sound) (constant_numbered ns (length cs) s (sym h.counted)) new
            (omega (arith, short, length-append ns (n ∷ [])));
        equalities = HasEqualities-push ns n h.table.equalities (constant_no_ite (length cs) s);
      };
      declared = λ k u e.
          ⊎_elim
          (λ old. contains_behind ns (n ∷ []) (constant_node k u) (h.declared k u old))
          (λ last.
          subst (λ j. Contains (ns ++ n ∷ []) (constant_node j u)) (sym last.0)
          (subst (λ v. Contains (ns ++ n ∷ []) (constant_node (length cs) v)) (sym last.1) (Contains-from_IsNodeAt (ns ++ n ∷ []) (length ns) n (IsNodeAt-last ns n))))
          (get_push cs s u k e);
      counted =
          sum_by_push (λ x. cond (is_constant x) 1 0) ns n ∙ ap (λ b. constant_count ns + cond b 1 0) (constant_counts (length cs) s)
          ∙ ap (λ c. c + 1) h.counted ∙ sym (length-append cs (s ∷ []));
    })

innermost_constants : (change : Level → Level) (ls : List Level) (s : State) → (at_innermost change ls s).constants ≡ s.constants
innermost_constants change [] s = refl
innermost_constants change (l ∷ ls) s = refl

labelled_constants : (label : Option Name) (t : Term) (s : State) → (labelled label t s).constants ≡ s.constants
labelled_constants None t s = refl
labelled_constants (Some name) t s = innermost_constants _ (if s.options.global_declarations then [] else s.levels) s

module _ (s : State) (h : IsSoundState s) where
  abbrev pub IsSoundHere : Env Sort → Term → Sort → Type 0
  IsSoundHere locals t u = IsSoundTerm s.constants s.nodes locals t u

  abbrev pub Fine : Command → Type 0
  Fine c = IsCommandOf IsSoundHere IsSoundSort c

  abbrev IsTableNow : List Node → Type 0
  IsTableNow ns = IsTableWith s.constants (length s.constants) ns

  term_made : (t : Term) (u : Sort) (ns : List Node) → IsSoundHere [] t u → IsTableNow ns → length (made [] ns t).nodes ≤ most_nodes → IsTableNow (made [] ns t).nodes
  term_made t u ns g table room = (made_good s.constants (length s.constants) s.nodes t [] u [] ns g tt table room).0

  pub asked_good : (asked : List Asked) (ns : List Node) → All (λ a. (u : Sort) × IsSoundHere [] a.term u) asked → IsTableNow ns → length (asked_made ns asked) ≤ most_nodes
      → IsTableNow (asked_made ns asked) × All (λ a. IsMade (asked_made ns asked) a.term) asked
  unfolding asked_made
  asked_good [] ns g table room = (table, All-nil (λ a. IsMade ns a.term))
  asked_good (a ∷ rest) ns g table room =
      let m = made [] ns a.term in
      let last = asked_made m.nodes rest in
      let more = asked_extends rest m.nodes in
      let one = All-head (λ b. (u : Sort) × IsSoundHere [] b.term u) a rest g in
      let first = term_made a.term one.0 ns one.1 table (room_before m.nodes last more room) in
      let others = asked_good rest m.nodes (All-tail (λ b. (u : Sort) × IsSoundHere [] b.term u) a rest g) first room in
      (others.0, All-cons (λ b. IsMade last b.term) a rest (made_stays a.term m.nodes last more (made_here a.term ns)) others.1)

  pub some_sort : (asked : List Asked) → All (λ a. IsSoundHere [] a.term sort.Bool) asked → All (λ a. (u : Sort) × IsSoundHere [] a.term u) asked
  some_sort asked g = All-weaker (λ a. IsSoundHere [] a.term sort.Bool) (λ a. (u : Sort) × IsSoundHere [] a.term u) (λ a k. (sort.Bool, k)) asked g

  -- from what a command adds
  state_from : (tree : Tree) (c : Command) (more : List Sort) → (changed c s).constants ≡ s.constants ++ more → Extends s.nodes (nodes_after s c)
      → IsTableWith (s.constants ++ more) (length (s.constants ++ more)) (nodes_after s c) → BringsSound (s.constants ++ more) (nodes_after s c) s c → IsSoundState (after s tree c)
  unfolding after
  state_from tree c more e further table brings =
      let new = nodes_after s c in
      let cs = s.constants ++ more in
      let stays = level_stays s.constants more s.nodes new further in
      let levels = changed_sound cs new c s brings (All-weaker (IsSoundLevel s.constants s.nodes) (IsSoundLevel cs new) stays s.levels h.levels, stays s.base h.base) in
      record {
        nodes = subst (λ ds. IsTableWith ds (length ds) new) (sym e) table;
        levels = subst (λ ds. All (IsSoundLevel ds new) (changed c s).levels) (sym e) levels.0;
        base = subst (λ ds. IsSoundLevel ds new (changed c s).base) (sym e) levels.1;
      }

  -- a command that declares no constant
  same_from : (tree : Tree) (c : Command) → (changed c s).constants ≡ s.constants → Extends s.nodes (nodes_after s c) → IsTableNow (nodes_after s c)
      → BringsSound (s.constants ++ []) (nodes_after s c) s c → IsSoundState (after s tree c)
  same_from tree c e further table brings =
      state_from tree c [] (e ∙ sym (append-nil s.constants)) further (subst (λ ds. IsTableWith ds (length ds) (nodes_after s c)) (sym (append-nil s.constants)) table) brings

  still_from : (tree : Tree) (c : Command) → (changed c s).constants ≡ s.constants → nodes_after s c ≡ s.nodes → BringsSound (s.constants ++ []) (nodes_after s c) s c → IsSoundState (after s tree c)
  still_from tree c e n brings =
      same_from tree c e (subst (Extends s.nodes) (sym n) (extends_same s.nodes)) (subst IsTableNow (sym n) h.nodes) brings

  -- a term that was made just now
  made_now : (t : Term) (u : Sort) → IsSoundHere [] t u → IsMadeTerm (s.constants ++ []) (made [] s.nodes t).nodes t u
  made_now t u g = (sound_stays s.constants [] s.nodes (made [] s.nodes t).nodes (made_extends t [] s.nodes) t [] u g, made_here t s.nodes)

  pub after_is_sound : (tree : Tree) (c : Command) → Fine c → length (nodes_after s c) ≤ most_nodes → IsSoundState (after s tree c)
  unfolding nodes_after
  after_is_sound tree (Declare name t) g room =
      state_from tree (Declare name t) (t ∷ []) refl (interned_extends s.nodes (constant_node (length s.constants) t)) (declared_sound s.constants t s.nodes g h.nodes room) (get_last s.constants t)
  after_is_sound tree (DefineSort name t) g room =
      still_from tree (DefineSort name t) (innermost_constants _ (if s.options.global_declarations then [] else s.levels) s) refl g
  after_is_sound tree (Define name [] u t) g room =
      same_from tree (Define name [] u t) (innermost_constants _ (if s.options.global_declarations then [] else s.levels) s) (made_extends t [] s.nodes) (term_made t u s.nodes g h.nodes room) (made_now t u g)
  after_is_sound tree (Define name (p ∷ ps) u t) g room =
      still_from tree (Define name (p ∷ ps) u t) (innermost_constants _ (if s.options.global_declarations then [] else s.levels) s) refl
      (sound_stays s.constants [] s.nodes s.nodes (extends_same s.nodes) t (sorts_of_parameters (p ∷ ps)) u g)
  after_is_sound tree (Assert label t) g room =
      let a : Assertion = record { term = t; label = label } in
      same_from tree (Assert label t) (labelled_constants label t (with_assertion a s) ∙ innermost_constants _ s.levels s) (made_extends t [] s.nodes) (term_made t sort.Bool s.nodes g h.nodes room)
      (made_now t sort.Bool g)
  after_is_sound tree (CheckSatAssuming asked) g room =
      same_from tree (CheckSatAssuming asked) refl (asked_extends asked s.nodes) ((asked_good asked s.nodes (some_sort asked g) h.nodes room).0) tt
  after_is_sound tree (GetValue asked) g room = same_from tree (GetValue asked) refl (asked_extends asked s.nodes) ((asked_good asked s.nodes g h.nodes room).0) tt
  after_is_sound tree _ g room = still_from tree _ refl refl tt

  pub negation_sound : (t : Term) → IsSoundHere [] t sort.Bool → IsSoundHere [] (negated t) sort.Bool
  negation_sound t g = (sort.Bool ∷ [], (g, tt), (refl, refl))

  pub command_is_fine : (l : Limits) (t : Tree) → IfSound (command_read l s t) Fine
  command_is_fine l t =
      let well = scope_is_sound s h in
      command_is l s IsSoundHere IsSoundSort (λ locals tree. term_sound s.constants s.nodes l.height (scope_of s) well tree locals) (λ tree. sort_read_good (scope_of s).sorts tree well.sorts)
      (λ w name. named_sound s.constants s.nodes l.height (scope_of s) well [] w name) negation_sound t

-- the limit of nodes
within_room : (l : Limits) (s : State) (opening : Word) (c : Command) → IfSound (within l s opening c) (λ d. length (nodes_after s d) ≤ l.nodes)
within_room l s opening c = by_test (nat_lt l.nodes (length (nodes_after s c))) (nat_lt l.weight (command_weight c)) refl
  where
    by_test : (b d : Bool) → nat_lt l.nodes (length (nodes_after s c)) ≡ b → IfSound (if b then faulty 15 opening else (if d then faulty 15 opening else Sound c)) (λ e. length (nodes_after s e) ≤ l.nodes)
    by_test true d e = tt
    by_test false true e = tt
    by_test false false e = grind (arith, nat_tests)

pub command_room : (l : Limits) (s : State) (t : Tree) → IfSound (command_read l s t) (λ c. length (nodes_after s c) ≤ l.nodes)
unfolding command_read
command_room l s t =
    behind_sound (form_read l s t) (within l s (front t)) (λ c. Unit {0}) (λ c. length (nodes_after s c) ≤ l.nodes) (all_sound (form_read l s t) (λ c. Unit {0}) (λ c. tt)) (λ c g. within_room l s (front t) c)

pub fine_command : (l : Limits) (s : State) (h : IsSoundState s) (t : Tree) (c : Command) → l.nodes ≤ most_nodes → command_read l s t ≡ Sound c
    → Fine s h c × (length (nodes_after s c) ≤ most_nodes)
fine_command l s h t c small e = (
  subst (λ r. IfSound r (Fine s h)) e (command_is_fine s h l t),
  let room : length (nodes_after s c) ≤ l.nodes = subst (λ r. IfSound r (λ d. length (nodes_after s d) ≤ l.nodes)) e (command_room l s t) in omega (arith, room, small),
)

pub next_is_sound : (l : Limits) (s : State) (t : Tree) (c : Command) → l.nodes ≤ most_nodes → IsSoundState s → command_read l s t ≡ Sound c → IsSoundState (after s t c)
next_is_sound l s t c small h e = let fine = fine_command l s h t c small e in after_is_sound s h t c fine.0 fine.1
