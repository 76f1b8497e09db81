-- The parameters of a definition, one after another.
use Rattle.std.proofs.Common.{◌≡◌, Bool, ◌||◌, true, false, List, [], ◌∷◌, ◌++◌, All, Contains, map, if◌then◌else◌, Option, Some, None, is_some, Result, Ok, Err, refl, sym, ap, ◌∙◌, subst, inl, inr, arith, append_assoc, append-nil}
use Rattle.std.specs.Str.{bytes_eq}
use Rattle.std.proofs.lemmas.List.Elements.{All-nil, All-append, All-contains, All-head, All-tail, Contains-append_left, Contains-append_right}
use Rattle.ffc_lex.specs.Names.{is_theory_name}
use Rattle.ffc_term.specs.declared.node.Sort.{Sort}
use Rattle.ffc_smt.specs.Trees.{Word, Tree, Leaf, Group, Trees, Empty, First, items_of, tokens_of, tokens_of_items, name_of}
use Rattle.ffc_smt.specs.FaultLaws.{IsAtOneOf, IsWordBefore}
use Rattle.ffc_smt.specs.Meaning.{Env, found}
use Rattle.ffc_smt.specs.Terms.{Name, Parameter}
use Rattle.ffc_smt.specs.Faults.{Fault, word_fault, is_before, first_fault, Read, Sound, Faulty, faults, faulty, unless, read_map, last, item}
use Rattle.ffc_smt.specs.Scopes.{State, scope_of}
use Rattle.ffc_smt.specs.TermReading.{Named, variable_read, free_name, sort_read, is_among, twice}
use Rattle.ffc_smt.specs.CommandReading.{fresh, ReadParameter, parameter_of, parameter_read, parameter_faults, parameter_names, sound_parameters, sound_parameter, parameters_read}
use Rattle.ffc_smt.proofs.PlaceLemmas.{each_from, each_from_items}
use Rattle.ffc_smt.proofs.ReadLemmas.{IfSound}
use Rattle.ffc_smt.proofs.TermWalk.{AllNamed, add_named_at, reads_variable, twice_at}
use Rattle.ffc_smt.proofs.WalkLemmas.{EachToken, EachIn, each_in, MayFail, ReadsAs, one_fault, if_sound}
use Rattle.ffc_terms.proofs.FirstLemmas as first
use Rattle.ffc_terms.proofs.FirstLemmas.{Each, IsAt, NoneBefore, IsBeforeAll, each_append, each_weaker, none_later, not_before_itself, outcome_faulty, outcome_unless, contains_first}
use Rattle.ffc_words.specs.Outcomes.{outcome}
use Rattle.ffc_elab.specs.Reading.{AreInOrder, and_then}
use Rattle.ffc_elab.specs.Defining.{new_among, parameter_after}
use Rattle.ffc_elab.proofs.ItemLemmas.{sorts_there}
use Rattle.ffc_elab.proofs.TermItemLemmas.{mapped_at}

-- Words in order, as a list of pairs

before_all : (w : Word) (ws : List Word) → All (IsWordBefore w) ws → IsBeforeAll w ws
before_all w [] h = tt
before_all w (v ∷ vs) h = (All-head (IsWordBefore w) v vs h, before_all w vs (All-tail (IsWordBefore w) v vs h))

pub order_is : (ws : List Word) → AreInOrder ws → first.AreInOrder ws
order_is [] h = tt
order_is (w ∷ ws) h = (before_all w ws h.0, order_is ws h.1)

-- A new name is a variable that is not among the others.

pub among_found : (names : Env Sort) (before : List Named) (name : Name) → map (λ n. n.name) before ≡ map (λ x. x.0) names → is_among name before ≡ is_some (found names name)
among_found [] [] name e = refl
among_found [] (n ∷ ns) name e = cc
among_found (x ∷ xs) [] name e = cc
among_found (x ∷ xs) (n ∷ ns) name e =
    let here : n.name ≡ x.0 = cc in
    let later : map (λ (m : Named). m.name) ns ≡ map (λ (y : Name × Sort). y.0) xs = cc in
    by_test n.name x (bytes_eq n.name name) (ap (λ v. bytes_eq v name) here) (among_found xs ns name later)
  where
    by_test : (v : Name) (y : Name × Sort) (b : Bool) → b ≡ bytes_eq y.0 name → is_among name ns ≡ is_some (found xs name)
        → (b || is_among name ns) ≡ is_some (if bytes_eq y.0 name then Some y.1 else found xs name)
    by_test v y true e h = ap (λ c. is_some (if c then Some y.1 else found xs name)) e
    by_test v y false e h = h ∙ ap (λ c. is_some (if c then Some y.1 else found xs name)) e

read_value : Name × Sort → Result (Name × Sort) Fault → Name × Sort
read_value other (Ok x) = x
read_value other (Err f) = other

value_is : (a b : Name × Sort) → (let r : Result (Name × Sort) Fault = Ok a in r ≡ Ok b) → a ≡ b
unfolding read_value
value_is a b e = ap (read_value a) e

abbrev paired : Result Sort Fault → Name → Result (Name × Sort) Fault
paired q name = and_then q (λ srt. Ok (name, srt))

abbrev free_result : Env Sort → Named → Result Name Fault
free_result names n = if is_some (found names n.name) then Err (word_fault 9 n.at) else Ok n.name

new_is : (names : Env Sort) (x : Tree) → outcome (new_among names x) ≡ and_then (outcome (variable_read x)) (free_result names)
new_is names (Group o items c) = refl
new_is names (Leaf w) = by_name (name_of w)
  where
    by_tests : (taken theory : Bool) (name : Name) → outcome (if taken then faulty 9 w else (if theory then faulty 9 w else Sound name))
        ≡ and_then (outcome (if theory then faulty 9 w else Sound (record { at = w; name = name }))) (λ (n : Named). if taken then Err (word_fault 9 n.at) else Ok n.name)
    by_tests true true name = refl
    by_tests true false name = refl
    by_tests false true name = refl
    by_tests false false name = refl

    by_theory : (taken theory : Bool) (name : Name) → is_some (found names name) ≡ taken → outcome (if taken then faulty 9 w else (if theory then faulty 9 w else Sound name))
        ≡ and_then (outcome (if theory then faulty 9 w else Sound (record { at = w; name = name }))) (free_result names)
    by_theory true true name e = refl
    by_theory true false name e = ap (λ b. if b then Err (word_fault 9 w) else Ok name) (sym e)
    by_theory false true name e = refl
    by_theory false false name e = ap (λ b. if b then Err (word_fault 9 w) else Ok name) (sym e)

    by_name : (o : Option Name) → outcome (elim o as (λ v. Read Name) [ None ↦ faulty 5 w | Some name ↦ fresh (is_some (found names name)) w name ])
        ≡ and_then (outcome (elim o as (λ v. Read Named) [ None ↦ faulty 5 w | Some name ↦ free_name w name ])) (free_result names)
    by_name None = refl
    by_name (Some name) = by_theory (is_some (found names name)) (is_theory_name name) name refl

-- Where faults and names are

marks_one : (ws : List Word) (w : Word) → Contains ws w → MayFail (IsAtOneOf ws) w
marks_one ws w has code = record { word = w; among = has; line = refl; column = refl }

module _ (s : State) where
  abbrev pub read_one : Tree → ReadParameter
  read_one t = parameter_read s t

  module _ (P : Fault → Type 0) where
    name_at : (x : Tree) → EachToken (MayFail P) x → ReadsAs P (λ n. MayFail P n.at) (variable_read x)
    name_at x m = let r = reads_variable P x m in (r.0, if_sound P _ (λ n. MayFail P n.at) (variable_read x) (λ n h. h.1) r.1)

    sort_at : (c : Word) (ts : List Tree) → MayFail P c → EachIn (MayFail P) ts → All P (faults (read_map (λ p. p.0) (item c (sort_read (scope_of s).sorts) last ts)))
    sort_at c ts m i = mapped_at P (λ p. p.0) (item c (sort_read (scope_of s).sorts) last ts) (sorts_there (scope_of s).sorts P c ts m i)

    abbrev IsPlaced : ReadParameter → Type 0
    IsPlaced p = ReadsAs P (λ n. MayFail P n.at) p.name × All P (faults p.sort)

    of_at : (c : Word) (ts : List Tree) → MayFail P c → EachIn (MayFail P) ts → IsPlaced (parameter_of s c ts)
    of_at c [] m i = ((one_fault P 5 c m, tt), one_fault P 5 c m)
    of_at c (x ∷ rest) m i = (name_at x i.0, sort_at c rest m i.1)

    one_at : (t : Tree) → EachToken (MayFail P) t → IsPlaced (parameter_read s t)
    one_at (Leaf w) m = ((one_fault P 5 w m, tt), one_fault P 5 w m)
    one_at (Group o items c) m = of_at c (items_of items) m.2 (each_in (MayFail P) items m.1)

    faults_at : (ts : List Tree) → EachIn (MayFail P) ts → All P (parameter_faults (map read_one ts))
    faults_at [] i = All-nil P
    faults_at (t ∷ ts) i =
        let p = parameter_read s t in
        let h = one_at t i.0 in
        All-append P (faults p.name ++ faults p.sort) (parameter_faults (map read_one ts)) (All-append P (faults p.name) (faults p.sort) h.0.0 h.1) (faults_at ts i.1)

    names_at : (ts : List Tree) → EachIn (MayFail P) ts → AllNamed P (parameter_names (map read_one ts))
    names_at [] i = tt
    names_at (t ∷ ts) i = let h = one_at t i.0 in add_named_at P (parameter_read s t).name (parameter_names (map read_one ts)) h.0.1 (names_at ts i.1)

  abbrev later_faults : Trees → List Fault
  later_faults us = parameter_faults (map read_one (items_of us))

  abbrev later_names : Trees → List Named
  later_names us = parameter_names (map read_one (items_of us))

  marks_all : (us : Trees) → EachIn (MayFail (IsAtOneOf (tokens_of_items us))) (items_of us)
  marks_all us = let P = IsAtOneOf (tokens_of_items us) in each_in (MayFail P) us (each_from_items (MayFail P) us (λ w has. marks_one (tokens_of_items us) w has))

  later_at : (us : Trees) → Each (IsAt (tokens_of_items us)) (later_faults us)
  later_at us = first.at_from (tokens_of_items us) (later_faults us) (faults_at (IsAtOneOf (tokens_of_items us)) (items_of us) (marks_all us))

  twice_later : (us : Trees) (before : List Named) → Each (IsAt (tokens_of_items us)) (twice before (later_names us))
  twice_later us before =
      let P = IsAtOneOf (tokens_of_items us) in
      first.at_from (tokens_of_items us) (twice before (later_names us)) (twice_at P before (later_names us) (names_at P (items_of us) (marks_all us)))

  -- all parameters but those that were read
  abbrev pub after : List Named → List ReadParameter → Read (List Parameter)
  after before ps = unless (parameter_faults ps ++ twice before (parameter_names ps)) (Sound (sound_parameters ps))

  -- the first of several lists of faults, where all after it are later
  stop_here : (F : List Fault) (X : List Parameter) (f : Fault) → Contains F f → NoneBefore f F → outcome (unless F (Sound X)) ≡ Err f
  stop_here F X f has none = outcome_unless F (Sound X) f has none tt

  none_too : (f : Fault) (xs ys : List Fault) → NoneBefore f xs → NoneBefore f ys → NoneBefore f (xs ++ ys)
  none_too f xs ys h g = each_append (λ x. is_before x f ≡ false) xs ys h g

  -- a parameter that is no list, or an empty one
  shapeless : (w : Word) (ws : List Word) (us : Trees) (before : List Named) (p : ReadParameter) → p ≡ record { name = faulty 5 w; sort = faulty 5 w } → IsAt ws (word_fault 5 w)
      → first.AreInOrder (ws ++ tokens_of_items us) → outcome (after before (p ∷ map read_one (items_of us))) ≡ Err (word_fault 5 w)
  shapeless w ws us before p e at order =
      let f = word_fault 5 w in
      let ps = map read_one (items_of us) in
      ap (λ q. outcome (after before (q ∷ ps))) e
      ∙ stop_here ((f ∷ f ∷ later_faults us) ++ twice before (later_names us)) (sound_parameters ps) f (contains_first f ((f ∷ later_faults us) ++ twice before (later_names us)))
      (none_too f (f ∷ f ∷ later_faults us) (twice before (later_names us))
      (not_before_itself f, (not_before_itself f, none_later ws (tokens_of_items us) f (later_faults us) order at (later_at us)))
      (none_later ws (tokens_of_items us) f (twice before (later_names us)) order at (twice_later us before)))

  each_contains : (Q : Fault → Type 0) (fs : List Fault) (f : Fault) → Contains fs f → Each Q fs → Q f
  each_contains Q fs f has h = All-contains Q fs f (first.all_from Q fs h) has

  unless_cons : (F : List Fault) (p : Parameter) (X : List Parameter) → outcome (unless F (Sound (p ∷ X))) ≡ and_then (outcome (unless F (Sound X))) (λ qs. Ok (p ∷ qs))
  unless_cons [] p X = refl
  unless_cons (f ∷ fs) p X = refl

  module _ (o c : Word) (x : Tree) (rest us : Trees) (before : List Named) (names : Env Sort) (same : map (λ n. n.name) before ≡ map (λ y. y.0) names)
      (order : first.AreInOrder ((tokens_of x ++ (tokens_of_items rest ++ c ∷ [])) ++ tokens_of_items us)) where
    abbrev W1 : List Word
    W1 = tokens_of x

    abbrev W2 : List Word
    W2 = tokens_of_items rest ++ c ∷ []

    abbrev W3 : List Word
    W3 = tokens_of_items us

    abbrev LF : List Fault
    LF = later_faults us

    abbrev LN : List Named
    LN = later_names us

    abbrev ps : List ReadParameter
    ps = map read_one (items_of us)

    abbrev V : Read Named
    V = variable_read x

    abbrev S : Read Sort
    S = read_map (λ p. p.0) (item c (sort_read (scope_of s).sorts) last (items_of rest))

    placed_name : ReadsAs (IsAtOneOf W1) (λ n. MayFail (IsAtOneOf W1) n.at) V
    placed_name = name_at (IsAtOneOf W1) x (each_from (MayFail (IsAtOneOf W1)) x (λ w has. marks_one W1 w has))

    placed_sort : Each (IsAt W2) (faults S)
    placed_sort =
        let P = IsAtOneOf W2 in
        first.at_from W2 (faults S)
        (sort_at P c (items_of rest) (marks_one W2 c (Contains-append_right (tokens_of_items rest) (c ∷ []) c (0, omega arith, refl)))
        (each_in (MayFail P) rest (each_from_items (MayFail P) rest (λ w has. marks_one W2 w (Contains-append_left (tokens_of_items rest) (c ∷ []) w has)))))

    sort_later : (f : Fault) (fs : List Fault) → IsAt W1 f → Each (IsAt W2) fs → NoneBefore f fs
    sort_later f fs at h = none_later W1 W2 f fs (first.order_left (W1 ++ W2) W3 order) at h

    others_later : (f : Fault) (fs : List Fault) → IsAt (W1 ++ W2) f → Each (IsAt W3) fs → NoneBefore f fs
    others_later f fs at h = none_later (W1 ++ W2) W3 f fs order at h

    abbrev Wanted : Read Named → Read Sort → Result (Name × Sort) Fault
    Wanted v q = and_then (and_then (outcome v) (free_result names)) (paired (outcome q))

    abbrev Got : Read Named → Read Sort → Result (List Parameter) Fault
    Got v q = outcome (after before (record { name = v; sort = q } ∷ ps))

    taken_case : (b : Bool) (n : Named) (q : Read Sort) (f : Fault) (X : List Parameter) → IsAt W1 (word_fault 9 n.at) → Each (IsAt W2) (faults q)
        → and_then (if b then Err (word_fault 9 n.at) else Ok n.name) (paired (outcome q)) ≡ Err f
        → outcome (unless ((faults q ++ LF) ++ ((if b then word_fault 9 n.at ∷ [] else []) ++ twice (n ∷ before) LN)) (Sound X)) ≡ Err f
    taken_case true n q f X at h e =
        let g = word_fault 9 n.at in
        let wide = first.at_left W1 W2 g at in
        let T = twice (n ∷ before) LN in
        stop_here ((faults q ++ LF) ++ (g ∷ T)) X g (Contains-append_right (faults q ++ LF) (g ∷ T) g (contains_first g T))
        (none_too g (faults q ++ LF) (g ∷ T) (none_too g (faults q) LF (sort_later g (faults q) at h) (others_later g LF wide (later_at us))) (not_before_itself g, others_later g T wide (twice_later us (n ∷ before))))
        ∙ (let is : word_fault 9 n.at ≡ f = cc in ap Err is)
    taken_case false n (Sound u) f X at h e = cc
    taken_case false n (Faulty g gs) f X at h e =
        let r : Read Sort = Faulty g gs in
        let is : first_fault g gs ≡ f = cc in
        let own = outcome_faulty r f (ap Err is) in
        let wide = first.at_right W1 W2 f (each_contains (IsAt W2) (g ∷ gs) f own.0 h) in
        let T = twice (n ∷ before) LN in
        stop_here (((g ∷ gs) ++ LF) ++ T) X f (Contains-append_left ((g ∷ gs) ++ LF) T f (Contains-append_left (g ∷ gs) LF f own.0))
        (none_too f ((g ∷ gs) ++ LF) T (none_too f (g ∷ gs) LF own.1 (others_later f LF wide (later_at us))) (others_later f T wide (twice_later us (n ∷ before))))

    stopped : (v : Read Named) (q : Read Sort) (f : Fault) → Each (IsAt W1) (faults v) → IfSound v (λ n. IsAt W1 (word_fault 9 n.at)) → Each (IsAt W2) (faults q) → Wanted v q ≡ Err f → Got v q ≡ Err f
    stopped (Faulty g gs) q f av an aq e =
        let r : Read Named = Faulty g gs in
        let is : first_fault g gs ≡ f = cc in
        let own = outcome_faulty r f (ap Err is) in
        let at = each_contains (IsAt W1) (g ∷ gs) f own.0 av in
        let wide = first.at_left W1 W2 f at in
        let T = twice before LN in
        stop_here ((((g ∷ gs) ++ faults q) ++ LF) ++ T) (sound_parameter (Faulty g gs) q (sound_parameters ps)) f
        (Contains-append_left (((g ∷ gs) ++ faults q) ++ LF) T f (Contains-append_left ((g ∷ gs) ++ faults q) LF f (Contains-append_left (g ∷ gs) (faults q) f own.0)))
        (none_too f (((g ∷ gs) ++ faults q) ++ LF) T (none_too f ((g ∷ gs) ++ faults q) LF (none_too f (g ∷ gs) (faults q) own.1 (sort_later f (faults q) at aq)) (others_later f LF wide (later_at us))) (others_later f T wide (twice_later us before)))
    stopped (Sound n) q f av an aq e =
        let X = sound_parameter (Sound n) q (sound_parameters ps) in
        ap (λ b. outcome (unless ((faults q ++ LF) ++ ((if b then word_fault 9 n.at ∷ [] else []) ++ twice (n ∷ before) LN)) (Sound X))) (among_found names before n.name same)
        ∙ taken_case (is_some (found names n.name)) n q f X an aq e

    -- with one parameter more
    pub record GoesOn (r : Result (List Parameter) Fault) (name : Name) (srt : Sort) : Type 0 where
      pub named : Named
      pub is : named.name ≡ name
      pub others : r ≡ and_then (outcome (after (named ∷ before) ps)) (λ qs. Ok (record { name = name; sort = srt } ∷ qs))

    free_case : (b : Bool) (n : Named) (u srt : Sort) (name : Name) → and_then (if b then Err (word_fault 9 n.at) else Ok n.name) (paired (Ok u)) ≡ Ok (name, srt)
        → (n.name ≡ name) × (outcome (unless (LF ++ ((if b then word_fault 9 n.at ∷ [] else []) ++ twice (n ∷ before) LN)) (Sound (record { name = n.name; sort = u } ∷ sound_parameters ps)))
        ≡ and_then (outcome (after (n ∷ before) ps)) (λ qs. Ok (record { name = name; sort = srt } ∷ qs)))
    free_case true n u srt name e = cc
    free_case false n u srt name e =
        let here : n.name ≡ name = ap (λ (x : Name × Sort). x.0) (value_is (n.name, u) (name, srt) e) in
        let sorted : u ≡ srt = ap (λ (x : Name × Sort). x.1) (value_is (n.name, u) (name, srt) e) in
        let p : Parameter = record { name = name; sort = srt } in
        let is : record { name = n.name; sort = u } ≡ p = ap (λ (v : Name). record { name = v; sort = u }) here ∙ ap (λ v. record { name = name; sort = v }) sorted in
        (here, ap (λ (v : Parameter). outcome (unless (LF ++ twice (n ∷ before) LN) (Sound (v ∷ sound_parameters ps)))) is ∙ unless_cons (LF ++ twice (n ∷ before) LN) p (sound_parameters ps))

    goes : (v : Read Named) (q : Read Sort) (name : Name) (srt : Sort) → Wanted v q ≡ Ok (name, srt) → GoesOn (Got v q) name srt
    goes (Faulty g gs) q name srt e = cc
    goes (Sound n) (Faulty g gs) name srt e = absurd (no_sort (is_some (found names n.name)) e)
      where
        no_sort : (b : Bool) → and_then (if b then Err (word_fault 9 n.at) else Ok n.name) (paired (Err (first_fault g gs))) ≡ Ok (name, srt) → ⊥
        no_sort true h = cc
        no_sort false h = cc
    goes (Sound n) (Sound u) name srt e =
        let both = free_case (is_some (found names n.name)) n u srt name e in
        record {
          named = n;
          is = both.0;
          others = ap (λ b. outcome (unless (LF ++ ((if b then word_fault 9 n.at ∷ [] else []) ++ twice (n ∷ before) LN)) (Sound (record { name = n.name; sort = u } ∷ sound_parameters ps)))) (among_found names before n.name same) ∙ both.1;
        }

    wanted_is : parameter_after (scope_of s).sorts names (Group o (First x rest) c) ≡ Wanted V S
    wanted_is = ap (λ r. and_then r (paired (outcome S))) (new_is names x)

    pub list_stops : (f : Fault) → parameter_after (scope_of s).sorts names (Group o (First x rest) c) ≡ Err f → outcome (after before (map read_one (items_of (First (Group o (First x rest) c) us)))) ≡ Err f
    unfolding items_of
    list_stops f e =
        stopped V S f (first.at_from W1 (faults V) placed_name.0) (if_sound (IsAtOneOf W1) (λ n. MayFail (IsAtOneOf W1) n.at) (λ n. IsAt W1 (word_fault 9 n.at)) V (λ n h. (first.at_from W1 (word_fault 9 n.at ∷ []) (one_fault (IsAtOneOf W1) 9 n.at h)).0) placed_name.1) placed_sort
        (sym wanted_is ∙ e)

    pub list_goes : (name : Name) (srt : Sort) → parameter_after (scope_of s).sorts names (Group o (First x rest) c) ≡ Ok (name, srt) → GoesOn (outcome (after before (map read_one (items_of (First (Group o (First x rest) c) us))))) name srt
    unfolding items_of
    list_goes name srt e = goes V S name srt (sym wanted_is ∙ e)

  tokens_first : (t : Tree) (us : Trees) → AreInOrder (tokens_of_items (First t us)) → first.AreInOrder (tokens_of t ++ tokens_of_items us)
  unfolding tokens_of
  tokens_first t us order = order_is (tokens_of t ++ tokens_of_items us) order

  inside_order : (o c : Word) (x : Tree) (rest us : Trees) → AreInOrder (tokens_of_items (First (Group o (First x rest) c) us)) → first.AreInOrder ((tokens_of x ++ (tokens_of_items rest ++ c ∷ [])) ++ tokens_of_items us)
  unfolding tokens_of
  inside_order o c x rest us order =
      subst (λ ws. first.AreInOrder (ws ++ tokens_of_items us)) (append_assoc (tokens_of x) (tokens_of_items rest) (c ∷ [])) (order_is _ order.1)

  -- what comes of a parameter
  module _ (before : List Named) (names : Env Sort) (same : map (λ n. n.name) before ≡ map (λ y. y.0) names) where
    pub parameter_stops : (t : Tree) (us : Trees) (f : Fault) → AreInOrder (tokens_of_items (First t us)) → parameter_after (scope_of s).sorts names t ≡ Err f
        → outcome (after before (map read_one (items_of (First t us)))) ≡ Err f
    unfolding items_of tokens_of
    parameter_stops (Leaf w) us f order e = shapeless w (w ∷ []) us before (parameter_read s (Leaf w)) refl (inl (refl, refl)) (tokens_first (Leaf w) us order) ∙ (let same_fault : word_fault 5 w ≡ f = cc in ap Err same_fault)
    parameter_stops (Group o Empty c) us f order e = shapeless c (o ∷ c ∷ []) us before (parameter_read s (Group o Empty c)) refl (inr (inl (refl, refl))) (tokens_first (Group o Empty c) us order) ∙ (let same_fault : word_fault 5 c ≡ f = cc in ap Err same_fault)
    parameter_stops (Group o (First x rest) c) us f order e = list_stops o c x rest us before names same (inside_order o c x rest us order) f e

    pub record GoesFurther (r : Result (List Parameter) Fault) (ps : List ReadParameter) (name : Name) (srt : Sort) : Type 0 where
      pub named : Named
      pub is : named.name ≡ name
      pub others : r ≡ and_then (outcome (after (named ∷ before) ps)) (λ qs. Ok (record { name = name; sort = srt } ∷ qs))

    pub parameter_goes : (t : Tree) (us : Trees) (name : Name) (srt : Sort) → AreInOrder (tokens_of_items (First t us)) → parameter_after (scope_of s).sorts names t ≡ Ok (name, srt)
        → GoesFurther (outcome (after before (map read_one (items_of (First t us))))) (map read_one (items_of us)) name srt
    parameter_goes (Leaf w) us name srt order e = cc
    parameter_goes (Group o Empty c) us name srt order e = cc
    parameter_goes (Group o (First x rest) c) us name srt order e =
        let g = list_goes o c x rest us before names same (inside_order o c x rest us order) name srt e in
        record { named = g.named; is = g.is; others = g.others }

pub parameters_in : (s : State) (P : Fault → Type 0) (t : Tree) → EachToken (MayFail P) t → All P (faults (parameters_read s t))
parameters_in s P (Leaf w) m = one_fault P 5 w m
parameters_in s P (Group o items c) m =
    let ts = items_of items in
    let i = each_in (MayFail P) items m.1 in
    let ps = map (read_one s) ts in
    refused_at (parameter_faults ps ++ twice [] (parameter_names ps)) (sound_parameters ps) (All-append P (parameter_faults ps) (twice [] (parameter_names ps)) (faults_at s P ts i) (twice_at P [] (parameter_names ps) (names_at s P ts i)))
  where
    refused_at : (F : List Fault) (X : List Parameter) → All P F → All P (faults (unless F (Sound X)))
    refused_at [] X h = h
    refused_at (f ∷ fs) X h = subst (λ v. All P (f ∷ v)) (sym (append-nil fs)) h
