-- Arguments, word by word and by their trees.
use Rattle.std.proofs.Common.{◌≡◌, ℕ, ◌+◌, ◌≤◌, ◌==◌, max, Bool, true, false, List, [], ◌∷◌, ◌++◌, if◌then◌else◌, length, map, Contains, Option, Some, Result, Ok, Err, refl, sym, ap, ◌∙◌, subst, inl, inr, ◌⊎◌, ⊎_elim, arith, append_assoc}
use Rattle.std.proofs.lemmas.Bool.Decides.{nat_tests}
use Rattle.std.proofs.lemmas.List.{append-nil}
use Rattle.std.proofs.lemmas.List.Elements.{Contains-append_left, Contains-append_right}
use Rattle.ffc_term.specs.declared.node.Node.{Node}
use Rattle.ffc_term.specs.declared.node.Sort.{Sort}
use Rattle.ffc_smt.specs.Trees.{Word, Tree, Trees, Empty, First, tokens_of, tokens_of_items, front}
use Rattle.ffc_smt.specs.TreeShapes.{IsProper}
use Rattle.ffc_smt.specs.Terms.{Term, Terms, AndTerm, height, highest, weight, weights}
use Rattle.ffc_smt.specs.Meaning.{Env}
use Rattle.ffc_smt.specs.Scopes.{Scope}
use Rattle.ffc_smt.specs.Faults.{Fault, word_fault, is_before, Read, Sound, Faulty, faults}
use Rattle.ffc_smt.specs.TermReading.{Sorted, Argument, Wanted, is_wanted, misfit, misfits, own_faults, add_sound, terms_of, term_read, arguments_read}
use Rattle.ffc_smt.proofs.PlaceLemmas.{term_faults}
use Rattle.ffc_smt.proofs.PartLemmas.{own_faults_at, misfits_at_items}
use Rattle.ffc_words.specs.Outcomes.{outcome}
use Rattle.ffc_terms.specs.declared.callees.Callee.{Callee}
use Rattle.ffc_terms.specs.declared.callees.Parts.{Parts}
use Rattle.ffc_terms.specs.declared.codes.Op.{Op}
use Rattle.ffc_terms.specs.declared.frames.Frame.{Frame}
use Rattle.ffc_terms.specs.declared.frames.Frame.TheVariants as frame
use Rattle.ffc_terms.specs.declared.frames.Place.{Place}
use Rattle.ffc_terms.specs.declared.scope.Symbols.{Symbols}
use Rattle.ffc_terms.specs.declared.values.Value.{Value}
use Rattle.ffc_terms.specs.Callees.{capped, is_full, wanted, with_part}
use Rattle.ffc_terms.specs.Codes.{AreCodes, IsScope}
use Rattle.ffc_terms.specs.Places.{place_of, fault}
use Rattle.ffc_terms.specs.Walking.{Walking, Going, Failed, given, goes_on, run}
use Rattle.ffc_terms.proofs.FaultCodeLemmas.{run_codes}
use Rattle.ffc_terms.proofs.FirstLemmas.{Each, each_append, each_weaker, AreInOrder, IsAt, IsAtWord, at_from, at_left, at_right, NoneBefore, none_later, none_before_least, not_after, not_before_itself, before_later, outcome_faulty, outcome_sound, contains_first}
use Rattle.ffc_terms.proofs.ItemLemmas.{each_has, at_front, tokens_front, others}
use Rattle.ffc_terms.proofs.RunLemmas.{at_term, value_of, one_is, step_full, TermRuns}
use Rattle.ffc_terms.proofs.WantedLemmas.{Agree, agree_next, wanted_agrees, extra}

no_fault_before : (h f : Fault) (w : Word) → IsAtWord h w → IsAtWord f w → f.code ≤ h.code → is_before h f ≡ false
no_fault_before h f w a b le =
    let l : h.line ≡ f.line = a.0 ∙ sym b.0 in
    let c : h.column ≡ f.column = a.1 ∙ sym b.1 in
    grind (arith, nat_tests, l, c)

-- a fault of a tree, of code 5 or more, is not before that of code 5 at the tree's front
not_before_front : (t : Tree) (h : Fault) → AreInOrder (tokens_of t) → IsAt (tokens_of t) h → 5 ≤ h.code → is_before h (word_fault 5 (front t)) ≡ false
not_before_front t h order at code =
    by_place (subst (λ ws. IsAt ws h) (tokens_front t) at) (subst AreInOrder (tokens_front t) order)
  where
    by_place : IsAt (front t ∷ others t) h → AreInOrder (front t ∷ others t) → is_before h (word_fault 5 (front t)) ≡ false
    by_place (inl here) o = no_fault_before h (word_fault 5 (front t)) (front t) here (refl, refl) code
    by_place (inr there) o = not_after (word_fault 5 (front t)) h (before_later (front t) (others t) (word_fault 5 (front t)) h (refl, refl) o.0 there)

lower_code : (w : Word) → is_before (word_fault 10 w) (word_fault 5 w) ≡ false
lower_code w = no_fault_before (word_fault 10 w) (word_fault 5 w) w (refl, refl) (refl, refl) (omega arith)

pub cap_sum : (a b c : ℕ) → capped (capped (a + capped b) + c) ≡ capped (a + (b + c))
cap_sum a b c = omega arith

pub cap_small : (a : ℕ) → a ≤ 4294967295 → a ≡ capped (a + 0)
cap_small a h = omega arith

extra_at : (limit : ℕ) (scope : Scope) (locals : Env Sort) (full : ℕ → Bool) (n : ℕ) (items : Trees) → Each (IsAt (tokens_of_items items)) (extra full n (arguments_read limit scope locals items))
unfolding arguments_read tokens_of_items
extra_at limit scope locals full n Empty = tt
extra_at limit scope locals full n (First t ts) = by_test (full n) (extra_at limit scope locals full (n + 1) ts)
  where
    by_test : (b : Bool) → Each (IsAt (tokens_of_items ts)) (extra full (n + 1) (arguments_read limit scope locals ts))
        → Each (IsAt (tokens_of t ++ tokens_of_items ts)) (if b then word_fault 5 (front t) ∷ [] else extra full (n + 1) (arguments_read limit scope locals ts))
    by_test true more = (at_left (tokens_of t) (tokens_of_items ts) (word_fault 5 (front t)) (at_front t (word_fault 5 (front t)) refl refl), tt)
    by_test false more = each_weaker (IsAt (tokens_of_items ts)) (IsAt (tokens_of t ++ tokens_of_items ts)) (λ f a. at_right (tokens_of t) (tokens_of_items ts) f a) _ more

module _ (limit : ℕ) (nodes : List Node) (symbols : Symbols) (scope : Scope) (is : IsScope nodes symbols scope) (c : Callee) (F S : Option Sort) (locals : Env Sort) where
  abbrev pub Want : ℕ → Wanted
  Want i = wanted symbols c F S i

  abbrev pub arguments : Trees → List Argument
  arguments items = arguments_read limit scope locals items

  abbrev pub own : Trees → List Fault
  own items = own_faults (arguments items)

  abbrev pub unfit : Trees → ℕ → List Fault
  unfit items n = misfits Want n (arguments items)

  abbrev pub beyond : Trees → ℕ → List Fault
  beyond items n = extra (is_full symbols c) n (arguments items)

  abbrev pub call : Place → Parts → List Frame → List Op → Env Sort → Walking
  call at p fs code pending = at_term (frame.Call at c p ∷ fs) code locals pending

  -- all arguments are taken
  pub record AreTaken (items : Trees) (p : Parts) : Type 0 where
    pub own_none : own items ≡ []
    pub unfit_none : unfit items p.count ≡ []
    pub beyond_none : beyond items p.count ≡ []
    pub ops : List Op
    pub codes : AreCodes nodes symbols.terms (map (λ x. x.0) locals) (terms_of (arguments items)) (length (arguments items)) ops
    pub after : Parts
    pub count : after.count ≡ p.count + length (arguments items)
    pub agree : Agree after.count after.first after.second F S []
    pub height_is : after.height ≡ max p.height (highest (terms_of (arguments items)))
    pub weight_is : after.weight ≡ capped (p.weight + weights (terms_of (arguments items)))
    pub runs : (at : Place) (fs : List Frame) (code : List Op) (pending : Env Sort) (rest : List Word)
        → run limit symbols (call at p fs code pending) (tokens_of_items items ++ rest) ≡ run limit symbols (call at after fs (code ++ ops) pending) rest

  -- one is not
  pub record IsRefused (items : Trees) (p : Parts) : Type 0 where
    pub first : Fault
    pub among : Contains (own items ++ (unfit items p.count ++ beyond items p.count)) first
    pub own_least : NoneBefore first (own items)
    pub unfit_least : NoneBefore first (unfit items p.count)
    pub beyond_least : NoneBefore first (beyond items p.count)
    pub at_items : IsAt (tokens_of_items items) first
    pub runs : (at : Place) (fs : List Frame) (code : List Op) (pending : Env Sort) (rest : List Word)
        → run limit symbols (call at p fs code pending) (tokens_of_items items ++ rest) ≡ Err first

  abbrev pub ArgumentsRun : Trees → Parts → Type 0
  ArgumentsRun items p = AreTaken items p ⊎ IsRefused items p

  pub no_arguments : (p : Parts) → p.weight ≤ 4294967295 → Agree p.count p.first p.second F S (arguments Empty) → ArgumentsRun Empty p
  unfolding arguments_read highest weights tokens_of_items
  no_arguments p light agree = inl (record {
    own_none = refl;
    unfit_none = refl;
    beyond_none = refl;
    ops = [];
    codes = (refl, refl);
    after = p;
    count = omega arith;
    agree = agree;
    height_is = omega arith;
    weight_is = cap_small p.weight light;
    runs = λ at fs code pending rest. ap (λ k. run limit symbols (call at p fs k pending) rest) (sym (append-nil code));
  })

  later_own : (t : Tree) (ts : Trees) (f : Fault) → AreInOrder (tokens_of t ++ tokens_of_items ts) → IsAt (tokens_of t) f → NoneBefore f (own ts)
  later_own t ts f order a = none_later (tokens_of t) (tokens_of_items ts) f (own ts) order a (at_from (tokens_of_items ts) (own ts) (own_faults_at ts limit scope locals))

  later_unfit : (t : Tree) (ts : Trees) (n : ℕ) (f : Fault) → AreInOrder (tokens_of t ++ tokens_of_items ts) → IsAt (tokens_of t) f → NoneBefore f (unfit ts n)
  later_unfit t ts n f order a = none_later (tokens_of t) (tokens_of_items ts) f (unfit ts n) order a (at_from (tokens_of_items ts) (unfit ts n) (misfits_at_items ts limit scope locals Want n))

  later_beyond : (t : Tree) (ts : Trees) (n : ℕ) (f : Fault) → AreInOrder (tokens_of t ++ tokens_of_items ts) → IsAt (tokens_of t) f → NoneBefore f (beyond ts n)
  later_beyond t ts n f order a = none_later (tokens_of t) (tokens_of_items ts) f (beyond ts n) order a (extra_at limit scope locals (is_full symbols c) n ts)

  abbrev read : Tree → Read Sorted
  read t = term_read limit scope locals t

  before_misfit : (t : Tree) (W : Wanted) (r : Read Sorted) → NoneBefore (word_fault 5 (front t)) (misfit W (front t) r)
  before_misfit t W (Sound s) = by_test (is_wanted W s.sort)
    where
      by_test : (b : Bool) → NoneBefore (word_fault 5 (front t)) (if b then [] else word_fault 10 (front t) ∷ [])
      by_test true = tt
      by_test false = (lower_code (front t), tt)
  before_misfit t W (Faulty f fs) = tt

  -- faults of an argument that is one too many come after that
  before_own : (t : Tree) (o : Result Sorted Fault) → outcome (read t) ≡ o → AreInOrder (tokens_of t) → TermRuns limit nodes symbols scope is locals t o → NoneBefore (word_fault 5 (front t)) (faults (read t))
  before_own t (Ok s) e order h = subst (λ r. NoneBefore (word_fault 5 (front t)) (faults r)) (sym (outcome_sound (read t) s e)) tt
  before_own t (Err f) e order h =
      let first = outcome_faulty (read t) f e in
      let at = each_has (IsAt (tokens_of t)) (faults (read t)) f (at_from (tokens_of t) (faults (read t)) (term_faults limit scope locals t)) first.0 in
      none_before_least f (word_fault 5 (front t)) (faults (read t)) first.1 (not_before_front t f order at (run_codes limit symbols (at_term [] [] locals []) (tokens_of t ++ []) f (h [] [] [] [] refl)))

  none_unfit : (W : Wanted) (w : Word) (r : Read Sorted) (f : Fault) → outcome r ≡ Err f → misfit W w r ≡ []
  none_unfit W w (Sound s) f e = cc
  none_unfit W w (Faulty g gs) f e = refl

  split : (t : Tree) (ts : Trees) (rest : List Word) → tokens_of_items (First t ts) ++ rest ≡ tokens_of t ++ (tokens_of_items ts ++ rest)
  unfolding tokens_of_items
  split t ts rest = append_assoc (tokens_of t) (tokens_of_items ts) rest

  -- One argument more than is taken.
  too_many : (t : Tree) (ts : Trees) (p : Parts) → IsProper t → AreInOrder (tokens_of t ++ tokens_of_items ts) → AreInOrder (tokens_of t)
      → TermRuns limit nodes symbols scope is locals t (outcome (read t)) → is_full symbols c p.count ≡ true → IsRefused (First t ts) p
  unfolding arguments_read tokens_of_items
  too_many t ts p proper order ordered h full =
      let f = word_fault 5 (front t) in
      let at = at_front t f refl refl in
      let last : beyond (First t ts) p.count ≡ f ∷ [] = ap (λ b. if b then f ∷ [] else beyond ts (p.count + 1)) full in
      record {
        first = f;
        among = Contains-append_right (own (First t ts)) (unfit (First t ts) p.count ++ beyond (First t ts) p.count) f
            (Contains-append_right (unfit (First t ts) p.count) (beyond (First t ts) p.count) f (subst (λ fs. Contains fs f) (sym last) (contains_first f [])));
        own_least = each_append (λ x. is_before x f ≡ false) (faults (read t)) (own ts) (before_own t (outcome (read t)) refl ordered h) (later_own t ts f order at);
        unfit_least = each_append (λ x. is_before x f ≡ false) (misfit (Want p.count) (front t) (read t)) (unfit ts (p.count + 1)) (before_misfit t (Want p.count) (read t)) (later_unfit t ts (p.count + 1) f order at);
        beyond_least = subst (NoneBefore f) (sym last) (not_before_itself f, tt);
        at_items = at_left (tokens_of t) (tokens_of_items ts) f at;
        runs = λ place fs code pending rest.
            ap (λ ws. run limit symbols (call place p fs code pending) ((ws ++ tokens_of_items ts) ++ rest)) (tokens_front t)
            ∙ one_is limit symbols (call place p fs code pending) (front t) ((others t ++ tokens_of_items ts) ++ rest) _ (step_full limit symbols (frame.Call place c p ∷ fs) code locals pending t full proper);
      }

  -- An argument that is faulty.
  faulty_one : (t : Tree) (ts : Trees) (p : Parts) (f : Fault) → AreInOrder (tokens_of t ++ tokens_of_items ts) → outcome (read t) ≡ Err f
      → TermRuns limit nodes symbols scope is locals t (Err f) → is_full symbols c p.count ≡ false → IsRefused (First t ts) p
  unfolding arguments_read tokens_of_items
  faulty_one t ts p f order e h full =
      let first = outcome_faulty (read t) f e in
      let at = each_has (IsAt (tokens_of t)) (faults (read t)) f (at_from (tokens_of t) (faults (read t)) (term_faults limit scope locals t)) first.0 in
      let last : beyond (First t ts) p.count ≡ beyond ts (p.count + 1) = ap (λ b. if b then word_fault 5 (front t) ∷ [] else beyond ts (p.count + 1)) full in
      let fits = none_unfit (Want p.count) (front t) (read t) f e in
      record {
        first = f;
        among = Contains-append_left (own (First t ts)) (unfit (First t ts) p.count ++ beyond (First t ts) p.count) f (Contains-append_left (faults (read t)) (own ts) f first.0);
        own_least = each_append (λ x. is_before x f ≡ false) (faults (read t)) (own ts) first.1 (later_own t ts f order at);
        unfit_least = each_append (λ x. is_before x f ≡ false) (misfit (Want p.count) (front t) (read t)) (unfit ts (p.count + 1)) (subst (NoneBefore f) (sym fits) tt) (later_unfit t ts (p.count + 1) f order at);
        beyond_least = subst (NoneBefore f) (sym last) (later_beyond t ts (p.count + 1) f order at);
        at_items = at_left (tokens_of t) (tokens_of_items ts) f at;
        runs = λ place fs code pending rest. ap (run limit symbols (call place p fs code pending)) (split t ts rest) ∙ h (frame.Call place c p ∷ fs) code pending (tokens_of_items ts ++ rest) full;
      }

  given_call : (v : Value) (at : Place) (p : Parts) (fs : List Frame) (code : List Op) (pending : Env Sort)
      → given limit symbols v (call at p fs code pending)
      ≡ (if is_wanted (wanted symbols c p.first p.second p.count) v.sort then Going (call at (with_part v.sort v.height v.weight p) fs code pending) else Failed (fault 10 v.place))
  unfolding given
  given_call v at p fs code pending = refl

  agree_arguments : (t : Tree) (ts : Trees) (p : Parts) (s : Sorted) → read t ≡ Sound s → Agree p.count p.first p.second F S (arguments (First t ts))
      → Agree (p.count + 1) (if p.count == 0 then Some s.sort else p.first) (if p.count == 1 then Some s.sort else p.second) F S (arguments ts)
  unfolding arguments_read
  agree_arguments t ts p s e h = agree_next p.count p.first p.second F S (record { at = front t; read = read t }) (arguments ts) s e h

  -- An argument of the wrong sort.
  unfit_one : (t : Tree) (ts : Trees) (p : Parts) (s : Sorted) → AreInOrder (tokens_of t ++ tokens_of_items ts) → read t ≡ Sound s
      → TermRuns limit nodes symbols scope is locals t (Ok s) → Agree p.count p.first p.second F S (arguments (First t ts)) → is_full symbols c p.count ≡ false
      → is_wanted (Want p.count) s.sort ≡ false → IsRefused (First t ts) p
  unfolding arguments_read tokens_of_items given
  unfit_one t ts p s order e h agree full wrong =
      let f = word_fault 10 (front t) in
      let at = at_front t f refl refl in
      let last : beyond (First t ts) p.count ≡ beyond ts (p.count + 1) = ap (λ b. if b then word_fault 5 (front t) ∷ [] else beyond ts (p.count + 1)) full in
      let here : misfit (Want p.count) (front t) (read t) ≡ f ∷ [] = ap (misfit (Want p.count) (front t)) e ∙ ap (λ b. if b then [] else f ∷ []) wrong in
      let none : faults (read t) ≡ [] = ap faults e in
      let machine : is_wanted (wanted symbols c p.first p.second p.count) s.sort ≡ false = ap (λ w. is_wanted w s.sort) (wanted_agrees symbols c p.count p.first p.second F S (arguments (First t ts)) agree) ∙ wrong in
      record {
        first = f;
        among = Contains-append_right (own (First t ts)) (unfit (First t ts) p.count ++ beyond (First t ts) p.count) f
            (Contains-append_left (unfit (First t ts) p.count) (beyond (First t ts) p.count) f
            (Contains-append_left (misfit (Want p.count) (front t) (read t)) (unfit ts (p.count + 1)) f (subst (λ fs. Contains fs f) (sym here) (contains_first f []))));
        own_least = each_append (λ x. is_before x f ≡ false) (faults (read t)) (own ts) (subst (NoneBefore f) (sym none) tt) (later_own t ts f order at);
        unfit_least = each_append (λ x. is_before x f ≡ false) (misfit (Want p.count) (front t) (read t)) (unfit ts (p.count + 1)) (subst (NoneBefore f) (sym here) (not_before_itself f, tt)) (later_unfit t ts (p.count + 1) f order at);
        beyond_least = subst (NoneBefore f) (sym last) (later_beyond t ts (p.count + 1) f order at);
        at_items = at_left (tokens_of t) (tokens_of_items ts) f at;
        runs = λ place fs code pending rest.
            ap (run limit symbols (call place p fs code pending)) (split t ts rest) ∙ h.2 (frame.Call place c p ∷ fs) code pending (tokens_of_items ts ++ rest) full
            ∙ ap (goes_on (λ n. run limit symbols n (tokens_of_items ts ++ rest)) (tokens_of_items ts ++ rest))
            (given_call (value_of (front t) s) place p fs (code ++ h.0) pending
            ∙ ap (λ b. if b then Going (call place (with_part s.sort (height s.term) (capped (weight s.term)) p) fs (code ++ h.0) pending) else Failed (fault 10 (place_of (front t)))) machine);
      }

  -- An argument that is taken, and those after it.
  abbrev next_parts : Sorted → Parts → Parts
  next_parts s p = with_part s.sort (height s.term) (capped (weight s.term)) p

  one_taken : (t : Tree) (ts : Trees) (p : Parts) (s : Sorted) → read t ≡ Sound s → TermRuns limit nodes symbols scope is locals t (Ok s)
      → Agree p.count p.first p.second F S (arguments (First t ts)) → is_full symbols c p.count ≡ false → is_wanted (Want p.count) s.sort ≡ true
      → (h : TermRuns limit nodes symbols scope is locals t (Ok s)) × ((place : Place) (fs : List Frame) (code : List Op) (pending : Env Sort) (rest : List Word)
      → run limit symbols (call place p fs code pending) (tokens_of_items (First t ts) ++ rest) ≡ run limit symbols (call place (next_parts s p) fs (code ++ h.0) pending) (tokens_of_items ts ++ rest))
  one_taken t ts p s e h agree full fits =
      let machine : is_wanted (wanted symbols c p.first p.second p.count) s.sort ≡ true = ap (λ w. is_wanted w s.sort) (wanted_agrees symbols c p.count p.first p.second F S (arguments (First t ts)) agree) ∙ fits in (
        h,
        λ place fs code pending rest.
            ap (run limit symbols (call place p fs code pending)) (split t ts rest) ∙ h.2 (frame.Call place c p ∷ fs) code pending (tokens_of_items ts ++ rest) full
            ∙ ap (goes_on (λ n. run limit symbols n (tokens_of_items ts ++ rest)) (tokens_of_items ts ++ rest))
            (given_call (value_of (front t) s) place p fs (code ++ h.0) pending
            ∙ ap (λ b. if b then Going (call place (next_parts s p) fs (code ++ h.0) pending) else Failed (fault 10 (place_of (front t)))) machine),
      )

  none_full : (t : Tree) (ts : Trees) (p : Parts) → is_full symbols c p.count ≡ false → beyond (First t ts) p.count ≡ beyond ts (p.count + 1)
  unfolding arguments_read
  none_full t ts p full = ap (λ b. if b then word_fault 5 (front t) ∷ [] else beyond ts (p.count + 1)) full

  own_sound : (t : Tree) (ts : Trees) (s : Sorted) → read t ≡ Sound s → own (First t ts) ≡ own ts
  unfolding arguments_read
  own_sound t ts s e = ap (λ r. faults r ++ own ts) e

  unfit_sound : (t : Tree) (ts : Trees) (n : ℕ) (s : Sorted) → read t ≡ Sound s → is_wanted (Want n) s.sort ≡ true → unfit (First t ts) n ≡ unfit ts (n + 1)
  unfolding arguments_read
  unfit_sound t ts n s e fits = ap (λ r. misfit (Want n) (front t) r ++ unfit ts (n + 1)) e ∙ ap (λ b. (if b then [] else word_fault 10 (front t) ∷ []) ++ unfit ts (n + 1)) fits

  terms_sound : (t : Tree) (ts : Trees) (s : Sorted) → read t ≡ Sound s → terms_of (arguments (First t ts)) ≡ AndTerm s.term (terms_of (arguments ts))
  unfolding arguments_read
  terms_sound t ts s e = ap (λ r. add_sound r (terms_of (arguments ts))) e

  count_more : (t : Tree) (ts : Trees) → length (arguments (First t ts)) ≡ length (arguments ts) + 1
  unfolding arguments_read
  count_more t ts = omega arith

  highest_more : (t : Term) (ts : Terms) → highest (AndTerm t ts) ≡ max (height t) (highest ts)
  unfolding highest
  highest_more t ts = refl

  weights_more : (t : Term) (ts : Terms) → weights (AndTerm t ts) ≡ weight t + weights ts
  unfolding weights
  weights_more t ts = refl

  max_sum : (a b d : ℕ) → max (max a b) d ≡ max a (max b d)
  max_sum a b d = omega arith

  taken_then : (t : Tree) (ts : Trees) (p : Parts) (s : Sorted) → read t ≡ Sound s → TermRuns limit nodes symbols scope is locals t (Ok s)
      → Agree p.count p.first p.second F S (arguments (First t ts)) → is_full symbols c p.count ≡ false → is_wanted (Want p.count) s.sort ≡ true
      → AreTaken ts (next_parts s p) → AreTaken (First t ts) p
  taken_then t ts p s e h agree full fits more =
      let first = one_taken t ts p s e h agree full fits in
      let terms = terms_sound t ts s e in
      let long = count_more t ts in
      record {
        own_none = own_sound t ts s e ∙ more.own_none;
        unfit_none = unfit_sound t ts p.count s e fits ∙ more.unfit_none;
        beyond_none = none_full t ts p full ∙ more.beyond_none;
        ops = first.0.0 ++ more.ops;
        codes = subst (λ n. AreCodes nodes symbols.terms (map (λ x. x.0) locals) (terms_of (arguments (First t ts))) n (first.0.0 ++ more.ops)) (sym long)
            (subst (λ u. AreCodes nodes symbols.terms (map (λ x. x.0) locals) u (length (arguments ts) + 1) (first.0.0 ++ more.ops)) (sym terms) (first.0.0, more.ops, length (arguments ts), first.0.1, more.codes, refl, refl));
        after = more.after;
        count = more.count ∙ omega (arith, long);
        agree = more.agree;
        height_is = more.height_is ∙ max_sum p.height (height s.term) (highest (terms_of (arguments ts))) ∙ ap (max p.height) (sym (ap highest terms ∙ highest_more s.term (terms_of (arguments ts))));
        weight_is = more.weight_is ∙ cap_sum p.weight (weight s.term) (weights (terms_of (arguments ts))) ∙ ap (λ n. capped (p.weight + n)) (sym (ap weights terms ∙ weights_more s.term (terms_of (arguments ts))));
        runs = λ at fs code pending rest.
            first.1 at fs code pending rest ∙ more.runs at fs (code ++ first.0.0) pending rest
            ∙ ap (λ k. run limit symbols (call at more.after fs k pending) rest) (append_assoc code first.0.0 more.ops);
      }

  refused_then : (t : Tree) (ts : Trees) (p : Parts) (s : Sorted) → read t ≡ Sound s → TermRuns limit nodes symbols scope is locals t (Ok s)
      → Agree p.count p.first p.second F S (arguments (First t ts)) → is_full symbols c p.count ≡ false → is_wanted (Want p.count) s.sort ≡ true
      → IsRefused ts (next_parts s p) → IsRefused (First t ts) p
  unfolding tokens_of_items
  refused_then t ts p s e h agree full fits more =
      let first = one_taken t ts p s e h agree full fits in
      let o = own_sound t ts s e in
      let u = unfit_sound t ts p.count s e fits in
      let b = none_full t ts p full in
      record {
        first = more.first;
        among = subst (λ fs. Contains (own (First t ts) ++ (unfit (First t ts) p.count ++ fs)) more.first) (sym b)
            (subst (λ fs. Contains (own (First t ts) ++ (fs ++ beyond ts (p.count + 1))) more.first) (sym u)
            (subst (λ fs. Contains (fs ++ (unfit ts (p.count + 1) ++ beyond ts (p.count + 1))) more.first) (sym o) more.among));
        own_least = subst (NoneBefore more.first) (sym o) more.own_least;
        unfit_least = subst (NoneBefore more.first) (sym u) more.unfit_least;
        beyond_least = subst (NoneBefore more.first) (sym b) more.beyond_least;
        at_items = at_right (tokens_of t) (tokens_of_items ts) more.first more.at_items;
        runs = λ at fs code pending rest. first.1 at fs code pending rest ∙ more.runs at fs (code ++ first.0.0) pending rest;
      }

  -- One argument and those after it.
  pub arguments_then : (t : Tree) (ts : Trees) (p : Parts) → IsProper t → AreInOrder (tokens_of t ++ tokens_of_items ts) → AreInOrder (tokens_of t) → p.weight ≤ 4294967295
      → Agree p.count p.first p.second F S (arguments (First t ts)) → TermRuns limit nodes symbols scope is locals t (outcome (read t))
      → ((q : Parts) → q.weight ≤ 4294967295 → Agree q.count q.first q.second F S (arguments ts) → ArgumentsRun ts q) → ArgumentsRun (First t ts) p
  arguments_then t ts p proper order ordered light agree h more = by_full (is_full symbols c p.count) refl
    where
      by_fit : (s : Sorted) → read t ≡ Sound s → TermRuns limit nodes symbols scope is locals t (Ok s) → is_full symbols c p.count ≡ false → (b : Bool) → is_wanted (Want p.count) s.sort ≡ b → ArgumentsRun (First t ts) p
      by_fit s e g full false wrong = inr (unfit_one t ts p s order e g agree full wrong)
      by_fit s e g full true fits =
          let small : (next_parts s p).weight ≤ 4294967295 = omega arith in
          ⊎_elim (λ taken. inl (taken_then t ts p s e g agree full fits taken)) (λ refused. inr (refused_then t ts p s e g agree full fits refused))
          (more (next_parts s p) small (agree_arguments t ts p s e agree))

      by_outcome : (o : Result Sorted Fault) → outcome (read t) ≡ o → TermRuns limit nodes symbols scope is locals t o → is_full symbols c p.count ≡ false → ArgumentsRun (First t ts) p
      by_outcome (Ok s) e g full = by_fit s (outcome_sound (read t) s e) g full (is_wanted (Want p.count) s.sort) refl
      by_outcome (Err f) e g full = inr (faulty_one t ts p f order e g full)

      by_full : (b : Bool) → is_full symbols c p.count ≡ b → ArgumentsRun (First t ts) p
      by_full true full = inr (too_many t ts p proper order ordered h full)
      by_full false full = by_outcome (outcome (read t)) refl h full
