-- Every state of a script keeps its scopes.
use Rattle.std.proofs.Common.{◌≡◌, ℕ, zero, suc, ◌+◌, ◌<◌, ◌≤◌, if◌then◌else◌, Bool, true, false, List, [], ◌∷◌, ◌++◌, length, drop, replicate, flat_map, reverse, Some, None, Option, All, Contains, ⊎_elim, refl, sym, ap, ◌∙◌, subst, arith, append-nil, length-append}
use Rattle.std.proofs.lemmas.List.Elements.{All-cons, All-nil, All-head, All-tail, All-append, All-push, All-weaker, All-drop, All-replicate, Contains-append_left, Contains-append_right, Contains-append_cases}
use Rattle.ffc_field.specs.Orders.{IsOrder}
use Rattle.ffc_term.specs.declared.node.Sort.{Sort}
use Rattle.ffc_term.specs.declared.node.Sort.TheVariants as sort
use Rattle.ffc_smt.specs.Trees.{Word, Tree}
use Rattle.ffc_smt.specs.Terms.{Name, Term, Parameter, Setting, PrintSuccess, ProduceModels, GlobalDeclarations, ProduceUnsatCores, ProduceUnsatAssumptions, Command, SetLogic, SetOption, Declare, DefineSort, Define, Assert, Push, Pop, ResetAssertions, Reset}
use Rattle.ffc_smt.specs.Meaning.{Env, found}
use Rattle.ffc_smt.specs.Scopes.{assertions_of, Meant, AsConstant, AsTerm, AsMacro, Assertion, Level, State, first_state, scope_of, empty_level, at_innermost, with_name, with_sort, with_assertion}
use Rattle.ffc_smt.specs.Constants.{MeantConstantsAre}
use Rattle.ffc_smt.specs.Faults.{Fault, Sound}
use Rattle.ffc_smt.specs.TermReading.{sort_read, term_read, term_named}
use Rattle.ffc_smt.specs.CommandReading.{Limits, negated, is_too_late, command_read}
use Rattle.ffc_smt.specs.Scripts.{named_orders, first_named, changed, labelled, after, reads_within}
use Rattle.ffc_smt.specs.Scripts.{meant_by}
use Rattle.ffc_smt.specs.ScopedStates.{IsDeclaredIn, SpeaksOf, AreNumberedBelow, IsScopedLevel, names_from, AreScopedLevels, IsScopedState}
use Rattle.ffc_smt.proofs.ReadLemmas.{IfSound, all_sound, weaker_sound}
use Rattle.ffc_smt.proofs.SoundStates.{found_all, flat_all, all_reverse}
use Rattle.ffc_smt.proofs.CommandLemmas.{IsCommandOf, command_is, all_steps}
use Rattle.ffc_smt.proofs.ConstantLemmas.{constants_weaker, meant_weaker}
use Rattle.ffc_smt.proofs.WalkLemmas.{MayFail, each_any}
use Rattle.ffc_smt.proofs.TermWalk.{reads_term, reads_term_named}
use Rattle.ffc_smt.proofs.CommandWalk.{Happens, IsTold, reads_command}

-- Names

abbrev IsAmong : Env Meant → Env Meant → Type 0
IsAmong names more = (x : Name × Meant) → Contains names x → Contains more x

declared_more : (names more : Env Meant) → IsAmong names more → (k : ℕ) (s : Sort) → IsDeclaredIn names k s → IsDeclaredIn more k s
declared_more names more h k s d = (d.0, h (d.0, AsConstant k s) d.1)

level_more : (names more : Env Meant) (l : Level) → IsAmong names more → IsScopedLevel names l → IsScopedLevel more l
level_more names more l h g = record {
  meant =
      All-weaker (λ x. MeantConstantsAre (IsDeclaredIn names) x.1) (λ x. MeantConstantsAre (IsDeclaredIn more) x.1)
      (λ x k. meant_weaker (IsDeclaredIn names) (IsDeclaredIn more) (declared_more names more h) x.1 k) l.names g.meant;
  asserted =
      All-weaker (λ a. SpeaksOf names a.term) (λ a. SpeaksOf more a.term)
      (λ a k. constants_weaker (IsDeclaredIn names) (IsDeclaredIn more) (declared_more names more h) a.term k) l.asserted g.asserted;
}

among_behind : (xs ys more : Env Meant) → IsAmong ys more → IsAmong (xs ++ ys) (xs ++ more)
among_behind xs ys more h x has = ⊎_elim (λ left. Contains-append_left xs more x left) (λ right. Contains-append_right xs more x (h x right)) (Contains-append_cases xs ys x has)

numbered_more : (k n : ℕ) (names : Env Meant) → k ≤ n → AreNumberedBelow k names → AreNumberedBelow n names
numbered_more k n [] le h = tt
numbered_more k n ((name, AsConstant j s) ∷ rest) le h = (let below : j < k = h.0 in omega arith, h.1)
numbered_more k n ((name, AsTerm s t) ∷ rest) le h = numbered_more k n rest le h
numbered_more k n ((name, AsMacro ps s t) ∷ rest) le h = numbered_more k n rest le h

numbered_behind : (n : ℕ) (xs ys : Env Meant) → AreNumberedBelow n (xs ++ ys) → AreNumberedBelow n ys
numbered_behind n [] ys h = h
numbered_behind n ((name, AsConstant k s) ∷ xs) ys h = let below : k < n = h.0 in numbered_more k n ys (omega arith) (numbered_behind k xs ys h.1)
numbered_behind n ((name, AsTerm s t) ∷ xs) ys h = numbered_behind n xs ys h
numbered_behind n ((name, AsMacro ps s t) ∷ xs) ys h = numbered_behind n xs ys h

base_names : (base : Level) → names_from [] base ≡ base.names
base_names base = append-nil base.names

abbrev HaveNoNames : List Level → Type 0
HaveNoNames ls = All (λ l. l.names ≡ []) ls

no_names : (ls : List Level) (base : Level) → HaveNoNames ls → names_from ls base ≡ base.names
no_names [] base h = base_names base
no_names (l ∷ ls) base h = ap (λ ns. ns ++ names_from ls base) (All-head (λ l. l.names ≡ []) l ls h) ∙ no_names ls base (All-tail (λ l. l.names ≡ []) l ls h)

base_scoped : (ls : List Level) (base : Level) → AreScopedLevels ls base → IsScopedLevel base.names base
base_scoped [] base h = h
base_scoped (l ∷ ls) base h = base_scoped ls base h.1

-- level 0 is another one, with more names
base_grows : (ls : List Level) (base new : Level) → IsAmong base.names new.names → IsScopedLevel new.names new → AreScopedLevels ls base → AreScopedLevels ls new
base_grows [] base new h g k = g
base_grows (l ∷ ls) base new h g k = (level_more (names_from (l ∷ ls) base) (names_from (l ∷ ls) new) l (among_behind l.names (names_from ls base) (names_from ls new) (from_among ls)) k.0, base_grows ls base new h g k.1)
  where
    from_among : (ls : List Level) → IsAmong (names_from ls base) (names_from ls new)
    from_among [] x has = subst (λ ns. Contains ns x) (sym (base_names new)) (h x (subst (λ ns. Contains ns x) (base_names base) has))
    from_among (l ∷ ls) x has = among_behind l.names (names_from ls base) (names_from ls new) (from_among ls) x has

among_base : (ls : List Level) (base : Level) → IsAmong base.names (names_from ls base)
among_base [] base x has = subst (λ ns. Contains ns x) (sym (base_names base)) has
among_base (l ∷ ls) base x has = Contains-append_right l.names (names_from ls base) x (among_base ls base x has)

-- every level's names and assertions, from all names
pub all_meant : (ls : List Level) (base : Level) (more : Env Meant) → IsAmong (names_from ls base) more → AreScopedLevels ls base → All (λ x. MeantConstantsAre (IsDeclaredIn more) x.1) (names_from ls base)
all_meant [] base more h g =
    let names = level_more base.names more base (λ x has. h x (among_base [] base x has)) g in
    subst (All (λ x. MeantConstantsAre (IsDeclaredIn more) x.1)) (sym (base_names base)) names.meant
all_meant (l ∷ ls) base more h g =
    All-append (λ x. MeantConstantsAre (IsDeclaredIn more) x.1) l.names (names_from ls base) (level_more (names_from (l ∷ ls) base) more l h g.0).meant
    (all_meant ls base more (λ x has. h x (Contains-append_right l.names (names_from ls base) x has)) g.1)

-- the same of the assertions of the levels above 0
pub levels_assert : (ls : List Level) (base : Level) (more : Env Meant) → IsAmong (names_from ls base) more → AreScopedLevels ls base → All (λ l. All (λ a. SpeaksOf more a.term) l.asserted) ls
levels_assert [] base more h g = All-nil (λ l. All (λ a. SpeaksOf more a.term) l.asserted)
levels_assert (l ∷ ls) base more h g =
    All-cons (λ l. All (λ a. SpeaksOf more a.term) l.asserted) l ls (level_more (names_from (l ∷ ls) base) more l h g.0).asserted
    (levels_assert ls base more (λ x has. h x (Contains-append_right l.names (names_from ls base) x has)) g.1)

pub scoped_assertions : (s : State) → AreScopedLevels s.levels s.base → All (λ a. SpeaksOf (scope_of s).names a.term) (assertions_of s)
scoped_assertions s g =
    let names = (scope_of s).names in
    let P = λ (a : Assertion). SpeaksOf names a.term in
    All-append P s.base.asserted (flat_map (λ l. l.asserted) (reverse s.levels)) (level_more s.base.names names s.base (among_base s.levels s.base) (base_scoped s.levels s.base g)).asserted
    (flat_all (λ l. l.asserted) P (reverse s.levels) (all_reverse (λ l. All P l.asserted) s.levels (levels_assert s.levels s.base names (λ x has. has) g)))

-- States, by their parts

pub record AreParts (logic all : Bool) (count : ℕ) (levels : List Level) (base : Level) : Type 0 where
  pub early : logic ≡ false → levels ≡ []
  pub global : all ≡ true → HaveNoNames levels
  pub numbered : AreNumberedBelow count (names_from levels base)
  pub scoped : AreScopedLevels levels base

abbrev HasParts : State → Type 0
HasParts s = AreParts s.logic s.options.global_declarations (length s.constants) s.levels s.base

-- where a change of the innermost level, or of level 0, is made
abbrev placed : (Level → Level) → Bool → List Level → Level → List Level × Level
placed change true ls base = (ls, change base)
placed change false [] base = ([], change base)
placed change false (l ∷ ls) base = (change l ∷ ls, base)

placed_levels : (change : Level → Level) (s : State) (b : Bool) → (at_innermost change (if b then [] else s.levels) s).levels ≡ (placed change b s.levels s.base).0
placed_levels change s true = refl
placed_levels change s false = by_levels s.levels refl
  where
    by_levels : (ls : List Level) → s.levels ≡ ls → (at_innermost change ls s).levels ≡ (placed change false ls s.base).0
    by_levels [] e = e
    by_levels (l ∷ ls) e = refl

placed_base : (change : Level → Level) (s : State) (b : Bool) → (at_innermost change (if b then [] else s.levels) s).base ≡ (placed change b s.levels s.base).1
placed_base change s true = refl
placed_base change s false = by_levels s.levels
  where
    by_levels : (ls : List Level) → (at_innermost change ls s).base ≡ (placed change false ls s.base).1
    by_levels [] = refl
    by_levels (l ∷ ls) = refl

module _ (change : Level → Level) (s : State) where
  same_logic : (ls : List Level) → (at_innermost change ls s).logic ≡ s.logic
  same_logic [] = refl
  same_logic (l ∷ ls) = refl

  same_options : (ls : List Level) → (at_innermost change ls s).options ≡ s.options
  same_options [] = refl
  same_options (l ∷ ls) = refl

  pub same_constants : (ls : List Level) → (at_innermost change ls s).constants ≡ s.constants
  same_constants [] = refl
  same_constants (l ∷ ls) = refl

  pub same_order : (ls : List Level) → (at_innermost change ls s).first_order ≡ s.first_order
  same_order [] = refl
  same_order (l ∷ ls) = refl

-- from the parts of a state to the state
back : (change : Level → Level) (s : State) (b : Bool) (n : ℕ) → AreParts s.logic s.options.global_declarations n (placed change b s.levels s.base).0 (placed change b s.levels s.base).1
    → let new = at_innermost change (if b then [] else s.levels) s in AreParts new.logic new.options.global_declarations n new.levels new.base
back change s b n h =
    let ls = if b then [] else s.levels in
    let new = at_innermost change ls s in
    subst (λ x. AreParts x new.options.global_declarations n new.levels new.base) (sym (same_logic change s ls))
    (subst (λ o. AreParts s.logic o.global_declarations n new.levels new.base) (sym (same_options change s ls))
    (subst (λ ys. AreParts s.logic s.options.global_declarations n ys new.base) (sym (placed_levels change s b))
    (subst (λ y. AreParts s.logic s.options.global_declarations n (placed change b s.levels s.base).0 y) (sym (placed_base change s b)) h)))

-- A sort's name

names_same : (ls : List Level) (base new : Level) → base.names ≡ new.names → names_from ls base ≡ names_from ls new
names_same [] base new e = ap (λ ns. ns ++ []) e
names_same (l ∷ ls) base new e = ap (λ ns. l.names ++ ns) (names_same ls base new e)

abbrev add_sort : Name → Sort → Level → Level
add_sort name t l = record l { sorts = (name, t) ∷ l.sorts }

sort_level : (name : Name) (t : Sort) (names : Env Meant) (l : Level) → IsScopedLevel names l → IsScopedLevel names (add_sort name t l)
sort_level name t names l h = record { meant = h.meant; asserted = h.asserted }

sort_parts : (name : Name) (t : Sort) (lg g : Bool) (n : ℕ) (ls : List Level) (base : Level) → AreParts lg g n ls base → AreParts lg g n (placed (add_sort name t) g ls base).0 (placed (add_sort name t) g ls base).1
sort_parts name t lg true n ls base h =
    let new = add_sort name t base in
    record {
      early = h.early;
      global = h.global;
      numbered = subst (AreNumberedBelow n) (names_same ls base new refl) h.numbered;
      scoped = base_grows ls base new (λ x has. has) (sort_level name t base.names base (base_scoped ls base h.scoped)) h.scoped;
    }
sort_parts name t lg false n [] base h = record { early = h.early; global = λ e. cc; numbered = h.numbered; scoped = sort_level name t base.names base h.scoped }
sort_parts name t lg false n (l ∷ ls) base h = record {
  early = λ e. absurd (no_level l ls (h.early e));
  global = λ e. cc;
  numbered = h.numbered;
  scoped = (sort_level name t (names_from (l ∷ ls) base) l h.scoped.0, h.scoped.1);
}
  where
    no_level : (l : Level) (ls : List Level) → l ∷ ls ≡ [] → ⊥
    no_level l ls e = cc

-- An assertion

abbrev add_assertion : Assertion → Level → Level
add_assertion a l = record l { asserted = l.asserted ++ a ∷ [] }

assertion_level : (a : Assertion) (names : Env Meant) (l : Level) → SpeaksOf names a.term → IsScopedLevel names l → IsScopedLevel names (add_assertion a l)
assertion_level a names l g h = record { meant = h.meant; asserted = All-push (λ b. SpeaksOf names b.term) l.asserted a h.asserted g }

assertion_parts : (a : Assertion) (lg g : Bool) (n : ℕ) (ls : List Level) (base : Level) → SpeaksOf (names_from ls base) a.term → AreParts lg g n ls base
    → AreParts lg g n (placed (add_assertion a) false ls base).0 (placed (add_assertion a) false ls base).1
assertion_parts a lg g n [] base k h =
    record { early = h.early; global = h.global; numbered = h.numbered; scoped = assertion_level a base.names base (subst (λ ns. SpeaksOf ns a.term) (base_names base) k) h.scoped }
assertion_parts a lg g n (l ∷ ls) base k h = record {
  early = λ e. absurd (no_level l ls (h.early e));
  global = λ e.
      let all = h.global e in
      All-cons (λ m. m.names ≡ []) (add_assertion a l) ls (All-head (λ m. m.names ≡ []) l ls all) (All-tail (λ m. m.names ≡ []) l ls all);
  numbered = h.numbered;
  scoped = (assertion_level a (names_from (l ∷ ls) base) l k h.scoped.0, h.scoped.1);
}
  where
    no_level : (l : Level) (ls : List Level) → l ∷ ls ≡ [] → ⊥
    no_level l ls e = cc

-- A name of a term

abbrev add_name : Name → Meant → Level → Level
add_name name m l = record l { names = (name, m) ∷ l.names }

-- with further names, also this one, the constants of what it means are among them
abbrev IsBroughtIn : Env Meant → Name → Meant → Type 0
IsBroughtIn names name m = (more : Env Meant) → IsAmong names more → Contains more (name, m) → MeantConstantsAre (IsDeclaredIn more) m

first_here : {A : Type 0} (x : A) (xs : List A) → Contains (x ∷ xs) x
first_here x xs = (0, omega arith, refl)

among_after : (x : Name × Meant) (names : Env Meant) → IsAmong names (x ∷ names)
among_after x names y has = Contains-append_right (x ∷ []) names y has

name_level : (name : Name) (m : Meant) (names more : Env Meant) (l : Level) → IsAmong names more → MeantConstantsAre (IsDeclaredIn more) m → IsScopedLevel names l → IsScopedLevel more (add_name name m l)
name_level name m names more l among g h =
    let kept = level_more names more l among h in
    record { meant = All-cons (λ x. MeantConstantsAre (IsDeclaredIn more) x.1) (name, m) l.names g kept.meant; asserted = kept.asserted }

name_base : (name : Name) (m : Meant) (names : Env Meant) (base : Level) → base.names ≡ names → IsBroughtIn names name m → IsScopedLevel base.names base → IsScopedLevel ((name, m) ∷ base.names) (add_name name m base)
name_base name m names base e k h =
    let x : Name × Meant = (name, m) in
    let more : Env Meant = x ∷ base.names in
    name_level name m base.names more base (among_after x base.names) (k more (λ y has. among_after x base.names y (subst (λ ns. Contains ns y) (sym e) has)) (first_here x base.names)) h

name_parts : (name : Name) (m : Meant) (lg g : Bool) (n count : ℕ) (ls : List Level) (base : Level) → AreNumberedBelow count ((name, m) ∷ names_from ls base) → IsBroughtIn (names_from ls base) name m → AreParts lg g n ls base
    → AreParts lg g count (placed (add_name name m) g ls base).0 (placed (add_name name m) g ls base).1
name_parts name m lg true n count ls base c k h =
    let new = add_name name m base in
    let none = h.global refl in
    let all : names_from ls base ≡ base.names = no_names ls base none in
    record {
      early = h.early;
      global = h.global;
      numbered = subst (AreNumberedBelow count) (ap (λ ns. (name, m) ∷ ns) all ∙ sym (no_names ls new none)) c;
      scoped = base_grows ls base new (among_after (name, m) base.names) (name_base name m (names_from ls base) base (sym all) k (base_scoped ls base h.scoped)) h.scoped;
    }
name_parts name m lg false n count [] base c k h =
    record { early = h.early; global = λ e. cc; numbered = c; scoped = name_base name m (names_from [] base) base (sym (base_names base)) k h.scoped }
name_parts name m lg false n count (l ∷ ls) base c k h =
    let x : Name × Meant = (name, m) in
    let names = names_from (l ∷ ls) base in
    let more : Env Meant = x ∷ names in
    record {
      early = λ e. absurd (no_level l ls (h.early e));
      global = λ e. cc;
      numbered = c;
      scoped = (name_level name m names more l (among_after x names) (k more (among_after x names) (first_here x names)) h.scoped.0, h.scoped.1);
    }
  where
    no_level : (l : Level) (ls : List Level) → l ∷ ls ≡ [] → ⊥
    no_level l ls e = cc

-- Levels

empty_scoped : (names : Env Meant) → IsScopedLevel names empty_level
empty_scoped names = record { meant = All-nil (λ x. MeantConstantsAre (IsDeclaredIn names) x.1); asserted = All-nil (λ a. SpeaksOf names a.term) }

pushed_names : (n : ℕ) (ls : List Level) (base : Level) → names_from (replicate n empty_level ++ ls) base ≡ names_from ls base
pushed_names zero ls base = refl
pushed_names (suc n) ls base = pushed_names n ls base

pushed_scoped : (n : ℕ) (ls : List Level) (base : Level) → AreScopedLevels ls base → AreScopedLevels (replicate n empty_level ++ ls) base
pushed_scoped zero ls base h = h
pushed_scoped (suc n) ls base h = (empty_scoped _, pushed_scoped n ls base h)

pushed_parts : (k : ℕ) (g : Bool) (n : ℕ) (ls : List Level) (base : Level) → AreParts true g n ls base → AreParts true g n (replicate k empty_level ++ ls) base
pushed_parts k g n ls base h = record {
  early = λ e. cc;
  global = λ e. All-append (λ l. l.names ≡ []) (replicate k empty_level) ls (All-replicate (λ l. l.names ≡ []) k empty_level refl) (h.global e);
  numbered = subst (AreNumberedBelow n) (sym (pushed_names k ls base)) h.numbered;
  scoped = pushed_scoped k ls base h.scoped;
}

dropped_none : (k : ℕ) (ls : List Level) → ls ≡ [] → drop k ls ≡ []
dropped_none zero ls e = e
dropped_none (suc k) [] e = refl
dropped_none (suc k) (l ∷ ls) e = cc

dropped_scoped : (k : ℕ) (ls : List Level) (base : Level) → AreScopedLevels ls base → AreScopedLevels (drop k ls) base
dropped_scoped zero ls base h = h
dropped_scoped (suc k) [] base h = h
dropped_scoped (suc k) (l ∷ ls) base h = dropped_scoped k ls base h.1

dropped_numbered : (k n : ℕ) (ls : List Level) (base : Level) → AreNumberedBelow n (names_from ls base) → AreNumberedBelow n (names_from (drop k ls) base)
dropped_numbered zero n ls base h = h
dropped_numbered (suc k) n [] base h = h
dropped_numbered (suc k) n (l ∷ ls) base h = dropped_numbered k n ls base (numbered_behind n l.names (names_from ls base) h)

popped_parts : (k : ℕ) (lg g : Bool) (n : ℕ) (ls : List Level) (base : Level) → AreParts lg g n ls base → AreParts lg g n (drop k ls) base
popped_parts k lg g n ls base h = record {
  early = λ e. dropped_none k ls (h.early e);
  global = λ e. All-drop (λ l. l.names ≡ []) k ls (h.global e);
  numbered = dropped_numbered k n ls base h.numbered;
  scoped = dropped_scoped k ls base h.scoped;
}

cleared_parts : (lg g : Bool) (n : ℕ) (ls : List Level) (base : Level) → AreParts lg g n ls base → AreParts lg g n [] (if g then record base { asserted = [] } else empty_level)
cleared_parts lg true n ls base h =
    let scoped = base_scoped ls base h.scoped in
    record {
      early = λ e. refl;
      global = λ e. All-nil (λ l. l.names ≡ []);
      numbered = subst (AreNumberedBelow n) (no_names ls base (h.global refl) ∙ sym (append-nil base.names)) h.numbered;
      scoped = record { meant = scoped.meant; asserted = All-nil (λ a. SpeaksOf base.names a.term) };
    }
cleared_parts lg false n ls base h = record { early = λ e. refl; global = λ e. cc; numbered = tt; scoped = empty_scoped [] }

empty_parts : (lg g : Bool) (n : ℕ) → AreParts lg g n [] empty_level
empty_parts lg g n = record { early = λ e. refl; global = λ e. All-nil (λ l. l.names ≡ []); numbered = tt; scoped = empty_scoped [] }

-- Commands

module _ (s : State) (h : HasParts s) where
  abbrev Names : Env Meant
  Names = (scope_of s).names

  -- the terms in a command speak of the constants in scope
  abbrev Brings : Command → Type 0
  Brings c = IsCommandOf (λ locals t u. SpeaksOf Names t) (λ u. Unit {0}) c

  term_brought : (name : Name) (u : Sort) (t : Term) → SpeaksOf Names t → IsBroughtIn Names name (AsTerm u t)
  term_brought name u t g more among has = constants_weaker (IsDeclaredIn Names) (IsDeclaredIn more) (declared_more Names more among) t g

  meant_brought : (name : Name) (ps : List Parameter) (u : Sort) (t : Term) → SpeaksOf Names t → IsBroughtIn Names name (meant_by ps u t)
  meant_brought name [] u t g more among has = term_brought name u t g more among has
  meant_brought name (p ∷ ps) u t g more among has = constants_weaker (IsDeclaredIn Names) (IsDeclaredIn more) (declared_more Names more among) t g

  meant_numbered : (name : Name) (ps : List Parameter) (u : Sort) (t : Term) → AreNumberedBelow (length s.constants) ((name, meant_by ps u t) ∷ Names)
  meant_numbered name [] u t = h.numbered
  meant_numbered name (p ∷ ps) u t = h.numbered

-- a change of names, as the parts of the new state
with_parts : (name : Name) (m : Meant) (s : State) (count : ℕ) → HasParts s → AreNumberedBelow count ((name, m) ∷ (scope_of s).names) → IsBroughtIn (scope_of s).names name m
    → let new = with_name name m s in AreParts new.logic new.options.global_declarations count new.levels new.base
with_parts name m s count h c k =
    back (add_name name m) s s.options.global_declarations count (name_parts name m s.logic s.options.global_declarations (length s.constants) count s.levels s.base c k h)

counted_parts : (s : State) (n : ℕ) → length s.constants ≡ n → AreParts s.logic s.options.global_declarations n s.levels s.base → HasParts s
counted_parts s n e h = subst (λ k. AreParts s.logic s.options.global_declarations k s.levels s.base) (sym e) h

names_constants : (name : Name) (m : Meant) (s : State) → (with_name name m s).constants ≡ s.constants
names_constants name m s = same_constants (add_name name m) s (if s.options.global_declarations then [] else s.levels)

asserted_names : (a : Assertion) (s : State) → (scope_of (with_assertion a s)).names ≡ (scope_of s).names
asserted_names a s = by_levels s.levels refl
  where
    by_levels : (ls : List Level) → s.levels ≡ ls → (scope_of (at_innermost (add_assertion a) ls s)).names ≡ (scope_of s).names
    by_levels [] e = names_same s.levels (add_assertion a s.base) s.base refl
    by_levels (l ∷ ls) e = ap (λ ms. names_from ms s.base) (sym e)

asserted_parts : (a : Assertion) (s : State) → HasParts s → SpeaksOf (scope_of s).names a.term → HasParts (with_assertion a s)
asserted_parts a s h g =
    counted_parts (with_assertion a s) (length s.constants) (ap length (same_constants (add_assertion a) s s.levels))
    (back (add_assertion a) s false (length s.constants) (assertion_parts a s.logic s.options.global_declarations (length s.constants) s.levels s.base g h))

labelled_parts : (label : Option Name) (t : Term) (s : State) → HasParts s → SpeaksOf (scope_of s).names t → HasParts (labelled label t s)
labelled_parts None t s h g = h
labelled_parts (Some name) t s h g =
    counted_parts (with_name name (AsTerm sort.Bool t) s) (length s.constants) (ap length (names_constants name (AsTerm sort.Bool t) s))
    (with_parts name (AsTerm sort.Bool t) s (length s.constants) h h.numbered (term_brought s h name sort.Bool t g))

option_parts : (o : Setting) (b : Bool) (s : State) → HasParts s → is_too_late s o ≡ false → HasParts (changed (SetOption o b) s)
option_parts GlobalDeclarations b s h e = record {
  early = h.early;
  global = λ d. subst HaveNoNames (sym (h.early e)) (All-nil (λ l. l.names ≡ []));
  numbered = h.numbered;
  scoped = h.scoped;
}
option_parts PrintSuccess b s h e = h
option_parts ProduceModels b s h e = h
option_parts ProduceUnsatCores b s h e = h
option_parts ProduceUnsatAssumptions b s h e = h

changed_parts : (l : Limits) (c : Command) (s : State) (h : HasParts s) → Brings s h c → Happens (λ f. Unit {0}) l s c → HasParts (changed c s)
changed_parts l SetLogic s h g e = record { early = λ d. cc; global = h.global; numbered = h.numbered; scoped = h.scoped }
changed_parts l (SetOption o b) s h g e = option_parts o b s h e
changed_parts l (Declare name t) s h g e =
    let k = length s.constants in
    let long : length (s.constants ++ t ∷ []) ≡ k + 1 = length-append s.constants (t ∷ []) in
    counted_parts (changed (Declare name t) s) (k + 1) long
    (with_parts name (AsConstant k t) s (k + 1) h (omega arith, h.numbered) (λ more among has. (name, has)))
changed_parts l (DefineSort name t) s h g e =
    counted_parts (with_sort name t s) (length s.constants) (ap length (same_constants (add_sort name t) s (if s.options.global_declarations then [] else s.levels)))
    (back (add_sort name t) s s.options.global_declarations (length s.constants) (sort_parts name t s.logic s.options.global_declarations (length s.constants) s.levels s.base h))
changed_parts l (Define name ps u t) s h g e =
    counted_parts (with_name name (meant_by ps u t) s) (length s.constants) (ap length (names_constants name (meant_by ps u t) s))
    (with_parts name (meant_by ps u t) s (length s.constants) h (meant_numbered s h name ps u t) (meant_brought s h name ps u t g))
changed_parts l (Assert label t) s h g e =
    let a : Assertion = record { term = t; label = label } in
    labelled_parts label t (with_assertion a s) (asserted_parts a s h g) (subst (λ ns. SpeaksOf ns t) (sym (asserted_names a s)) g)
changed_parts l (Push n) s h g e =
    subst (λ b. AreParts b s.options.global_declarations (length s.constants) (replicate n empty_level ++ s.levels) s.base) (sym e)
    (pushed_parts n s.options.global_declarations (length s.constants) s.levels s.base (subst (λ b. AreParts b s.options.global_declarations (length s.constants) s.levels s.base) e h))
changed_parts l (Pop n) s h g e = popped_parts n s.logic s.options.global_declarations (length s.constants) s.levels s.base h
changed_parts l ResetAssertions s h g e = cleared_parts s.logic s.options.global_declarations (length s.constants) s.levels s.base h
changed_parts l Reset s h g e = empty_parts false false (length s.constants)
changed_parts l _ s h g e = h

-- The order that was named first

first_named_good : (o : Option ℕ) (ps : List ℕ) → ((p : ℕ) → o ≡ Some p → IsOrder p) → All IsOrder ps → (p : ℕ) → first_named o ps ≡ Some p → IsOrder p
first_named_good (Some q) ps h g p e = h p e
first_named_good None [] h g p e = cc
first_named_good None (q ∷ ps) h g p e = let same : q ≡ p = cc in subst IsOrder same (All-head IsOrder q ps g)

-- Scripts

parts_of : (s : State) → IsScopedState s → HasParts s
parts_of s h = record { early = h.early; global = h.global; numbered = h.numbered; scoped = h.scoped }

pub scope_speaks : (s : State) → IsScopedState s → (name : Name) (m : Meant) → found (scope_of s).names name ≡ Some m → MeantConstantsAre (IsDeclaredIn (scope_of s).names) m
scope_speaks s h name m e =
    let names = (scope_of s).names in
    found_all (MeantConstantsAre (IsDeclaredIn names)) names name m (all_meant s.levels s.base names (λ x has. has) h.scoped) e

-- a fault may be anywhere
abbrev Anywhere : Fault → Type 0
Anywhere f = Unit {0}

module _ (l : Limits) (s : State) (h : IsScopedState s) where
  abbrev Scope : Env Meant
  Scope = (scope_of s).names

  pub term_speaks : (locals : Env Sort) (t : Tree) → IfSound (term_read l.height (scope_of s) locals t) (λ x. SpeaksOf Scope x.term)
  term_speaks locals t =
      let r = reads_term Anywhere (IsDeclaredIn Scope) l.height (scope_of s) (scope_speaks s h) t locals (each_any (MayFail Anywhere) (λ w code. tt) t) in
      weaker_sound (term_read l.height (scope_of s) locals t) _ (λ x. SpeaksOf Scope x.term) (λ x k. k.1) r.1

  named_speaks : (w : Word) (name : Name) → IfSound (term_named (scope_of s) [] w name) (λ x. SpeaksOf Scope x.term)
  named_speaks w name = (reads_term_named Anywhere (IsDeclaredIn Scope) l.height (scope_of s) (scope_speaks s h) [] w name (λ code. tt)).1

  negation_speaks : (t : Term) → SpeaksOf Scope t → SpeaksOf Scope (negated t)
  negation_speaks t g = (g, tt)

  abbrev pub Speaks : Command → Type 0
  Speaks c = IsCommandOf (λ locals t u. SpeaksOf Scope t) (λ u. Unit {0}) c

  pub command_speaks : (t : Tree) → IfSound (command_read l s t) Speaks
  command_speaks t =
      command_is l s (λ locals t u. SpeaksOf Scope t) (λ u. Unit {0}) term_speaks (λ tree. all_sound (sort_read (scope_of s).sorts tree) (λ u. Unit {0}) (λ u. tt)) named_speaks negation_speaks t

  command_told : (t : Tree) → IfSound (command_read l s t) (IsTold Anywhere l s t)
  command_told t = (reads_command Anywhere l s t (each_any (MayFail Anywhere) (λ w code. tt) t)).1

  pub next_is_scoped : (t : Tree) (c : Command) → command_read l s t ≡ Sound c → IsScopedState (after s t c)
  unfolding after
  next_is_scoped t c e =
      let speaks = subst (λ r. IfSound r Speaks) e (command_speaks t) in
      let stated = subst (λ r. IfSound r (IsTold Anywhere l s t)) e (command_told t) in
      let parts = changed_parts l c s (parts_of s h) speaks stated.1 in
      record {
        early = parts.early;
        global = parts.global;
        numbered = parts.numbered;
        scoped = parts.scoped;
        order = first_named_good s.first_order (named_orders c t) h.order stated.0;
      }

pub first_is_scoped : IsScopedState first_state
first_is_scoped = record { early = λ e. refl; global = λ e. cc; numbered = tt; scoped = empty_scoped []; order = λ p e. cc }

pub scripts_keep_scopes : (l : Limits) (text : List ℕ) → All (λ x. IsScopedState x.before × IsScopedState (after x.before x.tree x.command)) (reads_within l text).steps
scripts_keep_scopes l text =
    all_steps l IsScopedState (λ x. IsScopedState x.before × IsScopedState (after x.before x.tree x.command))
    (λ s t c h e. let next = next_is_scoped l s h t c e in (next, (h, next))) text first_is_scoped
