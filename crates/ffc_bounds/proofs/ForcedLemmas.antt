-- Literals that propagation forces, and sets of literals that have all of them.
use Rattle.std.proofs.Common.{inl, inr, ◌≡◌, ◌≢◌, ◌⊎◌, ℕ, zero, suc, ◌<◌, Bool, true, false, not, cond, ◌||◌, List, [], ◌∷◌, length, Contains, Option, Some, None, option_and_then, slice_get, refl, sym, ap, ◌∙◌, subst, arith}
use Rattle.std.specs.List.{list_all, list_any}
use Rattle.std.proofs.lemmas.Bool.{false≢true, cases_Bool, and_from, and_parts, or_left, or_right, or_cases, eq-eqb}
use Rattle.std.proofs.lemmas.List.Elements.{Contains-append_right}
use Rattle.std.proofs.lemmas.Option.{slice_get_within, get_or_from_slice_get}
use Rattle.ffc_clause.specs.Clauses.{Literal, Clause, negated, same_truth, same_literal, is_among}
use Rattle.ffc_clause.specs.Propagation.{Propagates}
use Rattle.ffc_clause.specs.Propagation.Propagates.{unit}
use Rattle.ffc_clause.proofs.HintLemmas.{same_literal-true}

same_truth-self : (a : Bool) → same_truth a a ≡ true
same_truth-self true = refl
same_truth-self false = refl

pub same_literal-self : (l : Literal) → same_literal l l ≡ true
same_literal-self l = and_from (same_truth l.0 l.0) _ (same_truth-self l.0) (eq-eqb l.1 l.1 refl)

-- a test of all elements passes at each
pub all_at : {X : Type 0} (p : X → Bool) (xs : List X) (x : X) → list_all p xs ≡ true → Contains xs x → p x ≡ true
all_at p [] x all (k, inside, is) = absurd (omega arith)
all_at p (y ∷ xs) x all (zero, inside, is) = ap p (sym is) ∙ (and_parts (p y) (list_all p xs) all).0
all_at p (y ∷ xs) x all (suc k, inside, is) = all_at p xs x (and_parts (p y) (list_all p xs) all).1 (k, omega arith, is)

-- between membership and the test of it
pub among-from_Contains : (ls : List Literal) (l : Literal) → Contains ls l → is_among ls l ≡ true
among-from_Contains [] l (k, inside, is) = absurd (omega arith)
among-from_Contains (m ∷ ls) l (zero, inside, is) = or_left (same_literal l m) _ (ap (same_literal l) is ∙ same_literal-self l)
among-from_Contains (m ∷ ls) l (suc k, inside, is) = or_right (same_literal l m) _ (among-from_Contains ls l (k, omega arith, is))

pub Contains-from_among : (ls : List Literal) (l : Literal) → is_among ls l ≡ true → Contains ls l
Contains-from_among [] l is = absurd (false≢true is)
Contains-from_among (m ∷ ls) l is =
    elim (or_cases (same_literal l m) (is_among ls l) is) as (λ _. Contains (m ∷ ls) l) [
      | inl here ↦ (0, omega arith, sym (same_literal-true l m here))
      | inr later ↦ Contains-append_right (m ∷ []) ls l (Contains-from_among ls l later)
    ]

-- the literal is this one, or its negation is among these
abbrev pub is_out : List Literal → Literal → Literal → Bool
is_out known l m = same_literal m l || is_among known (negated m)

-- a literal of a clause is forced where the negations of all others are
pub forced_step : (clauses : List Clause) (known : List Literal) → ((m : Literal) → is_among known m ≡ true → Propagates clauses m) → (clause : Clause) → Contains clauses clause → (l : Literal) → Contains clause l
    → list_all (is_out known l) clause ≡ true → Propagates clauses l
forced_step clauses known all clause listed l has out =
    unit clause listed has (λ m among other.
    elim (or_cases (same_literal m l) (is_among known (negated m)) (all_at (is_out known l) clause m out among)) as (λ _. Propagates clauses (negated m)) [
      | inl same ↦ absurd (other (same_literal-true m l same))
      | inr false_of ↦ all (negated m) false_of
    ])

-- a literal of a clause is known, or of some other one of the clause the negation is not
abbrev pub is_closed_at : List Literal → Clause → Literal → Bool
is_closed_at known clause l = not (list_all (is_out known l) clause) || is_among known l

abbrev pub is_closed : List Literal → List Clause → Bool
is_closed known clauses = list_all (λ clause. list_all (is_closed_at known clause) clause) clauses

pub all_from : {X : Type 0} (p : X → Bool) (xs : List X) → ((x : X) → Contains xs x → p x ≡ true) → list_all p xs ≡ true
all_from p [] each = refl
all_from p (x ∷ xs) each = and_from (p x) (list_all p xs) (each x (0, omega arith, refl)) (all_from p xs (λ y has. each y (Contains-append_right (x ∷ []) xs y has)))

-- a set that has what each clause forces of it has all that is forced
pub closed_has : (clauses : List Clause) (known : List Literal) → is_closed known clauses ≡ true → (l : Literal) → Propagates clauses l → is_among known l ≡ true
closed_has clauses known closed l (unit clause listed has others) =
    let each : list_all (is_closed_at known clause) clause ≡ true = all_at (λ d. list_all (is_closed_at known d) d) clauses clause closed listed in
    let out : list_all (is_out known l) clause ≡ true = all_from (is_out known l) clause (λ m among.
    elim (cases_Bool (same_literal m l)) as (λ _. is_out known l m ≡ true) [
      | inl same ↦ or_left (same_literal m l) _ same
      | inr other ↦ or_right (same_literal m l) _ (closed_has clauses known closed (negated m) (others m among (λ e. false≢true (sym other ∙ ap (λ k. same_literal k l) e ∙ same_literal-self l))))
    ]) in
    elim (or_cases (not (list_all (is_out known l) clause)) (is_among known l) (all_at (is_closed_at known clause) clause l each has)) as (λ _. is_among known l ≡ true) [
      | inl some ↦ absurd (false≢true (ap not (sym out) ∙ some))
      | inr is ↦ is
    ]

-- ---- derivations by the numbers of clauses and literals

-- the literal at this place of a clause, where the negations of all others of the clause are known
abbrev derived_in : List Literal → ℕ → Option Clause → Option Literal
derived_in known i None = None
derived_in known i (Some clause) = option_and_then (λ l. cond (list_all (is_out known l) clause) (Some l) None) (slice_get clause i)

abbrev with_derived : List Literal → Option Literal → List Literal
with_derived known None = known
with_derived known (Some l) = l ∷ known

-- what is known after the literals at these places of these clauses were derived in turn
abbrev pub derived : List Clause → List (ℕ × ℕ) → List Literal → List Literal
derived clauses [] known = known
derived clauses (p ∷ places) known = derived clauses places (with_derived known (derived_in known p.1 (slice_get clauses p.0)))

contains_at : {X : Type 0} (xs : List X) (k : ℕ) (x : X) → slice_get xs k ≡ Some x → Contains xs x
contains_at xs k x at = (k, slice_get_within xs k x at, get_or_from_slice_get xs k x x at)

abbrev AllForced : List Clause → List Literal → Type 0
AllForced clauses known = (m : Literal) → is_among known m ≡ true → Propagates clauses m

one_derived : (clauses : List Clause) (known : List Literal) (k i : ℕ) → AllForced clauses known → AllForced clauses (with_derived known (derived_in known i (slice_get clauses k)))
one_derived clauses known k i all = by_clause (slice_get clauses k) refl
  where
    with_one : (l : Literal) → Propagates clauses l → AllForced clauses (l ∷ known)
    with_one l is m has = elim (or_cases (same_literal m l) (is_among known m) has) as (λ _. Propagates clauses m) [
      | inl same ↦ subst (Propagates clauses) (sym (same_literal-true m l same)) is
      | inr before ↦ all m before
    ]

    by_test : (clause : Clause) → slice_get clauses k ≡ Some clause → (l : Literal) → slice_get clause i ≡ Some l → (b : Bool) → list_all (is_out known l) clause ≡ b → AllForced clauses (with_derived known (cond b (Some l) None))
    by_test clause at l here true out = with_one l (forced_step clauses known all clause (contains_at clauses k clause at) l (contains_at clause i l here) out)
    by_test clause at l here false out = all

    by_literal : (clause : Clause) → slice_get clauses k ≡ Some clause → (o : Option Literal) → slice_get clause i ≡ o → AllForced clauses (with_derived known (option_and_then (λ l. cond (list_all (is_out known l) clause) (Some l) None) o))
    by_literal clause at None here = all
    by_literal clause at (Some l) here = by_test clause at l here (list_all (is_out known l) clause) refl

    by_clause : (o : Option Clause) → slice_get clauses k ≡ o → AllForced clauses (with_derived known (derived_in known i o))
    by_clause None at = all
    by_clause (Some clause) at = by_literal clause at (slice_get clause i) refl

all_derived : (clauses : List Clause) (places : List (ℕ × ℕ)) (known : List Literal) → AllForced clauses known → AllForced clauses (derived clauses places known)
all_derived clauses [] known all = all
all_derived clauses (p ∷ places) known all = all_derived clauses places _ (one_derived clauses known p.0 p.1 all)

-- what is derived in turn from nothing is forced
pub derived_forced : (clauses : List Clause) (places : List (ℕ × ℕ)) (l : Literal) → is_among (derived clauses places []) l ≡ true → Propagates clauses l
derived_forced clauses places l has = all_derived clauses places [] (λ m none. absurd (false≢true none)) l has

-- such a set that has no literal with its negation refutes that some literal is forced with its negation
abbrev pub has_no_clash : List Literal → Bool
has_no_clash known = list_all (λ l. not (is_among known (negated l))) known

pub no_clash : (clauses : List Clause) (known : List Literal) (l : Literal) → is_closed known clauses ≡ true → has_no_clash known ≡ true → Propagates clauses l → Propagates clauses (negated l) → ⊥
no_clash clauses known l closed apart is against =
    let has = closed_has clauses known closed l is in
    let other = closed_has clauses known closed (negated l) against in
    false≢true (ap not (sym other) ∙ all_at (λ m. not (is_among known (negated m))) known l apart (Contains-from_among known l has))
