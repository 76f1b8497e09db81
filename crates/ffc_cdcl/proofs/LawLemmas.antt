-- Refuted clauses are never all true, and a model makes them true.
use Rattle.std.proofs.Common.{inl, inr, ◌≡◌, ℕ, zero, suc, ◌+◌, ◌-◌, ◌<◌, ◌≤◌, Bool, true, false, not, ◌||◌, List, [], ◌∷◌, ◌++◌, length, take, Some, slice_get, Contains, refl, sym, ap, ◌∙◌, subst, arith}
use Rattle.std.specs.List.{list_any, range_with_len}
use Rattle.std.proofs.lemmas.Bool.{false≢true, cases_Bool, and_from, eq-eqb}
use Rattle.std.proofs.lemmas.List.{take_all, take_more, map-append}
use Rattle.std.proofs.lemmas.List.Elements.{All-cons, All-nil, All-push, All-weaker, Contains-append_right}
use Rattle.std.proofs.lemmas.Option.{get_or_from_slice_get}
use Rattle.ffc_clause.specs.Clauses.{Literal, Clause, same_truth, same_literal, is_among, literal_holds, clause_holds}
use Rattle.ffc_clause.proofs.HintLemmas.{follows_true, same_literal-true}
use Rattle.ffc_cdcl.specs.declared.answer.Hint.{Hint}
use Rattle.ffc_cdcl.specs.declared.answer.Hint.TheVariants.{Added, Lemma, Step}
use Rattle.ffc_cdcl.specs.declared.answer.HintedClause.{HintedClause}
use Rattle.ffc_cdcl.specs.Literals.{NamesNoNodeTwice, HasTrue}
use Rattle.ffc_cdcl.specs.Laws.{RefutationsAreSound, ModelsAreSound}
use Rattle.ffc_cdcl.specs.State.{AllHold}
use Rattle.ffc_cdcl.specs.Steps.{Names, AreNamed, clauses_of, IsRefutation}
use Rattle.ffc_cdcl.proofs.SettledLemmas.{exclusive}
use Rattle.ffc_cdcl.proofs.StateLemmas.{all_at, hints_true}

element : {X : Type 0} (xs : List X) (k : ℕ) → k < length xs → (x : X) × (slice_get xs k ≡ Some x)
element [] k inside = absurd (omega (arith, inside))
element (x ∷ xs) zero inside = (x, refl)
element (x ∷ xs) (suc k) inside = element xs k (omega (arith, inside))

module _ (truth : ℕ → Bool) (added lemmas : List Clause) (added_hold : AllHold truth added) (lemmas_hold : AllHold truth lemmas) where
  name_true : (earlier : List Clause) → AllHold truth earlier → (hint : Hint) (clause : Clause) → Names (λ k c. slice_get lemmas k ≡ Some c) added earlier hint clause → clause_holds truth clause ≡ true
  name_true earlier earlier_hold (Added k) clause at = all_at (λ c. clause_holds truth c ≡ true) added k clause added_hold at
  name_true earlier earlier_hold (Lemma k) clause at = all_at (λ c. clause_holds truth c ≡ true) lemmas k clause lemmas_hold at
  name_true earlier earlier_hold (Step k) clause at = all_at (λ c. clause_holds truth c ≡ true) earlier k clause earlier_hold at

  names_true : (earlier : List Clause) → AllHold truth earlier → (hints : List Hint) (clauses : List Clause) → AreNamed (Names (λ k c. slice_get lemmas k ≡ Some c) added earlier) hints clauses → AllHold truth clauses
  names_true earlier earlier_hold [] [] named = All-nil (λ c. clause_holds truth c ≡ true)
  names_true earlier earlier_hold [] (c ∷ clauses) named = absurd named
  names_true earlier earlier_hold (h ∷ hints) [] named = absurd named
  names_true earlier earlier_hold (h ∷ hints) (c ∷ clauses) named =
      All-cons (λ d. clause_holds truth d ≡ true) c clauses (name_true earlier earlier_hold h c named.0) (names_true earlier earlier_hold hints clauses named.1)

  module _ (steps : List HintedClause) (refutes : IsRefutation added lemmas steps) where
    step_true : (k : ℕ) (step : HintedClause) → slice_get steps k ≡ Some step → AllHold truth (clauses_of (take k steps)) → clause_holds truth step.lits ≡ true
    step_true k step at earlier_hold =
        let follows = refutes.derived k step at in
        follows_true truth follows.named step.lits (range_with_len 0 (length follows.named))
        (hints_true truth follows.named (names_true (clauses_of (take k steps)) earlier_hold step.hints.items follows.named follows.are_named) (range_with_len 0 (length follows.named)))
        follows.follows

    front_true : (k : ℕ) → k ≤ length steps → AllHold truth (clauses_of (take k steps))
    front_true zero inside = All-nil (λ c. clause_holds truth c ≡ true)
    front_true (suc k) inside =
        let below : k < length steps = omega (arith, inside) in
        let e = element steps k below in
        let before = front_true k (omega (arith, inside)) in
        let one_more : suc k ≡ k + 1 = omega arith in
        let taken : take (suc k) steps ≡ take k steps ++ e.0 ∷ [] =
        ap (λ n. take n steps) one_more ∙ take_more steps k e.0 below ∙ ap (λ x. take k steps ++ x ∷ []) (get_or_from_slice_get steps k e.0 e.0 e.1) in
        subst (AllHold truth) (sym (ap clauses_of taken ∙ map-append (λ (s : HintedClause). s.lits) (take k steps) (e.0 ∷ [])))
        (All-push (λ c. clause_holds truth c ≡ true) (clauses_of (take k steps)) e.0.lits before (step_true k e.0 e.1 before))

    pub never_refuted : ⊥
    never_refuted =
        let n = length steps in
        let all = subst (λ xs. AllHold truth (clauses_of xs)) (take_all n steps (omega arith)) (front_true n (omega arith)) in
        false≢true (all_at (λ c. clause_holds truth c ≡ true) (clauses_of steps) (n - 1) [] all refutes.ends_empty)

-- Models

any_from_contains : {X : Type 0} (p : X → Bool) (xs : List X) (x : X) → Contains xs x → p x ≡ true → list_any p xs ≡ true
any_from_contains p [] x has on = absurd (omega (arith, has.1))
any_from_contains p (y ∷ xs) x (zero, inside, at) on = ap (λ b. b || list_any p xs) (ap p at ∙ on)
any_from_contains p (y ∷ xs) x (suc k, inside, at) on =
    let later : list_any p xs ≡ true = any_from_contains p xs x (k, omega (arith, inside), at) on in
    or_right (p y) (list_any p xs) later
  where
    or_right : (a b : Bool) → b ≡ true → (a || b) ≡ true
    or_right true b e = refl
    or_right false b e = e

among_contains : (trail : List Literal) (l : Literal) → is_among trail l ≡ true → Contains trail l
among_contains [] l e = absurd (false≢true e)
among_contains (x ∷ xs) l e =
    elim (cases_Bool (same_literal l x)) as (λ _. Contains (x ∷ xs) l) [
      | inl same ↦ (0, omega arith, sym (same_literal-true l x same))
      | inr other ↦ Contains-append_right (x ∷ []) xs l (among_contains xs l (sym (ap (λ b. b || is_among xs l) other) ∙ e))
    ]

same_truth-self : (a : Bool) → same_truth a a ≡ true
same_truth-self true = refl
same_truth-self false = refl

contains_among : (trail : List Literal) (l : Literal) → Contains trail l → is_among trail l ≡ true
contains_among trail l has = any_from_contains (same_literal l) trail l has (and_from (same_truth l.0 l.0) _ (same_truth-self l.0) (eq-eqb l.1 l.1 refl))

module _ (trail : List Literal) (distinct : NamesNoNodeTwice trail) where
  abbrev truth_of : ℕ → Bool
  truth_of node = is_among trail (true, node)

  literal_true : (l : Literal) → Contains trail l → literal_holds truth_of l ≡ true
  literal_true (true, node) has = contains_among trail (true, node) has
  literal_true (false, node) has =
      elim (cases_Bool (is_among trail (true, node))) as (λ _. not (is_among trail (true, node)) ≡ true) [
        | inl on ↦ absurd (exclusive trail (false, node) distinct has (among_contains trail (true, node) on))
        | inr off ↦ ap not off
      ]

  clause_true : (clause : Clause) → HasTrue trail clause → clause_holds truth_of clause ≡ true
  clause_true clause holds = any_from_contains (literal_holds truth_of) clause holds.literal holds.listed (literal_true holds.literal holds.on_trail)

pub models_true : ModelsAreSound
models_true added trail model =
    (truth_of trail model.distinct, All-weaker (HasTrue trail) (λ c. clause_holds (truth_of trail model.distinct) c ≡ true) (clause_true trail model.distinct) added model.makes_true)

pub refutations_sound : RefutationsAreSound
refutations_sound truth added lemmas steps refutes added_hold lemmas_hold = never_refuted truth added lemmas added_hold lemmas_hold steps refutes
