-- What is propagated is true where the clauses are.
use Rattle.std.proofs.Common.{inl, inr, ◌⊎◌, ◌≡◌, ◌≢◌, ℕ, Bool, true, false, not, ◌||◌, List, [], ◌∷◌, All, Contains, arith, refl, sym, ap, ◌∙◌, subst}
use Rattle.std.specs.List.{list_any}
use Rattle.std.proofs.lemmas.Bool.{false≢true, cases_Bool, and_from, eq-eqb}
use Rattle.std.proofs.lemmas.List.Elements.{All-contains, Contains-append_right}
use Rattle.ffc_clause.specs.Clauses.{Literal, Clause, negated, same_truth, same_literal, literal_holds, clause_holds}
use Rattle.ffc_clause.specs.Propagation.{Propagates, IsRefutedByPropagation}
use Rattle.ffc_clause.specs.Propagation.Propagates.{unit}
use Rattle.ffc_clause.proofs.HintLemmas.{negated_holds, same_literal-true}

contains_first : {X : Type 0} (x : X) (xs : List X) → Contains (x ∷ xs) x
contains_first x xs = (0, omega arith, refl)

contains_later : {X : Type 0} (y x : X) (xs : List X) → Contains xs x → Contains (y ∷ xs) x
contains_later y x xs has = Contains-append_right (y ∷ []) xs x has

-- some element passes
some_passes : {X : Type 0} (p : X → Bool) (xs : List X) → list_any p xs ≡ true → (x : X) × Contains xs x × (p x ≡ true)
some_passes p [] any = absurd (false≢true any)
some_passes p (x ∷ xs) any =
    elim (cases_Bool (p x)) as (λ _. (y : _) × Contains (x ∷ xs) y × (p y ≡ true)) [
      | inl on ↦ (x, contains_first x xs, on)
      | inr off ↦
          let later = some_passes p xs (sym (ap (λ b. b || list_any p xs) off) ∙ any) in
          (later.0, contains_later x later.0 xs later.1, later.2)
    ]

same_truth-self : (a : Bool) → same_truth a a ≡ true
same_truth-self true = refl
same_truth-self false = refl

same_literal-self : (l : Literal) → same_literal l l ≡ true
same_literal-self l = and_from (same_truth l.0 l.0) _ (same_truth-self l.0) (eq-eqb l.1 l.1 refl)

-- a literal is one or another
literal_cases : (m l : Literal) → (m ≡ l) ⊎ (m ≢ l)
literal_cases m l =
    elim (cases_Bool (same_literal m l)) as (λ _. (m ≡ l) ⊎ (m ≢ l)) [
      | inl same ↦ inl (same_literal-true m l same)
      | inr other ↦ inr (λ e. false≢true (sym other ∙ ap (λ k. same_literal k l) e ∙ same_literal-self l))
    ]

-- a literal and its negation are never both true
not_both : (t : ℕ → Bool) (l : Literal) → literal_holds t l ≡ true → literal_holds t (negated l) ≡ true → ⊥
not_both t l holds fails = false≢true (ap not (sym holds) ∙ sym (negated_holds t l) ∙ fails)

the_unit : (t : ℕ → Bool) (l : Literal) (clause : Clause) → clause_holds t clause ≡ true → ((m : Literal) → Contains clause m → m ≢ l → literal_holds t (negated m) ≡ true) → literal_holds t l ≡ true
the_unit t l clause any others =
    let found = some_passes (literal_holds t) clause any in
    elim (literal_cases found.0 l) as (λ _. literal_holds t l ≡ true) [
      | inl same ↦ ap (literal_holds t) (sym same) ∙ found.2
      | inr other ↦ absurd (not_both t found.0 found.2 (others found.0 found.1 other))
    ]

pub propagated_true : (t : ℕ → Bool) (clauses : List Clause) → All (λ c. clause_holds t c ≡ true) clauses → (l : Literal) → Propagates clauses l → literal_holds t l ≡ true
propagated_true t clauses all l (unit clause listed has others) =
    the_unit t l clause (All-contains (λ c. clause_holds t c ≡ true) clauses clause all listed) (λ m among other. propagated_true t clauses all (negated m) (others m among other))

pub refuted_never_true : (t : ℕ → Bool) (clauses : List Clause) → IsRefutedByPropagation clauses → All (λ c. clause_holds t c ≡ true) clauses → ⊥
refuted_never_true t clauses r all =
    let found = some_passes (literal_holds t) r.clause (All-contains (λ c. clause_holds t c ≡ true) clauses r.clause all r.listed) in
    not_both t found.0 found.2 (propagated_true t clauses all (negated found.0) (r.refuted found.0 found.1))

pub conflict_refutes : (clauses : List Clause) (l : Literal) → Propagates clauses l → Propagates clauses (negated l) → IsRefutedByPropagation clauses
conflict_refutes clauses l (unit clause listed has others) against = record {
  clause = clause;
  listed = listed;
  refuted = λ m among.
      elim (literal_cases m l) as (λ _. Propagates clauses (negated m)) [
        | inl same ↦ subst (λ k. Propagates clauses (negated k)) (sym same) against
        | inr other ↦ others m among other
      ];
}
