-- What propagation derives is on a trail under which it has nothing left to do.
use Rattle.std.proofs.Common.{inl, inr, ◌⊎◌, ◌≡◌, ◌≢◌, Bool, true, false, not, List, get_or, All, Contains, refl, sym, ap, ◌∙◌, subst, arith}
use Rattle.std.proofs.lemmas.Bool.{cases_eq, cases_lt, false≢true}
use Rattle.std.proofs.lemmas.List.{get_or_default}
use Rattle.std.proofs.lemmas.List.Elements.{All-contains}
use Rattle.ffc_clause.specs.Clauses.{Literal, Clause, negated}
use Rattle.ffc_clause.specs.Propagation.{Propagates, IsRefutedByPropagation}
use Rattle.ffc_clause.specs.Propagation.Propagates.{unit}
use Rattle.ffc_cdcl.specs.Literals.{NamesNoNodeTwice}
use Rattle.ffc_cdcl.specs.Settled.{IsSettled}
use Rattle.ffc_cdcl.specs.Trails.{Assigned, IsOpen}

never_not : (b : Bool) → b ≡ not b → ⊥
never_not true e = false≢true (sym e)
never_not false e = false≢true e

bool_cases : (a b : Bool) → (a ≡ b) ⊎ (a ≢ b)
bool_cases true true = inl refl
bool_cases true false = inr (λ e. false≢true (sym e))
bool_cases false true = inr false≢true
bool_cases false false = inl refl

-- a literal is one or another
literal_cases : (m l : Literal) → (m ≡ l) ⊎ (m ≢ l)
literal_cases m l =
    elim (bool_cases m.0 l.0) as (λ _. (m ≡ l) ⊎ (m ≢ l)) [
      | inr other ↦ inr (λ e. other (ap (λ (k : Literal). k.0) e))
      | inl same ↦
          elim (cases_eq m.1 l.1) as (λ _. (m ≡ l) ⊎ (m ≢ l)) [
            | inr other ↦ inr (λ e. other (ap (λ (k : Literal). k.1) e))
            | inl node ↦ inl (λ i. (same i, node i))
          ]
    ]

-- a trail does not have a literal and its negation
pub exclusive : (trail : List Literal) (l : Literal) → NamesNoNodeTwice trail → Contains trail l → Contains trail (negated l) → ⊥
exclusive trail l distinct has has_not =
    let one = has.0 in
    let two = has_not.0 in
    let here : get_or trail one l ≡ l = has.2 in
    let there : get_or trail two l ≡ negated l = get_or_default trail two l (negated l) has_not.1 ∙ has_not.2 in
    elim (cases_eq one two) as (λ _. ⊥) [
      | inl same ↦ never_not l.0 (ap (λ (k : Literal). k.0) (sym here ∙ ap (λ n. get_or trail n l) same ∙ there))
      | inr other ↦
          elim (cases_lt one two) as (λ _. ⊥) [
            | inl before ↦ distinct one two l before has_not.1 (ap (λ (k : Literal). k.1) here ∙ sym (ap (λ (k : Literal). k.1) there))
            | inr after ↦ distinct two one l (omega (arith, after, other)) has.1 (ap (λ (k : Literal). k.1) there ∙ sym (ap (λ (k : Literal). k.1) here))
          ]
    ]

module _ (t : Assigned) (distinct : NamesNoNodeTwice t.literals) where
  open_literal : (m : Literal) → IsOpen t m.1 → Contains t.literals (negated m) → ⊥
  open_literal m o has = o.absent (not m.0) has

  unit_on_trail : (clause : Clause) (l : Literal) → IsSettled t clause → ((m : Literal) → Contains clause m → m ≢ l → Contains t.literals (negated m)) → Contains t.literals l
  unit_on_trail clause l settled others =
      elim settled as (λ _. Contains t.literals l) [
        | inl holds ↦
            elim (literal_cases holds.literal l) as (λ _. Contains t.literals l) [
              | inl same ↦ subst (Contains t.literals) same holds.on_trail
              | inr other ↦ absurd (exclusive t.literals holds.literal distinct holds.on_trail (others holds.literal holds.listed other))
            ]
        | inr two ↦
            elim (literal_cases two.first l) as (λ _. Contains t.literals l) [
              | inl same ↦ absurd (open_literal two.second two.second_open (others two.second two.second_listed (λ e. two.different (same ∙ sym e))))
              | inr other ↦ absurd (open_literal two.first two.first_open (others two.first two.first_listed other))
            ]
      ]

  never_false : (clause : Clause) → IsSettled t clause → ((m : Literal) → Contains clause m → Contains t.literals (negated m)) → ⊥
  never_false clause settled all =
      elim settled as (λ _. ⊥) [
        | inl holds ↦ exclusive t.literals holds.literal distinct holds.on_trail (all holds.literal holds.listed)
        | inr two ↦ open_literal two.first two.first_open (all two.first two.first_listed)
      ]

  module _ (clauses : List Clause) (settled : All (IsSettled t) clauses) where
    on_trail : {l : Literal} → Propagates clauses l → Contains t.literals l
    on_trail {l} (unit clause listed has others) =
        unit_on_trail clause l (All-contains (IsSettled t) clauses clause settled listed) (λ m has_m other. on_trail (others m has_m other))

    pub not_refuted : IsRefutedByPropagation clauses → ⊥
    not_refuted refuted =
        never_false refuted.clause (All-contains (IsSettled t) clauses refuted.clause settled refuted.listed) (λ m has. on_trail (refuted.refuted m has))
