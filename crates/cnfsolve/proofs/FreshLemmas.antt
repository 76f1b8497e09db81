-- Formulas that no theory has given a lemma, clauses in range, and answers in order.
use Rattle.std.proofs.Common.{◌≡◌, ℕ, ◌<◌, true, List, [], ◌∷◌, ◌++◌, All, refl, subst, sym, ap, ◌∙◌}
use Rattle.std.specs.Prelude.{map, nat_lt, ◌&&◌}
use Rattle.std.specs.List.{list_all}
use Rattle.std.proofs.lemmas.Bool.{lt-ltb}
use Rattle.std.proofs.lemmas.List.Elements.{All-append, All-cons, All-nil, All-head, All-tail}
use Rattle.ffc_clause.specs.Clauses.{Literal, Clause}
use Rattle.ffc_cdcl.specs.State.{State, AllBelow}
use Rattle.cnfsolve.specs.declared.deciding.Answer.{Answer}
use Rattle.cnfsolve.specs.Answers.{IsRight, AreRight}

pub fresh_after : (formulas : List State) (formula : State) (all : List State) → all ≡ formulas ++ formula ∷ [] → All (λ f. f.lemmas ≡ []) formulas → formula.lemmas ≡ [] → All (λ f. f.lemmas ≡ []) all
fresh_after formulas formula all e are is =
    let P : State → Type 0 = λ f. f.lemmas ≡ [] in
    subst (All P) (sym e) (All-append P formulas (formula ∷ []) are (All-cons P formula [] is (All-nil P)))

pub all_below : (n : ℕ) (clause : Clause) → AllBelow n clause → list_all (λ (l : Literal). nat_lt l.1 n) clause ≡ true
all_below n [] below = refl
all_below n (l ∷ ls) below =
    let P : Literal → Type 0 = λ k. k.1 < n in
    rw (lt-ltb l.1 n (All-head P l ls below)) (all_below n ls (All-tail P l ls below))

pub right_with_last : (budget : ℕ) (formulas : List State) (answers : List Answer) (formula : State) (answer : Answer) → AreRight budget formulas answers → IsRight budget formula answer → AreRight budget (formulas ++ formula ∷ []) (answers ++ answer ∷ [])
right_with_last budget [] [] formula answer are is = (is, tt)
right_with_last budget [] (a ∷ answers) formula answer are is = absurd are
right_with_last budget (f ∷ formulas) [] formula answer are is = absurd are
right_with_last budget (f ∷ formulas) (a ∷ answers) formula answer are is = (are.0, right_with_last budget formulas answers formula answer are.1 is)

same_list : (formulas : List State) → formulas ≡ map (λ f. f) formulas
same_list [] = refl
same_list (f ∷ formulas) = ap (λ fs. f ∷ fs) (same_list formulas)

pub right_of_all : (budget : ℕ) (taken all : List State) (answers : List Answer) → map (λ f. f) taken ≡ all → AreRight budget taken answers → AreRight budget all answers
right_of_all budget taken all answers e are = subst (λ fs. AreRight budget fs answers) (same_list taken ∙ e) are
