-- Hints one after another.
use Rattle.std.proofs.Common.{◌≡◌, ℕ, suc, ◌+◌, ◌-◌, ◌<◌, ◌==◌, Bool, true, false, cond, List, [], ◌∷◌, length, drop, Option, Some, None, slice_get, option_map, option_and_then, refl, sym, ap, ◌∙◌, subst, arith}
use Rattle.std.specs.List.{list_all}
use Rattle.std.proofs.lemmas.Bool.Decides.{nat_tests}
use Rattle.std.proofs.lemmas.List.{length-drop}
use Rattle.ffc_clause.specs.Clauses.{Literal, Clause, same_literal}
use Rattle.ffc_clause.specs.Hints.{open_literals, only_literal, is_closed, is_contradiction}
use Rattle.ffc_check.specs.declared.hints.Opening.{Opening}
use Rattle.ffc_check.specs.declared.hints.Opening.TheVariants as is
use Rattle.ffc_check.specs.Opening.{opening_of}

-- Hints

-- what an opening says of the open literals
abbrev Says : Opening → List Literal → Type 0
Says is.Closed ls = ls ≡ []
Says (is.One l) ls = (only_literal ls ≡ Some l) × (is_closed (Some ls) ≡ false)
Says is.Several ls = (only_literal ls ≡ None) × (is_closed (Some ls) ≡ false)

says : (ls : List Literal) → Says (opening_of ls) ls
says [] = refl
says (l ∷ ls) = by_test (list_all (same_literal l) ls) refl
  where
    by_test : (b : Bool) → list_all (same_literal l) ls ≡ b → Says (cond (list_all (same_literal l) ls) (is.One l) is.Several) (l ∷ ls)
    by_test true e = subst (λ o. Says o (l ∷ ls)) (sym (ap (λ b. cond b (is.One l) is.Several) e)) (ap (λ b. cond b (Some l) None) e, refl)
    by_test false e = subst (λ o. Says o (l ∷ ls)) (sym (ap (λ b. cond b (is.One l) is.Several) e)) (ap (λ b. cond b (Some l) None) e, refl)

module _ (clauses : List Clause) (assumed : List Literal) (h : ℕ) (clause : Clause) (at : slice_get clauses h ≡ Some clause) where
  said : (o : Opening) → o ≡ opening_of (open_literals assumed clause) → Says o (open_literals assumed clause)
  said o e = subst (λ p. Says p (open_literals assumed clause)) (sym e) (says (open_literals assumed clause))

  opened_is : option_map (open_literals assumed) (slice_get clauses h) ≡ Some (open_literals assumed clause)
  opened_is = ap (option_map (open_literals assumed)) at

  -- what follows by the one open literal, if there is one
  next : ℕ → List ℕ → Option Literal → Bool
  next g hints None = false
  next g hints (Some l) = is_contradiction clauses (l ∷ assumed) (g ∷ hints)

  two_hints : (g : ℕ) (hints : List ℕ) (o : Option Literal) → only_literal (open_literals assumed clause) ≡ o → is_contradiction clauses assumed (h ∷ g ∷ hints) ≡ next g hints o
  unfolding is_contradiction next
  two_hints g hints o e =
      ap (λ (found : Option Literal). elim found [ None ↦ false | Some l ↦ is_contradiction clauses (l ∷ assumed) (g ∷ hints) ]) (ap (option_and_then only_literal) opened_is ∙ e)
      ∙ by_cases o
    where
      by_cases : (found : Option Literal) → elim found [ None ↦ false | Some l ↦ is_contradiction clauses (l ∷ assumed) (g ∷ hints) ] ≡ next g hints found
      by_cases None = refl
      by_cases (Some l) = refl

  pub closed_step : (hints : List ℕ) → is.Closed ≡ opening_of (open_literals assumed clause) → is_contradiction clauses assumed (h ∷ hints) ≡ (length hints == 0)
  unfolding is_contradiction next
  closed_step [] e = ap is_closed (opened_is ∙ ap Some (said is.Closed e))
  closed_step (g ∷ hints) e =
      two_hints g hints None (ap only_literal (said is.Closed e)) ∙ no_length (length hints)
    where
      no_length : (n : ℕ) → false ≡ (suc n == 0)
      no_length n = grind (arith, nat_tests)

  pub several_step : (hints : List ℕ) → is.Several ≡ opening_of (open_literals assumed clause) → is_contradiction clauses assumed (h ∷ hints) ≡ false
  unfolding is_contradiction next
  several_step [] e = ap is_closed opened_is ∙ (said is.Several e).1
  several_step (g ∷ hints) e = two_hints g hints None (said is.Several e).0

  pub one_step : (hints : List ℕ) (l : Literal) → is.One l ≡ opening_of (open_literals assumed clause) → is_contradiction clauses assumed (h ∷ hints) ≡ is_contradiction clauses (l ∷ assumed) hints
  unfolding is_contradiction next
  one_step [] l e = ap is_closed opened_is ∙ (said (is.One l) e).1
  one_step (g ∷ hints) l e = two_hints g hints (Some l) (said (is.One l) e).0

pub last_hint : (hints : List ℕ) (i : ℕ) → i < length hints → (length (drop (i + 1) hints) == 0) ≡ (i + 1 == length hints)
last_hint hints i inside = ap (λ n. n == 0) (length-drop (i + 1) hints) ∙ same_end (length hints) i inside
  where
    same_end : (n j : ℕ) → j < n → (n - (j + 1) == 0) ≡ (j + 1 == n)
    same_end n j h = grind (arith, nat_tests)

pub no_hints : (clauses : List Clause) (assumed : List Literal) → is_contradiction clauses assumed [] ≡ false
unfolding is_contradiction
no_hints clauses assumed = refl
