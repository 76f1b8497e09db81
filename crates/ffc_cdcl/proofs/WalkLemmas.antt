-- Walks along hints.
use Rattle.std.proofs.Common.{◌≡◌, ℕ, ◌+◌, Bool, true, false, cond, List, [], ◌∷◌, ◌++◌, length, Option, Some, None, slice_get, option_map, option_and_then, refl, sym, ap, ap₂, ◌∙◌, subst}
use Rattle.std.specs.List.{list_all, range_with_len}
use Rattle.std.proofs.lemmas.List.{append_assoc, length-append}
use Rattle.std.proofs.lemmas.Option.{none-some}
use Rattle.ffc_clause.specs.Clauses.{Literal, Clause, same_literal}
use Rattle.ffc_clause.specs.Hints.{open_literals, only_literal, is_closed, opened, is_contradiction}
use Rattle.ffc_cdcl.specs.declared.walk.Opening.{Opening}
use Rattle.ffc_cdcl.specs.declared.walk.Opening.TheVariants as is
use Rattle.ffc_cdcl.specs.declared.walk.Phase.{Phase}
use Rattle.ffc_cdcl.specs.declared.walk.Phase.TheVariants as phase
use Rattle.ffc_cdcl.specs.Opening.{opening_of}
use Rattle.ffc_cdcl.specs.Walking.{Progress, Leads, IsAt, HasTaken}

-- what an opening says of the open literals
abbrev Says : Opening → List Literal → Type 0
Says is.Closed ls = ls ≡ []
Says (is.One l) ls = only_literal ls ≡ Some l
Says is.Several ls = Unit {0}

says : (ls : List Literal) → Says (opening_of ls) ls
says [] = refl
says (l ∷ ls) = by_test (list_all (same_literal l) ls) refl
  where
    by_test : (b : Bool) → list_all (same_literal l) ls ≡ b → Says (cond (list_all (same_literal l) ls) (is.One l) is.Several) (l ∷ ls)
    by_test true e = subst (λ o. Says o (l ∷ ls)) (sym (ap (λ b. cond b (is.One l) is.Several) e)) (ap (λ b. cond b (Some l) None) e)
    by_test false e = subst (λ o. Says o (l ∷ ls)) (sym (ap (λ b. cond b (is.One l) is.Several) e)) tt

pub said : (ls : List Literal) (o : Opening) → o ≡ opening_of ls → Says o ls
said ls o e = subst (λ p. Says p ls) (sym e) (says ls)

-- a walk that is open
pub open_leads : (start : List Literal) (taken : List Clause) (p : Progress) (assumed : List Literal) (ph : Phase) → record { assumed = assumed; phase = ph } ≡ p → ph ≡ phase.Open → HasTaken start taken p → Leads start taken assumed
open_leads start taken p assumed ph view is_open has =
    subst (λ q. IsAt start taken assumed q) is_open (subst (λ q. HasTaken start taken q) (sym view) has)

-- one more clause with one open literal
pub leads_push : (start : List Literal) (taken : List Clause) (assumed : List Literal) (clause : Clause) (l : Literal) → Leads start taken assumed
    → only_literal (open_literals assumed clause) ≡ Some l → Leads start (taken ++ clause ∷ []) (l ∷ assumed)
leads_push start [] assumed clause l leads only =
    (l, subst (λ a. only_literal (open_literals a clause) ≡ Some l) leads only, ap (λ a. l ∷ a) leads)
leads_push start (t ∷ taken) assumed clause l leads only =
    (leads.0, leads.1, leads_push (leads.0 ∷ start) taken assumed clause l leads.2 only)

at_length : {X : Type 0} (before : List X) (x : X) (after : List X) → slice_get (before ++ x ∷ after) (length before) ≡ Some x
at_length [] x after = refl
at_length (b ∷ before) x after = at_length before x after

some_is_open : (ls : List Literal) (l : Literal) → only_literal ls ≡ Some l → is_closed (Some ls) ≡ false
some_is_open [] l e = absurd (none-some l e)
some_is_open (x ∷ xs) l e = refl

module _ (clauses : List Clause) (assumed : List Literal) (h : ℕ) (clause : Clause) (at : slice_get clauses h ≡ Some clause) where
  opened_is : opened clauses assumed h ≡ Some (open_literals assumed clause)
  opened_is = ap (option_map (open_literals assumed)) at

  -- the last hint
  closed_step : open_literals assumed clause ≡ [] → is_contradiction clauses assumed (h ∷ []) ≡ true
  unfolding is_contradiction
  closed_step e = ap is_closed (opened_is ∙ ap Some e)

  -- any other hint
  one_step : (hints : List ℕ) (l : Literal) → only_literal (open_literals assumed clause) ≡ Some l → is_contradiction clauses assumed (h ∷ hints) ≡ is_contradiction clauses (l ∷ assumed) hints
  unfolding is_contradiction
  one_step [] l e = ap is_closed opened_is ∙ some_is_open (open_literals assumed clause) l e
  one_step (g ∷ hints) l e =
      ap (λ (found : Option Literal). elim found [ None ↦ false | Some m ↦ is_contradiction clauses (m ∷ assumed) (g ∷ hints) ]) (ap (option_and_then only_literal) opened_is ∙ e)

contradiction_after : (before taken : List Clause) (start assumed : List Literal) (clause : Clause) → Leads start taken assumed → open_literals assumed clause ≡ []
    → is_contradiction (before ++ (taken ++ clause ∷ [])) start (range_with_len (length before) (length (taken ++ clause ∷ []))) ≡ true
contradiction_after before [] start assumed clause leads closed =
    closed_step (before ++ clause ∷ []) start (length before) clause (at_length before clause []) (subst (λ a. open_literals a clause ≡ []) leads closed)
contradiction_after before (t ∷ taken) start assumed clause leads closed =
    one_step (before ++ (t ∷ (taken ++ clause ∷ []))) start (length before) t (at_length before t (taken ++ clause ∷ [])) (range_with_len (length before + 1) (length (taken ++ clause ∷ []))) leads.0 leads.1
    ∙ ap₂ (λ clauses n. is_contradiction clauses (leads.0 ∷ start) (range_with_len n (length (taken ++ clause ∷ []))))
    (sym (append_assoc before (t ∷ []) (taken ++ clause ∷ []))) (sym (length-append before (t ∷ [])))
    ∙ contradiction_after (before ++ t ∷ []) taken (leads.0 ∷ start) assumed clause leads.2 closed

-- a last clause with no open literal
pub contradiction_by : (start : List Literal) (taken : List Clause) (assumed : List Literal) (clause : Clause) → Leads start taken assumed → open_literals assumed clause ≡ []
    → is_contradiction (taken ++ clause ∷ []) start (range_with_len 0 (length (taken ++ clause ∷ []))) ≡ true
contradiction_by start taken assumed clause leads closed = contradiction_after [] taken start assumed clause leads closed
