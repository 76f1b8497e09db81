-- Clauses that force literals one after another, the lines that give them, and the empty clause that follows.
use Rattle.std.proofs.Common.{◌≡◌, ℕ, zero, suc, ◌+◌, ◌≤◌, nat_lt, Bool, true, false, not, cond, List, [], ◌∷◌, ◌++◌, length, map, Option, Some, None, option_map, option_and_then, Result, Ok, Err, refl, sym, ap, ◌∙◌, subst, arith, slice_get, append_assoc}
use Rattle.std.specs.List.{AllByRecursion, list_all, range_with_len}
use Rattle.std.proofs.lemmas.Bool.{and_from, lt-ltb, cond-true}
use Rattle.std.proofs.lemmas.List.{append-nil, length_push}
use Rattle.ffc_cert.specs.declared.entries.CertLine.{CertLine}
use Rattle.ffc_clause.specs.Clauses.{Literal, Clause, plus, negated, is_among}
use Rattle.ffc_clause.specs.Hints.{open_literals, only_literal, is_closed, is_contradiction}
use Rattle.ffc_rules.specs.Entries.{NodeCheck, Limits, Broken, breaks, Given, clause_given, ends_empty}
use Rattle.ffc_rules.specs.Schemes.{scheme_clause}
use Rattle.ffc_rules.specs.Refutations.{Gives}
use Rattle.ffc_rules.specs.Refutations.Gives.{nothing as gives_nothing, next as gives_next}
use Rattle.ffc_refutation.specs.declared.reason.Reason.{Reason}
use Rattle.ffc_refutation.specs.declared.reason.Reason.TheVariants as reason
use Rattle.ffc_refutation.specs.Forcing.{line_of, reason_clause, Forces}
use Rattle.ffc_refutation.specs.Forcing.Forces.{nothing, next}
use Rattle.ffc_refutation.specs.Written.{empty_by}

-- ---- lists of clauses

slice_get_at : {A : Type 0} (front : List A) (x : A) (rest : List A) → slice_get (front ++ x ∷ rest) (length front) ≡ Some x
slice_get_at [] x rest = refl
slice_get_at (y ∷ front) x rest = slice_get_at front x rest

pub ends_with_empty : (cs : List Clause) → ends_empty (cs ++ [] ∷ []) ≡ true
ends_with_empty [] = refl
ends_with_empty (c ∷ []) = refl
ends_with_empty (c ∷ d ∷ cs) = ends_with_empty (d ∷ cs)

pub range_below : (a n bound : ℕ) → a + n ≤ bound → list_all (λ h. nat_lt h bound) (range_with_len a n) ≡ true
range_below a zero bound h = refl
range_below a (suc n) bound h = and_from (nat_lt a bound) _ (lt-ltb a bound (omega arith)) (range_below (a + 1) n bound (omega arith))

-- ---- hints

one_more : (clauses : List Clause) (assumed : List Literal) (h g : ℕ) (hints : List ℕ) (clause : Clause) (l : Literal) → slice_get clauses h ≡ Some clause → only_literal (open_literals assumed clause) ≡ Some l
    → is_contradiction clauses assumed (h ∷ g ∷ hints) ≡ is_contradiction clauses (l ∷ assumed) (g ∷ hints)
unfolding is_contradiction
one_more clauses assumed h g hints clause l at only =
    ap (λ (o : Option Clause). elim (option_and_then only_literal (option_map (open_literals assumed) o)) as (λ _. Bool) [ None ↦ false | Some k ↦ is_contradiction clauses (k ∷ assumed) (g ∷ hints) ]) at
    ∙ ap (λ (o : Option Literal). elim o as (λ _. Bool) [ None ↦ false | Some k ↦ is_contradiction clauses (k ∷ assumed) (g ∷ hints) ]) only

last_one : (clauses : List Clause) (assumed : List Literal) (h : ℕ) (clause : Clause) → slice_get clauses h ≡ Some clause → open_literals assumed clause ≡ [] → is_contradiction clauses assumed (h ∷ []) ≡ true
unfolding is_contradiction
last_one clauses assumed h clause at none = ap (λ (o : Option Clause). is_closed (option_map (open_literals assumed) o)) at ∙ ap (λ ls. is_closed (Some ls)) none

-- literals whose negations are all assumed leave none open
pub none_open : (assumed lits : List Literal) → AllByRecursion (λ x. is_among assumed (negated x) ≡ true) lits → open_literals assumed lits ≡ []
none_open assumed [] all = refl
none_open assumed (x ∷ lits) all = ap (λ b. cond (not b) (x ∷ open_literals assumed lits) (open_literals assumed lits)) all.0 ∙ none_open assumed lits all.1

module _ (c : NodeCheck) where
  -- the clauses that force
  abbrev pub clauses_of : {forced all : List Literal} {rs : List Reason} → Forces c forced rs all → List Clause
  clauses_of nothing = []
  clauses_of (next x clause l given only later) = clause ∷ clauses_of later

  -- after other clauses, those that force and a last one that is false contradict each other, with all as hints in turn
  pub forced_contradict : {forced all : List Literal} {rs : List Reason} (f : Forces c forced rs all) (front : List Clause) (last : Clause) → open_literals all last ≡ []
      → is_contradiction (front ++ (clauses_of f ++ last ∷ [])) forced (range_with_len (length front) (suc (length rs))) ≡ true
  forced_contradict (nothing {forced = forced}) front last none = last_one (front ++ last ∷ []) forced (length front) last (slice_get_at front last []) none
  forced_contradict (next {forced = forced} {rest = rest} x clause l given only later) front last none =
      let cs : List Clause = front ++ (clause ∷ (clauses_of later ++ last ∷ [])) in
      one_more cs forced (length front) (length front + 1) (range_with_len (length front + 1 + 1) (length rest)) clause l (slice_get_at front clause (clauses_of later ++ last ∷ [])) only
      ∙ ap (λ n. is_contradiction cs (l ∷ forced) (range_with_len n (suc (length rest)))) (sym (length_push front clause))
      ∙ ap (λ ks. is_contradiction ks (l ∷ forced) (range_with_len (length (front ++ clause ∷ [])) (suc (length rest)))) (sym (append_assoc front (clause ∷ []) (clauses_of later ++ last ∷ [])))
      ∙ forced_contradict later (front ++ clause ∷ []) last none

  -- ---- lines

  -- each reason's clause
  abbrev pub AreGiven : List Reason → List Clause → Type 0
  AreGiven [] [] = Unit {0}
  AreGiven [] (k ∷ ks) = ⊥
  AreGiven (r ∷ rs) [] = ⊥
  AreGiven (r ∷ rs) (k ∷ ks) = (reason_clause c r ≡ Some k) × AreGiven rs ks

  pub forced_given : {forced all : List Literal} {rs : List Reason} (f : Forces c forced rs all) → AreGiven rs (clauses_of f)
  forced_given nothing = tt
  forced_given (next x clause l given only later) = (given, forced_given later)

  pub given_last : (rs : List Reason) (ks : List Clause) (r : Reason) (k : Clause) → AreGiven rs ks → reason_clause c r ≡ Some k → AreGiven (rs ++ r ∷ []) (ks ++ k ∷ [])
  given_last [] [] r k all last = (last, tt)
  given_last [] (j ∷ ks) r k all last = absurd all
  given_last (q ∷ rs) [] r k all last = absurd all
  given_last (q ∷ rs) (j ∷ ks) r k all last = (all.0, given_last rs ks r k all.1 last)

  pub length-given : (rs : List Reason) (ks : List Clause) → AreGiven rs ks → length ks ≡ length rs
  length-given [] [] all = refl
  length-given [] (k ∷ ks) all = absurd all
  length-given (r ∷ rs) [] all = absurd all
  length-given (r ∷ rs) (k ∷ ks) all = ap suc (length-given rs ks all.1)

  module _ (l : Limits) where
    line_given : (clauses : List Clause) (line : ℕ) (r : Reason) (k : Clause) (rest : List CertLine) → reason_clause c r ≡ Some k → clause_given l c clauses line (line_of r) rest ≡ Ok (record { clause = k; rest = rest })
    unfolding clause_given
    line_given clauses line (reason.Assertion n) k rest e = by_number (slice_get c.in_force n) e
      where
        by_number : (o : Option ℕ) → option_map (λ id. plus id ∷ []) o ≡ Some k
            → elim o as (λ _. Result Given Broken) [ None ↦ Err (breaks 2 line) | Some id ↦ Ok (record { clause = plus id ∷ []; rest = rest }) ] ≡ Ok (record { clause = k; rest = rest })
        by_number None is = absurd (cc)
        by_number (Some id) is = let same : plus id ∷ [] ≡ k = cc in ap (λ (ls : Clause). Ok (record { clause = ls; rest = rest })) same
    line_given clauses line (reason.Scheme node scheme index) k rest e = by_node (nat_lt node (length c.nodes)) e
      where
        by_clause : (o : Option Clause) → o ≡ Some k → elim o as (λ _. Result Given Broken) [ None ↦ Err (breaks 3 line) | Some clause ↦ Ok (record { clause = clause; rest = rest }) ] ≡ Ok (record { clause = k; rest = rest })
        by_clause None is = absurd (cc)
        by_clause (Some clause) is = let same : clause ≡ k = cc in ap (λ (ls : Clause). Ok (record { clause = ls; rest = rest })) same

        by_node : (b : Bool) → cond b (scheme_clause c.nodes node scheme index) None ≡ Some k
            → cond b (elim (scheme_clause c.nodes node scheme index) as (λ _. Result Given Broken) [ None ↦ Err (breaks 3 line) | Some clause ↦ Ok (record { clause = clause; rest = rest }) ]) (Err (breaks 12 line)) ≡ Ok (record { clause = k; rest = rest })
        by_node true is = by_clause (scheme_clause c.nodes node scheme index) is
        by_node false is = absurd (cc)

    -- the lines of reasons give their clauses, after others
    pub reasons_give : (rs : List Reason) (ks clauses all : List Clause) (rest : List CertLine) → AreGiven rs ks → Gives l c (clauses ++ ks) rest all → Gives l c clauses (map line_of rs ++ rest) all
    reasons_give [] [] clauses all rest given g = subst (λ cs. Gives l c cs rest all) (append-nil clauses) g
    reasons_give [] (k ∷ ks) clauses all rest given g = absurd given
    reasons_give (r ∷ rs) [] clauses all rest given g = absurd given
    reasons_give (r ∷ rs) (k ∷ ks) clauses all rest given g =
        gives_next (line_of r) (record { clause = k; rest = map line_of rs ++ rest }) (λ line. line_given clauses line r k (map line_of rs ++ rest) given.0)
        (reasons_give rs ks (clauses ++ k ∷ []) all rest given.1 (subst (λ cs. Gives l c cs rest all) (sym (append_assoc clauses (k ∷ []) ks)) g))

    -- the empty clause follows from all
    pub empty_given : (clauses : List Clause) (line n : ℕ) → n ≤ length clauses → is_contradiction clauses [] (range_with_len 0 n) ≡ true → clause_given l c clauses line (empty_by n) [] ≡ Ok (record { clause = []; rest = [] })
    unfolding clause_given
    empty_given clauses line n few e =
        cond-true _ _ _ (range_below 0 n (length clauses) (omega arith)) ∙ cond-true _ _ _ e

    pub ends_gives : (clauses : List Clause) (n : ℕ) → n ≤ length clauses → is_contradiction clauses [] (range_with_len 0 n) ≡ true → Gives l c clauses (empty_by n ∷ []) (clauses ++ [] ∷ [])
    ends_gives clauses n few e = gives_next (empty_by n) (record { clause = []; rest = [] }) (λ line. empty_given clauses line n few e) gives_nothing
