-- No assignment makes those assertions true that a refutation by clauses uses: each clause that is reached from the last one is
-- true where they are, and the last one is empty.
use Rattle.std.proofs.Common.{inl, inr, ◌⊎◌, ◌≡◌, ℕ, zero, suc, ◌+◌, ◌-◌, ◌==◌, nat_lt, Bool, true, false, cond, ◌&&◌, List, [], ◌∷◌, ◌++◌, length, take, arith, Option, Some, None, Result, Ok, Err, refl, sym, ap, ◌∙◌, subst, slice_get, length-append}
use Rattle.std.specs.List.{AllByRecursion, list_all}
use Rattle.std.proofs.lemmas.Bool.{false≢true, or_left, or_right, or_cases, eq-eqb}
use Rattle.std.proofs.lemmas.Option.{none-some, same_Some}
use Rattle.std.proofs.lemmas.List.{take_at}
use Rattle.std.proofs.lemmas.List.Folds.{list_any-append}
use Rattle.ffc_cert.specs.declared.entries.CertLine.{CertLine}
use Rattle.ffc_cert.specs.declared.entries.CertLine.TheVariants.{Assume, Scheme, Hinted, Lemma, Combine, Bits, Chain, Step, Split, Values, Close}
use Rattle.ffc_cert.specs.Spelling.{is_clause}
use Rattle.ffc_term.specs.declared.value.Value.{Value}
use Rattle.ffc_term.specs.Tables.{IsTable}
use Rattle.ffc_ring.specs.Polynomial.{Terms}
use Rattle.ffc_trees.specs.TreeLines.{Limits as TreeLimits}
use Rattle.ffc_trees.specs.FirstLines.{first_lines}
use Rattle.ffc_trees.specs.Trees.{Broken as BrokenInTree, tree_read}
use Rattle.ffc_trees.specs.Laws.{LemmasAreSound}
use Rattle.ffc_clause.specs.Clauses.{Clause, plus, clause_holds}
use Rattle.ffc_clause.specs.Hints.{follows}
use Rattle.ffc_clause.proofs.HintLemmas.{IsHintTrue}
use Rattle.ffc_rules.specs.Clauses.{truth_at}
use Rattle.ffc_rules.specs.Schemes.{scheme_clause}
use Rattle.ffc_rules.specs.Cones.{is_listed}
use Rattle.ffc_rules.specs.Entries.{NodeCheck, Limits, Broken, breaks, Given, is_boolean, is_equality_at, is_within, order_or, tree_given, lemma_given, clause_given, ends_empty, lines_fault}
use Rattle.ffc_rules.specs.Cores.{clause_lines, hints_of, taken_by, reached_clauses, numbers_taken}
use Rattle.ffc_smt.specs.Numbers.{is_order}
use Rattle.ffc_rules.proofs.GivenLemmas.{same_Ok, err≢ok, chosen_ok, IsNumberTrue, given_true}

-- a number that is among some is among more
pub listed_right : (xs ys : List ℕ) (j : ℕ) → is_listed ys j ≡ true → is_listed (xs ++ ys) j ≡ true
listed_right xs ys j is = list_any-append (λ k. j == k) xs ys ∙ or_right (is_listed xs j) _ is

pub listed_left : (xs ys : List ℕ) (j : ℕ) → is_listed xs j ≡ true → is_listed (xs ++ ys) j ≡ true
listed_left xs ys j is = list_any-append (λ k. j == k) xs ys ∙ or_left _ (is_listed ys j) is

pub listed_cases : (xs ys : List ℕ) (j : ℕ) → is_listed (xs ++ ys) j ≡ true → (is_listed xs j ≡ true) ⊎ (is_listed ys j ≡ true)
listed_cases xs ys j is = or_cases (is_listed xs j) (is_listed ys j) (sym (list_any-append (λ k. j == k) xs ys) ∙ is)

-- what holds of each number that is listed holds of the list
each_listed : (P : ℕ → Type 0) (xs : List ℕ) → ((j : ℕ) → is_listed xs j ≡ true → P j) → AllByRecursion P xs
each_listed P [] all = tt
each_listed P (x ∷ xs) all = (all x (or_left _ (is_listed xs x) (eq-eqb x x refl)), each_listed P xs (λ j is. all j (or_right (j == x) _ is)))

-- more clauses take more numbers
taken_more : (a b : List ℕ) → ((j : ℕ) → is_listed a j ≡ true → is_listed b j ≡ true) → (k : ℕ) (xs : List CertLine) (n : ℕ) → is_listed (numbers_taken a k xs) n ≡ true → is_listed (numbers_taken b k xs) n ≡ true
taken_more a b more k [] n is = is
taken_more a b more k (x ∷ xs) n is =
    elim (listed_cases (cond (is_listed a k) (taken_by x) []) (numbers_taken a (k + 1) xs) n is) as (λ _. is_listed (numbers_taken b k (x ∷ xs)) n ≡ true) [
      | inl here ↦ listed_left _ (numbers_taken b (k + 1) xs) n (by_case (is_listed a k) refl here)
      | inr later ↦ listed_right (cond (is_listed b k) (taken_by x) []) _ n (taken_more a b more (k + 1) xs n later)
    ]
  where
    by_case : (w : Bool) → is_listed a k ≡ w → is_listed (cond w (taken_by x) []) n ≡ true → is_listed (cond (is_listed b k) (taken_by x) []) n ≡ true
    by_case true e here = ap (λ w. is_listed (cond w (taken_by x) []) n) (more k e) ∙ here
    by_case false e here = absurd (false≢true here)

-- an element of a list with one more
pushed : {X : Type 0} (xs : List X) (y : X) (j : ℕ) (x : X) → slice_get (xs ++ y ∷ []) j ≡ Some x → (slice_get xs j ≡ Some x) ⊎ ((j ≡ length xs) × (y ≡ x))
pushed [] y zero x at = inr (refl, same_Some y x at)
pushed [] y (suc j) x at = absurd (none-some x at)
pushed (z ∷ xs) y zero x at = inl at
pushed (z ∷ xs) y (suc j) x at =
    elim (pushed xs y j x at) as (λ _. (slice_get (z ∷ xs) (suc j) ≡ Some x) ⊎ ((suc j ≡ length (z ∷ xs)) × (y ≡ x))) [
      | inl there ↦ inl there
      | inr last ↦ inr (ap suc last.0, last.1)
    ]

-- the last of clauses that end with the empty one
last_empty : (clauses : List Clause) → ends_empty clauses ≡ true → slice_get clauses (length clauses - 1) ≡ Some []
last_empty [] e = absurd (false≢true e)
last_empty ([] ∷ []) e = refl
last_empty ((x ∷ xs) ∷ []) e = absurd (false≢true e)
last_empty (clause ∷ d ∷ clauses) e =
    let one : length (clause ∷ d ∷ clauses) - 1 ≡ suc (length (d ∷ clauses) - 1) = omega arith in
    ap (slice_get (clause ∷ d ∷ clauses)) one ∙ last_empty (d ∷ clauses) e

-- after all clauses the last one is found
last_found : (k : ℕ) → is_listed (reached_clauses k []) (k - 1) ≡ true
unfolding reached_clauses
last_found k = or_left _ _ (eq-eqb (k - 1) (k - 1) refl)

-- no line is a clause
abbrev pub NoClauses : List CertLine → Type 0
NoClauses lines = AllByRecursion (λ x. is_clause x ≡ false) lines

-- what a tree takes from the front of the lines holds no clause
abbrev pub TreesHoldNoClauses : Type 0
TreesHoldNoClauses = (l : TreeLimits) (p : ℕ) (known : List Terms) (lines rest : List CertLine) → tree_read l p known lines ≡ Ok rest
    → (front : List CertLine) × (lines ≡ front ++ rest) × NoClauses front

-- the lines after a clause's own are those of its tree and the rest
abbrev IsTaken : List CertLine → List CertLine → Type 0
IsTaken lines rest = (front : List CertLine) × (lines ≡ front ++ rest) × NoClauses front

nothing_taken : (lines rest : List CertLine) → rest ≡ lines → IsTaken lines rest
nothing_taken lines rest e = ([], sym e, tt)

given_rest : (given : Given) (clause : Clause) (rest : List CertLine) → ◌≡◌ {A = Result Given Broken} (Ok (record { clause = clause; rest = rest })) (Ok given) → IsTaken rest given.rest
given_rest given clause rest e = nothing_taken rest given.rest (ap (λ g. g.rest) (sym (same_Ok _ _ e)))

-- a line that gives a clause is one, and is followed by its tree
pub taken_by_clause : TreesHoldNoClauses → (l : Limits) (c : NodeCheck) (clauses : List Clause) (line : ℕ) (x : CertLine) (rest : List CertLine) (given : Given) → clause_given l c clauses line x rest ≡ Ok given → (is_clause x ≡ true) × IsTaken rest given.rest
unfolding clause_given is_clause lemma_given
taken_by_clause trees l c clauses line (Assume k) rest given e = (refl, by_number (slice_get c.in_force k) e)
  where
    by_number : (o : Option ℕ) → elim o as (λ _. Result Given Broken) [ None ↦ Err (breaks 2 line) | Some id ↦ Ok (record { clause = plus id ∷ []; rest = rest }) ] ≡ Ok given → IsTaken rest given.rest
    by_number None is = absurd (err≢ok _ _ is)
    by_number (Some id) is = given_rest given _ rest is
taken_by_clause trees l c clauses line (Scheme n s i) rest given e = (refl, by_clause (scheme_clause c.nodes n s i) (chosen_ok (nat_lt n (length c.nodes)) _ _ given e).1)
  where
    by_clause : (o : Option Clause) → elim o as (λ _. Result Given Broken) [ None ↦ Err (breaks 3 line) | Some clause ↦ Ok (record { clause = clause; rest = rest }) ] ≡ Ok given → IsTaken rest given.rest
    by_clause None is = absurd (err≢ok _ _ is)
    by_clause (Some clause) is = given_rest given _ rest is
taken_by_clause trees l c clauses line (Hinted lits hints) rest given e =
    let first = chosen_ok (list_all (λ x. is_boolean c.nodes x.1) lits && list_all (λ h. nat_lt h (length clauses)) hints) _ _ given e in
    (refl, given_rest given _ rest (chosen_ok (follows clauses lits hints) _ _ given first.1).1)
taken_by_clause trees l c clauses line (Lemma order lits) rest given e =
    let p = order_or c.first_order order in
    let first = chosen_ok (is_order p && list_all (λ x. is_equality_at c.nodes p x.1) lits) _ _ given e in
    let second = chosen_ok (list_all (λ x. is_within l c.nodes x.1) lits) _ _ given first.1 in
    (refl, by_tree (tree_read l.trees p (first_lines c.nodes p lits) rest) (trees l.trees p (first_lines c.nodes p lits) rest) second.1)
  where
    by_tree : (r : Result (List CertLine) BrokenInTree) → ((after : List CertLine) → r ≡ Ok after → IsTaken rest after) → tree_given lits line r ≡ Ok given → IsTaken rest given.rest
    by_tree (Ok after) taken is = subst (IsTaken rest) (ap (λ g. g.rest) (same_Ok _ _ is)) (taken after refl)
    by_tree (Err broken) taken is = absurd (err≢ok _ _ is)
taken_by_clause trees l c clauses line (Combine multiples) rest given e = absurd (err≢ok _ _ e)
taken_by_clause trees l c clauses line (Bits known chosen polynomial bits) rest given e = absurd (err≢ok _ _ e)
taken_by_clause trees l c clauses line (Chain known variable steps) rest given e = absurd (err≢ok _ _ e)
taken_by_clause trees l c clauses line (Step quotient remainder) rest given e = absurd (err≢ok _ _ e)
taken_by_clause trees l c clauses line (Split known variable zeros) rest given e = absurd (err≢ok _ _ e)
taken_by_clause trees l c clauses line (Values variable count) rest given e = absurd (err≢ok _ _ e)
taken_by_clause trees l c clauses line Close rest given e = absurd (err≢ok _ _ e)

-- so many of the next lines are no clauses
abbrev NoClausesIn : ℕ → List CertLine → Type 0
NoClausesIn tree lines = NoClauses (take tree lines)

length_taken : (front rest : List CertLine) → length (front ++ rest) - length rest ≡ length front
length_taken front rest = let e = length-append front rest in omega arith

none_in_taken : (lines rest : List CertLine) → IsTaken lines rest → NoClausesIn (length lines - length rest) lines
none_in_taken lines rest taken =
    let front = subst NoClauses (sym (take_at taken.0 rest (length taken.0) refl)) taken.2 in
    let counted = subst (λ n. NoClauses (take n (taken.0 ++ rest))) (sym (length_taken taken.0 rest)) front in
    subst (λ xs. NoClauses (take (length xs - length rest) xs)) (sym taken.1) counted

module _ (lemmas : LemmasAreSound) (trees : TreesHoldNoClauses) (l : Limits) (c : NodeCheck) (assignment : List Value) (table : IsTable c.nodes) where
  -- the clause of each found number is true, as far as they go
  abbrev AreFoundTrue : List ℕ → List Clause → Type 0
  AreFoundTrue found clauses = (j : ℕ) → is_listed found j ≡ true → IsHintTrue (truth_at c.nodes assignment) clauses j

  -- each taken number is true
  abbrev AreTakenTrue : List ℕ → ℕ → List CertLine → Type 0
  AreTakenTrue found k lines = (n : ℕ) → is_listed (numbers_taken found k lines) n ≡ true → IsNumberTrue (truth_at c.nodes assignment) c.in_force n

  empty_never_true : (clauses : List Clause) (line : ℕ) → AreFoundTrue (reached_clauses (length clauses) []) clauses → cond (ends_empty clauses) None (Some (breaks 9 (line - 1))) ≡ None → ⊥
  empty_never_true clauses line found e = by_end (ends_empty clauses) refl e
    where
      by_end : (w : Bool) → ends_empty clauses ≡ w → cond w None (Some (breaks 9 (line - 1))) ≡ None → ⊥
      by_end true ends is = false≢true (found (length clauses - 1) (last_found (length clauses)) [] (last_empty clauses ends))
      by_end false ends is = none-some _ (sym is)

  -- what is found from a clause on, where it is found from the next one on
  found_with : ℕ → CertLine → List ℕ → List ℕ
  found_with k x above = cond (is_listed above k) (hints_of x ++ above) above

  still_found : (k : ℕ) (x : CertLine) (above : List ℕ) (j : ℕ) → is_listed above j ≡ true → is_listed (found_with k x above) j ≡ true
  unfolding found_with
  still_found k x above j is = by_case (is_listed above k)
    where
      by_case : (w : Bool) → is_listed (cond w (hints_of x ++ above) above) j ≡ true
      by_case true = listed_right (hints_of x) above j is
      by_case false = is

  hint_found : (k : ℕ) (x : CertLine) (above : List ℕ) → is_listed above k ≡ true → (j : ℕ) → is_listed (hints_of x) j ≡ true → is_listed (found_with k x above) j ≡ true
  unfolding found_with
  hint_found k x above on j is = ap (λ w. is_listed (cond w (hints_of x ++ above) above) j) on ∙ listed_left (hints_of x) above j is

  -- the clauses found from the next one on are true, the new one among them
  found_next : (clauses : List Clause) (line : ℕ) (x : CertLine) (rest : List CertLine) (given : Given) (above : List ℕ) (more : List CertLine)
      → clause_given l c clauses line x rest ≡ Ok given → AreFoundTrue (found_with (length clauses) x above) clauses → AreTakenTrue (found_with (length clauses) x above) (length clauses) (x ∷ more)
      → AreFoundTrue above (clauses ++ given.clause ∷ [])
  found_next clauses line x rest given above more e found taken j is hinted at =
      elim (pushed clauses given.clause j hinted at) as (λ _. clause_holds (truth_at c.nodes assignment) hinted ≡ true) [
        | inl there ↦ found j (still_found (length clauses) x above j is) hinted there
        | inr last ↦
            let on : is_listed above (length clauses) ≡ true = ap (is_listed above) (sym last.0) ∙ is in
            let numbers : (n : ℕ) → is_listed (taken_by x) n ≡ true → IsNumberTrue (truth_at c.nodes assignment) c.in_force n =
            λ n has. taken n (listed_left _ (numbers_taken (found_with (length clauses) x above) (length clauses + 1) more) n
            (ap (λ w. is_listed (cond w (taken_by x) []) n) (still_found (length clauses) x above (length clauses) on) ∙ has)) in
            ap (clause_holds (truth_at c.nodes assignment)) (sym last.1)
            ∙ given_true c assignment table lemmas l clauses line x rest given
            (each_listed (IsHintTrue (truth_at c.nodes assignment) clauses) (hints_of x) (λ h has. found h (hint_found (length clauses) x above on h has)))
            (each_listed (IsNumberTrue (truth_at c.nodes assignment) c.in_force) (taken_by x) numbers) e
      ]

  taken_next : (k : ℕ) (x : CertLine) (above : List ℕ) (more : List CertLine) → AreTakenTrue (found_with k x above) k (x ∷ more) → AreTakenTrue above (k + 1) more
  taken_next k x above more taken n is =
      taken n (listed_right (cond (is_listed (found_with k x above) k) (taken_by x) []) _ n (taken_more above (found_with k x above) (still_found k x above) (k + 1) more n is))

  pub no_steps : (clauses : List Clause) (line tree : ℕ) (lines : List CertLine) → NoClausesIn tree lines
      → AreFoundTrue (reached_clauses (length clauses) (clause_lines lines)) clauses → AreTakenTrue (reached_clauses (length clauses) (clause_lines lines)) (length clauses) (clause_lines lines)
      → lines_fault l c clauses line tree lines ≡ None → ⊥
  unfolding lines_fault reached_clauses found_with
  no_steps clauses line tree [] none found taken e = empty_never_true clauses line found e
  no_steps clauses line (suc tree) (x ∷ rest) none found taken e =
      let same : clause_lines (x ∷ rest) ≡ clause_lines rest = ap (λ w. cond w (x ∷ clause_lines rest) (clause_lines rest)) none.0 in
      no_steps clauses (line + 1) tree rest none.1
      (subst (λ xs. AreFoundTrue (reached_clauses (length clauses) xs) clauses) same found)
      (subst (λ xs. AreTakenTrue (reached_clauses (length clauses) xs) (length clauses) xs) same taken) e
  no_steps clauses line zero (x ∷ rest) none found taken e =
      by_given (clause_given l c clauses line x rest) refl e (λ given. no_steps (clauses ++ given.clause ∷ []) (line + 1) (length rest - length given.rest) rest)
    where
      by_given : (r : Result Given Broken) → clause_given l c clauses line x rest ≡ r
          → elim r as (λ _. Option Broken) [ Err broken ↦ Some broken | Ok given ↦ lines_fault l c (clauses ++ given.clause ∷ []) (line + 1) (length rest - length given.rest) rest ] ≡ None
          → ((given : Given) → NoClausesIn (length rest - length given.rest) rest
          → AreFoundTrue (reached_clauses (length (clauses ++ given.clause ∷ [])) (clause_lines rest)) (clauses ++ given.clause ∷ [])
          → AreTakenTrue (reached_clauses (length (clauses ++ given.clause ∷ [])) (clause_lines rest)) (length (clauses ++ given.clause ∷ [])) (clause_lines rest)
          → lines_fault l c (clauses ++ given.clause ∷ []) (line + 1) (length rest - length given.rest) rest ≡ None → ⊥)
          → ⊥
      by_given (Err broken) is on next = none-some broken (sym on)
      by_given (Ok given) is on next =
          let k = length clauses in
          let ends = taken_by_clause trees l c clauses line x rest given is in
          let longer : length clauses + 1 ≡ length (clauses ++ given.clause ∷ []) = let long = length-append clauses (given.clause ∷ []) in omega arith in
          let same : clause_lines (x ∷ rest) ≡ x ∷ clause_lines rest = ap (λ w. cond w (x ∷ clause_lines rest) (clause_lines rest)) ends.0 in
          let above = reached_clauses (length clauses + 1) (clause_lines rest) in
          let found' : AreFoundTrue (found_with (length clauses) x above) clauses = subst (λ xs. AreFoundTrue (reached_clauses (length clauses) xs) clauses) same found in
          let taken' : AreTakenTrue (found_with (length clauses) x above) (length clauses) (x ∷ clause_lines rest) = subst (λ xs. AreTakenTrue (reached_clauses (length clauses) xs) (length clauses) xs) same taken in
          next given (none_in_taken rest given.rest ends.1)
          (subst (λ n. AreFoundTrue (reached_clauses n (clause_lines rest)) (clauses ++ given.clause ∷ [])) longer (found_next clauses line x rest given above (clause_lines rest) is found' taken'))
          (subst (λ n. AreTakenTrue (reached_clauses n (clause_lines rest)) n (clause_lines rest)) longer (taken_next (length clauses) x above (clause_lines rest) taken'))
          on
