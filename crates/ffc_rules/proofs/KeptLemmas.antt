-- What makes an entry break no rule, for whoever writes one.
use Rattle.std.proofs.Common.{◌↔◌, ◌≡◌, ℕ, zero, suc, ◌+◌, ◌-◌, ◌<◌, ◌≤◌, ◌==◌, ◌&&◌, nat_lt, Bool, true, false, cond, List, [], ◌∷◌, ◌++◌, length, map, Option, Some, None, Result, Ok, Err, refl, sym, ap, ◌∙◌, subst, arith, slice_get, drop, length-append}
use Rattle.std.specs.List.{AllByRecursion, list_all}
use Rattle.std.proofs.lemmas.Bool.{eq-eqb, lt-ltb, le-ltb, and_from, false_from_ne_true}
use Rattle.std.proofs.lemmas.List.Elements.{recursion_from_All}
use Rattle.std.proofs.lemmas.List.{length-map, drop_at}
use Rattle.std.proofs.lemmas.Option.{none-some}
use Rattle.ffc_cert.specs.declared.entries.CertLine.{CertLine}
use Rattle.ffc_cert.specs.declared.entries.CertLine.TheVariants.{Assume, Scheme, Hinted, Lemma, Combine, Bits, Chain, Step, Split, Values, Close}
use Rattle.ffc_cert.specs.declared.entries.Entry.TheVariants.{Sat, UnsatCases, UnsatSteps}
use Rattle.ffc_term.specs.declared.node.Node.{Node}
use Rattle.ffc_term.specs.declared.value.Value.{Value}
use Rattle.ffc_term.specs.Nodes.{node_at}
use Rattle.ffc_term.specs.Measuring.{value_count}
use Rattle.ffc_trees.specs.FirstLines.{first_lines}
use Rattle.ffc_trees.specs.Trees.{Broken as BrokenInTree, tree_read}
use Rattle.ffc_clause.specs.Clauses.{Clause, plus}
use Rattle.ffc_clause.specs.Hints.{follows}
use Rattle.ffc_rules.specs.Clauses.{AreTrue}
use Rattle.ffc_rules.specs.Schemes.{scheme_clause}
use Rattle.ffc_rules.specs.Cones.{cone_constants, span, work}
use Rattle.ffc_rules.specs.Assignments.{value_of_constant, value_of_number, listed_assignment, are_true, has_model_below}
use Rattle.ffc_rules.specs.Entries.{NodeCheck, Limits, Broken, breaks, Given, first_misfit, sat_fault, cases_fault, is_boolean, is_equality_at, is_within, order_or, tree_given, lemma_given, clause_given, ends_empty, lines_fault, entry_fault_within}
use Rattle.ffc_rules.specs.Refutations.{Gives, Refutes}
use Rattle.ffc_rules.specs.Refutations.Gives.{nothing, next}
use Rattle.ffc_rules.specs.Laws.{AreValues, Agrees, IsValid, HasNoModel}
use Rattle.ffc_rules.proofs.AssignmentLemmas.{from_each, constant_agrees}
use Rattle.ffc_rules.proofs.CaseLemmas.{a_model, test-from_AreTrue, true_alike, constants_of, named_among, ids_within, listed_gives}
use Rattle.ffc_rules.proofs.GivenLemmas.{err≢ok, chosen_ok}
use Rattle.ffc_rules.proofs.EntryLemmas.{trees_hold_none}
use Rattle.ffc_rules.proofs.StepLemmas.{taken_by_clause}
use Rattle.ffc_smt.specs.Numbers.{is_order}

-- Values

no_misfit : (ns : List Node) (declared : List ℕ) (pairs : List (ℕ × ℕ)) (line : ℕ) → map (λ p. p.0) pairs ≡ declared → AllByRecursion (λ p. p.1 < value_count (node_at ns p.0)) pairs → first_misfit ns declared pairs line ≡ None
no_misfit ns declared pairs line names fit = subst (λ ids. first_misfit ns ids pairs line ≡ None) names (own pairs line fit)
  where
    own : (ps : List (ℕ × ℕ)) (at : ℕ) → AllByRecursion (λ p. p.1 < value_count (node_at ns p.0)) ps → first_misfit ns (map (λ p. p.0) ps) ps at ≡ None
    own [] at all = refl
    own (p ∷ ps) at all =
        ap (λ b. cond b (first_misfit ns (map (λ q. q.0) ps) ps (at + 1)) (Some at)) (and_from (p.0 == p.0) _ (eq-eqb p.0 p.0 refl) (lt-ltb p.1 (value_count (node_at ns p.0)) all.0))
        ∙ own ps (at + 1) all.1

pub values_kept : (l : Limits) (c : NodeCheck) (pairs : List (ℕ × ℕ)) (line : ℕ) (A : List Value) → IsValid c → AreValues c.nodes c.declared pairs → Agrees c.nodes pairs A → AreTrue c.nodes c.in_force A → entry_fault_within l c (Sat pairs) line ≡ None
unfolding entry_fault_within sat_fault
values_kept l c pairs line A valid values agrees all =
    let ns = c.nodes in
    let B = listed_assignment ns pairs in
    let of = constants_of ns c.in_force valid.table (ids_within ns c.declared c.in_force c.first_order valid pairs values.names) in
    let listed = listed_gives ns c.declared c.in_force c.first_order valid pairs values.names in
    let gives = recursion_from_All (λ p. value_of_constant ns A p.0 ≡ value_of_number (node_at ns p.0) p.1) pairs agrees in
    let good = test-from_AreTrue ns c.in_force B (true_alike ns c.in_force (cone_constants ns c.in_force) A B valid.table of (λ id has.
    let is = (of.each id).0 has in
    let pair = named_among c.declared pairs id values.names (valid.covered id is.0 is.1) in
    constant_agrees ns A B id valid.table is.1
    (from_each (λ p. value_of_constant ns A p.0 ≡ value_of_number (node_at ns p.0) p.1) pairs (id, pair.0) gives pair.1
    ∙ sym (from_each (λ p. value_of_constant ns B p.0 ≡ value_of_number (node_at ns p.0) p.1) pairs (id, pair.0) listed pair.1))
    ) all) in
    let long : length pairs ≡ length c.declared = sym (length-map pairs (λ p. p.0)) ∙ ap length values.names in
    ap (λ b. cond b (elim (first_misfit ns c.declared pairs (line + 1)) as (λ _. Option Broken) [ Some misfit ↦ Some (breaks 1 misfit) | None ↦ cond (are_true ns c.in_force B) None (Some (breaks 1 line)) ]) (Some (breaks 1 line))) (eq-eqb (length pairs) (length c.declared) long)
    ∙ ap (λ (o : Option ℕ). elim o as (λ _. Option Broken) [ Some misfit ↦ Some (breaks 1 misfit) | None ↦ cond (are_true ns c.in_force B) None (Some (breaks 1 line)) ]) (no_misfit ns c.declared pairs (line + 1) values.names (recursion_from_All _ pairs values.fit))
    ∙ ap (λ b. cond b None (Some (breaks 1 line))) good

pub cases_kept : (l : Limits) (c : NodeCheck) (line : ℕ) → IsValid c → work c.nodes c.in_force ≤ l.work → HasNoModel c.nodes c.in_force → entry_fault_within l c UnsatCases line ≡ None
unfolding entry_fault_within cases_fault
cases_kept l c line valid few none =
    let never = false_from_ne_true (has_model_below c.nodes c.in_force (span c.nodes c.in_force)) (λ some. let (A, all) = a_model c.nodes c.in_force (span c.nodes c.in_force) some in none A all) in
    ap (λ b. cond b (Some (breaks 11 line)) (cond (has_model_below c.nodes c.in_force (span c.nodes c.in_force)) (Some (breaks 10 line)) None)) (le-ltb l.work (work c.nodes c.in_force) few)
    ∙ ap (λ b. cond b (Some (breaks 10 line)) None) never

-- Refutations

-- a choice whose test holds is its answer
chosen : {A E : Type 0} (b : Bool) (r : Result A E) (d : E) → b ≡ true → cond b r (Err d) ≡ r
chosen b r d e = ap (λ x. cond x r (Err d)) e

-- what a line gives is the same at every number
given_anywhere : (l : Limits) (c : NodeCheck) (clauses : List Clause) (line other : ℕ) (x : CertLine) (rest : List CertLine) (given : Given) → clause_given l c clauses line x rest ≡ Ok given → clause_given l c clauses other x rest ≡ Ok given
unfolding clause_given lemma_given
given_anywhere l c clauses line other (Assume k) rest given e = by_number (slice_get c.in_force k) e
  where
    by_number : (o : Option ℕ) → elim o as (λ _. Result Given Broken) [ None ↦ Err (breaks 2 line) | Some id ↦ Ok (record { clause = plus id ∷ []; rest = rest }) ] ≡ Ok given
        → elim o as (λ _. Result Given Broken) [ None ↦ Err (breaks 2 other) | Some id ↦ Ok (record { clause = plus id ∷ []; rest = rest }) ] ≡ Ok given
    by_number None is = absurd (err≢ok _ _ is)
    by_number (Some id) is = is
given_anywhere l c clauses line other (Scheme n s i) rest given e =
    let first = chosen_ok (nat_lt n (length c.nodes)) _ _ given e in
    chosen (nat_lt n (length c.nodes)) _ _ first.0 ∙ by_clause (scheme_clause c.nodes n s i) first.1
  where
    by_clause : (o : Option Clause) → elim o as (λ _. Result Given Broken) [ None ↦ Err (breaks 3 line) | Some clause ↦ Ok (record { clause = clause; rest = rest }) ] ≡ Ok given
        → elim o as (λ _. Result Given Broken) [ None ↦ Err (breaks 3 other) | Some clause ↦ Ok (record { clause = clause; rest = rest }) ] ≡ Ok given
    by_clause None is = absurd (err≢ok _ _ is)
    by_clause (Some clause) is = is
given_anywhere l c clauses line other (Hinted lits hints) rest given e =
    let first = chosen_ok (list_all (λ x. is_boolean c.nodes x.1) lits && list_all (λ h. nat_lt h (length clauses)) hints) _ _ given e in
    let second = chosen_ok (follows clauses lits hints) _ _ given first.1 in
    chosen (list_all (λ x. is_boolean c.nodes x.1) lits && list_all (λ h. nat_lt h (length clauses)) hints) _ _ first.0
    ∙ chosen (follows clauses lits hints) _ _ second.0 ∙ second.1
given_anywhere l c clauses line other (Lemma order lits) rest given e =
    let p = order_or c.first_order order in
    let first = chosen_ok (is_order p && list_all (λ x. is_equality_at c.nodes p x.1) lits) _ _ given e in
    let second = chosen_ok (list_all (λ x. is_within l c.nodes x.1) lits) _ _ given first.1 in
    chosen (is_order p && list_all (λ x. is_equality_at c.nodes p x.1) lits) _ _ first.0
    ∙ chosen (list_all (λ x. is_within l c.nodes x.1) lits) _ _ second.0
    ∙ by_tree (tree_read l.trees p (first_lines c.nodes p lits) rest) second.1
  where
    by_tree : (r : Result (List CertLine) BrokenInTree) → tree_given lits line r ≡ Ok given → tree_given lits other r ≡ Ok given
    by_tree (Ok after) is = is
    by_tree (Err broken) is = absurd (err≢ok _ _ is)
given_anywhere l c clauses line other (Combine multiples) rest given e = absurd (err≢ok _ _ e)
given_anywhere l c clauses line other (Bits known chosen polynomial bits) rest given e = absurd (err≢ok _ _ e)
given_anywhere l c clauses line other (Chain known variable steps) rest given e = absurd (err≢ok _ _ e)
given_anywhere l c clauses line other (Step quotient remainder) rest given e = absurd (err≢ok _ _ e)
given_anywhere l c clauses line other (Split known variable zeros) rest given e = absurd (err≢ok _ _ e)
given_anywhere l c clauses line other (Values variable count) rest given e = absurd (err≢ok _ _ e)
given_anywhere l c clauses line other Close rest given e = absurd (err≢ok _ _ e)

module _ (l : Limits) (c : NodeCheck) where
  -- the lines of a tree are passed over
  passed_over : (clauses : List Clause) (line : ℕ) (front rest : List CertLine) → lines_fault l c clauses line (length front) (front ++ rest) ≡ lines_fault l c clauses (line + length front) 0 rest
  unfolding lines_fault
  passed_over clauses line [] rest = let e : line ≡ line + 0 = omega arith in ap (λ n. lines_fault l c clauses n 0 rest) e
  passed_over clauses line (x ∷ front) rest =
      let e : line + 1 + length front ≡ line + length (x ∷ front) = omega arith in
      passed_over clauses (line + 1) front rest ∙ ap (λ n. lines_fault l c clauses n 0 rest) e

  gives_kept : {clauses all : List Clause} {lines : List CertLine} → Gives l c clauses lines all → ends_empty all ≡ true → (line : ℕ) → lines_fault l c clauses line 0 lines ≡ None
  unfolding lines_fault
  gives_kept (nothing {clauses = clauses}) ends line = ap (λ b. cond b None (Some (breaks 9 (line - 1)))) ends
  gives_kept (next {clauses = clauses} {rest = rest} x given ok more) ends line =
      let ends_by = taken_by_clause trees_hold_none l c clauses line x rest given (ok line) in
      let (front, parts, none) = ends_by.1 in
      let e : length (front ++ given.rest) - length given.rest ≡ length front = let long = length-append front given.rest in omega arith in
      ap (λ (r : Result Given Broken). elim r as (λ _. Option Broken) [ Err broken ↦ Some broken | Ok g ↦ lines_fault l c (clauses ++ g.clause ∷ []) (line + 1) (length rest - length g.rest) rest ]) (ok line)
      ∙ ap (λ xs. lines_fault l c (clauses ++ given.clause ∷ []) (line + 1) (length xs - length given.rest) xs) parts
      ∙ ap (λ n. lines_fault l c (clauses ++ given.clause ∷ []) (line + 1) n (front ++ given.rest)) e
      ∙ passed_over (clauses ++ given.clause ∷ []) (line + 1) front given.rest
      ∙ gives_kept more ends (line + 1 + length front)

  -- what is given from a place on
  GivesFrom : List Clause → List CertLine → Type 0
  GivesFrom clauses lines = (all : List Clause) × Gives l c clauses lines all × (ends_empty all ≡ true)

  kept_gives : (clauses : List Clause) (line tree : ℕ) (lines : List CertLine) → lines_fault l c clauses line tree lines ≡ None → GivesFrom clauses (drop tree lines)
  unfolding lines_fault GivesFrom
  kept_gives clauses line zero [] e = by_end (ends_empty clauses) refl e
    where
      by_end : (b : Bool) → ends_empty clauses ≡ b → cond b None (Some (breaks 9 (line - 1))) ≡ None → GivesFrom clauses []
      by_end true ends is = (clauses, nothing, ends)
      by_end false ends is = absurd (none-some _ (sym is))
  kept_gives clauses line (suc tree) [] e = by_end (ends_empty clauses) refl e
    where
      by_end : (b : Bool) → ends_empty clauses ≡ b → cond b None (Some (breaks 9 (line - 1))) ≡ None → GivesFrom clauses []
      by_end true ends is = (clauses, nothing, ends)
      by_end false ends is = absurd (none-some _ (sym is))
  kept_gives clauses line (suc tree) (x ∷ rest) e = kept_gives clauses (line + 1) tree rest e
  kept_gives clauses line zero (x ∷ rest) e =
      by_given (clause_given l c clauses line x rest) refl e (λ given. kept_gives (clauses ++ given.clause ∷ []) (line + 1) (length rest - length given.rest) rest)
    where
      by_given : (r : Result Given Broken) → clause_given l c clauses line x rest ≡ r
          → elim r as (λ _. Option Broken) [ Err broken ↦ Some broken | Ok given ↦ lines_fault l c (clauses ++ given.clause ∷ []) (line + 1) (length rest - length given.rest) rest ] ≡ None
          → ((given : Given) → lines_fault l c (clauses ++ given.clause ∷ []) (line + 1) (length rest - length given.rest) rest ≡ None → GivesFrom (clauses ++ given.clause ∷ []) (drop (length rest - length given.rest) rest))
          → GivesFrom clauses (x ∷ rest)
      by_given (Err broken) is on later = absurd (none-some broken (sym on))
      by_given (Ok given) is on later =
          let ends_by = taken_by_clause trees_hold_none l c clauses line x rest given is in
          let (front, parts, none) = ends_by.1 in
          let e : length (front ++ given.rest) - length given.rest ≡ length front = let long = length-append front given.rest in omega arith in
          let same : drop (length rest - length given.rest) rest ≡ given.rest =
          ap (λ xs. drop (length xs - length given.rest) xs) parts ∙ ap (λ n. drop n (front ++ given.rest)) e ∙ drop_at front given.rest (length front) refl in
          let (all, gives, ends) = subst (GivesFrom (clauses ++ given.clause ∷ [])) same (later given on) in
          (all, next x given (λ other. given_anywhere l c clauses line other x rest given is) gives, ends)

  pub refutations_kept : (lines : List CertLine) (line : ℕ) → (entry_fault_within l c (UnsatSteps lines) line ≡ None) ↔ Refutes l c lines
  unfolding entry_fault_within GivesFrom
  refutations_kept lines line = (
    (λ e. let (all, gives, ends) = kept_gives [] (line + 1) 0 lines e in record { clauses = all; gives = gives; empty = ends }),
    (λ r. gives_kept r.gives r.empty (line + 1)),
  )
