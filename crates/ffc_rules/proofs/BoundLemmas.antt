-- A broken line is near its entry.
use Rattle.std.proofs.Common.{◌≡◌, ℕ, zero, suc, ◌+◌, ◌-◌, ◌<◌, ◌≤◌, ◌==◌, ◌&&◌, nat_lt, Bool, true, false, cond, List, [], ◌∷◌, ◌++◌, length, Option, Some, None, Result, Ok, Err, refl, ap, arith, slice_get}
use Rattle.std.specs.List.{list_all}
use Rattle.std.proofs.lemmas.Bool.{false≢true}
use Rattle.std.proofs.lemmas.Option.{none-some, same_Some}
use Rattle.ffc_cert.specs.declared.entries.CertLine.{CertLine}
use Rattle.ffc_cert.specs.declared.entries.CertLine.TheVariants.{Assume, Scheme, Hinted, Lemma, Combine, Bits, Chain, Step, Split, Values, Close}
use Rattle.ffc_cert.specs.declared.entries.Entry.{Entry}
use Rattle.ffc_cert.specs.declared.entries.Entry.TheVariants.{Sat, UnsatCases, UnsatSteps, Unknown}
use Rattle.ffc_cert.specs.Laws.{line_count}
use Rattle.ffc_term.specs.declared.node.Node.{Node}
use Rattle.ffc_term.specs.Nodes.{node_at}
use Rattle.ffc_term.specs.Measuring.{value_count}
use Rattle.ffc_trees.specs.TreeLines.{Limits as TreeLimits}
use Rattle.ffc_trees.specs.FirstLines.{first_lines}
use Rattle.ffc_trees.specs.Trees.{Broken as BrokenInTree, Stage, Open, Within, branch_read, step_read, next_read, read_from, tree_read}
use Rattle.ffc_clause.specs.Clauses.{Clause, plus}
use Rattle.ffc_clause.specs.Hints.{follows}
use Rattle.ffc_rules.specs.Schemes.{scheme_clause}
use Rattle.ffc_rules.specs.Cones.{span, work}
use Rattle.ffc_rules.specs.Assignments.{are_true, listed_assignment, has_model_below}
use Rattle.ffc_rules.specs.Entries.{NodeCheck, Limits, Broken, breaks, Given, is_boolean, is_equality_at, is_within, order_or, tree_given, lemma_given, clause_given, ends_empty, lines_fault, first_misfit, sat_fault, cases_fault, entry_fault_within}
use Rattle.ffc_smt.specs.Numbers.{is_order}

same_Err : {A E : Type 0} (x y : E) → ◌≡◌ {A = Result A E} (Err x) (Err y) → x ≡ y
same_Err {A} {E} x y e = ap (λ (r : Result A E). elim r as (λ _. E) [ Ok z ↦ x | Err d ↦ d ]) e

ok≢err : {A E : Type 0} (x : A) (d : E) → ◌≡◌ {A = Result A E} (Ok x) (Err d) → ⊥
ok≢err {A} {E} x d e = false≢true (ap (λ (r : Result A E). elim r as (λ _. Bool) [ Ok z ↦ false | Err f ↦ true ]) e)

-- a broken line of a tree is one of the lines, or the one after them
offset_near : (l : TreeLimits) (p : ℕ) (stage : Stage) (at : ℕ) (lines : List CertLine) (broken : BrokenInTree) → read_from l p stage at lines ≡ Err broken → broken.offset ≤ at + length lines
unfolding read_from
offset_near l p (Open []) at lines broken e = absurd (ok≢err _ _ e)
offset_near l p (Open (branch ∷ others)) at [] broken e = let same = ap (λ b. b.offset) (same_Err _ broken e) in omega arith
offset_near l p (Open (branch ∷ others)) at (line ∷ rest) broken e = by_stage (branch_read l p branch others line) e (λ stage. offset_near l p stage (suc at) rest broken)
  where
    by_stage : (r : Result Stage ℕ) → next_read at (λ stage. read_from l p stage (suc at) rest) r ≡ Err broken → ((stage : Stage) → read_from l p stage (suc at) rest ≡ Err broken → broken.offset ≤ suc at + length rest) → broken.offset ≤ at + length (line ∷ rest)
    by_stage (Ok stage) is later = let k = later stage is in omega arith
    by_stage (Err rule) is later = let same = ap (λ b. b.offset) (same_Err _ broken is) in omega arith
offset_near l p (Within c branch others) at [] broken e = let same = ap (λ b. b.offset) (same_Err _ broken e) in omega arith
offset_near l p (Within c branch others) at (line ∷ rest) broken e = by_stage (step_read l p c branch others line) e (λ stage. offset_near l p stage (suc at) rest broken)
  where
    by_stage : (r : Result Stage ℕ) → next_read at (λ stage. read_from l p stage (suc at) rest) r ≡ Err broken → ((stage : Stage) → read_from l p stage (suc at) rest ≡ Err broken → broken.offset ≤ suc at + length rest) → broken.offset ≤ at + length (line ∷ rest)
    by_stage (Ok stage) is later = let k = later stage is in omega arith
    by_stage (Err rule) is later = let same = ap (λ b. b.offset) (same_Err _ broken is) in omega arith

-- between the line and the end of the lines after it
abbrev IsNear : ℕ → List CertLine → Broken → Type 0
IsNear line rest broken = (line ≤ broken.line) × (broken.line ≤ line + 1 + length rest)

here : (line rule : ℕ) (rest : List CertLine) (broken : Broken) → ◌≡◌ {A = Result Given Broken} (Err (breaks rule line)) (Err broken) → IsNear line rest broken
here line rule rest broken e = let same = ap (λ b. b.line) (same_Err _ broken e) in (omega arith, omega arith)

-- a choice between an answer and an error is an error by its test or by its answer
failed : (b : Bool) (r : Result Given Broken) (line rule : ℕ) (rest : List CertLine) (broken : Broken) → cond b r (Err (breaks rule line)) ≡ Err broken → (r ≡ Err broken → IsNear line rest broken) → IsNear line rest broken
failed true r line rule rest broken e inner = inner e
failed false r line rule rest broken e inner = here line rule rest broken e

given_near : (l : Limits) (c : NodeCheck) (clauses : List Clause) (line : ℕ) (x : CertLine) (rest : List CertLine) (broken : Broken) → clause_given l c clauses line x rest ≡ Err broken → IsNear line rest broken
unfolding clause_given lemma_given
given_near l c clauses line (Assume k) rest broken e = by_number (slice_get c.in_force k) e
  where
    by_number : (o : Option ℕ) → elim o as (λ _. Result Given Broken) [ None ↦ Err (breaks 2 line) | Some id ↦ Ok (record { clause = plus id ∷ []; rest = rest }) ] ≡ Err broken → IsNear line rest broken
    by_number None is = here line 2 rest broken is
    by_number (Some id) is = absurd (ok≢err _ _ is)
given_near l c clauses line (Scheme n s i) rest broken e = failed (nat_lt n (length c.nodes)) _ line 12 rest broken e (by_clause (scheme_clause c.nodes n s i))
  where
    by_clause : (o : Option Clause) → elim o as (λ _. Result Given Broken) [ None ↦ Err (breaks 3 line) | Some clause ↦ Ok (record { clause = clause; rest = rest }) ] ≡ Err broken → IsNear line rest broken
    by_clause None is = here line 3 rest broken is
    by_clause (Some clause) is = absurd (ok≢err _ _ is)
given_near l c clauses line (Hinted lits hints) rest broken e =
    failed (list_all (λ x. is_boolean c.nodes x.1) lits && list_all (λ h. nat_lt h (length clauses)) hints) _ line 12 rest broken e (λ f.
    failed (follows clauses lits hints) _ line 4 rest broken f (λ g. absurd (ok≢err _ _ g)))
given_near l c clauses line (Lemma order lits) rest broken e =
    let p = order_or c.first_order order in
    failed (is_order p && list_all (λ x. is_equality_at c.nodes p x.1) lits) _ line 12 rest broken e (λ f.
    failed (list_all (λ x. is_within l c.nodes x.1) lits) _ line 11 rest broken f (by_tree (tree_read l.trees p (first_lines c.nodes p lits) rest) (offset_near l.trees p (Open (first_lines c.nodes p lits ∷ [])) 0 rest)))
  where
    by_tree : (r : Result (List CertLine) BrokenInTree) → ((b : BrokenInTree) → r ≡ Err b → b.offset ≤ 0 + length rest) → tree_given lits line r ≡ Err broken → IsNear line rest broken
    by_tree (Ok after) near is = absurd (ok≢err _ _ is)
    by_tree (Err b) near is = let k = near b refl in let same = ap (λ d. d.line) (same_Err _ broken is) in (omega arith, omega arith)
given_near l c clauses line (Combine multiples) rest broken e = here line 12 rest broken e
given_near l c clauses line (Bits known chosen polynomial bits) rest broken e = here line 12 rest broken e
given_near l c clauses line (Chain known variable steps) rest broken e = here line 12 rest broken e
given_near l c clauses line (Step quotient remainder) rest broken e = here line 12 rest broken e
given_near l c clauses line (Split known variable zeros) rest broken e = here line 12 rest broken e
given_near l c clauses line (Values variable count) rest broken e = here line 12 rest broken e
given_near l c clauses line Close rest broken e = here line 12 rest broken e

lines_near : (l : Limits) (c : NodeCheck) (clauses : List Clause) (line tree : ℕ) (lines : List CertLine) (broken : Broken) → lines_fault l c clauses line tree lines ≡ Some broken → (line - 1 ≤ broken.line) × (broken.line ≤ line + length lines)
unfolding lines_fault
lines_near l c clauses line tree [] broken e = by_end (ends_empty clauses) e
  where
    by_end : (b : Bool) → cond b None (Some (breaks 9 (line - 1))) ≡ Some broken → (line - 1 ≤ broken.line) × (broken.line ≤ line + length {A = CertLine} [])
    by_end true is = absurd (none-some broken is)
    by_end false is = let same = ap (λ b. b.line) (same_Some _ broken is) in (omega arith, omega arith)
lines_near l c clauses line (suc tree) (x ∷ rest) broken e = let k = lines_near l c clauses (line + 1) tree rest broken e in (omega (arith, k.0), omega (arith, k.1))
lines_near l c clauses line zero (x ∷ rest) broken e =
    by_given (clause_given l c clauses line x rest) (given_near l c clauses line x rest) e (λ given. lines_near l c (clauses ++ given.clause ∷ []) (line + 1) (length rest - length given.rest) rest broken)
  where
    by_given : (r : Result Given Broken) → ((b : Broken) → r ≡ Err b → IsNear line rest b)
        → elim r as (λ _. Option Broken) [ Err b ↦ Some b | Ok given ↦ lines_fault l c (clauses ++ given.clause ∷ []) (line + 1) (length rest - length given.rest) rest ] ≡ Some broken
        → ((given : Given) → lines_fault l c (clauses ++ given.clause ∷ []) (line + 1) (length rest - length given.rest) rest ≡ Some broken → (line + 1 - 1 ≤ broken.line) × (broken.line ≤ line + 1 + length rest))
        → (line - 1 ≤ broken.line) × (broken.line ≤ line + length (x ∷ rest))
    by_given (Err b) near is later = let k = near b refl in let same = ap (λ d. d.line) (same_Some b broken is) in (omega (arith, k.0), omega (arith, k.1))
    by_given (Ok given) near is later = let k = later given is in (omega (arith, k.0), omega (arith, k.1))

misfit_near : (ns : List Node) (declared : List ℕ) (pairs : List (ℕ × ℕ)) (line misfit : ℕ) → first_misfit ns declared pairs line ≡ Some misfit → (line ≤ misfit) × (misfit < line + length pairs)
misfit_near ns [] pairs line misfit e = absurd (none-some misfit e)
misfit_near ns (id ∷ declared) [] line misfit e = absurd (none-some misfit e)
misfit_near ns (id ∷ declared) (p ∷ pairs) line misfit e = by_test (p.0 == id && nat_lt p.1 (value_count (node_at ns id))) e (misfit_near ns declared pairs (line + 1) misfit)
  where
    by_test : (b : Bool) → cond b (first_misfit ns declared pairs (line + 1)) (Some line) ≡ Some misfit → (first_misfit ns declared pairs (line + 1) ≡ Some misfit → (line + 1 ≤ misfit) × (misfit < line + 1 + length pairs)) → (line ≤ misfit) × (misfit < line + length (p ∷ pairs))
    by_test true is later = let k = later is in (omega (arith, k.0), omega (arith, k.1))
    by_test false is later = let same = same_Some line misfit is in (omega arith, omega arith)

pub fault_near : (l : Limits) (c : NodeCheck) (entry : Entry) (line : ℕ) (broken : Broken) → entry_fault_within l c entry line ≡ Some broken → (line ≤ broken.line) × (broken.line ≤ line + line_count entry)
unfolding entry_fault_within sat_fault cases_fault
fault_near l c (Sat pairs) line broken e = by_length (length pairs == length c.declared) e
  where
    at_first : Some (breaks 1 line) ≡ Some broken → (line ≤ broken.line) × (broken.line ≤ line + (length pairs + 1))
    at_first is = let same = ap (λ b. b.line) (same_Some _ broken is) in (omega arith, omega arith)

    by_truth : (b : Bool) → cond b None (Some (breaks 1 line)) ≡ Some broken → (line ≤ broken.line) × (broken.line ≤ line + (length pairs + 1))
    by_truth true is = absurd (none-some broken is)
    by_truth false is = at_first is

    by_misfit : (o : Option ℕ) → ((misfit : ℕ) → o ≡ Some misfit → (line + 1 ≤ misfit) × (misfit < line + 1 + length pairs))
        → elim o as (λ _. Option Broken) [ Some misfit ↦ Some (breaks 1 misfit) | None ↦ cond (are_true c.nodes c.in_force (listed_assignment c.nodes pairs)) None (Some (breaks 1 line)) ] ≡ Some broken → (line ≤ broken.line) × (broken.line ≤ line + (length pairs + 1))
    by_misfit (Some misfit) near is = let k = near misfit refl in let same = ap (λ b. b.line) (same_Some _ broken is) in (omega (arith, k.0), omega (arith, k.1))
    by_misfit None near is = by_truth (are_true c.nodes c.in_force (listed_assignment c.nodes pairs)) is

    by_length : (b : Bool) → cond b (elim (first_misfit c.nodes c.declared pairs (line + 1)) as (λ _. Option Broken) [ Some misfit ↦ Some (breaks 1 misfit) | None ↦ cond (are_true c.nodes c.in_force (listed_assignment c.nodes pairs)) None (Some (breaks 1 line)) ]) (Some (breaks 1 line)) ≡ Some broken
        → (line ≤ broken.line) × (broken.line ≤ line + (length pairs + 1))
    by_length true is = by_misfit (first_misfit c.nodes c.declared pairs (line + 1)) (misfit_near c.nodes c.declared pairs (line + 1)) is
    by_length false is = at_first is
fault_near l c UnsatCases line broken e = by_limit (nat_lt l.work (work c.nodes c.in_force)) e
  where
    at_line : (rule : ℕ) → Some (breaks rule line) ≡ Some broken → (line ≤ broken.line) × (broken.line ≤ line + 1)
    at_line rule is = let same = ap (λ b. b.line) (same_Some _ broken is) in (omega arith, omega arith)

    by_model : (b : Bool) → cond b (Some (breaks 10 line)) None ≡ Some broken → (line ≤ broken.line) × (broken.line ≤ line + 1)
    by_model true is = at_line 10 is
    by_model false is = absurd (none-some broken is)

    by_limit : (b : Bool) → cond b (Some (breaks 11 line)) (cond (has_model_below c.nodes c.in_force (span c.nodes c.in_force)) (Some (breaks 10 line)) None) ≡ Some broken → (line ≤ broken.line) × (broken.line ≤ line + 1)
    by_limit true is = at_line 11 is
    by_limit false is = by_model (has_model_below c.nodes c.in_force (span c.nodes c.in_force)) is
fault_near l c (UnsatSteps lines) line broken e = let k = lines_near l c [] (line + 1) 0 lines broken e in (omega (arith, k.0), omega (arith, k.1))
fault_near l c (Unknown cause) line broken e = absurd (none-some broken e)
