-- Scripts and certificates that the definitions are tried on, and what these say of them.
use Rattle.std.specs.Prelude.{◌≡◌, ℕ, true, false, List, [], ◌∷◌, ◌++◌, map, take, drop, flat_map, codes, Some, None}
use Rattle.ffc_cert.specs.declared.entries.Entry.{Entry}
use Rattle.ffc_cert.specs.declared.entries.Entry.TheVariants.{Sat, UnsatCases, UnsatSteps}
use Rattle.ffc_cert.specs.declared.entries.Cause.TheVariants as causes
use Rattle.ffc_cert.specs.declared.entries.CertLine.TheVariants.{Assume, Scheme, Hinted, Lemma, Combine, Close}
use Rattle.ffc_term.specs.declared.node.Node.{Node}
use Rattle.ffc_term.specs.declared.node.Node.TheVariants as node
use Rattle.ffc_smt.specs.Scripts.{reads}
use Rattle.ffc_smt.specs.TableChecks.{names_in_force, table_checks}
use Rattle.ffc_rules.specs.Schemes.{scheme_clause, all_schemes}
use Rattle.ffc_rules.specs.Cones.{cone}
use Rattle.ffc_rules.specs.Entries.{NodeCheck, Limits, limits, entry_fault_within}
use Rattle.ffc_rules.specs.Judging.{Judgement, Accepted, Refused, Format, Rule, judge_checks, judge, checks_in}
use Rattle.ffc_rules.specs.Causes.{is_cause_within, first_count}
use Rattle.ffc_rules.specs.Cores.{core, names_at}

-- lines as a text
abbrev pub text : List (List ℕ) → List ℕ
text lines = flat_map (λ line. line ++ 10 ∷ []) lines

abbrev pub accepted : ℕ → ℕ → ℕ → Judgement
accepted sat unsat unknown = Accepted (record { sat = sat; unsat = unsat; unknown = unknown })

-- the judgement of a certificate for one check
abbrev pub Judges : NodeCheck → List (List ℕ) → Judgement → Type 0
Judges c lines judgement = judge_checks false limits (c ∷ []) (text lines) ≡ judgement

-- the checks of a script
abbrev pub Checks : List ℕ → List NodeCheck → Type 0
Checks script checks = checks_in script ≡ checks

-- the fault of an entry that begins at line 2
abbrev pub Breaks : Limits → NodeCheck → Entry → ℕ → ℕ → Type 0
Breaks l c entry line rule = entry_fault_within l c entry 2 ≡ Some (record { line = line; rule = rule })

abbrev pub Keeps : Limits → NodeCheck → Entry → Type 0
Keeps l c entry = entry_fault_within l c entry 2 ≡ None

-- Checks

abbrev pub over : List ℕ → List ℕ → List ℕ
over order rest = codes "(set-logic QF_FF)\n(define-sort F () (_ FiniteField " ++ order ++ codes "))\n" ++ rest

-- x * y = 1 and x = 0
abbrev pub product_script : List ℕ
product_script = over (codes "18446744069414584321") (codes "(declare-const x F)(declare-const y F)(assert (= (ff.mul x y) (as ff1 F)))(assert (= x (as ff0 F)))(check-sat)")

abbrev pub goldilocks : ℕ
goldilocks = 18446744069414584321

abbrev pub product_check : NodeCheck
product_check = record {
  nodes = node.FieldConst 0 goldilocks ∷ node.FieldConst 1 goldilocks ∷ node.Mul (0 ∷ 1 ∷ []) ∷ node.Num 1 goldilocks ∷ node.Eq 2 3 ∷ node.Num 0 goldilocks ∷ node.Eq 0 5 ∷ [];
  declared = 0 ∷ 1 ∷ [];
  in_force = 4 ∷ 6 ∷ [];
  first_order = goldilocks;
}

-- x * x = a number, over an order
abbrev pub square_check : ℕ → ℕ → NodeCheck
square_check number order = record {
  nodes = node.FieldConst 0 order ∷ node.Mul (0 ∷ 0 ∷ []) ∷ node.Num number order ∷ node.Eq 1 2 ∷ [];
  declared = 0 ∷ [];
  in_force = 3 ∷ [];
  first_order = order;
}

-- x = a number, over an order
abbrev pub value_check : ℕ → ℕ → NodeCheck
value_check number order = record {
  nodes = node.FieldConst 0 order ∷ node.Num number order ∷ node.Eq 0 1 ∷ [];
  declared = 0 ∷ [];
  in_force = 2 ∷ [];
  first_order = order;
}

-- b and not b
abbrev pub clause_script : List ℕ
clause_script = codes "(set-logic QF_FF)(declare-const b Bool)(assert b)(assert (not b))(check-sat)"

abbrev pub clause_check : NodeCheck
clause_check = record { nodes = node.BoolConst 0 ∷ node.Not 0 ∷ []; declared = 0 ∷ []; in_force = 0 ∷ 1 ∷ []; first_order = 2 }

-- x = 0 and x = 1
abbrev pub two_values_check : NodeCheck
two_values_check = record {
  nodes = node.FieldConst 0 5 ∷ node.Num 0 5 ∷ node.Eq 0 1 ∷ node.Num 1 5 ∷ node.Eq 0 3 ∷ [];
  declared = 0 ∷ [];
  in_force = 2 ∷ 4 ∷ [];
  first_order = 5;
}

-- x = 1, x = 2 and x * x = 4, each with a name
abbrev pub named_script : List ℕ
named_script =
    over (codes "5") (codes "(declare-const x F)(assert (! (= x (as ff1 F)) :named a1))(assert (! (= x (as ff2 F)) :named a2))(assert (! (= (ff.mul x x) (as ff4 F)) :named a3))(check-sat)")

abbrev pub named_check : NodeCheck
named_check = record {
  nodes = node.FieldConst 0 5 ∷ node.Num 1 5 ∷ node.Eq 0 1 ∷ node.Num 2 5 ∷ node.Eq 0 3 ∷ node.Mul (0 ∷ 0 ∷ []) ∷ node.Num 4 5 ∷ node.Eq 5 6 ∷ [];
  declared = 0 ∷ [];
  in_force = 2 ∷ 4 ∷ 7 ∷ [];
  first_order = 5;
}

-- b implies c; b and not c are assumed
abbrev pub assuming_script : List ℕ
assuming_script = codes "(set-logic QF_FF)(declare-const b Bool)(declare-const c Bool)(assert (=> b c))(check-sat-assuming (b (not c)))(check-sat)"

abbrev pub implication_nodes : List Node
implication_nodes = node.BoolConst 0 ∷ node.BoolConst 1 ∷ node.Not 0 ∷ node.Or (2 ∷ 1 ∷ []) ∷ node.Not 1 ∷ []

-- the names at some numbers, of each check of a script
abbrev pub names_of : List ℕ → List (List (List ℕ))
names_of numbers = map (λ c. names_at (names_in_force c) numbers) (table_checks (reads named_script).steps)

-- What each script checks

pub record AreChecks : Type 0 where
  pub product : Checks product_script (product_check ∷ [])
  pub square : Checks (over (codes "5") (codes "(declare-const x F)(assert (= (ff.mul x x) (as ff3 F)))(check-sat)")) (square_check 3 5 ∷ [])
  pub clause : Checks clause_script (clause_check ∷ [])
  pub named : Checks named_script (named_check ∷ [])
  pub assuming : Checks assuming_script (
      record { nodes = implication_nodes; declared = 0 ∷ 1 ∷ []; in_force = 3 ∷ 0 ∷ 4 ∷ []; first_order = 2 }
      ∷ record { nodes = implication_nodes; declared = 0 ∷ 1 ∷ []; in_force = 3 ∷ []; first_order = 2 }
      ∷ [])
  pub names : names_of (0 ∷ 1 ∷ []) ≡ (codes "a1" ∷ codes "a2" ∷ []) ∷ []
  pub all_names : names_of (0 ∷ 1 ∷ 2 ∷ []) ≡ (codes "a1" ∷ codes "a2" ∷ codes "a3" ∷ []) ∷ []
  -- a constant that is out of scope is not declared, and nodes that a later command makes are not there
  pub levels : Checks (codes "(set-logic QF_FF)(push)(declare-const b Bool)(pop)(declare-const c Bool)(assert c)(check-sat)(assert true)") (
      record { nodes = node.BoolConst 0 ∷ node.BoolConst 1 ∷ []; declared = 1 ∷ []; in_force = 1 ∷ []; first_order = 2 } ∷ [])

-- A product with zero, and its certificate altered

abbrev pub product_certificate : List ℕ → List ℕ → List ℕ → List (List ℕ)
product_certificate fourth coefficient last =
    codes "ffcert 1" ∷ codes "unsat 4" ∷ codes "a 0" ∷ fourth ∷ codes "f 2 -4 -6" ∷ (codes "c 2 0 1 " ++ coefficient ++ codes " 0 1 1 1 1 1 1") ∷ codes "z" ∷ last ∷ []

abbrev pub minus_one : List ℕ
minus_one = codes "18446744069414584320"

abbrev pub hints : List ℕ
hints = codes "r 0 3 0 1 2"

pub record AreProducts : Type 0 where
  pub whole : Judges product_check (product_certificate (codes "a 1") minus_one hints) (accepted 0 1 0)
  pub empty : judge_checks false limits (product_check ∷ []) [] ≡ Refused 0 1 (Format 4)
  pub cut_1 : Judges product_check (codes "ffcert 1" ∷ []) (Refused 1 2 (Format 4))
  pub cut_2 : Judges product_check (take 2 (product_certificate (codes "a 1") minus_one hints)) (Refused 1 3 (Format 4))
  pub cut_3 : Judges product_check (take 3 (product_certificate (codes "a 1") minus_one hints)) (Refused 1 4 (Format 4))
  pub cut_4 : Judges product_check (take 4 (product_certificate (codes "a 1") minus_one hints)) (Refused 1 5 (Format 4))
  pub cut_5 : Judges product_check (take 5 (product_certificate (codes "a 1") minus_one hints)) (Refused 1 6 (Format 4))
  pub cut_6 : Judges product_check (take 6 (product_certificate (codes "a 1") minus_one hints)) (Refused 1 7 (Format 4))
  pub cut_7 : Judges product_check (take 7 (product_certificate (codes "a 1") minus_one hints)) (Refused 1 8 (Format 4))
  pub twice : Judges product_check (product_certificate (codes "a 1") minus_one hints ++ drop 1 (product_certificate (codes "a 1") minus_one hints)) (Refused 2 9 (Format 2))
  pub not_canonical : Judges product_check (product_certificate (codes "a 01") minus_one hints) (Refused 1 4 (Format 3))
  pub not_closed : Judges product_check (product_certificate (codes "a 1") (codes "18446744069414584319") hints) (Refused 1 7 (Rule 8))
  pub no_residue : Judges product_check (product_certificate (codes "a 1") (codes "18446744069414584321") hints) (Refused 1 6 (Rule 5))
  pub fewer_hints : Judges product_check (product_certificate (codes "a 1") minus_one (codes "r 0 2 0 1")) (Refused 1 8 (Rule 4))
  pub other_script : Judges (square_check 7 goldilocks) (product_certificate (codes "a 1") minus_one hints) (Refused 1 4 (Rule 2))

-- the same from the bytes of the script
pub record AreScripts : Type 0 where
  pub product : judge false product_script (text (product_certificate (codes "a 1") minus_one hints)) ≡ accepted 0 1 0
  pub clause : judge false clause_script (codes "ffcert 1\nunsat 4\na 0\na 1\nn 1 1 0\nr 0 3 0 1 2\n") ≡ accepted 0 1 0

-- A chain

abbrev pub chain_certificate : List ℕ → List ℕ → List ℕ → List (List ℕ)
chain_certificate header lemma last =
    header ∷ codes "unsat 3" ∷ codes "a 0" ∷ lemma ∷ codes "p 0 0 3" ∷ codes "u 1 1 1 3" ∷ codes "u 0 1 4" ∷ last ∷ codes "c 2 0 1 1 0 1 1 3 1 0 1" ∷ codes "z" ∷ codes "r 0 2 0 1" ∷ []

pub record AreChains : Type 0 where
  pub whole : Judges (square_check 3 5) (chain_certificate (codes "ffcert 1") (codes "f 1 -3") (codes "u 0 2 0 4")) (accepted 0 1 0)
  pub other_remainder : Judges (square_check 3 5) (chain_certificate (codes "ffcert 1") (codes "f 1 -3") (codes "u 0 2 0 3")) (Refused 1 8 (Rule 6))
  pub named_order : Judges (square_check 3 5) (chain_certificate (codes "ffcert 2") (codes "f 5 1 -3") (codes "u 0 2 0 4")) (accepted 0 1 0)
  pub other_order : Judges (square_check 3 5) (chain_certificate (codes "ffcert 2") (codes "f 3 1 -3") (codes "u 0 2 0 4")) (Refused 1 4 (Rule 12))
  pub no_order : Judges (square_check 3 5) (chain_certificate (codes "ffcert 2") (codes "f 1 -3") (codes "u 0 2 0 4")) (Refused 1 4 (Format 2))

-- Clauses alone

abbrev pub clause_certificate : List ℕ → List ℕ → List ℕ → List (List ℕ)
clause_certificate fourth fifth last = codes "ffcert 1" ∷ codes "unsat 4" ∷ codes "a 0" ∷ fourth ∷ fifth ∷ last ∷ []

pub record AreClauses : Type 0 where
  pub whole : Judges clause_check (clause_certificate (codes "a 1") (codes "n 1 1 0") hints) (accepted 0 1 0)
  pub no_assertion : Judges clause_check (clause_certificate (codes "a 2") (codes "n 1 1 0") hints) (Refused 1 4 (Rule 2))
  pub no_scheme : Judges clause_check (clause_certificate (codes "a 1") (codes "n 1 2 0") hints) (Refused 1 5 (Rule 3))
  pub no_index : Judges clause_check (clause_certificate (codes "a 1") (codes "n 1 1 1") hints) (Refused 1 5 (Rule 3))
  pub no_node : Judges clause_check (clause_certificate (codes "a 1") (codes "n 2 0 0") hints) (Refused 1 5 (Rule 12))
  pub fewer_hints : Judges clause_check (clause_certificate (codes "a 1") (codes "n 1 1 0") (codes "r 0 2 0 1")) (Refused 1 6 (Rule 4))
  pub no_hint : Judges clause_check (clause_certificate (codes "a 1") (codes "n 1 1 0") (codes "r 0 0")) (Refused 1 6 (Rule 4))
  pub two_open : Judges clause_check (clause_certificate (codes "a 1") (codes "n 1 1 0") (codes "r 0 3 2 0 1")) (Refused 1 6 (Rule 4))
  -- the last hint has a literal left
  pub one_left : Judges clause_check (clause_certificate (codes "a 1") (codes "n 1 1 0") (codes "r 0 2 0 2")) (Refused 1 6 (Rule 4))
  pub own_number : Judges clause_check (clause_certificate (codes "a 1") (codes "n 1 1 0") (codes "r 0 3 0 1 3")) (Refused 1 6 (Rule 12))
  pub not_empty : Judges clause_check (clause_certificate (codes "a 1") (codes "n 1 1 0") (codes "r 1 +0 1 0")) (Refused 1 6 (Rule 9))
  -- a rule of the last line itself comes before rule 9
  pub own_before_last : Judges clause_check (clause_certificate (codes "a 1") (codes "n 1 1 0") (codes "r 1 +0 1 1")) (Refused 1 6 (Rule 4))
  pub no_clause : Judges clause_check (codes "ffcert 1" ∷ codes "unsat 0" ∷ []) (Refused 1 2 (Rule 9))

-- Splits on one line again and again

abbrev pub split_certificate : List (List ℕ) → List (List ℕ)
split_certificate line =
    codes "ffcert 1" ∷ codes "unsat 4" ∷ codes "a 0" ∷ codes "a 1" ∷ codes "f 2 -2 -4" ∷ codes "s 0 0 1 0" ∷ codes "s 0 0 1 0" ∷ codes "s 0 0 1 0" ∷ line ++ codes "z" ∷ hints ∷ []

pub record AreSplits : Type 0 where
  pub whole : Judges two_values_check (split_certificate (codes "c 2 0 1 1 0 1 1 4 0" ∷ [])) (accepted 0 1 0)
  pub not_closed : Judges two_values_check (split_certificate []) (Refused 1 9 (Rule 8))

-- Values, cases, and what claims nothing

pub record AreWhole : Type 0 where
  pub value : Judges (value_check 16 17) (codes "ffcert 1" ∷ codes "sat 1" ∷ codes "= 0 16" ∷ []) (accepted 1 0 0)
  pub other_value : Judges (value_check 16 17) (codes "ffcert 1" ∷ codes "sat 1" ∷ codes "= 0 15" ∷ []) (Refused 1 2 (Rule 1))
  pub no_residue : Judges (value_check 16 17) (codes "ffcert 1" ∷ codes "sat 1" ∷ codes "= 0 17" ∷ []) (Refused 1 3 (Rule 1))
  pub other_node : Judges (value_check 16 17) (codes "ffcert 1" ∷ codes "sat 1" ∷ codes "= 1 16" ∷ []) (Refused 1 3 (Rule 1))
  pub no_value : Judges (value_check 16 17) (codes "ffcert 1" ∷ codes "sat 0" ∷ []) (Refused 1 2 (Rule 1))
  pub truth_value : Keeps limits (record clause_check { in_force = 0 ∷ [] }) (Sat ((0, 1) ∷ []))
  pub no_truth_value : Breaks limits (record clause_check { in_force = 0 ∷ [] }) (Sat ((0, 2) ∷ [])) 3 1
  pub unknown : Judges (value_check 16 17) (codes "ffcert 1" ∷ codes "unknown memory" ∷ []) (accepted 0 0 1)
  pub cases : Judges (square_check 2 3) (codes "ffcert 1" ∷ codes "unsat e" ∷ []) (accepted 0 1 0)
  pub not_by_cases : Judges (value_check 2 3) (codes "ffcert 1" ∷ codes "unsat e" ∷ []) (Refused 1 2 (Rule 10))
  pub too_many : Judges clause_check (codes "ffcert 1" ∷ codes "sat 4294967295" ∷ []) (Refused 1 3 (Format 4))
  pub other_header : Judges clause_check (codes "ffcert 3" ∷ codes "unsat e" ∷ []) (Refused 0 1 (Format 1))

-- Two checks: the first entry at fault counts, and in it a fault of form
abbrev pub two_checks : List NodeCheck
two_checks = clause_check ∷ clause_check ∷ []

pub record AreFirst : Type 0 where
  pub rule_before_later_form : judge_checks false limits two_checks (text (codes "ffcert 2" ∷ codes "unsat 1" ∷ codes "a 0" ∷ codes "x" ∷ [])) ≡ Refused 1 3 (Rule 9)
  pub form_before_rule : judge_checks false limits two_checks (text (codes "ffcert 2" ∷ codes "unsat 2" ∷ codes "a 7" ∷ codes "x" ∷ [])) ≡ Refused 1 4 (Format 2)
  pub second : judge_checks false limits two_checks (text (codes "ffcert 2" ∷ codes "unsat e" ∷ codes "sat 0" ∷ [])) ≡ Refused 2 3 (Rule 1)
  pub too_many : judge_checks false limits two_checks (text (codes "ffcert 2" ∷ codes "unsat e" ∷ codes "unsat e" ∷ codes "unsat e" ∷ [])) ≡ Refused 3 4 (Format 2)
  pub both : judge_checks false limits two_checks (text (codes "ffcert 2" ∷ codes "unsat e" ∷ codes "unknown steps 1 2 3 4" ∷ [])) ≡ accepted 0 1 1

-- Two bits whose sum x + 2 * y is a number, and a certificate of version 3 that it is none that they have

abbrev pub bits_script : List ℕ → List ℕ
bits_script sum =
    over (codes "18446744069414584321") (codes "(declare-const x F)(declare-const y F)(assert (= (ff.mul x x) x))(assert (= (ff.mul y y) y))(assert (= (ff.add x (ff.mul (as ff2 F) y)) (as ff" ++ sum ++ codes " F)))(check-sat)")

abbrev pub bits_certificate : List ℕ → List ℕ
bits_certificate header =
    text (header ∷ codes "unsat 5" ∷ codes "a 0" ∷ codes "a 1" ∷ codes "a 2" ∷ codes "f 18446744069414584321 3 -3 -5 -10" ∷ codes "b 2 0 1 1 0 2 0 1" ∷ codes "z" ∷ codes "r 0 4 0 1 2 3" ∷ [])

pub record AreBits : Type 0 where
  pub whole : judge true (bits_script (codes "5")) (bits_certificate (codes "ffcert 3")) ≡ accepted 0 1 0
  pub not_asked : judge false (bits_script (codes "5")) (bits_certificate (codes "ffcert 3")) ≡ Refused 0 1 (Format 1)
  pub other_version : judge true (bits_script (codes "5")) (bits_certificate (codes "ffcert 2")) ≡ Refused 1 7 (Format 2)
  pub possible : judge true (bits_script (codes "3")) (bits_certificate (codes "ffcert 3")) ≡ Refused 1 7 (Rule 13)

-- Limits at the last good value and the first bad one

abbrev pub lemma_entry : ℕ → Entry
lemma_entry last = UnsatSteps (Lemma (Some 5) ((false, 2) ∷ (false, last) ∷ []) ∷ Combine ((0, (1, []) ∷ []) ∷ (1, (4, []) ∷ []) ∷ []) ∷ Close ∷ [])

pub record AreLimits : Type 0 where
  -- 3 assignments of 4 nodes
  pub work : Keeps (record limits { work = 12 }) (square_check 2 3) UnsatCases
  pub work_passed : Breaks (record limits { work = 11 }) (square_check 2 3) UnsatCases 2 11
  pub limit_before_cases : Breaks (record limits { work = 8 }) (value_check 2 3) UnsatCases 2 11
  pub degree : Breaks (record limits { degree = 1 }) two_values_check (lemma_entry 4) 5 9
  pub degree_passed : Breaks (record limits { degree = 0 }) two_values_check (lemma_entry 4) 3 11
  pub length : Breaks (record limits { length = 1 }) two_values_check (lemma_entry 4) 5 9
  pub length_passed : Breaks (record limits { length = 0 }) two_values_check (lemma_entry 4) 3 11
  pub reference_before_limit : Breaks (record limits { degree = 0 }) two_values_check (lemma_entry 3) 3 12
  pub no_node : Breaks limits two_values_check (lemma_entry 5) 3 12
  pub real : limits.work ≡ 16777216
  pub real_degree : limits.degree ≡ 255
  pub real_length : limits.length ≡ 65536

-- Schemes

abbrev pub scheme_nodes : List Node
scheme_nodes =
    node.BoolConst 0 ∷ node.BoolConst 1 ∷ node.BoolConst 2 ∷ node.FieldConst 3 5 ∷ node.FieldConst 4 5
    ∷ node.IteField 0 3 4 ∷ node.Eq 5 3 ∷ node.Eq 5 4 ∷ node.And (0 ∷ 1 ∷ 2 ∷ []) ∷ node.Or (0 ∷ 1 ∷ []) ∷ node.IteField 0 4 4 ∷ node.Eq 10 4 ∷ node.IteBool 0 1 2 ∷ []

pub record AreSchemes : Type 0 where
  pub first_branch : scheme_clause scheme_nodes 5 0 0 ≡ Some ((false, 0) ∷ (true, 6) ∷ [])
  pub second_branch : scheme_clause scheme_nodes 5 1 0 ≡ Some ((true, 0) ∷ (true, 7) ∷ [])
  pub one_branch : scheme_clause scheme_nodes 10 1 0 ≡ Some ((true, 0) ∷ (true, 11) ∷ [])
  pub third_child : scheme_clause scheme_nodes 8 0 2 ≡ Some ((false, 8) ∷ (true, 2) ∷ [])
  pub no_fourth : scheme_clause scheme_nodes 8 0 3 ≡ None
  pub all_children : scheme_clause scheme_nodes 8 1 0 ≡ Some ((true, 8) ∷ (false, 0) ∷ (false, 1) ∷ (false, 2) ∷ [])
  pub some_child : scheme_clause scheme_nodes 9 1 0 ≡ Some ((false, 9) ∷ (true, 0) ∷ (true, 1) ∷ [])
  pub listed : all_schemes scheme_nodes 9 ≡ (0, 0) ∷ (0, 1) ∷ (1, 0) ∷ []
  pub none_listed : all_schemes scheme_nodes 3 ≡ []
  pub choice : scheme_clause scheme_nodes 12 3 0 ≡ Some ((true, 12) ∷ (true, 0) ∷ (false, 2) ∷ [])
  -- the equalities of a node belong to its cone
  pub cone_of_ite : cone scheme_nodes (7 ∷ []) ≡ 0 ∷ 3 ∷ 4 ∷ 5 ∷ 6 ∷ 7 ∷ []

-- Cores

abbrev pub named_entry : Entry
named_entry =
    UnsatSteps (Assume 0 ∷ Assume 1 ∷ Assume 2 ∷ Lemma (Some 5) ((false, 2) ∷ (false, 4) ∷ []) ∷ Combine ((0, (1, []) ∷ []) ∷ (1, (4, []) ∷ []) ∷ []) ∷ Close ∷ Hinted [] (0 ∷ 1 ∷ 3 ∷ []) ∷ [])

pub record AreCores : Type 0 where
  pub keeps : Keeps limits named_check named_entry
  pub steps : core named_entry 3 ≡ 0 ∷ 1 ∷ []
  pub cases : core UnsatCases 3 ≡ 0 ∷ 1 ∷ 2 ∷ []
  -- a hint that only a clause uses which is not reached does not count
  pub later : core (UnsatSteps (Assume 0 ∷ Assume 1 ∷ Hinted [] (0 ∷ []) ∷ Hinted [] (1 ∷ []) ∷ [])) 2 ≡ 1 ∷ []
  pub through : core (UnsatSteps (Assume 1 ∷ Assume 0 ∷ Hinted [] (1 ∷ 0 ∷ []) ∷ Scheme 0 0 0 ∷ Hinted [] (2 ∷ []) ∷ [])) 2 ≡ 0 ∷ 1 ∷ []
  pub no_steps : core (UnsatSteps []) 2 ≡ []

-- Causes

pub record AreCauses : Type 0 where
  -- 17 assignments of 4 nodes, and 3 is no square
  pub small : is_cause_within limits (square_check 3 17) 17 (causes.Steps 17 0 0 0) ≡ false
  pub steps : is_cause_within limits (square_check 3 17) 16 (causes.Steps 1 2 3 10) ≡ true
  pub other_sum : is_cause_within limits (square_check 3 17) 16 (causes.Steps 1 2 3 11) ≡ false
  pub first_count_half : first_count limits (square_check 3 17) 7 ≡ 3
  pub first_count_nodes : first_count (record limits { work = 11 }) (square_check 3 17) 100 ≡ 2
  pub no_nodes : first_count limits (record clause_check { in_force = [] }) 100 ≡ 0
  -- the fourth assignment is a model of x = 3
  pub model : is_cause_within limits (value_check 3 17) 8 (causes.Steps 8 0 0 0) ≡ false
  pub no_model_yet : is_cause_within limits (value_check 3 17) 7 (causes.Steps 7 0 0 0) ≡ true
  pub degree : is_cause_within (record limits { degree = 1 }) (square_check 3 17) 7 causes.Degree ≡ true
  pub no_degree : is_cause_within (record limits { degree = 2 }) (square_check 3 17) 7 causes.Degree ≡ false
  pub small_degree : is_cause_within (record limits { degree = 1 }) (square_check 3 17) 17 causes.Degree ≡ false
  pub degree_before_terms : is_cause_within (record limits { degree = 1; length = 0 }) (square_check 3 17) 7 causes.Terms ≡ false
  pub terms : is_cause_within (record limits { length = 0 }) (square_check 3 17) 7 causes.Terms ≡ true
  pub limit_before_steps : is_cause_within (record limits { length = 0 }) (square_check 3 17) 7 (causes.Steps 7 0 0 0) ≡ false
  pub memory : is_cause_within limits (square_check 3 17) 17 causes.Memory ≡ true
