-- Scripts that the definitions of answers are tried on, with entries of their checks.
use Rattle.std.specs.Prelude.{◌≡◌, ℕ, List, [], ◌∷◌, ◌++◌, codes, Some, None}
use Rattle.ffc_cert.specs.declared.entries.Entry.{Entry}
use Rattle.ffc_cert.specs.declared.entries.Entry.TheVariants.{Sat, UnsatCases, UnsatSteps, Unknown}
use Rattle.ffc_cert.specs.declared.entries.Cause.TheVariants.{Degree, Steps}
use Rattle.ffc_cert.specs.declared.entries.CertLine.TheVariants.{Assume, Scheme, Hinted}
use Rattle.ffc_smt.specs.Scripts.{reads}
use Rattle.ffc_answer.specs.Answers.{run_answers}

-- the lines of answers
abbrev pub Prints : List ℕ → List Entry → List ℕ → Type 0
Prints script entries answers = run_answers None (reads script) entries ≡ answers

abbrev pub with_bools : List ℕ → List ℕ
with_bools text = codes "(set-logic QF_FF)(declare-const b Bool)(declare-const c Bool)" ++ text

pub record AreAnswers : Type 0 where
  pub commands : Prints (codes "(set-option :print-success true)\n(set-option :verbosity 1)\n(set-logic QF_FF)\n(echo \"a\"\"b\")\n(get-info :name)\n(get-model)\n(declare-const |a b| Bool)\n(assert |a b|)\n(check-sat)\n(get-model)\n(exit)\n)\n") (Sat ((0, 1) ∷ []) ∷ [])
      (codes "success\nunsupported\nsuccess\n\"a\"\"b\"\n(:name \"ffsolve\")\n(error \"no model\")\nsuccess\nsuccess\nsat\n(\n(define-fun |a b| () Bool true)\n)\n")
  pub value : Prints (codes "(set-logic QF_FF)(declare-const x (_ FiniteField 5))(check-sat)(get-value ((ff.add x x)))") (Sat ((0, 4) ∷ []) ∷ []) (codes "sat\n(((ff.add x x) (as ff3 (_ FiniteField 5))))\n")
  pub model_ends : Prints (with_bools (codes "(check-sat)(get-value (b ( or c  b )))(set-info :x)(get-value (c))(assert true)(get-value (b))(check-sat)(get-value (b))")) (Sat ((0, 0) ∷ (1, 1) ∷ []) ∷ UnsatCases ∷ [])
      (codes "sat\n((b false) ((or c b) true))\n((c true))\n(error \"no model\")\nunsat\n(error \"no model\")\n")
  -- a core has names, and assumptions where it is that of a check under assumptions
  pub core : Prints (with_bools (codes "(assert (! (not b) :named |n 1|))(assert c)(assert (! (not c) :named n2))(check-sat-assuming (b (not c)))(get-unsat-core)(get-unsat-assumptions)(check-sat)(get-unsat-assumptions)(get-unsat-core)(push)(get-unsat-core)"))
      (UnsatSteps (Assume 4 ∷ Assume 0 ∷ Assume 3 ∷ Scheme 2 0 0 ∷ Hinted [] (0 ∷ 1 ∷ 2 ∷ 3 ∷ []) ∷ []) ∷ UnsatCases ∷ [])
      (codes "unsat\n(|n 1|)\n(b (not c))\nunsat\n(error \"no assumptions\")\n(|n 1| n2)\n(error \"no core\")\n")
  -- a reason stays where a model ends, but not after `reset`
  pub reason : Prints (with_bools (codes "(get-info :reason-unknown)(check-sat)(assert b)(get-info :reason-unknown)(reset)(get-info :reason-unknown)")) (Unknown Degree ∷ []) (codes "(error \"no reason\")\nunknown\n(:reason-unknown degree)\n(error \"no reason\")\n")
  -- all units that were spent
  pub budget : Prints (codes "(set-logic QF_FF)(check-sat)(get-info :reason-unknown)") (Unknown (Steps 1 2 3 2) ∷ []) (codes "unknown\n(:reason-unknown (steps 8))\n")
  -- a fault is answered where each check before it has an entry
  pub ended : Prints (with_bools (codes "(check-sat)(check-sat)(assert x)")) (UnsatCases ∷ []) (codes "unsat\n")
  pub fault : Prints (with_bools (codes "(check-sat)\n(assert x)")) (UnsatCases ∷ []) (codes "unsat\n(error \"2:9 8\")\n")
  pub generated : run_answers (Some 8) (reads (with_bools (codes "(check-sat)(check-sat)(push)(check-sat)"))) (Sat [] ∷ UnsatCases ∷ Sat [] ∷ []) ≡ codes "sat\nunsat\nsat\nmade 8 sat 2 unsat 1 unknown 0\n"
