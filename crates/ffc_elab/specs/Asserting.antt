-- What reading an assertion answers.
use Rattle.std.specs.Prelude.{◌≡◌, List, [], option_map, Result, Ok, Err}
use Rattle.ffc_term.specs.declared.node.Node.{Node}
use Rattle.ffc_smt.specs.Faults.{Read, Sound}
use Rattle.ffc_smt.specs.Terms as smt
use Rattle.ffc_smt.specs.Terms.{Term, weight}
use Rattle.ffc_words.specs.declared.faults.TakeStop.{TakeStop}
use Rattle.ffc_words.specs.declared.faults.TakeStop.TheVariants as stop
use Rattle.ffc_words.specs.Outcomes.{outcome}
use Rattle.ffc_words.specs.Words.{fault_of}
use Rattle.ffc_terms.specs.declared.scope.Symbols.{Symbols}
use Rattle.ffc_terms.specs.Codes.{IsCode, capped_weight}
use Rattle.ffc_elab.specs.declared.asserting.Assertion.{Assertion}

-- the term with what makes its node, and its name
pub record IsAssertion (nodes : List Node) (symbols : Symbols) (read : Read smt.Command) (a : Assertion) : Type 0 where
  pub term : Term
  pub sound : read ≡ Sound (smt.Assert (option_map (λ b. b.now) a.name) term)
  pub code : IsCode nodes symbols.terms [] term a.term.code.items
  pub weight_is : a.term.weight ≡ capped_weight (weight term)

-- the assertion, or the first fault
abbrev pub ReadsAssertion : List Node → Symbols → Read smt.Command → Result Assertion TakeStop → Type 0
ReadsAssertion nodes symbols read (Ok a) = IsAssertion nodes symbols read a
ReadsAssertion nodes symbols read (Err (stop.Fault f)) = outcome read ≡ Err (fault_of f)
ReadsAssertion nodes symbols read (Err stop.Memory) = Unit {0}
