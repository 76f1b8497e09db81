-- What an answer says of the first broken line. Out of memory says nothing.
use Rattle.std.specs.Prelude.{◌≡◌, Option, Some, None, Result, Ok, Err, MatchResult}
use Rattle.ffc_check.specs.declared.stop.CheckStop.{CheckStop}
use Rattle.ffc_check.specs.declared.stop.CheckStop.TheVariants as stops
use Rattle.ffc_rules.specs.Entries.{Broken, breaks}

-- this is broken
abbrev pub Names : CheckStop → Option Broken → Type 0
Names (stops.Broken b) fault = fault ≡ Some (breaks b.rule b.line)
Names stops.Memory fault = Unit {0}

-- nothing is broken, or what is
abbrev pub Answers : {A : Type 0} → Result A CheckStop → Option Broken → Type 0
Answers r fault = MatchResult r (λ _. fault ≡ None) (λ stop. Names stop fault)

-- a rule is broken
abbrev pub Refuses : {B : Type 0} → CheckStop → Result B Broken → Type 0
Refuses (stops.Broken b) given = given ≡ Err (breaks b.rule b.line)
Refuses stops.Memory given = Unit {0}

-- a rule gives something, of which P holds, or is broken
abbrev pub Gives : {A B : Type 0} → Result A CheckStop → Result B Broken → (A → B → Type 0) → Type 0
Gives {A} {B} r given P = MatchResult r (λ x. (y : B) × (given ≡ Ok y) × P x y) (λ stop. Refuses stop given)
