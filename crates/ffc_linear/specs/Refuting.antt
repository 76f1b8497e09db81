-- Lemmas that refute linear checks: the equations of a combination, each with its coefficient.
use Rattle.std.specs.Prelude.{◌≡◌, ℕ, ◌+◌, ◌≤◌, ◌==◌, true, if◌then◌else◌, List, [], ◌∷◌, length, All}
use Rattle.ffc_clause.specs.Clauses.{Literal, plus, minus, is_among}
use Rattle.ffc_echelon.specs.Vectors.{Coordinates}
use Rattle.ffc_refutation.specs.Combinations.{Summand}
use Rattle.ffc_refutation.specs.Forcing.{Forces}
use Rattle.ffc_refutation.specs.declared.reason.Reason.{Reason}
use Rattle.ffc_ring.specs.Monomial.{Monomial}
use Rattle.ffc_rules.specs.Entries.{NodeCheck, limits, is_equality_at, is_within}
use Rattle.ffc_smt.specs.Numbers.{is_order}
use Rattle.ffc_term.specs.Tables.{IsTable}
use Rattle.ffc_linear.specs.Affine.{AreAffineForms}

-- the negation of each equation with a coefficient other than 0
abbrev pub literals_of : List ℕ → List ℕ → List Literal
literals_of [] cs = []
literals_of (id ∷ ids) [] = []
literals_of (id ∷ ids) (c ∷ cs) = if c == 0 then literals_of ids cs else minus id ∷ literals_of ids cs

-- those coefficients, each with a monomial, as multiples of the lines from a number on
abbrev pub summands_from : ℕ → Monomial → List ℕ → List Summand
summands_from k m [] = []
summands_from k m (c ∷ cs) = if c == 0 then summands_from k m cs else (k, (c, m)) ∷ summands_from (k + 1) m cs

-- an equality of the order, within the limits
pub record IsUsable (c : NodeCheck) (p id : ℕ) : Type 0 where
  pub equality : is_equality_at c.nodes p id ≡ true
  pub within : is_within limits c.nodes id ≡ true

-- equations that reasons force, as affine forms in some constants
pub record AreForcedForms (c : NodeCheck) (p : ℕ) (reasons : List Reason) (forced : List Literal) (constants equations : List ℕ) (vectors : List Coordinates) : Type 0 where
  pub table : IsTable c.nodes
  pub order : is_order p ≡ true
  pub few : length constants ≤ 4096
  pub usable : All (IsUsable c p) equations
  pub forms : AreAffineForms p c.nodes constants equations vectors
  pub forces : Forces c [] reasons forced
  pub forced_are : All (λ id. is_among forced (plus id) ≡ true) equations
