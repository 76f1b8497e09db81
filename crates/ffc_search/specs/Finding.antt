-- What a search finds: a common zero of polynomials, or a tree that refutes that there is one.
use Rattle.std.specs.Prelude.{◌≡◌, ℕ, ◌||◌, ◌==◌, not, Bool, true, false, List, [], ◌∷◌, length, All, if◌then◌else◌}
use Rattle.ffc_cert.specs.declared.entries.CertLine.{CertLine}
use Rattle.ffc_ring.specs.Polynomial.{Terms, poly_value}
use Rattle.ffc_line.specs.declared.line.Line.{Line}
use Rattle.ffc_line.specs.Lines.{Parts}
use Rattle.ffc_search.specs.declared.answers.Found.{Found}
use Rattle.ffc_search.specs.declared.answers.Found.TheVariants.{Values, Closed}

-- the point that gives each variable its value, and every other variable 0; of a variable that is listed twice the first
-- value counts
abbrev pub point_at : List ℕ → List ℕ → ℕ → ℕ
point_at [] values x = 0
point_at (v ∷ vars) [] x = 0
point_at (v ∷ vars) (a ∷ values) x = if x == v then a else point_at vars values x

-- one value for each variable, and at their point each polynomial is 0
pub record IsCommonZero (p : ℕ) (gens : List Terms) (vars values : List ℕ) : Type 0 where
  pub each : length values ≡ length vars
  pub zero : All (λ g. poly_value p (point_at vars values) g ≡ 0) gens

-- what holds of values that are found
abbrev pub OnValues : {F : Type 0} → Found F → (List ℕ → Type 0) → Type 0
OnValues (Values values) P = P values
OnValues (Closed tree sums) P = Unit {0}

-- what holds of a tree that is found
abbrev pub OnClosed : {F : Type 0} → Found F → (List CertLine → Type 0) → Type 0
OnClosed (Values values) P = Unit {0}
OnClosed (Closed tree sums) P = P tree.items

-- whether a line has no parts
abbrev pub is_generator : Parts → Bool
is_generator [] = true
is_generator (t ∷ parts) = false

-- whether a line has parts, or its polynomial is 0 at a point
abbrev pub is_zero_line : {F O : Type 0} → ℕ → (ℕ → ℕ) → Line F O → Bool
is_zero_line p point l = not (is_generator l.parts.items) || (poly_value p point l.poly == 0)
