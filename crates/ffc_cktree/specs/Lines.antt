-- What a line of a tree gives, or the rule that it breaks.
use Rattle.std.specs.Prelude.{◌≡◌, ℕ, ◌≤◌, Bool, not, nat_lt, List, All, Result, Ok}
use Rattle.std.specs.List.{list_all}
use Rattle.ffc_ring.specs.Monomial.{Monomial, degree}
use Rattle.ffc_ring.specs.Polynomial.{Terms}
use Rattle.ffc_trees.specs.Normal.{IsNormal, degree_of}
use Rattle.ffc_trees.specs.TreeLines.{Multiple}
use Rattle.ffc_trees.specs.Same.{IsSameLine}

-- normal lists of degrees within the limit on sums
abbrev pub AreLines : ℕ → List Terms → Type 0
AreLines p lines = All (λ f. IsNormal p f × (degree_of f ≤ 1024)) lines

-- a rule kept: the polynomial of the line that it gives
pub record Gives (p : ℕ) (rule : Result Terms ℕ) (f : Terms) : Type 0 where
  pub line : Terms
  pub kept : rule ≡ Ok line
  pub same : IsSameLine p f line

-- written terms within the limit on degrees
abbrev pub is_low : Monomial → Bool
is_low m = not (nat_lt 1024 (degree m))

abbrev pub are_low : Terms → Bool
are_low ts = list_all (λ t. is_low t.1) ts

abbrev pub all_low : List Multiple → Bool
all_low ms = list_all (λ m. are_low m.1) ms
