-- A line as an integer, by sums: what its terms add above 0 and below 0.
use Rattle.std.specs.Prelude.{◌≡◌, ℕ, ◌+◌, ◌^◌, ◌-◌, ◌≤◌, ◌%◌, Bool, not, ◌||◌, ◌==◌, nat_lt, List}
use Rattle.ffc_ring.specs.Polynomial.{Terms}
use Rattle.ffc_trees.specs.BitLines.{sum_above, sum_below, terms_besides, divisor_of, distance}
use Rattle.ffc_cktree.specs.declared.extent.Extent.{Extent}
use Rattle.ffc_cktree.specs.declared.extent.Left.{Left}

-- the sums of these terms
pub record IsExtent (p : ℕ) (e : Extent) (ts : Terms) : Type 0 where
  pub above : e.above ≡ sum_above p ts
  pub below : e.below ≡ sum_below p ts

-- two such sums fit 128 bits together
pub record IsSmall (e : Extent) : Type 0 where
  pub above : e.above ≤ 2 ^ 127 - 1
  pub below : e.below ≤ 2 ^ 127 - 1

-- what is left where these variables and the constant are taken
pub record IsLeft (p : ℕ) (line : Terms) (chosen : List ℕ) (left : Left) : Type 0 where
  pub extent : IsExtent p left.extent (terms_besides chosen line)
  pub divisor : left.divisor ≡ divisor_of p (terms_besides chosen line)

-- what is taken and any of what is left have no sum 0
abbrev pub is_apart : Extent → Left → Bool
is_apart taken left =
    nat_lt (taken.below + left.extent.below) taken.above
    || nat_lt (taken.above + left.extent.above) taken.below
    || not (distance taken.above taken.below % left.divisor == 0)
