-- A polynomial taken apart: two factors of it, both of lower degree, and its roots so far beside what is still to be taken apart.
use Rattle.std.specs.Prelude.{ℕ, suc, ◌+◌, ◌-◌, ◌*◌, ◌<◌, ◌≤◌, max, List, [], ◌∷◌, length, sum_by}
use Rattle.ffc_uni.specs.Univariate.{Coefficients, SameUnivariate, multiple, times, product_of_roots}
use Rattle.ffc_roots.specs.declared.split.Parts.{Parts}

pub record IsParted {F : Type 0} (p : ℕ) (f : Coefficients) (parts : Parts F) : Type 0 where
  pub some : 2 ≤ length parts.first
  pub fewer : length parts.first < length f
  pub rest : length parts.first + length parts.second ≤ length f + 1
  pub product : SameUnivariate p f (times parts.first parts.second)

-- how many polynomials are taken apart at most, from one with so many coefficients on
abbrev pub weight : ℕ → ℕ
weight n = max 1 (2 * n - 3)

abbrev pub weight_of : List Coefficients → ℕ
weight_of fs = sum_by (λ f. weight (length f)) fs

-- how many polynomials with two roots or more are among these at most
abbrev pub splits_of : ℕ → ℕ
splits_of n = n - 2

abbrev pub splits_in : List Coefficients → ℕ
splits_in fs = sum_by (λ f. splits_of (length f)) fs

-- the product
abbrev pub together : List Coefficients → Coefficients
together [] = 1 ∷ []
together (f ∷ fs) = times f (together fs)

-- residues that increase, the first at least m
abbrev pub AreRising : ℕ → ℕ → List ℕ → Type 0
AreRising p m [] = Unit {0}
AreRising p m (x ∷ xs) = (m ≤ x) × (x < p) × AreRising p (suc x) xs

-- f is a multiple of the product of the X - root
abbrev pub HasRoots : ℕ → Coefficients → List ℕ → Type 0
HasRoots p f roots = (c : ℕ) × SameUnivariate p f (multiple c (product_of_roots p roots))

-- the product of the roots and of what is still to be taken apart
abbrev pub joined : ℕ → List ℕ → List Coefficients → Coefficients
joined p roots pending = times (product_of_roots p roots) (together pending)

-- f, the roots and what was pending are, but for a constant, the roots and what is pending now
abbrev pub IsTakenApart : ℕ → Coefficients → List ℕ → List Coefficients → List ℕ → List Coefficients → Type 0
IsTakenApart p f roots pending roots_after pending_after =
    (c : ℕ) × SameUnivariate p (times f (joined p roots pending)) (multiple c (joined p roots_after pending_after))
