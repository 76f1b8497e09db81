-- The residues that are tried, one after another, to separate two roots.
use Rattle.std.proofs.Common.{ℕ, ◌<◌, inl, inr, arith, mod-lt}
use Rattle.std.proofs.lemmas.Bool.{cases_lt}
use Rattle.ffc_field.specs.Modular.{neg_mod}
use Rattle.ffc_field.proofs.ModularLaws.{add_mod-neg}
use Rattle.ffc_uni.specs.Univariate.{Coefficients}
use Rattle.ffc_roots.specs.Separation.{AreSeparated, SeparatesNone}
use Rattle.ffc_roots.proofs.FieldPolynomial.{TwoRoots}

-- where those below n separate nothing, there is one that does between n and the bound
pub one_is_left : (p n bound : ℕ) (f : Coefficients) → TwoRoots p f → ((c : ℕ) → c < n → SeparatesNone p f c) → AreSeparated p f bound → n < bound
one_is_left p n bound f two tried separated =
    let found = separated two.first two.second (two.first_below, two.first_root) (two.second_below, two.second_root) two.apart in
    elim (cases_lt n bound) [
      | inl less ↦ less
      | inr all ↦ absurd (tried found.0 (let low = found.1 in omega (arith, low)) two.first two.second (two.first_below, two.first_root) (two.second_below, two.second_root) two.apart found.2)
    ]

-- the negation of a root separates it from each other one
pub not_all_fail : (p : ℕ) (f : Coefficients) → TwoRoots p f → ((c : ℕ) → c < p → SeparatesNone p f c) → ⊥
not_all_fail p f two tried =
    let s = two.first in
    let low = two.first_below in
    tried (neg_mod p s) (mod-lt _ (omega (arith, low))) s two.second (two.first_below, two.first_root) (two.second_below, two.second_root) two.apart (inl (add_mod-neg p s (omega (arith, low))))
