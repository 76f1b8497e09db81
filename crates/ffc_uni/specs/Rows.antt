-- What the steps on rows of coefficients speak of.
use Rattle.std.specs.Prelude.{ℕ, zero, suc, [], ◌∷◌}
use Rattle.ffc_uni.specs.Univariate.{Coefficients}

-- the last coefficient
abbrev pub leading : Coefficients → ℕ
leading [] = 0
leading (c ∷ []) = c
leading (c ∷ d ∷ cs) = leading (d ∷ cs)

-- X^n times a
abbrev pub shifted : ℕ → Coefficients → Coefficients
shifted zero a = a
shifted (suc n) a = 0 ∷ shifted n a
