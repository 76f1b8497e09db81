-- How the exponents of a variable that two monomials share are merged.
use Rattle.std.specs.Prelude.{ℕ, ◌+◌, max}
use Rattle.ffc_mono.specs.declared.powers.Joining.{Joining}
use Rattle.ffc_mono.specs.declared.powers.Joining.TheVariants.{Sum, Maximum}

abbrev pub joining_of : Joining → ℕ → ℕ → ℕ
joining_of Sum first second = first + second
joining_of Maximum first second = max first second
