-- What a front of a certificate that is not enough is to the judgement.
use Rattle.std.specs.Prelude.{Bool, ◌≡◌, ◌↔◌, ℕ, List}
use Rattle.ffc_rules.specs.Judging.{Judgement, Accepted, Refused, Format, Rule, judge}
use Rattle.ffc_verify.specs.Status.{IsNotEnough}

-- accepted, or refused only because the text ends too early
abbrev pub MayGoOn : Judgement → Type 0
MayGoOn (Accepted counts) = Unit {0}
MayGoOn (Refused entry at_line (Format code)) = code ≡ 4
MayGoOn (Refused entry at_line (Rule rule)) = ⊥

-- A front is not enough exactly where, as a whole certificate, it would be judged so.
abbrev pub NotEnoughGoesOn : Type 0
NotEnoughGoesOn = (bits : Bool) (script front : List ℕ) → IsNotEnough bits script front ↔ MayGoOn (judge bits script front)
