use Rattle.std.proofs.lemmas.List.Elements.{All-head}
use Rattle.ffc_smt.specs.Faults.{Fault}
use Rattle.std.proofs.Common.{All, ◌∷◌}
use Rattle.ffc_smt.specs.FaultLaws.{IsFaultBefore}
use Rattle.ffc_smt.proofs.FaultLemmas.{first_among, first_is_first, first_of_left, first_of_right}
use Rattle.ffc_smt.proofs.reading_laws.first_fault_is_leftmost.Goals as goal

pub returns : goal.returns
returns c = record {
  among = λ f fs. first_among f fs;
  first = λ f fs. first_is_first f fs;
  left = λ f fs gs h. first_of_left f fs gs h;
  right = λ f g fs gs h. first_of_right f g fs gs (All-head (λ (x : Fault). All (IsFaultBefore x) (g ∷ gs)) f fs h);
}
