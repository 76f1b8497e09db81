use Rattle.std.proofs.Common.{◌≡◌, option_map, ap, ◌∙◌}
use Rattle.ffc_smt.specs.Meaning.{found}
use Rattle.ffc_parts.specs.Operators.{operator_of}
use Rattle.ffc_parts.proofs.TableLemmas.{found_of_map, coded_operators}
use Rattle.ffc_parts.proofs.operators.operator_named.Goals as goal

pub returns : goal.returns
returns c =
    let is : c.found_in.result ≡ found coded_operators c.args.name.now = c.found_in.ensures in
    ap (option_map operator_of) is ∙ found_of_map operator_of coded_operators c.args.name.now
