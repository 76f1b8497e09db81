use Rattle.std.proofs.Common.{◌≡◌}
use Rattle.ffc_smt.specs.Meaning.{found}
use Rattle.ffc_parts.specs.Heads.{heads}
use Rattle.ffc_parts.proofs.HeadLemmas.{are_named, none_known, some_named}
use Rattle.ffc_parts.proofs.heads.head_named.Goals as goal

pub returns-clause-known : goal.returns-clause-known
returns-clause-known c =
    let is : c.found_in.result ≡ found heads c.args.name.now = c.found_in.ensures in
    some_named c.found_in.result heads c.args.name.now are_named is

pub returns-clause-unknown : goal.returns-clause-unknown
returns-clause-unknown c =
    let is : c.found_in.result ≡ found heads c.args.name.now = c.found_in.ensures in
    λ l s. none_known c.found_in.result c.args.name.now l s is
