use Rattle.std.proofs.Common.{[], false, ap, ◌∙◌}
use Rattle.ffc_lex.specs.Lexing.{extended}
use Rattle.ffc_script.specs.Progress.{Progress}
use Rattle.ffc_verify.proofs.WalkLemmas.{fed_whole}
use Rattle.ffc_verify.proofs.script.script_reader.Goals as goal

pub returns-in-Ok-clause-fed : goal.returns-in-Ok-clause-fed
returns-in-Ok-clause-fed c =
    let made = c.in_ok-reader.ensures in
    let script = c.args.script.now in
    c.in-Ok.ensures.ok ∙ ap (λ (p : Progress). record p { text = extended p.text script }) made
    ∙ ap (λ t. record { text = t; forms = []; over = false }) (fed_whole script c.requires)
