use Rattle.std.proofs.Common.{◌≡◌, [], ◌∷◌, ◌++◌, map, sym, ap, ◌∙◌, subst}
use Rattle.std.proofs.lemmas.List.Elements.{recursion_from_All}
use Rattle.ffc_cert.specs.Ranges.{IsLine}
use Rattle.ffc_refutation.specs.Forcing.{line_of}
use Rattle.ffc_refutation.specs.Given.{AreReadable, AreRight}
use Rattle.ffc_refutation.specs.Written.{conflict_lines}
use Rattle.ffc_refutation.proofs.Readable.{conflict_readable}
use Rattle.ffc_refutation.proofs.Refuting.{conflict_right}
use Rattle.ffc_refutation.proofs.refutation.by_conflict.Goals as goal
use Rattle.ffc_refutation.proofs.refutation.by_conflict.Goals.{After-from_vec}

written : (c : After-from_vec) → c.from_vec.result ≡ conflict_lines c.args.reasons.now
written c =
    c.from_vec.ensures ∙ c.in_ok-push.ensures.items ∙ ap (λ ls. ls ++ c.in_ok-empty_by.field-0 ∷ []) c.in_ok-lines.ensures.lines
    ∙ ap (λ x. map line_of c.args.reasons.now ++ x ∷ []) c.in_ok-empty_by.ensures

pub returns-clause-readable : goal.returns-clause-readable
returns-clause-readable c =
    subst AreReadable (sym (written c))
    (conflict_readable c.args.reasons.now c.requires.few (recursion_from_All (λ r. IsLine (line_of r)) c.args.reasons.now c.in_ok-lines.ensures.ranges))

pub returns-clause-right : goal.returns-clause-right
returns-clause-right c check is = subst (AreRight check) (sym (written c)) (conflict_right check c.args.reasons.now is)
