use Rattle.std.proofs.Common.{List, [], ◌∷◌, ◌++◌, sym, ap₂, ◌∙◌}
use Rattle.std.proofs.lemmas.List.{map_more}
use Rattle.std.proofs.lemmas.List.Elements.{All-more}
use Rattle.ffc_cert.specs.declared.entries.CertLine.{CertLine}
use Rattle.ffc_cert.specs.Ranges.{IsLine}
use Rattle.ffc_refutation.specs.Forcing.{line_of}
use Rattle.ffc_lemmatree.proofs.reasons.lines_of.Goals as goal

pub loop-reason-preserved : goal.loop-reason-preserved
loop-reason-preserved c =
    let xs = c.args.reasons.now in
    let i = c.loop-reason.reason-index in
    record {
      lines = ◌∙◌ {A = List CertLine} c.in_ok-push.ensures.items (ap₂ (λ ls x. ls ++ x ∷ []) c.loop-reason.invariant.lines c.line_of.ensures.line) ∙ sym (map_more line_of xs i _ c.loop-reason-test.true);
      ranges = All-more (λ r. IsLine (line_of r)) xs i _ c.loop-reason-test.true c.loop-reason.invariant.ranges c.line_of.ensures.range;
    }
