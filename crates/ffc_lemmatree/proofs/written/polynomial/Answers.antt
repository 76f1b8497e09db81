use Rattle.std.proofs.Common.{◌∙◌}
use Rattle.ffc_lemmatree.specs.Written.{written_in}
use Rattle.ffc_lemmatree.proofs.Writing.{appended-nil}
use Rattle.ffc_lemmatree.proofs.written.polynomial.Goals as goal

pub returns : goal.returns
returns c = c.from_vec.ensures ∙ c.in_ok-terms_before.ensures ∙ appended-nil (written_in c.args.x c.args.coefficients.now)
