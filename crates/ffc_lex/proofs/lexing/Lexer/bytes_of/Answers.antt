use Rattle.std.proofs.Common.{sym, subst}
use Rattle.ffc_lex.specs.Lexing.{IsOfLastForm}
use Rattle.ffc_lex.proofs.KeptLemmas.{token_within}
use Rattle.ffc_lex.proofs.lexing.Lexer.bytes_of.Goals as goal

pub bytes_at-requires-clause-from : goal.bytes_at-requires-clause-from
bytes_at-requires-clause-from c = (token_within c.args.token.now c.self.inside.input.bytes c.self.inside.given c.self.inside.scanner.kept c.self.inside.form.bytes.items c.self.inside.form.start c.self.inside.form.end c.self.invariant.form (subst (λ v. IsOfLastForm c.args.token.now v) (sym c.self.view_is) c.requires)).0

pub bytes_at-requires-clause-to : goal.bytes_at-requires-clause-to
bytes_at-requires-clause-to c = (token_within c.args.token.now c.self.inside.input.bytes c.self.inside.given c.self.inside.scanner.kept c.self.inside.form.bytes.items c.self.inside.form.start c.self.inside.form.end c.self.invariant.form (subst (λ v. IsOfLastForm c.args.token.now v) (sym c.self.view_is) c.requires)).1
