use Rattle.std.proofs.Common.{◌∙◌, arith, mod-eq_of_lt}
use Rattle.ffc_ckpoly.proofs.UnivariateLemmas.{put_is}
use Rattle.ffc_ckpoly.proofs.univariate.put_at.Goals as goal

pub returns : goal.returns
returns g c =
    put_is g.F.Field.value c.args.coefs.now.items c.resize.new.self.items c.push.new.self.items c.args.coefs.now.len c.args.place c.of.result c.args.coef
    (omega (arith, c.args.coefs.now.ok)) c.requires (c.of.ensures ∙ mod-eq_of_lt (omega (arith, g.met.F.Field.prime.least))) c.in_ok-resize.ensures.items c.in_ok-push.ensures.items
