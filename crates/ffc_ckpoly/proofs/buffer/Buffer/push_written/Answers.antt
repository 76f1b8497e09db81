use Rattle.std.proofs.Common.{◌++◌, ◌∷◌, [], length, ap, ap₂, length-append, ◌∙◌, subst, sym, arith}
use Rattle.ffc_ckpoly.specs.Flat.{cut, Parts}
use Rattle.ffc_ckpoly.proofs.FlatLemmas.{cut-push, Parts-push}
use Rattle.ffc_ckpoly.proofs.buffer.Buffer.push_written.Goals as goal

pub returns-clause-terms : goal.returns-clause-terms
returns-clause-terms g c =
    let value = g.F.Field.value in
    let ks = c.args.self.now.marks.items in
    let ps = c.args.self.now.powers.items in
    ap₂ (cut value 0) c.in_ok-push.ensures.items c.in_ok-append_written.ensures
    ∙ cut-push value c.args.m.now (c.args.c, c.len-end.result) 0 ks ps c.requires (omega (arith, c.len-end.ensures, ap length c.in_ok-append_written.ensures, length-append ps c.args.m.now, c.append_written.new.out.ok))

pub returns-clause-parts : goal.returns-clause-parts
returns-clause-parts g c =
    let value = g.F.Field.value in
    let ks = c.args.self.now.marks.items in
    let ps = c.args.self.now.powers.items in
    subst (λ x. Parts 0 x c.append_written.new.out.items) (sym c.in_ok-push.ensures.items)
    (subst (Parts 0 (ks ++ (c.args.c, c.len-end.result) ∷ [])) (sym c.in_ok-append_written.ensures)
    (Parts-push value c.args.m.now (c.args.c, c.len-end.result) 0 ks ps c.requires (omega (arith, c.len-end.ensures, ap length c.in_ok-append_written.ensures, length-append ps c.args.m.now, c.append_written.new.out.ok))))
