use Rattle.std.proofs.Common.{◌++◌, ◌∷◌, [], ap₂, ◌∙◌, subst, sym, arith}
use Rattle.ffc_ckpoly.specs.Flat.{cut, Parts}
use Rattle.ffc_ckpoly.proofs.FlatLemmas.{cut-push, Parts-push}
use Rattle.ffc_ckpoly.proofs.buffer.Buffer.push.Goals as goal

pub returns-clause-terms : goal.returns-clause-terms
returns-clause-terms g c =
    let value = g.F.Field.value in
    let ks = c.args.self.now.marks.items in
    let ps = c.args.self.now.powers.items in
    ap₂ (cut value 0) c.in_ok-push.ensures.items c.in_ok-extend_from_slice.ensures.items
    ∙ cut-push value c.args.m.now (c.args.c, c.len-end.result) 0 ks ps c.requires (omega (arith, c.len-end.ensures, c.in_ok-extend_from_slice.ensures.len, c.args.self.now.powers.ok))

pub returns-clause-parts : goal.returns-clause-parts
returns-clause-parts g c =
    let value = g.F.Field.value in
    let ks = c.args.self.now.marks.items in
    let ps = c.args.self.now.powers.items in
    subst (λ x. Parts 0 x c.extend_from_slice.new.self.items) (sym c.in_ok-push.ensures.items)
    (subst (Parts 0 (ks ++ (c.args.c, c.len-end.result) ∷ [])) (sym c.in_ok-extend_from_slice.ensures.items)
    (Parts-push value c.args.m.now (c.args.c, c.len-end.result) 0 ks ps c.requires (omega (arith, c.len-end.ensures, c.in_ok-extend_from_slice.ensures.len, c.args.self.now.powers.ok))))
