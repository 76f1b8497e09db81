use Rattle.std.proofs.Common.{◌≡◌, ◌≤◌, length, take, take_all, sym, ap, ◌∙◌, arith}
use Rattle.ffc_mono.specs.Rows.{cut_at, start_at}
use Rattle.ffc_mono.proofs.RowLemmas.{length-cut, row-take, row-is, row-view, row-moved}
use Rattle.ffc_mono.proofs.row.MonoRow.truncate.Goals as goal

pub invariant_of-self : goal.invariant_of-self
invariant_of-self c =
    let ks = c.self.inside.marks.items in
    let ps = c.self.inside.powers.items in
    let within : c.args.len ≤ length (cut_at 0 ks ps) = omega (arith, length-cut 0 ks ps, c.if-len.true, c.len.ensures, c.self.inside.marks.ok) in
    let end : c.start_of-end.result ≡ start_at ks c.args.len = c.start_of-end.ensures ∙ ap (λ k. start_at k c.args.len) c.as_slice.ensures.value in
    row-is _ _ _ (row-moved _ _ _ _ _ (c.truncate-then-len.ensures.items ∙ ap (λ k. take k ps) end) c.truncate.ensures.items (row-take ps ks _ c.self.invariant c.args.len within))

pub returns-then-len : goal.returns-then-len
returns-then-len c =
    let ks = c.self.inside.marks.items in
    let ps = c.self.inside.powers.items in
    let within : c.args.len ≤ length (cut_at 0 ks ps) = omega (arith, length-cut 0 ks ps, c.if-len.true, c.len.ensures, c.self.inside.marks.ok) in
    let end : c.start_of-end.result ≡ start_at ks c.args.len = c.start_of-end.ensures ∙ ap (λ k. start_at k c.args.len) c.as_slice.ensures.value in
    row-view _ _ _ (row-moved _ _ _ _ _ (c.truncate-then-len.ensures.items ∙ ap (λ k. take k ps) end) c.truncate.ensures.items (row-take ps ks _ c.self.invariant c.args.len within))
    ∙ ap (take c.args.len) c.self.view_is

pub returns-else-len : goal.returns-else-len
returns-else-len c =
    let ks = c.self.inside.marks.items in
    let ps = c.self.inside.powers.items in
    sym (take_all c.args.len c.args.self.now (omega (arith, length-cut 0 ks ps, ap length c.self.view_is, c.if-len.false, c.len.ensures, c.self.inside.marks.ok)))
