use Rattle.std.proofs.Common.{◌≡◌, ◌+◌, ◌∷◌, ◌++◌, [], length, ap, ap₂, ◌∙◌, arith, length-append}
use Rattle.std.specs.Int.RustNames.{bit_or}
use Rattle.ffc_ring.specs.Monomial.{mono_mul, degree}
use Rattle.ffc_ring.proofs.MonomialLemmas.{IsMonomial-mono_mul, degree-mono_mul}
use Rattle.ffc_mono.specs.declared.row.Mark.{Mark}
use Rattle.ffc_mono.proofs.MaskLemmas.{mask-product}
use Rattle.ffc_mono.proofs.RowLemmas.{row-push, row-is, row-view, row-moved}
use Rattle.ffc_mono.proofs.row.MonoRow.push_product.Goals as goal

pub invariant_of-self-2 : goal.invariant_of-self-2
invariant_of-self-2 c =
    let ks = c.self.inside.marks.items in
    let ps = c.self.inside.powers.items in
    let m = c.args.m in
    let n = c.args.n in
    let both = mono_mul m.powers.now n.powers.now in
    let mark : Mark = record { end = c.len-end.result; total_degree = m.total_degree + n.total_degree; mask = bit_or m.mask n.mask } in
    let total : m.total_degree + n.total_degree ≡ degree both = omega (arith, m.degree_is, n.degree_is, degree-mono_mul m.powers.now n.powers.now) in
    let product = c.in_ok-append_product.ensures.product in
    let end : c.len-end.result ≡ length ps + length both =
    omega (arith, c.len-end.ensures, c.append_product.new.out.ok, ap length product, length-append ps both) in
    let step = row-push ps both ks _ mark c.self.invariant (IsMonomial-mono_mul m.powers.now n.powers.now m.is_monomial n.is_monomial) (omega (arith, c.requires, degree-mono_mul m.powers.now n.powers.now))
    end total (ap₂ bit_or m.mask_is n.mask_is ∙ mask-product m.powers.now n.powers.now m.is_monomial n.is_monomial) in
    row-is _ _ _ (row-moved _ _ _ _ _ product (c.in_ok-push.ensures.items ∙ ap (λ k. k ++ mark ∷ []) c.in_ok-reserve.ensures.items) step)

pub returns-clause-pushed : goal.returns-clause-pushed
returns-clause-pushed c =
    let ks = c.self.inside.marks.items in
    let ps = c.self.inside.powers.items in
    let m = c.args.m in
    let n = c.args.n in
    let both = mono_mul m.powers.now n.powers.now in
    let mark : Mark = record { end = c.len-end.result; total_degree = m.total_degree + n.total_degree; mask = bit_or m.mask n.mask } in
    let total : m.total_degree + n.total_degree ≡ degree both = omega (arith, m.degree_is, n.degree_is, degree-mono_mul m.powers.now n.powers.now) in
    let product = c.in_ok-append_product.ensures.product in
    let end : c.len-end.result ≡ length ps + length both =
    omega (arith, c.len-end.ensures, c.append_product.new.out.ok, ap length product, length-append ps both) in
    let step = row-push ps both ks _ mark c.self.invariant (IsMonomial-mono_mul m.powers.now n.powers.now m.is_monomial n.is_monomial) (omega (arith, c.requires, degree-mono_mul m.powers.now n.powers.now))
    end total (ap₂ bit_or m.mask_is n.mask_is ∙ mask-product m.powers.now n.powers.now m.is_monomial n.is_monomial) in
    row-view _ _ _ (row-moved _ _ _ _ _ product (c.in_ok-push.ensures.items ∙ ap (λ k. k ++ mark ∷ []) c.in_ok-reserve.ensures.items) step)
    ∙ ap (λ k. k ++ both ∷ []) c.self.view_is
