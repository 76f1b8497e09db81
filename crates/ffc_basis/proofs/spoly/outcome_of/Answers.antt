use Rattle.std.proofs.Common.{◌≡◌, true, false, [], get_or, sym, ◌∙◌, subst, refl, arith, Option, Some, None, IfNone, IfSome, is_some, inr}
use Rattle.ffc_ring.specs.Polynomial.{Terms, AreTerms}
use Rattle.ffc_mono.specs.declared.mono.TheConstants.{DEGREE_LIMIT}
use Rattle.ffc_line.specs.Lines.{Parts, polys_of}
use Rattle.ffc_basis.specs.Reduction.{IsReduced, IsStopped}
use Rattle.ffc_basis.specs.Outcomes.{AreSubtracted}
use Rattle.ffc_basis.proofs.AddedLemmas.{closed_by_reduction, line_of_rest}
use Rattle.ffc_basis.proofs.Lists.{poly_at, length-polys}
use Rattle.ffc_basis.proofs.OrderedTerms.{AreTerms-ordered}
use Rattle.ffc_basis.proofs.PairTableLemmas.{not_so}
use Rattle.ffc_basis.proofs.RecordLemmas.{lists_of_short, finished_reduction, finished_stops}
use Rattle.ffc_basis.proofs.spoly.outcome_of.Goals as goal

where_none : {T : Type 0} (o : Option T) (P : Type 0) → is_some o ≡ false → IfNone o P → P
where_none None P e h = h
where_none (Some x) P e h = absurd (not_so true e refl)

where_some : {T P : Type 0} (o : Option T) (Q : T → Type 0) → is_some o ≡ true → IfSome o Q → ((x : T) → Q x → P) → P
where_some None Q e h f = absurd (not_so false refl e)
where_some (Some x) Q e h f = f x h

pub returns-then-is_some : goal.returns-then-is_some
returns-then-is_some g c =
    let p = g.F.Field.ORDER in
    let cmp = g.O.MonoOrder.cmp in
    let gs = polys_of c.args.lines.now in
    let rest : Terms = c.args.recorded.rest in
    let parts : Parts = c.args.recorded.parts in
    let found : Parts = c.in_ok-_reduced._reduced.parts.items in
    where_some c.args.recorded.over (λ t. IsStopped p cmp gs rest parts t.0 t.1) (sym c.is_some.ensures ∙ c.if-is_some.true) c.requires.over
    (λ t stopped. inr (
      c.args.spoly.now.poly,
      rest,
      found,
      t.0,
      t.1,
      c.requires.sum.polynomial,
      finished_reduction p cmp gs c.args.spoly.now.poly rest parts found c.in_ok-_reduced.ensures.same c.in_ok-_reduced.ensures.polynomials c.requires.reduction,
      finished_stops p cmp gs rest parts found t.0 t.1 c.in_ok-_reduced.ensures.same stopped,
    ))

pub returns-then-is_zero : goal.returns-then-is_zero
returns-then-is_zero g c =
    let p = g.F.Field.ORDER in
    let cmp = g.O.MonoOrder.cmp in
    let ls = c.args.lines.now in
    let gs = polys_of ls in
    let i = c.args.i in
    let j = c.args.j in
    let parts : Parts = c.args.recorded.parts in
    let x : AreTerms (get_or gs i []) =
    subst AreTerms (sym (poly_at ls i c.index-lines-i.result c.requires.first)) (AreTerms-ordered p cmp DEGREE_LIMIT (get_or ls i c.index-lines-i.result).poly c.len.ensures.ordered) in
    let y : AreTerms (get_or gs j []) =
    subst AreTerms (sym (poly_at ls j c.index-lines-j.result c.requires.second)) (AreTerms-ordered p cmp DEGREE_LIMIT (get_or ls j c.index-lines-j.result).poly c.len-2.ensures.ordered) in
    closed_by_reduction p g.met.F.Field.prime cmp g.met.O.MonoOrder.laws gs i j c.args.spoly.now.poly c.args.recorded.rest parts x y c.requires.sum.polynomial c.requires.reduction.remainder
    (lists_of_short parts c.len-count.ensures.short) (c.is_zero.ensures.0 c.if-is_zero.true)

pub returns : goal.returns
returns g c =
    let p = g.F.Field.ORDER in
    let value = g.F.Field.value in
    let cmp = g.O.MonoOrder.cmp in
    let ls = c.args.lines.now in
    let gs = polys_of ls in
    let i = c.args.i in
    let j = c.args.j in
    let spoly = c.args.spoly.now in
    let rest : Terms = c.args.recorded.rest in
    let parts : Parts = c.args.recorded.parts in
    let found : Parts = c.record_both.new.parts in
    let k = value spoly.first.coefficient in
    let l = value spoly.second.coefficient in
    let sum = c.requires.sum in
    let x : AreTerms (get_or gs i []) =
    subst AreTerms (sym (poly_at ls i c.index-lines-i.result c.requires.first)) (AreTerms-ordered p cmp DEGREE_LIMIT (get_or ls i c.index-lines-i.result).poly c.len.ensures.ordered) in
    let y : AreTerms (get_or gs j []) =
    subst AreTerms (sym (poly_at ls j c.index-lines-j.result c.requires.second)) (AreTerms-ordered p cmp DEGREE_LIMIT (get_or ls j c.index-lines-j.result).poly c.len-2.ensures.ordered) in
    let reduced : IsReduced p cmp gs rest = where_none c.args.recorded.over (IsReduced p cmp gs rest) (sym c.is_some.ensures ∙ c.if-is_some.false) c.requires.reduced in
    let subtracted : AreSubtracted p parts i k spoly.first.monomial j l spoly.second.monomial found =
    subst (λ n. AreSubtracted p parts n k spoly.first.monomial j l spoly.second.monomial found) sum.first
    (subst (λ n. AreSubtracted p parts spoly.first.line k spoly.first.monomial n l spoly.second.monomial found) sum.second c.in_ok-record_both.ensures) in
    line_of_rest p g.met.F.Field.prime cmp g.met.O.MonoOrder.laws gs i j k l spoly.first.monomial spoly.second.monomial spoly.poly rest parts found c.in_ok-line.line
    (omega (arith, c.requires.first, length-polys ls)) (omega (arith, c.requires.second, length-polys ls)) x y sum.polynomial sum.sum c.requires.reduction.remainder (lists_of_short parts c.len-count.ensures.short) reduced
    (g.met.F.Field.below spoly.first.coefficient) (g.met.F.Field.below spoly.second.coefficient) subtracted c.in_ok-line.ensures
