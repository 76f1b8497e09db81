use Rattle.std.proofs.Common.{◌≡◌, ◌<◌, [], All, get_or, length, sym, ap, ◌∙◌, subst, arith, is_some}
use Rattle.std.proofs.lemmas.Bool.{false≢true}
use Rattle.std.proofs.lemmas.List.Elements.{All-more}
use Rattle.ffc_ring.specs.Monomial.{Divides}
use Rattle.ffc_ring.specs.Polynomial.{Terms, coefficient}
use Rattle.ffc_mono.specs.Leading.{IsLeading}
use Rattle.ffc_mono.proofs.LeadingLemmas.{one_leading}
use Rattle.ffc_basis.specs.Dividing.{LeadsNoDivisor}
use Rattle.ffc_line.specs.Lines.{polys_of}
use Rattle.ffc_basis.proofs.Lists.{length-polys, poly_at}
use Rattle.ffc_basis.proofs.OrderedTerms.{coefficient-none}
use Rattle.ffc_basis.proofs.PartnerLemmas.{taken_all}
use Rattle.ffc_basis.proofs.dividing.first_divisor.Goals as goal
use Rattle.ffc_basis.proofs.dividing.first_divisor.Goals.{in-Some+else-divides, in_default}

pub returns-then-divides-clause-some : goal.returns-then-divides-clause-some
returns-then-divides-clause-some g c =
    let p = g.F.Field.ORDER in
    let cmp = g.O.MonoOrder.cmp in
    let ls = c.args.lines.now in
    let number = get_or c.args.numbers.now c.loop-number.number-index 0 in
    let below : number < length ls = c.requires c.loop-number.number-index 0 c.loop-number-test.true in
    record {
      within = omega (arith, below, length-polys ls);
      coefficient = g.F.Field.value c.in-Some.lead.0;
      monomial = c.in-Some.lead.1.powers.now;
      leads = subst (λ ts. IsLeading p cmp ts (g.F.Field.value c.in-Some.lead.0) c.in-Some.lead.1.powers.now) (sym (poly_at ls number c.index-lines-number.result below)) c.in-Some.ensures.leading;
      divides = c.divides.ensures.0 c.if-divides.true;
    }

pub loop-number-preserved : goal.loop-number-preserved
loop-number-preserved g c =
    let p = g.F.Field.ORDER in
    let cmp = g.O.MonoOrder.cmp in
    let ls = c.args.lines.now in
    let numbers = c.args.numbers.now in
    let index = c.loop-number.number-index in
    let number = get_or numbers index 0 in
    let below : number < length ls = c.requires index 0 c.loop-number-test.true in
    let poly : Terms = (get_or ls number c.index-lines-number.result).poly in
    let here : LeadsNoDivisor p cmp (polys_of ls) c.args.m.powers.now number = λ d n lead divides.
    let own : IsLeading p cmp poly d n = subst (λ ts. IsLeading p cmp ts d n) (poly_at ls number c.index-lines-number.result below) lead in
    elim c.match-lead.branch [
      | in-Some+else-divides w ↦
          let same = one_leading cmp g.met.O.MonoOrder.laws p poly d (g.F.Field.value w.in-Some.lead.0) n w.in-Some.lead.1.powers.now own w.in-Some.ensures.leading in
          false≢true (sym w.if-divides.false ∙ w.divides.ensures.1 (subst (λ x. Divides x c.args.m.powers.now) same.1 divides))
      | in_default w ↦
          let empty : poly ≡ [] = c.lead.ensures.zero.0 (ap is_some w.in_default.is) in
          own.1 (sym own.0 ∙ ap (λ ts. coefficient p ts n) empty ∙ coefficient-none p n)
    ] in
    All-more (LeadsNoDivisor p cmp (polys_of ls) c.args.m.powers.now) numbers index 0 c.loop-number-test.true c.loop-number.invariant here

pub returns-clause-none : goal.returns-clause-none
returns-clause-none g c =
    subst (All (LeadsNoDivisor g.F.Field.ORDER g.O.MonoOrder.cmp (polys_of c.args.lines.now) c.args.m.powers.now))
    (taken_all c.loop-number.number-index c.args.numbers.now (omega (arith, c.loop-number-test.false))) c.loop-number.invariant
