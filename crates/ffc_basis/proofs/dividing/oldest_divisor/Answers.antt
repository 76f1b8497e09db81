use Rattle.std.proofs.Common.{◌≡◌, ℕ, ◌<◌, true, List, All, None, get_or, inl, inr, sym, subst, arith}
use Rattle.std.proofs.lemmas.Bool.{cases_eq}
use Rattle.ffc_ring.specs.Monomial.{Monomial}
use Rattle.ffc_basis.specs.Dividing.{LeadsDivisor, LeadsNoDivisor}
use Rattle.ffc_basis.specs.Indexing.{has_variable, listed}
use Rattle.ffc_line.specs.Lines.{polys_of}
use Rattle.ffc_basis.proofs.DivisorLemmas.{constant_begins, irreducible_by_index, lines_within, map_none, none_of, one_of, variable_at}
use Rattle.ffc_basis.proofs.Lists.{any_default}
use Rattle.ffc_basis.proofs.dividing.oldest_divisor.Goals as goal

pub loop-power-init : goal.loop-power-init
loop-power-init g c =
    let begins = constant_begins g.F.Field.ORDER g.O.MonoOrder.cmp g.met.O.MonoOrder.laws (polys_of c.args.lines.now) c.args.index.now c.requires c.args.m.powers.now
    _ (λ e. (e, λ k less. absurd (omega (arith, less)))) in
    record { some = begins.0; none = begins.1 }

pub first_divisor-found-requires : goal.first_divisor-found-requires
first_divisor-found-requires g c =
    lines_within g.F.Field.ORDER g.O.MonoOrder.cmp g.met.O.MonoOrder.laws c.args.lines.now c.args.index.now c.begun_by.result.now _ c.requires c.begun_by.ensures

pub loop-power-preserved : goal.loop-power-preserved
loop-power-preserved g c =
    let gs = polys_of c.args.lines.now in
    let m : Monomial = c.args.m.powers.now in
    let powers = c.pairs-power-items.result.now in
    let index = c.loop-power.power-index in
    let NoDivisors : List ℕ → Type 0 = All (LeadsNoDivisor g.F.Field.ORDER g.O.MonoOrder.cmp gs m) in
    let lists = c.args.index.now.by_first in
    record {
      some = one_of c.loop-power.oldest c.first_divisor-found.result c.lesser-oldest.result (LeadsDivisor g.F.Field.ORDER g.O.MonoOrder.cmp gs m)
          c.lesser-oldest.ensures.some c.loop-power.invariant.some c.first_divisor-found.ensures.some;
      none = map_none c.lesser-oldest.result _ _
          (λ (both : ((c.args.index.now.constant ≡ None) × ((k : ℕ) → k < index → NoDivisors (listed lists (get_or powers k (0, 0)).0))) × NoDivisors c.begun_by.result.now). (
            both.0.0,
            λ k less.
                elim (cases_eq k index) [
                  | inl here ↦
                      subst (λ n. NoDivisors (listed lists (get_or powers n (0, 0)).0)) (sym here)
                      (subst (λ f. NoDivisors (listed lists f.0)) (any_default powers index _ (0, 0) c.loop-power-test.true) (subst NoDivisors c.begun_by.ensures both.1))
                  | inr other ↦ both.0.1 k (omega (arith, less, other))
                ],
          ))
          (none_of c.loop-power.oldest c.first_divisor-found.result c.lesser-oldest.result _ _ c.lesser-oldest.ensures.none c.loop-power.invariant.none c.first_divisor-found.ensures.none);
    }

pub returns-clause-none : goal.returns-clause-none
returns-clause-none g c =
    let gs = polys_of c.args.lines.now in
    let m : Monomial = c.args.m.powers.now in
    let powers = c.pairs-power-items.result.now in
    let NoDivisors : List ℕ → Type 0 = All (LeadsNoDivisor g.F.Field.ORDER g.O.MonoOrder.cmp gs m) in
    let lists = c.args.index.now.by_first in
    map_none c.loop-power.oldest _ _
    (λ (known : (c.args.index.now.constant ≡ None) × ((k : ℕ) → k < c.loop-power.power-index → NoDivisors (listed lists (get_or powers k (0, 0)).0))).
    irreducible_by_index g.F.Field.ORDER g.O.MonoOrder.cmp g.met.O.MonoOrder.laws gs c.args.index.now c.requires m known.0
    (λ x has.
    let at = variable_at x powers (subst (λ n. has_variable x n ≡ true) (sym c.pairs-power-items.ensures.value) has) in
    subst (λ y. NoDivisors (listed lists y)) at.2 (known.1 at.0 (omega (arith, at.1, c.loop-power-test.false)))))
    c.loop-power.invariant.none
