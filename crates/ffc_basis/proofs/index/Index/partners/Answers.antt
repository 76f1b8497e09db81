use Rattle.std.proofs.Common.{◌≡◌, true, Contains, get_or, inl, inr, sym, subst, arith}
use Rattle.std.proofs.lemmas.Bool.{cases_eq}
use Rattle.ffc_basis.specs.Indexing.{listed, has_variable}
use Rattle.ffc_basis.proofs.DivisorLemmas.{variable_at}
use Rattle.ffc_basis.proofs.Lists.{any_default}
use Rattle.ffc_basis.proofs.index.Index.partners.Goals as goal

pub loop-power-preserved : goal.loop-power-preserved
loop-power-preserved c =
    let powers = c.pairs-power-items.result.now in
    let index = c.loop-power.power-index in
    let lists = c.args.self.now.by_any in
    record {
      all = λ k i less has before.
          elim (cases_eq k index) [
            | inl here ↦
                let there : Contains (listed lists (get_or powers index (0, 0)).0) i = subst (λ n. Contains (listed lists (get_or powers n (0, 0)).0) i) here has in
                let at = any_default powers index (0, 0) _ c.loop-power-test.true in
                c.in_ok-add_before.ensures.added i (subst (λ ks. Contains ks i) (sym c.lines_of.ensures) (subst (λ f. Contains (listed lists f.0) i) at there)) before
            | inr other ↦ c.in_ok-add_before.ensures.kept i (c.loop-power.invariant.all k i (omega (arith, less, other)) has before)
          ];
      only = c.in_ok-add_before.ensures.only c.loop-power.invariant.only;
    }

pub returns-clause-all : goal.returns-clause-all
returns-clause-all c = λ x i has there before.
    let powers = c.pairs-power-items.result.now in
    let lists = c.args.self.now.by_any in
    let (k, below, at) = variable_at x powers (subst (λ m. has_variable x m ≡ true) (sym c.pairs-power-items.ensures.value) has) in
    c.loop-power.invariant.all k i (omega (arith, below, c.loop-power-test.false)) (subst (λ y. Contains (listed lists y) i) (sym at) there) before
