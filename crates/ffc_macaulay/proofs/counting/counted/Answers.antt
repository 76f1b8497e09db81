use Rattle.std.proofs.Common.{◌≡◌, ℕ, ◌+◌, ◌-◌, ◌<◌, ◌≤◌, ◌⊎◌, true, false, inl, inr, length, take, take_all, get_or, List, refl, sym, ap, ◌∙◌, arith}
use Rattle.std.proofs.lemmas.Bool.{false≢true}
use Rattle.std.proofs.lemmas.List.Sums.{sum_by_more, sum_by-take-le, get_or-le-sum_by}
use Rattle.ffc_bounds.specs.Monomials.{columns, rows}
use Rattle.ffc_macaulay.proofs.CountLemmas.{length-monomials}
use Rattle.ffc_macaulay.proofs.counting.counted.Goals as goal

not_within : (a b : ℕ) → (4096 < a) ⊎ (4096 < b) → (false ≡ true → (a ≤ 4096) × (b ≤ 4096)) × ((a ≤ 4096) × (b ≤ 4096) → false ≡ true)
not_within a b (inl more) = (λ e. absurd (false≢true e), λ h. absurd (omega (arith, h.0)))
not_within a b (inr more) = (λ e. absurd (false≢true e), λ h. absurd (omega (arith, h.1)))

pub returns-in_default-clause-exactly : goal.returns-in_default-clause-exactly
returns-in_default-clause-exactly c =
    let d = c.args.degree in
    let xs = c.args.variables.now in
    not_within (columns d xs) (rows d xs c.args.degrees.now) (inl (omega (arith, c.in_default.ensures, length-monomials d xs)))

pub returns-in_default-count-clause-exactly : goal.returns-in_default-count-clause-exactly
returns-in_default-count-clause-exactly c =
    let d = c.args.degree in
    let xs = c.args.variables.now in
    let es = c.args.degrees.now in
    let i = c.loop-each.each-index in
    let one : columns (d - get_or es i 0) xs ≤ rows d xs es = get_or-le-sum_by (λ e. columns (d - e) xs) es i 0 c.loop-each-test.true in
    not_within (columns d xs) (rows d xs es) (inr (omega (arith, one, c.in_default-count.ensures, length-monomials (d - get_or es i 0) xs)))

-- the rows of one more generator
more_rows : (d : ℕ) (xs es : List ℕ) (i : ℕ) → i < length es → rows d xs (take (i + 1) es) ≡ rows d xs (take i es) + columns (d - get_or es i 0) xs
more_rows d xs es i inside = sum_by_more (λ e. columns (d - e) xs) es i 0 inside

pub returns-then-rows-gt-MOST-clause-exactly : goal.returns-then-rows-gt-MOST-clause-exactly
returns-then-rows-gt-MOST-clause-exactly c =
    let d = c.args.degree in
    let xs = c.args.variables.now in
    let es = c.args.degrees.now in
    let i = c.loop-each.each-index in
    let more = more_rows d xs es i c.loop-each-test.true in
    let part : rows d xs (take (i + 1) es) ≤ rows d xs es = sum_by-take-le (λ e. columns (d - e) xs) es (i + 1) in
    not_within (columns d xs) (rows d xs es)
    (inr (omega (arith, more, part, c.loop-each.invariant.rows_are, c.in-Some-count.ensures.0, c.if-rows-gt-MOST.true, length-monomials (d - get_or es i 0) xs)))

pub loop-each-preserved : goal.loop-each-preserved
loop-each-preserved c =
    let d = c.args.degree in
    let xs = c.args.variables.now in
    let es = c.args.degrees.now in
    let i = c.loop-each.each-index in
    let more = more_rows d xs es i c.loop-each-test.true in
    record {
      rows_are = omega (arith, more, c.loop-each.invariant.rows_are, c.in-Some-count.ensures.0, length-monomials (d - get_or es i 0) xs);
      small = omega (arith, c.if-rows-gt-MOST.false);
    }

-- all of them
all_rows : (d : ℕ) (xs es : List ℕ) (i : ℕ) → length es ≤ i → rows d xs (take i es) ≡ rows d xs es
all_rows d xs es i past = ap (rows d xs) (take_all i es past)

pub returns-clause-counts : goal.returns-clause-counts
returns-clause-counts c =
    let d = c.args.degree in
    let xs = c.args.variables.now in
    let es = c.args.degrees.now in (
      c.in-Some.ensures.0 ∙ sym (length-monomials d xs),
      c.loop-each.invariant.rows_are ∙ all_rows d xs es c.loop-each.each-index c.loop-each-test.false,
    )

pub returns-clause-exactly : goal.returns-clause-exactly
returns-clause-exactly c =
    let d = c.args.degree in
    let xs = c.args.variables.now in
    let es = c.args.degrees.now in
    let all = all_rows d xs es c.loop-each.each-index c.loop-each-test.false in (
      (λ e. (omega (arith, c.in-Some.ensures.0, c.in-Some.ensures.1, length-monomials d xs), omega (arith, all, c.loop-each.invariant.rows_are, c.loop-each.invariant.small))),
      λ h. refl,
    )
