-- With more than 89 variables the matrix of no degree from 2 on is small enough.
use Rattle.std.proofs.Common.{◌≡◌, ℕ, zero, suc, ◌+◌, ◌-◌, ◌*◌, ◌<◌, ◌≤◌, Bool, List, length, refl, ap, arith, length-append}
use Rattle.std.specs.List.{range_with_len}
use Rattle.ffc_bounds.specs.Combinations.{IsReached, chosen, node_variables, variables_of}
use Rattle.ffc_bounds.specs.Monomials.{columns}
use Rattle.ffc_field.specs.Binomial.{choose, choose-none, choose-all}
use Rattle.ffc_macaulay.proofs.CountLemmas.{length-monomials, grows_degree, grows_variables}
use Rattle.ffc_rules.specs.Entries.{NodeCheck}

-- all but one of some things
all_but_one : (n : ℕ) → choose (suc n) n ≡ suc n
unfolding choose
all_but_one zero = choose-none 1
all_but_one (suc n) =
    let one = all_but_one n in
    let all = choose-all (suc n) in
    omega (arith, one, all)

-- and all but two
all_but_two : (n : ℕ) → 2 * choose (suc (suc n)) n ≡ (n + 1) * (n + 2)
unfolding choose
all_but_two zero = ap (λ k. 2 * k) (choose-none 2)
all_but_two (suc n) =
    let one = all_but_one (suc n) in
    let two = all_but_two n in
    let more : choose (suc (suc (suc n))) (suc n) ≡ choose (suc (suc n)) n + choose (suc (suc n)) (suc n) = refl in
    omega (arith, more, one, two)

ninety : 4096 < choose (2 + 90) 90
ninety = let twice : 2 * choose (2 + 90) 90 ≡ (90 + 1) * (90 + 2) = all_but_two 90 in omega (arith, twice)

many_columns : (d : ℕ) (xs : List ℕ) → 2 ≤ d → 89 < length xs → 4096 < columns d xs
many_columns d xs least many =
    let n = length xs in
    let one : choose (2 + 90) 90 ≤ choose (2 + (90 + (n - 90))) (90 + (n - 90)) = grows_variables 2 90 (n - 90) in
    let two : choose (2 + n) n ≤ choose (2 + (d - 2) + n) n = grows_degree 2 (d - 2) n in
    let same : choose (2 + (90 + (n - 90))) (90 + (n - 90)) ≡ choose (2 + n) n = ap (λ k. choose (2 + k) k) (let e : 90 + (n - 90) ≡ n = omega (arith, many) in e) in
    let also : choose (2 + (d - 2) + n) n ≡ choose (d + n) n = ap (λ k. choose (k + n) n) (let e : 2 + (d - 2) ≡ d = omega (arith, least) in e) in
    omega (arith, ninety, one, two, same, also, length-monomials d xs)

-- so no degree is reached
pub none_reached : (budget : ℕ) (c : NodeCheck) (equal unequal : List ℕ) (all : Bool) (degree : ℕ) → 89 < length (node_variables c.nodes c.in_force) → IsReached budget c equal unequal all degree → ⊥
none_reached budget c equal unequal all degree many r =
    let few = r.few_columns in
    let long = length-append (node_variables c.nodes c.in_force) (range_with_len (length c.nodes + length equal) (length (chosen all unequal))) in
    let more = many_columns degree (variables_of c equal (chosen all unequal)) r.least (omega (arith, many, long)) in
    omega (arith, few, more)
