-- A tree that closes refutes that all its first lines are 0 at a point of residues.
use Rattle.ffc_trees.proofs.RuleLemmas.{chain_from, split_from, values_from}
use Rattle.ffc_trees.proofs.BitRuleLemmas.{bits_are_zero}
use Rattle.std.proofs.Common.{◌≡◌, ℕ, zero, suc, ◌+◌, ◌-◌, ◌*◌, ◌%◌, ◌^◌, ◌<◌, ◌≤◌, true, List, [], ◌∷◌, ◌++◌, Ok, sym, ap, ap₂, ◌∙◌, subst, inl, inr, ⊎_elim, arith}
use Rattle.std.proofs.Math.Nat.{zero-mod, mod-eq_of_lt, mod_self, mod-lt}
use Rattle.std.proofs.lemmas.Bool.{cases_eq, ltb-true, false≢true}
use Rattle.std.proofs.lemmas.List.Elements.{All-head, All-tail, All-push}
use Rattle.std.specs.List.{range_with_len}
use Rattle.ffc_field.specs.Modular.{IsPrime, sub_mod, mul_mod}
use Rattle.ffc_field.specs.Orders.{IsOrder}
use Rattle.ffc_field.proofs.FieldLaws.{zero_products}
use Rattle.ffc_field.proofs.ModularLaws.{sub_mod-self}
use Rattle.ffc_field.proofs.OrderLemmas.{order_is_prime, order_fits}
use Rattle.ffc_cert.specs.declared.entries.CertLine.{CertLine}
use Rattle.ffc_ring.specs.Polynomial.{Terms, difference, poly_value}
use Rattle.ffc_ring.proofs.PolynomialLemmas.{poly_value-difference}
use Rattle.ffc_uni.specs.Univariate.{Coefficients, indeterminate, value_of, product_of_roots, terms_in}
use Rattle.ffc_uni.specs.Chains.{last_remainder}
use Rattle.ffc_uni.proofs.ValueLemmas.{value_of-times, one_value}
use Rattle.ffc_uni.proofs.RingLemmas.{value_in_ring}
use Rattle.ffc_uni.proofs.ChainLemmas.{zeros_of_chains}
use Rattle.ffc_trees.specs.Laws.{AreZeroAt, IsPoint}
use Rattle.ffc_trees.specs.TreeLines.{Limits, line_at, coefficients_of, fermat_line, root_line, case_lines, split_line, is_nonzero_constant, last_line, closes}
use Rattle.ffc_trees.specs.Closing.{Closes, CloseAll}
use Rattle.ffc_trees.specs.Closing.Closes.{combine, bits, chain, split, values, close}
use Rattle.ffc_trees.specs.Closing.CloseAll.{no_cases, each}
use Rattle.ffc_trees.proofs.NormalLemmas.{poly_value-normal}
use Rattle.ffc_trees.proofs.LineLemmas.{line_is_zero, combined_is_zero, value_of-coefficients}

value_of_indeterminate : (p x : ℕ) → x < p → value_of p x indeterminate ≡ x
value_of_indeterminate p x below = ap (λ n. n % p) (let same : 0 + x * (1 + x * 0) ≡ x = omega arith in same) ∙ mod-eq_of_lt below

root_at : (p x a : ℕ) → x ≡ a → a ≤ p → value_of p x ((p - a) ∷ 1 ∷ []) ≡ 0
root_at p x a e within = ap (λ n. n % p) (let same : (p - a) + x * (1 + x * 0) ≡ p = omega arith in same) ∙ mod_self p

one_is_not_zero : (p x : ℕ) → 1 < p → value_of p x (1 ∷ []) ≡ 0 → ⊥
one_is_not_zero p x least none =
    let one : value_of p x (1 ∷ []) ≡ 1 = ap (λ n. n % p) (let same : 1 + x * 0 ≡ 1 = omega arith in same) ∙ mod-eq_of_lt least in
    omega arith

module _ (p : ℕ) (point : ℕ → ℕ) where
  abbrev pub Refuted : List Terms → Type 0
  Refuted lines = AreZeroAt p point lines → ⊥

  abbrev pub AllRefuted : List (List Terms) → Type 0
  AllRefuted [] = Unit {0}
  AllRefuted (lines ∷ cases) = Refuted lines × AllRefuted cases

  pushed : (lines : List Terms) (line : Terms) → AreZeroAt p point lines → poly_value p point line ≡ 0 → AreZeroAt p point (lines ++ line ∷ [])
  pushed lines line zeros e = All-push (λ f. poly_value p point f ≡ 0) lines line zeros e

  last_is_zero : (lines : List Terms) → AreZeroAt p point lines → poly_value p point (last_line lines) ≡ 0
  last_is_zero [] zeros = zero-mod p
  last_is_zero (f ∷ []) zeros = All-head (λ f. poly_value p point f ≡ 0) f [] zeros
  last_is_zero (f ∷ g ∷ lines) zeros = last_is_zero (g ∷ lines) (All-tail (λ f. poly_value p point f ≡ 0) f (g ∷ lines) zeros)

  constant_is_not_zero : (f : Terms) → is_nonzero_constant p f ≡ true → poly_value p point f ≡ 0 → ⊥
  constant_is_not_zero [] is none = false≢true is
  constant_is_not_zero ((c, []) ∷ []) is none =
      let some : 0 < c % p = ltb-true 0 (c % p) is in
      let value : c % p ≡ 0 = ap (λ n. n % p) (let same : c ≡ c * 1 + 0 = omega arith in same) ∙ none in
      omega arith
  constant_is_not_zero ((c, f ∷ m) ∷ []) is none = false≢true is
  constant_is_not_zero (t ∷ u ∷ ts) is none = false≢true is

  close_refutes : (lines : List Terms) → closes p lines ≡ true → Refuted lines
  unfolding closes
  close_refutes lines is zeros = constant_is_not_zero (last_line lines) is (last_is_zero lines zeros)

  root_value : (x a : ℕ) → poly_value p point (root_line p x a) ≡ value_of p (point x) ((p - a) ∷ 1 ∷ [])
  unfolding root_line
  root_value x a = poly_value-normal p point (terms_in x ((p - a) ∷ 1 ∷ [])) ∙ value_in_ring p x point ((p - a) ∷ 1 ∷ [])

  -- where a product of the x - a is 0, one of them is
  roots_refute : (lines : List Terms) (x : ℕ) (zeros : List ℕ) → IsPrime p → AllRefuted (case_lines p lines x zeros) → value_of p (point x) (product_of_roots p zeros) ≡ 0 → Refuted lines
  roots_refute lines x [] prime refuted none vanish = one_is_not_zero p (point x) prime.least none
  roots_refute lines x (a ∷ rest) prime refuted none vanish =
      let first : ℕ = value_of p (point x) ((p - a) ∷ 1 ∷ []) in
      let others : ℕ = value_of p (point x) (product_of_roots p rest) in
      let product : mul_mod p first others ≡ 0 = sym (value_of-times p (point x) ((p - a) ∷ 1 ∷ []) (product_of_roots p rest)) ∙ none in
      let positive : 0 < p = omega (arith, prime.least) in
      ⊎_elim
      (λ here. refuted.0 (pushed lines (root_line p x a) vanish (root_value x a ∙ here)))
      (λ later. roots_refute lines x rest prime refuted.1 later vanish)
      (zero_products p prime first others (mod-lt _ positive) (mod-lt _ positive) product)

  -- x has one of all values
  values_refute : (lines : List Terms) (x n a : ℕ) → AllRefuted (case_lines p lines x (range_with_len a n)) → a ≤ point x → point x < a + n → a + n ≤ p → Refuted lines
  values_refute lines x zero a refuted least below within vanish = omega arith
  values_refute lines x (suc n) a refuted least below within vanish =
      elim (cases_eq (point x) a) as (λ _. ⊥) [
        | inl here ↦ refuted.0 (pushed lines (root_line p x a) vanish (root_value x a ∙ root_at p (point x) a here (omega arith)))
        | inr later ↦ values_refute lines x n (a + 1) refuted.1 (omega arith) (omega arith) (omega arith) vanish
      ]

  split_refutes : (lines : List Terms) (k x : ℕ) (zeros : List ℕ) (cases : List (List Terms)) → IsPrime p → split_line p lines k x zeros ≡ Ok cases → AllRefuted cases → Refuted lines
  split_refutes lines k x zeros cases prime h refuted vanish =
      let ok = split_from p lines k x zeros cases h in
      let same : value_of p (point x) (coefficients_of (line_at lines k)) ≡ value_of p (point x) (product_of_roots p zeros) =
      one_value p (point x) (coefficients_of (line_at lines k)) (product_of_roots p zeros) ok.product
      in roots_refute lines x zeros prime (subst AllRefuted (sym ok.each) refuted)
      (sym same ∙ value_of-coefficients p point x (line_at lines k) ok.alone ∙ line_is_zero p point lines k vanish) vanish

  fermat_is_zero : (x : ℕ) (r : Coefficients) → point x < p → value_of p (point x) r ≡ point x → poly_value p point (fermat_line p x r) ≡ 0
  unfolding fermat_line
  fermat_is_zero x r below e =
      poly_value-normal p point (difference p (terms_in x r) (terms_in x indeterminate))
      ∙ poly_value-difference p (omega arith) point (terms_in x r) (terms_in x indeterminate)
      ∙ ap₂ (sub_mod p) (value_in_ring p x point r ∙ e) (value_in_ring p x point indeterminate ∙ value_of_indeterminate p (point x) below)
      ∙ sub_mod-self p (point x) (omega arith)

  module _ (l : Limits) (prime : IsPrime p) (fits : p < 2 ^ 64) (below : IsPoint p point) where
    mutual
      refutes : (lines : List Terms) (tree rest : List CertLine) → Closes l p lines tree rest → Refuted lines
      refutes lines _ _ (combine ms line h more) vanish =
          refutes (lines ++ line ∷ []) _ _ more (pushed lines line vanish (combined_is_zero l p point lines ms line h vanish))
      refutes lines _ _ (bits sum chosen written numbers line h more) vanish =
          refutes (lines ++ line ∷ []) _ _ more (pushed lines line vanish (bits_are_zero l p lines sum chosen written numbers line point prime below vanish h))
      refutes lines _ _ (chain k x count f steps h front more) vanish =
          let ok = chain_from p lines k x count f h in
          let none : value_of p (point x) f ≡ 0 = ap (value_of p (point x)) (sym ok.line) ∙ value_of-coefficients p point x (line_at lines k) ok.alone ∙ line_is_zero p point lines k vanish in
          let power : value_of p (point x) (last_remainder indeterminate steps) ≡ point x = zeros_of_chains p prime fits f steps (point x) (below x) front.chain none in
          refutes (lines ++ fermat_line p x (last_remainder indeterminate steps) ∷ []) _ _ more (pushed lines (fermat_line p x (last_remainder indeterminate steps)) vanish (fermat_is_zero x (last_remainder indeterminate steps) (below x) power))
      refutes lines _ _ (split k x zeros cases h all) vanish = split_refutes lines k x zeros cases prime h (all_refute cases _ _ all) vanish
      refutes lines _ _ (values x count cases h all) vanish =
          values_refute lines x p 0 (subst AllRefuted (sym (values_from p lines x count cases h).each) (all_refute cases _ _ all)) (omega arith) (omega (arith, below x)) (omega arith) vanish
      refutes lines _ _ (close is) vanish = close_refutes lines is vanish

      all_refute : (cases : List (List Terms)) (tree rest : List CertLine) → CloseAll l p cases tree rest → AllRefuted cases
      all_refute [] _ _ no_cases = tt
      all_refute (lines ∷ cases) _ _ (each first others) = (refutes lines _ _ first, all_refute cases _ _ others)

pub order_prime : (p : ℕ) → IsOrder p → IsPrime p
order_prime p is = subst IsPrime is.1 (order_is_prime is.0)

pub order_below : (p : ℕ) → IsOrder p → p < 2 ^ 64
order_below p is = subst (λ n. n < 2 ^ 64) is.1 (order_fits is.0)

pub closes_refutes : (l : Limits) (p : ℕ) (lines : List Terms) (tree rest : List CertLine) (point : ℕ → ℕ) → IsOrder p → Closes l p lines tree rest → IsPoint p point → AreZeroAt p point lines → ⊥
closes_refutes l p lines tree rest point order closed below zeros =
    refutes p point l (order_prime p order) (order_below p order) below lines tree rest closed zeros
