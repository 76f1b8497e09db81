-- The chain of a power modulo a line.
use Rattle.std.proofs.Common.{◌≡◌, ℕ, suc, ◌-◌, ◌*◌, ◌<◌, ◌≤◌, max, Bool, true, false, List, [], ◌∷◌, ◌++◌, length, All, refl, sym, ap, ◌∙◌, arith}
use Rattle.std.specs.List.{AllByRecursion}
use Rattle.std.proofs.lemmas.List.Elements.{All-from_recursion, recursion_from_All}
use Rattle.ffc_ring.specs.Polynomial.{Terms, coefficient, scaled, difference}
use Rattle.ffc_uni.specs.Univariate.{Coefficients, SameUnivariate, IsNormal, indeterminate, plus, multiple, times, power_of, terms_from, terms_in}
use Rattle.ffc_uni.specs.Chains.{Pair, IsDivision, IsChainFrom, AreLower, last_remainder}
use Rattle.ffc_uni.proofs.Coefficients.{plus_alike, times_alike_second}
use Rattle.ffc_uni.proofs.RingLemmas.{sum_in_ring}
use Rattle.ffc_uni.proofs.StepLemmas.{last_short}
use Rattle.ffc_uni.proofs.ValueLemmas.{normal_head, normal_tail}
use Rattle.ffc_roots.specs.Roots.{without_x}
use Rattle.ffc_trees.specs.TreeLines.{limits, fermat_line}
use Rattle.ffc_trees.specs.Closing.{AreWritten}
use Rattle.ffc_trees.proofs.NormalLemmas.{normal_same, normal_is_normal}
use Rattle.ffc_lemmatree.specs.Written.{IsNormalPair}
use Rattle.ffc_lemmatree.proofs.Lines.{IsLineIn}

-- ---- modulo another list of the same polynomial

division_alike : (p : ℕ) (f g a : Coefficients) (s : Pair) → SameUnivariate p f g → IsDivision p f a s → IsDivision p g a s
division_alike p f g a s same is k =
    is k ∙ plus_alike p (times s.0 f) (times s.0 g) s.1 s.1 (times_alike_second p s.0 f g same) (λ j. refl) k

pub chain_alike : (p : ℕ) (f g r : Coefficients) (ds : List Bool) (steps : List Pair) → SameUnivariate p f g → IsChainFrom p f r ds steps → IsChainFrom p g r ds steps
chain_alike p f g r [] [] same is = tt
chain_alike p f g r [] (s ∷ steps) same is = absurd is
chain_alike p f g r (d ∷ ds) [] same is = absurd is
chain_alike p f g r (false ∷ ds) (s ∷ steps) same is = (division_alike p f g (times r r) s same is.0, chain_alike p f g s.1 ds steps same is.1)
chain_alike p f g r (true ∷ ds) (s ∷ []) same is = absurd is
chain_alike p f g r (true ∷ ds) (s ∷ t ∷ steps) same is =
    (division_alike p f g (times r r) s same is.0, division_alike p f g (times indeterminate s.1) t same is.1, chain_alike p f g t.1 ds steps same is.2)

-- ---- as it is written

pub normal_below : (p : ℕ) (a : Coefficients) → IsNormal p a → AllByRecursion (λ c. c < p) a
normal_below p [] is = tt
normal_below p (c ∷ a) is = (normal_head p c a is, normal_below p a (normal_tail p c a is))

steps_written : (p : ℕ) (f : Coefficients) (steps : List Pair) → length f ≤ 256 → AreLower f steps → AllByRecursion (IsNormalPair p) steps → AreWritten limits p steps
steps_written p f [] short lower normal = tt
steps_written p f (s ∷ steps) short lower normal = (
  let h = lower.1 in omega arith,
  let h = lower.0 in omega arith,
  All-from_recursion (λ c. c < p) s.0 (normal_below p s.0 normal.0.0),
  All-from_recursion (λ c. c < p) s.1 (normal_below p s.1 normal.0.1),
  steps_written p f steps short lower.2 normal.1,
)

pub chain_written : (p : ℕ) (f : Coefficients) (steps : List Pair) → length f ≤ 256 → AreLower f steps → All (IsNormalPair p) steps → AreWritten limits p steps
chain_written p f steps short lower normal = steps_written p f steps short lower (recursion_from_All (IsNormalPair p) steps normal)

-- ---- its line

terms-multiple : (c x k : ℕ) (a : Coefficients) → terms_from x k (multiple c a) ≡ scaled c (terms_from x k a)
terms-multiple c x k [] = refl
terms-multiple c x k (d ∷ a) = ap (λ (ts : Terms). (c * d, power_of x k) ∷ ts) (terms-multiple c x (suc k) a)

-- the line of a chain is the last remainder less X
pub fermat_is_line : (p x : ℕ) (r : Coefficients) → 0 < p → IsLineIn p x (without_x p r) (fermat_line p x r)
unfolding fermat_line
fermat_is_line p x r positive = record {
  normal = normal_is_normal p (difference p (terms_in x r) (terms_in x indeterminate)) positive;
  same = λ m.
      normal_same p (difference p (terms_in x r) (terms_in x indeterminate)) m
      ∙ ap (λ (ts : Terms). coefficient p (terms_in x r ++ ts) m) (sym (terms-multiple (p - 1) x 0 indeterminate))
      ∙ sym (sum_in_ring p x r (multiple (p - 1) indeterminate) m);
}

length-plus : (a b : Coefficients) → length (plus a b) ≡ max (length a) (length b)
length-plus [] b = omega arith
length-plus (x ∷ a) [] = omega arith
length-plus (x ∷ a) (y ∷ b) = omega (arith, length-plus a b)

-- it has no more coefficients than the line that it is modulo
pub fermat_short : (p : ℕ) (f : Coefficients) (steps : List Pair) → 2 ≤ length f → AreLower f steps → length (without_x p (last_remainder indeterminate steps)) ≤ length f
fermat_short p f steps some lower =
    let last = last_short f indeterminate steps some lower in
    let sum = length-plus (last_remainder indeterminate steps) (multiple (p - 1) indeterminate) in
    let two : length (multiple (p - 1) indeterminate) ≡ 2 = refl in
    omega arith
