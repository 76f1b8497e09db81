-- Steps one after another.
use Rattle.std.proofs.Common.{◌≡◌, ℕ, zero, suc, ◌<◌, ◌≤◌, Bool, true, false, List, [], ◌∷◌, ◌++◌, length, Some, refl, sym, ap, ◌∙◌, arith, append_assoc}
use Rattle.std.specs.List.{slice_get}
use Rattle.ffc_uni.specs.Univariate.{Coefficients, SameUnivariate, indeterminate, times}
use Rattle.ffc_uni.specs.Chains.{Pair, IsDivision, IsChainFrom, IsWithDigit, AreLower, last_remainder}
use Rattle.ffc_uni.proofs.Coefficients.{products_alike}

-- ---- the last remainder

pub last_remainder_at : (r : Coefficients) (steps : List Pair) (s : Pair) (k : ℕ) → suc k ≡ length steps → slice_get steps k ≡ Some s → s.1 ≡ last_remainder r steps
last_remainder_at r [] s k whole here = absurd (omega arith)
last_remainder_at r (t ∷ []) s zero whole here = let same : t ≡ s = cc in ap (λ (u : Pair). u.1) (sym same)
last_remainder_at r (t ∷ u ∷ steps) s zero whole here = absurd (omega arith)
last_remainder_at r (t ∷ steps) s (suc k) whole here = last_remainder_at t.1 steps s k (omega arith) here

pub last_remainder-push : (r : Coefficients) (steps : List Pair) (s : Pair) → last_remainder r (steps ++ s ∷ []) ≡ s.1
last_remainder-push r [] s = refl
last_remainder-push r (t ∷ steps) s = last_remainder-push t.1 steps s

pub same_last : (p : ℕ) (a b : Coefficients) (steps : List Pair) → SameUnivariate p a b → SameUnivariate p (last_remainder a steps) (last_remainder b steps)
same_last p a b [] same = same
same_last p a b (s ∷ steps) same = λ k. refl

-- ---- chains

pub chain-append : (p : ℕ) (f r : Coefficients) (ds es : List Bool) (a b : List Pair) →
    IsChainFrom p f r ds a → IsChainFrom p f (last_remainder r a) es b → IsChainFrom p f r (ds ++ es) (a ++ b)
chain-append p f r [] es [] b first second = second
chain-append p f r [] es (s ∷ a) b first second = absurd first
chain-append p f r (d ∷ ds) es [] b first second = absurd first
chain-append p f r (false ∷ ds) es (s ∷ a) b first second = (first.0, chain-append p f s.1 ds es a b first.1 second)
chain-append p f r (true ∷ ds) es (s ∷ []) b first second = absurd first
chain-append p f r (true ∷ ds) es (s ∷ t ∷ a) b first second = (first.0, first.1, chain-append p f t.1 ds es a b first.2 second)

pub lower-append : (f : Coefficients) (a b : List Pair) → AreLower f a → AreLower f b → AreLower f (a ++ b)
lower-append f [] b first second = second
lower-append f (s ∷ a) b first second = (first.0, first.1, lower-append f a b first.2 second)

-- the last remainder has no more coefficients than f, where X has not
pub last_short : (f x : Coefficients) (steps : List Pair) → length x ≤ length f → AreLower f steps → length (last_remainder x steps) ≤ length f
last_short f x [] short lower = short
last_short f x (s ∷ steps) short lower = last_short f s.1 steps (omega (arith, lower.0)) lower.2

-- ---- one more digit

division_of_same : (p : ℕ) (f a b : Coefficients) (s : Pair) → SameUnivariate p a b → IsDivision p f b s → IsDivision p f a s
division_of_same p f a b s same division k = same k ∙ division k

-- the square of the last remainder, from another polynomial that is X too
square_of_last : (p : ℕ) (f x : Coefficients) (steps : List Pair) (s : Pair) → SameUnivariate p x indeterminate →
    IsDivision p f (times (last_remainder x steps) (last_remainder x steps)) s →
    IsDivision p f (times (last_remainder indeterminate steps) (last_remainder indeterminate steps)) s
square_of_last p f x steps s same division =
    let r : Coefficients = last_remainder x steps
    in let q : Coefficients = last_remainder indeterminate steps
    in let last : SameUnivariate p q r = same_last p indeterminate x steps (λ k. sym (same k))
    in division_of_same p f (times q q) (times r r) s (products_alike p q r q r last last) division

pub with_square : (p : ℕ) (f x last : Coefficients) (steps new : List Pair) (s : Pair) (d : Bool) →
    SameUnivariate p x indeterminate → last ≡ last_remainder x steps → d ≡ false
    → IsDivision p f (times last last) s → length s.1 < length f → length s.0 ≤ length f → new ≡ steps ++ s ∷ []
    → IsWithDigit p f d steps new
with_square p f x last steps new s d same last_is none division lower short pushed =
    let square = square_of_last p f x steps s same (rw last_is at division)
    in (s ∷ [], pushed, rw none (square, tt), (lower, short, tt))

pub with_next : (p : ℕ) (f x last second : Coefficients) (steps middle new : List Pair) (s t : Pair) (d : Bool) →
    SameUnivariate p x indeterminate → last ≡ last_remainder x steps → second ≡ last_remainder x middle → d ≡ true
    → IsDivision p f (times last last) s → length s.1 < length f → length s.0 ≤ length f → middle ≡ steps ++ s ∷ []
    → IsDivision p f (times x second) t → length t.1 < length f → length t.0 ≤ length f → new ≡ middle ++ t ∷ []
    → IsWithDigit p f d steps new
with_next p f x last second steps middle new s t d same last_is second_is one division lower short pushed next next_lower next_short next_pushed =
    let square = square_of_last p f x steps s same (rw last_is at division)
    in let here : second ≡ s.1 = second_is ∙ ap (last_remainder x) pushed ∙ last_remainder-push x steps s
    in let product : IsDivision p f (times indeterminate s.1) t =
    division_of_same p f (times indeterminate s.1) (times x s.1) t
    (products_alike p indeterminate x s.1 s.1 (λ k. sym (same k)) (λ k. refl))
    (rw here at next)
    in (s ∷ t ∷ [], next_pushed ∙ ap (λ a. a ++ t ∷ []) pushed ∙ append_assoc steps (s ∷ []) (t ∷ []), rw one (square, product, tt), (lower, short, (next_lower, next_short, tt)))
