-- Chains: the factors of a power, and the rules of a chain and of its steps, one after another.
use Rattle.std.proofs.Common.{◌≡◌, ◌≢◌, ℕ, zero, suc, ◌-◌, ◌/◌, ◌%◌, ◌^◌, ◌<◌, ◌≤◌, ◌==◌, Bool, true, false, not, ◌&&◌, List, [], ◌∷◌, ◌++◌, length, map, reverse, Ok, Err, refl, sym, ap, ap₂, ◌∙◌, arith, append_assoc}
use Rattle.std.proofs.lemmas.Bool.{cond-true, cond-false, le-ltb, lt-ltb, eq-eqb, ne_eqb}
use Rattle.std.proofs.lemmas.List.{reverse-append, reverse-reverse, length-map, length-reverse}
use Rattle.std.proofs.Math.Nat.{mod-mod}
use Rattle.ffc_ring.specs.Polynomial.{Terms, SamePolynomial, scaled, difference}
use Rattle.ffc_ring.proofs.PolynomialLemmas.{same_sums, same_term_products}
use Rattle.ffc_uni.specs.Univariate.{Coefficients, indeterminate, plus, times, SameUnivariate, terms_in}
use Rattle.ffc_uni.specs.Chains.{binary, behind_first, digits_of, pairs_over, pair_count}
use Rattle.ffc_trees.specs.TreeLines.{limits, Factor, Itself, Variable, factors_over, times_factor, line_at, is_in, coefficients_of, are_below, is_same, chain_line, step_line, fermat_line}
use Rattle.ffc_trees.specs.Normal.{IsNormal}
use Rattle.ffc_trees.specs.Same.{IsSameLine}
use Rattle.ffc_trees.proofs.NormalLemmas.{normal_same, normal_is_normal}
use Rattle.ffc_uni.proofs.RingLemmas.{same_in_ring}
use Rattle.ffc_cktree.proofs.RowLemmas.{is_same-alike}
use Rattle.ffc_cktree.specs.declared.chain.Factor.{Factor as Written}
use Rattle.ffc_uni.proofs.Coefficients.{plus_alike, products_alike}
use Rattle.ffc_cktree.specs.Factors.{factor_of, factors_of}
use Rattle.ffc_cktree.specs.Identities.{is_identity}

-- ---- factors

-- the factors of the binary digits that are left
abbrev pub left_over : Bool → List Bool → List Factor
left_over true ds = factors_over ds
left_over false ds = factors_over (behind_first ds)

pub left-nothing : (begun : Bool) → left_over begun [] ≡ []
left-nothing true = refl
left-nothing false = refl

pub digit_begun : (d : Bool) (ds : List Bool) → left_over true (d ∷ ds) ≡ factors_over (d ∷ []) ++ left_over true ds
digit_begun true ds = refl
digit_begun false ds = refl

pub digit_waits : (d : Bool) (ds : List Bool) → left_over false (d ∷ ds) ≡ left_over d ds
digit_waits true ds = refl
digit_waits false ds = refl

pub all_digits : (p : ℕ) → left_over false (binary 64 p) ≡ factors_over (digits_of p)
unfolding digits_of
all_digits p = refl

length-factors : (ds : List Bool) → length (factors_over ds) ≡ pairs_over ds
length-factors [] = refl
length-factors (false ∷ ds) = omega (arith, length-factors ds)
length-factors (true ∷ ds) = omega (arith, length-factors ds)

pub count_is : (p : ℕ) (fs : List Written) → factors_of fs ≡ factors_over (digits_of p) → length fs ≡ pair_count p
count_is p fs e = sym (length-reverse fs) ∙ sym (length-map (reverse fs) factor_of) ∙ ap length e ∙ length-factors (digits_of p)

pub factors-reverse : (fs : List Written) → factors_of (reverse fs) ≡ map factor_of fs
factors-reverse fs = ap (map factor_of) (reverse-reverse fs)

pub factors-push : (fs : List Written) (f : Written) → factors_of (fs ++ f ∷ []) ≡ factor_of f ∷ factors_of fs
factors-push fs f = ap (map factor_of) (reverse-append fs (f ∷ []))

-- ---- the rules of a chain

module _ (p : ℕ) (lines : List Terms) (k x steps : ℕ) where
  pub chain_missing : length lines ≤ k → chain_line p lines k x steps ≡ Err 12
  unfolding chain_line
  chain_missing h = cond-true _ _ _ (ap not (le-ltb k (length lines) h))

  pub chain_elsewhere : k < length lines → is_in x (line_at lines k) ≡ false → chain_line p lines k x steps ≡ Err 6
  unfolding chain_line
  chain_elsewhere h e = cond-false _ _ _ (ap not (lt-ltb k (length lines) h)) ∙ cond-true _ _ _ (ap (λ b. not (b && (steps == pair_count p))) e)

  pub chain_other_length : k < length lines → is_in x (line_at lines k) ≡ true → steps ≢ pair_count p → chain_line p lines k x steps ≡ Err 6
  unfolding chain_line
  chain_other_length h e n = cond-false _ _ _ (ap not (lt-ltb k (length lines) h)) ∙ cond-true _ _ _ (ap₂ (λ a b. not (a && b)) e (ne_eqb steps (pair_count p) n))

  pub chain_begun : k < length lines → is_in x (line_at lines k) ≡ true → steps ≡ pair_count p → chain_line p lines k x steps ≡ Ok (coefficients_of (line_at lines k))
  unfolding chain_line
  chain_begun h e n = cond-false _ _ _ (ap not (lt-ltb k (length lines) h)) ∙ cond-false _ _ _ (ap₂ (λ a b. not (a && b)) e (eq-eqb steps (pair_count p) n))

-- ---- the rules of a step

module _ (p : ℕ) (f : Coefficients) (factor : Factor) (r quotient remainder : Coefficients) where
  pub long_quotient : 1025 < length quotient → step_line limits p f factor r quotient remainder ≡ Err 11
  unfolding step_line
  long_quotient h = cond-true _ _ _ (lt-ltb 1025 (length quotient) h)

  pub long_remainder : length quotient ≤ 1025 → 1025 < length remainder → step_line limits p f factor r quotient remainder ≡ Err 11
  unfolding step_line
  long_remainder g h = cond-false _ _ _ (le-ltb 1025 (length quotient) g) ∙ cond-true _ _ _ (lt-ltb 1025 (length remainder) h)

  pub no_residues : length quotient ≤ 1025 → length remainder ≤ 1025 → (are_below p quotient && are_below p remainder) ≡ false → step_line limits p f factor r quotient remainder ≡ Err 6
  unfolding step_line
  no_residues g h e = cond-false _ _ _ (le-ltb 1025 (length quotient) g) ∙ cond-false _ _ _ (le-ltb 1025 (length remainder) h) ∙ cond-true _ _ _ (ap not e)

  pub no_identity : length quotient ≤ 1025 → length remainder ≤ 1025 → (are_below p quotient && are_below p remainder) ≡ true → is_same p (times_factor factor r) (plus (times quotient f) remainder) ≡ false → step_line limits p f factor r quotient remainder ≡ Err 6
  unfolding step_line
  no_identity g h e i = cond-false _ _ _ (le-ltb 1025 (length quotient) g) ∙ cond-false _ _ _ (le-ltb 1025 (length remainder) h) ∙ cond-false _ _ _ (ap not e) ∙ cond-true _ _ _ (ap not i)

  pub step_kept : length quotient ≤ 1025 → length remainder ≤ 1025 → (are_below p quotient && are_below p remainder) ≡ true → is_same p (times_factor factor r) (plus (times quotient f) remainder) ≡ true → step_line limits p f factor r quotient remainder ≡ Ok remainder
  unfolding step_line
  step_kept g h e i = cond-false _ _ _ (le-ltb 1025 (length quotient) g) ∙ cond-false _ _ _ (le-ltb 1025 (length remainder) h) ∙ cond-false _ _ _ (ap not e) ∙ cond-false _ _ _ (ap not i)

-- ---- one digit more

pub binary_at : (n p : ℕ) → 0 < n → binary n p ≡ (p / 2 ^ (n - 1) % 2 == 1) ∷ binary (n - 1) p
binary_at zero p h = absurd (omega arith)
binary_at (suc n) p h =
    let same : n ≡ suc n - 1 = omega arith in ap (λ (m : ℕ). (p / 2 ^ m % 2 == 1) ∷ binary m p) same

pub digit_after : (d : Bool) (ds : List Bool) (old new all : List Factor) → new ≡ old ++ factors_over (d ∷ []) → old ++ left_over true (d ∷ ds) ≡ all → new ++ left_over true ds ≡ all
digit_after d ds old new all e h =
    ap (λ fs. fs ++ left_over true ds) e ∙ append_assoc old (factors_over (d ∷ [])) (left_over true ds) ∙ ap (λ fs. old ++ fs) (sym (digit_begun d ds)) ∙ h

-- ---- the identity of a step, by other lists for the same polynomials

factor_alike : (p : ℕ) (factor : Factor) (a b : Coefficients) → SameUnivariate p a b → SameUnivariate p (times_factor factor a) (times_factor factor b)
factor_alike p Itself a b same = products_alike p a b a b same same
factor_alike p Variable a b same = products_alike p indeterminate indeterminate a b (λ k. refl) same

pub identity_alike : (p : ℕ) (f r quotient rest f' r' quotient' rest' : Coefficients) (factor : Factor) → SameUnivariate p f' f → SameUnivariate p r' r → SameUnivariate p quotient' quotient → SameUnivariate p rest' rest
    → is_identity p f' factor r' quotient' rest' ≡ is_identity p f factor r quotient rest
identity_alike p f r quotient rest f' r' quotient' rest' factor same_f same_r same_quotient same_rest =
    is_same-alike p (times_factor factor r') (plus (times quotient' f') rest') (times_factor factor r) (plus (times quotient f) rest)
    (factor_alike p factor r' r same_r)
    (plus_alike p (times quotient' f') (times quotient f) rest' rest (products_alike p quotient' quotient f' f same_quotient same_f) same_rest)

pub identity_tested : (p : ℕ) (f r quotient rest left right : Coefficients) (factor : Factor) → SameUnivariate p left (times_factor factor r) → SameUnivariate p right (plus (times quotient f) rest)
    → is_same p left right ≡ is_identity p f factor r quotient rest
identity_tested p f r quotient rest left right factor x y = is_same-alike p left right (times_factor factor r) (plus (times quotient f) rest) x y

-- ---- the line of a chain

pub fermat_is : (p x : ℕ) (r variable : Coefficients) (whole line s : Terms) → 0 < p → IsNormal p s → SamePolynomial p s (difference p whole line) → SamePolynomial p whole (terms_in x r) → SamePolynomial p line (terms_in x variable) → SameUnivariate p variable indeterminate → IsSameLine p s (fermat_line p x r)
unfolding fermat_line
fermat_is p x r variable whole line s some n same w l v =
    let line_is : SamePolynomial p line (terms_in x indeterminate) = λ m. l m ∙ same_in_ring p x variable indeterminate v m in
    let both : SamePolynomial p (difference p whole line) (difference p (terms_in x r) (terms_in x indeterminate)) =
    same_sums p whole (terms_in x r) (scaled (p - 1) line) (scaled (p - 1) (terms_in x indeterminate)) w (same_term_products p (p - 1) [] line (terms_in x indeterminate) line_is) in
    record {
      one = n;
      other = normal_is_normal p (difference p (terms_in x r) (terms_in x indeterminate)) some;
      same = λ m. same m ∙ both m ∙ sym (normal_same p (difference p (terms_in x r) (terms_in x indeterminate)) m);
    }

-- the row of x, with residues
pub variable_row : (p none one : ℕ) → none ≡ 0 % p → one ≡ 1 % p → SameUnivariate p (none ∷ one ∷ []) indeterminate
variable_row p none one e f zero = ap (λ k. k % p) e ∙ mod-mod 0 p
variable_row p none one e f (suc zero) = ap (λ k. k % p) f ∙ mod-mod 1 p
variable_row p none one e f (suc (suc k)) = refl
