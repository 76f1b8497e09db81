-- Lists of terms: how many they are, their degrees, and polynomials as they are written.
use Rattle.std.proofs.Common.{◌≡◌, ℕ, zero, suc, ◌+◌, ◌*◌, ◌%◌, ◌<◌, ◌≤◌, max, fold, true, eqb, [], ◌∷◌, length, refl, ap, ◌∙◌, inl, inr, arith, length-append}
use Rattle.std.specs.List.{AllByRecursion}
use Rattle.std.proofs.lemmas.Bool.{cases_eq, cond-true, cond-false, eq-eqb, ne_eqb, and_from}
use Rattle.ffc_ring.specs.Monomial.{Monomial, degree, mono_mul}
use Rattle.ffc_ring.specs.Polynomial.{Terms, SamePolynomial, term_product, product}
use Rattle.ffc_ring.proofs.MonomialLemmas.{degree-mono_mul}
use Rattle.ffc_ring.proofs.PolynomialLemmas.{cases_monomial, weighted, SamePolynomial-from_weighted}
use Rattle.ffc_uni.specs.Univariate.{Coefficients, IsNormal, power_of, terms_from, terms_in}
use Rattle.ffc_uni.proofs.ValueLemmas.{normal_head, normal_tail}
use Rattle.ffc_trees.specs.Normal.{term_before, with_term, normal, degree_of}
use Rattle.ffc_trees.specs.NodePolynomials.{EachMonomial}
use Rattle.ffc_trees.specs.TreeLines.{is_power, is_in}
use Rattle.ffc_trees.proofs.NormalLemmas.{none_before, some_before, met, passed_by}
use Rattle.ffc_refutation.proofs.Monomials.{each_append, each_normal}
use Rattle.ffc_lemmatree.specs.Written.{nonzero, written_in}

-- ---- how many terms there are

length-before : (p c : ℕ) (m : Monomial) (ts : Terms) → length (term_before p c m ts) ≤ suc (length ts)
length-before p c m ts =
    elim (cases_eq (c % p) 0) as (λ _. length (term_before p c m ts) ≤ suc (length ts)) [
      | inl none ↦ rw (none_before p c m ts none) (omega arith)
      | inr some ↦ rw (some_before p c m ts some) (omega arith)
    ]

length-with_term : (p c : ℕ) (m : Monomial) (ts : Terms) → length (with_term p c m ts) ≤ suc (length ts)
length-with_term p c m [] = length-before p c m []
length-with_term p c m (t ∷ ts) =
    elim (cases_monomial m t.1) as (λ _. length (with_term p c m (t ∷ ts)) ≤ suc (length (t ∷ ts))) [
      | inl e ↦ rw (met p c m t ts e) (let h = length-before p (c + t.0) m ts in omega arith)
      | inr other ↦ rw (passed_by p c m t ts other) (let h = length-with_term p c m ts in omega arith)
    ]

-- a normal list has no more terms than the list that it is of
pub length-normal : (p : ℕ) (ts : Terms) → length (normal p ts) ≤ length ts
unfolding normal
length-normal p [] = omega arith
length-normal p (t ∷ ts) = let h = length-with_term p t.0 t.1 (normal p ts) in let rest = length-normal p ts in omega arith

length-term_product : (c : ℕ) (m : Monomial) (ts : Terms) → length (term_product c m ts) ≡ length ts
length-term_product c m [] = refl
length-term_product c m (t ∷ ts) = ap suc (length-term_product c m ts)

pub length-product : (a b : Terms) → length (product a b) ≡ length a * length b
length-product [] b = omega arith
length-product (t ∷ a) b =
    let rest : length (product a b) ≡ length a * length b = length-product a b in
    let step : suc (length a) * length b ≡ length b + length a * length b = omega arith in
    omega (arith, length-append (term_product t.0 t.1 b) (product a b), length-term_product t.0 t.1 b)

-- ---- degrees

-- each monomial is of this degree at most
abbrev pub AreLow : ℕ → Terms → Type 0
AreLow d ts = EachMonomial (λ m. degree m ≤ d) ts

low_from : (d s : ℕ) (ts : Terms) → fold (λ a (t : ℕ × Monomial). max a (degree t.1)) s ts ≤ d → (s ≤ d) × AreLow d ts
low_from d s [] h = (h, tt)
low_from d s (t ∷ ts) h = let rest = low_from d (max s (degree t.1)) ts h in let first = rest.0 in (omega arith, (omega arith, rest.1))

pub low_by_degree : (d : ℕ) (ts : Terms) → degree_of ts ≤ d → AreLow d ts
low_by_degree d ts h = (low_from d 0 ts h).1

low-term_product : (d e c : ℕ) (m : Monomial) (ts : Terms) → degree m ≤ d → AreLow e ts → AreLow (d + e) (term_product c m ts)
low-term_product d e c m [] h low = tt
low-term_product d e c m (t ∷ ts) h low =
    let here : degree (mono_mul m t.1) ≡ degree m + degree t.1 = degree-mono_mul m t.1 in
    let one = low.0 in
    (omega arith, low-term_product d e c m ts h low.1)

pub low-product : (d e : ℕ) (a b : Terms) → AreLow d a → AreLow e b → AreLow (d + e) (product a b)
low-product d e [] b low other = tt
low-product d e (t ∷ a) b low other =
    each_append (λ m. degree m ≤ d + e) (term_product t.0 t.1 b) (product a b) (low-term_product d e t.0 t.1 b low.0 other) (low-product d e a b low.1 other)

-- ---- terms in one variable

pub length-terms_from : (x k : ℕ) (a : Coefficients) → length (terms_from x k a) ≡ length a
length-terms_from x k [] = refl
length-terms_from x k (c ∷ a) = ap suc (length-terms_from x (suc k) a)

degree-power_of : (x k : ℕ) → degree (power_of x k) ≡ k
degree-power_of x zero = refl
degree-power_of x (suc k) = omega arith

low-terms_from : (d x k : ℕ) (a : Coefficients) → k + length a ≤ d + 1 → AreLow d (terms_from x k a)
low-terms_from d x k [] h = tt
low-terms_from d x k (c ∷ a) h = (let e = degree-power_of x k in omega arith, low-terms_from d x (suc k) a (omega arith))

pub low-terms_in : (d x : ℕ) (a : Coefficients) → length a ≤ d + 1 → AreLow d (terms_in x a)
low-terms_in d x a h = low-terms_from d x 0 a (omega arith)

power_is_power : (x k : ℕ) → is_power x (power_of x k) ≡ true
power_is_power x zero = refl
power_is_power x (suc k) = eq-eqb x x refl

powers-terms_from : (x k : ℕ) (a : Coefficients) → EachMonomial (λ m. is_power x m ≡ true) (terms_from x k a)
powers-terms_from x k [] = tt
powers-terms_from x k (c ∷ a) = (power_is_power x k, powers-terms_from x (suc k) a)

alone_by_powers : (x : ℕ) (ts : Terms) → EachMonomial (λ m. is_power x m ≡ true) ts → is_in x ts ≡ true
alone_by_powers x [] each = refl
alone_by_powers x (t ∷ ts) each = and_from (is_power x t.1) (is_in x ts) each.0 (alone_by_powers x ts each.1)

-- the normal list of a polynomial in x has no other variable
pub alone-normal : (p x : ℕ) (a : Coefficients) → is_in x (normal p (terms_in x a)) ≡ true
alone-normal p x a = alone_by_powers x (normal p (terms_in x a)) (each_normal (λ m. is_power x m ≡ true) p (terms_in x a) (powers-terms_from x 0 a))

-- ---- terms as they are written

pub weighted-nonzero : (g : Monomial → ℕ) (ts : Terms) → weighted g (nonzero ts) ≡ weighted g ts
weighted-nonzero g [] = refl
weighted-nonzero g (t ∷ ts) =
    elim (cases_eq t.0 0) as (λ _. weighted g (nonzero (t ∷ ts)) ≡ weighted g (t ∷ ts)) [
      | inl none ↦
          ap (weighted g) (cond-true _ _ _ (eq-eqb t.0 0 none)) ∙ weighted-nonzero g ts
          ∙ (let e : t.0 * g t.1 ≡ 0 * g t.1 = ap (λ c. c * g t.1) none in omega arith)
      | inr some ↦
          ap (weighted g) (cond-false _ _ _ (ne_eqb t.0 0 some)) ∙ ap (λ n. t.0 * g t.1 + n) (weighted-nonzero g ts)
    ]

-- they are the same polynomial
pub nonzero_same : (p : ℕ) (ts : Terms) → SamePolynomial p (nonzero ts) ts
nonzero_same p ts = SamePolynomial-from_weighted p (nonzero ts) ts (λ g. ap (λ n. n % p) (weighted-nonzero g ts))

module _ (P : ℕ × Monomial → Type 0) where
  -- what holds of each term holds of those that are written
  pub all-nonzero : (ts : Terms) → AllByRecursion P ts → AllByRecursion P (nonzero ts)
  all-nonzero [] all = tt
  all-nonzero (t ∷ ts) all =
      elim (cases_eq t.0 0) as (λ _. AllByRecursion P (nonzero (t ∷ ts))) [
        | inl none ↦ rw (cond-true (eqb t.0 0) (nonzero ts) (t ∷ nonzero ts) (eq-eqb t.0 0 none)) (all-nonzero ts all.1)
        | inr some ↦ rw (cond-false (eqb t.0 0) (nonzero ts) (t ∷ nonzero ts) (ne_eqb t.0 0 some)) (all.0, all-nonzero ts all.1)
      ]

pub length-nonzero : (ts : Terms) → length (nonzero ts) ≤ length ts
length-nonzero [] = omega arith
length-nonzero (t ∷ ts) =
    elim (cases_eq t.0 0) as (λ _. length (nonzero (t ∷ ts)) ≤ length (t ∷ ts)) [
      | inl none ↦ rw (cond-true (eqb t.0 0) (nonzero ts) (t ∷ nonzero ts) (eq-eqb t.0 0 none)) (let rest = length-nonzero ts in omega arith)
      | inr some ↦ rw (cond-false (eqb t.0 0) (nonzero ts) (t ∷ nonzero ts) (ne_eqb t.0 0 some)) (let rest = length-nonzero ts in omega arith)
    ]

low_of_all : (d : ℕ) (ts : Terms) → AllByRecursion (λ (t : ℕ × Monomial). degree t.1 ≤ d) ts → AreLow d ts
low_of_all d [] all = tt
low_of_all d (t ∷ ts) all = (all.0, low_of_all d ts all.1)

all_of_low : (d : ℕ) (ts : Terms) → AreLow d ts → AllByRecursion (λ (t : ℕ × Monomial). degree t.1 ≤ d) ts
all_of_low d [] low = tt
all_of_low d (t ∷ ts) low = (low.0, all_of_low d ts low.1)

pub low-written_in : (d x : ℕ) (a : Coefficients) → length a ≤ d + 1 → AreLow d (written_in x a)
low-written_in d x a h =
    low_of_all d (written_in x a) (all-nonzero (λ t. degree t.1 ≤ d) (terms_in x a) (all_of_low d (terms_in x a) (low-terms_in d x a h)))

pub length-written_in : (x : ℕ) (a : Coefficients) → length (written_in x a) ≤ length a
length-written_in x a = let h = length-nonzero (terms_in x a) in let e = length-terms_from x 0 a in omega arith

residues-terms_from : (p x k : ℕ) (a : Coefficients) → IsNormal p a → AllByRecursion (λ (t : ℕ × Monomial). t.0 < p) (terms_from x k a)
residues-terms_from p x k [] is = tt
residues-terms_from p x k (c ∷ a) is = (normal_head p c a is, residues-terms_from p x (suc k) a (normal_tail p c a is))

pub residues-written_in : (p x : ℕ) (a : Coefficients) → IsNormal p a → AllByRecursion (λ (t : ℕ × Monomial). t.0 < p) (written_in x a)
residues-written_in p x a is = all-nonzero (λ t. t.0 < p) (terms_in x a) (residues-terms_from p x 0 a is)
