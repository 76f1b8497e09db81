-- Lexicographic and graded reverse lexicographic order (Cox, Little and O'Shea, chapter 2, section 2,
-- definitions 3 and 6). Variables are numbered, and a lower number is an earlier variable.
use Rattle.std.specs.Prelude.{◌≡◌, ℕ, ◌<◌, ◌⊎◌, ◌↔◌, reverse}
use Rattle.std.specs.Ordering.{nat_cmp, ordering_then}
use Rattle.std.specs.declared.cmp.Ordering.{Ordering}
use Rattle.std.specs.declared.cmp.Ordering.TheVariants.{Less, Equal, Greater}
use Rattle.std.specs.Cmp.Lexicographic.{slice_cmp}
use Rattle.ffc_ring.specs.Monomial.{Monomial, IsMonomial, exponent, degree}

-- at the lowest-numbered variable where the exponents differ, a has the greater one
abbrev pub IsLexGreater : Monomial → Monomial → Type 0
IsLexGreater a b = (x : ℕ) × (exponent b x < exponent a x) × ((y : ℕ) → y < x → exponent a y ≡ exponent b y)

-- at the highest-numbered variable where the exponents differ, a has the smaller one
abbrev pub IsReverseLexGreater : Monomial → Monomial → Type 0
IsReverseLexGreater a b = (x : ℕ) × (exponent a x < exponent b x) × ((y : ℕ) → x < y → exponent a y ≡ exponent b y)

-- a has the greater total degree, or the same and is greater by the rule above
abbrev pub IsGradedReverseLexGreater : Monomial → Monomial → Type 0
IsGradedReverseLexGreater a b = (degree b < degree a) ⊎ ((degree a ≡ degree b) × IsReverseLexGreater a b)

-- a comparison answers by this relation: Greater where it holds, Less where it holds the other way round, and
-- Equal where the monomials are equal
pub record AnswersBy (greater : Monomial → Monomial → Type 0) (a b : Monomial) (answer : Ordering) : Type 0 where
  pub is_greater : (answer ≡ Greater) ↔ greater a b
  pub is_less : (answer ≡ Less) ↔ greater b a
  pub is_equal : (answer ≡ Equal) ↔ (a ≡ b)

-- Both orders as functions over the lists of powers. In lexicographic order the first powers that differ decide:
-- the one of the earlier variable is greater, and of one variable the one with the greater exponent.
abbrev pub lex_power_cmp : (ℕ × ℕ) → (ℕ × ℕ) → Ordering
lex_power_cmp p q = ordering_then (nat_cmp q.0 p.0) (nat_cmp p.1 q.1)

abbrev pub lex_cmp : Monomial → Monomial → Ordering
lex_cmp a b = slice_cmp lex_power_cmp a b

-- In the reverse order the last powers that differ decide: the one of the later variable is smaller, and of one
-- variable the one with the greater exponent.
abbrev pub last_power_cmp : (ℕ × ℕ) → (ℕ × ℕ) → Ordering
last_power_cmp p q = ordering_then (nat_cmp p.0 q.0) (nat_cmp p.1 q.1)

abbrev pub reverse_lex_cmp : Monomial → Monomial → Ordering
reverse_lex_cmp a b = slice_cmp last_power_cmp (reverse b) (reverse a)

abbrev pub graded_reverse_lex_cmp : Monomial → Monomial → Ordering
graded_reverse_lex_cmp a b = ordering_then (nat_cmp (degree a) (degree b)) (reverse_lex_cmp a b)

-- the functions are the orders, at all monomials
abbrev pub LexIsByFirstDifference : Type 0
LexIsByFirstDifference = (a b : Monomial) → IsMonomial a → IsMonomial b → AnswersBy IsLexGreater a b (lex_cmp a b)

abbrev pub GradedReverseLexIsByLastDifference : Type 0
GradedReverseLexIsByLastDifference =
    (a b : Monomial) → IsMonomial a → IsMonomial b → AnswersBy IsGradedReverseLexGreater a b (graded_reverse_lex_cmp a b)
