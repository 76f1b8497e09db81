-- The tree that refutes by the values of variables: a line for each variable less its value, and then the division of a polynomial by
-- these lines (Cox, Little and O'Shea, "Ideals, Varieties, and Algorithms", chapter 2, section 3), written as one sum.
use Rattle.std.specs.Prelude.{◌≡◌, ℕ, zero, suc, ◌+◌, ◌-◌, ◌==◌, Bool, true, false, nat_lt, if◌then◌else◌, List, [], ◌∷◌, ◌++◌, length, map, Option, Some, None}
use Rattle.ffc_cert.specs.declared.entries.CertLine.{CertLine}
use Rattle.ffc_cert.specs.declared.entries.CertLine.TheVariants.{Combine, Close}
use Rattle.ffc_field.specs.Modular.{mul_mod, neg_mod}
use Rattle.ffc_ring.specs.Monomial.{Monomial}
use Rattle.ffc_ring.specs.Polynomial.{Terms}
use Rattle.ffc_trees.specs.TreeLines.{Multiple}
use Rattle.ffc_bounds.specs.Monomials.{power}
use Rattle.ffc_refutation.specs.declared.combination.Determined.{Determined}
use Rattle.ffc_refutation.specs.Combinations.{Summand}
use Rattle.ffc_refutation.specs.Written.{multiple_of, whole_line}
use Rattle.ffc_values.specs.declared.sums.Sums.{Sums}
use Rattle.ffc_values.specs.declared.dividing.Known.{Known}

-- Sums

-- The lines that add up multiples. The multiples of the next sum so far come first. A sum of enough multiples is written as a line,
-- whose number is the next one, and that line is the first multiple of the sum after it.
abbrev pub sums_lines : ℕ → List Multiple → List Multiple → List CertLine
sums_lines next pending [] = Combine pending ∷ []
sums_lines next pending (m ∷ ms) =
    if nat_lt (length pending) 448
    then sums_lines next (pending ++ m ∷ []) ms
    else Combine pending ∷ sums_lines (next + 1) (whole_line next ∷ m ∷ []) ms

-- the number of the next line
abbrev pub next_line : Sums → ℕ
next_line s = s.first + length s.lines.items

-- the lines of sums that are begun, with these multiples after theirs
abbrev pub written_with : Sums → List Multiple → List CertLine
written_with s ms = s.lines.items ++ sums_lines (next_line s) s.pending.items ms

-- what is added to sums: whatever multiples follow, the lines are those of the multiples that were added and of them
pub record Adds (added : List Multiple) (old new : Sums) : Type 0 where
  pub first : new.first ≡ old.first
  pub tree : (ms : List Multiple) → written_with new ms ≡ written_with old (added ++ ms)

-- what makes room leaves: whatever multiple is put to the next part, and whatever multiples follow, the lines are the same
pub record HasRoom (old new : Sums) : Type 0 where
  pub first : new.first ≡ old.first
  pub tree : (m : Multiple) (ms : List Multiple) → new.lines.items ++ sums_lines (next_line new) (new.pending.items ++ m ∷ []) ms ≡ written_with old (m ∷ ms)

-- Variables less their values

abbrev pub known_sum : ℕ → Determined → List CertLine
known_sum next k = sums_lines next [] (map multiple_of k.summands.items)

-- a sum for each variable, one after another
abbrev pub known_lines : ℕ → List Determined → List CertLine
known_lines next [] = []
known_lines next (k ∷ ks) = known_sum next k ++ known_lines (next + length (known_sum next k)) ks

-- each variable with its value, and the number of the last line of its sum
abbrev pub knowns_of : ℕ → List ℕ → List Determined → List Known
knowns_of next xs [] = []
knowns_of next [] (k ∷ ks) = []
knowns_of next (x ∷ xs) (k ∷ ks) =
    record { variable = x; line = next + length (known_sum next k) - 1; value = k.value } ∷ knowns_of (next + length (known_sum next k)) xs ks

-- Division

abbrev pub known_of : List Known → ℕ → Option Known
known_of [] x = None
known_of (k ∷ ks) x = if k.variable == x then Some k else known_of ks x

-- The quotient of c * x^e * m by x less its value: each power of x is the value times the one before, and a multiple of that line.
abbrev pub power_summands : ℕ → Known → Monomial → ℕ → ℕ → List Summand
power_summands p k m c zero = []
power_summands p k m c (suc e) = (k.line, (c, power k.variable e ++ m)) ∷ power_summands p k m (mul_mod p c k.value) e

-- the remainder's coefficient
abbrev pub power_rest : ℕ → ℕ → ℕ → ℕ → ℕ
power_rest p value c zero = c
power_rest p value c (suc e) = power_rest p value (mul_mod p c value) e

-- the quotients of c * m by one variable after another, each times the monomial u
abbrev pub term_summands : ℕ → List Known → Monomial → ℕ → Monomial → List Summand
term_summands p ks u c [] = []
term_summands p ks u c (f ∷ m) =
    elim (known_of ks f.0) [
      | None ↦ []
      | Some k ↦ power_summands p k (m ++ u) c f.1 ++ term_summands p ks u (power_rest p k.value c f.1) m
    ]

-- the quotients of the negated polynomial
abbrev pub quotients : ℕ → List Known → Monomial → Terms → List Summand
quotients p ks u [] = []
quotients p ks u (t ∷ ts) = term_summands p ks u (neg_mod p t.0) t.1 ++ quotients p ks u ts

-- The tree

-- what the difference of an equality's sides is multiplied by in the line of its literal: the inverse, numbered by the literal's place
abbrev pub inverse_of : ℕ → ℕ → Bool → Monomial
inverse_of nodes line false = []
inverse_of nodes line true = (nodes + line, 1) ∷ []

-- the line of the literal, less the multiples
abbrev pub last_summands : ℕ → List Known → Monomial → ℕ → Terms → List Summand
last_summands p ks u line sides = (line, (1, [])) ∷ quotients p ks u sides

abbrev pub values_tree : ℕ → ℕ → List ℕ → List Determined → ℕ → Monomial → Terms → List CertLine
values_tree p first xs ds line u sides =
    known_lines first ds
    ++ (sums_lines (first + length (known_lines first ds)) [] (map multiple_of (last_summands p (knowns_of first xs ds) u line sides))
    ++ Close ∷ [])
