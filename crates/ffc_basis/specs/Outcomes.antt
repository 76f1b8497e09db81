-- What the S-polynomial of two lines gives.
use Rattle.std.specs.Prelude.{◌≡◌, ℕ, ◌<◌, ◌⊎◌, ◌++◌, List, [], ◌∷◌, length, get_or}
use Rattle.std.specs.declared.cmp.Ordering.{Ordering}
use Rattle.ffc_field.specs.Modular.{mul_mod, neg_mod}
use Rattle.ffc_ring.specs.Monomial.{Monomial}
use Rattle.ffc_ring.specs.Polynomial.{Terms, SamePolynomial, term_product, scaled, difference, PassesDegree, PassesTerms}
use Rattle.ffc_mono.specs.Leading.{IsLeading}
use Rattle.ffc_line.specs.declared.line.Line.{Line}
use Rattle.ffc_basis.specs.declared.spoly.Outcome.{Outcome}
use Rattle.ffc_basis.specs.declared.spoly.Outcome.TheVariants.{Closed, Over, Added}
use Rattle.ffc_basis.specs.declared.spoly.SPolynomial.{SPolynomial}
use Rattle.ffc_line.specs.Lines.{Parts, combination, AreBefore, IsLine}
use Rattle.ffc_basis.specs.Completion.{IsSPolynomial, IsPairOver}
use Rattle.ffc_basis.specs.Completed.{IsAddedLine}
use Rattle.ffc_basis.specs.PairTable.{AreBothClosed}

-- the outcome is right of the pair
abbrev pub IsOutcome : {F O : Type 0} → ℕ → (Monomial → Monomial → Ordering) → List Terms → ℕ → ℕ → Outcome F O → Type 0
IsOutcome p cmp gs i j Closed = AreBothClosed p cmp gs i j
IsOutcome p cmp gs i j Over = IsPairOver p cmp gs i j
IsOutcome p cmp gs i j (Added l) = IsLine p gs (length gs) l × IsAddedLine p cmp gs l × AreBothClosed p cmp (gs ++ l.poly ∷ []) i j

-- the S-polynomial of two lines, and the two multiples that it is the sum of
pub record IsSum {F O : Type 0} (p : ℕ) (value : F → ℕ) (cmp : Monomial → Monomial → Ordering) (gs : List Terms) (i j : ℕ) (s : SPolynomial F O) : Type 0 where
  pub polynomial : IsSPolynomial p cmp (get_or gs i []) (get_or gs j []) s.poly
  pub first : s.first.line ≡ i
  pub second : s.second.line ≡ j
  pub sum : SamePolynomial p s.poly
      (term_product (value s.first.coefficient) s.first.monomial (get_or gs i []) ++ term_product (value s.second.coefficient) s.second.monomial (get_or gs j []))

-- one of the two multiples has too high a degree, or their difference too many terms
abbrev pub PassesDifference : ℕ → Terms → ℕ → Monomial → Terms → ℕ → Monomial → Type 0
PassesDifference p a k u b l v =
    PassesDegree p 1024 ((k, u) ∷ []) a ⊎ (PassesDegree p 1024 ((l, v) ∷ []) b ⊎ PassesTerms p 131072 (difference p (term_product k u a) (term_product l v b)))

-- the parts times a constant
abbrev pub AreScaled : ℕ → ℕ → Parts → Parts → Type 0
AreScaled p c [] [] = Unit {0}
AreScaled p c [] (u ∷ us) = ⊥
AreScaled p c (t ∷ ts) [] = ⊥
AreScaled p c (t ∷ ts) (u ∷ us) = (u.0 ≡ t.0) × SamePolynomial p u.1 (scaled c t.1) × AreScaled p c ts us

-- two multiples of lines are subtracted besides
pub record AreSubtracted (p : ℕ) (old : Parts) (i k : ℕ) (u : Monomial) (j l : ℕ) (v : Monomial) (new : Parts) : Type 0 where
  pub sum : (gs : List Terms) → SamePolynomial p (combination gs new)
      ((combination gs old ++ term_product (neg_mod p k) u (get_or gs i [])) ++ term_product (neg_mod p l) v (get_or gs j []))
  pub before : (n : ℕ) → i < n → j < n → AreBefore n old → AreBefore n new

-- the polynomial, times the inverse of its leading coefficient, and the parts, negated and times that
pub record IsMonic {F O : Type 0} (p : ℕ) (cmp : Monomial → Monomial → Ordering) (poly : Terms) (parts : Parts) (l : Line F O) : Type 0 where
  pub factor : ℕ
  pub below : factor < p
  pub coefficient : ℕ
  pub monomial : Monomial
  pub leading : IsLeading p cmp poly coefficient monomial
  pub inverse : mul_mod p factor coefficient ≡ 1
  pub multiple : SamePolynomial p l.poly (scaled factor poly)
  pub scaled_parts : AreScaled p (neg_mod p factor) parts l.parts.items
