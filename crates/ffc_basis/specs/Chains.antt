-- Buchberger's second criterion, tested by the first two monomials of lines or by leading monomials of S-polynomials
-- (Buchberger 1979; Cox, Little and O'Shea, chapter 2, section 10, proposition 8).
use Rattle.std.specs.Prelude.{◌≡◌, ◌≢◌, ℕ, List, [], Option, Some, None, IfSome, IfNone, get_or}
use Rattle.std.specs.declared.cmp.Ordering.{Ordering}
use Rattle.std.specs.declared.cmp.Ordering.TheVariants.{Greater}
use Rattle.ffc_field.specs.Modular.{mul_mod}
use Rattle.ffc_ring.specs.Monomial.{Monomial, IsMonomial, Divides, mono_mul, mono_lcm, mono_quotient}
use Rattle.ffc_ring.specs.Polynomial.{Terms, AreTerms, coefficient}
use Rattle.ffc_mono.specs.Leading.{IsLeading}
use Rattle.ffc_basis.specs.declared.chain.Raised.{Raised}
use Rattle.ffc_basis.specs.declared.chain.Top.{Top}
use Rattle.ffc_basis.specs.declared.leads.Whole.{Whole}
use Rattle.ffc_basis.specs.Completion.{IsSPolynomial}

-- the monomial is at most this one; where there is none, there is no monomial
abbrev pub IsAtMost : (Monomial → Monomial → Ordering) → Option Monomial → Monomial → Type 0
IsAtMost cmp None m = ⊥
IsAtMost cmp (Some k) m = cmp m k ≢ Greater

-- the second monomial, other than the first, times the quotient is this one
abbrev pub IsSecond : ℕ → Terms → Monomial → Monomial → Monomial → Type 0
IsSecond p ts first quotient k =
    (coefficient p ts (get_or ts 1 (0, [])).1 ≡ (get_or ts 1 (0, [])).0) × ((get_or ts 1 (0, [])).0 ≢ 0)
    × ((get_or ts 1 (0, [])).1 ≢ first) × (mono_mul quotient (get_or ts 1 (0, [])).1 ≡ k)

-- The leading monomial of the polynomial divides this multiple. Of the other monomials, multiplied by the quotient,
-- this is the greatest, if there are any.
pub record IsRaised (p : ℕ) (cmp : Monomial → Monomial → Ordering) (ts : Terms) (top : Monomial) (r : Raised) : Type 0 where
  pub coefficient_first : ℕ
  pub first : Monomial
  pub leads : IsLeading p cmp ts coefficient_first first
  pub divides : Divides first top
  pub others : (n : Monomial) → coefficient p ts n ≢ 0 → n ≢ first → IsAtMost cmp r.second (mono_mul (mono_quotient top first) n)
  pub second : IfSome r.second (IsSecond p ts first (mono_quotient top first))

-- The leading monomial of the polynomial divides this multiple, and no other monomial, multiplied by the quotient, is
-- above this one.
pub record IsUnder (p : ℕ) (cmp : Monomial → Monomial → Ordering) (ts : Terms) (top lead : Monomial) : Type 0 where
  pub coefficient_first : ℕ
  pub first : Monomial
  pub leads : IsLeading p cmp ts coefficient_first first
  pub divides : Divides first top
  pub others : (n : Monomial) → coefficient p ts n ≢ 0 → n ≢ first → cmp (mono_mul (mono_quotient top first) n) lead ≢ Greater

-- the second coefficients are apart, each divided by the leading one of its polynomial
abbrev pub AreApart : ℕ → (Monomial → Monomial → Ordering) → Terms → Terms → Type 0
AreApart p cmp a b =
    (c : ℕ) (m : Monomial) (d : ℕ) (n : Monomial) → IsLeading p cmp a c m → IsLeading p cmp b d n
    → mul_mod p (get_or a 1 (0, [])).0 d ≢ mul_mod p (get_or b 1 (0, [])).0 c

-- the least common multiple of both leading monomials
abbrev pub IsLeadLcm : ℕ → (Monomial → Monomial → Ordering) → Terms → Terms → Monomial → Type 0
IsLeadLcm p cmp a b top =
    (c : ℕ) × (m : Monomial) × (d : ℕ) × (n : Monomial) × IsLeading p cmp a c m × IsLeading p cmp b d n × (top ≡ mono_lcm m n)

-- the leading monomial of each S-polynomial of both is this
abbrev pub IsLeadOfAll : ℕ → (Monomial → Monomial → Ordering) → Terms → Terms → Monomial → Type 0
IsLeadOfAll p cmp a b lead = (s : Terms) → IsSPolynomial p cmp a b s → (e : ℕ) × IsLeading p cmp s e lead

-- the least common multiple of the leading monomials of two polynomials, and the leading monomial of their
-- S-polynomial, which no monomial of both multiples is above but their leading ones
pub record IsTop (p : ℕ) (cmp : Monomial → Monomial → Ordering) (a b : Terms) (t : Top) : Type 0 where
  pub multiple : IsLeadLcm p cmp a b t.lcm
  pub first : IsUnder p cmp a t.lcm t.lead
  pub second : IsUnder p cmp b t.lcm t.lead
  pub leading : IsLeadOfAll p cmp a b t.lead

-- the least common multiple of the leading monomials of two lines, and the leading monomial of their S-polynomial,
-- which may be 0
pub record IsWholeOfPair (p : ℕ) (cmp : Monomial → Monomial → Ordering) (gs : List Terms) (i j : ℕ) (t : Whole) : Type 0 where
  pub first_coefficient : ℕ
  pub first : Monomial
  pub second_coefficient : ℕ
  pub second : Monomial
  pub polynomial : Terms
  pub lists : AreTerms polynomial
  pub first_leads : IsLeading p cmp (get_or gs i []) first_coefficient first
  pub second_leads : IsLeading p cmp (get_or gs j []) second_coefficient second
  pub multiple : t.lcm ≡ mono_lcm first second
  pub s_polynomial : IsSPolynomial p cmp (get_or gs i []) (get_or gs j []) polynomial
  pub none : IfNone t.lead (polynomial ≡ [])
  pub some : IfSome t.lead (λ k. (e : ℕ) × IsLeading p cmp polynomial e k)

-- Raised to this common multiple, the S-polynomial has no leading monomial above this one.
abbrev pub IsNoHigher : (Monomial → Monomial → Ordering) → Whole → Monomial → Monomial → Type 0
IsNoHigher cmp t top lead =
    (u : Monomial) × IsMonomial u × (mono_mul t.lcm u ≡ top) × IfSome t.lead (λ k. cmp (mono_mul u k) lead ≢ Greater)
