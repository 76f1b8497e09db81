-- Graded orders: the greater total degree is greater.
use Rattle.std.specs.Prelude.{◌≡◌, ℕ, ◌+◌, ◌<◌, ◌≤◌, List, [], ◌∷◌, length}
use Rattle.std.specs.declared.cmp.Ordering.{Ordering}
use Rattle.std.specs.declared.cmp.Ordering.TheVariants.{Greater}
use Rattle.ffc_field.specs.Binomial.{choose}
use Rattle.ffc_ring.specs.Monomial.{Monomial, IsMonomial, degree}
use Rattle.ffc_ring.specs.Counting.{IsIn}
use Rattle.ffc_mono.specs.MonomialOrder.{IsMonomialOrder}
use Rattle.ffc_mono.specs.Orders.{graded_reverse_lex_cmp}

abbrev pub IsGraded : (Monomial → Monomial → Ordering) → Type 0
IsGraded cmp = (m n : Monomial) → IsMonomial m → IsMonomial n → degree n < degree m → cmp m n ≡ Greater

abbrev pub GradedReverseLexIsGraded : Type 0
GradedReverseLexIsGraded = IsGraded graded_reverse_lex_cmp

-- over these variables the greater total degree is greater
abbrev pub IsGradedIn : List ℕ → (Monomial → Monomial → Ordering) → Type 0
IsGradedIn vs cmp =
    (m n : Monomial) → IsMonomial m → IsMonomial n → IsIn vs m → IsIn vs n → degree n < degree m → cmp m n ≡ Greater

-- in one variable it is so in each order
abbrev pub OneVariableIsGraded : Type 0
OneVariableIsGraded =
    (cmp : Monomial → Monomial → Ordering) → IsMonomialOrder cmp → (v : ℕ) → IsGradedIn (v ∷ []) cmp

-- the greater monomial has no lower degree
abbrev pub GreaterIsNoLower : Type 0
GreaterIsNoLower =
    (cmp : Monomial → Monomial → Ordering) → IsMonomialOrder cmp → IsGraded cmp → (m n : Monomial) → IsMonomial m → IsMonomial n
    → cmp m n ≡ Greater → degree n ≤ degree m

-- each is above the next
abbrev pub Descends : (Monomial → Monomial → Ordering) → Monomial → List Monomial → Type 0
Descends cmp m [] = Unit {0}
Descends cmp m (n ∷ ns) = (cmp m n ≡ Greater) × Descends cmp n ns

-- each is a monomial in these variables
abbrev pub AreIn : List ℕ → List Monomial → Type 0
AreIn vs [] = Unit {0}
AreIn vs (m ∷ ms) = IsMonomial m × IsIn vs m × AreIn vs ms

-- No order descends without end over finitely many variables that is graded: a descent from degree d has at most as
-- many monomials as there are up to d. Over all variables x0 > x1 > x2 > .. has no end.
abbrev pub DescentIsShort : Type 0
DescentIsShort =
    (cmp : Monomial → Monomial → Ordering) → IsMonomialOrder cmp → IsGraded cmp → (vs : List ℕ) (d : ℕ) (m : Monomial) (ms : List Monomial)
    → AreIn vs (m ∷ ms) → degree m ≤ d → Descends cmp m ms → length (m ∷ ms) ≤ choose (length vs + d) d

-- in one variable no order does: a descent from degree d has at most as many monomials as there are up to d
abbrev pub DescentInOneIsShort : Type 0
DescentInOneIsShort =
    (cmp : Monomial → Monomial → Ordering) → IsMonomialOrder cmp → (v d : ℕ) (m : Monomial) (ms : List Monomial)
    → AreIn (v ∷ []) (m ∷ ms) → degree m ≤ d → Descends cmp m ms → length (m ∷ ms) ≤ choose (1 + d) d
