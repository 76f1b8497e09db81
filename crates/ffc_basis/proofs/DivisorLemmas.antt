-- Lines found by an index: whose leading monomials divide a monomial, or share a variable with it.
use Rattle.std.proofs.Common.{◌≡◌, ◌≢◌, ◌⊎◌, inl, inr, ℕ, suc, ◌<◌, ◌==◌, ◌||◌, Bool, true, false, cond, List, [], ◌∷◌, length, get_or, All, Contains, Option, Some, None, IfSome, IfNone, refl, sym, ap, ◌∙◌, subst, arith}
use Rattle.std.proofs.lemmas.Bool.{cases_eq, cases_Bool, false≢true, eqb-true, eq-eqb}
use Rattle.std.proofs.lemmas.List.Elements.{All-get_or, All-contains}
use Rattle.std.specs.declared.cmp.Ordering.{Ordering}
use Rattle.ffc_field.specs.Modular.{IsPrime}
use Rattle.ffc_ring.specs.Monomial.{Monomial, IsMonomial, Divides, AreCoprime, exponent}
use Rattle.ffc_ring.specs.Polynomial.{Terms, coefficient}
use Rattle.ffc_mono.specs.MonomialOrder.{IsMonomialOrder}
use Rattle.ffc_mono.specs.Leading.{IsLeading}
use Rattle.ffc_mono.proofs.LeadingLemmas.{one_leading}
use Rattle.ffc_poly.specs.Ordered.{IsOrdered}
use Rattle.ffc_basis.specs.declared.index.Index.{Index}
use Rattle.ffc_line.specs.declared.line.Line.{Line}
use Rattle.ffc_basis.specs.declared.pair.PairRecord.{PairRecord}
use Rattle.ffc_basis.specs.Dividing.{LeadsDivisor, LeadsNoDivisor}
use Rattle.ffc_basis.specs.Indexing.{is_one, begins_with, has_variable, is_led, led_by, first_of, listed, IsIndexOf}
use Rattle.ffc_line.specs.Lines.{polys_of}
use Rattle.ffc_basis.specs.PairTable.{AreBothClosed, AreNeedless, HasRecord}
use Rattle.ffc_basis.specs.Reduction.{IsIrreducible}
use Rattle.ffc_basis.proofs.IndexLemmas.{led_by-has, led_by-below, led_by-led}
use Rattle.ffc_basis.proofs.Lists.{length-polys}
use Rattle.ffc_basis.proofs.NeedlessLemmas.{coprime_is_needless}
use Rattle.ffc_basis.proofs.OrderedTerms.{IsLeading-first, coefficient-none}
use Rattle.ffc_basis.proofs.PairTableLemmas.{IsColumn, IsOpenColumn}
use Rattle.ffc_basis.proofs.PartnerLemmas.{member}

-- ---- variables of monomials

same_number : (x : ℕ) → (x == x) ≡ true
same_number x = eq-eqb x x refl

-- a variable with an exponent other than 0 is one of the monomial
pub variable_of_exponent : (x : ℕ) (m : Monomial) → exponent m x ≢ 0 → has_variable x m ≡ true
variable_of_exponent x [] ne = absurd (ne refl)
variable_of_exponent x (f ∷ m) ne = by_case (x == f.0) (variable_of_exponent x m) ne
  where
    by_case : (b : Bool) → (exponent m x ≢ 0 → has_variable x m ≡ true) → cond b f.1 (exponent m x) ≢ 0 → (b || has_variable x m) ≡ true
    by_case true rest other = refl
    by_case false rest other = rest other

-- it has a place there
pub variable_at : (x : ℕ) (m : Monomial) → has_variable x m ≡ true → (k : ℕ) × (k < length m) × ((get_or m k (0, 0)).0 ≡ x)
variable_at x [] has = absurd (false≢true has)
variable_at x (f ∷ m) has =
    elim (cases_Bool (x == f.0)) as (λ _. (k : ℕ) × (k < suc (length m)) × ((get_or (f ∷ m) k (0, 0)).0 ≡ x)) [
      | inl same ↦ (0, omega arith, sym (eqb-true x f.0 same))
      | inr other ↦
          let there = variable_at x m (subst (λ b. (b || has_variable x m) ≡ true) other has) in
          (suc there.0, omega (arith, there.1), there.2)
    ]

-- the first variable of a divisor is one of the monomial
first_of_divisor : (f : ℕ × ℕ) (n m : Monomial) → IsMonomial (f ∷ n) → Divides (f ∷ n) m → has_variable f.0 m ≡ true
first_of_divisor f n m is divides =
    let own : exponent (f ∷ n) f.0 ≡ f.1 = ap (λ b. cond b f.1 (exponent n f.0)) (same_number f.0) in
    variable_of_exponent f.0 m (λ e. omega (arith, divides f.0, own, e, is.1))

-- ---- numbers, where there are any

-- the lesser of two is one of them
pub one_of : (a b r : Option ℕ) (P : ℕ → Type 0) → IfSome r (λ i. (a ≡ Some i) ⊎ (b ≡ Some i)) → IfSome a P → IfSome b P → IfSome r P
one_of a b None P is first second = tt
one_of a b (Some i) P (inl e) first second = subst (λ o. IfSome o P) e first
one_of a b (Some i) P (inr e) first second = subst (λ o. IfSome o P) e second

-- where there is none, there is none of both
pub none_of : (a b r : Option ℕ) (P Q : Type 0) → IfNone r ((a ≡ None) × (b ≡ None)) → IfNone a P → IfNone b Q → IfNone r (P × Q)
none_of a b (Some i) P Q is first second = tt
none_of a b None P Q (e, f) first second = (subst (λ o. IfNone o P) e first, subst (λ o. IfNone o Q) f second)

if_some : (o : Option ℕ) (P : ℕ → Type 0) → ((i : ℕ) → o ≡ Some i → P i) → IfSome o P
if_some None P f = tt
if_some (Some i) P f = f i refl

if_none : (o : Option ℕ) (P : Type 0) → (o ≡ None → P) → IfNone o P
if_none None P f = f refl
if_none (Some i) P f = tt

pub map_none : (o : Option ℕ) (P Q : Type 0) → (P → Q) → IfNone o P → IfNone o Q
map_none None P Q f h = f h
map_none (Some i) P Q f h = tt

-- ---- leading monomials

module _ (p : ℕ) (cmp : Monomial → Monomial → Ordering) (laws : IsMonomialOrder cmp) where
  -- the leading monomial of terms in order is the first one
  led_by_first : (ts : Terms) (c : ℕ) (n : Monomial) → IsOrdered p cmp 1024 ts → IsLeading p cmp ts c n → (test : Monomial → Bool) → is_led test ts ≡ test n
  led_by_first [] c n ordered lead test = absurd (lead.1 (sym lead.0 ∙ coefficient-none p n))
  led_by_first (t ∷ ts) c n ordered lead test =
      ap test (one_leading cmp laws p (t ∷ ts) t.0 c t.1 n (IsLeading-first p cmp laws 1024 t ts ordered) lead).1

  leading_monomial : (ts : Terms) (c : ℕ) (n : Monomial) → IsOrdered p cmp 1024 ts → IsLeading p cmp ts c n → IsMonomial n
  leading_monomial [] c n ordered lead = absurd (lead.1 (sym lead.0 ∙ coefficient-none p n))
  leading_monomial (t ∷ ts) c n ordered lead =
      subst IsMonomial (one_leading cmp laws p (t ∷ ts) t.0 c t.1 n (IsLeading-first p cmp laws 1024 t ts ordered) lead).1 ordered.2

  module _ (gs : List Terms) (index : Index) (is : IsIndexOf p cmp gs index) where
    ordered_at : (i : ℕ) → i < length gs → IsOrdered p cmp 1024 (get_or gs i [])
    ordered_at i below = All-get_or (IsOrdered p cmp 1024) gs i [] below is.ordered

    has_first : (ks : List ℕ) (i : ℕ) → Contains ks i → first_of ks ≡ None → ⊥
    has_first [] i (k, below, at) none = absurd (omega (arith, below))
    has_first (k ∷ ks) i has none = absurd cc

    -- where no constant is indexed and no line that begins with a variable of the monomial leads a divisor, no line does
    pub irreducible_by_index : (m : Monomial) → index.constant ≡ None → ((x : ℕ) → has_variable x m ≡ true → All (LeadsNoDivisor p cmp gs m) (listed index.by_first x)) → IsIrreducible p cmp gs m
    irreducible_by_index m none each i below c [] lead divides =
        let led : is_led is_one (get_or gs i []) ≡ true = led_by_first (get_or gs i []) c [] (ordered_at i below) lead is_one in
        has_first (led_by is_one gs) i (led_by-has is_one gs i below led) (sym is.constant ∙ none)
    irreducible_by_index m none each i below c (f ∷ n) lead divides =
        let led : is_led (begins_with f.0) (get_or gs i []) ≡ true = led_by_first (get_or gs i []) c (f ∷ n) (ordered_at i below) lead (begins_with f.0) ∙ same_number f.0 in
        let here : Contains (listed index.by_first f.0) i = subst (λ ks. Contains ks i) (sym (is.by_first f.0)) (led_by-has (begins_with f.0) gs i below led) in
        let monomial = leading_monomial (get_or gs i []) c (f ∷ n) (ordered_at i below) lead in
        All-contains (LeadsNoDivisor p cmp gs m) (listed index.by_first f.0) i (each f.0 (first_of_divisor f n m monomial divides)) here c (f ∷ n) lead divides

    first_is_one : (ks : List ℕ) (i : ℕ) → first_of ks ≡ Some i → Contains ks i
    first_is_one [] i e = absurd cc
    first_is_one (k ∷ ks) i e = (0, omega arith, same_some k i e)
      where
        same_some : (k i : ℕ) → Some k ≡ Some i → k ≡ i
        same_some k i e = cc

    one_leads : (ts : Terms) → is_led is_one ts ≡ true → IsOrdered p cmp 1024 ts → (c : ℕ) × IsLeading p cmp ts c []
    one_leads [] led ordered = absurd (false≢true led)
    one_leads (t ∷ ts) led ordered = (t.0, subst (IsLeading p cmp (t ∷ ts) t.0) (is_nothing t.1 led) (IsLeading-first p cmp laws 1024 t ts ordered))
      where
        is_nothing : (m : Monomial) → is_one m ≡ true → m ≡ []
        is_nothing [] e = refl
        is_nothing (f ∷ m) e = absurd (false≢true e)

    -- the indexed constant divides every monomial
    pub constant_divides : (m : Monomial) (i : ℕ) → index.constant ≡ Some i → LeadsDivisor p cmp gs m i
    constant_divides m i e =
        let at = led_by-led is_one gs i (first_is_one (led_by is_one gs) i (sym is.constant ∙ e)) in
        let lead = one_leads (get_or gs i []) at.1 (ordered_at i at.0) in
        record { within = at.0; coefficient = lead.0; monomial = []; leads = lead.1; divides = λ x. omega arith }

    -- what is known before the lists of a monomial's variables are looked at
    pub constant_begins : (m : Monomial) (Q : Type 0) → (index.constant ≡ None → Q) → IfSome index.constant (LeadsDivisor p cmp gs m) × IfNone index.constant Q
    constant_begins m Q f = (if_some index.constant (LeadsDivisor p cmp gs m) (constant_divides m), if_none index.constant Q f)

    -- the listed lines are there
    pub listed_within : (x : ℕ) → All (λ i. i < length gs) (listed index.by_first x)
    listed_within x = subst (All (λ i. i < length gs)) (sym (is.by_first x)) (led_by-below (begins_with x) gs)

    -- a line that is not listed for a variable of the leading monomial of another has no variable in common with it
    pub coprime_by_index : (i : ℕ) → i < length gs → (c : ℕ) (n m : Monomial) → IsLeading p cmp (get_or gs i []) c n
        → ((x : ℕ) → has_variable x m ≡ true → Contains (listed index.by_any x) i → ⊥) → AreCoprime n m
    coprime_by_index i below c n m lead apart x some =
        elim (cases_eq (exponent m x) 0) as (λ _. exponent m x ≡ 0) [
          | inl zero_there ↦ zero_there
          | inr also ↦
              let led : is_led (has_variable x) (get_or gs i []) ≡ true = led_by_first (get_or gs i []) c n (ordered_at i below) lead (has_variable x) ∙ variable_of_exponent x n some in
              absurd (apart x (variable_of_exponent x m also) (subst (λ ks. Contains ks i) (sym (is.by_any x)) (led_by-has (has_variable x) gs i below led)))
        ]

-- the same of lines
pub lines_within : {F O : Type 0} (p : ℕ) (cmp : Monomial → Monomial → Ordering) (laws : IsMonomialOrder cmp) (ls : List (Line F O)) (index : Index) (numbers : List ℕ) (x : ℕ)
    → IsIndexOf p cmp (polys_of ls) index → numbers ≡ listed index.by_first x → All (λ i. i < length ls) numbers
lines_within p cmp laws ls index numbers x is e =
    subst (All (λ i. i < length ls)) (sym e) (subst (λ n. All (λ i. i < n) (listed index.by_first x)) (length-polys ls) (listed_within p cmp laws (polys_of ls) index is x))

-- a polynomial that is 0 makes a pair needless
zero_is_needless : (p : ℕ) (cmp : Monomial → Monomial → Ordering) (a b : Terms) → a ≡ [] → AreNeedless p cmp a b
zero_is_needless p cmp a b e gs i j h g at bt =
    let none : (c : ℕ) (m : Monomial) → IsLeading p cmp (get_or gs i []) c m → ⊥ = λ c m lead. lead.1 (sym lead.0 ∙ ap (λ ts. coefficient p ts m) (at ∙ e) ∙ coefficient-none p m) in
    ((λ s poly. absurd (none poly.0 poly.1 poly.4)), (λ s poly. absurd (none poly.2 poly.3 poly.5)))

module _ (p : ℕ) (prime : IsPrime p) (cmp : Monomial → Monomial → Ordering) (laws : IsMonomialOrder cmp) (gs : List Terms) (index : Index) (is : IsIndexOf p cmp gs index) where
  first_leads : (ts : Terms) → IsOrdered p cmp 1024 ts → (ts ≡ []) ⊎ ((c : ℕ) × (n : Monomial) × IsLeading p cmp ts c n)
  first_leads [] ordered = inl refl
  first_leads (t ∷ ts) ordered = inr (t.0, t.1, IsLeading-first p cmp laws 1024 t ts ordered)

  -- such a line and the other one make a needless pair
  pub needless_by_index : (i second : ℕ) → i < length gs → second < length gs → (d : ℕ) (m : Monomial) → IsLeading p cmp (get_or gs second []) d m
      → ((x : ℕ) → has_variable x m ≡ true → Contains (listed index.by_any x) i → ⊥) → AreNeedless p cmp (get_or gs i []) (get_or gs second [])
  needless_by_index i second below within d m lead apart =
      elim (first_leads (get_or gs i []) (ordered_at p cmp laws gs index is i below)) as (λ _. AreNeedless p cmp (get_or gs i []) (get_or gs second [])) [
        | inl none ↦ zero_is_needless p cmp (get_or gs i []) (get_or gs second []) none
        | inr (c, n, leads) ↦
            coprime_is_needless p prime cmp laws 1024 (get_or gs i []) (get_or gs second []) (ordered_at p cmp laws gs index is i below) (ordered_at p cmp laws gs index is second within)
            c n d m leads lead (coprime_by_index p cmp laws gs index is i below c n m leads apart)
      ]

  -- so of the lines before another one, each that is not gathered makes a needless pair with it
  pub open_begins : (rs : List PairRecord) (second : ℕ) (keys : List ℕ) → second < length gs → (d : ℕ) (m : Monomial) → IsLeading p cmp (get_or gs second []) d m
      → ((x i : ℕ) → has_variable x m ≡ true → Contains (listed index.by_any x) i → i < second → Contains keys i) → IsOpenColumn p cmp gs rs second keys
  open_begins rs second keys within d m lead all i below =
      elim (member keys i) as (λ _. (HasRecord rs i second ⊎ AreNeedless p cmp (get_or gs i []) (get_or gs second [])) ⊎ Contains keys i) [
        | inl there ↦ inr there
        | inr apart ↦ inl (inr (needless_by_index i second (omega (arith, below, within)) within d m lead (λ x has listed_there. apart (all x i has listed_there below))))
      ]

-- a line that is 0 makes no pair
pub zero_column : (p : ℕ) (cmp : Monomial → Monomial → Ordering) (gs : List Terms) (rs : List PairRecord) (second : ℕ) → get_or gs second [] ≡ [] → IsColumn p cmp gs rs second second
zero_column p cmp gs rs second none i below =
    inr (λ hs j k h g at bt. swapped hs j k (zero_is_needless p cmp (get_or gs second []) (get_or gs i []) none hs k j g h bt at))
  where
    swapped : (hs : List Terms) (j k : ℕ) → AreBothClosed p cmp hs k j → AreBothClosed p cmp hs j k
    swapped hs j k both = (both.1, both.0)
