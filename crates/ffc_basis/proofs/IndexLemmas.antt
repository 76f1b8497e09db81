-- What an index of lines has when a line comes or goes, and what is found by it.
use Rattle.std.proofs.Common.{◌≡◌, inl, inr, ℕ, zero, suc, ◌+◌, ◌-◌, ◌<◌, ◌≤◌, ◌==◌, ◌||◌, Bool, true, false, cond, List, [], ◌∷◌, ◌++◌, length, take, get_or, All, Contains, Option, Some, None, refl, sym, ap, ◌∙◌, subst, arith, length-append, append-nil}
use Rattle.std.proofs.lemmas.Bool.{cases_Bool, eqb-true, eq-eqb}
use Rattle.std.proofs.lemmas.List.Elements.{All-nil, All-cons, All-head, All-push, All-take}
use Rattle.std.specs.declared.cmp.Ordering.{Ordering}
use Rattle.ffc_ring.specs.Monomial.{Monomial, IsMonomial, IsMonomialFrom}
use Rattle.ffc_ring.specs.Polynomial.{Terms}
use Rattle.ffc_poly.specs.Ordered.{IsOrdered}
use Rattle.ffc_basis.specs.declared.index.Index.{Index}
use Rattle.ffc_basis.proofs.PartnerLemmas.{first_in, later_in, cases_in}
use Rattle.ffc_basis.specs.Indexing.{is_one, begins_with, has_variable, is_led, led_from, led_by, first_of, listed, IsIndexOf, without_last, first_or, other_than}

-- ---- lists of numbers

take_all : (ks rest : List ℕ) → take (length ks) (ks ++ rest) ≡ ks
take_all [] rest = refl
take_all (k ∷ ks) rest = ap (λ xs. k ∷ xs) (take_all ks rest)

without_last-push : (ks : List ℕ) (k : ℕ) → without_last (ks ++ k ∷ []) ≡ ks
without_last-push ks k =
    let long : length (ks ++ k ∷ []) - 1 ≡ length ks = omega (arith, length-append ks (k ∷ [])) in
    ap (λ n. take n (ks ++ k ∷ [])) long ∙ take_all ks (k ∷ [])

first_of-push : (ks : List ℕ) (k : ℕ) → first_of (ks ++ k ∷ []) ≡ elim (first_of ks) [ None ↦ Some k | Some i ↦ Some i ]
first_of-push [] k = refl
first_of-push (i ∷ ks) k = refl

-- ---- the polynomials that are led by such a monomial

led_from-push : (test : Monomial → Bool) (k : ℕ) (gs : List Terms) (g : Terms)
    → led_from test k (gs ++ g ∷ []) ≡ led_from test k gs ++ cond (is_led test g) ((length gs + k) ∷ []) []
led_from-push test k [] g = by_case (is_led test g)
  where
    by_case : (b : Bool) → cond b (k ∷ []) [] ≡ [] ++ cond b ((0 + k) ∷ []) []
    by_case true = ap (λ n. n ∷ []) (omega arith)
    by_case false = refl
led_from-push test k (h ∷ gs) g =
    let more = led_from-push test (suc k) gs g in
    let place : length gs + suc k ≡ suc (length gs) + k = omega arith in
    by_case (is_led test h) (led_from test (suc k) (gs ++ g ∷ [])) (led_from test (suc k) gs) (cond (is_led test g) ((suc (length gs) + k) ∷ []) [])
    (more ∙ ap (λ n. led_from test (suc k) gs ++ cond (is_led test g) (n ∷ []) []) place)
  where
    by_case : (b : Bool) (all rest last : List ℕ) → all ≡ rest ++ last → cond b (k ∷ all) all ≡ cond b (k ∷ rest) rest ++ last
    by_case true all rest last e = ap (λ xs. k ∷ xs) e
    by_case false all rest last e = e

led_by-push : (test : Monomial → Bool) (gs : List Terms) (g : Terms) → led_by test (gs ++ g ∷ []) ≡ led_by test gs ++ cond (is_led test g) (length gs ∷ []) []
led_by-push test gs g =
    let place : length gs + 0 ≡ length gs = omega arith in
    led_from-push test 0 gs g ∙ ap (λ n. led_by test gs ++ cond (is_led test g) (n ∷ []) []) place

led_from-below : (test : Monomial → Bool) (k : ℕ) (gs : List Terms) → All (λ i. i < length gs + k) (led_from test k gs)
led_from-below test k [] = All-nil _
led_from-below test k (g ∷ gs) =
    let place : length gs + suc k ≡ suc (length gs) + k = omega arith in
    let here : k < suc (length gs) + k = omega arith in
    by_case (is_led test g) (suc (length gs) + k) (led_from test (suc k) gs) here (subst (λ n. All (λ i. i < n) (led_from test (suc k) gs)) place (led_from-below test (suc k) gs))
  where
    by_case : (b : Bool) (n : ℕ) (rest : List ℕ) → k < n → All (λ i. i < n) rest → All (λ i. i < n) (cond b (k ∷ rest) rest)
    by_case true n rest here rest_below = All-cons (λ i. i < n) k rest here rest_below
    by_case false n rest here rest_below = rest_below

-- their numbers are those of polynomials
pub led_by-below : (test : Monomial → Bool) (gs : List Terms) → All (λ i. i < length gs) (led_by test gs)
led_by-below test gs =
    let place : length gs + 0 ≡ length gs = omega arith in
    subst (λ n. All (λ i. i < n) (led_by test gs)) place (led_from-below test 0 gs)

led_from-has : (test : Monomial → Bool) (k : ℕ) (gs : List Terms) (i : ℕ) → i < length gs → is_led test (get_or gs i []) ≡ true → Contains (led_from test k gs) (i + k)
led_from-has test k [] i below led = absurd (omega arith)
led_from-has test k (g ∷ gs) zero below led =
    let place : k ≡ 0 + k = omega arith in
    subst (Contains (led_from test k (g ∷ gs))) place
    (subst (λ b. Contains (cond b (k ∷ led_from test (suc k) gs) (led_from test (suc k) gs)) k) (sym led) (first_in k (led_from test (suc k) gs)))
led_from-has test k (g ∷ gs) (suc i) below led =
    let place : i + suc k ≡ suc i + k = omega arith in
    by_case (is_led test g) (suc i + k) (led_from test (suc k) gs) (subst (Contains (led_from test (suc k) gs)) place (led_from-has test (suc k) gs i (omega arith) led))
  where
    by_case : (b : Bool) (n : ℕ) (rest : List ℕ) → Contains rest n → Contains (cond b (k ∷ rest) rest) n
    by_case true n rest has = later_in k n rest has
    by_case false n rest has = has

-- each of them is listed
pub led_by-has : (test : Monomial → Bool) (gs : List Terms) (i : ℕ) → i < length gs → is_led test (get_or gs i []) ≡ true → Contains (led_by test gs) i
led_by-has test gs i below led =
    let place : i + 0 ≡ i = omega arith in
    subst (Contains (led_by test gs)) place (led_from-has test 0 gs i below led)

led_from-led : (test : Monomial → Bool) (k : ℕ) (gs : List Terms) (i : ℕ) → Contains (led_from test k gs) i → (j : ℕ) × (i ≡ j + k) × (j < length gs) × (is_led test (get_or gs j []) ≡ true)
led_from-led test k [] i (j, below, at) = absurd (omega (arith, below))
led_from-led test k (g ∷ gs) i has =
    elim (cases_Bool (is_led test g)) as (λ _. (j : ℕ) × (i ≡ j + k) × (j < suc (length gs)) × (is_led test (get_or (g ∷ gs) j []) ≡ true)) [
      | inl leads ↦
          elim (cases_in k i (led_from test (suc k) gs) (subst (λ b. Contains (cond b (k ∷ led_from test (suc k) gs) (led_from test (suc k) gs)) i) leads has)) as (λ _. (j : ℕ) × (i ≡ j + k) × (j < suc (length gs)) × (is_led test (get_or (g ∷ gs) j []) ≡ true)) [
            | inl here ↦ (0, omega (arith, here), omega arith, leads)
            | inr there ↦ later (led_from-led test (suc k) gs i there)
          ]
      | inr apart ↦ later (led_from-led test (suc k) gs i (subst (λ b. Contains (cond b (k ∷ led_from test (suc k) gs) (led_from test (suc k) gs)) i) apart has))
    ]
  where
    later : (j : ℕ) × (i ≡ j + suc k) × (j < length gs) × (is_led test (get_or gs j []) ≡ true) → (j : ℕ) × (i ≡ j + k) × (j < suc (length gs)) × (is_led test (get_or (g ∷ gs) j []) ≡ true)
    later (j, place, below, led) = (suc j, omega arith, omega arith, led)

-- a listed polynomial is there, and is led by such a monomial
pub led_by-led : (test : Monomial → Bool) (gs : List Terms) (i : ℕ) → Contains (led_by test gs) i → (i < length gs) × (is_led test (get_or gs i []) ≡ true)
led_by-led test gs i has =
    let (j, place, below, led) = led_from-led test 0 gs i has in
    let same : j ≡ i = omega (arith, place) in
    (omega (arith, below, same), subst (λ k. is_led test (get_or gs k []) ≡ true) same led)

-- ---- a line comes or goes

-- what a list is after the last line came
pub listed_pushed : (test : Monomial → Bool) (gs : List Terms) (g : Terms) (old new : List ℕ) (number : ℕ) (b : Bool) → length gs ≡ number → is_led test g ≡ b
    → old ≡ led_by test gs → new ≡ cond b (old ++ number ∷ []) old → new ≡ led_by test (gs ++ g ∷ [])
listed_pushed test gs g old new number true e led was is =
    is ∙ ap (λ ks. ks ++ number ∷ []) was ∙ ap (λ n. led_by test gs ++ n ∷ []) (sym e) ∙ ap (λ b. led_by test gs ++ cond b (length gs ∷ []) []) (sym led) ∙ sym (led_by-push test gs g)
listed_pushed test gs g old new number false e led was is =
    is ∙ was ∙ sym (append-nil (led_by test gs)) ∙ ap (λ b. led_by test gs ++ cond b (length gs ∷ []) []) (sym led) ∙ sym (led_by-push test gs g)

-- and after it went
pub listed_popped : (test : Monomial → Bool) (gs : List Terms) (g : Terms) (old new : List ℕ) (b : Bool) → is_led test g ≡ b
    → old ≡ led_by test (gs ++ g ∷ []) → new ≡ cond b (without_last old) old → new ≡ led_by test gs
listed_popped test gs g old new true led was is =
    is ∙ ap without_last (was ∙ led_by-push test gs g ∙ ap (λ b. led_by test gs ++ cond b (length gs ∷ []) []) led) ∙ without_last-push (led_by test gs) (length gs)
listed_popped test gs g old new false led was is =
    is ∙ was ∙ led_by-push test gs g ∙ ap (λ b. led_by test gs ++ cond b (length gs ∷ []) []) led ∙ append-nil (led_by test gs)

-- ---- monomials

-- the variable that begins a monomial is that of its first power
pub begins_with-first : (y : ℕ) (m : Monomial) → has_variable y (take 1 m) ≡ begins_with y m
begins_with-first y [] = refl
begins_with-first y (f ∷ m) = by_case (y == f.0)
  where
    by_case : (b : Bool) → b || false ≡ b
    by_case true = refl
    by_case false = refl

-- the first powers of a monomial are one
pub IsMonomial-take : (low n : ℕ) (m : Monomial) → IsMonomialFrom low m → IsMonomialFrom low (take n m)
IsMonomial-take low zero m is = tt
IsMonomial-take low (suc n) [] is = tt
IsMonomial-take low (suc n) (f ∷ m) is = (is.0, is.1, IsMonomial-take (suc f.0) n m is.2)

place_above : (low : ℕ) (m : Monomial) (k : ℕ) (f : ℕ × ℕ) → IsMonomialFrom low m → k < length m → low ≤ (get_or m k f).0
place_above low [] k f is below = absurd (omega arith)
place_above low (q ∷ m) zero f is below = is.0
place_above low (q ∷ m) (suc k) f is below = omega (arith, place_above (suc q.0) m k f is.2 (omega arith), is.0)

-- the variable of a power does not occur before it
not_before : (low : ℕ) (m : Monomial) (k : ℕ) (f : ℕ × ℕ) → IsMonomialFrom low m → k < length m → has_variable (get_or m k f).0 (take k m) ≡ false
not_before low [] k f is below = absurd (omega arith)
not_before low (q ∷ m) zero f is below = refl
not_before low (q ∷ m) (suc k) f is below =
    let above = place_above (suc q.0) m k f is.2 (omega arith) in
    elim (cases_Bool ((get_or m k f).0 == q.0)) as (λ _. ((get_or m k f).0 == q.0 || has_variable (get_or m k f).0 (take k m)) ≡ false) [
      | inl same ↦ absurd (omega (arith, above, eqb-true (get_or m k f).0 q.0 same))
      | inr other ↦ ap (λ b. b || has_variable (get_or m k f).0 (take k m)) other ∙ not_before (suc q.0) m k f is.2 (omega arith)
    ]

has_variable-more : (y : ℕ) (m : Monomial) (k : ℕ) (f : ℕ × ℕ) → k < length m → has_variable y (take (suc k) m) ≡ (has_variable y (take k m) || (y == (get_or m k f).0))
has_variable-more y [] k f below = absurd (omega arith)
has_variable-more y (q ∷ m) zero f below = or_nothing (y == q.0)
  where
    or_nothing : (b : Bool) → (b || false) ≡ (false || b)
    or_nothing true = refl
    or_nothing false = refl
has_variable-more y (q ∷ m) (suc k) f below = ap (λ b. y == q.0 || b) (has_variable-more y m k f (omega arith)) ∙ or_assoc (y == q.0) (has_variable y (take k m)) (y == (get_or m k f).0)
  where
    or_assoc : (a b c : Bool) → (a || (b || c)) ≡ ((a || b) || c)
    or_assoc true b c = refl
    or_assoc false b c = refl

-- what was done for the variables before a power, and then for that one, was done for one variable more
pub one_variable_more : (m : Monomial) (k : ℕ) (f : ℕ × ℕ) → IsMonomial m → k < length m → (change : List ℕ → List ℕ) (y : ℕ) (old now new : List ℕ)
    → now ≡ cond (has_variable y (take k m)) (change old) old → new ≡ cond (y == (get_or m k f).0) (change now) now → new ≡ cond (has_variable y (take (k + 1) m)) (change old) old
one_variable_more m k f is below change y old now new was then =
    elim (cases_Bool (y == (get_or m k f).0)) as (λ _. new ≡ cond (has_variable y (take (k + 1) m)) (change old) old) [
      | inl same ↦
          let here : y ≡ (get_or m k f).0 = eqb-true y (get_or m k f).0 same in
          let none : has_variable y (take k m) ≡ false = ap (λ x. has_variable x (take k m)) here ∙ not_before 0 m k f is below in
          let all : has_variable y (take (k + 1) m) ≡ true = more ∙ ap (λ b. has_variable y (take k m) || b) same ∙ ap (λ b. b || true) none in
          then ∙ ap (λ b. cond b (change now) now) same ∙ ap change (was ∙ ap (λ b. cond b (change old) old) none) ∙ sym (ap (λ b. cond b (change old) old) all)
      | inr other ↦
          let all : has_variable y (take (k + 1) m) ≡ has_variable y (take k m) = more ∙ ap (λ b. has_variable y (take k m) || b) other ∙ or_false (has_variable y (take k m)) in
          then ∙ ap (λ b. cond b (change now) now) other ∙ was ∙ sym (ap (λ b. cond b (change old) old) all)
    ]
  where
    more : has_variable y (take (k + 1) m) ≡ (has_variable y (take k m) || (y == (get_or m k f).0))
    more = ap (λ n. has_variable y (take n m)) (let e : k + 1 ≡ suc k = omega arith in e) ∙ has_variable-more y m k f below

    or_false : (b : Bool) → (b || false) ≡ b
    or_false true = refl
    or_false false = refl

-- ---- the index

-- the first monomial of a polynomial other than 0
is_led-at : (g : Terms) (test : Monomial → Bool) → 0 < length g → is_led test g ≡ test (get_or g 0 (0, [])).1
is_led-at [] test some = absurd (omega arith)
is_led-at (t ∷ ts) test some = refl

first_of-none : (ks : List ℕ) → first_of (ks ++ []) ≡ first_of ks
first_of-none [] = refl
first_of-none (k ∷ ks) = refl

take_front : (gs rest : List Terms) → take (length gs) (gs ++ rest) ≡ gs
take_front [] rest = refl
take_front (h ∷ gs) rest = ap (λ xs. h ∷ xs) (take_front gs rest)

ordered_before : (p : ℕ) (cmp : Monomial → Monomial → Ordering) (gs : List Terms) (g : Terms) → All (IsOrdered p cmp 1024) (gs ++ g ∷ []) → All (IsOrdered p cmp 1024) gs
ordered_before p cmp gs g all = subst (All (IsOrdered p cmp 1024)) (take_front gs (g ∷ [])) (All-take (IsOrdered p cmp 1024) (length gs) (gs ++ g ∷ []) all)

zero_adds : (test : Monomial → Bool) (gs : List Terms) → led_by test (gs ++ [] ∷ []) ≡ led_by test gs
zero_adds test gs = led_by-push test gs [] ∙ append-nil (led_by test gs)

module _ (p : ℕ) (cmp : Monomial → Monomial → Ordering) (gs : List Terms) (old new : Index) where
  module _ (g : Terms) (number : ℕ) (e : length gs ≡ number) where
    constant_pushed : old.constant ≡ first_of (led_by is_one gs) → new.constant ≡ cond (is_led is_one g) (first_or old.constant number) old.constant → new.constant ≡ first_of (led_by is_one (gs ++ g ∷ []))
    constant_pushed was is = is ∙ by_case (is_led is_one g) old.constant (led_by is_one gs) was ∙ sym (ap first_of (led_by-push is_one gs g))
      where
        by_case : (b : Bool) (c : Option ℕ) (ks : List ℕ) → c ≡ first_of ks → cond b (first_or c number) c ≡ first_of (ks ++ cond b (length gs ∷ []) [])
        by_case true c [] was = ap (λ o. first_or o number) was ∙ ap Some (sym e)
        by_case true c (k ∷ ks) was = ap (λ o. first_or o number) was
        by_case false c ks was = was ∙ sym (first_of-none ks)

    constant_popped : old.constant ≡ first_of (led_by is_one (gs ++ g ∷ [])) → new.constant ≡ other_than number old.constant → new.constant ≡ first_of (led_by is_one gs)
    constant_popped was is =
        is
        ∙ ap (other_than number) (was ∙ ap first_of (led_by-push is_one gs g))
        ∙ by_case (is_led is_one g) (led_by is_one gs) (subst (λ n. All (λ i. i < n) (led_by is_one gs)) e (led_by-below is_one gs))
      where
        differ : (k : ℕ) → k < number → (k == number) ≡ false
        differ k less = elim (cases_Bool (k == number)) as (λ _. (k == number) ≡ false) [ inl same ↦ absurd (omega (arith, less, eqb-true k number same)) | inr other ↦ other ]

        by_case : (b : Bool) (ks : List ℕ) → All (λ i. i < number) ks → other_than number (first_of (ks ++ cond b (length gs ∷ []) [])) ≡ first_of ks
        by_case true [] below = ap (λ b. cond b None (Some (length gs))) (eq-eqb (length gs) number e)
        by_case false [] below = refl
        by_case true (k ∷ ks) below = ap (λ b. cond b None (Some k)) (differ k (All-head (λ i. i < number) k ks below))
        by_case false (k ∷ ks) below = ap (λ b. cond b None (Some k)) (differ k (All-head (λ i. i < number) k ks below))

    -- the index with one line more
    pub index_pushed : IsOrdered p cmp 1024 g
        → ((y : ℕ) → listed new.by_first y ≡ cond (is_led (begins_with y) g) (listed old.by_first y ++ number ∷ []) (listed old.by_first y))
        → ((y : ℕ) → listed new.by_any y ≡ cond (is_led (has_variable y) g) (listed old.by_any y ++ number ∷ []) (listed old.by_any y))
        → new.constant ≡ cond (is_led is_one g) (first_or old.constant number) old.constant → IsIndexOf p cmp gs old → IsIndexOf p cmp (gs ++ g ∷ []) new
    index_pushed ordered first any constant is =
        record {
          ordered = All-push (IsOrdered p cmp 1024) gs g is.ordered ordered;
          by_first = λ y. listed_pushed (begins_with y) gs g (listed old.by_first y) (listed new.by_first y) number (is_led (begins_with y) g) e refl (is.by_first y) (first y);
          by_any = λ y. listed_pushed (has_variable y) gs g (listed old.by_any y) (listed new.by_any y) number (is_led (has_variable y) g) e refl (is.by_any y) (any y);
          constant = constant_pushed is.constant constant;
        }

    -- the index without its last line
    pub index_popped : ((y : ℕ) → listed new.by_first y ≡ cond (is_led (begins_with y) g) (without_last (listed old.by_first y)) (listed old.by_first y))
        → ((y : ℕ) → listed new.by_any y ≡ cond (is_led (has_variable y) g) (without_last (listed old.by_any y)) (listed old.by_any y))
        → new.constant ≡ other_than number old.constant → IsIndexOf p cmp (gs ++ g ∷ []) old → IsIndexOf p cmp gs new
    index_popped first any constant is =
        record {
          ordered = ordered_before p cmp gs g is.ordered;
          by_first = λ y. listed_popped (begins_with y) gs g (listed old.by_first y) (listed new.by_first y) (is_led (begins_with y) g) refl (is.by_first y) (first y);
          by_any = λ y. listed_popped (has_variable y) gs g (listed old.by_any y) (listed new.by_any y) (is_led (has_variable y) g) refl (is.by_any y) (any y);
          constant = constant_popped is.constant constant;
        }

module _ (p : ℕ) (cmp : Monomial → Monomial → Ordering) (gs : List Terms) (old : Index) where
  -- a polynomial that is 0 is in no list
  pub index_of_zero : (g : Terms) (number : ℕ) → length gs ≡ number → length g ≡ 0 → IsIndexOf p cmp gs old → IsIndexOf p cmp (gs ++ g ∷ []) old
  index_of_zero [] number e none is = index_pushed p cmp gs old old [] number e tt (λ y. refl) (λ y. refl) refl is
  index_of_zero (t ∷ ts) number e none is = absurd (omega (arith, none))

  pub index_without_zero : (g : Terms) (number : ℕ) → length gs ≡ number → length g ≡ 0 → IsIndexOf p cmp (gs ++ g ∷ []) old → IsIndexOf p cmp gs old
  index_without_zero [] number e none is =
      record {
        ordered = ordered_before p cmp gs [] is.ordered;
        by_first = λ y. is.by_first y ∙ zero_adds (begins_with y) gs;
        by_any = λ y. is.by_any y ∙ zero_adds (has_variable y) gs;
        constant = is.constant ∙ ap first_of (zero_adds is_one gs);
      }
  index_without_zero (t ∷ ts) number e none is = absurd (omega (arith, none))

-- the first elements with one more
pub taken_more : (gs : List Terms) (n : ℕ) (d : Terms) → n < length gs → take (n + 1) gs ≡ take n gs ++ get_or gs n d ∷ []
taken_more gs n d below = ap (λ k. take k gs) (let e : n + 1 ≡ suc n = omega arith in e) ∙ by_place gs n below
  where
    by_place : (gs : List Terms) (n : ℕ) → n < length gs → take (suc n) gs ≡ take n gs ++ get_or gs n d ∷ []
    by_place [] n below = absurd (omega arith)
    by_place (g ∷ gs) zero below = refl
    by_place (g ∷ gs) (suc n) below = ap (λ xs. g ∷ xs) (by_place gs n (omega arith))

pub length-taken : (gs : List Terms) (n : ℕ) → n ≤ length gs → length (take n gs) ≡ n
length-taken gs zero short = refl
length-taken [] (suc n) short = absurd (omega arith)
length-taken (g ∷ gs) (suc n) short = ap suc (length-taken gs n (omega arith))

-- lists of a polynomial other than 0 by the powers of its first monomial
pub by_powers : (g : Terms) (m : Monomial) → 0 < length g → m ≡ (get_or g 0 (0, [])).1 → (test : Monomial → Bool) → is_led test g ≡ test m
by_powers g m some e test = is_led-at g test some ∙ ap test (sym e)
