-- The laws of the two orders.
use Rattle.std.proofs.Common.{◌≡◌, ◌≢◌, ℕ, suc, ◌+◌, ◌<◌, ◌≤◌, [], ◌∷◌, ◌++◌, reverse, refl, sym, ap, ap₂, ◌∙◌, inl, inr, arith, lt-ltb, le-ltb, eq-eqb, ne_eqb}
use Rattle.std.proofs.lemmas.Bool.{cond-true, cond-false, cases_order, cases_eq}
use Rattle.std.proofs.lemmas.Cmp.{on_total, then_total, back_total, lists_total, nat_cmp_total}
use Rattle.std.proofs.lemmas.Map.Lookups.{exact_unsigned}
use Rattle.std.proofs.lemmas.List.{reverse-append, reverse-reverse}
use Rattle.std.specs.Ordering.{nat_cmp, ordering_then, MatchOrdering}
use Rattle.std.specs.declared.cmp.Ordering.{Ordering}
use Rattle.std.specs.declared.cmp.Ordering.TheVariants.{Less, Equal, Greater}
use Rattle.std.specs.Cmp.Lexicographic.{slice_cmp}
use Rattle.ffc_ring.specs.Monomial.{Monomial, IsMonomialFrom, IsMonomial, exponent, degree, mono_mul}
use Rattle.ffc_ring.proofs.MonomialLemmas.{exponent-here, exponent-there, exponent-below, from_lower, exponent-mono_mul, exponent_within_degree, degree-mono_mul, IsMonomial-mono_mul}
use Rattle.ffc_mono.specs.MonomialOrder.{IsMonomialOrder}
use Rattle.ffc_mono.specs.Orders.{lex_cmp, graded_reverse_lex_cmp, reverse_lex_cmp, lex_power_cmp, last_power_cmp, IsLexGreater, IsReverseLexGreater, IsGradedReverseLexGreater, AnswersBy}

-- ---- comparisons of numbers

pub nat_cmp-less : (x y : ℕ) → x < y → nat_cmp x y ≡ Less
nat_cmp-less x y h = cond-true _ _ _ (lt-ltb x y h)

pub nat_cmp-equal : (x y : ℕ) → x ≡ y → nat_cmp x y ≡ Equal
nat_cmp-equal x y h = cond-false _ _ _ (le-ltb x y (omega arith)) ∙ cond-true _ _ _ (eq-eqb x y h)

pub nat_cmp-greater : (x y : ℕ) → y < x → nat_cmp x y ≡ Greater
nat_cmp-greater x y h = cond-false _ _ _ (le-ltb x y (omega arith)) ∙ cond-false _ _ _ (ne_eqb x y (omega arith))

then_equal : (r s : Ordering) → ordering_then r s ≡ Equal → (r ≡ Equal) × (s ≡ Equal)
then_equal Less s h = absurd (cc h)
then_equal Equal s h = (refl, h)
then_equal Greater s h = absurd (cc h)

-- lists that compare as equal are equal, where the elements are
lists_exact : (R : (ℕ × ℕ) → (ℕ × ℕ) → Ordering) → ((p q : ℕ × ℕ) → R p q ≡ Equal → p ≡ q) → (a b : Monomial) → slice_cmp R a b ≡ Equal → a ≡ b
lists_exact R exact [] [] h = refl
lists_exact R exact [] (q ∷ b) h = absurd (cc h)
lists_exact R exact (p ∷ a) [] h = absurd (cc h)
lists_exact R exact (p ∷ a) (q ∷ b) h =
    let both = then_equal (R p q) (slice_cmp R a b) h in
    ap₂ ◌∷◌ (exact p q both.0) (lists_exact R exact a b both.1)

lex_power_exact : (p q : ℕ × ℕ) → lex_power_cmp p q ≡ Equal → p ≡ q
lex_power_exact p q h =
    let both = then_equal (nat_cmp q.0 p.0) (nat_cmp p.1 q.1) h in
    ap₂ (λ x e. (x, e)) (sym (exact_unsigned q.0 p.0 both.0)) (exact_unsigned p.1 q.1 both.1)

last_power_exact : (p q : ℕ × ℕ) → last_power_cmp p q ≡ Equal → p ≡ q
last_power_exact p q h =
    let both = then_equal (nat_cmp p.0 q.0) (nat_cmp p.1 q.1) h in
    ap₂ (λ x e. (x, e)) (exact_unsigned p.0 q.0 both.0) (exact_unsigned p.1 q.1 both.1)

-- ---- an answer and its words

-- an order that answers by a relation
answers_by : (greater : Monomial → Monomial → Type 0) (a b : Monomial) (o : Ordering) → MatchOrdering o (greater b a) (a ≡ b) (greater a b) → (greater a b → greater b a → ⊥) → (a ≡ b → greater a b → ⊥) → (a ≡ b → greater b a → ⊥) → AnswersBy greater a b o
answers_by greater a b Less t asym same_ab same_ba = record {
  is_greater = (λ h. absurd (cc h), λ g. absurd (asym g t));
  is_less = (λ _. t, λ _. refl);
  is_equal = (λ h. absurd (cc h), λ e. absurd (same_ba e t));
}
answers_by greater a b Equal t asym same_ab same_ba = record {
  is_greater = (λ h. absurd (cc h), λ g. absurd (same_ab t g));
  is_less = (λ h. absurd (cc h), λ g. absurd (same_ba t g));
  is_equal = (λ _. t, λ _. refl);
}
answers_by greater a b Greater t asym same_ab same_ba = record {
  is_greater = (λ _. t, λ _. refl);
  is_less = (λ h. absurd (cc h), λ g. absurd (asym t g));
  is_equal = (λ h. absurd (cc h), λ e. absurd (same_ab e t));
}

module _ (cmp : Monomial → Monomial → Ordering) (greater : Monomial → Monomial → Type 0) (words : (a b : Monomial) → IsMonomial a → IsMonomial b → AnswersBy greater a b (cmp a b)) (keeps : (a b c : Monomial) → IsMonomial a → IsMonomial b → IsMonomial c → greater a b → greater (mono_mul a c) (mono_mul b c)) where
  kept_at : (a b c : Monomial) → IsMonomial a → IsMonomial b → IsMonomial c → (o : Ordering) → cmp a b ≡ o → cmp (mono_mul a c) (mono_mul b c) ≡ o
  kept_at a b c v w u Less e =
      (words (mono_mul a c) (mono_mul b c) (IsMonomial-mono_mul a c v u) (IsMonomial-mono_mul b c w u)).is_less.1
      (keeps b a c w v u ((words a b v w).is_less.0 e))
  kept_at a b c v w u Equal e =
      (words (mono_mul a c) (mono_mul b c) (IsMonomial-mono_mul a c v u) (IsMonomial-mono_mul b c w u)).is_equal.1
      (ap (λ m. mono_mul m c) ((words a b v w).is_equal.0 e))
  kept_at a b c v w u Greater e =
      (words (mono_mul a c) (mono_mul b c) (IsMonomial-mono_mul a c v u) (IsMonomial-mono_mul b c w u)).is_greater.1
      (keeps a b c v w u ((words a b v w).is_greater.0 e))

  -- an order that answers by a relation which products keep is kept by products
  pub kept_by_words : (a b c : Monomial) → IsMonomial a → IsMonomial b → IsMonomial c → cmp (mono_mul a c) (mono_mul b c) ≡ cmp a b
  kept_by_words a b c v w u = kept_at a b c v w u (cmp a b) refl

-- ---- lexicographic order

lex_asymmetric : (a b : Monomial) → IsLexGreater a b → IsLexGreater b a → ⊥
lex_asymmetric a b (x, h, e) (y, k, f) =
    elim (cases_order x y) [
      | inl same ↦
          let k' : exponent a x < exponent b x = rw same k in omega arith
      | inr (inl less) ↦ omega (arith, f x less)
      | inr (inr more) ↦ omega (arith, e y more)
    ]

lex_irreflexive : (a b : Monomial) → a ≡ b → IsLexGreater a b → ⊥
lex_irreflexive a b same (x, h, e) = omega (arith, ap (λ m. exponent m x) same)

lex_keeps : (a b c : Monomial) → IsMonomial a → IsMonomial b → IsMonomial c → IsLexGreater a b → IsLexGreater (mono_mul a c) (mono_mul b c)
lex_keeps a b c v w u (x, h, e) = (
  x,
  omega (arith, exponent-mono_mul a c v u x, exponent-mono_mul b c w u x),
  λ y k. omega (arith, exponent-mono_mul a c v u y, exponent-mono_mul b c w u y, e y k),
)

-- the first power has a variable that comes earlier than all of the other monomial
lex_earlier : (low : ℕ) (p : ℕ × ℕ) (a b : Monomial) → IsMonomialFrom low (p ∷ a) → IsMonomialFrom (suc p.0) b → IsLexGreater (p ∷ a) b
lex_earlier low p a b v w = (
  p.0,
  omega (arith, exponent-here p a p.0 refl, exponent-below (suc p.0) b p.0 w (omega arith)),
  λ y h. exponent-there p a y (omega arith) ∙ exponent-below (suc p.0) a y v.2 (omega arith) ∙ sym (exponent-below (suc p.0) b y w (omega arith)),
)

-- the first powers have one variable, and differ in their exponents
lex_higher : (p q : ℕ × ℕ) (a b : Monomial) → IsMonomialFrom (suc p.0) a → IsMonomialFrom (suc q.0) b → p.0 ≡ q.0 → q.1 < p.1 → IsLexGreater (p ∷ a) (q ∷ b)
lex_higher p q a b v w same h = (
  p.0,
  omega (arith, exponent-here p a p.0 refl, exponent-here q b p.0 same),
  λ y k.
      exponent-there p a y (omega arith) ∙ exponent-below (suc p.0) a y v (omega arith)
      ∙ sym (exponent-there q b y (omega arith) ∙ exponent-below (suc q.0) b y w (omega arith)),
)

-- equal first powers decide nothing
lex_behind : (p q : ℕ × ℕ) (a b : Monomial) → IsMonomialFrom (suc p.0) a → IsMonomialFrom (suc q.0) b → p.0 ≡ q.0 → p.1 ≡ q.1 → IsLexGreater a b → IsLexGreater (p ∷ a) (q ∷ b)
lex_behind p q a b v w same alike (x, h, e) =
    elim (cases_eq x p.0) [
      | inl here ↦ absurd (omega (arith, exponent-below (suc p.0) a x v (omega arith)))
      | inr there ↦ (
        x,
        omega (arith, exponent-there p a x there, exponent-there q b x (omega arith)),
        λ y k.
            elim (cases_eq y p.0) [
              | inl at_p ↦ exponent-here p a y at_p ∙ alike ∙ sym (exponent-here q b y (at_p ∙ same))
              | inr off ↦ exponent-there p a y off ∙ e y k ∙ sym (exponent-there q b y (λ g. off (g ∙ sym same)))
            ],
      )
    ]

lex_tells_behind : (p q : ℕ × ℕ) (a b : Monomial) → IsMonomialFrom (suc p.0) a → IsMonomialFrom (suc q.0) b → p.0 ≡ q.0 → p.1 ≡ q.1 → (o : Ordering) → MatchOrdering o (IsLexGreater b a) (a ≡ b) (IsLexGreater a b) → MatchOrdering o (IsLexGreater (q ∷ b) (p ∷ a)) ((p ∷ a) ≡ (q ∷ b)) (IsLexGreater (p ∷ a) (q ∷ b))
lex_tells_behind p q a b v w same alike Less t = lex_behind q p b a w v (sym same) (sym alike) t
lex_tells_behind p q a b v w same alike Equal t = ap₂ ◌∷◌ (ap₂ (λ x e. (x, e)) same alike) t
lex_tells_behind p q a b v w same alike Greater t = lex_behind p q a b v w same alike t

lex_tells : (low : ℕ) (a b : Monomial) → IsMonomialFrom low a → IsMonomialFrom low b → MatchOrdering (lex_cmp a b) (IsLexGreater b a) (a ≡ b) (IsLexGreater a b)
lex_tells low [] [] v w = refl
lex_tells low [] (q ∷ b) v w = lex_earlier low q b [] w tt
lex_tells low (p ∷ a) [] v w = lex_earlier low p a [] v tt
lex_tells low (p ∷ a) (q ∷ b) v w =
    elim (cases_order q.0 p.0) [
      | inl same ↦
          rw (nat_cmp-equal q.0 p.0 same)
          (elim (cases_order p.1 q.1) [
            | inl alike ↦
                rw (nat_cmp-equal p.1 q.1 alike)
                (lex_tells_behind p q a b v.2 w.2 (sym same) alike (lex_cmp a b)
                (lex_tells (suc p.0) a b v.2 (from_lower (suc p.0) (suc q.0) b w.2 (omega arith))))
            | inr (inl less) ↦ rw (nat_cmp-less p.1 q.1 less) (lex_higher q p b a w.2 v.2 same less)
            | inr (inr more) ↦ rw (nat_cmp-greater p.1 q.1 more) (lex_higher p q a b v.2 w.2 (sym same) more)
          ])
      | inr (inl less) ↦ rw (nat_cmp-less q.0 p.0 less) (lex_earlier low q b (p ∷ a) w (less, v.1, v.2))
      | inr (inr more) ↦ rw (nat_cmp-greater q.0 p.0 more) (lex_earlier low p a (q ∷ b) v (more, w.1, w.2))
    ]

-- lexicographic order is what its words say
pub lex_words : (a b : Monomial) → IsMonomial a → IsMonomial b → AnswersBy IsLexGreater a b (lex_cmp a b)
lex_words a b v w =
    answers_by IsLexGreater a b (lex_cmp a b) (lex_tells 0 a b v w) (lex_asymmetric a b) (lex_irreflexive a b) (λ e. lex_irreflexive b a (sym e))

lex_least : (a : Monomial) → lex_cmp [] a ≢ Greater
lex_least [] = λ h. cc h
lex_least (p ∷ a) = λ h. cc h

pub lex_laws : IsMonomialOrder lex_cmp
lex_laws = record {
  total = lists_total (then_total (back_total (on_total (λ p. p.0) nat_cmp_total)) (on_total (λ p. p.1) nat_cmp_total));
  exact = lists_exact lex_power_cmp lex_power_exact;
  least = λ a v. lex_least a;
  kept = kept_by_words lex_cmp IsLexGreater lex_words lex_keeps;
}

-- ---- monomials from their last variable down

-- the variables fall strictly from below `high`, and each exponent is at least 1
abbrev IsDescending : ℕ → Monomial → Type 0
IsDescending high [] = Unit {0}
IsDescending high (p ∷ m) = (p.0 < high) × (1 ≤ p.1) × IsDescending p.0 m

-- all variables come later
abbrev IsAfter : ℕ → Monomial → Type 0
IsAfter x [] = Unit {0}
IsAfter x (p ∷ m) = (x < p.0) × IsAfter x m

reverse-cons : (p : ℕ × ℕ) (m : Monomial) → reverse (p ∷ m) ≡ reverse m ++ p ∷ []
reverse-cons p m = reverse-append (p ∷ []) m

exponent-above : (high : ℕ) (m : Monomial) (x : ℕ) → IsDescending high m → high ≤ x → exponent m x ≡ 0
exponent-above high [] x d h = refl
exponent-above high (p ∷ m) x d h =
    exponent-there p m x (omega arith) ∙ exponent-above p.0 m x d.2 (omega arith)

descending_from_higher : (low high : ℕ) (m : Monomial) → IsDescending low m → low ≤ high → IsDescending high m
descending_from_higher low high [] d h = tt
descending_from_higher low high (p ∷ m) d h = (omega arith, d.1, d.2)

IsDescending-push : (high : ℕ) (m : Monomial) (p : ℕ × ℕ) → IsDescending high m → IsAfter p.0 m → p.0 < high → 1 ≤ p.1 → IsDescending high (m ++ p ∷ [])
IsDescending-push high [] p d a h g = (h, g, tt)
IsDescending-push high (q ∷ m) p d a h g = (d.0, d.1, IsDescending-push q.0 m p d.2 a.1 a.0 g)

IsAfter-push : (x : ℕ) (m : Monomial) (p : ℕ × ℕ) → IsAfter x m → x < p.0 → IsAfter x (m ++ p ∷ [])
IsAfter-push x [] p a h = (h, tt)
IsAfter-push x (q ∷ m) p a h = (a.0, IsAfter-push x m p a.1 h)

IsAfter-lower : (x y : ℕ) (m : Monomial) → IsAfter y m → x ≤ y → IsAfter x m
IsAfter-lower x y [] a h = tt
IsAfter-lower x y (q ∷ m) a h = (omega arith, IsAfter-lower x y m a.1 h)

IsAfter-reverse : (x : ℕ) (m : Monomial) → IsMonomialFrom (suc x) m → IsAfter x (reverse m)
IsAfter-reverse x [] v = tt
IsAfter-reverse x (p ∷ m) v =
    rw (reverse-cons p m)
    (IsAfter-push x (reverse m) p (IsAfter-lower x p.0 (reverse m) (IsAfter-reverse p.0 m v.2) (omega arith)) (omega arith))

-- a number above all variables
abbrev top : Monomial → ℕ
top [] = 0
top (p ∷ m) = suc p.0 + top m

IsDescending-reverse : (low : ℕ) (m : Monomial) → IsMonomialFrom low m → IsDescending (top m) (reverse m)
IsDescending-reverse low [] v = tt
IsDescending-reverse low (p ∷ m) v =
    rw (reverse-cons p m)
    (IsDescending-push (top (p ∷ m)) (reverse m) p
    (descending_from_higher (top m) (top (p ∷ m)) (reverse m) (IsDescending-reverse (suc p.0) m v.2) (omega arith))
    (IsAfter-reverse p.0 m v.2) (omega arith) v.1)

exponent-push : (m : Monomial) (p : ℕ × ℕ) (x : ℕ) → IsAfter p.0 m → exponent (m ++ p ∷ []) x ≡ exponent (p ∷ m) x
exponent-push [] p x a = refl
exponent-push (q ∷ m) p x a =
    elim (cases_eq x q.0) [
      | inl at_q ↦
          exponent-here q (m ++ p ∷ []) x at_q ∙ sym (exponent-there p (q ∷ m) x (omega arith) ∙ exponent-here q m x at_q)
      | inr off_q ↦
          exponent-there q (m ++ p ∷ []) x off_q ∙ exponent-push m p x a.1
          ∙ elim (cases_eq x p.0) [
            | inl at_p ↦ exponent-here p m x at_p ∙ sym (exponent-here p (q ∷ m) x at_p)
            | inr off_p ↦ exponent-there p m x off_p ∙ sym (exponent-there p (q ∷ m) x off_p ∙ exponent-there q m x off_q)
          ]
    ]

exponent-reverse : (low : ℕ) (m : Monomial) (x : ℕ) → IsMonomialFrom low m → exponent (reverse m) x ≡ exponent m x
exponent-reverse low [] x v = refl
exponent-reverse low (p ∷ m) x v =
    ap (λ k. exponent k x) (reverse-cons p m) ∙ exponent-push (reverse m) p x (IsAfter-reverse p.0 m v.2)
    ∙ elim (cases_eq x p.0) [
      | inl here ↦ exponent-here p (reverse m) x here ∙ sym (exponent-here p m x here)
      | inr there ↦
          exponent-there p (reverse m) x there ∙ exponent-reverse (suc p.0) m x v.2 ∙ sym (exponent-there p m x there)
    ]

-- ---- reverse lexicographic order

-- the same by the last variable where the exponents differ, but the greater exponent is greater
abbrev IsLastGreater : Monomial → Monomial → Type 0
IsLastGreater a b = (x : ℕ) × (exponent b x < exponent a x) × ((y : ℕ) → x < y → exponent a y ≡ exponent b y)

last_later : (high : ℕ) (p : ℕ × ℕ) (a b : Monomial) → IsDescending high (p ∷ a) → IsDescending p.0 b → IsLastGreater (p ∷ a) b
last_later high p a b v w = (
  p.0,
  omega (arith, exponent-here p a p.0 refl, exponent-above p.0 b p.0 w (omega arith)),
  λ y h. exponent-there p a y (omega arith) ∙ exponent-above p.0 a y v.2 (omega arith) ∙ sym (exponent-above p.0 b y w (omega arith)),
)

last_higher : (p q : ℕ × ℕ) (a b : Monomial) → IsDescending p.0 a → IsDescending q.0 b → p.0 ≡ q.0 → q.1 < p.1 → IsLastGreater (p ∷ a) (q ∷ b)
last_higher p q a b v w same h = (
  p.0,
  omega (arith, exponent-here p a p.0 refl, exponent-here q b p.0 same),
  λ y k.
      exponent-there p a y (omega arith) ∙ exponent-above p.0 a y v (omega arith)
      ∙ sym (exponent-there q b y (omega arith) ∙ exponent-above q.0 b y w (omega arith)),
)

last_behind : (p q : ℕ × ℕ) (a b : Monomial) → IsDescending p.0 a → IsDescending q.0 b → p.0 ≡ q.0 → p.1 ≡ q.1 → IsLastGreater a b → IsLastGreater (p ∷ a) (q ∷ b)
last_behind p q a b v w same alike (x, h, e) =
    elim (cases_eq x p.0) [
      | inl here ↦ absurd (omega (arith, exponent-above p.0 a x v (omega arith)))
      | inr there ↦ (
        x,
        omega (arith, exponent-there p a x there, exponent-there q b x (omega arith)),
        λ y k.
            elim (cases_eq y p.0) [
              | inl at_p ↦ exponent-here p a y at_p ∙ alike ∙ sym (exponent-here q b y (at_p ∙ same))
              | inr off ↦ exponent-there p a y off ∙ e y k ∙ sym (exponent-there q b y (λ g. off (g ∙ sym same)))
            ],
      )
    ]

last_tells_behind : (p q : ℕ × ℕ) (a b : Monomial) → IsDescending p.0 a → IsDescending q.0 b → p.0 ≡ q.0 → p.1 ≡ q.1 → (o : Ordering) → MatchOrdering o (IsLastGreater b a) (a ≡ b) (IsLastGreater a b) → MatchOrdering o (IsLastGreater (q ∷ b) (p ∷ a)) ((p ∷ a) ≡ (q ∷ b)) (IsLastGreater (p ∷ a) (q ∷ b))
last_tells_behind p q a b v w same alike Less t = last_behind q p b a w v (sym same) (sym alike) t
last_tells_behind p q a b v w same alike Equal t = ap₂ ◌∷◌ (ap₂ (λ x e. (x, e)) same alike) t
last_tells_behind p q a b v w same alike Greater t = last_behind p q a b v w same alike t

last_tells : (high : ℕ) (a b : Monomial) → IsDescending high a → IsDescending high b → MatchOrdering (slice_cmp last_power_cmp a b) (IsLastGreater b a) (a ≡ b) (IsLastGreater a b)
last_tells high [] [] v w = refl
last_tells high [] (q ∷ b) v w = last_later high q b [] w tt
last_tells high (p ∷ a) [] v w = last_later high p a [] v tt
last_tells high (p ∷ a) (q ∷ b) v w =
    elim (cases_order p.0 q.0) [
      | inl same ↦
          rw (nat_cmp-equal p.0 q.0 same)
          (elim (cases_order p.1 q.1) [
            | inl alike ↦
                rw (nat_cmp-equal p.1 q.1 alike)
                (last_tells_behind p q a b v.2 w.2 same alike (slice_cmp last_power_cmp a b)
                (last_tells p.0 a b v.2 (descending_from_higher q.0 p.0 b w.2 (omega arith))))
            | inr (inl less) ↦ rw (nat_cmp-less p.1 q.1 less) (last_higher q p b a w.2 v.2 (sym same) less)
            | inr (inr more) ↦ rw (nat_cmp-greater p.1 q.1 more) (last_higher p q a b v.2 w.2 same more)
          ])
      | inr (inl less) ↦ rw (nat_cmp-less p.0 q.0 less) (last_later high q b (p ∷ a) w (less, v.1, v.2))
      | inr (inr more) ↦ rw (nat_cmp-greater p.0 q.0 more) (last_later high p a (q ∷ b) v (more, w.1, w.2))
    ]

-- what the reversed lists say of the monomials
reverse_greater : (a b : Monomial) → IsMonomial a → IsMonomial b → IsLastGreater (reverse b) (reverse a) → IsReverseLexGreater a b
reverse_greater a b v w (x, h, e) = (
  x,
  omega (arith, exponent-reverse 0 a x v, exponent-reverse 0 b x w),
  λ y k. sym (exponent-reverse 0 a y v) ∙ sym (e y k) ∙ exponent-reverse 0 b y w,
)

reverse_tells_at : (a b : Monomial) → IsMonomial a → IsMonomial b → (o : Ordering) → MatchOrdering o (IsLastGreater (reverse a) (reverse b)) (reverse b ≡ reverse a) (IsLastGreater (reverse b) (reverse a)) → MatchOrdering o (IsReverseLexGreater b a) (a ≡ b) (IsReverseLexGreater a b)
reverse_tells_at a b v w Less t = reverse_greater b a w v t
reverse_tells_at a b v w Equal t = sym (reverse-reverse a) ∙ ap reverse (sym t) ∙ reverse-reverse b
reverse_tells_at a b v w Greater t = reverse_greater a b v w t

reverse_tells : (a b : Monomial) → IsMonomial a → IsMonomial b → MatchOrdering (reverse_lex_cmp a b) (IsReverseLexGreater b a) (a ≡ b) (IsReverseLexGreater a b)
reverse_tells a b v w =
    reverse_tells_at a b v w (reverse_lex_cmp a b)
    (last_tells (top b + top a) (reverse b) (reverse a)
    (descending_from_higher (top b) (top b + top a) (reverse b) (IsDescending-reverse 0 b w) (omega arith))
    (descending_from_higher (top a) (top b + top a) (reverse a) (IsDescending-reverse 0 a v) (omega arith)))

reverse_asymmetric : (a b : Monomial) → IsReverseLexGreater a b → IsReverseLexGreater b a → ⊥
reverse_asymmetric a b (x, h, e) (y, k, f) =
    elim (cases_order x y) [
      | inl same ↦
          let k' : exponent b x < exponent a x = rw same k in omega arith
      | inr (inl less) ↦ omega (arith, e y less)
      | inr (inr more) ↦ omega (arith, f x more)
    ]

-- ---- graded reverse lexicographic order

graded_asymmetric : (a b : Monomial) → IsGradedReverseLexGreater a b → IsGradedReverseLexGreater b a → ⊥
graded_asymmetric a b (inl h) (inl k) = omega arith
graded_asymmetric a b (inl h) (inr k) = omega (arith, k.0)
graded_asymmetric a b (inr h) (inl k) = omega (arith, h.0)
graded_asymmetric a b (inr h) (inr k) = reverse_asymmetric a b h.1 k.1

graded_irreflexive : (a b : Monomial) → a ≡ b → IsGradedReverseLexGreater a b → ⊥
graded_irreflexive a b same (inl h) = omega (arith, ap degree same)
graded_irreflexive a b same (inr h) = omega (arith, ap (λ m. exponent m h.1.0) same, h.1.1)

graded_keeps : (a b c : Monomial) → IsMonomial a → IsMonomial b → IsMonomial c → IsGradedReverseLexGreater a b → IsGradedReverseLexGreater (mono_mul a c) (mono_mul b c)
graded_keeps a b c v w u (inl h) = inl (omega (arith, degree-mono_mul a c, degree-mono_mul b c))
graded_keeps a b c v w u (inr (d, (x, h, e))) =
    inr (
      omega (arith, degree-mono_mul a c, degree-mono_mul b c),
      (
        x,
        omega (arith, exponent-mono_mul a c v u x, exponent-mono_mul b c w u x),
        λ y k. omega (arith, exponent-mono_mul a c v u y, exponent-mono_mul b c w u y, e y k),
      ),
    )

graded_tells_equal : (a b : Monomial) → degree a ≡ degree b → (o : Ordering) → MatchOrdering o (IsReverseLexGreater b a) (a ≡ b) (IsReverseLexGreater a b) → MatchOrdering o (IsGradedReverseLexGreater b a) (a ≡ b) (IsGradedReverseLexGreater a b)
graded_tells_equal a b same Less t = inr (sym same, t)
graded_tells_equal a b same Equal t = t
graded_tells_equal a b same Greater t = inr (same, t)

graded_tells : (a b : Monomial) → IsMonomial a → IsMonomial b → MatchOrdering (graded_reverse_lex_cmp a b) (IsGradedReverseLexGreater b a) (a ≡ b) (IsGradedReverseLexGreater a b)
graded_tells a b v w =
    elim (cases_order (degree a) (degree b)) [
      | inl same ↦ rw (nat_cmp-equal (degree a) (degree b) same) (graded_tells_equal a b same (reverse_lex_cmp a b) (reverse_tells a b v w))
      | inr (inl less) ↦ rw (nat_cmp-less (degree a) (degree b) less) (inl less)
      | inr (inr more) ↦ rw (nat_cmp-greater (degree a) (degree b) more) (inl more)
    ]

-- graded reverse lexicographic order is what its words say
pub graded_reverse_lex_words : (a b : Monomial) → IsMonomial a → IsMonomial b → AnswersBy IsGradedReverseLexGreater a b (graded_reverse_lex_cmp a b)
graded_reverse_lex_words a b v w =
    answers_by IsGradedReverseLexGreater a b (graded_reverse_lex_cmp a b) (graded_tells a b v w) (graded_asymmetric a b) (graded_irreflexive a b) (λ e. graded_irreflexive b a (sym e))

graded_exact : (a b : Monomial) → graded_reverse_lex_cmp a b ≡ Equal → a ≡ b
graded_exact a b h =
    let both = then_equal (nat_cmp (degree a) (degree b)) (reverse_lex_cmp a b) h in
    sym (reverse-reverse a) ∙ ap reverse (sym (lists_exact last_power_cmp last_power_exact (reverse b) (reverse a) both.1)) ∙ reverse-reverse b

-- nothing is of a lower degree than 1, and at equal degree no exponent is greater
graded_least : (a : Monomial) → IsMonomial a → graded_reverse_lex_cmp [] a ≢ Greater
graded_least a v h =
    elim ((graded_reverse_lex_words [] a tt v).is_greater.0 h) [
      | inl lower ↦ absurd (omega arith)
      | inr (same, (x, less, e)) ↦ absurd (omega (arith, exponent_within_degree a x))
    ]

pub graded_reverse_lex_laws : IsMonomialOrder graded_reverse_lex_cmp
graded_reverse_lex_laws = record {
  total =
      then_total (on_total degree nat_cmp_total)
      (on_total reverse (back_total (lists_total (then_total (on_total (λ p. p.0) nat_cmp_total) (on_total (λ p. p.1) nat_cmp_total)))));
  exact = graded_exact;
  least = graded_least;
  kept = kept_by_words graded_reverse_lex_cmp IsGradedReverseLexGreater graded_reverse_lex_words graded_keeps;
}
