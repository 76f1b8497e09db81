-- The steps of quotients, divisors and coprime monomials, as walks over two lists of powers.
use Rattle.std.proofs.Common.{◌≡◌, ℕ, suc, ◌+◌, ◌-◌, ◌<◌, ◌≤◌, ◌↔◌, eqb, ◌&&◌, List, [], ◌∷◌, ◌++◌, length, get_or, take, drop, zero, refl, sym, ap, ap₂, ◌∙◌, subst, inl, inr, arith, length-append, add-one, take-append-drop}
use Rattle.std.proofs.lemmas.Bool.{cases_eq}
use Rattle.std.proofs.lemmas.List.{take-append-le}
use Rattle.std.specs.Cmp.Lexicographic.{pointwise}
use Rattle.ffc_ring.specs.Monomial.{Monomial, IsMonomialFrom, IsMonomial, exponent, degree, mono_quotient, Divides, AreCoprime, same_monomial}
use Rattle.ffc_ring.proofs.MonomialLemmas.{from_lower, exponent-here, exponent-there, exponent-below, Joins, sums, greater_ones, tail_divides, divides_tail, mono_quotient-kept, mono_quotient-dropped, mono_quotient-behind}
use Rattle.ffc_ring.proofs.PowerLemmas.{none_left, first_at}
use Rattle.ffc_mono.specs.declared.powers.Joining.{Joining}
use Rattle.ffc_mono.specs.declared.powers.Joining.TheVariants.{Sum, Maximum}
use Rattle.ffc_mono.specs.Joining.{joining_of}

pub joins_of : (joining : Joining) → Joins (joining_of joining)
joins_of Sum = sums
joins_of Maximum = greater_ones

-- ---- divides

pub divides_nothing : (left right left_rest : Monomial) (p : ℕ × ℕ) → left ≡ p ∷ left_rest → IsMonomial left → length right ≡ 0 → Divides left right → ⊥
divides_nothing left right left_rest p left_is v h d =
    let at_p : exponent left p.0 ≡ p.1 = ap (λ m. exponent m p.0) left_is ∙ exponent-here p left_rest p.0 refl in
    let none : exponent right p.0 ≡ 0 = ap (λ m. exponent m p.0) (none_left right h) in
    omega (arith, d p.0, (first_at left left_rest p left_is v).1)

module _ (left right left_rest right_rest : Monomial) (p q : ℕ × ℕ) (left_is : left ≡ p ∷ left_rest) (right_is : right ≡ q ∷ right_rest) (v : IsMonomial left) (w : IsMonomial right) where
  at_left : exponent left p.0 ≡ p.1
  at_left = ap (λ m. exponent m p.0) left_is ∙ exponent-here p left_rest p.0 refl

  pub divides_not_below : p.0 < q.0 → Divides left right → ⊥
  divides_not_below h d =
      let none : exponent right p.0 ≡ 0 =
      ap (λ m. exponent m p.0) right_is ∙ exponent-there q right_rest p.0 (omega arith) ∙ exponent-below (suc q.0) right_rest p.0 (first_at right right_rest q right_is w).2 (omega arith) in
      omega (arith, d p.0, at_left, (first_at left left_rest p left_is v).1)

  pub divides_not_higher : p.0 ≡ q.0 → q.1 < p.1 → Divides left right → ⊥
  divides_not_higher same h d =
      let at_q : exponent right p.0 ≡ q.1 = ap (λ m. exponent m p.0) right_is ∙ exponent-here q right_rest p.0 same in
      omega (arith, d p.0, at_left)

  pub divides_behind_both : p.0 ≡ q.0 → p.1 ≤ q.1 → Divides left_rest right_rest ↔ Divides left right
  divides_behind_both same h =
      let v' : IsMonomialFrom (suc p.0) left_rest = (first_at left left_rest p left_is v).2 in
      let w' : IsMonomialFrom (suc p.0) right_rest = from_lower (suc p.0) (suc q.0) right_rest (first_at right right_rest q right_is w).2 (omega arith) in (
        λ d x.
            let left_x : exponent left x ≡ exponent (p ∷ left_rest) x = ap (λ m. exponent m x) left_is in
            let right_x : exponent right x ≡ exponent (q ∷ right_rest) x = ap (λ m. exponent m x) right_is in
            elim (cases_eq x p.0) [
              | inl here ↦ omega (arith, exponent-here p left_rest x here, exponent-here q right_rest x (here ∙ same))
              | inr there ↦ omega (arith, exponent-there p left_rest x there, exponent-there q right_rest x (λ e. there (e ∙ sym same)), d x)
            ],
        λ d. tail_divides p q left_rest right_rest v' w' same (subst (λ m. Divides m (q ∷ right_rest)) left_is (subst (Divides left) right_is d)),
      )

  pub divides_behind_right : q.0 < p.0 → Divides left right_rest ↔ Divides left right
  divides_behind_right h =
      let v' : IsMonomialFrom (suc q.0) left = subst (IsMonomialFrom (suc q.0)) (sym left_is) (h, (first_at left left_rest p left_is v).1, (first_at left left_rest p left_is v).2) in (
        λ d x.
            let right_x : exponent right x ≡ exponent (q ∷ right_rest) x = ap (λ m. exponent m x) right_is in
            elim (cases_eq x q.0) [
              | inl here ↦ omega (arith, exponent-below (suc q.0) left x v' (omega arith))
              | inr there ↦ omega (arith, exponent-there q right_rest x there, d x)
            ],
        λ d. divides_tail q left right_rest v' (subst (Divides left) right_is d),
      )

  -- ---- quotients

  pub quotient_above : q.0 < p.0 → Divides right left → ⊥
  quotient_above h d =
      let at_q : exponent right q.0 ≡ q.1 = ap (λ m. exponent m q.0) right_is ∙ exponent-here q right_rest q.0 refl in
      let none : exponent left q.0 ≡ 0 =
      ap (λ m. exponent m q.0) left_is ∙ exponent-there p left_rest q.0 (omega arith) ∙ exponent-below (suc p.0) left_rest q.0 (first_at left left_rest p left_is v).2 (omega arith) in
      omega (arith, d q.0, (first_at right right_rest q right_is w).1)

  -- the divisor does not have the first variable
  pub quotient_keeps_first : p.0 < q.0 → mono_quotient left right ≡ p ∷ mono_quotient left_rest right
  quotient_keeps_first h =
      let none : exponent right p.0 ≡ 0 =
      ap (λ m. exponent m p.0) right_is ∙ exponent-there q right_rest p.0 (omega arith) ∙ exponent-below (suc q.0) right_rest p.0 (first_at right right_rest q right_is w).2 (omega arith) in
      ap (λ m. mono_quotient m right) left_is ∙ mono_quotient-kept p left_rest right (omega (arith, (first_at left left_rest p left_is v).1))
      ∙ ap (λ (e : ℕ). (p.0, e) ∷ mono_quotient left_rest right) (omega (arith, none))

  pub divides_behind_first : p.0 < q.0 → Divides right left → Divides right left_rest
  divides_behind_first h d =
      let w' : IsMonomialFrom (suc p.0) right = subst (IsMonomialFrom (suc p.0)) (sym right_is) (h, (first_at right right_rest q right_is w).1, (first_at right right_rest q right_is w).2) in
      divides_tail p right left_rest w' (subst (Divides right) left_is d)

  -- the divisor has the first variable
  at_right : p.0 ≡ q.0 → exponent right p.0 ≡ q.1
  at_right same = ap (λ m. exponent m p.0) right_is ∙ exponent-here q right_rest p.0 same

  behind : p.0 ≡ q.0 → mono_quotient left_rest right ≡ mono_quotient left_rest right_rest
  behind same =
      ap (mono_quotient left_rest) right_is
      ∙ mono_quotient-behind q left_rest right_rest (from_lower (suc q.0) (suc p.0) left_rest (first_at left left_rest p left_is v).2 (omega arith))

  pub quotient_lowers_first : p.0 ≡ q.0 → q.1 < p.1 → mono_quotient left right ≡ (p.0, p.1 - q.1) ∷ mono_quotient left_rest right_rest
  quotient_lowers_first same h =
      ap (λ m. mono_quotient m right) left_is ∙ mono_quotient-kept p left_rest right (omega (arith, at_right same))
      ∙ ap₂ (λ (e : ℕ) (m : Monomial). (p.0, p.1 - e) ∷ m) (at_right same) (behind same)

  pub quotient_drops_first : p.0 ≡ q.0 → p.1 ≤ q.1 → mono_quotient left right ≡ mono_quotient left_rest right_rest
  quotient_drops_first same h =
      ap (λ m. mono_quotient m right) left_is ∙ mono_quotient-dropped p left_rest right (omega (arith, at_right same)) ∙ behind same

  pub divides_behind_same : p.0 ≡ q.0 → Divides right left → Divides right_rest left_rest
  divides_behind_same same d =
      let v' : IsMonomialFrom (suc q.0) left_rest = from_lower (suc q.0) (suc p.0) left_rest (first_at left left_rest p left_is v).2 (omega arith) in
      tail_divides q p right_rest left_rest (first_at right right_rest q right_is w).2 v' (sym same) (subst (λ m. Divides m (p ∷ left_rest)) right_is (subst (Divides right) left_is d))

mono_quotient-by_one : (low : ℕ) (m : Monomial) → IsMonomialFrom low m → mono_quotient m [] ≡ m
mono_quotient-by_one low [] v = refl
mono_quotient-by_one low (p ∷ m) v =
    mono_quotient-kept p m [] (omega arith) ∙ ap₂ (λ (e : ℕ) (k : Monomial). (p.0, e) ∷ k) (omega arith) (mono_quotient-by_one (suc p.0) m v.2)

pub quotient_at_right_end : (left right : Monomial) → IsMonomial left → length right ≡ 0 → mono_quotient left right ≡ left
quotient_at_right_end left right v h = ap (mono_quotient left) (none_left right h) ∙ mono_quotient-by_one 0 left v

pub quotient_at_left_end : (left right : Monomial) → length left ≡ 0 → mono_quotient left right ≡ left
quotient_at_left_end left right h =
    let e : left ≡ [] = none_left left h in ap (λ m. mono_quotient m right) e ∙ sym e

-- ---- total degrees

pub degree-append : (m n : Monomial) → degree (m ++ n) ≡ degree m + degree n
degree-append [] n = omega arith
degree-append (p ∷ m) n = omega (arith, degree-append m n)

pub degree-take_more : (m : Monomial) (i : ℕ) → i < length m → degree (take (i + 1) m) ≡ degree (take i m) + (get_or m i (0, 0)).1
degree-take_more [] i h = absurd (omega arith)
degree-take_more (p ∷ m) zero h = omega arith
degree-take_more (p ∷ m) (suc i) h = rw add-one (omega (arith, sym (ap (λ k. degree (take k m)) (add-one i)) ∙ degree-take_more m i (omega arith)))

pub degree-take_le : (m : Monomial) (i : ℕ) → degree (take i m) ≤ degree m
degree-take_le m i = omega (arith, degree-append (take i m) (drop i m), ap degree (take-append-drop i m))

-- ---- the test for equality

-- the test of the slices is the test of the monomials
pub pointwise-is_same : (m n : Monomial) → pointwise (λ (p : ℕ × ℕ) (q : ℕ × ℕ). eqb p.0 q.0 && eqb p.1 q.1) m n ≡ same_monomial m n
pointwise-is_same [] [] = refl
pointwise-is_same [] (q ∷ n) = refl
pointwise-is_same (p ∷ m) [] = refl
pointwise-is_same (p ∷ m) (q ∷ n) = ap (λ r. (eqb p.0 q.0 && eqb p.1 q.1) && r) (pointwise-is_same m n)

-- ---- powers that are appended

pub longer-append : {A : Type 0} (n : ℕ) (out out' more : List A) → out' ≡ out ++ more → n ≤ length out → n ≤ length out'
longer-append n out out' more e h = omega (arith, ap length e, length-append out more)

pub part-append : {A : Type 0} (n : ℕ) (out out' more start : List A) → out' ≡ out ++ more → n ≤ length out → take n out ≡ start → take n out' ≡ start
part-append n out out' more start e h p = ap (take n) e ∙ take-append-le n out more h ∙ p

-- ---- variables in common

module _ (left right left_rest right_rest : Monomial) (p q : ℕ × ℕ) (left_is : left ≡ p ∷ left_rest) (right_is : right ≡ q ∷ right_rest) (v : IsMonomial left) (w : IsMonomial right) where
  pub coprime_not_both : p.0 ≡ q.0 → AreCoprime left right → ⊥
  coprime_not_both same d =
      let in_left : exponent left p.0 ≡ p.1 = ap (λ m. exponent m p.0) left_is ∙ exponent-here p left_rest p.0 refl in
      let in_right : exponent right p.0 ≡ q.1 = ap (λ m. exponent m p.0) right_is ∙ exponent-here q right_rest p.0 same in
      omega (
        arith,
        in_right,
        d p.0 (λ none. omega (arith, in_left, none, (first_at left left_rest p left_is v).1)),
        (first_at right right_rest q right_is w).1,
      )

  pub coprime_behind_left : p.0 < q.0 → AreCoprime left_rest right ↔ AreCoprime left right
  coprime_behind_left h =
      let w' : IsMonomialFrom (suc p.0) right = subst (IsMonomialFrom (suc p.0)) (sym right_is) (h, (first_at right right_rest q right_is w).1, (first_at right right_rest q right_is w).2) in (
        λ d x some.
            elim (cases_eq x p.0) [
              | inl here ↦ exponent-below (suc p.0) right x w' (omega arith)
              | inr there ↦ d x (λ none. some (ap (λ m. exponent m x) left_is ∙ exponent-there p left_rest x there ∙ none))
            ],
        λ d x some.
            elim (cases_eq x p.0) [
              | inl here ↦ exponent-below (suc p.0) right x w' (omega arith)
              | inr there ↦ d x (λ none. some (sym (ap (λ m. exponent m x) left_is ∙ exponent-there p left_rest x there) ∙ none))
            ],
      )

  pub coprime_behind_right : q.0 < p.0 → AreCoprime left right_rest ↔ AreCoprime left right
  coprime_behind_right h =
      let v' : IsMonomialFrom (suc q.0) left = subst (IsMonomialFrom (suc q.0)) (sym left_is) (h, (first_at left left_rest p left_is v).1, (first_at left left_rest p left_is v).2) in (
        λ d x some.
            elim (cases_eq x q.0) [
              | inl here ↦ absurd (some (exponent-below (suc q.0) left x v' (omega arith)))
              | inr there ↦ ap (λ m. exponent m x) right_is ∙ exponent-there q right_rest x there ∙ d x some
            ],
        λ d x some.
            elim (cases_eq x q.0) [
              | inl here ↦ absurd (some (exponent-below (suc q.0) left x v' (omega arith)))
              | inr there ↦ sym (ap (λ m. exponent m x) right_is ∙ exponent-there q right_rest x there) ∙ d x some
            ],
      )

pub coprime_at_left_end : (left right : Monomial) → length left ≡ 0 → AreCoprime left right
coprime_at_left_end left right h x some = absurd (some (ap (λ m. exponent m x) (none_left left h)))

pub coprime_at_right_end : (left right : Monomial) → length right ≡ 0 → AreCoprime left right
coprime_at_right_end left right h x some = ap (λ m. exponent m x) (none_left right h)
