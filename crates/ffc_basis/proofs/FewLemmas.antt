-- How many pairs there are of the first lines, and how many are settled.
use Rattle.std.proofs.Common.{◌≡◌, ◌≢◌, ℕ, zero, suc, ◌+◌, ◌*◌, ◌<◌, ◌≤◌, List, [], ◌∷◌, ◌++◌, length, get_or, set, map, min, filter, nat_lt, true, false, cond, refl, sym, ap, ap₂, ◌∙◌, subst, inl, inr, arith, length-append, append-nil, append_assoc, if◌then◌else◌}
use Rattle.std.proofs.Math.Nat.{min-eq_left, min-eq_right, mul-le-mul}
use Rattle.std.proofs.lemmas.Bool.{cases_order}
use Rattle.std.proofs.lemmas.Bool.Decides.{nat_tests}
use Rattle.ffc_basis.specs.declared.pair.PairRecord.{PairRecord}
use Rattle.ffc_basis.specs.declared.pair.PairState.{PairState}
use Rattle.ffc_basis.specs.declared.pair.PairState.TheVariants.{Pending, Closed, Represented, Over}
use Rattle.ffc_basis.specs.PairTable.{forgotten, count_below, seconds, AreFew, ArePendingOf, IsPaired, IsPendingAt, settled_one, settled_count}

-- ---- counts of numbers

count_at_most : (n : ℕ) (ks : List ℕ) → count_below n ks ≤ length ks
count_at_most n [] = omega arith
count_at_most n (k ∷ ks) =
    elim (nat_lt k n) as (λ b. (if b then 1 else 0) + count_below n ks ≤ suc (length ks)) [
      | true ↦ omega (arith, count_at_most n ks)
      | false ↦ omega (arith, count_at_most n ks)
    ]

count-append : (n : ℕ) (ks js : List ℕ) → count_below n (ks ++ js) ≡ count_below n ks + count_below n js
count-append n [] js = omega arith
count-append n (k ∷ ks) js =
    ap (λ x. (if nat_lt k n then 1 else 0) + x) (count-append n ks js) ∙ (let turned : (if nat_lt k n then 1 else 0) + (count_below n ks + count_below n js) ≡ ((if nat_lt k n then 1 else 0) + count_below n ks) + count_below n js = omega arith in turned)

-- those that are left below a number
length-kept : (n : ℕ) (ks : List ℕ) → length (filter (λ k. nat_lt k n) ks) ≡ count_below n ks
length-kept n [] = refl
length-kept n (k ∷ ks) =
    elim (nat_lt k n) as (λ b. length (cond b (k ∷ filter (λ j. nat_lt j n) ks) (filter (λ j. nat_lt j n) ks)) ≡ (if b then 1 else 0) + count_below n ks) [
      | true ↦ omega (arith, length-kept n ks)
      | false ↦ omega (arith, length-kept n ks)
    ]

count-kept : (n len : ℕ) (ks : List ℕ) → count_below n (filter (λ k. nat_lt k len) ks) ≤ count_below n ks
count-kept n len [] = omega arith
count-kept n len (k ∷ ks) =
    elim (nat_lt k len) as (λ b. count_below n (cond b (k ∷ filter (λ j. nat_lt j len) ks) (filter (λ j. nat_lt j len) ks)) ≤ (if nat_lt k n then 1 else 0) + count_below n ks) [
      | true ↦ omega (arith, count-kept n len ks)
      | false ↦ omega (arith, count-kept n len ks)
    ]

not_less_test : (k n : ℕ) → n ≤ k → nat_lt k n ≡ false
not_less_test k n h = grind (arith, nat_tests)

settled_one_at_most : (s : PairState) → settled_one s ≤ 1
settled_one_at_most Pending = omega arith
settled_one_at_most (Closed n) = omega arith
settled_one_at_most (Represented n) = omega arith
settled_one_at_most (Over n) = omega arith

-- ---- few pairs

pub few_none : (ks : List ℕ) (paired : ℕ) → ks ≡ [] → paired ≡ 0 → AreFew ks paired
few_none ks paired none first = subst (λ l. AreFew l paired) (sym none) record { all = omega arith; first = λ n h. omega arith }

-- all paired lines are kept
few_cut_all : (ks : List ℕ) (paired len : ℕ) → paired ≤ len → AreFew ks paired → AreFew (filter (λ k. nat_lt k len) ks) paired
few_cut_all ks paired len h v = record {
  all = omega (arith, length-kept len ks, count_at_most len ks, v.all);
  first = λ n low. omega (arith, count-kept n len ks, v.first n low);
}

few_cut_some : (ks : List ℕ) (paired len : ℕ) → len ≤ paired → AreFew ks paired → AreFew (filter (λ k. nat_lt k len) ks) len
few_cut_some ks paired len h v = record {
  all = omega (arith, length-kept len ks, v.first len h);
  first = λ n low. omega (arith, count-kept n len ks, v.first n (omega arith));
}

pub few_cut : (ks : List ℕ) (paired len : ℕ) → AreFew ks paired → AreFew (filter (λ k. nat_lt k len) ks) (min paired len)
few_cut ks paired len v =
    elim (cases_order paired len) [
      | inl same ↦ subst (AreFew (filter (λ k. nat_lt k len) ks)) (sym (min-eq_left (omega arith))) (few_cut_all ks paired len (omega arith) v)
      | inr (inl less) ↦ subst (AreFew (filter (λ k. nat_lt k len) ks)) (sym (min-eq_left (omega arith))) (few_cut_all ks paired len (omega arith) v)
      | inr (inr more) ↦ subst (AreFew (filter (λ k. nat_lt k len) ks)) (sym (min-eq_right (omega arith))) (few_cut_some ks paired len (omega arith) v)
    ]

-- ---- the second lines of pairs

pub seconds-append : (rs qs : List PairRecord) → seconds (rs ++ qs) ≡ seconds rs ++ seconds qs
seconds-append [] qs = refl
seconds-append (r ∷ rs) qs = ap (λ ks. r.second ∷ ks) (seconds-append rs qs)

pub seconds-set : (rs : List PairRecord) (place : ℕ) (x r : PairRecord) → place < length rs → get_or rs place x ≡ x → r.second ≡ x.second → seconds (set rs place r) ≡ seconds rs
seconds-set [] place x r h is e = refl
seconds-set (y ∷ rs) zero x r h is e = ap (λ k. k ∷ seconds rs) (e ∙ ap (λ z. z.second) (sym is))
seconds-set (y ∷ rs) (suc place) x r h is e = ap (λ ks. y.second ∷ ks) (seconds-set rs place x r (omega arith) is e)

seconds-forgotten : (len : ℕ) (rs : List PairRecord) → seconds (map (forgotten len) rs) ≡ seconds rs
seconds-forgotten len [] = refl
seconds-forgotten len (r ∷ rs) = ap (λ ks. r.second ∷ ks) (seconds-forgotten len rs)

seconds-filter : (len : ℕ) (rs : List PairRecord) → seconds (filter (λ r. nat_lt r.second len) rs) ≡ filter (λ k. nat_lt k len) (seconds rs)
seconds-filter len [] = refl
seconds-filter len (r ∷ rs) =
    elim (nat_lt r.second len) as (λ b. seconds (cond b (r ∷ filter (λ x. nat_lt x.second len) rs) (filter (λ x. nat_lt x.second len) rs)) ≡ cond b (r.second ∷ filter (λ k. nat_lt k len) (seconds rs)) (filter (λ k. nat_lt k len) (seconds rs))) [
      | true ↦ ap (λ ks. r.second ∷ ks) (seconds-filter len rs)
      | false ↦ seconds-filter len rs
    ]

pub few_pairs_cut : (rs new : List PairRecord) (paired less len : ℕ) → new ≡ map (forgotten len) (filter (λ r. nat_lt r.second len) rs) → less ≡ min paired len → AreFew (seconds rs) paired → AreFew (seconds new) less
few_pairs_cut rs new paired less len is low v =
    subst (λ ks. AreFew ks less) (sym (ap seconds is ∙ seconds-forgotten len (filter (λ r. nat_lt r.second len) rs) ∙ seconds-filter len rs))
    (subst (AreFew (filter (λ k. nat_lt k len) (seconds rs))) (sym low) (few_cut (seconds rs) paired len v))

-- ---- a line is paired

count_of_line : (line n : ℕ) (more : List PairRecord) → n ≤ line → ArePendingOf line more → count_below n (seconds more) ≡ 0
count_of_line line n [] h v = refl
count_of_line line n (r ∷ more) h v =
    let no : nat_lt r.second n ≡ false = (let high : n ≤ r.second = omega (arith, v.0) in not_less_test r.second n high) in
    ap₂ (λ b x. (if b then 1 else 0) + x) no (count_of_line line n more h v.2)

length-seconds : (rs : List PairRecord) → length (seconds rs) ≡ length rs
length-seconds [] = refl
length-seconds (r ∷ rs) = ap suc (length-seconds rs)

pub few_paired : (old new : List PairRecord) (line : ℕ) → AreFew (seconds old) line → IsPaired line line old new → AreFew (seconds new) (line + 1)
few_paired old new line v (more, is, of_line, short) =
    let whole : seconds new ≡ seconds old ++ seconds more = ap seconds is ∙ seconds-append old more in
    let square : (line + 1) * (line + 1) ≡ line * line + line + line + 1 = omega arith in
    let all : length (seconds new) ≤ line * line + line = omega (arith, ap length whole, length-append (seconds old) (seconds more), length-seconds more, v.all) in
    record {
      all = omega (arith, all, square);
      first = λ n low.
          elim (cases_order n (line + 1)) [
            | inl same ↦
                let n_square : n * n ≡ (line + 1) * (line + 1) = ap₂ ◌*◌ same same in
                omega (arith, count_at_most n (seconds new), all, square, n_square)
            | inr (inl less) ↦
                omega (arith, ap (count_below n) whole, count-append n (seconds old) (seconds more), count_of_line line n more (omega arith) of_line, v.first n (omega arith))
            | inr (inr high) ↦ absurd (omega arith)
          ];
    }

-- ---- settled pairs

pub settled_at_most : (rs : List PairRecord) → settled_count rs ≤ length (seconds rs)
settled_at_most [] = omega arith
settled_at_most (r ∷ rs) = omega (arith, settled_one_at_most r.state, settled_at_most rs)

pub settled_and_pending : (rs : List PairRecord) (place : ℕ) → IsPendingAt rs place → settled_count rs + 1 ≤ length (seconds rs)
settled_and_pending [] place pending = absurd pending
settled_and_pending (r ∷ rs) zero pending =
    let none : settled_one r.state ≡ 0 = pending in omega (arith, settled_at_most rs)
settled_and_pending (r ∷ rs) (suc place) pending = omega (arith, settled_one_at_most r.state, settled_and_pending rs place pending)

settled-pending : (line : ℕ) (more : List PairRecord) → ArePendingOf line more → settled_count more ≡ 0
settled-pending line [] v = refl
settled-pending line (r ∷ more) v = ap₂ ◌+◌ (ap settled_one v.1) (settled-pending line more v.2)

settled-append : (rs qs : List PairRecord) → settled_count (rs ++ qs) ≡ settled_count rs + settled_count qs
settled-append [] qs = omega arith
settled-append (r ∷ rs) qs = omega (arith, settled-append rs qs)

pub settled_paired : (old new : List PairRecord) (line most : ℕ) → IsPaired line most old new → settled_count new ≡ settled_count old
settled_paired old new line most (more, is, of_line, short) =
    ap settled_count is ∙ settled-append old more ∙ (let none = settled-pending line more of_line in omega arith)

pub settled_set : (rs : List PairRecord) (place : ℕ) (r : PairRecord) → IsPendingAt rs place → settled_one r.state ≡ 1 → settled_count (set rs place r) ≡ settled_count rs + 1
settled_set [] place r pending one = absurd pending
settled_set (x ∷ rs) zero r pending one =
    let none : settled_one x.state ≡ 0 = pending in omega arith
settled_set (x ∷ rs) (suc place) r pending one = omega (arith, settled_set rs place r pending one)

-- more is known of a pair that is not settled still
pub settled_set_none : (rs : List PairRecord) (place : ℕ) (r : PairRecord) → IsPendingAt rs place → settled_one r.state ≡ 0 → settled_count (set rs place r) ≡ settled_count rs
settled_set_none [] place r pending none = absurd pending
settled_set_none (x ∷ rs) zero r pending none =
    let before : settled_one x.state ≡ 0 = pending in omega arith
settled_set_none (x ∷ rs) (suc place) r pending none = omega (arith, settled_set_none rs place r pending none)

-- a pair is settled or not
pub not_settled : (s : PairState) → settled_one s ≢ 1 → settled_one s ≡ 0
not_settled s not = omega (arith, settled_one_at_most s, not)

pub pending_within : (rs : List PairRecord) (place : ℕ) → IsPendingAt rs place → place < length rs
pending_within [] place pending = absurd pending
pending_within (r ∷ rs) zero pending = omega arith
pending_within (r ∷ rs) (suc place) pending = omega (arith, pending_within rs place pending)

pub pending_is_at : (rs : List PairRecord) (place : ℕ) (d : PairRecord) → place < length rs → settled_one (get_or rs place d).state ≡ 0 → IsPendingAt rs place
pending_is_at [] place d h is = absurd (omega arith)
pending_is_at (r ∷ rs) zero d h is = is
pending_is_at (r ∷ rs) (suc place) d h is = pending_is_at rs place d (omega arith) is

-- ---- a line's pairs, one after another

pending_push : (line : ℕ) (more : List PairRecord) (r : PairRecord) → r.second ≡ line → r.state ≡ Pending → ArePendingOf line more → ArePendingOf line (more ++ r ∷ [])
pending_push line [] r e f v = (e, f, tt)
pending_push line (x ∷ more) r e f v = (v.0, v.1, pending_push line more r e f v.2)

pub pairs_nothing : (line : ℕ) (old : List PairRecord) → IsPaired line 0 old old
pairs_nothing line old = ([], sym (append-nil old), tt, omega arith)

pub pairs_more : (line most more : ℕ) (old new : List PairRecord) → most ≤ more → IsPaired line most old new → IsPaired line more old new
pairs_more line most more old new h (qs, is, of_line, short) = (qs, is, of_line, omega arith)

pub pairs_one : (line most : ℕ) (old mid new : List PairRecord) (r : PairRecord) → r.second ≡ line → r.state ≡ Pending → new ≡ mid ++ r ∷ [] → IsPaired line most old mid → IsPaired line (most + 1) old new
pairs_one line most old mid new r e f is (qs, are, of_line, short) = (
  qs ++ r ∷ [],
  is ∙ ap (λ l. l ++ r ∷ []) are ∙ append_assoc old qs (r ∷ []),
  pending_push line qs r e f of_line,
  omega (arith, length-append qs (r ∷ [])),
)

pub few_same : (rs qs : List PairRecord) (paired again : ℕ) → seconds qs ≡ seconds rs → again ≡ paired → AreFew (seconds rs) paired → AreFew (seconds qs) again
few_same rs qs paired again same is v = subst (λ ks. AreFew ks again) (sym same) (subst (AreFew (seconds rs)) (sym is) v)

-- there are at most as many settled pairs as pairs of lines, and fewer where one is pending
pub settled_square : (rs : List PairRecord) (paired n : ℕ) → paired ≤ n → AreFew (seconds rs) paired → settled_count rs ≤ n * n
settled_square rs paired n h v = omega (arith, settled_at_most rs, v.all, mul-le-mul h h)

pub pending_square : (rs : List PairRecord) (paired n place : ℕ) → paired ≤ n → IsPendingAt rs place → AreFew (seconds rs) paired → settled_count rs + 1 ≤ n * n
pending_square rs paired n place h pending v = omega (arith, settled_and_pending rs place pending, v.all, mul-le-mul h h)
