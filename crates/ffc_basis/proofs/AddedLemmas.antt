-- The line that a reduced S-polynomial gives.
use Rattle.std.proofs.Common.{◌≡◌, ◌≢◌, ℕ, zero, suc, ◌+◌, ◌*◌, ◌%◌, ◌<◌, ◌≤◌, List, [], ◌∷◌, ◌++◌, length, get_or, refl, sym, ap, ap₂, ◌∙◌, mod-lt, subst, inl, inr, arith, mod-eq_of_lt, append-nil, append_assoc, length-append, mul_assoc, one-mul, take, set, map, min, filter, nat_lt}
use Rattle.std.proofs.Math.Nat.{zero-mod, zero-mul, mod-mod, add-mul, mul-add, mul_comm}
use Rattle.std.proofs.Math.ListN.{get_or-append}
use Rattle.std.specs.declared.cmp.Ordering.{Ordering}
use Rattle.ffc_field.specs.Modular.{IsPrime, mul_mod, neg_mod}
use Rattle.ffc_field.proofs.ModularLaws.{mul_mod-comm, add_mod-neg}
use Rattle.ffc_ring.specs.Monomial.{Monomial, mono_mul}
use Rattle.ffc_ring.specs.Polynomial.{Terms, AreTerms, written, coefficient, SamePolynomial, product, term_product, scaled}
use Rattle.ffc_ring.proofs.PolynomialLemmas.{weighted, one_at, written-is_weighted, weighted-term_product, cancel_mod, written-append, written-scaled, sum_alike, times_alike, same_sums, same_term_products, cases_monomial}
use Rattle.ffc_mono.specs.MonomialOrder.{IsMonomialOrder}
use Rattle.ffc_mono.specs.Leading.{IsLeading}
use Rattle.ffc_mono.proofs.LeadingLemmas.{one_leading}
use Rattle.ffc_line.specs.declared.line.Line.{Line}
use Rattle.ffc_line.specs.Lines.{Parts, polys_of, combination, AreBefore, IsLine, AreLinesFrom, AreLines, AreLists, AreTermLists, IsAddedTo}
use Rattle.ffc_basis.specs.Reduction.{IsIrreducible, IsReduced, IsAtMostLead, ArePartsAtMost}
use Rattle.ffc_basis.specs.Remainders.{IsRemainder}
use Rattle.ffc_basis.specs.Completion.{IsSPolynomial, ReducesToZero, IsPairClosed, IsPairOver}
use Rattle.ffc_basis.specs.Completed.{IsAddedLine, AreAdded, IsFront}
use Rattle.ffc_basis.specs.Outcomes.{AreSubtracted, IsMonic}
use Rattle.ffc_basis.specs.PairTable.{AreBothClosed, IsState, ArePairs, IsLeftOut, IsPendingAt, forgotten, seconds, settled_count, with_state}
use Rattle.ffc_basis.proofs.FewLemmas.{seconds-set, settled_set_none, pending_within}
use Rattle.ffc_basis.specs.declared.pair.PairRecord.{PairRecord}
use Rattle.ffc_basis.specs.declared.pair.PairState.TheVariants.{Closed, Represented, Over}
use Rattle.ffc_basis.proofs.OrderedTerms.{coefficient-none, coefficient-other}
use Rattle.ffc_basis.proofs.LineLemmas.{AreLinesFrom-alike, polys-append, take_front}
use Rattle.ffc_basis.proofs.Lists.{length-polys, lists_push}
use Rattle.ffc_basis.proofs.PairLemmas.{combination-grown, AreBefore-grown, part_is_before, leading_of_scaled, leading_same, one_s_polynomial_closes, symmetric_pairs_close}
use Rattle.ffc_basis.proofs.PairTableLemmas.{pairs_grown, pairs_cut, pairs_set, record_is, state_by_all, over_by_all, represented_by_all}
use Rattle.ffc_basis.specs.Representations.{AreBothRepresented}
use Rattle.ffc_basis.proofs.SPolynomialLemmas.{scaled_combination, scaled_before}

-- ---- lists of lines

pub polys-append_all : {F O : Type 0} (xs ys : List (Line F O)) → polys_of (xs ++ ys) ≡ polys_of xs ++ polys_of ys
polys-append_all [] ys = refl
polys-append_all (x ∷ xs) ys = ap (λ l. x.poly ∷ l) (polys-append_all xs ys)

AreLinesFrom-push : {F O : Type 0} (p : ℕ) (gs : List Terms) (i : ℕ) (xs : List (Line F O)) (l : Line F O) → AreLinesFrom p gs i xs → IsLine p gs (i + length xs) l → AreLinesFrom p gs i (xs ++ l ∷ [])
AreLinesFrom-push p gs i [] l v w = (subst (λ n. IsLine p gs n l) (omega arith) w, tt)
AreLinesFrom-push p gs i (x ∷ xs) l v w = (v.0, AreLinesFrom-push p gs (suc i) xs l v.1 (subst (λ n. IsLine p gs n l) (omega arith) w))

-- a line more, of the lines before
pub lines_push : {F O : Type 0} (p : ℕ) (ls : List (Line F O)) (l : Line F O) → AreLines p ls → IsLine p (polys_of ls) (length (polys_of ls)) l → AreLines p (ls ++ l ∷ [])
lines_push p ls l v w =
    let gs = polys_of (ls ++ l ∷ []) in
    let more : AreLinesFrom p gs 0 ls = AreLinesFrom-alike p (polys_of ls) gs 0 ls (λ j h. polys-append ls (l ∷ []) j (omega (arith, h))) v in
    let whole : combination (polys_of ls) l.parts.items ≡ combination gs l.parts.items =
    combination-grown (polys_of ls) (polys_of (l ∷ [])) l.parts.items w.0 ∙ ap (λ hs. combination hs l.parts.items) (sym (polys-append_all ls (l ∷ []))) in
    let last : IsLine p gs (0 + length ls) l =
    (subst (λ n. AreBefore n l.parts.items) (length-polys ls ∙ omega arith) w.0, λ some m. w.1 some m ∙ ap (λ ts. coefficient p ts m) whole) in
    AreLinesFrom-push p gs 0 ls l more last

added_both : {F O : Type 0} (p : ℕ) (cmp : Monomial → Monomial → Ordering) (gs : List Terms) (xs ys : List (Line F O)) → AreAdded p cmp gs xs → AreAdded p cmp (gs ++ polys_of xs) ys → AreAdded p cmp gs (xs ++ ys)
added_both p cmp gs [] ys v w = subst (λ hs. AreAdded p cmp hs ys) (append-nil gs) w
added_both p cmp gs (x ∷ xs) ys v w = (v.0, added_both p cmp (gs ++ x.poly ∷ []) xs ys v.1 (subst (λ hs. AreAdded p cmp hs ys) (sym (append_assoc gs (x.poly ∷ []) (polys_of xs))) w))

pub front_same : {F O : Type 0} (p : ℕ) (cmp : Monomial → Monomial → Ordering) (ls ks : List (Line F O)) → ks ≡ ls → IsFront p cmp ls ks
front_same p cmp ls ks is = ([], is ∙ sym (append-nil ls), tt)

pub front_one : {F O : Type 0} (p : ℕ) (cmp : Monomial → Monomial → Ordering) (ls ks : List (Line F O)) (l : Line F O) → ks ≡ ls ++ l ∷ [] → IsAddedLine p cmp (polys_of ls) l → IsFront p cmp ls ks
front_one p cmp ls ks l is added = (l ∷ [], is, (added, tt))

pub front_both : {F O : Type 0} (p : ℕ) (cmp : Monomial → Monomial → Ordering) (ls ks js : List (Line F O)) → IsFront p cmp ls ks → IsFront p cmp ks js → IsFront p cmp ls js
front_both p cmp ls ks js (xs, is, v) (ys, are, w) = (
  xs ++ ys,
  are ∙ ap (λ l. l ++ ys) is ∙ append_assoc ls xs ys,
  added_both p cmp (polys_of ls) xs ys v (subst (λ hs. AreAdded p cmp hs ys) (ap polys_of is ∙ polys-append_all ls xs) w),
)

-- the added lines dropped again
pub front_dropped : {F O : Type 0} (p : ℕ) (cmp : Monomial → Monomial → Ordering) (old new left : List (Line F O)) (n : ℕ) → IsFront p cmp old new → n ≡ length old → left ≡ take n new → left ≡ old
front_dropped p cmp old new left n (more, is, _) all cut = cut ∙ ap (take n) is ∙ take_front old more n all

-- ---- pairs of lists of lines

pub pairs_none : (p : ℕ) (cmp : Monomial → Monomial → Ordering) (gs : List Terms) (rs : List PairRecord) (paired : ℕ) → rs ≡ [] → paired ≡ 0 → AreLists gs → ArePairs p cmp gs rs paired
pairs_none p cmp gs rs paired none first lists =
    subst (λ l. ArePairs p cmp gs l paired) (sym none) (subst (ArePairs p cmp gs []) (sym first) record {
      paired_within = omega arith;
      lists = lists;
      records = tt;
      covered = λ i j h low. absurd (omega arith);
    })

pub pairs_added : {F O : Type 0} (p : ℕ) (cmp : Monomial → Monomial → Ordering) (old new : List (Line F O)) (gens : List Terms) (rs : List PairRecord) (paired : ℕ) → IsAddedTo old new gens → AreLists (polys_of new) → ArePairs p cmp (polys_of old) rs paired → ArePairs p cmp (polys_of new) rs paired
pairs_added p cmp old new gens rs paired (more, is, _) lists v =
    let all : polys_of new ≡ polys_of old ++ polys_of more = ap polys_of is ∙ polys-append_all old more in
    subst (λ hs. ArePairs p cmp hs rs paired) (sym all) (pairs_grown p cmp (polys_of old) (polys_of more) rs paired (subst AreLists all lists) v)

pub pairs_more : {F O : Type 0} (p : ℕ) (cmp : Monomial → Monomial → Ordering) (old new : List (Line F O)) (l : Line F O) (rs : List PairRecord) (paired : ℕ) → new ≡ old ++ l ∷ [] → AreTerms l.poly → ArePairs p cmp (polys_of old) rs paired → ArePairs p cmp (polys_of new) rs paired
pairs_more p cmp old new l rs paired is terms v =
    subst (λ hs. ArePairs p cmp hs rs paired) (sym (ap polys_of is ∙ polys-append_all old (l ∷ [])))
    (pairs_grown p cmp (polys_of old) (polys_of (l ∷ [])) rs paired (lists_push (polys_of old) l.poly v.lists terms) v)

-- the lines with one more are lists of terms
pub lists_more : {F O : Type 0} (old new : List (Line F O)) (l : Line F O) → new ≡ old ++ l ∷ [] → AreLists (polys_of old) → AreTerms l.poly → AreLists (polys_of new)
lists_more old new l is v w =
    subst AreLists (sym (ap polys_of is ∙ polys-append_all old (l ∷ []))) (lists_push (polys_of old) l.poly v w)

pub polys-take : {F O : Type 0} (n : ℕ) (ls : List (Line F O)) → polys_of (take n ls) ≡ take n (polys_of ls)
polys-take zero ls = refl
polys-take (suc n) [] = refl
polys-take (suc n) (l ∷ ls) = ap (λ hs. l.poly ∷ hs) (polys-take n ls)

pub pairs_dropped : {F O : Type 0} (p : ℕ) (cmp : Monomial → Monomial → Ordering) (ls ks : List (Line F O)) (rs new : List PairRecord) (paired less len : ℕ) → len ≤ length ls → ks ≡ take len ls
    → new ≡ map (forgotten len) (filter (λ r. nat_lt r.second len) rs) → less ≡ min paired len → ArePairs p cmp (polys_of ls) rs paired → ArePairs p cmp (polys_of ks) new less
pairs_dropped p cmp ls ks rs new paired less len h is are low v =
    subst (λ hs. ArePairs p cmp hs new less) (sym (ap polys_of is ∙ polys-take len ls))
    (subst (λ l. ArePairs p cmp (take len (polys_of ls)) l less) (sym are)
    (subst (ArePairs p cmp (take len (polys_of ls)) (map (forgotten len) (filter (λ r. nat_lt r.second len) rs))) (sym low)
    (pairs_cut p cmp (polys_of ls) rs paired len (omega (arith, h, length-polys ls)) v)))

-- ---- what is known of a pair

pub settled_closed : {F O : Type 0} (p : ℕ) (cmp : Monomial → Monomial → Ordering) (ls : List (Line F O)) (rs : List PairRecord) (paired place : ℕ) (pair : PairRecord) (count : ℕ) → length ls ≡ count → place < length rs → get_or rs place pair ≡ pair
    → AreBothClosed p cmp (polys_of ls) pair.first pair.second → ArePairs p cmp (polys_of ls) rs paired → ArePairs p cmp (polys_of ls) (set rs place (with_state pair (Closed count))) paired
settled_closed p cmp ls rs paired place pair count all h is both v =
    let gs = polys_of ls in
    let r = record_is p cmp gs rs paired place pair v h is in
    pairs_set p cmp gs rs paired place pair (with_state pair (Closed count)) h is refl refl
    (subst (λ n. IsState p cmp gs pair.first pair.second (Closed n)) (length-polys ls ∙ all) (state_by_all p cmp gs pair.first pair.second r.within both)) v

pub left_out_pair : {F O : Type 0} (p : ℕ) (cmp : Monomial → Monomial → Ordering) (ls : List (Line F O)) (rs : List PairRecord) (paired place : ℕ) (pair : PairRecord) (count : ℕ) → length ls ≡ count → place < length rs → get_or rs place pair ≡ pair
    → AreBothRepresented p cmp (polys_of ls) pair.first pair.second → ArePairs p cmp (polys_of ls) rs paired → ArePairs p cmp (polys_of ls) (set rs place (with_state pair (Represented count))) paired
left_out_pair p cmp ls rs paired place pair count all h is both v =
    let gs = polys_of ls in
    let r = record_is p cmp gs rs paired place pair v h is in
    pairs_set p cmp gs rs paired place pair (with_state pair (Represented count)) h is refl refl
    (subst (λ n. IsState p cmp gs pair.first pair.second (Represented n)) (length-polys ls ∙ all) (represented_by_all p cmp gs pair.first pair.second r.within both)) v

-- a pair more is represented
pub left_out : {F O : Type 0} (p : ℕ) (cmp : Monomial → Monomial → Ordering) (ls : List (Line F O)) (rs new : List PairRecord) (paired place : ℕ) (pair : PairRecord) → new ≡ set rs place (with_state pair (Represented (length ls)))
    → IsPendingAt rs place → get_or rs place pair ≡ pair → AreBothRepresented p cmp (polys_of ls) pair.first pair.second → ArePairs p cmp (polys_of ls) rs paired → IsLeftOut p cmp (polys_of ls) rs new paired
left_out p cmp ls rs new paired place pair is pending there both v =
    let next = with_state pair (Represented (length ls)) in
    let h = pending_within rs place pending in
    record {
      pairs = subst (λ x. ArePairs p cmp (polys_of ls) x paired) (sym is) (left_out_pair p cmp ls rs paired place pair (length ls) refl h there both v);
      seconds = ap seconds is ∙ seconds-set rs place pair next h there refl;
      settled = ap settled_count is ∙ settled_set_none rs place next pending refl;
    }

-- some pairs and then others are
pub left_out_both : (p : ℕ) (cmp : Monomial → Monomial → Ordering) (gs : List Terms) (old mid new : List PairRecord) (paired again : ℕ) → IsLeftOut p cmp gs old mid paired → IsLeftOut p cmp gs mid new again → IsLeftOut p cmp gs old new again
left_out_both p cmp gs old mid new paired again v w = record {
  pairs = w.pairs;
  seconds = w.seconds ∙ v.seconds;
  settled = w.settled ∙ v.settled;
}

pub settled_over : {F O : Type 0} (p : ℕ) (cmp : Monomial → Monomial → Ordering) (ls : List (Line F O)) (rs : List PairRecord) (paired place : ℕ) (pair : PairRecord) (count : ℕ) → length ls ≡ count → place < length rs → get_or rs place pair ≡ pair
    → IsPairOver p cmp (polys_of ls) pair.first pair.second → ArePairs p cmp (polys_of ls) rs paired → ArePairs p cmp (polys_of ls) (set rs place (with_state pair (Over count))) paired
settled_over p cmp ls rs paired place pair count all h is over v =
    let gs = polys_of ls in
    let r = record_is p cmp gs rs paired place pair v h is in
    pairs_set p cmp gs rs paired place pair (with_state pair (Over count)) h is refl refl
    (subst (λ n. IsState p cmp gs pair.first pair.second (Over n)) (length-polys ls ∙ all) (over_by_all p cmp gs pair.first pair.second r.within over)) v

pub settled_added : {F O : Type 0} (p : ℕ) (cmp : Monomial → Monomial → Ordering) (ls ks : List (Line F O)) (l : Line F O) (rs : List PairRecord) (paired place : ℕ) (pair : PairRecord) (count : ℕ) → ks ≡ ls ++ l ∷ [] → length ls ≡ count → place < length rs → get_or rs place pair ≡ pair
    → AreTerms l.poly → AreBothClosed p cmp (polys_of ls ++ l.poly ∷ []) pair.first pair.second → ArePairs p cmp (polys_of ls) rs paired → ArePairs p cmp (polys_of ks) (set rs place (with_state pair (Closed (count + 1)))) paired
settled_added p cmp ls ks l rs paired place pair count is all h there terms both v =
    settled_closed p cmp ks rs paired place pair (count + 1) (ap length is ∙ length-append ls (l ∷ []) ∙ ap (λ n. n + 1) all) h there
    (subst (λ hs. AreBothClosed p cmp hs pair.first pair.second) (sym (ap polys_of is ∙ polys-append_all ls (l ∷ []))) both)
    (pairs_more p cmp ls ks l rs paired is terms v)

pub line_added : {F O : Type 0} (p : ℕ) (ls ks : List (Line F O)) (l : Line F O) → ks ≡ ls ++ l ∷ [] → AreLines p ls → IsLine p (polys_of ls) (length (polys_of ls)) l → AreLines p ks
line_added p ls ks l is v w = subst (AreLines p) (sym is) (lines_push p ls l v w)

-- ---- what is left of an S-polynomial

nothing_times : (p a b : ℕ) → a % p ≡ 0 → (a * b) % p ≡ 0
nothing_times p a b none = times_alike p a 0 b (none ∙ sym (zero-mod p)) ∙ ap (λ n. n % p) (zero-mul b) ∙ zero-mod p

negated_sum : (p k : ℕ) → k < p → (neg_mod p k + k) % p ≡ 0
negated_sum p k low = ap (λ n. n % p) (let turned : neg_mod p k + k ≡ k + neg_mod p k = omega arith in turned) ∙ add_mod-neg p k (omega arith)

-- the multiple by a negated factor is the negated multiple
negated_multiple : (p k : ℕ) (m : Monomial) (a : Terms) → k < p → (x : Monomial) → (written (term_product (neg_mod p k) m a) x + written (term_product k m a) x) % p ≡ 0
negated_multiple p k m a low x =
    let w = weighted (λ n. one_at x (mono_mul m n)) a in
    let at : (c : ℕ) → written (term_product c m a) x ≡ c * w = λ c. written-is_weighted (term_product c m a) x ∙ weighted-term_product (one_at x) c m a in
    ap (λ n. n % p) (ap₂ ◌+◌ (at (neg_mod p k)) (at k) ∙ sym (add-mul (neg_mod p k) k w)) ∙ nothing_times p (neg_mod p k + k) w (negated_sum p k low)

-- what is left and the record with the S-polynomial's multiples subtracted make 0
rest_is_negated : (p : ℕ) → 0 < p → (s rest old x y x' y' new : Terms) → SamePolynomial p s (rest ++ old) → SamePolynomial p s (x ++ y) → ((m : Monomial) → (written x' m + written x m) % p ≡ 0) → ((m : Monomial) → (written y' m + written y m) % p ≡ 0)
    → SamePolynomial p new ((old ++ x') ++ y') → (m : Monomial) → (written rest m + written new m) % p ≡ 0
rest_is_negated p h s rest old x y x' y' new whole sum first second is m =
    let r = written rest m in
    let o = written old m in
    let both : (r + o) % p ≡ (written x m + written y m) % p =
    ap (λ k. k % p) (sym (written-append rest old m)) ∙ sym (whole m) ∙ sum m ∙ ap (λ k. k % p) (written-append x y m) in
    let added : written ((old ++ x') ++ y') m ≡ o + (written x' m + written y' m) = omega (arith, written-append (old ++ x') y' m, written-append old x' m) in
    sum_alike p r r (written new m) (o + (written x' m + written y' m)) refl (is m ∙ ap (λ k. k % p) added)
    ∙ ap (λ k. k % p) (let turned : r + (o + (written x' m + written y' m)) ≡ (r + o) + (written x' m + written y' m) = omega arith in turned)
    ∙ sum_alike p (r + o) (written x m + written y m) (written x' m + written y' m) (written x' m + written y' m) both refl
    ∙ ap (λ k. k % p) (let turned : (written x m + written y m) + (written x' m + written y' m) ≡ (written x' m + written x m) + (written y' m + written y m) = omega arith in turned)
    ∙ sum_alike p (written x' m + written x m) 0 (written y' m + written y m) 0 (first m ∙ sym (zero-mod p)) (second m ∙ sym (zero-mod p))
    ∙ zero-mod p

-- so is a multiple of the one the negated multiple of the other
multiples_negated : (p f : ℕ) (rest new : Terms) → f < p → ((m : Monomial) → (written rest m + written new m) % p ≡ 0) → SamePolynomial p (scaled f rest) (scaled (neg_mod p f) new)
multiples_negated p f rest new low none m =
    let a = written rest m in
    let b = written new m in
    let g = neg_mod p f in
    let positive : 0 < p = omega arith in
    let first : (f * a + f * b) % p ≡ 0 =
    ap (λ n. n % p) (sym (mul-add f a b) ∙ mul_comm f (a + b)) ∙ nothing_times p (a + b) f (none m) in
    let second : (g * b + f * b) % p ≡ 0 =
    ap (λ n. n % p) (sym (add-mul g f b)) ∙ nothing_times p (g + f) b (negated_sum p f low) in
    let r = (f * b) % p in
    let low_r : r < p = mod-lt (f * b) positive in
    ap (λ n. n % p) (written-scaled f rest m)
    ∙ cancel_mod p (f * a) (g * b) r (omega arith)
    (sum_alike p (f * a) (f * a) r (f * b) refl (mod-mod (f * b) p) ∙ first ∙ sym second ∙ sum_alike p (g * b) (g * b) (f * b) r refl (sym (mod-mod (f * b) p)))
    ∙ ap (λ n. n % p) (sym (written-scaled g new m))

-- a polynomial times a factor and its inverse
back_again : (p c d : ℕ) (a : Terms) → 1 < p → mul_mod p c d ≡ 1 → SamePolynomial p (scaled d (scaled c a)) a
back_again p c d a h is m =
    let w = written a m in
    ap (λ k. k % p) (written-scaled d (scaled c a) m ∙ ap (λ k. d * k) (written-scaled c a m) ∙ sym (mul_assoc d c w))
    ∙ times_alike p (d * c) 1 w (mul_mod-comm p d c ∙ is ∙ sym (mod-eq_of_lt h)) ∙ ap (λ k. k % p) (one-mul w)

-- a single constant has one monomial
only_one : (p d : ℕ) (m : Monomial) → coefficient p ((d, []) ∷ []) m ≢ 0 → m ≡ []
only_one p d m some =
    elim (cases_monomial [] m) [
      | inl is ↦ sym is
      | inr other ↦ absurd (some (coefficient-other p (d, []) [] m other ∙ coefficient-none p m))
    ]

last_poly : (gs : List Terms) (g : Terms) → get_or (gs ++ g ∷ []) (length gs) [] ≡ g
last_poly [] g = refl
last_poly (h ∷ gs) g = last_poly gs g

module _ (p : ℕ) (prime : IsPrime p) (cmp : Monomial → Monomial → Ordering) (laws : IsMonomialOrder cmp) (gs : List Terms) (s rest : Terms) (parts : Parts) (reduction : IsRemainder p cmp gs s rest parts) (lists : AreTermLists parts) (g : Terms) (e d : ℕ) (m : Monomial) (lead : IsLeading p cmp rest d m) (inverse : mul_mod p e d ≡ 1) (multiple : SamePolynomial p g (scaled e rest)) where
  g_leads : IsLeading p cmp g (mul_mod p e d) m
  g_leads =
      leading_same p cmp (scaled e rest) g (λ q. sym (multiple q)) (mul_mod p e d) m
      (leading_of_scaled p cmp e rest d m (λ none. let wrong : 1 ≡ 0 = sym inverse ∙ none in omega arith) lead)

  abbrev more : Parts
  more = (length gs, (d, []) ∷ []) ∷ parts

  abbrev all : List Terms
  all = gs ++ g ∷ []

  longer : length all ≡ length gs + 1
  longer = length-append gs (g ∷ [])

  rest_from_g : SamePolynomial p rest (product ((d, []) ∷ []) (get_or all (length gs) []))
  rest_from_g q =
      sym (back_again p e d rest (omega (arith, prime.least)) inverse q)
      ∙ same_term_products p d [] (scaled e rest) g (λ r. sym (multiple r)) q
      ∙ ap (λ l. coefficient p l q) (sym (append-nil (scaled d g)))
      ∙ ap (λ h. coefficient p (product ((d, []) ∷ []) h) q) (sym (last_poly gs g))

  s_from_all : SamePolynomial p s (combination all more)
  s_from_all q =
      reduction.whole q
      ∙ same_sums p rest (product ((d, []) ∷ []) (get_or all (length gs) [])) (combination gs parts) (combination all parts) rest_from_g
      (λ r. ap (λ l. coefficient p l r) (combination-grown gs (g ∷ []) parts reduction.before)) q

  at_most : ArePartsAtMost p cmp all s more
  at_most i q (inl (here, some)) =
      subst (λ n. (c : ℕ) × (k : Monomial) × IsLeading p cmp (get_or all n []) c k × IsAtMostLead p cmp s (mono_mul q k)) here (
        mul_mod p e d,
        m,
        subst (λ h. IsLeading p cmp h (mul_mod p e d) m) (sym (last_poly gs g)) g_leads,
        subst (λ r. IsAtMostLead p cmp s (mono_mul r m)) (sym (only_one p d q some)) (reduction.lower m (λ none. lead.1 (sym lead.0 ∙ none))),
      )
  at_most i q (inr there) =
      let found = reduction.at_most i q there in
      let within : i < length gs = part_is_before p (length gs) parts i q reduction.before there in
      (found.0, found.1, subst (λ b. IsLeading p cmp b found.0 found.1) (sym (get_or-append gs (g ∷ []) [] i within)) found.2, found.3)

  -- the S-polynomial reduces to zero by the lines and what is left of it
  pub reduces_with_rest : ReducesToZero p cmp all s
  reduces_with_rest = (
    more,
    (omega (arith, longer), AreBefore-grown (length gs) (length all) parts (omega (arith, longer)) reduction.before),
    at_most,
    s_from_all,
    ((tt, tt), lists),
  )

  pub closed_with_rest : (i j : ℕ) → i < length gs → j < length gs → AreTerms (get_or gs i []) → AreTerms (get_or gs j []) → IsSPolynomial p cmp (get_or gs i []) (get_or gs j []) s → AreBothClosed p cmp all i j
  closed_with_rest i j h k x y is =
      let first : get_or gs i [] ≡ get_or all i [] = sym (get_or-append gs (g ∷ []) [] i h) in
      let second : get_or gs j [] ≡ get_or all j [] = sym (get_or-append gs (g ∷ []) [] j k) in
      let there : IsSPolynomial p cmp (get_or all i []) (get_or all j []) s =
      subst (λ a. IsSPolynomial p cmp a (get_or all j []) s) first (subst (λ b. IsSPolynomial p cmp (get_or gs i []) b s) second is) in
      let closed : IsPairClosed p cmp all i j = one_s_polynomial_closes p cmp laws all i j s there reduces_with_rest in
      (closed, symmetric_pairs_close p cmp (omega (arith, prime.least)) all i j (subst AreTerms first x) (subst AreTerms second y) closed)

  pub irreducible_lead : IsReduced p cmp gs rest → (c : ℕ) (n : Monomial) → IsLeading p cmp g c n → IsIrreducible p cmp gs n
  irreducible_lead reduced c n leads =
      let one = one_leading cmp laws p g (mul_mod p e d) c m n g_leads leads in
      subst (IsIrreducible p cmp gs) one.1 (reduced m (λ none. lead.1 (sym lead.0 ∙ none)))

  pub some_lead : coefficient p g m ≢ 0
  some_lead none = g_leads.1 (sym g_leads.0 ∙ none)

  pub g_is_not_zero : g ≢ []
  g_is_not_zero none =
      g_leads.1 (sym g_leads.0 ∙ ap (λ ts. coefficient p ts m) none ∙ coefficient-none p m)

-- what is left of a reduction to zero
pub closed_by_reduction : (p : ℕ) → IsPrime p → (cmp : Monomial → Monomial → Ordering) → IsMonomialOrder cmp → (gs : List Terms) (i j : ℕ) (s rest : Terms) (parts : Parts) → AreTerms (get_or gs i []) → AreTerms (get_or gs j [])
    → IsSPolynomial p cmp (get_or gs i []) (get_or gs j []) s → IsRemainder p cmp gs s rest parts → AreTermLists parts → rest ≡ [] → AreBothClosed p cmp gs i j
closed_by_reduction p prime cmp laws gs i j s rest parts x y is reduction lists none =
    let zero : ReducesToZero p cmp gs s =
    (parts, reduction.before, reduction.at_most, (λ m. reduction.whole m ∙ ap (λ ts. coefficient p (ts ++ combination gs parts) m) none), lists) in
    let closed : IsPairClosed p cmp gs i j = one_s_polynomial_closes p cmp laws gs i j s is zero in
    (closed, symmetric_pairs_close p cmp (omega (arith, prime.least)) gs i j x y closed)

-- the new line is right
pub line_of_rest : {F O : Type 0} (p : ℕ) → IsPrime p → (cmp : Monomial → Monomial → Ordering) → IsMonomialOrder cmp → (gs : List Terms) (i j k l : ℕ) (u v : Monomial) (s rest : Terms) (parts found : Parts) (line : Line F O)
    → i < length gs → j < length gs → AreTerms (get_or gs i []) → AreTerms (get_or gs j [])
    → IsSPolynomial p cmp (get_or gs i []) (get_or gs j []) s → SamePolynomial p s (term_product k u (get_or gs i []) ++ term_product l v (get_or gs j []))
    → IsRemainder p cmp gs s rest parts → AreTermLists parts → IsReduced p cmp gs rest → k < p → l < p → AreSubtracted p parts i k u j l v found → IsMonic p cmp rest found line
    → IsLine p gs (length gs) line × IsAddedLine p cmp gs line × AreBothClosed p cmp (gs ++ line.poly ∷ []) i j
line_of_rest p prime cmp laws gs i j k l u v s rest parts found line h g x y is sum reduction lists reduced k_low l_low subtracted monic =
    let positive : 0 < p = omega (arith, prime.least) in
    let a = term_product k u (get_or gs i []) in
    let b = term_product l v (get_or gs j []) in
    let factor = neg_mod p monic.factor in
    let before : AreBefore (length gs) line.parts.items =
    scaled_before p factor (length gs) found line.parts.items monic.scaled_parts (subtracted.before (length gs) h g reduction.before) in
    let whole : SamePolynomial p line.poly (combination gs line.parts.items) =
    λ q. monic.multiple q
    ∙ multiples_negated p monic.factor rest (combination gs found) monic.below
    (rest_is_negated p positive s rest (combination gs parts) a b (term_product (neg_mod p k) u (get_or gs i [])) (term_product (neg_mod p l) v (get_or gs j [])) (combination gs found) reduction.whole sum
    (negated_multiple p k u (get_or gs i []) k_low) (negated_multiple p l v (get_or gs j []) l_low) (subtracted.sum gs)) q
    ∙ sym (scaled_combination p factor gs found line.parts.items monic.scaled_parts q) in
    let nonzero : line.poly ≢ [] =
    g_is_not_zero p prime cmp laws gs s rest parts reduction lists line.poly monic.factor monic.coefficient monic.monomial monic.leading monic.inverse monic.multiple in (
      (before, λ _. whole),
      record {
        has_parts = λ none.
            some_lead p prime cmp laws gs s rest parts reduction lists line.poly monic.factor monic.coefficient monic.monomial monic.leading monic.inverse monic.multiple
            (whole monic.monomial ∙ ap (λ ps. coefficient p (combination gs ps) monic.monomial) none ∙ coefficient-none p monic.monomial);
        nonzero = nonzero;
        irreducible = irreducible_lead p prime cmp laws gs s rest parts reduction lists line.poly monic.factor monic.coefficient monic.monomial monic.leading monic.inverse monic.multiple reduced;
      },
      closed_with_rest p prime cmp laws gs s rest parts reduction lists line.poly monic.factor monic.coefficient monic.monomial monic.leading monic.inverse monic.multiple i j h g x y is,
    )
