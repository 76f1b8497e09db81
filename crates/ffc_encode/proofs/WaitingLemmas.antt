-- Sums that are opened: what waits is worth the same after a node has given way to its parts, in whatever order it lies.
use Rattle.std.proofs.Common.{◌≡◌, ℕ, zero, suc, ◌+◌, ◌-◌, ◌*◌, ◌^◌, ◌%◌, ◌<◌, List, [], ◌∷◌, ◌++◌, length, take, drop, get_or, map, sum_by, All, refl, sym, ap, ap₂, ◌∙◌, subst, arith, append_assoc, append-nil, one-mul, add-mul, mul_assoc, length-append, drop-cons, add-one, ◌≤◌}
use Rattle.std.proofs.Math.Nat.{mod-mod, mod-eq_of_lt, pow-suc, pow-zero}
use Rattle.std.proofs.lemmas.Nat.{mul-mod_second}
use Rattle.std.specs.List.Sorted.{IsPermutation}
use Rattle.std.proofs.lemmas.Option.{same_Some}
use Rattle.ffc_trees.specs.Parts.{parts_of}
use Rattle.std.proofs.lemmas.List.Sorted.{IsPermutation-trans, IsPermutation-cons, IsPermutation-middle, IsPermutation-append_right, IsPermutation-sym, IsPermutation-pop_more, All-permutation, sum_by-IsPermutation}
use Rattle.std.proofs.lemmas.List.Elements.{All-head, All-tail, All-append, All-cons, All-nil, All-push}
use Rattle.std.proofs.lemmas.List.Sums.{sum_by-cons, sum_by-append, sum_by_push}
use Rattle.ffc_field.specs.Modular.{neg_mod}
use Rattle.ffc_ring.specs.Monomial.{Monomial}
use Rattle.ffc_ring.specs.Polynomial.{Terms, SamePolynomial, written, scaled}
use Rattle.ffc_ring.proofs.PolynomialLemmas.{written-append, written-scaled, times_alike, sum_alike, same_sums, same_term_products, negated_mod}
use Rattle.ffc_term.specs.declared.node.Node.{Node}
use Rattle.ffc_term.specs.declared.node.Node.TheVariants.{Add, Neg, Bitsum}
use Rattle.ffc_term.specs.Nodes.{IsNodeAt}
use Rattle.ffc_term.specs.Tables.{IsFieldAt}
use Rattle.ffc_trees.specs.NodePolynomials.{poly_in, sum_of, bit_sum_of, node_polys, poly_at}
use Rattle.ffc_encode.specs.declared.sums.Owed.{Owed}
use Rattle.ffc_poly.specs.Ordered.{sum_of as total}
use Rattle.ffc_encode.specs.Waiting.{owed_of, owed, geometric, AreOpened, Takes, IsOfNode}
use Rattle.ffc_trees.proofs.ProductLemmas.{poly_before}
use Rattle.ffc_encode.proofs.ExpandLemmas.{node_expands}

-- ---- permutations

-- one more pushed, where those before it lie in front of what was there
pub pushed_more : {X : Type 0} (xs old now new : List X) (x : X) → IsPermutation (xs ++ old) now → IsPermutation (x ∷ now) new → IsPermutation ((xs ++ x ∷ []) ++ old) new
pushed_more xs old now new x so_far pushed =
    subst (λ l. IsPermutation l new) (sym (append_assoc xs (x ∷ []) old))
    (IsPermutation-trans (xs ++ x ∷ old) (x ∷ (xs ++ old)) new (IsPermutation-middle xs x old) (IsPermutation-trans (x ∷ (xs ++ old)) (x ∷ now) new (IsPermutation-cons x (xs ++ old) now so_far) pushed))

-- ---- what is owed

worth : List Terms → Monomial → Owed → ℕ
worth polys m x = x.weight * written (poly_in polys x.node) m

owed_worth : (polys : List Terms) (m : Monomial) (xs : List Owed) → written (owed polys xs) m ≡ sum_by (worth polys m) xs
unfolding worth
owed_worth polys m [] = refl
owed_worth polys m (x ∷ xs) =
    written-append (scaled x.weight (poly_in polys x.node)) (owed polys xs) m
    ∙ ap₂ (λ a b. a + b) (written-scaled x.weight (poly_in polys x.node) m) (owed_worth polys m xs)
    ∙ sym (sum_by-cons (worth polys m) x xs)

pub owed_permuted : (p : ℕ) (polys : List Terms) (xs ys : List Owed) → IsPermutation xs ys → SamePolynomial p (owed polys ys) (owed polys xs)
owed_permuted p polys xs ys is m =
    ap (λ k. k % p) (owed_worth polys m ys ∙ sum_by-IsPermutation (worth polys m) xs ys is ∙ sym (owed_worth polys m xs))

pub owed-append : (polys : List Terms) (xs ys : List Owed) → owed polys (xs ++ ys) ≡ owed polys xs ++ owed polys ys
owed-append polys [] ys = refl
owed-append polys (x ∷ xs) ys =
    ap (λ ts. scaled x.weight (poly_in polys x.node) ++ ts) (owed-append polys xs ys)
    ∙ sym (append_assoc (scaled x.weight (poly_in polys x.node)) (owed polys xs) (owed polys ys))

-- multiples of one node's polynomial
of_one : (polys : List Terms) (node : ℕ) (m : Monomial) (xs : List Owed) → All (λ y. y.node ≡ node) xs → sum_by (worth polys m) xs ≡ sum_by (λ y. y.weight) xs * written (poly_in polys node) m
unfolding worth
of_one polys node m [] are = omega arith
of_one polys node m (x ∷ xs) are =
    let f : ℕ = written (poly_in polys node) m in
    sum_by-cons (worth polys m) x xs
    ∙ ap₂ (λ a b. a + b) (ap (λ k. x.weight * written (poly_in polys k) m) (All-head (λ (y : Owed). y.node ≡ node) x xs are)) (of_one polys node m xs (All-tail (λ (y : Owed). y.node ≡ node) x xs are))
    ∙ sym (add-mul x.weight (sum_by (λ (y : Owed). y.weight) xs) f)
    ∙ ap (λ k. k * f) (sym (sum_by-cons (λ (y : Owed). y.weight) x xs))

-- what was there is what is taken and what is left
pub taken_worth : (p : ℕ) (polys : List Terms) (old : List Owed) (x : Owed) (new : List Owed) → Takes p old x new → SamePolynomial p (scaled x.weight (poly_in polys x.node) ++ owed polys new) (owed polys old)
taken_worth p polys old x new takes m =
    let f : ℕ = written (poly_in polys x.node) m in
    let weights : ℕ = sum_by (λ (y : Owed). y.weight) takes.taken in
    ap (λ k. k % p) (written-append (scaled x.weight (poly_in polys x.node)) (owed polys new) m ∙ ap (λ k. k + written (owed polys new) m) (written-scaled x.weight (poly_in polys x.node) m))
    ∙ sum_alike p (x.weight * f) (weights * f) (written (owed polys new) m) (written (owed polys new) m) (times_alike p x.weight weights f (ap (λ k. k % p) takes.weight ∙ mod-mod weights p)) refl
    ∙ ap (λ k. k % p)
    (ap₂ (λ a b. a + b) (sym (of_one polys x.node m takes.taken takes.of_one)) (owed_worth polys m new)
    ∙ sym (sum_by-append (worth polys m) takes.taken new)
    ∙ sym (owed_worth polys m old ∙ sym (sum_by-IsPermutation (worth polys m) old (takes.taken ++ new) takes.all)))

pub taken_has : (Has : ℕ → Type 0) (p : ℕ) (old : List Owed) (x : Owed) (new : List Owed) → Takes p old x new → All (λ y. Has y.node) old → Has x.node
taken_has Has p old x new takes are =
    let all : All (λ (y : Owed). Has y.node) (takes.taken ++ new) = All-permutation (λ (y : Owed). Has y.node) old (takes.taken ++ new) takes.all are in
    first takes.taken takes.some takes.of_one all
  where
    first : (ys : List Owed) → 0 < length ys → All (λ y. y.node ≡ x.node) ys → All (λ y. Has y.node) (ys ++ new) → Has x.node
    first [] some ones all = absurd (omega arith)
    first (y ∷ ys) some ones all =
        subst Has (All-head (λ (z : Owed). z.node ≡ x.node) y ys ones) (All-head (λ (z : Owed). Has z.node) y (ys ++ new) all)

all_after : {X : Type 0} (P : X → Type 0) (xs ys : List X) → All P (xs ++ ys) → All P ys
all_after P [] ys are = are
all_after P (x ∷ xs) ys are = all_after P xs ys (All-tail P x (xs ++ ys) are)

pub left_have : (Has : ℕ → Type 0) (p : ℕ) (old : List Owed) (x : Owed) (new : List Owed) → Takes p old x new → All (λ y. Has y.node) old → All (λ y. Has y.node) new
left_have Has p old x new takes are =
    all_after (λ (y : Owed). Has y.node) takes.taken new (All-permutation (λ (y : Owed). Has y.node) old (takes.taken ++ new) takes.all are)

-- ---- parts in place of a sum

pub geometric_nodes : (q w r : ℕ) (ids : List ℕ) → map (λ (x : Owed). x.node) (geometric q w r ids) ≡ ids
geometric_nodes q w r [] = refl
geometric_nodes q w r (c ∷ ids) = ap (λ l. c ∷ l) (geometric_nodes q (w * r % q) r ids)

have_nodes : (Has : ℕ → Type 0) (xs : List Owed) → All Has (map (λ (x : Owed). x.node) xs) → All (λ y. Has y.node) xs
have_nodes Has [] are = All-nil (λ (x : Owed). Has x.node)
have_nodes Has (x ∷ xs) are =
    All-cons (λ (y : Owed). Has y.node) x xs (All-head Has x.node (map (λ (y : Owed). y.node) xs) are) (have_nodes Has xs (All-tail Has x.node (map (λ (y : Owed). y.node) xs) are))

-- more nodes wait
pub waiting_have : (Has : ℕ → Type 0) (xs old new : List Owed) → All Has (map (λ (x : Owed). x.node) xs) → All (λ y. Has y.node) old → IsPermutation (xs ++ old) new → All (λ y. Has y.node) new
waiting_have Has xs old new some are is =
    All-permutation (λ (y : Owed). Has y.node) (xs ++ old) new is (All-append (λ (y : Owed). Has y.node) xs old (have_nodes Has xs some) are)

-- the parts of a node wait besides
pub opened_parts : (ns : List Node) (id : ℕ) (n : Node) (added old new : List Owed) → IsNodeAt ns id n → map (λ (x : Owed). x.node) added ≡ parts_of n → IsPermutation (added ++ old) new → AreOpened ns id old new
opened_parts ns id n added old new at parts all = record {
  added = added;
  all = all;
  parts = λ m there. parts ∙ ap parts_of (same_Some n m (sym at ∙ there));
}

-- what waits in place of a node's multiple
pub opened : (p : ℕ) (polys : List Terms) (xs old new : List Owed) (f : Terms) → IsPermutation (xs ++ old) new → SamePolynomial p (owed polys xs) f → SamePolynomial p (owed polys new) (f ++ owed polys old)
opened p polys xs old new f is same m =
    owed_permuted p polys (xs ++ old) new is m ∙ ap (λ ts. written ts m % p) (owed-append polys xs old)
    ∙ same_sums p (owed polys xs) f (owed polys old) (owed polys old) same (λ n. refl) m

module _ (ns : List Node) (p id : ℕ) where
  abbrev all : List Terms
  all = node_polys ns

  abbrev before : List Terms
  before = take id (node_polys ns)

  -- w times the head, and a multiple of the rest
  step : (w c : ℕ) (ids : List ℕ) (rest : Terms) (f g : Terms) (m : Monomial) (v : ℕ) → written f m ≡ written g m → written rest m % p ≡ v % p → (written (scaled w f ++ rest) m) % p ≡ (w * written g m + v) % p
  step w c ids rest f g m v e h =
      ap (λ k. k % p) (written-append (scaled w f) rest m ∙ ap (λ k. k + written rest m) (written-scaled w f m ∙ ap (λ k. w * k) e))
      ∙ sum_alike p (w * written g m) (w * written g m) (written rest m) v refl h

  sum_worth : (w r : ℕ) (ids : List ℕ) → All (λ c. c < id) ids → r % p ≡ 1 % p → (m : Monomial) → written (owed all (geometric p w r ids)) m % p ≡ w * written (sum_of before ids) m % p
  sum_worth w r [] are e m = ap (λ k. k % p) (let none : 0 ≡ w * 0 = omega arith in none)
  sum_worth w r (c ∷ ids) are e m =
      let g = poly_in before c in
      let s : ℕ = written (sum_of before ids) m in
      let again : (w * r % p) % p ≡ w % p = mod-mod (w * r) p ∙ sym (mul-mod_second w r p) ∙ ap (λ k. w * k % p) e ∙ mul-mod_second w 1 p ∙ ap (λ k. k % p) (let same : w * 1 ≡ w = omega arith in same) in
      step w c ids (owed all (geometric p (w * r % p) r ids)) (poly_in all c) g m (w * s) (ap (λ ts. written ts m) (sym (poly_before ns id c (All-head (λ k. k < id) c ids are))))
      (sum_worth (w * r % p) r ids (All-tail (λ k. k < id) c ids are) e m ∙ times_alike p (w * r % p) w s again)
      ∙ ap (λ k. k % p) ((let turned : w * written g m + w * s ≡ w * (written g m + s) = omega arith in turned) ∙ ap (λ k. w * k) (sym (written-append g (sum_of before ids) m)))

  bits_worth : (w r v i : ℕ) (ids : List ℕ) → All (λ c. c < id) ids → r % p ≡ 2 % p → w % p ≡ v * 2 ^ i % p → (m : Monomial) → written (owed all (geometric p w r ids)) m % p ≡ v * written (bit_sum_of i before ids) m % p
  bits_worth w r v i [] are e f m = ap (λ k. k % p) (let none : 0 ≡ v * 0 = omega arith in none)
  bits_worth w r v i (c ∷ ids) are e f m =
      let g = poly_in before c in
      let s : ℕ = written (bit_sum_of (i + 1) before ids) m in
      let b : ℕ = 2 ^ i in
      let twice : 2 ^ (i + 1) ≡ b * 2 = ap (λ n. 2 ^ n) (let same : i + 1 ≡ suc i = omega arith in same) ∙ pow-suc 2 i in
      let again : (w * r % p) % p ≡ v * 2 ^ (i + 1) % p =
      mod-mod (w * r) p ∙ sym (mul-mod_second w r p) ∙ ap (λ k. w * k % p) e ∙ mul-mod_second w 2 p ∙ times_alike p w (v * b) 2 f ∙ ap (λ k. k % p) (mul_assoc v b 2 ∙ ap (λ k. v * k) (sym twice)) in
      step w c ids (owed all (geometric p (w * r % p) r ids)) (poly_in all c) g m (v * s) (ap (λ ts. written ts m) (sym (poly_before ns id c (All-head (λ k. k < id) c ids are))))
      (bits_worth (w * r % p) r v (i + 1) ids (All-tail (λ k. k < id) c ids are) e again m)
      ∙ sum_alike p (w * written g m) (v * b * written g m) (v * s) (v * s) (times_alike p w (v * b) (written g m) f) refl
      ∙ ap (λ k. k % p)
      (ap (λ k. k + v * s) (mul_assoc v b (written g m)) ∙ (let turned : v * (b * written g m) + v * s ≡ v * (b * written g m + s) = omega arith in turned)
      ∙ ap (λ k. v * k) (ap (λ k. k + s) (sym (written-scaled b g m)) ∙ sym (written-append (scaled b g) (bit_sum_of (i + 1) before ids) m)))

  module _ (is : IsFieldAt ns p id) where
    scaled_expands : (w : ℕ) (n : Node) (f : Terms) → SamePolynomial p (poly_at ns id) f → (m : Monomial) → w * written f m % p ≡ written (scaled w (poly_at ns id)) m % p
    scaled_expands w n f same m = ap (λ k. k % p) (sym (written-scaled w f m)) ∙ sym (same_term_products p w [] (poly_at ns id) f same m)

    pub sum_opened : (w r : ℕ) (ids : List ℕ) → IsNodeAt ns id (Add ids) → All (λ c. c < id) ids → r ≡ 1 % p → SamePolynomial p (owed all (geometric p w r ids)) (scaled w (poly_at ns id))
    sum_opened w r ids at are e m =
        sum_worth w r ids are (ap (λ k. k % p) e ∙ mod-mod 1 p) m ∙ scaled_expands w (Add ids) (sum_of before ids) (node_expands ns p id (Add ids) is at) m

    pub bits_opened : (w r : ℕ) (ids : List ℕ) → IsNodeAt ns id (Bitsum ids) → All (λ c. c < id) ids → r ≡ 2 % p → SamePolynomial p (owed all (geometric p w r ids)) (scaled w (poly_at ns id))
    bits_opened w r ids at are e m =
        bits_worth w r w 0 ids are (ap (λ k. k % p) e ∙ mod-mod 2 p) (ap (λ k. k % p) ((let same : w ≡ w * 1 = omega arith in same) ∙ ap (λ k. w * k) (sym (pow-zero 2)))) m
        ∙ scaled_expands w (Bitsum ids) (bit_sum_of 0 before ids) (node_expands ns p id (Bitsum ids) is at) m

    pub negation_opened : (w v c : ℕ) → 0 < p → w < p → IsNodeAt ns id (Neg c) → c < id → v ≡ neg_mod p w → SamePolynomial p (owed all (owed_of c v ∷ [])) (scaled w (poly_at ns id))
    negation_opened w v c some small at early e m =
        let f : ℕ = written (poly_in all c) m in
        ap (λ k. k % p) (written-append (scaled v (poly_in all c)) [] m ∙ (let same : written (scaled v (poly_in all c)) m + 0 ≡ written (scaled v (poly_in all c)) m = omega arith in same) ∙ written-scaled v (poly_in all c) m)
        ∙ times_alike p v ((p - 1) * w) f (ap (λ k. k % p) e ∙ mod-mod (p - w) p ∙ minus w small)
        ∙ ap (λ k. k % p) ((let turned : (p - 1) * w * f ≡ w * ((p - 1) * f) = turn (p - 1) w f in turned) ∙ ap (λ k. w * ((p - 1) * k)) (ap (λ ts. written ts m) (sym (poly_before ns id c early))) ∙ ap (λ k. w * k) (sym (written-scaled (p - 1) (poly_in before c) m)))
        ∙ scaled_expands w (Neg c) (scaled (p - 1) (poly_in before c)) (node_expands ns p id (Neg c) is at) m
      where
        turn : (a b k : ℕ) → a * b * k ≡ b * (a * k)
        turn a b k = ap (λ n. n * k) (let swapped : a * b ≡ b * a = omega arith in swapped) ∙ mul_assoc b a k

        minus : (k : ℕ) → k < p → (p - k) % p ≡ (p - 1) * k % p
        minus k below = ap (λ n. (p - n) % p) (sym (mod-eq_of_lt below)) ∙ sym (negated_mod p k some)

-- ---- the end

pub nothing_waits : (p : ℕ) (polys : List Terms) (sum f : Terms) (xs : List Owed) → xs ≡ [] → SamePolynomial p (sum ++ owed polys xs) f → SamePolynomial p sum f
nothing_waits p polys sum f xs none same m =
    ap (λ ts. written ts m % p) (sym (append-nil sum) ∙ ap (λ l. sum ++ owed polys l) (sym none)) ∙ same m

-- a sum is begun with one node that waits
pub first_waits : (p : ℕ) (polys : List Terms) (sum : Terms) (xs old : List Owed) (one id : ℕ) → sum ≡ [] → old ≡ [] → IsPermutation (owed_of id one ∷ old) xs → one ≡ 1 % p → SamePolynomial p (sum ++ owed polys xs) (poly_in polys id)
first_waits p polys sum xs old one id none empty is unit m =
    ap (λ (ts : Terms). written (ts ++ owed polys xs) m % p) none
    ∙ owed_permuted p polys (owed_of id one ∷ old) xs is m
    ∙ ap (λ l. written (scaled one (poly_in polys id) ++ owed polys l) m % p) empty
    ∙ ap (λ ts. written ts m % p) (append-nil (scaled one (poly_in polys id)))
    ∙ ap (λ k. k % p) (written-scaled one (poly_in polys id) m)
    ∙ times_alike p one 1 (written (poly_in polys id) m) (ap (λ k. k % p) unit ∙ mod-mod 1 p)
    ∙ ap (λ k. k % p) (one-mul (written (poly_in polys id) m))

-- a part is added in place of what waited
pub part_added : (p : ℕ) (parts rest part f : Terms) → SamePolynomial p part f → SamePolynomial p ((parts ++ part) ++ rest) (parts ++ (f ++ rest))
part_added p parts rest part f same m =
    ap (λ ts. written ts m % p) (append_assoc parts part rest)
    ∙ same_sums p parts parts (part ++ rest) (f ++ rest) (λ n. refl) (same_sums p part f rest rest same (λ n. refl)) m

-- ---- what is pushed, and what is taken

-- one of a geometric list is pushed
pub geometric_step : (p w v r id : ℕ) (ids rest : List ℕ) (all now new : List Owed) → ids ≡ id ∷ rest → v ≡ w * r % p → IsPermutation all (geometric p w r ids ++ now) → IsPermutation (owed_of id w ∷ now) new → IsPermutation all (geometric p v r rest ++ new)
geometric_step p w v r id ids rest all now new e f so_far pushed =
    let later : List Owed = geometric p (w * r % p) r rest in
    let here : IsPermutation all (owed_of id w ∷ (later ++ now)) = subst (λ l. IsPermutation all (geometric p w r l ++ now)) e so_far in
    let turned : IsPermutation (owed_of id w ∷ (later ++ now)) (later ++ owed_of id w ∷ now) = IsPermutation-sym (later ++ owed_of id w ∷ now) (owed_of id w ∷ (later ++ now)) (IsPermutation-middle later (owed_of id w) now) in
    let there : IsPermutation (later ++ owed_of id w ∷ now) (later ++ new) = IsPermutation-append_right later (owed_of id w ∷ now) new pushed in
    subst (λ k. IsPermutation all (geometric p k r rest ++ new)) (sym f)
    (IsPermutation-trans all (owed_of id w ∷ (later ++ now)) (later ++ new) here (IsPermutation-trans (owed_of id w ∷ (later ++ now)) (later ++ owed_of id w ∷ now) (later ++ new) turned there))

pub geometric_end : (p w r : ℕ) (ids : List ℕ) (all now : List Owed) → ids ≡ [] → IsPermutation all (geometric p w r ids ++ now) → IsPermutation all now
geometric_end p w r ids all now e so_far = subst (λ l. IsPermutation all (geometric p w r l ++ now)) e so_far

pub nothing_past : {X : Type 0} (i : ℕ) (xs : List X) → length xs ≤ i → drop i xs ≡ []
nothing_past zero [] h = refl
nothing_past zero (x ∷ xs) h = absurd (omega arith)
nothing_past (suc i) [] h = refl
nothing_past (suc i) (x ∷ xs) h = nothing_past i xs (omega arith)

pub get_or-any : {X : Type 0} (xs : List X) (i : ℕ) (d e : X) → i < length xs → get_or xs i d ≡ get_or xs i e
get_or-any [] i d e h = absurd (omega arith)
get_or-any (x ∷ xs) zero d e h = refl
get_or-any (x ∷ xs) (suc i) d e h = get_or-any xs i d e (omega arith)

pub left_at : {X : Type 0} (xs : List X) (i : ℕ) (x : X) → i < length xs → x ≡ get_or xs i x → drop i xs ≡ x ∷ drop (i + 1) xs
left_at xs i x h e = drop-cons xs i x h ∙ ap₂ ◌∷◌ (sym e) (ap (λ k. drop k xs) (sym (add-one i)))

-- the first is of this node
pub of_node : (xs : List Owed) (x : Owed) (n node : ℕ) → length xs ≡ n → 0 < n → x ≡ get_or xs 0 x → x.node ≡ node → IsOfNode node xs
of_node [] x n node long some e h = absurd (omega arith)
of_node (y ∷ xs) x n node long some e h = ap (λ (z : Owed). z.node) (sym e) ∙ h

pub top_node : (xs : List Owed) (y : Owed) (node : ℕ) → IsOfNode node xs → y ≡ get_or xs 0 y → y.node ≡ node
top_node [] y node is e = absurd is
top_node (x ∷ xs) y node is e = ap (λ (z : Owed). z.node) e ∙ is

pub first_taken : (p : ℕ) (old new : List Owed) (x : Owed) (w u : ℕ) → IsPermutation old (x ∷ new) → w ≡ u % p → u ≡ x.weight → Takes p old (owed_of x.node w) new
first_taken p old new x w u is e f = record {
  taken = x ∷ [];
  all = is;
  some = omega arith;
  of_one = All-cons (λ (y : Owed). y.node ≡ x.node) x [] refl (All-nil (λ (y : Owed). y.node ≡ x.node));
  weight = e ∙ ap (λ k. k % p) (f ∙ (let same : x.weight ≡ 0 + x.weight = omega arith in same));
}

pub more_taken : (p : ℕ) (old now new : List Owed) (y : Owed) (node w v u k : ℕ) → Takes p old (owed_of node w) now → IsPermutation now (y ∷ new) → y.node ≡ node → v ≡ (w + u) % p → u ≡ k % p → k ≡ y.weight → Takes p old (owed_of node v) new
more_taken p old now new y node w v u k takes is one e f h = record {
  taken = takes.taken ++ y ∷ [];
  all = IsPermutation-pop_more old takes.taken now new y takes.all is;
  some = omega (arith, takes.some, length-append takes.taken (y ∷ []));
  of_one = All-push (λ (z : Owed). z.node ≡ node) takes.taken y takes.of_one one;
  weight =
      let sum : ℕ = sum_by (λ (z : Owed). z.weight) takes.taken in
      e ∙ sum_alike p w sum u y.weight (ap (λ n. n % p) takes.weight ∙ mod-mod sum p) (ap (λ n. n % p) f ∙ mod-mod k p ∙ ap (λ n. n % p) h)
      ∙ ap (λ n. n % p) (sym (sum_by_push (λ (z : Owed). z.weight) takes.taken y));
}

-- ---- polynomials in a list

pub total-push : (parts new : List Terms) (r : Terms) → new ≡ parts ++ r ∷ [] → total new ≡ total parts ++ r
total-push parts new r e = ap total e ∙ pushed parts
  where
    pushed : (xs : List Terms) → total (xs ++ r ∷ []) ≡ total xs ++ r
    pushed [] = append-nil r
    pushed (x ∷ xs) = ap (λ l. x ++ l) (pushed xs) ∙ sym (append_assoc x (total xs) r)

-- a weight that is reduced
pub weight_reduced : (p w k : ℕ) (r f : Terms) → w ≡ k % p → SamePolynomial p r (scaled w f) → SamePolynomial p r (scaled k f)
weight_reduced p w k r f e same m =
    same m ∙ ap (λ n. n % p) (written-scaled w f m) ∙ times_alike p w k (written f m) (ap (λ n. n % p) e ∙ mod-mod k p) ∙ ap (λ n. n % p) (sym (written-scaled k f m))

-- a part is pushed in place of what waited
pub part_pushed : (p w k : ℕ) (parts new : List Terms) (r f rest : Terms) → new ≡ parts ++ r ∷ [] → w ≡ k % p → SamePolynomial p r (scaled w f) → SamePolynomial p (total new ++ rest) (total parts ++ (scaled k f ++ rest))
part_pushed p w k parts new r f rest e h same m =
    ap (λ ts. written (ts ++ rest) m % p) (total-push parts new r e) ∙ part_added p (total parts) rest r (scaled k f) (weight_reduced p w k r f h same) m

-- a multiple of what is known
pub known_scaled : (p w : ℕ) (r f g : Terms) → SamePolynomial p f g → SamePolynomial p r (scaled w f) → SamePolynomial p r (scaled w g)
known_scaled p w r f g known same m = same m ∙ same_term_products p w [] f g known m

-- a sum that is opened in place of what waited
pub opened_kept : (p w k : ℕ) (parts new f rest : Terms) → w ≡ k % p → SamePolynomial p new (scaled w f ++ rest) → SamePolynomial p (parts ++ new) (parts ++ (scaled k f ++ rest))
opened_kept p w k parts new f rest e same =
    same_sums p parts parts new (scaled k f ++ rest) (λ n. refl)
    (λ m. same m ∙ same_sums p (scaled w f) (scaled k f) rest rest (weight_reduced p w k (scaled w f) f e (λ n. refl)) (λ n. refl) m)

-- one node waits alone
pub one_waits : (Has : ℕ → Type 0) (id w : ℕ) (old new : List Owed) → old ≡ [] → Has id → IsPermutation (owed_of id w ∷ old) new → All (λ y. Has y.node) new
one_waits Has id w old new none is waits =
    let P : Owed → Type 0 = λ y. Has y.node in
    All-permutation P (owed_of id w ∷ old) new waits (All-cons P (owed_of id w) old is (subst (All P) (sym none) (All-nil P)))

-- after a node was settled
pub settled_worth : (p : ℕ) (polys : List Terms) (parts now f goal : Terms) (old rest : List Owed) (x : Owed) → Takes p old x rest → poly_in polys x.node ≡ f → SamePolynomial p now (parts ++ (scaled x.weight f ++ owed polys rest)) → SamePolynomial p (parts ++ owed polys old) goal → SamePolynomial p now goal
settled_worth p polys parts now f goal old rest x takes e settled so_far m =
    settled m
    ∙ ap (λ ts. written (parts ++ (scaled x.weight ts ++ owed polys rest)) m % p) (sym e)
    ∙ same_sums p parts parts (scaled x.weight (poly_in polys x.node) ++ owed polys rest) (owed polys old) (λ n. refl) (taken_worth p polys old x rest takes) m
    ∙ so_far m

-- ---- lists

pub map_push : {X Y : Type 0} (f : X → Y) (xs : List X) (x : X) → map f (xs ++ x ∷ []) ≡ map f xs ++ f x ∷ []
map_push f [] x = refl
map_push f (y ∷ xs) x = ap (λ l. f y ∷ l) (map_push f xs x)

pub only_one : {X : Type 0} (xs : List X) (x : X) → 1 ≤ length xs → length xs < 2 → x ≡ get_or xs 0 x → xs ≡ x ∷ []
only_one [] x h g e = absurd (omega arith)
only_one (y ∷ []) x h g e = ap (λ k. k ∷ []) (sym e)
only_one (y ∷ z ∷ ys) x h g e = absurd (omega arith)
