-- Sums that are opened: what waits is worth the same after a node has given way to its parts.
use Rattle.std.proofs.Common.{◌≡◌, ℕ, zero, suc, ◌+◌, ◌-◌, ◌*◌, ◌%◌, ◌<◌, cond, Bool, true, false, List, [], ◌∷◌, ◌++◌, length, take, get_or, get_or-take, sum_by, All, refl, sym, ap, ap₂, ◌∙◌, subst, arith, append_assoc, append-nil, mul_assoc}
use Rattle.std.proofs.Math.Nat.{mod-mod}
use Rattle.std.proofs.lemmas.List.Sums.{sum_by-append, sum_by-cons}
use Rattle.std.proofs.lemmas.Option.{same_Some, slice_get-get_or}
use Rattle.ffc_ring.specs.Monomial.{Monomial, same_monomial}
use Rattle.ffc_ring.specs.Polynomial.{Terms, SamePolynomial, written, scaled}
use Rattle.ffc_ring.proofs.PolynomialLemmas.{written-append, written-scaled, times_alike, same_sums, same_term_products}
use Rattle.ffc_term.specs.declared.node.Node.{Node}
use Rattle.ffc_term.specs.declared.node.Node.TheVariants.{True, FieldConst, Num, IteField, Add, Mul, Neg, Bitsum}
use Rattle.ffc_term.specs.declared.node.Sort.TheVariants as sort
use Rattle.ffc_term.specs.Nodes.{IsNodeAt, sorts, sort_of_node, order_at, order_of_sort}
use Rattle.ffc_term.proofs.TableLemmas.{sort_at-is}
use Rattle.ffc_term.specs.Tables.{IsFieldAt, IsTable}
use Rattle.ffc_term.specs.Measuring.{number_in}
use Rattle.ffc_term.proofs.InTurn.{get_or-in_turn}
use Rattle.ffc_trees.specs.NodePolynomials.{poly_in, expanded, poly_of_node, node_polys, poly_at}
use Rattle.ffc_trees.proofs.NormalLemmas.{normal_same}
use Rattle.ffc_trees.proofs.NodePolyLemmas.{poly_at-is, boolean_field}
use Rattle.ffc_trees.specs.Parts.{parts_of}
use Rattle.ffc_trees.proofs.PartLemmas.{parts_are}
use Rattle.ffc_ckpoly.specs.Parts.{weighted, owed}
use Rattle.ffc_ckpoly.specs.Multiples.{is_product, operands}
use Rattle.ffc_ckpoly.specs.Opening.{waiting_ids, size_of_node, sizes, size_at, CanOpen, CanMake, IsOpenable}
use Rattle.ffc_ckpoly.specs.Opening.CanOpen.{There, Opened}
use Rattle.ffc_ckpoly.proofs.MultipleLemmas.{operands_are, operands_less}
use Rattle.ffc_ckpoly.proofs.PartLemmas.{weights_alike, as_sum, as_bits, as_negation, reduced, sums_alike}

-- a node's polynomial is the one that is written from those of its parts
pub node_expands : (ns : List Node) (p id : ℕ) (n : Node) → IsFieldAt ns p id → IsNodeAt ns id n → SamePolynomial p (poly_at ns id) (expanded p id (take id (node_polys ns)) n)
node_expands ns p id n is at m =
    let made = expanded p id (take id (node_polys ns)) n in
    let order : order_at ns id ≡ p = ap order_of_sort is.1 in
    ap (λ ts. written ts m % p) (poly_at-is ns id n at ∙ ap (λ q. poly_of_node q id (take id (node_polys ns)) n) order) ∙ normal_same p made m

-- ---- weights

weighted_more : (w a r : ℕ) (polys : List Terms) (ids : List ℕ) (m : Monomial) → written (weighted (w * a) r polys ids) m ≡ w * written (weighted a r polys ids) m
weighted_more w a r polys [] m = omega arith
weighted_more w a r polys (id ∷ ids) m =
    let f = poly_in polys id in
    let k = written f m in
    let n = written (weighted (a * r) r polys ids) m in
    written-append (scaled (w * a) f) (weighted (w * a * r) r polys ids) m
    ∙ ap₂ (λ x y. x + y) (written-scaled (w * a) f m) (ap (λ v. written (weighted v r polys ids) m) (mul_assoc w a r) ∙ weighted_more w (a * r) r polys ids m)
    ∙ (let turned : w * a * k + w * n ≡ w * (a * k + n) = omega arith in turned)
    ∙ ap (λ x. w * x) (ap (λ x. x + n) (sym (written-scaled a f m)) ∙ sym (written-append (scaled a f) (weighted (a * r) r polys ids) m))

weighted_scaled : (p w a r : ℕ) (polys : List Terms) (ids : List ℕ) → SamePolynomial p (weighted (w * a) r polys ids) (scaled w (weighted a r polys ids))
weighted_scaled p w a r polys ids m = ap (λ k. k % p) (weighted_more w a r polys ids m ∙ sym (written-scaled w (weighted a r polys ids) m))

-- ---- what waits

module _ {F : Type 0} (value : F → ℕ) (polys : List Terms) where
  owed-append : (xs ys : List (F × ℕ)) → owed value polys (xs ++ ys) ≡ owed value polys xs ++ owed value polys ys
  owed-append [] ys = refl
  owed-append (x ∷ xs) ys =
      ap (λ ts. scaled (value x.0) (poly_in polys x.1) ++ ts) (owed-append xs ys)
      ∙ sym (append_assoc (scaled (value x.0) (poly_in polys x.1)) (owed value polys xs) (owed value polys ys))

  pub owed-push : (xs : List (F × ℕ)) (w : F) (id : ℕ) → owed value polys (xs ++ (w, id) ∷ []) ≡ owed value polys xs ++ scaled (value w) (poly_in polys id)
  owed-push xs w id = owed-append xs ((w, id) ∷ []) ∙ ap (λ ts. owed value polys xs ++ ts) (append-nil (scaled (value w) (poly_in polys id)))

-- a node gives way to parts with the same sum
pub parts_owed : (p w v a r : ℕ) (polys : List Terms) (id : ℕ) (ids : List ℕ) (new old : Terms) → v ≡ w * a % p
    → SamePolynomial p (poly_in polys id) (weighted a r polys ids) → SamePolynomial p new (old ++ weighted v r polys ids) → SamePolynomial p new (old ++ scaled w (poly_in polys id))
parts_owed p w v a r polys id ids new old e is pushed m =
    let all = weighted a r polys ids in
    pushed m
    ∙ same_sums p old old (weighted v r polys ids) (scaled w (poly_in polys id)) (λ k. refl)
    (λ k. weights_alike p v r (w * a) r polys ids (ap (λ j. j % p) e ∙ mod-mod (w * a) p) refl k
    ∙ weighted_scaled p w a r polys ids k ∙ sym (same_term_products p w [] (poly_in polys id) all is k)) m

pub sum_kept : (p : ℕ) (sum new old : Terms) → SamePolynomial p new old → SamePolynomial p (sum ++ new) (sum ++ old)
sum_kept p sum new old same = same_sums p sum sum new old (λ m. refl) same

-- a term is added in place of what waits
pub term_added : (p : ℕ) (sum old added part : Terms) → SamePolynomial p added part → SamePolynomial p ((sum ++ added) ++ old) (sum ++ (old ++ part))
term_added p sum old added part same m =
    ap (λ k. k % p) (written-append (sum ++ added) old m ∙ ap (λ k. k + written old m) (written-append sum added m)
    ∙ (let turned : written sum m + written added m + written old m ≡ written sum m + written old m + written added m = omega arith in turned)
    ∙ ap (λ k. k + written added m) (sym (written-append sum old m)) ∙ sym (written-append (sum ++ old) added m))
    ∙ same_sums p (sum ++ old) (sum ++ old) added part (λ k. refl) same m
    ∙ ap (λ ts. written ts m % p) (append_assoc sum old part)

-- the nodes that wait
waiting_ids-append : {F : Type 0} (xs ys : List (F × ℕ)) → waiting_ids (xs ++ ys) ≡ waiting_ids xs ++ waiting_ids ys
waiting_ids-append [] ys = refl
waiting_ids-append (x ∷ xs) ys = ap (λ ids. x.1 ∷ ids) (waiting_ids-append xs ys)

pub waiting_ids-push : {F : Type 0} (old new : List (F × ℕ)) (x : F × ℕ) → new ≡ old ++ x ∷ [] → waiting_ids new ≡ waiting_ids old ++ x.1 ∷ []
waiting_ids-push old new x e = ap waiting_ids e ∙ waiting_ids-append old (x ∷ [])

-- ---- kinds of nodes

weigh : (p v w c : ℕ) (b : Bool) → v % p ≡ w * c % p → (cond b v 0 + 0) % p ≡ w * (cond b c 0 + 0) % p
weigh p v w c true e =
    ap (λ k. k % p) (let same : v + 0 ≡ v = omega arith in same) ∙ e ∙ ap (λ k. k % p) (let same : w * c ≡ w * (c + 0) = omega arith in same)
weigh p v w c false e = ap (λ k. k % p) (let same : 0 ≡ w * (0 + 0) = omega arith in same)

-- a multiple of one term
pub term_scaled : (p v w c : ℕ) (m : Monomial) (f : Terms) → v % p ≡ w * c % p → SamePolynomial p f ((c, m) ∷ []) → SamePolynomial p ((v, m) ∷ []) (scaled w f)
term_scaled p v w c m f e is k =
    weigh p v w c (same_monomial m k) e
    ∙ ap (λ j. j % p) (sym (written-scaled w ((c, m) ∷ []) k))
    ∙ sym (same_term_products p w [] f ((c, m) ∷ []) is k)

module _ (ns : List Node) (p id : ℕ) (is : IsFieldAt ns p id) where
  pub sum_expands : (a r : ℕ) (ids : List ℕ) → IsNodeAt ns id (Add ids) → All (λ c. c < id) ids → a ≡ 1 % p → r ≡ 1 % p → SamePolynomial p (poly_at ns id) (weighted a r (node_polys ns) ids)
  sum_expands a r ids at before e f m =
      node_expands ns p id (Add ids) is at m
      ∙ sym (as_sum ns id p a r ids (weighted a r (node_polys ns) ids) before (reduced p 1 a e) (reduced p 1 r f) (λ k. refl) m)

  pub bits_expand : (a r : ℕ) (ids : List ℕ) → IsNodeAt ns id (Bitsum ids) → All (λ c. c < id) ids → a ≡ 1 % p → r ≡ 2 % p → SamePolynomial p (poly_at ns id) (weighted a r (node_polys ns) ids)
  bits_expand a r ids at before e f m =
      node_expands ns p id (Bitsum ids) is at m
      ∙ sym (as_bits ns id p a r ids (weighted a r (node_polys ns) ids) before (reduced p 1 a e) (reduced p 2 r f) (λ k. refl) m)

  pub negation_expands : (a r c : ℕ) → IsNodeAt ns id (Neg c) → c < id → a ≡ p - 1 → SamePolynomial p (poly_at ns id) (weighted a r (node_polys ns) (c ∷ []))
  negation_expands a r c at before e m =
      node_expands ns p id (Neg c) is at m
      ∙ sym (as_negation ns id p a r c (weighted a r (node_polys ns) (c ∷ [])) before e (λ k. refl) m)

pub all_front : {X : Type 0} (P : X → Type 0) (xs : List X) (x : X) → All P (xs ++ x ∷ []) → All P xs
all_front P [] x h k d inside = absurd (omega arith)
all_front P (y ∷ ys) x h zero d inside = h 0 d (omega arith)
all_front P (y ∷ ys) x h (suc k) d inside = all_front P ys x (λ i e j. h (suc i) e (omega (arith, j))) k d (omega (arith, inside))

pub all_last : {X : Type 0} (P : X → Type 0) (xs : List X) (x : X) → All P (xs ++ x ∷ []) → P x
all_last P [] x h = h 0 x (omega arith)
all_last P (y ∷ ys) x h = all_last P ys x (λ i e j. h (suc i) e (omega (arith, j)))

-- ---- what opens

-- a node that is not there is no product, and its operands can be opened
pub opened : (ns : List Node) (has : ℕ → Type 0) (id : ℕ) (n : Node) → IsNodeAt ns id n → (has id → ⊥) → CanOpen ns has id → (is_product ns n ≡ false) × All (CanOpen ns has) (operands ns n)
opened ns has _ n at none (There id h) = absurd (none h)
opened ns has _ n at none (Opened id m there plain parts) =
    subst (λ k. (is_product ns k ≡ false) × All (CanOpen ns has) (operands ns k)) (same_Some m n (sym there ∙ at)) (plain, parts)

pub operands_openable : (ns : List Node) (p : ℕ) (has : ℕ → Type 0) (id : ℕ) (n : Node) → IsTable ns → IsNodeAt ns id n → (has id → ⊥) → IsOpenable ns p has id → All (IsOpenable ns p has) (operands ns n)
operands_openable ns p has id n table at none is = λ k d inside. record {
  field = (operands_are ns p id table is.field n at k d inside).0;
  opens = (opened ns has id n at none is.opens).1 k d inside;
}

-- a node that is no product can be opened, where its operands can
pub openable : (ns : List Node) (p : ℕ) (has : ℕ → Type 0) (id : ℕ) (n : Node) → IsFieldAt ns p id → IsNodeAt ns id n → is_product ns n ≡ false → CanMake ns has has id → IsOpenable ns p has id
openable ns p has id n is at plain can = record { field = is; opens = Opened id n at plain (can.parts n at plain) }

-- ---- sizes

size_at-is : (ns : List Node) (id : ℕ) (n : Node) → IsNodeAt ns id n → size_at ns id ≡ size_of_node (take id (sizes ns)) n
unfolding sizes
size_at-is ns id n at = get_or-in_turn size_of_node ns id n 0 at

-- a node is one more than its parts together
pub size_at-parts : (ns : List Node) (p id : ℕ) (n : Node) → IsTable ns → IsFieldAt ns p id → IsNodeAt ns id n → size_at ns id ≡ suc (sum_by (size_at ns) (parts_of n))
size_at-parts ns p id n table is at =
    size_at-is ns id n at
    ∙ ap suc (sums_alike (number_in (take id (sizes ns))) (size_at ns) (parts_of n) (λ i d inside. get_or-take id (sizes ns) (get_or (parts_of n) i d) 0 (parts_are ns p id table is n at i d inside).1))

-- and so more than its operands together
pub size_at-operands : (ns : List Node) (p id : ℕ) (n : Node) → IsTable ns → IsFieldAt ns p id → IsNodeAt ns id n → sum_by (size_at ns) (operands ns n) < size_at ns id
size_at-operands ns p id n table is at = omega (arith, size_at-parts ns p id n table is at, operands_less (size_at ns) ns n)

pub some_size : (ns : List Node) (p id : ℕ) → IsFieldAt ns p id → 0 < size_at ns id
some_size ns p id is = omega (arith, size_at-is ns id (get_or ns id True) (slice_get-get_or ns id True is.0))

pub sum_by-push : {X : Type 0} (f : X → ℕ) (xs : List X) (x : X) → sum_by f (xs ++ x ∷ []) ≡ sum_by f xs + f x
sum_by-push f xs x = omega (arith, sum_by-append f xs (x ∷ []), sum_by-cons f x [])

-- a sum is begun with one node that waits
pub owed_first : {F : Type 0} (value : F → ℕ) (p : ℕ) (polys : List Terms) (items : List (F × ℕ)) (one : F) (id : ℕ) (sum : Terms) → sum ≡ [] → items ≡ (one, id) ∷ [] → value one ≡ 1 % p
    → SamePolynomial p (sum ++ owed value polys items) (poly_in polys id)
owed_first value p polys items one id sum none is unit m =
    ap₂ (λ (a : Terms) b. written (a ++ owed value polys b) m % p) none is
    ∙ ap (λ ts. written ts m % p) (append-nil (scaled (value one) (poly_in polys id)))
    ∙ ap (λ k. k % p) (written-scaled (value one) (poly_in polys id) m)
    ∙ times_alike p (value one) 1 (written (poly_in polys id) m) (ap (λ k. k % p) unit ∙ mod-mod 1 p)
    ∙ ap (λ k. k % p) (let same : 1 * written (poly_in polys id) m ≡ written (poly_in polys id) m = omega arith in same)

pub nothing_waits : {X : Type 0} (xs : List X) → length xs ≡ 0 → xs ≡ []
nothing_waits [] h = refl
nothing_waits (x ∷ xs) h = absurd (omega arith)

-- a field node that is no product is opened
pub nothing_else : (ns : List Node) (p id : ℕ) (n : Node) → IsFieldAt ns p id → IsNodeAt ns id n
    → ((k q : ℕ) → n ≡ FieldConst k q → ⊥) → ((k q : ℕ) → n ≡ Num k q → ⊥) → ((c a b : ℕ) → n ≡ IteField c a b → ⊥)
    → ((ids : List ℕ) → n ≡ Add ids → ⊥) → ((ids : List ℕ) → n ≡ Mul ids → ⊥) → ((a : ℕ) → n ≡ Neg a → ⊥) → ((ids : List ℕ) → n ≡ Bitsum ids → ⊥) → ⊥
nothing_else ns p id n is at = by_kind n (sym (sort_at-is ns id n at) ∙ is.1)
  where
    by_kind : (m : Node) → sort_of_node (sorts (take id ns)) m ≡ sort.Field p
        → ((k q : ℕ) → m ≡ FieldConst k q → ⊥) → ((k q : ℕ) → m ≡ Num k q → ⊥) → ((c a b : ℕ) → m ≡ IteField c a b → ⊥)
        → ((ids : List ℕ) → m ≡ Add ids → ⊥) → ((ids : List ℕ) → m ≡ Mul ids → ⊥) → ((a : ℕ) → m ≡ Neg a → ⊥) → ((ids : List ℕ) → m ≡ Bitsum ids → ⊥) → ⊥
    by_kind (FieldConst k q) s a b c d e f g = a k q refl
    by_kind (Num k q) s a b c d e f g = b k q refl
    by_kind (IteField k x y) s a b c d e f g = c k x y refl
    by_kind (Add ids) s a b c d e f g = d ids refl
    by_kind (Mul ids) s a b c d e f g = e ids refl
    by_kind (Neg x) s a b c d e f g = f x refl
    by_kind (Bitsum ids) s a b c d e f g = g ids refl
    by_kind _ s a b c d e f g = boolean_field p s
