-- Multiples of nodes: which products they are, and that their operands are parts.
use Rattle.std.proofs.Common.{◌≡◌, ℕ, true, false, ◌<◌, ◌≤◌, List, [], ◌∷◌, length, take, get_or, sum_by, All, Option, Some, None, refl, sym, ap, subst, arith, length-take}
use Rattle.std.proofs.lemmas.List.Sums.{sum_by-cons}
use Rattle.std.proofs.lemmas.Option.{same_Some}
use Rattle.std.specs.Prelude.{slice_get, is_none}
use Rattle.ffc_term.specs.declared.node.Node.{Node}
use Rattle.ffc_term.specs.declared.node.Node.TheVariants.{FieldConst, Num, IteField, Add, Mul, Neg, Bitsum}
use Rattle.ffc_term.specs.Nodes.{IsNodeAt}
use Rattle.ffc_term.specs.Tables.{Fits, IsFieldAt, IsTable}
use Rattle.ffc_trees.specs.Parts.{parts_of}
use Rattle.ffc_trees.proofs.PartLemmas.{parts_are}
use Rattle.ffc_ckpoly.specs.Multiples.{is_single, number_of, number_found, number_at, this_or, with_node, multiple_of_two, multiple_of, multiplied_or, is_product, operands}
use Rattle.ffc_ckpoly.specs.Opening.{CanOpen, OpensAlone}
use Rattle.ffc_ckpoly.specs.Opening.CanOpen.{Opened}
use Rattle.ffc_ckpoly.proofs.PartLemmas.{all_one}

pub no_product : (ns : List Node) (n : Node) → ((ids : List ℕ) → n ≡ Mul ids → ⊥) → is_product ns n ≡ false
no_product ns (Mul ids) h = absurd (h ids refl)
no_product ns _ h = refl

-- the operands of a product are its factors
pub factors_are : (ns : List Node) (ids : List ℕ) → is_product ns (Mul ids) ≡ true → operands ns (Mul ids) ≡ ids
factors_are ns ids = by_case (multiple_of ns ids)
  where
    by_case : (o : Option (ℕ × ℕ)) → is_none o ≡ true → multiplied_or o ids ≡ ids
    by_case None h = refl
    by_case (Some x) h = cc

pub no_number : (n : Node) → ((k q : ℕ) → n ≡ Num k q → ⊥) → number_of n ≡ None
no_number (Num k q) h = absurd (h k q refl)
no_number _ h = refl

-- only two factors are a multiple
pub not_two : (ns : List Node) (ids : List ℕ) → (length ids ≡ 2 → ⊥) → multiple_of ns ids ≡ None
not_two ns [] h = refl
not_two ns (a ∷ []) h = refl
not_two ns (a ∷ b ∷ []) h = absurd (h refl)
not_two ns (a ∷ b ∷ c ∷ ids) h = refl

pub two_are : (ns : List Node) (ids : List ℕ) → length ids ≡ 2 → multiple_of_two ns (get_or ids 0 0) (get_or ids 1 0) ≡ multiple_of ns ids
two_are ns [] h = absurd (omega arith)
two_are ns (a ∷ []) h = absurd (omega arith)
two_are ns (a ∷ b ∷ []) h = refl
two_are ns (a ∷ b ∷ c ∷ ids) h = absurd (omega arith)

found_number : (n : Node) (k : ℕ) → number_of n ≡ Some k → (q : ℕ) × (n ≡ Num k q)
found_number (Num j q) k e = (q, ap (λ i. Num i q) (same_Some j k e))
found_number _ k e = cc

-- a node that is a number
pub number_node : (ns : List Node) (id k : ℕ) → number_at ns id ≡ Some k → (q : ℕ) × IsNodeAt ns id (Num k q)
number_node ns id k = by_case (slice_get ns id)
  where
    by_case : (o : Option Node) → number_found o ≡ Some k → (q : ℕ) × (o ≡ Some (Num k q))
    by_case None e = cc
    by_case (Some n) e = let is = found_number n k e in (is.0, ap (λ j. Some j) is.1)

-- ---- operands are parts

multiplied_all : (P : ℕ → Type 0) (ns : List Node) (ids : List ℕ) → All P ids → All P (multiplied_or (multiple_of ns ids) ids)
multiplied_all P ns [] h = h
multiplied_all P ns (a ∷ []) h = h
multiplied_all P ns (a ∷ b ∷ []) h = by_numbers (number_at ns a) (number_at ns b)
  where
    by_numbers : (o q : Option ℕ) → All P (multiplied_or (this_or (with_node o b) (with_node q a)) (a ∷ b ∷ []))
    by_numbers (Some k) q = all_one P b (h 1 0 (omega arith))
    by_numbers None (Some k) = all_one P a (h 0 0 (omega arith))
    by_numbers None None = h
multiplied_all P ns (a ∷ b ∷ c ∷ ids) h = h

pub operands_all : (P : ℕ → Type 0) (ns : List Node) (n : Node) → All P (parts_of n) → All P (operands ns n)
operands_all P ns (Mul ids) h = multiplied_all P ns ids h
operands_all P ns _ h = h

multiplied_less : (f : ℕ → ℕ) (ns : List Node) (ids : List ℕ) → sum_by f (multiplied_or (multiple_of ns ids) ids) ≤ sum_by f ids
multiplied_less f ns [] = omega arith
multiplied_less f ns (a ∷ []) = omega arith
multiplied_less f ns (a ∷ b ∷ []) = by_numbers (number_at ns a) (number_at ns b)
  where
    by_numbers : (o q : Option ℕ) → sum_by f (multiplied_or (this_or (with_node o b) (with_node q a)) (a ∷ b ∷ [])) ≤ sum_by f (a ∷ b ∷ [])
    by_numbers (Some k) q = omega (arith, sum_by-cons f b [], sum_by-cons f a (b ∷ []))
    by_numbers None (Some k) = omega (arith, sum_by-cons f a [], sum_by-cons f b [], sum_by-cons f a (b ∷ []))
    by_numbers None None = omega arith
multiplied_less f ns (a ∷ b ∷ c ∷ ids) = omega arith

pub operands_less : (f : ℕ → ℕ) (ns : List Node) (n : Node) → sum_by f (operands ns n) ≤ sum_by f (parts_of n)
operands_less f ns (Mul ids) = multiplied_less f ns ids
operands_less f ns _ = omega arith

-- ---- what opens alone

pub single_opens : (ns : List Node) (id : ℕ) (n : Node) → IsNodeAt ns id n → is_single n ≡ true → OpensAlone ns id
single_opens ns id (FieldConst k q) at h = Opened id (FieldConst k q) at refl (λ i d inside. absurd (omega (arith, inside)))
single_opens ns id (Num k q) at h = Opened id (Num k q) at refl (λ i d inside. absurd (omega (arith, inside)))
single_opens ns id (IteField c a b) at h = Opened id (IteField c a b) at refl (λ i d inside. absurd (omega (arith, inside)))
single_opens ns id _ at h = absurd (cc)

pub multiple_opens : (ns : List Node) (id : ℕ) (ids : List ℕ) (x : ℕ × ℕ) → IsNodeAt ns id (Mul ids) → multiple_of ns ids ≡ Some x → OpensAlone ns x.1 → OpensAlone ns id
multiple_opens ns id ids x at e h = Opened id (Mul ids) at (ap is_none e) (subst (λ o. All (CanOpen ns (λ q. ⊥)) (multiplied_or o ids)) (sym e) (all_one (CanOpen ns (λ q. ⊥)) x.1 h))

-- the node of a multiple is one of its factors
pub multiplied_inside : (P : ℕ → Type 0) (ns : List Node) (ids : List ℕ) (x : ℕ × ℕ) → All P ids → multiple_of ns ids ≡ Some x → P x.1
multiplied_inside P ns ids x h e = (subst (λ o. All P (multiplied_or o ids)) e (multiplied_all P ns ids h)) 0 0 (omega arith)

-- ---- the parts of a node

-- they are of the node's field, and before it
pub operands_are : (ns : List Node) (p id : ℕ) → IsTable ns → IsFieldAt ns p id → (n : Node) → IsNodeAt ns id n → All (λ c. IsFieldAt ns p c × (c < id)) (operands ns n)
operands_are ns p id table is n at = operands_all (λ c. IsFieldAt ns p c × (c < id)) ns n (parts_are ns p id table is n at)

-- the parts of a node are in the table
pub parts_inside : (ns : List Node) (id : ℕ) (n : Node) → IsTable ns → IsNodeAt ns id n → All (λ c. c < length ns) (parts_of n)
parts_inside ns id n table at = by_kind n (table.well_formed.fits id n at)
  where
    by_kind : (m : Node) → Fits (take id ns) m → All (λ c. c < length ns) (parts_of m)
    by_kind (Add ids) fit = λ k d h. omega (arith, (fit.each k d h).0, length-take id ns)
    by_kind (Mul ids) fit = λ k d h. omega (arith, (fit.each k d h).0, length-take id ns)
    by_kind (Neg a) fit = λ k d h. omega (arith, (fit.each k d h).0, length-take id ns)
    by_kind (Bitsum ids) fit = λ k d h. omega (arith, (fit.each k d h).0, length-take id ns)
    by_kind _ fit = λ k d h. absurd (omega arith)
