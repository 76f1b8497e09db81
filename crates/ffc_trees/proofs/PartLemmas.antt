-- The parts of a node: their fields, their places and their degrees.
use Rattle.std.proofs.Common.{◌≡◌, ℕ, zero, suc, ◌<◌, ◌≤◌, max, List, [], ◌∷◌, length, take, get_or, fold, sum_by, All, refl, sym, ◌∙◌, arith, length-take}
use Rattle.std.proofs.lemmas.List.Sums.{sum_by-cons}
use Rattle.ffc_term.specs.declared.node.Node.{Node}
use Rattle.ffc_term.specs.declared.node.Node.TheVariants.{FieldConst, Num, IteField, Add, Mul, Neg, Bitsum}
use Rattle.ffc_term.specs.declared.node.Sort.TheVariants as sort
use Rattle.ffc_term.specs.Nodes.{IsNodeAt, sorts, sort_of_node}
use Rattle.ffc_term.specs.Tables.{Fits, IsFieldAt, IsTable}
use Rattle.ffc_term.specs.Measuring.{number_in, degree_of_node, degrees, degree_at}
use Rattle.ffc_term.proofs.InTurn.{get_or-in_turn}
use Rattle.ffc_term.proofs.TableLemmas.{sort_at-is, sort_at-take}
use Rattle.ffc_trees.specs.Parts.{parts_of}
use Rattle.ffc_trees.proofs.NodePolyLemmas.{boolean_field, first_order, of_order}

module _ (ns : List Node) (p id : ℕ) (table : IsTable ns) (is : IsFieldAt ns p id) (n : Node) (at : IsNodeAt ns id n) where
  short_front : length (take id ns) ≡ id
  short_front = omega (arith, length-take id ns, is.0)

  sort_is : sort_of_node (sorts (take id ns)) n ≡ sort.Field p
  sort_is = sym (sort_at-is ns id n at) ∙ is.1

  fits : Fits (take id ns) n
  fits = table.well_formed.fits id n at

  from_before : (ids : List ℕ) → All (IsFieldAt (take id ns) p) ids → All (λ c. IsFieldAt ns p c × (c < id)) ids
  from_before ids are = λ k d inside.
      let there = are k d inside in
      let early : get_or ids k d < id = omega (arith, there.0, short_front) in
      ((omega (arith, is.0, early), sym (sort_at-take id ns (get_or ids k d) early) ∙ there.1), early)

  fields_of : (m : Node) → m ≡ n → Fits (take id ns) m → sort_of_node (sorts (take id ns)) m ≡ sort.Field p → All (IsFieldAt (take id ns) p) (parts_of m)
  fields_of (FieldConst k q) e fit srt = λ i d inside. absurd (omega arith)
  fields_of (Num k q) e fit srt = λ i d inside. absurd (omega arith)
  fields_of (IteField c a b) e fit srt = λ i d inside. absurd (omega arith)
  fields_of (Add ids) e fit srt = of_order (take id ns) p ids fit (first_order (take id ns) p ids fit srt)
  fields_of (Mul ids) e fit srt = of_order (take id ns) p ids fit (first_order (take id ns) p ids fit srt)
  fields_of (Neg a) e fit srt = of_order (take id ns) p (a ∷ []) fit (first_order (take id ns) p (a ∷ []) fit srt)
  fields_of (Bitsum ids) e fit srt = of_order (take id ns) p ids fit (first_order (take id ns) p ids fit srt)
  fields_of _ e fit srt = absurd (boolean_field p srt)

  -- they are of the node's field, and before it
  pub parts_are : All (λ c. IsFieldAt ns p c × (c < id)) (parts_of n)
  parts_are = from_before (parts_of n) (fields_of n refl fits sort_is)

greatest_from : {X : Type 0} (f : X → ℕ) (a : ℕ) (xs : List X) → a ≤ fold (λ b x. max b (f x)) a xs
greatest_from f a [] = omega arith
greatest_from f a (x ∷ xs) = omega (arith, greatest_from f (max a (f x)) xs)

pub greatest_at : {X : Type 0} (f : X → ℕ) (a : ℕ) (xs : List X) (i : ℕ) (d : X) → i < length xs → f (get_or xs i d) ≤ fold (λ b x. max b (f x)) a xs
greatest_at f a [] i d h = absurd (omega arith)
greatest_at f a (x ∷ xs) zero d h = omega (arith, greatest_from f (max a (f x)) xs)
greatest_at f a (x ∷ xs) (suc i) d h = greatest_at f (max a (f x)) xs i d (omega arith)

pub sum_at : {X : Type 0} (f : X → ℕ) (xs : List X) (i : ℕ) (d : X) → i < length xs → f (get_or xs i d) ≤ sum_by f xs
sum_at f [] i d h = absurd (omega arith)
sum_at f (x ∷ xs) zero d h = omega (arith, sum_by-cons f x xs)
sum_at f (x ∷ xs) (suc i) d h = omega (arith, sum_by-cons f x xs, sum_at f xs i d (omega arith))

pub degree_at-is : (ns : List Node) (id : ℕ) (n : Node) → IsNodeAt ns id n → degree_at ns id ≡ degree_of_node (take id (degrees ns)) n
unfolding degrees
degree_at-is ns id n at = get_or-in_turn degree_of_node ns id n 0 at

-- a part has at most the degree of the node
pub part_low : (ds : List ℕ) (n : Node) (i d : ℕ) → i < length (parts_of n) → number_in ds (get_or (parts_of n) i d) ≤ degree_of_node ds n
part_low ds (Add ids) i d h = greatest_at (number_in ds) 0 ids i d h
part_low ds (Mul ids) i d h = sum_at (number_in ds) ids i d h
part_low ds (Neg a) zero d h = omega arith
part_low ds (Neg a) (suc i) d h = absurd (omega arith)
part_low ds (Bitsum ids) i d h = greatest_at (number_in ds) 0 ids i d h
part_low ds _ i d h = absurd (omega arith)
