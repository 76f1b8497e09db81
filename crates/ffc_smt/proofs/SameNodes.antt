-- Nodes of one kind with the same parts are those that the code finds equal, so a node is interned where the code finds it.
use Rattle.std.proofs.Common.{◌≡◌, ℕ, ◌+◌, ltb, length, ◌&&◌, Bool, true, false, List, [], ◌∷◌, Option, Some, None, position, nat_eq, cond, not, refl, sym, ap, ap₂, ◌∙◌}
use Rattle.std.specs.List.{position_or_len}
use lib.Pointwise.{pointwise}
use Rattle.ffc_term.specs.declared.node.Node.{Node}
use Rattle.ffc_term.specs.declared.node.Node.TheVariants.{True, False, BoolConst, FieldConst, Num, Not, And, Or, Iff, Xor, IteBool, IteField, Eq, Add, Mul, Neg, Bitsum}
use Rattle.ffc_term.specs.contracts.node.NodePartialEq.TheImpl as by_parts
use Rattle.ffc_smt.specs.Making.{placed, interned, are_same_ids, is_same_node}

ids_alike : (xs ys : List ℕ) → are_same_ids xs ys ≡ pointwise nat_eq xs ys
ids_alike [] [] = refl
ids_alike [] (b ∷ ys) = refl
ids_alike (a ∷ xs) [] = refl
ids_alike (a ∷ xs) (b ∷ ys) = ap (λ x. nat_eq a b && x) (ids_alike xs ys)

nodes_alike : (n m : Node) → is_same_node n m ≡ (by_parts.ghosts).eq n m
nodes_alike True True = refl
nodes_alike True _ = refl
nodes_alike False False = refl
nodes_alike False _ = refl
nodes_alike (BoolConst a) (BoolConst d) = refl
nodes_alike (BoolConst a) _ = refl
nodes_alike (FieldConst a b) (FieldConst d e) = refl
nodes_alike (FieldConst a b) _ = refl
nodes_alike (Num a b) (Num d e) = refl
nodes_alike (Num a b) _ = refl
nodes_alike (Not a) (Not d) = refl
nodes_alike (Not a) _ = refl
nodes_alike (And xs) (And ys) = ids_alike xs ys
nodes_alike (And xs) _ = refl
nodes_alike (Or xs) (Or ys) = ids_alike xs ys
nodes_alike (Or xs) _ = refl
nodes_alike (Iff a b) (Iff d e) = refl
nodes_alike (Iff a b) _ = refl
nodes_alike (Xor a b) (Xor d e) = refl
nodes_alike (Xor a b) _ = refl
nodes_alike (IteBool a b c) (IteBool d e f) = refl
nodes_alike (IteBool a b c) _ = refl
nodes_alike (IteField a b c) (IteField d e f) = refl
nodes_alike (IteField a b c) _ = refl
nodes_alike (Eq a b) (Eq d e) = refl
nodes_alike (Eq a b) _ = refl
nodes_alike (Add xs) (Add ys) = ids_alike xs ys
nodes_alike (Add xs) _ = refl
nodes_alike (Mul xs) (Mul ys) = ids_alike xs ys
nodes_alike (Mul xs) _ = refl
nodes_alike (Neg a) (Neg d) = refl
nodes_alike (Neg a) _ = refl
nodes_alike (Bitsum xs) (Bitsum ys) = ids_alike xs ys
nodes_alike (Bitsum xs) _ = refl

-- a test that says the same of each finds the same place
position_alike : (p q : Node → Bool) → ((n : Node) → p n ≡ q n) → (ns : List Node) → position_or_len p ns ≡ position_or_len q ns
position_alike p q same [] = refl
position_alike p q same (n ∷ ns) = ap₂ (λ b k. cond (not b) (1 + k) 0) (same n) (position_alike p q same ns)

-- interning finds a node by the code's test
pub interned_by_parts : (ns : List Node) (n : Node) → interned ns n ≡ placed ns n (position ((by_parts.ghosts).eq n) ns)
unfolding interned
interned_by_parts ns n = ap (λ k. placed ns n (cond (ltb k (length ns)) (Some k) None)) (position_alike (is_same_node n) ((by_parts.ghosts).eq n) (nodes_alike n) ns)
