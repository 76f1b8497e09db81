-- Measures under a cap, and degrees and lengths in longer and shorter tables.
use Rattle.std.proofs.Common.{◌≡◌, ℕ, zero, suc, ◌+◌, ◌*◌, min, max, List, [], ◌∷◌, ◌++◌, length, take, map, refl, sym, ap, ap₂, ◌∙◌, arith, mul_comm}
use Rattle.std.proofs.lemmas.List.{take-map, map_push}
use Rattle.std.proofs.lemmas.List.Folds.{fold_along}
use Rattle.ffc_term.specs.declared.node.Node.{Node}
use Rattle.ffc_term.specs.declared.node.Node.TheVariants.{True, False, BoolConst, FieldConst, Num, Not, And, Or, Iff, Xor, IteBool, IteField, Eq, Add, Mul, Neg, Bitsum}
use Rattle.ffc_term.specs.Measuring.{number_in, degree_of_node, length_of_node, degrees, lengths, measure_cap}
use Rattle.ffc_term.specs.Keeping.{capped}
use Rattle.ffc_term.proofs.InTurn.{in_turn-push, in_turn-take, length-in_turn}
use Rattle.ffc_term.proofs.ListLemmas.{min-min_mul}

number_in-capped : (numbers : List ℕ) (id : ℕ) → number_in (map capped numbers) id ≡ capped (number_in numbers id)
number_in-capped [] id = refl
number_in-capped (x ∷ numbers) zero = refl
number_in-capped (x ∷ numbers) (suc id) = number_in-capped numbers id

same_sum : (k b c x y : ℕ) → min b k ≡ min c k → x ≡ min y k → min (b + x) k ≡ min (c + y) k
same_sum k b c x y one two = omega arith

same_max : (k b c x y : ℕ) → min b k ≡ min c k → x ≡ min y k → min (max b x) k ≡ min (max c y) k
same_max k b c x y one two = omega arith

same_product : (k b c x y : ℕ) → min b k ≡ min c k → x ≡ min y k → min (b * x) k ≡ min (c * y) k
same_product k b c x y one two =
    sym (min-min_mul k b x) ∙ ap₂ (λ p q. min (p * q) k) one two ∙ min-min_mul k c (min y k)
    ∙ ap (λ p. min p k) (mul_comm c (min y k)) ∙ min-min_mul k y c ∙ ap (λ p. min p k) (mul_comm y c)

-- a node's measure from those of its children under the cap
pub capped-degree_of_node : (ds : List ℕ) (n : Node) → capped (degree_of_node (map capped ds) n) ≡ capped (degree_of_node ds n)
capped-degree_of_node ds True = refl
capped-degree_of_node ds False = refl
capped-degree_of_node ds (BoolConst k) = refl
capped-degree_of_node ds (FieldConst k p) = refl
capped-degree_of_node ds (Num n p) = refl
capped-degree_of_node ds (Not a) = refl
capped-degree_of_node ds (And ids) = refl
capped-degree_of_node ds (Or ids) = refl
capped-degree_of_node ds (Iff a b) = refl
capped-degree_of_node ds (Xor a b) = refl
capped-degree_of_node ds (IteBool c a b) = refl
capped-degree_of_node ds (IteField c a b) = refl
capped-degree_of_node ds (Eq a b) = omega (arith, number_in-capped ds a, number_in-capped ds b)
capped-degree_of_node ds (Add ids) = fold_along (λ a x. max a (number_in (map capped ds) x)) (λ a x. max a (number_in ds x)) (λ b c. capped b ≡ capped c) (λ b c x same. same_max measure_cap b c _ _ same (number_in-capped ds x)) 0 0 ids refl
capped-degree_of_node ds (Mul ids) = fold_along (λ a x. a + number_in (map capped ds) x) (λ a x. a + number_in ds x) (λ b c. capped b ≡ capped c) (λ b c x same. same_sum measure_cap b c _ _ same (number_in-capped ds x)) 0 0 ids refl
capped-degree_of_node ds (Neg a) = omega (arith, number_in-capped ds a)
capped-degree_of_node ds (Bitsum ids) = fold_along (λ a x. max a (number_in (map capped ds) x)) (λ a x. max a (number_in ds x)) (λ b c. capped b ≡ capped c) (λ b c x same. same_max measure_cap b c _ _ same (number_in-capped ds x)) 0 0 ids refl

pub capped-length_of_node : (ls : List ℕ) (n : Node) → capped (length_of_node (map capped ls) n) ≡ capped (length_of_node ls n)
capped-length_of_node ls True = refl
capped-length_of_node ls False = refl
capped-length_of_node ls (BoolConst k) = refl
capped-length_of_node ls (FieldConst k p) = refl
capped-length_of_node ls (Num n p) = refl
capped-length_of_node ls (Not a) = refl
capped-length_of_node ls (And ids) = refl
capped-length_of_node ls (Or ids) = refl
capped-length_of_node ls (Iff a b) = refl
capped-length_of_node ls (Xor a b) = refl
capped-length_of_node ls (IteBool c a b) = refl
capped-length_of_node ls (IteField c a b) = refl
capped-length_of_node ls (Eq a b) = omega (arith, number_in-capped ls a, number_in-capped ls b)
capped-length_of_node ls (Add ids) = fold_along (λ a x. a + number_in (map capped ls) x) (λ a x. a + number_in ls x) (λ b c. capped b ≡ capped c) (λ b c x same. same_sum measure_cap b c _ _ same (number_in-capped ls x)) 0 0 ids refl
capped-length_of_node ls (Mul ids) = fold_along (λ a x. a * number_in (map capped ls) x) (λ a x. a * number_in ls x) (λ b c. capped b ≡ capped c) (λ b c x same. same_product measure_cap b c _ _ same (number_in-capped ls x)) 1 1 ids refl
capped-length_of_node ls (Neg a) = omega (arith, number_in-capped ls a)
capped-length_of_node ls (Bitsum ids) = fold_along (λ a x. a + number_in (map capped ls) x) (λ a x. a + number_in ls x) (λ b c. capped b ≡ capped c) (λ b c x same. same_sum measure_cap b c _ _ same (number_in-capped ls x)) 0 0 ids refl

pub degrees-push : (ns : List Node) (n : Node) → degrees (ns ++ n ∷ []) ≡ degrees ns ++ degree_of_node (degrees ns) n ∷ []
unfolding degrees
degrees-push ns n = in_turn-push degree_of_node ns n

pub degrees-take : (k : ℕ) (ns : List Node) → degrees (take k ns) ≡ take k (degrees ns)
unfolding degrees
degrees-take k ns = in_turn-take degree_of_node k ns

pub length-degrees : (ns : List Node) → length (degrees ns) ≡ length ns
unfolding degrees
length-degrees ns = length-in_turn degree_of_node ns

pub lengths-push : (ns : List Node) (n : Node) → lengths (ns ++ n ∷ []) ≡ lengths ns ++ length_of_node (lengths ns) n ∷ []
unfolding lengths
lengths-push ns n = in_turn-push length_of_node ns n

pub lengths-take : (k : ℕ) (ns : List Node) → lengths (take k ns) ≡ take k (lengths ns)
unfolding lengths
lengths-take k ns = in_turn-take length_of_node k ns

pub length-lengths : (ns : List Node) → length (lengths ns) ≡ length ns
unfolding lengths
length-lengths ns = length-in_turn length_of_node ns

-- what is kept of one more node
pub degrees_more : (ns : List Node) (n : Node) (kept : List ℕ) (d : ℕ) → kept ≡ map capped (degrees ns) → d ≡ capped (degree_of_node kept n) → kept ++ d ∷ [] ≡ map capped (degrees (ns ++ n ∷ []))
degrees_more ns n kept d old is =
    ap₂ (λ xs x. xs ++ x ∷ []) old (is ∙ ap (λ xs. capped (degree_of_node xs n)) old ∙ capped-degree_of_node (degrees ns) n)
    ∙ sym (map_push capped (degrees ns) (degree_of_node (degrees ns) n)) ∙ ap (map capped) (sym (degrees-push ns n))

pub lengths_more : (ns : List Node) (n : Node) (kept : List ℕ) (d : ℕ) → kept ≡ map capped (lengths ns) → d ≡ capped (length_of_node kept n) → kept ++ d ∷ [] ≡ map capped (lengths (ns ++ n ∷ []))
lengths_more ns n kept d old is =
    ap₂ (λ xs x. xs ++ x ∷ []) old (is ∙ ap (λ xs. capped (length_of_node xs n)) old ∙ capped-length_of_node (lengths ns) n)
    ∙ sym (map_push capped (lengths ns) (length_of_node (lengths ns) n)) ∙ ap (map capped) (sym (lengths-push ns n))

pub degrees_less : (k : ℕ) (ns : List Node) (kept : List ℕ) → kept ≡ map capped (degrees ns) → take k kept ≡ map capped (degrees (take k ns))
degrees_less k ns kept old = ap (take k) old ∙ take-map capped k (degrees ns) ∙ ap (map capped) (sym (degrees-take k ns))

pub lengths_less : (k : ℕ) (ns : List Node) (kept : List ℕ) → kept ≡ map capped (lengths ns) → take k kept ≡ map capped (lengths (take k ns))
lengths_less k ns kept old = ap (take k) old ∙ take-map capped k (lengths ns) ∙ ap (map capped) (sym (lengths-take k ns))
