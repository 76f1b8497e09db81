-- Sums of multiples, as far as they are added, and the rules that they keep.
use Rattle.std.proofs.Common.{◌≡◌, ◌⊎◌, inl, inr, ℕ, Option, Some, None, IfSome, IfNone, subst, ◌+◌, ◌%◌, ◌<◌, ◌≤◌, nat_lt, max, fold, Bool, true, false, not, ◌&&◌, List, [], ◌∷◌, ◌++◌, length, get_or, drop, Result, Ok, Err, IfOk, refl, sym, ap, ap₂, ◌∙◌, arith, add-one, drop-cons, append_assoc}
use Rattle.std.specs.List.{list_all}
use Rattle.std.proofs.lemmas.List.{get_or_default}
use Rattle.std.proofs.lemmas.Bool.{cond-true, cond-false, ltb-false, ltb-true, le-ltb, lt-ltb}
use Rattle.ffc_ring.specs.Monomial.{degree}
use Rattle.ffc_ring.specs.Polynomial.{Terms, SamePolynomial, written}
use Rattle.ffc_ring.proofs.PolynomialLemmas.{same_sums}
use Rattle.ffc_trees.specs.Normal.{degree_of, IsNormal}
use Rattle.ffc_trees.specs.TreeLines.{limits, Multiple, are_there, are_residues, products_in, written_degree, is_written_within, is_within, sum_of_multiples, combined, combine_line}
use Rattle.ffc_trees.specs.Same.{IsSameLine}
use Rattle.ffc_trees.proofs.NormalLemmas.{normal_same, normal_is_normal}
use Rattle.ffc_trees.proofs.SameLemmas.{one_length, one_degree}
use Rattle.ffc_cktree.specs.declared.stop.LineStop.{LineStop}
use Rattle.ffc_cktree.specs.declared.stop.LineStop.TheVariants.{Rule}
use Rattle.ffc_cktree.specs.Lines.{are_low, all_low}

-- what is left from a place on begins with the element there
pub left_at : {A : Type 0} (xs : List A) (i : ℕ) (x : A) → i < length xs → x ≡ get_or xs i x → drop i xs ≡ x ∷ drop (i + 1) xs
left_at xs i x h e = drop-cons xs i x h ∙ ap₂ ◌∷◌ (sym e) (ap (λ k. drop k xs) (sym (add-one i)))

-- within a list the default does not matter
pub get_or-any : {A : Type 0} (xs : List A) (i : ℕ) (d e : A) → i < length xs → get_or xs i d ≡ get_or xs i e
get_or-any xs i d e h = get_or_default xs i d e h

-- one part more is added to what is summed
pub added : (p : ℕ) (new old part rest all : Terms) → SamePolynomial p new (old ++ part) → SamePolynomial p (old ++ (part ++ rest)) all → SamePolynomial p (new ++ rest) all
added p new old part rest all h g m =
    same_sums p new (old ++ part) rest rest h (λ n. refl) m ∙ ap (λ ts. written ts m % p) (append_assoc old part rest) ∙ g m

-- a test of all, one after another

module _ {X : Type 0} (p : X → Bool) (xs : List X) (i : ℕ) (x : X) (inside : i < length xs) (at : x ≡ get_or xs i x) where
  pub fails_here : (all : Bool) → p x ≡ false → list_all p (drop i xs) ≡ all → false ≡ all
  fails_here all e h = sym (ap (list_all p) (left_at xs i x inside at) ∙ ap (λ b. b && list_all p (drop (i + 1) xs)) e) ∙ h

  pub holds_here : (all : Bool) → p x ≡ true → list_all p (drop i xs) ≡ all → list_all p (drop (i + 1) xs) ≡ all
  holds_here all e h = sym (ap (list_all p) (left_at xs i x inside at) ∙ ap (λ b. b && list_all p (drop (i + 1) xs)) e) ∙ h

both_parts : (a b : Bool) → (a && b) ≡ true → (a ≡ true) × (b ≡ true)
both_parts true b e = (refl, e)
both_parts false b e = cc

pub all_parts : {X : Type 0} (p : X → Bool) (xs : List X) (i : ℕ) (x : X) → i < length xs → x ≡ get_or xs i x → list_all p (drop i xs) ≡ true → (p x ≡ true) × (list_all p (drop (i + 1) xs) ≡ true)
all_parts p xs i x inside at h =
    both_parts (p x) (list_all p (drop (i + 1) xs)) (sym (ap (list_all p) (left_at xs i x inside at)) ∙ h)

pub over_limit : (limit n : ℕ) → limit < n → false ≡ not (nat_lt limit n)
over_limit limit n h = sym (ap not (lt-ltb limit n h))

-- all are within a limit where the greatest is

start_within : {X : Type 0} (f : X → ℕ) (s : ℕ) (xs : List X) → s ≤ fold (λ a x. max a (f x)) s xs
start_within f s [] = omega arith
start_within f s (x ∷ xs) = omega (arith, start_within f (max s (f x)) xs)

cases_bool : (b : Bool) → (b ≡ true) ⊎ (b ≡ false)
cases_bool true = inl refl
cases_bool false = inr refl

pub within_test : (limit n : ℕ) → n ≤ limit → not (nat_lt limit n) ≡ true
within_test limit n h = ap not (le-ltb limit n h)

pub low_where_greatest : {X : Type 0} (f : X → ℕ) (limit s : ℕ) (xs : List X) → s ≤ limit → not (nat_lt limit (fold (λ a x. max a (f x)) s xs)) ≡ list_all (λ x. not (nat_lt limit (f x))) xs
low_where_greatest f limit s [] h = within_test limit s h
low_where_greatest f limit s (x ∷ xs) h =
    elim (cases_bool (nat_lt limit (f x))) [
      | inl over ↦
          sym (over_limit limit _ (omega (arith, ltb-true limit (f x) over, start_within f (max s (f x)) xs)))
          ∙ sym (ap (λ b. not b && list_all (λ y. not (nat_lt limit (f y))) xs) over)
      | inr low ↦
          low_where_greatest f limit (max s (f x)) xs (omega (arith, ltb-false limit (f x) low))
          ∙ sym (ap (λ b. not b && list_all (λ y. not (nat_lt limit (f y))) xs) low)
    ]

pub same_tests : {X : Type 0} (p q : X → Bool) (xs : List X) → ((x : X) → p x ≡ q x) → list_all p xs ≡ list_all q xs
same_tests p q [] h = refl
same_tests p q (x ∷ xs) h = ap₂ (λ a b. a && b) (h x) (same_tests p q xs h)

-- the greatest degree of a written term is within the limit where all are
pub written_low : (ms : List Multiple) → not (nat_lt 1024 (written_degree ms)) ≡ all_low ms
written_low ms =
    low_where_greatest (λ (m : Multiple). degree_of m.1) 1024 0 ms (omega arith)
    ∙ same_tests (λ (m : Multiple). not (nat_lt 1024 (degree_of m.1))) (λ (m : Multiple). are_low m.1) ms (λ m. low_where_greatest (λ t. degree t.1) 1024 0 m.1 (omega arith))

-- the sum of the multiples, and the list that the rule has for it
pub same_line : (p : ℕ) (lines : List Terms) (ms : List Multiple) (r : Terms) → 0 < p → IsNormal p r → SamePolynomial p r (sum_of_multiples lines ms) → IsSameLine p r (combined p lines ms)
unfolding combined
same_line p lines ms r some n h = record {
  one = n;
  other = normal_is_normal p (sum_of_multiples lines ms) some;
  same = λ m. h m ∙ sym (normal_same p (sum_of_multiples lines ms) m);
}

-- the rules in turn
module _ (p : ℕ) (lines : List Terms) (ms : List Multiple) where
  pub not_there : false ≡ are_there lines ms → combine_line limits p lines ms ≡ Err 12
  unfolding combine_line
  not_there e = cond-true _ _ _ (ap not (sym e))

  pub not_written : true ≡ are_there lines ms → is_written_within limits lines ms ≡ false → combine_line limits p lines ms ≡ Err 11
  unfolding combine_line
  not_written e f = cond-false _ _ _ (ap not (sym e)) ∙ cond-true _ _ _ (ap not f)

  pub not_within : true ≡ are_there lines ms → is_written_within limits lines ms ≡ true → is_within limits (combined p lines ms) ≡ false → combine_line limits p lines ms ≡ Err 11
  unfolding combine_line
  not_within e f g = cond-false _ _ _ (ap not (sym e)) ∙ cond-false _ _ _ (ap not f) ∙ cond-true _ _ _ (ap not g)

  pub not_residues : true ≡ are_there lines ms → is_written_within limits lines ms ≡ true → is_within limits (combined p lines ms) ≡ true → false ≡ are_residues p ms → combine_line limits p lines ms ≡ Err 5
  unfolding combine_line
  not_residues e f g h = cond-false _ _ _ (ap not (sym e)) ∙ cond-false _ _ _ (ap not f) ∙ cond-false _ _ _ (ap not g) ∙ cond-true _ _ _ (ap not (sym h))

  pub all_kept : true ≡ are_there lines ms → is_written_within limits lines ms ≡ true → is_within limits (combined p lines ms) ≡ true → true ≡ are_residues p ms → combine_line limits p lines ms ≡ Ok (combined p lines ms)
  unfolding combine_line
  all_kept e f g h = cond-false _ _ _ (ap not (sym e)) ∙ cond-false _ _ _ (ap not f) ∙ cond-false _ _ _ (ap not g) ∙ cond-false _ _ _ (ap not (sym h))

  pub few_and_low : true ≡ not (nat_lt 4194304 (products_in lines ms)) → true ≡ all_low ms → is_written_within limits lines ms ≡ true
  few_and_low e f = ap₂ (λ a b. a && b) (sym e) (written_low ms ∙ sym f)

  pub too_many : false ≡ not (nat_lt 4194304 (products_in lines ms)) → is_written_within limits lines ms ≡ false
  too_many e = ap (λ a. a && not (nat_lt 1024 (written_degree ms))) (sym e)

  pub too_high : true ≡ not (nat_lt 4194304 (products_in lines ms)) → false ≡ all_low ms → is_written_within limits lines ms ≡ false
  too_high e f = ap₂ (λ a b. a && b) (sym e) (written_low ms ∙ sym f)

  module _ (r : Terms) (some : 0 < p) (same : IsSameLine p r (combined p lines ms)) where
    pub sum_within : degree_of r ≤ 1024 → length r ≤ 131072 → is_within limits (combined p lines ms) ≡ true
    sum_within d n =
        ap₂ (λ a b. a && b) (within_test 1024 (degree_of (combined p lines ms)) (omega (arith, d, one_degree p r (combined p lines ms) some same)))
        (within_test 131072 (length (combined p lines ms)) (omega (arith, n, one_length p r (combined p lines ms) some same)))

    pub sum_high : 1024 < degree_of r → is_within limits (combined p lines ms) ≡ false
    sum_high d =
        ap (λ a. a && not (nat_lt 131072 (length (combined p lines ms))))
        (sym (over_limit 1024 (degree_of (combined p lines ms)) (omega (arith, d, one_degree p r (combined p lines ms) some same))))

    pub sum_long : degree_of r ≤ 1024 → 131072 < length r → is_within limits (combined p lines ms) ≡ false
    sum_long d n =
        ap₂ (λ a b. a && b) (within_test 1024 (degree_of (combined p lines ms)) (omega (arith, d, one_degree p r (combined p lines ms) some same)))
        (sym (over_limit 131072 (length (combined p lines ms)) (omega (arith, n, one_length p r (combined p lines ms) some same))))

-- the rule that is stated
pub rule_is : {T A : Type 0} (k rule : ℕ) (r : Result A ℕ) (out : Result T LineStop) → r ≡ Err k → out ≡ Err (Rule rule) → out ≡ Err (Rule k) → r ≡ Err rule
rule_is k rule r out h e f = let same : k ≡ rule = cc in h ∙ ap (λ j. Err j) same

-- what holds of an answer that is known
pub at_some : {A : Type 0} (P : A → Type 0) (o : Option A) (x : A) → o ≡ Some x → IfSome o P → P x
at_some P o x e h = subst (λ q. IfSome q P) e h

pub at_none : {A : Type 0} (P : Type 0) (o : Option A) → o ≡ None → IfNone o P → P
at_none P o e h = subst (λ q. IfNone q P) e h

-- what follows from two clauses on an answer
pub if_both : {T E : Type 0} (P Q R : T → Type 0) (r : Result T E) → ((x : T) → P x → Q x → R x) → IfOk r P → IfOk r Q → IfOk r R
if_both P Q R (Ok x) f p q = f x p q
if_both P Q R (Err e) f p q = tt
