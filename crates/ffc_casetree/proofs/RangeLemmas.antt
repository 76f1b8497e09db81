-- Ranges of what a tree has, over the first ones of a list.
use Rattle.std.proofs.Common.{◌≡◌, ℕ, ◌+◌, ◌<◌, ◌≤◌, List, [], ◌∷◌, ◌++◌, length, get_or, take, sym, ap, ◌∙◌, subst, arith}
use Rattle.std.specs.List.{AllByRecursion}
use Rattle.std.proofs.Math.Seq.{take-length}
use Rattle.ffc_cert.specs.Ranges.{Increase, IsNarrow, IsPower, VariablesIncrease}
use Rattle.ffc_uni.proofs.Rows.{taken_at}

pub each_last : {A : Type 0} (P : A → Type 0) (xs : List A) (x : A) → AllByRecursion P xs → P x → AllByRecursion P (xs ++ x ∷ [])
each_last P [] x all last = (last, tt)
each_last P (y ∷ xs) x all last = (all.0, each_last P xs x all.1 last)

-- of the first ones, and of one more
pub each_more : {A : Type 0} (P : A → Type 0) (xs : List A) (i : ℕ) (x : A) → i < length xs → x ≡ get_or xs i x → AllByRecursion P (take i xs) → P x → AllByRecursion P (take (i + 1) xs)
each_more P xs i x h at all here = subst (AllByRecursion P) (sym (taken_at xs i x h at)) (each_last P (take i xs) x all here)

each_weaker : {A : Type 0} (P Q : A → Type 0) → ((x : A) → P x → Q x) → (xs : List A) → AllByRecursion P xs → AllByRecursion Q xs
each_weaker P Q f [] all = tt
each_weaker P Q f (x ∷ xs) all = (f x all.0, each_weaker P Q f xs all.1)

increase_last : (xs : List (ℕ × ℕ)) (x : ℕ × ℕ) → VariablesIncrease xs → AllByRecursion (λ q. q.0 < x.0) xs → VariablesIncrease (xs ++ x ∷ [])
increase_last [] x all below = (tt, tt)
increase_last (q ∷ xs) x all below = (each_last (λ r. q.0 < r.0) xs x all.0 below.0, increase_last xs x all.1 below.1)

-- powers that may stand in a monomial, whose variables are below a number
pub record ArePowers (least : ℕ) (powers : List (ℕ × ℕ)) : Type 0 where
  pub each : AllByRecursion IsPower powers
  pub increasing : VariablesIncrease powers
  pub below : AllByRecursion (λ q. q.0 < least) powers

pub no_powers : (least : ℕ) → ArePowers least []
no_powers least = record { each = tt; increasing = tt; below = tt }

pub more_powers : (least : ℕ) (xs : List (ℕ × ℕ)) (i : ℕ) (x : ℕ × ℕ) → i < length xs → x ≡ get_or xs i x → ArePowers least (take i xs) → IsPower x → least ≤ x.0 → ArePowers (x.0 + 1) (take (i + 1) xs)
more_powers least xs i x h at are power above =
    let below : AllByRecursion (λ (q : ℕ × ℕ). q.0 < x.0) (take i xs) = each_weaker (λ q. q.0 < least) (λ q. q.0 < x.0) (λ q lower. omega (arith, lower, above)) (take i xs) are.below in
    subst (ArePowers (x.0 + 1)) (sym (taken_at xs i x h at)) (record {
      each = each_last IsPower (take i xs) x are.each power;
      increasing = increase_last (take i xs) x are.increasing below;
      below = each_last (λ q. q.0 < x.0 + 1) (take i xs) x (each_weaker (λ q. q.0 < x.0) (λ q. q.0 < x.0 + 1) (λ q lower. omega (arith, lower)) (take i xs) below) (omega arith);
    })

pub powers_whole : (least : ℕ) (xs : List (ℕ × ℕ)) (i : ℕ) → i ≡ length xs → ArePowers least (take i xs) → ArePowers least xs
powers_whole least xs i end are = subst (ArePowers least) (ap (λ n. take n xs) end ∙ take-length xs) are

numbers_last : (xs : List ℕ) (x : ℕ) → Increase xs → AllByRecursion (λ y. y < x) xs → Increase (xs ++ x ∷ [])
numbers_last [] x all below = (tt, tt)
numbers_last (y ∷ xs) x all below = (each_last (λ z. y < z) xs x all.0 below.0, numbers_last xs x all.1 below.1)

-- variables from the lowest, all below a number
pub record AreBelow (least : ℕ) (variables : List ℕ) : Type 0 where
  pub each : AllByRecursion IsNarrow variables
  pub increasing : Increase variables
  pub below : AllByRecursion (λ y. y < least) variables

pub none_below : (least : ℕ) → AreBelow least []
none_below least = record { each = tt; increasing = tt; below = tt }

pub one_more_below : (least : ℕ) (xs : List ℕ) (i : ℕ) (x : ℕ) → i < length xs → x ≡ get_or xs i x → AreBelow least (take i xs) → IsNarrow x → least ≤ x → AreBelow (x + 1) (take (i + 1) xs)
one_more_below least xs i x h at are narrow above =
    let below : AllByRecursion (λ (y : ℕ). y < x) (take i xs) = each_weaker (λ y. y < least) (λ y. y < x) (λ y lower. omega (arith, lower, above)) (take i xs) are.below in
    subst (AreBelow (x + 1)) (sym (taken_at xs i x h at)) (record {
      each = each_last IsNarrow (take i xs) x are.each narrow;
      increasing = numbers_last (take i xs) x are.increasing below;
      below = each_last (λ y. y < x + 1) (take i xs) x (each_weaker (λ y. y < x) (λ y. y < x + 1) (λ y lower. omega (arith, lower)) (take i xs) below) (omega arith);
    })

pub whole_below : (least : ℕ) (xs : List ℕ) (i : ℕ) → i ≡ length xs → AreBelow least (take i xs) → AreBelow least xs
whole_below least xs i end are = subst (AreBelow least) (ap (λ n. take n xs) end ∙ take-length xs) are
