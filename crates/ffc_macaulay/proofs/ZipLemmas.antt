-- Lists of which a relation holds place by place.
use Rattle.std.proofs.Common.{◌≡◌, ℕ, ◌+◌, ◌<◌, List, [], ◌∷◌, ◌++◌, length, take, get_or, All, Contains, inl, inr, refl, sym, subst, arith}
use Rattle.std.specs.Prelude.{Option, Some, None, IfSome, IfNone}
use Rattle.std.specs.List.{AllZip}
use Rattle.std.proofs.lemmas.List.{take_more}
use Rattle.std.proofs.lemmas.List.Elements.{All-cons, All-nil, Contains-append_right}
use Rattle.ffc_macaulay.proofs.MemberLemmas.{contains_cases, contains_first, contains_none}

module _ {A B : Type 0} (R : A → B → Type 0) where
  zip_push : (xs : List A) (ys : List B) (x : A) (y : B) → AllZip R xs ys → R x y → AllZip R (xs ++ x ∷ []) (ys ++ y ∷ [])
  zip_push [] [] x y are is = (is, tt)
  zip_push [] (z ∷ ys) x y are is = absurd are
  zip_push (w ∷ xs) [] x y are is = absurd are
  zip_push (w ∷ xs) (z ∷ ys) x y are is = (are.0, zip_push xs ys x y are.1 is)

  -- one place more
  pub zip_more : (all : List A) (i : ℕ) (ys : List B) (d : A) (y : B) → i < length all → AllZip R (take i all) ys → R (get_or all i d) y → AllZip R (take (i + 1) all) (ys ++ y ∷ [])
  zip_more all i ys d y inside are is =
      subst (λ xs. AllZip R xs (ys ++ y ∷ [])) (sym (take_more all i d inside)) (zip_push (take i all) ys (get_or all i d) y are is)

  pub zip_long : (xs : List A) (ys : List B) → AllZip R xs ys → length ys ≡ length xs
  zip_long [] [] are = refl
  zip_long [] (y ∷ ys) are = absurd are
  zip_long (x ∷ xs) [] are = absurd are
  zip_long (x ∷ xs) (y ∷ ys) are = let rest = zip_long xs ys are.1 in omega (arith, rest)

  -- what holds of the right one wherever the relation does
  pub zip_right : (P : B → Type 0) → ((x : A) (y : B) → R x y → P y) → (xs : List A) (ys : List B) → AllZip R xs ys → All P ys
  zip_right P f [] [] are = All-nil P
  zip_right P f [] (y ∷ ys) are = absurd are
  zip_right P f (x ∷ xs) [] are = absurd are
  zip_right P f (x ∷ xs) (y ∷ ys) are = All-cons P y ys (f x y are.0) (zip_right P f xs ys are.1)

  -- the left one of a pair
  pub zip_left_of : (xs : List A) (ys : List B) (y : B) → AllZip R xs ys → Contains ys y → (x : A) × Contains xs x × R x y
  zip_left_of xs [] y are has = absurd (contains_none y has)
  zip_left_of [] (z ∷ ys) y are has = absurd are
  zip_left_of (x ∷ xs) (z ∷ ys) y are has = elim (contains_cases z ys y has) as (λ _. (w : A) × Contains (x ∷ xs) w × R w y) [
    | inl here ↦ (x, contains_first x xs, subst (R x) here are.0)
    | inr later ↦ let found = zip_left_of xs ys y are.1 later in (found.0, Contains-append_right (x ∷ []) xs found.0 found.1, found.2)
  ]

  pub zip_weaker : (S : A → B → Type 0) → ((x : A) (y : B) → R x y → S x y) → (xs : List A) (ys : List B) → AllZip R xs ys → AllZip S xs ys
  zip_weaker S f [] [] are = tt
  zip_weaker S f [] (y ∷ ys) are = absurd are
  zip_weaker S f (x ∷ xs) [] are = absurd are
  zip_weaker S f (x ∷ xs) (y ∷ ys) are = (f x y are.0, zip_weaker S f xs ys are.1)

-- two relations, one after another
pub zip_through : {A B C : Type 0} (R : A → B → Type 0) (S : B → C → Type 0) (T : A → C → Type 0) → ((x : A) (y : B) (z : C) → R x y → S y z → T x z) → (xs : List A) (ys : List B) (zs : List C) → AllZip R xs ys → AllZip S ys zs → AllZip T xs zs
zip_through R S T f [] [] [] one two = tt
zip_through R S T f [] [] (z ∷ zs) one two = absurd two
zip_through R S T f [] (y ∷ ys) zs one two = absurd one
zip_through R S T f (x ∷ xs) [] zs one two = absurd one
zip_through R S T f (x ∷ xs) (y ∷ ys) [] one two = absurd two
zip_through R S T f (x ∷ xs) (y ∷ ys) (z ∷ zs) one two = (f x y z one.0 two.0, zip_through R S T f xs ys zs one.1 two.1)

-- ---- what holds of a result

pub some_weaker : {A : Type 0} (P Q : A → Type 0) (o : Option A) → ((x : A) → P x → Q x) → IfSome o P → IfSome o Q
some_weaker P Q None f h = tt
some_weaker P Q (Some x) f h = f x h

pub none_weaker : {A : Type 0} (P Q : Type 0) (o : Option A) → (P → Q) → IfNone o P → IfNone o Q
none_weaker P Q None f h = f h
none_weaker P Q (Some x) f h = tt
