-- What is true of each element of a list.
use Rattle.std.proofs.Common.{List, [], ◌∷◌, ◌++◌}
use Rattle.std.specs.List.{AllByRecursion}

pub each_append : {A : Type 0} (P : A → Type 0) (xs ys : List A) → AllByRecursion P xs → AllByRecursion P ys → AllByRecursion P (xs ++ ys)
each_append P [] ys v w = w
each_append P (x ∷ xs) ys v w = (v.0, each_append P xs ys v.1 w)

pub each_weaker : {A : Type 0} (P Q : A → Type 0) → ((x : A) → P x → Q x) → (xs : List A) → AllByRecursion P xs → AllByRecursion Q xs
each_weaker P Q f [] v = tt
each_weaker P Q f (x ∷ xs) v = (f x v.0, each_weaker P Q f xs v.1)

pub each_both : {A : Type 0} (P Q R : A → Type 0) → ((x : A) → P x → Q x → R x) → (xs : List A) → AllByRecursion P xs → AllByRecursion Q xs → AllByRecursion R xs
each_both P Q R f [] v w = tt
each_both P Q R f (x ∷ xs) v w = (f x v.0 w.0, each_both P Q R f xs v.1 w.1)
