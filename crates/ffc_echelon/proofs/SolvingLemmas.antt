-- Systems that are solved: values that an echelon form gives, and what is restored of a system whose unknowns were taken in another order.
use Rattle.std.proofs.Common.{◌≡◌, ◌≢◌, ℕ, ◌+◌, ◌<◌, List, [], ◌∷◌, ◌++◌, length, get_or, map, All, sym, subst}
use Rattle.std.specs.List.Sorted.{IsPermutation}
use Rattle.std.proofs.lemmas.List.Elements.{All-nil, All-cons}
use Rattle.ffc_echelon.specs.Forms.{Form, IsFormOf}
use Rattle.ffc_echelon.specs.Vectors.{Coordinates, AreCoordinates, IsBelow, dot}
use Rattle.ffc_echelon.specs.Ordering.{numbers_below, AreReordered}
use Rattle.ffc_echelon.specs.Rests.{AreRests}
use Rattle.ffc_echelon.specs.Solving.{IsCombinedAt, AreValues, IsPlacedBy, IsSolvedBy}
use Rattle.ffc_echelon.specs.declared.solving.Solution.{Solution}
use Rattle.ffc_echelon.specs.declared.solving.Solution.TheVariants.{Contradiction, Combination, Values}
use Rattle.ffc_echelon.proofs.OrderingLemmas.{combination_restored, dots_restored, reordered_at}
use Rattle.ffc_echelon.proofs.RestLemmas.{apart_vectors}

-- values at which what is left of forms is not 0
pub placed_solves : {F : Type 0} (p : ℕ) (value : F → ℕ) (form : Form) (unequal rests : List Coordinates) (s : Solution F) → AreRests p form unequal rests → All (AreCoordinates p) unequal → All (IsBelow (form.unknowns + 1)) unequal
    → IsPlacedBy p value form rests s → (equal : List Coordinates) → IsFormOf p form.unknowns equal form → All (AreCoordinates p) equal → All (IsBelow (form.unknowns + 1)) equal → IsSolvedBy p value form.unknowns equal unequal s
placed_solves p value form unequal rests (Contradiction cs) are valid below is equal of equal_valid equal_below = absurd is
placed_solves p value form unequal rests (Combination place cs) are valid below is equal of equal_valid equal_below = absurd is
placed_solves p value form unequal rests (Values values) are valid below is equal of equal_valid equal_below =
    let point = map value values.items ++ 1 ∷ [] in
    let zeros : All (λ v. dot p point v ≡ 0) equal = of.zeros point is.zeros in
    record {
      long = is.long;
      zeros = zeros;
      apart = apart_vectors p form.unknowns point form equal unequal rests of equal_valid equal_below zeros valid below are is.apart;
    }

pub solved_of : {F : Type 0} (p n : ℕ) (value : F → ℕ) (form : Form) (equal unequal : List Coordinates) (s : Solution F) → IsFormOf p n equal form → All (AreCoordinates p) equal → All (IsBelow (n + 1)) equal
    → ((inputs : List Coordinates) → IsFormOf p form.unknowns inputs form → All (AreCoordinates p) inputs → All (IsBelow (form.unknowns + 1)) inputs → IsSolvedBy p value form.unknowns inputs unequal s) → IsSolvedBy p value n equal unequal s
solved_of p n value form equal unequal s of valid below solves =
    subst (λ m. IsSolvedBy p value m equal unequal s) of.unknowns
    (solves equal (subst (λ m. IsFormOf p m equal form) (sym of.unknowns) of) valid (subst (λ m. All (IsBelow (m + 1)) equal) (sym of.unknowns) below))

pub valid_all : (p : ℕ) (order : List ℕ) (vs rs : List Coordinates) → AreReordered p order vs rs → All (AreCoordinates p) rs
valid_all p order [] [] are = All-nil (AreCoordinates p)
valid_all p order [] (r ∷ rs) are = absurd are
valid_all p order (v ∷ vs) [] are = absurd are
valid_all p order (v ∷ vs) (r ∷ rs) are = All-cons (AreCoordinates p) r rs are.0.valid (valid_all p order vs rs are.1)

module _ (p n : ℕ) (order : List ℕ) (is : IsPermutation (numbers_below n) order) (vs rs us qs : List Coordinates) (first : AreReordered p order vs rs) (others : AreReordered p order us qs) where
  pub combined_restored : (place : ℕ) (cs : List ℕ) → IsCombinedAt p rs qs place cs → IsCombinedAt p vs us place cs
  combined_restored place cs h =
      let found = reordered_at p order us qs place h.vector others h.at in
      record {
        vector = found.0;
        at = found.1;
        combination = combination_restored p n order is cs vs rs found.0 h.vector first found.2 h.combination;
      }

  pub values_restored : (values placed : List ℕ) → length placed ≡ n → ((i : ℕ) → i < n → get_or placed (get_or order i 0) 0 ≡ get_or values i 0) → AreValues p n rs qs values → AreValues p n vs us placed
  values_restored values placed long there h = record {
    long = long;
    zeros = dots_restored p n order is values placed h.long long there (λ x. x ≡ 0) vs rs first h.zeros;
    apart = dots_restored p n order is values placed h.long long there (λ x. x ≢ 0) us qs others h.apart;
  }
