-- Reading items one after the other, as a loop does.
use Rattle.std.proofs.Common.{◌≡◌, ℕ, suc, ◌-◌, ◌+◌, ◌≤◌, ◌<◌, List, [], ◌∷◌, ◌++◌, Result, Ok, Err, refl, sym, ap, ◌∙◌, append_assoc, arith}
use Rattle.std.proofs.lemmas.List.{append-nil}
use Rattle.ffc_cert.specs.declared.flaws.Flaw.{Flaw}
use Rattle.ffc_cert.specs.declared.flaws.LineStop.{LineStop}
use Rattle.ffc_cert.specs.declared.flaws.LineStop.TheVariants as stops
use Rattle.ffc_cert.specs.Items.{◌>>=◌, Stops, many_at, power_at, powers_at, variable_at, variables_at}

-- what was read before, and what is still read
abbrev pub with_front : {A : Type 0} → List A → Result (List A × List ℕ) Flaw → Result (List A × List ℕ) Flaw
with_front front read = read >>= λ x. Ok (front ++ x.0, x.1)

regroup : {A : Type 0} (front : List A) (x : A) (read : Result (List A × List ℕ) Flaw)
    → with_front front (read >>= λ r. Ok (x ∷ r.0, r.1)) ≡ with_front (front ++ x ∷ []) read
regroup {A} front x (Ok r) = ap (λ (xs : List A). Ok (xs, r.1)) (simp append_assoc)
regroup front x (Err f) = refl

pub begins : {A : Type 0} (read : Result (List A × List ℕ) Flaw) → with_front [] read ≡ read
begins (Ok r) = refl
begins (Err f) = refl

-- So many items of a kind.
module _ {A : Type 0} (at : List ℕ → Result (A × List ℕ) Flaw) (front : List A) (count i : ℕ) (bytes : List ℕ) (total : Result (List A × List ℕ) Flaw) where
  pub goes_on : (x : A) (after : List ℕ) → i < count → at bytes ≡ Ok (x, after)
      → with_front front (many_at at (count - i) bytes) ≡ total → with_front (front ++ x ∷ []) (many_at at (count - (i + 1)) after) ≡ total
  unfolding many_at
  goes_on x after lt h so_far =
      let k : count - i ≡ suc (count - (i + 1)) = omega arith in
      let one : with_front front (many_at at (count - i) bytes) ≡ with_front (front ++ x ∷ []) (many_at at (count - (i + 1)) after) = rw (k, h) (regroup front x (many_at at (count - (i + 1)) after)) in
      sym one ∙ so_far

  pub ends : (stop : LineStop) → i < count → Stops stop (at bytes) → with_front front (many_at at (count - i) bytes) ≡ total → Stops stop total
  unfolding many_at
  ends stops.Memory lt h so_far = tt
  ends (stops.Flaw f) lt h so_far =
      let k : count - i ≡ suc (count - (i + 1)) = omega arith in
      let one : with_front front (many_at at (count - i) bytes) ≡ Err f = rw (k, h) refl in
      sym so_far ∙ one

  pub is_done : count ≤ i → with_front front (many_at at (count - i) bytes) ≡ total → total ≡ Ok (front, bytes)
  unfolding many_at
  is_done le so_far =
      let k : count - i ≡ 0 = omega arith in
      let one : with_front front (many_at at (count - i) bytes) ≡ Ok (front, bytes) = rw k (ap (λ (xs : List A). Ok (xs, bytes)) (append-nil front)) in
      sym so_far ∙ one

-- The same for powers, where each variable bounds the next.
module _ (least : ℕ) (front : List (ℕ × ℕ)) (count i : ℕ) (bytes : List ℕ) (total : Result (List (ℕ × ℕ) × List ℕ) Flaw) where
  pub power_goes_on : (x : ℕ × ℕ) (after : List ℕ) → i < count → power_at least bytes ≡ Ok (x, after)
      → with_front front (powers_at least (count - i) bytes) ≡ total → with_front (front ++ x ∷ []) (powers_at (x.0 + 1) (count - (i + 1)) after) ≡ total
  unfolding powers_at
  power_goes_on x after lt h so_far =
      let k : count - i ≡ suc (count - (i + 1)) = omega arith in
      let one : with_front front (powers_at least (count - i) bytes) ≡ with_front (front ++ x ∷ []) (powers_at (x.0 + 1) (count - (i + 1)) after) = rw (k, h) (regroup front x (powers_at (x.0 + 1) (count - (i + 1)) after)) in
      sym one ∙ so_far

  pub power_ends : (stop : LineStop) → i < count → Stops stop (power_at least bytes) → with_front front (powers_at least (count - i) bytes) ≡ total → Stops stop total
  unfolding powers_at
  power_ends stops.Memory lt h so_far = tt
  power_ends (stops.Flaw f) lt h so_far =
      let k : count - i ≡ suc (count - (i + 1)) = omega arith in
      let one : with_front front (powers_at least (count - i) bytes) ≡ Err f = rw (k, h) refl in
      sym so_far ∙ one

  pub power_is_done : count ≤ i → with_front front (powers_at least (count - i) bytes) ≡ total → total ≡ Ok (front, bytes)
  unfolding powers_at
  power_is_done le so_far =
      let k : count - i ≡ 0 = omega arith in
      let one : with_front front (powers_at least (count - i) bytes) ≡ Ok (front, bytes) = rw k (ap (λ (xs : List (ℕ × ℕ)). Ok (xs, bytes)) (append-nil front)) in
      sym so_far ∙ one

-- The same for variables, each of which bounds the next.
module _ (least : ℕ) (front : List ℕ) (count i : ℕ) (bytes : List ℕ) (total : Result (List ℕ × List ℕ) Flaw) where
  pub variable_goes_on : (x : ℕ) (after : List ℕ) → i < count → variable_at least bytes ≡ Ok (x, after)
      → with_front front (variables_at least (count - i) bytes) ≡ total → with_front (front ++ x ∷ []) (variables_at (x + 1) (count - (i + 1)) after) ≡ total
  unfolding variables_at
  variable_goes_on x after lt h so_far =
      let k : count - i ≡ suc (count - (i + 1)) = omega arith in
      let one : with_front front (variables_at least (count - i) bytes) ≡ with_front (front ++ x ∷ []) (variables_at (x + 1) (count - (i + 1)) after) = rw (k, h) (regroup front x (variables_at (x + 1) (count - (i + 1)) after)) in
      sym one ∙ so_far

  pub variable_ends : (stop : LineStop) → i < count → Stops stop (variable_at least bytes) → with_front front (variables_at least (count - i) bytes) ≡ total → Stops stop total
  unfolding variables_at
  variable_ends stops.Memory lt h so_far = tt
  variable_ends (stops.Flaw f) lt h so_far =
      let k : count - i ≡ suc (count - (i + 1)) = omega arith in
      let one : with_front front (variables_at least (count - i) bytes) ≡ Err f = rw (k, h) refl in
      sym so_far ∙ one

  pub variable_is_done : count ≤ i → with_front front (variables_at least (count - i) bytes) ≡ total → total ≡ Ok (front, bytes)
  unfolding variables_at
  variable_is_done le so_far =
      let k : count - i ≡ 0 = omega arith in
      let one : with_front front (variables_at least (count - i) bytes) ≡ Ok (front, bytes) = rw k (ap (λ (xs : List ℕ). Ok (xs, bytes)) (append-nil front)) in
      sym so_far ∙ one
