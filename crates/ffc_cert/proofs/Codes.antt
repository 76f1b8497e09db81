-- A reader of items and their spelling: what is spelled is read back, and what is read was spelled so.
use Rattle.std.proofs.Common.{◌≡◌, ℕ, ◌==◌, Bool, true, false, List, [], ◌∷◌, ◌++◌, Result, Ok, Err, inl, inr, refl, ap}
use Rattle.std.specs.Prelude.{if◌then◌else◌, ◌⊎◌}
use Rattle.std.specs.List.{AllByRecursion}
use Rattle.ffc_cert.specs.declared.flaws.Flaw.{Flaw}
use Rattle.ffc_cert.specs.Items.{◌>>=◌}
use Rattle.ffc_cert.specs.Cuts.{IsCut}

-- no byte ends a line
abbrev pub IsPlain : List ℕ → Type 0
IsPlain bytes = AllByRecursion (λ c. (c == 10) ≡ false) bytes

pub plain_append : (xs ys : List ℕ) → IsPlain xs → IsPlain ys → IsPlain (xs ++ ys)
plain_append [] ys h k = k
plain_append (x ∷ xs) ys h k = (h.0, plain_append xs ys h.1 k)

pub record IsText (bytes text rest : List ℕ) (P : Type 0) : Type 0 where
  pub text_is : bytes ≡ text ++ rest
  pub holds : P

pub record IsCode {A : Type 0} (at : List ℕ → Result (A × List ℕ) Flaw) (text : A → List ℕ) (P : A → Type 0) : Type 0 where
  pub cut : (x : A) (rest : List ℕ) → IsCut rest → IsCut (text x ++ rest)
  pub plain : (x : A) → P x → IsPlain (text x)
  pub reads : (x : A) (rest : List ℕ) → P x → IsCut rest → at (text x ++ rest) ≡ Ok (x, rest)
  pub gives : (bytes : List ℕ) (x : A) (rest : List ℕ) → at bytes ≡ Ok (x, rest) → IsText bytes (text x) rest (P x)

abbrev pub Is : {A : Type 0} → Result A Flaw → A → Type 0
Is r x = r ≡ Ok x

pub same_parts : {A B : Type 0} (a x : A) (b y : B) → Is {A = A × B} (Ok (a, b)) (x, y) → (a ≡ x) × (b ≡ y)
same_parts {A} {B} a x b y h = let e : (a, b) ≡ (x, y) = cc in (ap (λ (p : A × B). p.0) e, ap (λ (p : A × B). p.1) e)

-- the parts of a reading in two steps
pub record Bound {A B : Type 0} (r : Result A Flaw) (f : A → Result B Flaw) (y : B) : Type 0 where
  pub value : A
  pub first : r ≡ Ok value
  pub second : f value ≡ Ok y

pub bound : {A B : Type 0} (r : Result A Flaw) (f : A → Result B Flaw) (y : B) → (r >>= f) ≡ Ok y → Bound r f y
bound (Ok x) f y h = record { value = x; first = refl; second = h }
bound (Err e) f y h = absurd (cc)

pub chosen : {A : Type 0} (b : Bool) (r : Result A Flaw) (e : Flaw) (x : A) → (if b then r else Err e) ≡ Ok x → (b ≡ true) × (r ≡ Ok x)
chosen true r e x h = (refl, h)
chosen false r e x h = absurd (cc)

pub barred : {A : Type 0} (b : Bool) (r : Result A Flaw) (e : Flaw) (x : A) → (if b then Err e else r) ≡ Ok x → (b ≡ false) × (r ≡ Ok x)
barred true r e x h = absurd (cc)
barred false r e x h = (refl, h)

pub branch : {A : Type 0} (b : Bool) (r other : Result A Flaw) (x : A) → (if b then r else other) ≡ Ok x → ((b ≡ true) × (r ≡ Ok x)) ⊎ ((b ≡ false) × (other ≡ Ok x))
branch true r other x h = inl (refl, h)
branch false r other x h = inr (refl, h)
