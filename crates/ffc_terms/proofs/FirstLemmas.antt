-- Which of several faults is the first one, where the words of a form are in order.
use Rattle.std.proofs.Common.{◌≡◌, ℕ, ◌<◌, zero, suc, false, List, [], ◌∷◌, ◌++◌, All, Contains, length, drop, get_or, Ok, Err, refl, sym, ap, ◌∙◌, subst, inl, inr, ⊎_elim, ◌⊎◌, arith}
use Rattle.std.proofs.lemmas.Bool.Decides.{nat_tests}
use Rattle.std.proofs.lemmas.List.Elements.{All-cons, All-nil, All-head, All-tail, Contains-append_left}
use Rattle.std.specs.List.{AllPairs}
use Rattle.ffc_smt.specs.Trees.{Word}
use Rattle.ffc_smt.specs.Faults.{Fault, is_before, first_fault, Read, Sound, Faulty, faults, unless}
use Rattle.ffc_smt.specs.FaultLaws.{IsAtOneOf, IsWordBefore, IsFaultBefore}
use Rattle.ffc_smt.proofs.DeclaredLemmas.{in_front}
use Rattle.ffc_smt.proofs.FaultLemmas.{first_among, first_is_first}
use Rattle.ffc_smt.proofs.PartLemmas.{least_is_first}
use Rattle.ffc_words.specs.Outcomes.{outcome}

-- Lists by recursion

abbrev pub Each : {A : Type 0} → (A → Type 0) → List A → Type 0
Each P [] = Unit {0}
Each P (x ∷ xs) = P x × Each P xs

pub each_from : {A : Type 0} (P : A → Type 0) (xs : List A) → All P xs → Each P xs
each_from P [] h = tt
each_from P (x ∷ xs) h = (All-head P x xs h, each_from P xs (All-tail P x xs h))

pub all_from : {A : Type 0} (P : A → Type 0) (xs : List A) → Each P xs → All P xs
all_from P [] h = All-nil P
all_from P (x ∷ xs) h = All-cons P x xs h.0 (all_from P xs h.1)

pub each_append : {A : Type 0} (P : A → Type 0) (xs ys : List A) → Each P xs → Each P ys → Each P (xs ++ ys)
each_append P [] ys h g = g
each_append P (x ∷ xs) ys h g = (h.0, each_append P xs ys h.1 g)

pub each_weaker : {A : Type 0} (P Q : A → Type 0) → ((x : A) → P x → Q x) → (xs : List A) → Each P xs → Each Q xs
each_weaker P Q f [] h = tt
each_weaker P Q f (x ∷ xs) h = (f x h.0, each_weaker P Q f xs h.1)

-- Words in order

abbrev pub IsBeforeAll : Word → List Word → Type 0
IsBeforeAll x [] = Unit {0}
IsBeforeAll x (y ∷ ys) = IsWordBefore x y × IsBeforeAll x ys

abbrev pub AreInOrder : List Word → Type 0
AreInOrder [] = Unit {0}
AreInOrder (x ∷ xs) = IsBeforeAll x xs × AreInOrder xs

pub order_from : (ws : List Word) → AllPairs IsWordBefore ws → AreInOrder ws
order_from [] h = tt
order_from (x ∷ xs) h = (heads x xs (λ k d inside. h 0 (suc k) d (omega arith) (omega arith)), order_from xs (λ i j d less inside. h (suc i) (suc j) d (omega arith) (omega arith)))
  where
    heads : (y : Word) (ys : List Word) → ((k : ℕ) (d : Word) → k < length ys → IsWordBefore y (get_or ys k d)) → IsBeforeAll y ys
    heads y [] g = tt
    heads y (z ∷ zs) g = (g 0 y (omega arith), heads y zs (λ k d inside. g (suc k) d (omega arith)))

pub before_left : (x : Word) (xs ys : List Word) → IsBeforeAll x (xs ++ ys) → IsBeforeAll x xs
before_left x [] ys h = tt
before_left x (z ∷ zs) ys h = (h.0, before_left x zs ys h.1)

pub before_right : (x : Word) (xs ys : List Word) → IsBeforeAll x (xs ++ ys) → IsBeforeAll x ys
before_right x [] ys h = h
before_right x (z ∷ zs) ys h = before_right x zs ys h.1

pub order_left : (xs ys : List Word) → AreInOrder (xs ++ ys) → AreInOrder xs
order_left [] ys h = tt
order_left (x ∷ xs) ys h = (before_left x xs ys h.0, order_left xs ys h.1)

pub order_right : (xs ys : List Word) → AreInOrder (xs ++ ys) → AreInOrder ys
order_right [] ys h = h
order_right (x ∷ xs) ys h = order_right xs ys h.1

pub order_drop : (n : ℕ) (ws : List Word) → AreInOrder ws → AreInOrder (drop n ws)
order_drop zero ws h = h
order_drop (suc n) [] h = tt
order_drop (suc n) (w ∷ ws) h = order_drop n ws h.1

-- Faults at words

abbrev pub IsAtWord : Fault → Word → Type 0
IsAtWord f w = (f.line ≡ w.line) × (f.column ≡ w.column)

abbrev pub IsAt : List Word → Fault → Type 0
IsAt [] f = ⊥
IsAt (w ∷ ws) f = IsAtWord f w ⊎ IsAt ws f

at_contained : (ws : List Word) (w : Word) (f : Fault) → Contains ws w → IsAtWord f w → IsAt ws f
at_contained [] w f has h = absurd (omega (arith, has.1))
at_contained (x ∷ xs) w f has h = ⊎_elim (λ e. inl (subst (IsAtWord f) e h)) (λ later. inr (at_contained xs w f later h)) (in_front x xs w has)

pub at_from : (ws : List Word) (fs : List Fault) → All (IsAtOneOf ws) fs → Each (IsAt ws) fs
at_from ws fs h = each_weaker (IsAtOneOf ws) (IsAt ws) (λ f p. at_contained ws p.word f p.among (p.line, p.column)) fs (each_from (IsAtOneOf ws) fs h)

pub at_left : (xs ys : List Word) (f : Fault) → IsAt xs f → IsAt (xs ++ ys) f
at_left [] ys f h = absurd h
at_left (x ∷ xs) ys f (inl h) = inl h
at_left (x ∷ xs) ys f (inr h) = inr (at_left xs ys f h)

pub at_right : (xs ys : List Word) (f : Fault) → IsAt ys f → IsAt (xs ++ ys) f
at_right [] ys f h = h
at_right (x ∷ xs) ys f h = inr (at_right xs ys f h)

word_before : (x y : Word) (f g : Fault) → IsAtWord f x → IsAtWord g y → IsWordBefore x y → IsFaultBefore f g
word_before x y f g a b (inl less) = let e = a.0 in let k = b.0 in inl (omega (arith, e, k))
word_before x y f g a b (inr same) = let e = a.0 in let k = b.0 in let m = a.1 in let n = b.1 in inr (e ∙ same.0 ∙ sym k, omega (arith, m, n, same.1))

pub before_later : (x : Word) (ys : List Word) (f g : Fault) → IsAtWord f x → IsBeforeAll x ys → IsAt ys g → IsFaultBefore f g
before_later x [] f g a h b = absurd b
before_later x (y ∷ ys) f g a h (inl b) = word_before x y f g a b h.0
before_later x (y ∷ ys) f g a h (inr b) = before_later x ys f g a h.1 b

pub later : (xs ys : List Word) (f g : Fault) → AreInOrder (xs ++ ys) → IsAt xs f → IsAt ys g → IsFaultBefore f g
later [] ys f g h a b = absurd a
later (x ∷ xs) ys f g h (inl a) b = before_later x ys f g a (before_right x xs ys h.0) b
later (x ∷ xs) ys f g h (inr a) b = later xs ys f g h.1 a b

-- None before

abbrev pub NoneBefore : Fault → List Fault → Type 0
NoneBefore g fs = Each (λ h. is_before h g ≡ false) fs

pub not_after : (f g : Fault) → IsFaultBefore f g → is_before g f ≡ false
not_after f g (inl a) = grind (arith, nat_tests)
not_after f g (inr a) = grind (arith, nat_tests)

pub not_before_trans : (f g h : Fault) → is_before f g ≡ false → is_before g h ≡ false → is_before f h ≡ false
not_before_trans f g h a b = grind (arith, nat_tests)

pub not_before_itself : (f : Fault) → is_before f f ≡ false
not_before_itself f = grind (arith, nat_tests)

pub none_later : (xs ys : List Word) (g : Fault) (hs : List Fault) → AreInOrder (xs ++ ys) → IsAt xs g → Each (IsAt ys) hs → NoneBefore g hs
none_later xs ys g hs order a at = each_weaker (IsAt ys) (λ h. is_before h g ≡ false) (λ h b. not_after g h (later xs ys g h order a b)) hs at

-- where none is before one, none is before another that it is not before
pub none_before_least : (f g : Fault) (hs : List Fault) → NoneBefore f hs → is_before f g ≡ false → NoneBefore g hs
none_before_least f g hs h e = each_weaker (λ x. is_before x f ≡ false) (λ x. is_before x g ≡ false) (λ x b. not_before_trans x f g b e) hs h

-- Outcomes

pub first_is : (f : Fault) (fs : List Fault) (g : Fault) → Contains (f ∷ fs) g → NoneBefore g (f ∷ fs) → first_fault f fs ≡ g
first_is f fs g has none = least_is_first f fs g has (all_from (λ h. is_before h g ≡ false) (f ∷ fs) none)

append_none : (fs : List Fault) → fs ++ [] ≡ fs
append_none [] = refl
append_none (f ∷ fs) = ap (λ x. f ∷ x) (append_none fs)

pub outcome_unless : {A : Type 0} (fs : List Fault) (r : Read A) (g : Fault) → Contains fs g → NoneBefore g fs → NoneBefore g (faults r) → outcome (unless fs r) ≡ Err g
outcome_unless [] r g has none rest = absurd (omega (arith, has.1))
outcome_unless (f ∷ fs) r g has none rest =
    ap Err (first_is f (fs ++ faults r) g (Contains-append_left (f ∷ fs) (faults r) g has) (none.0, each_append (λ h. is_before h g ≡ false) fs (faults r) none.1 rest))

pub outcome_faulty : {A : Type 0} (r : Read A) (g : Fault) → outcome r ≡ Err g → Contains (faults r) g × NoneBefore g (faults r)
outcome_faulty (Sound a) g e = cc
outcome_faulty (Faulty f fs) g e =
    let same : first_fault f fs ≡ g = cc in (
      subst (Contains (f ∷ fs)) same (first_among f fs),
      subst (λ h. NoneBefore h (f ∷ fs)) same (each_from (λ h. is_before h (first_fault f fs) ≡ false) (f ∷ fs) (first_is_first f fs)),
    )

pub outcome_sound : {A : Type 0} (r : Read A) (a : A) → outcome r ≡ Ok a → r ≡ Sound a
outcome_sound (Sound b) a e = let same : b ≡ a = cc in ap Sound same
outcome_sound (Faulty f fs) a e = cc

pub contains_first : (f : Fault) (fs : List Fault) → Contains (f ∷ fs) f
contains_first f fs = (0, omega arith, refl)
