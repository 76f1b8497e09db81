-- The first fault of a list.
use Rattle.std.proofs.Common.{◌≡◌, inl, inr, ⊎_elim, Bool, true, false, if◌then◌else◌, List, [], ◌∷◌, ◌++◌, All, Contains, refl, sym, ap, ◌∙◌, subst, arith}
use Rattle.std.proofs.lemmas.Bool.Decides.{nat_tests}
use Rattle.std.proofs.lemmas.List.Elements.{All-cons, All-nil, All-head, All-tail, Contains-append_right}
use Rattle.ffc_smt.specs.Faults.{Fault, is_before, first_fault}
use Rattle.ffc_smt.specs.FaultLaws.{IsFaultBefore, AreAllBefore}
use Rattle.ffc_smt.proofs.DeclaredLemmas.{in_front}

not_before_trans : (f g h : Fault) → is_before f g ≡ false → is_before g h ≡ false → is_before f h ≡ false
not_before_trans f g h a b = grind (arith, nat_tests)

left_before : (f g : Fault) → IsFaultBefore f g → is_before f g ≡ true
left_before f g (inl a) = grind (arith, nat_tests)
left_before f g (inr a) = grind (arith, nat_tests)

left_not_after : (f g : Fault) → IsFaultBefore f g → is_before g f ≡ false
left_not_after f g (inl a) = grind (arith, nat_tests)
left_not_after f g (inr a) = grind (arith, nat_tests)

after_not_before : (f g : Fault) → is_before g f ≡ true → is_before f g ≡ false
after_not_before f g e = grind (arith, nat_tests)

not_before_itself : (f : Fault) → is_before f f ≡ false
not_before_itself f = grind (arith, nat_tests)

-- the one of two that is answered
abbrev chosen : Fault → Fault → Fault
chosen f g = if is_before g f then g else f

by_choice : (f g : Fault) (P : Fault → Type 0) → (is_before g f ≡ true → P g) → (is_before g f ≡ false → P f) → P (chosen f g)
by_choice f g P one other = by_test (is_before g f) one other
  where
    by_test : (b : Bool) → (b ≡ true → P g) → (b ≡ false → P f) → P (if b then g else f)
    by_test true one other = one refl
    by_test false one other = other refl

pub first_among : (f : Fault) (fs : List Fault) → Contains (f ∷ fs) (first_fault f fs)
first_among f [] = (0, omega arith, refl)
first_among f (g ∷ gs) =
    by_choice f g (λ h. Contains (f ∷ g ∷ gs) (first_fault h gs))
    (λ e. Contains-append_right (f ∷ []) (g ∷ gs) (first_fault g gs) (first_among g gs))
    (λ e.
    let m = first_fault f gs in
    ⊎_elim (λ same. subst (Contains (f ∷ g ∷ gs)) (sym same) (0, omega arith, refl)) (λ later. Contains-append_right (f ∷ g ∷ []) gs m later) (in_front f gs m (first_among f gs)))

abbrev NoneBefore : Fault → List Fault → Type 0
NoneBefore m fs = All (λ g. is_before g m ≡ false) fs

pub first_is_first : (f : Fault) (fs : List Fault) → NoneBefore (first_fault f fs) (f ∷ fs)
first_is_first f [] = All-cons (λ g. is_before g f ≡ false) f [] (not_before_itself f) (All-nil (λ g. is_before g f ≡ false))
first_is_first f (g ∷ gs) =
    by_choice f g (λ h. NoneBefore (first_fault h gs) (f ∷ g ∷ gs))
    (λ e.
    let m = first_fault g gs in
    let all = first_is_first g gs in
    All-cons (λ x. is_before x m ≡ false) f (g ∷ gs) (not_before_trans f g m (after_not_before f g e) (All-head (λ x. is_before x m ≡ false) g gs all)) all)
    (λ e.
    let m = first_fault f gs in
    let all = first_is_first f gs in
    let here = All-head (λ x. is_before x m ≡ false) f gs all in
    All-cons (λ x. is_before x m ≡ false) f (g ∷ gs) here (All-cons (λ x. is_before x m ≡ false) g gs (not_before_trans g f m e here) (All-tail (λ x. is_before x m ≡ false) f gs all)))

first_left_of : (f : Fault) (gs : List Fault) → All (IsFaultBefore f) gs → first_fault f gs ≡ f
first_left_of f [] h = refl
first_left_of f (g ∷ gs) h =
    let b = left_not_after f g (All-head (IsFaultBefore f) g gs h) in
    ap (λ t. first_fault (if t then g else f) gs) b ∙ first_left_of f gs (All-tail (IsFaultBefore f) g gs h)

pub first_of_left : (f : Fault) (fs gs : List Fault) → AreAllBefore (f ∷ fs) gs → first_fault f (fs ++ gs) ≡ first_fault f fs
first_of_left f [] gs h = first_left_of f gs (All-head (λ x. All (IsFaultBefore x) gs) f [] h)
first_of_left f (x ∷ xs) gs h =
    let P = λ (y : Fault). All (IsFaultBefore y) gs in
    let rest = All-tail P f (x ∷ xs) h in
    first_of_left (chosen f x) xs gs (by_choice f x (λ y. AreAllBefore (y ∷ xs) gs) (λ e. rest) (λ e. All-cons P f xs (All-head P f (x ∷ xs) h) (All-tail P x xs rest)))

pub first_of_right : (f g : Fault) (fs gs : List Fault) → All (IsFaultBefore f) (g ∷ gs) → first_fault g (gs ++ f ∷ fs) ≡ first_fault f fs
first_of_right f g fs [] h = ap (λ t. first_fault (if t then f else g) fs) (left_before f g (All-head (IsFaultBefore f) g [] h))
first_of_right f g fs (x ∷ xs) h =
    let P = IsFaultBefore f in
    let rest = All-tail P g (x ∷ xs) h in
    first_of_right f (chosen g x) fs xs (by_choice g x (λ y. All P (y ∷ xs)) (λ e. rest) (λ e. All-cons P g xs (All-head P g (x ∷ xs) h) (All-tail P x xs rest)))
