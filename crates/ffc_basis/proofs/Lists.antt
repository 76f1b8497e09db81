-- Lists of lines and of terms, by their places.
use Rattle.std.proofs.Common.{◌≡◌, ◌≢◌, ◌⊎◌, ℕ, zero, suc, ◌<◌, List, [], ◌∷◌, ◌++◌, length, get_or, take, refl, ap, inl, inr, arith, Option, Some, None, IfSome, Result, Ok, Err, OnOk, OnErr, IfOk, IsErrOf}
use Rattle.ffc_poly.specs.declared.stop.PolyStop.{PolyStop}
use Rattle.ffc_poly.specs.declared.stop.PolyStop.TheVariants.{DegreeOver, TermsOver, Memory}
use Rattle.ffc_line.specs.declared.line.Line.{Line}
use Rattle.ffc_ring.specs.Polynomial.{Terms, AreTerms}
use Rattle.ffc_line.specs.Lines.{polys_of, AreLists}

-- within the list the default does not matter
pub any_default : {A : Type 0} (xs : List A) (i : ℕ) (d e : A) → i < length xs → get_or xs i d ≡ get_or xs i e
any_default [] i d e h = absurd (omega arith)
any_default (x ∷ xs) zero d e h = refl
any_default (x ∷ xs) (suc i) d e h = any_default xs i d e (omega arith)

pub length-polys : {F O : Type 0} (ls : List (Line F O)) → length (polys_of ls) ≡ length ls
length-polys [] = refl
length-polys (l ∷ ls) = ap suc (length-polys ls)

-- the polynomial of a line
pub poly_at : {F O : Type 0} (ls : List (Line F O)) (i : ℕ) (l : Line F O) → i < length ls → get_or (polys_of ls) i [] ≡ (get_or ls i l).poly
poly_at [] i l h = absurd (omega arith)
poly_at (k ∷ ls) zero l h = refl
poly_at (k ∷ ls) (suc i) l h = poly_at ls i l (omega arith)

-- ---- lists of terms

pub lists_none : AreLists []
lists_none i = tt

pub lists_push : (gs : List Terms) (g : Terms) → AreLists gs → AreTerms g → AreLists (gs ++ g ∷ [])
lists_push [] g v w zero = w
lists_push [] g v w (suc i) = tt
lists_push (f ∷ gs) g v w zero = v zero
lists_push (f ∷ gs) g v w (suc i) = lists_push gs g (λ j. v (suc j)) w i

pub lists_take : (n : ℕ) (gs : List Terms) → AreLists gs → AreLists (take n gs)
lists_take zero gs v i = tt
lists_take (suc n) [] v i = tt
lists_take (suc n) (g ∷ gs) v zero = v zero
lists_take (suc n) (g ∷ gs) v (suc i) = lists_take n gs (λ j. v (suc j)) i

-- which limit was passed
pub limits : {A B : Type 0} (stop : PolyStop) → (stop ≡ DegreeOver → A) → (stop ≡ TermsOver → B) → stop ≢ Memory → A ⊎ B
limits DegreeOver a b h = inl (a refl)
limits TermsOver a b h = inr (b refl)
limits Memory a b h = absurd (h refl)

pub only_memory : (stop : PolyStop) → (stop ≡ DegreeOver → ⊥) → (stop ≡ TermsOver → ⊥) → stop ≡ Memory
only_memory DegreeOver a b = absurd (a refl)
only_memory TermsOver a b = absurd (b refl)
only_memory Memory a b = refl

pub on_ok : {T E P Q : Type 0} (r : Result T E) → (P → Q) → OnOk r P → OnOk r Q
on_ok (Ok x) f h = f h
on_ok (Err e) f h = tt

pub always_on_err : {T E P : Type 0} (r : Result T E) → P → OnErr r P
always_on_err (Ok x) h = tt
always_on_err (Err e) h = h

pub if_some : {T : Type 0} (o : Option T) (P Q : T → Type 0) → ((x : T) → P x → Q x) → IfSome o P → IfSome o Q
if_some None P Q f h = tt
if_some (Some x) P Q f h = f x h

pub if_ok : {T E : Type 0} (r : Result T E) (P Q : T → Type 0) → ((x : T) → P x → Q x) → IfOk r P → IfOk r Q
if_ok (Ok x) P Q f h = f x h
if_ok (Err e) P Q f h = tt

abbrev err_or : {T E : Type 0} → Result T E → E → E
err_or (Ok x) d = d
err_or (Err e) d = e

pub same_error : {T E : Type 0} (a b : E) → IsErrOf {T = T} {E = E} (Err a) b → a ≡ b
same_error a b is = ap (λ r. err_or r a) is
