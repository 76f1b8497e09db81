-- Lines that are added and dropped keep what each line is.
use Rattle.std.proofs.Common.{◌≡◌, ℕ, zero, suc, ◌+◌, ◌<◌, List, [], ◌∷◌, ◌++◌, length, get_or, take, refl, sym, ap, ap₂, ◌∙◌, subst, arith, append_assoc, add-one}
use Rattle.ffc_ring.specs.Polynomial.{Terms, coefficient, product}
use Rattle.ffc_line.specs.declared.line.Line.{Line}
use Rattle.ffc_line.specs.Lines.{Parts, polys_of, combination, AreBefore, AreLinesFrom, AreLines, AreGenerators, IsAddedTo}

-- a combination of the first lines is about these alone
combination-alike : (gs hs : List Terms) (n : ℕ) (ts : Parts) → AreBefore n ts → ((j : ℕ) → j < n → get_or gs j [] ≡ get_or hs j []) → combination gs ts ≡ combination hs ts
combination-alike gs hs n [] v alike = refl
combination-alike gs hs n (t ∷ ts) v alike = ap₂ (λ g r. product t.1 g ++ r) (alike t.0 v.0) (combination-alike gs hs n ts v.1 alike)

pub AreLinesFrom-alike : {F O : Type 0} (p : ℕ) (gs hs : List Terms) (i : ℕ) (ls : List (Line F O)) → ((j : ℕ) → j < i + length ls → get_or gs j [] ≡ get_or hs j []) → AreLinesFrom p gs i ls → AreLinesFrom p hs i ls
AreLinesFrom-alike p gs hs i [] alike v = tt
AreLinesFrom-alike p gs hs i (l ∷ ls) alike v = (
  (v.0.0, λ some m. v.0.1 some m ∙ ap (λ ts. coefficient p ts m) (combination-alike gs hs i l.parts.items v.0.0 (λ j h. alike j (omega arith)))),
  AreLinesFrom-alike p gs hs (suc i) ls (λ j h. alike j (omega (arith, h))) v.1,
)

pub AreLinesFrom-append : {F O : Type 0} (p : ℕ) (gs : List Terms) (i : ℕ) (xs ys : List (Line F O)) → AreLinesFrom p gs i xs → ((n : ℕ) → AreLinesFrom p gs n ys) → AreLinesFrom p gs i (xs ++ ys)
AreLinesFrom-append p gs i [] ys v w = w i
AreLinesFrom-append p gs i (x ∷ xs) ys v w = (v.0, AreLinesFrom-append p gs (suc i) xs ys v.1 w)

AreLinesFrom-generators : {F O : Type 0} (p : ℕ) (gs : List Terms) (ls : List (Line F O)) (ts : List Terms) → AreGenerators ls ts → (i : ℕ) → AreLinesFrom p gs i ls
AreLinesFrom-generators p gs [] ts v i = tt
AreLinesFrom-generators p gs (l ∷ ls) [] v i = absurd v
AreLinesFrom-generators p gs (l ∷ ls) (t ∷ ts) v i = (
  (subst (AreBefore i) (sym v.1) tt, λ some. absurd (some v.1)),
  AreLinesFrom-generators p gs ls ts v.2 (suc i),
)

pub polys-append : {F O : Type 0} (xs ys : List (Line F O)) (j : ℕ) → j < length xs → get_or (polys_of xs) j [] ≡ get_or (polys_of (xs ++ ys)) j []
polys-append [] ys j h = absurd (omega arith)
polys-append (x ∷ xs) ys zero h = refl
polys-append (x ∷ xs) ys (suc j) h = polys-append xs ys j (omega arith)

pub AreLines-generators : {F O : Type 0} (p : ℕ) (ls : List (Line F O)) (ts : List Terms) → AreGenerators ls ts → AreLines p ls
AreLines-generators p ls ts v = AreLinesFrom-generators p (polys_of ls) ls ts v 0

pub AreLines-append : {F O : Type 0} (p : ℕ) (ls more : List (Line F O)) (ts : List Terms) → AreLines p ls → AreGenerators more ts → AreLines p (ls ++ more)
AreLines-append p ls more ts v w =
    let gs = polys_of (ls ++ more) in
    AreLinesFrom-append p gs 0 ls more (AreLinesFrom-alike p (polys_of ls) gs 0 ls (λ j h. polys-append ls more j (omega (arith, h))) v) (AreLinesFrom-generators p gs more ts w)

AreLinesFrom-take : {F O : Type 0} (p : ℕ) (gs : List Terms) (i n : ℕ) (ls : List (Line F O)) → AreLinesFrom p gs i ls → AreLinesFrom p gs i (take n ls)
AreLinesFrom-take p gs i zero ls v = tt
AreLinesFrom-take p gs i (suc n) [] v = tt
AreLinesFrom-take p gs i (suc n) (l ∷ ls) v = (v.0, AreLinesFrom-take p gs (suc i) n ls v.1)

polys-take : {F O : Type 0} (n : ℕ) (ls : List (Line F O)) (j : ℕ) → j < length (take n ls) → get_or (polys_of ls) j [] ≡ get_or (polys_of (take n ls)) j []
polys-take zero ls j h = absurd (omega arith)
polys-take (suc n) [] j h = absurd (omega arith)
polys-take (suc n) (l ∷ ls) zero h = refl
polys-take (suc n) (l ∷ ls) (suc j) h = polys-take n ls j (omega arith)

pub AreLines-take : {F O : Type 0} (p n : ℕ) (ls : List (Line F O)) → AreLines p ls → AreLines p (take n ls)
AreLines-take p n ls v =
    AreLinesFrom-alike p (polys_of ls) (polys_of (take n ls)) 0 (take n ls) (λ j h. polys-take n ls j (omega (arith, h))) (AreLinesFrom-take p (polys_of ls) 0 n ls v)

pub AreGenerators-push : {F O : Type 0} (ls : List (Line F O)) (ts : List Terms) (l : Line F O) (t : Terms) → AreGenerators ls ts → l.poly ≡ t → l.parts.items ≡ [] → AreGenerators (ls ++ l ∷ []) (ts ++ t ∷ [])
AreGenerators-push [] [] l t v e f = (e, f, tt)
AreGenerators-push [] (s ∷ ts) l t v e f = absurd v
AreGenerators-push (k ∷ ls) [] l t v e f = absurd v
AreGenerators-push (k ∷ ls) (s ∷ ts) l t v e f = (v.0, v.1, AreGenerators-push ls ts l t v.2 e f)

-- ---- lines that are appended one by one

pub take_front : {A : Type 0} (xs ys : List A) (n : ℕ) → n ≡ length xs → take n (xs ++ ys) ≡ xs
take_front [] ys zero e = refl
take_front [] ys (suc n) e = absurd (omega arith)
take_front (x ∷ xs) ys zero e = absurd (omega arith)
take_front (x ∷ xs) ys (suc n) e = ap (λ l. x ∷ l) (take_front xs ys n (omega arith))

pub taken_more : {A : Type 0} (xs : List A) (i : ℕ) (x : A) → i < length xs → x ≡ get_or xs i x → take (i + 1) xs ≡ take i xs ++ x ∷ []
taken_more [] i x h e = absurd (omega arith)
taken_more (y ∷ xs) zero x h e = ap (λ z. z ∷ []) (sym e)
taken_more (y ∷ xs) (suc i) x h e = rw add-one (ap (λ l. y ∷ l) (sym (ap (λ n. take n xs) (add-one i)) ∙ taken_more xs i x (omega arith) e))

pub added_more : {F O : Type 0} (old ls : List (Line F O)) (gs : List Terms) (i : ℕ) (l : Line F O) (t : Terms) → i < length gs → t ≡ get_or gs i t → l.poly ≡ t → l.parts.items ≡ [] → IsAddedTo old ls (take i gs) → IsAddedTo old (ls ++ l ∷ []) (take (i + 1) gs)
added_more old ls gs i l t h there e f (more, is, v) = (
  more ++ l ∷ [],
  ap (λ k. k ++ l ∷ []) is ∙ append_assoc old more (l ∷ []),
  subst (AreGenerators (more ++ l ∷ [])) (sym (taken_more gs i t h there)) (AreGenerators-push more (take i gs) l t v e f),
)

pub added_to_none : {F O : Type 0} (ls : List (Line F O)) (gs : List Terms) → IsAddedTo [] ls gs → AreGenerators ls gs
added_to_none ls gs (more, is, v) = subst (λ ks. AreGenerators ks gs) (sym is) v

pub added_lines : {F O : Type 0} (p : ℕ) (old new : List (Line F O)) (gs : List Terms) → AreLines p old → IsAddedTo old new gs → AreLines p new
added_lines p old new gs v (more, is, w) = subst (AreLines p) (sym is) (AreLines-append p old more gs v w)
