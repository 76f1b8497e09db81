-- One more equation of a combination.
use Rattle.std.proofs.Common.{◌≡◌, ◌≢◌, ℕ, suc, ◌+◌, ◌-◌, ◌≤◌, ◌==◌, Bool, true, false, cond, List, [], ◌∷◌, ◌++◌, length, Result, Ok, Err, IfOk, refl, sym, ap, ap₂, ◌∙◌, arith, append-nil, eq-eqb, ne_eqb}
use Rattle.std.proofs.lemmas.List.{length_push}
use Rattle.ffc_clause.specs.Clauses.{Literal, minus}
use Rattle.ffc_refutation.specs.Combinations.{Summand}
use Rattle.ffc_ring.specs.Monomial.{Monomial}
use Rattle.ffc_linear.specs.Refuting.{literals_of, summands_from}

literals_push : (ids cs : List ℕ) (id c : ℕ) → length cs ≡ length ids → literals_of (ids ++ id ∷ []) (cs ++ c ∷ []) ≡ literals_of ids cs ++ cond (c == 0) [] (minus id ∷ [])
literals_push [] [] id c long = refl
literals_push [] (d ∷ cs) id c long = absurd (omega arith)
literals_push (i ∷ ids) [] id c long = absurd (omega arith)
literals_push (i ∷ ids) (d ∷ cs) id c long = by_case (d == 0) (literals_push ids cs id c (omega arith))
  where
    by_case : (b : Bool) → literals_of (ids ++ id ∷ []) (cs ++ c ∷ []) ≡ literals_of ids cs ++ cond (c == 0) [] (minus id ∷ [])
        → cond b (literals_of (ids ++ id ∷ []) (cs ++ c ∷ [])) (minus i ∷ literals_of (ids ++ id ∷ []) (cs ++ c ∷ [])) ≡ cond b (literals_of ids cs) (minus i ∷ literals_of ids cs) ++ cond (c == 0) [] (minus id ∷ [])
    by_case true e = e
    by_case false e = ap (λ ls. minus i ∷ ls) e

-- an equation with a coefficient, or without one
pub literals_more : (ids cs : List ℕ) (id c residue : ℕ) (old new wanted : List Literal) → length cs ≡ length ids → wanted ≡ literals_of (ids ++ id ∷ []) (cs ++ c ∷ []) → new ≡ old ++ minus id ∷ [] → old ≡ literals_of ids cs
    → residue ≡ c → residue ≢ 0 → new ≡ wanted
literals_more ids cs id c residue old new wanted long is next are same some =
    next ∙ ap (λ ls. ls ++ minus id ∷ []) are ∙ sym (ap (λ b. literals_of ids cs ++ cond b [] (minus id ∷ [])) (ne_eqb c 0 (λ none. some (same ∙ none))))
    ∙ sym (literals_push ids cs id c long) ∙ sym is

pub literals_same : (ids cs : List ℕ) (id c residue : ℕ) (old wanted : List Literal) → length cs ≡ length ids → wanted ≡ literals_of (ids ++ id ∷ []) (cs ++ c ∷ []) → old ≡ literals_of ids cs → residue ≡ c → residue ≡ 0 → old ≡ wanted
literals_same ids cs id c residue old wanted long is are same none =
    are ∙ sym (append-nil (literals_of ids cs)) ∙ sym (ap (λ b. literals_of ids cs ++ cond b [] (minus id ∷ [])) (eq-eqb c 0 (sym same ∙ none)))
    ∙ sym (literals_push ids cs id c long) ∙ sym is

summands_push : (k : ℕ) (m : Monomial) (cs : List ℕ) (c : ℕ) → summands_from k m (cs ++ c ∷ []) ≡ summands_from k m cs ++ cond (c == 0) [] ((k + length (summands_from k m cs), (c, m)) ∷ [])
summands_push k m [] c = let e : k ≡ k + 0 = omega arith in by_case (c == 0) e
  where
    by_case : (b : Bool) → k ≡ k + 0 → cond b (summands_from k m []) ((k, (c, m)) ∷ summands_from (k + 1) m []) ≡ cond b [] ((k + 0, (c, m)) ∷ [])
    by_case true e = refl
    by_case false e = ap (λ j. (j, (c, m)) ∷ []) e
summands_push k m (d ∷ cs) c = by_case (d == 0) (summands_push k m cs c) (summands_push (k + 1) m cs c)
  where
    by_case : (b : Bool) → summands_from k m (cs ++ c ∷ []) ≡ summands_from k m cs ++ cond (c == 0) [] ((k + length (summands_from k m cs), (c, m)) ∷ [])
        → summands_from (k + 1) m (cs ++ c ∷ []) ≡ summands_from (k + 1) m cs ++ cond (c == 0) [] ((k + 1 + length (summands_from (k + 1) m cs), (c, m)) ∷ [])
        → cond b (summands_from k m (cs ++ c ∷ [])) ((k, (d, m)) ∷ summands_from (k + 1) m (cs ++ c ∷ []))
        ≡ cond b (summands_from k m cs) ((k, (d, m)) ∷ summands_from (k + 1) m cs) ++ cond (c == 0) [] ((k + length (cond b (summands_from k m cs) ((k, (d, m)) ∷ summands_from (k + 1) m cs)), (c, m)) ∷ [])
    by_case true one two = one
    by_case false one two =
        let e : k + 1 + length (summands_from (k + 1) m cs) ≡ k + length ((k, (d, m)) ∷ summands_from (k + 1) m cs) = omega arith in
        ap (λ ss. (k, (d, m)) ∷ ss) (two ∙ ap (λ j. summands_from (k + 1) m cs ++ cond (c == 0) [] ((j, (c, m)) ∷ [])) e)

-- a coefficient other than 0, or one that is 0
summands_appended : (m : Monomial) (cs : List ℕ) (c : ℕ) → c ≢ 0 → summands_from 0 m (cs ++ c ∷ []) ≡ summands_from 0 m cs ++ (length (summands_from 0 m cs), (c, m)) ∷ []
summands_appended m cs c some =
    let e : 0 + length (summands_from 0 m cs) ≡ length (summands_from 0 m cs) = omega arith in
    summands_push 0 m cs c ∙ ap (λ b. summands_from 0 m cs ++ cond b [] ((0 + length (summands_from 0 m cs), (c, m)) ∷ [])) (ne_eqb c 0 some)
    ∙ ap (λ j. summands_from 0 m cs ++ (j, (c, m)) ∷ []) e

pub summands_more : (m powers : Monomial) (cs : List ℕ) (c number residue : ℕ) (old new wanted : List Summand) → wanted ≡ summands_from 0 m (cs ++ c ∷ []) → new ≡ old ++ (number, (residue, powers)) ∷ [] → old ≡ summands_from 0 m cs → number ≡ length old
    → residue ≡ c → powers ≡ m → residue ≢ 0 → new ≡ wanted
summands_more m powers cs c number residue old new wanted is next are count same one some =
    next ∙ ap₂ (λ o n. o ++ (n, (residue, powers)) ∷ []) are (count ∙ ap length are)
    ∙ ap₂ (λ r q. summands_from 0 m cs ++ (length (summands_from 0 m cs), (r, q)) ∷ []) same one ∙ sym (summands_appended m cs c (λ none. some (same ∙ none))) ∙ sym is

pub summands_same : (m : Monomial) (cs : List ℕ) (c residue : ℕ) (old wanted : List Summand) → wanted ≡ summands_from 0 m (cs ++ c ∷ []) → old ≡ summands_from 0 m cs → residue ≡ c → residue ≡ 0 → old ≡ wanted
summands_same m cs c residue old wanted is are same none =
    are ∙ sym (append-nil (summands_from 0 m cs)) ∙ sym (ap (λ b. summands_from 0 m cs ++ cond b [] ((0 + length (summands_from 0 m cs), (c, m)) ∷ [])) (eq-eqb c 0 (sym same ∙ none)))
    ∙ sym (summands_push 0 m cs c) ∙ sym is

pub one_longer : {A : Type 0} (old new : List A) (x : A) (i : ℕ) → new ≡ old ++ x ∷ [] → length old ≤ i → length new ≤ i + 1
one_longer old new x i is few = omega (arith, ap length is, length_push old x)

pub length-literals_of : (ids cs : List ℕ) → length (literals_of ids cs) ≤ length ids
length-literals_of [] cs = omega arith
length-literals_of (id ∷ ids) [] = omega arith
length-literals_of (id ∷ ids) (c ∷ cs) = by_case (c == 0) (length-literals_of ids cs)
  where
    by_case : (b : Bool) → length (literals_of ids cs) ≤ length ids → length (cond b (literals_of ids cs) (minus id ∷ literals_of ids cs)) ≤ suc (length ids)
    by_case true few = omega arith
    by_case false few = omega arith

pub length-summands_from : (k : ℕ) (m : Monomial) (cs : List ℕ) → length (summands_from k m cs) ≤ length cs
length-summands_from k m [] = omega arith
length-summands_from k m (c ∷ cs) = by_case (c == 0) (length-summands_from k m cs) (length-summands_from (k + 1) m cs)
  where
    by_case : (b : Bool) → length (summands_from k m cs) ≤ length cs → length (summands_from (k + 1) m cs) ≤ length cs
        → length (cond b (summands_from k m cs) ((k, (c, m)) ∷ summands_from (k + 1) m cs)) ≤ suc (length cs)
    by_case true one two = omega arith
    by_case false one two = omega arith

pub few_literals : (ids cs : List ℕ) (lits : List Literal) → lits ≡ literals_of ids cs → length ids ≤ 4096 → length lits ≤ 4096
few_literals ids cs lits is few = omega (arith, ap length is, length-literals_of ids cs)

pub few_summands : (m : Monomial) (cs : List ℕ) (summands : List Summand) (n : ℕ) → summands ≡ summands_from 0 m cs → length cs ≡ n → n ≤ 4096 → length summands ≤ 4096
few_summands m cs summands n is long few = omega (arith, ap length is, length-summands_from 0 m cs)

pub count_is : (ids cs : List ℕ) (lits : List Literal) (n len : ℕ) → n ≡ len → len ≡ length lits → lits ≡ literals_of ids cs → n ≡ length (literals_of ids cs)
count_is ids cs lits n len one two is = one ∙ two ∙ ap length is

pub literals_with : (ids cs : List ℕ) (l : Literal) (old new : List Literal) → new ≡ old ++ l ∷ [] → old ≡ literals_of ids cs → new ≡ literals_of ids cs ++ l ∷ []
literals_with ids cs l old new is are = is ∙ ap (λ ls. ls ++ l ∷ []) are

-- both of what holds of a value
pub both_if_ok : {T E : Type 0} (r : Result T E) (P Q R : T → Type 0) → ((x : T) → P x → Q x → R x) → IfOk r P → IfOk r Q → IfOk r R
both_if_ok (Ok x) P Q R f one two = f x one two
both_if_ok (Err e) P Q R f one two = tt

-- the summands, with that of the last line
pub last_step : (nodes count : ℕ) (cs : List ℕ) (p order place inverse : ℕ) (none : Monomial) (old new : List Summand) → new ≡ old ++ (place, (order - 1, none)) ∷ [] → old ≡ summands_from 0 ((inverse + place, 1) ∷ []) cs
    → none ≡ [] → order ≡ p → inverse ≡ nodes → place ≡ count → new ≡ summands_from 0 ((nodes + count, 1) ∷ []) cs ++ (count, (p - 1, [])) ∷ []
last_step nodes count cs p order place inverse none old new is are empty same one two =
    is ∙ ap (λ o. o ++ (place, (order - 1, none)) ∷ []) are ∙ ap₂ (λ q t. summands_from 0 ((inverse + place, 1) ∷ []) cs ++ (place, (q - 1, t)) ∷ []) same empty
    ∙ ap₂ (λ a b. summands_from 0 ((a + b, 1) ∷ []) cs ++ (b, (p - 1, [])) ∷ []) one two
