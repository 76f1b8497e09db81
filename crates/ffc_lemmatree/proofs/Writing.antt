-- Steps of writing the lines of the tree over roots.
use Rattle.std.proofs.Common.{◌≡◌, ◌≢◌, ℕ, zero, suc, ◌+◌, ◌<◌, ◌≤◌, eqb, List, [], ◌∷◌, ◌++◌, length, map, take, drop, get_or, All, refl, sym, ap, ap₂, ◌∙◌, subst, inl, inr, arith, append_assoc}
use Rattle.std.proofs.lemmas.Bool.{cases_eq, cond-true, cond-false, eq-eqb, ne_eqb}
use Rattle.std.proofs.lemmas.List.{append-nil, map-append, length-take, take_more}
use Rattle.std.proofs.lemmas.List.Elements.{All-more}
use Rattle.ffc_cert.specs.declared.entries.CertLine.{CertLine}
use Rattle.ffc_cert.specs.declared.entries.CertLine.TheVariants.{Close}
use Rattle.ffc_ring.specs.Monomial.{Monomial}
use Rattle.ffc_ring.specs.Polynomial.{Terms}
use Rattle.ffc_uni.specs.Univariate.{Coefficients, power_of, terms_from, terms_in}
use Rattle.ffc_uni.proofs.Rows.{taken_at, left_at}
use Rattle.ffc_lemmatree.specs.declared.cases.CaseNumbers.{CaseNumbers}
use Rattle.ffc_lemmatree.specs.declared.endings.EuclidStep.{EuclidStep}
use Rattle.ffc_lemmatree.specs.declared.endings.RootCase.{RootCase}
use Rattle.ffc_lemmatree.specs.Written.{nonzero, written_in, appended, sum_line, euclid_lines, root_case_lines, all_case_lines}

-- what holds of the elements so far and of the next one
pub all_with : {A : Type 0} (P : A → Type 0) (xs : List A) (i : ℕ) (x : A) → i < length xs → x ≡ get_or xs i x → All P (take i xs) → P x → All P (take (i + 1) xs)
all_with P xs i x inside is before here = All-more P xs i x inside before (subst P is here)

-- one more line
pub mapped_with : {A B : Type 0} (f : A → B) (front lines pushed : List B) (line : B) (xs : List A) (i : ℕ) (x : A) → i < length xs → x ≡ get_or xs i x → lines ≡ front ++ map f (take i xs) → pushed ≡ lines ++ line ∷ [] → line ≡ f x
    → pushed ≡ front ++ map f (take (i + 1) xs)
mapped_with f front lines pushed line xs i x inside is before push here =
    push ∙ ap₂ (λ ls l. ls ++ l ∷ []) before here ∙ append_assoc front (map f (take i xs)) (f x ∷ [])
    ∙ ap (λ ls. front ++ ls) (sym (map-append f (take i xs) (x ∷ [])) ∙ ap (map f) (sym (taken_at xs i x inside is)))

-- ---- terms

terms_from-push : (x k : ℕ) (a : Coefficients) (c : ℕ) → terms_from x k (a ++ c ∷ []) ≡ terms_from x k a ++ (c, power_of x (k + length a)) ∷ []
terms_from-push x k [] c = ap (λ j. (c, power_of x j) ∷ []) (let same : k ≡ k + 0 = omega arith in same)
terms_from-push x k (d ∷ a) c =
    ap (λ l. (d, power_of x k) ∷ l)
    (terms_from-push x (suc k) a c ∙ ap (λ j. terms_from x (suc k) a ++ (c, power_of x j) ∷ []) (let same : suc k + length a ≡ k + suc (length a) = omega arith in same))

nonzero-append : (a b : Terms) → nonzero (a ++ b) ≡ nonzero a ++ nonzero b
nonzero-append [] b = refl
nonzero-append (t ∷ a) b =
    elim (cases_eq t.0 0) as (λ _. nonzero (t ∷ (a ++ b)) ≡ nonzero (t ∷ a) ++ nonzero b) [
      | inl none ↦
          cond-true (eqb t.0 0) (nonzero (a ++ b)) (t ∷ nonzero (a ++ b)) (eq-eqb t.0 0 none) ∙ nonzero-append a b
          ∙ ap (λ ts. ts ++ nonzero b) (sym (cond-true (eqb t.0 0) (nonzero a) (t ∷ nonzero a) (eq-eqb t.0 0 none)))
      | inr some ↦
          cond-false (eqb t.0 0) (nonzero (a ++ b)) (t ∷ nonzero (a ++ b)) (ne_eqb t.0 0 some) ∙ ap (λ ts. t ∷ ts) (nonzero-append a b)
          ∙ ap (λ ts. ts ++ nonzero b) (sym (cond-false (eqb t.0 0) (nonzero a) (t ∷ nonzero a) (ne_eqb t.0 0 some)))
    ]

appended-append : (m : Monomial) (a b : Terms) → appended m (a ++ b) ≡ appended m a ++ appended m b
appended-append m [] b = refl
appended-append m (t ∷ a) b = ap (λ ts. (t.0, t.1 ++ m) ∷ ts) (appended-append m a b)

-- nothing is appended
pub appended-nil : (ts : Terms) → appended [] ts ≡ ts
appended-nil [] = refl
appended-nil (t ∷ ts) = ap₂ (λ (u : ℕ × Monomial) (us : Terms). u ∷ us) (ap (λ (m : Monomial). (t.0, m)) (append-nil t.1)) (appended-nil ts)

written_more : (m : Monomial) (x : ℕ) (a : Coefficients) (i c : ℕ) → i < length a → c ≡ get_or a i 0 → appended m (written_in x (take (i + 1) a)) ≡ appended m (written_in x (take i a)) ++ appended m (nonzero ((c, power_of x i) ∷ []))
written_more m x a i c inside is =
    let front : Coefficients = take i a in
    let long : 0 + length front ≡ i = (let e = length-take i a in omega arith) in
    ap (λ b. appended m (written_in x b)) (take_more a i 0 inside ∙ ap (λ n. take i a ++ n ∷ []) (sym is))
    ∙ ap (λ ts. appended m (nonzero ts)) (terms_from-push x 0 front c ∙ ap (λ j. terms_in x front ++ (c, power_of x j) ∷ []) long)
    ∙ ap (appended m) (nonzero-append (terms_in x front) ((c, power_of x i) ∷ []))
    ∙ appended-append m (written_in x front) (nonzero ((c, power_of x i) ∷ []))

-- a term whose coefficient is 0 is left out
pub term_left_out : (m : Monomial) (x : ℕ) (a : Coefficients) (i c : ℕ) (terms : Terms) → i < length a → c ≡ get_or a i 0 → c ≡ 0 → terms ≡ appended m (written_in x (take i a)) → terms ≡ appended m (written_in x (take (i + 1) a))
term_left_out m x a i c terms inside is none before =
    before ∙ sym (append-nil (appended m (written_in x (take i a))))
    ∙ ap (λ ts. appended m (written_in x (take i a)) ++ appended m ts) (sym (cond-true (eqb c 0) [] ((c, power_of x i) ∷ []) (eq-eqb c 0 none)))
    ∙ sym (written_more m x a i c inside is)

-- and another one is written
pub term_written : (m : Monomial) (x : ℕ) (a : Coefficients) (i c : ℕ) (terms pushed : Terms) (powers : Monomial) → i < length a → c ≡ get_or a i 0 → c ≢ 0 → terms ≡ appended m (written_in x (take i a))
    → powers ≡ power_of x i ++ m → pushed ≡ terms ++ (c, powers) ∷ [] → pushed ≡ appended m (written_in x (take (i + 1) a))
term_written m x a i c terms pushed powers inside is some before power push =
    push ∙ ap₂ (λ ts (n : Monomial). ts ++ (c, n) ∷ []) before power
    ∙ ap (λ ts. appended m (written_in x (take i a)) ++ appended m ts) (sym (cond-false (eqb c 0) [] ((c, power_of x i) ∷ []) (ne_eqb c 0 some)))
    ∙ sym (written_more m x a i c inside is)

pub power_none : (x e : ℕ) → e ≤ 0 → [] ≡ power_of x e
power_none x zero h = refl
power_none x (suc e) h = absurd (omega arith)

pub power_some : (x e : ℕ) → 0 < e → (x, e) ∷ [] ≡ power_of x e
power_some x zero h = absurd (omega arith)
power_some x (suc e) h = refl

-- ---- lines

-- one more step of Euclid's algorithm
pub euclid_with : {F : Type 0} (x last next : ℕ) (steps : List (EuclidStep F)) (i : ℕ) (s : EuclidStep F) (lines pushed all : List CertLine) (line : CertLine) → i < length steps → s ≡ get_or steps i s
    → lines ++ euclid_lines x last next (drop i steps) ≡ all → pushed ≡ lines ++ line ∷ [] → line ≡ sum_line x last s.a s.equation s.b → pushed ++ euclid_lines x next (next + 1) (drop (i + 1) steps) ≡ all
euclid_with x last next steps i s lines pushed all line inside is before push here =
    let rest : List CertLine = euclid_lines x next (next + 1) (drop (i + 1) steps) in
    ap (λ ls. ls ++ rest) push ∙ append_assoc lines (line ∷ []) rest ∙ ap (λ l. lines ++ (l ∷ rest)) here
    ∙ ap (λ ss. lines ++ euclid_lines x last next ss) (sym (left_at steps i s inside is)) ∙ before

all_case_lines-append : {F : Type 0} (p : ℕ) (n : CaseNumbers) (a b : List (RootCase F)) → all_case_lines p n (a ++ b) ≡ all_case_lines p n a ++ all_case_lines p n b
all_case_lines-append p n [] b = refl
all_case_lines-append p n (c ∷ a) b = ap (λ ls. root_case_lines p n c ++ ls) (all_case_lines-append p n a b) ∙ sym (append_assoc (root_case_lines p n c) (all_case_lines p n a) (all_case_lines p n b))

-- one more case
pub case_with : {F : Type 0} (p : ℕ) (n : CaseNumbers) (cases : List (RootCase F)) (i : ℕ) (c : RootCase F) (lines with_line pushed : List CertLine) (line : CertLine) → i < length cases → c ≡ get_or cases i c
    → lines ≡ all_case_lines p n (take i cases) → with_line ≡ lines ++ line ∷ [] → pushed ≡ with_line ++ Close ∷ [] → line ∷ Close ∷ [] ≡ root_case_lines p n c → pushed ≡ all_case_lines p n (take (i + 1) cases)
case_with p n cases i c lines with_line pushed line inside is before push second here =
    second ∙ ap (λ ls. ls ++ Close ∷ []) push ∙ append_assoc lines (line ∷ []) (Close ∷ []) ∙ ap₂ (λ (ls ks : List CertLine). ls ++ ks) before (here ∙ sym (append-nil (root_case_lines p n c)))
    ∙ sym (all_case_lines-append p n (take i cases) (c ∷ [])) ∙ ap (all_case_lines p n) (sym (taken_at cases i c inside is))
