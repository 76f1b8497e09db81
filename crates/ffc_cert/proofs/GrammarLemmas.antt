-- The order of a refutation's lines by the grammar, and by counting what is still needed.
use Rattle.std.proofs.Common.{◌≡◌, ℕ, zero, suc, ◌+◌, ◌-◌, ◌<◌, ◌==◌, ◌&&◌, Bool, true, false, List, [], ◌∷◌, length, refl, sym, ap, ◌∙◌, subst, arith}
use Rattle.std.proofs.lemmas.Bool.Decides.{nat_tests}
use Rattle.std.proofs.lemmas.List.Sums.{sum_by-cons}
use Rattle.std.specs.Prelude.{cond}
use Rattle.ffc_cert.specs.declared.entries.CertLine.{CertLine}
use Rattle.ffc_cert.specs.declared.entries.CertLine.TheVariants.{Assume, Scheme, Hinted, Lemma, Combine, Bits, Chain, Step, Split, Values, Close}
use Rattle.ffc_cert.specs.declared.forms.Awaited.{Awaited}
use Rattle.ffc_cert.specs.Reading.{awaited_after, is_whole}
use Rattle.ffc_cert.specs.Spelling.{is_clause, clauses}
use Rattle.ffc_cert.specs.Grammar.{AreSteps, no_steps, step, IsTree, combine, with_bits, chain, split, values, close, AreTrees, no_trees, tree, AreClauses, no_clauses, assume, scheme, hinted, lemma}
use Rattle.ffc_cert.proofs.LineCodes.{IsNext}

abbrev pub awaiting : ℕ → ℕ → ℕ → Awaited
awaiting c t s = record { clauses = c; trees = t; steps = s }

-- after these lines nothing is needed, and no front of them does
abbrev pub Completes : Awaited → List CertLine → Type 0
Completes a [] = is_whole a ≡ true
Completes a (l ∷ lines) = (is_whole a ≡ false) × (IsNext l a × Completes (awaited_after l a) lines)

pub one_less : (n : ℕ) → suc n - 1 ≡ n
one_less n = omega arith

no_more : (n : ℕ) → n + 0 ≡ n
no_more n = omega arith

one_more : (n m : ℕ) → n + suc m ≡ suc (n + m)
one_more n m = omega arith

pub and_false : (b : Bool) → (b && false) ≡ false
and_false true = refl
and_false false = refl

pub not_zero : (n : ℕ) → (suc n == 0) ≡ false
not_zero n = grind (arith, nat_tests)

pub tree_needed : (c t s : ℕ) → is_whole (awaiting c (suc t) s) ≡ false
unfolding is_whole
tree_needed c t s = rw (not_zero t, and_false (c == 0)) refl

step_needed : (s : ℕ) → is_whole (awaiting 0 0 (suc s)) ≡ false
unfolding is_whole
step_needed s = rw (not_zero s) refl

pub clause_needed : (c t s : ℕ) → is_whole (awaiting (suc c) t s) ≡ false
unfolding is_whole
clause_needed c t s = rw (not_zero c) refl

steps_complete : {n : ℕ} {lines rest : List CertLine} → AreSteps n lines rest → (c t : ℕ) → Completes (awaiting c (suc t) 0) rest → Completes (awaiting c (suc t) n) lines
unfolding awaited_after
steps_complete no_steps c t h = h
steps_complete (step {n = n} {lines = ls} quotient remainder steps) c t h =
    (tree_needed c t (suc n), (omega arith, subst (λ m. Completes (awaiting c (suc t) m) ls) (sym (one_less n)) (steps_complete steps c t h)))

mutual
  unfolding awaited_after

  tree_completes : {lines rest : List CertLine} → IsTree lines rest → (c t : ℕ) → Completes (awaiting c t 0) rest → Completes (awaiting c (suc t) 0) lines
  tree_completes (combine multiples h) c t k = (tree_needed c t 0, ((refl, omega arith), tree_completes h c t k))
  tree_completes (with_bits line chosen polynomial bits h) c t k = (tree_needed c t 0, ((refl, omega arith), tree_completes h c t k))
  tree_completes (chain line variable steps s h) c t k = (tree_needed c t 0, ((refl, omega arith), steps_complete s c t (tree_completes h c t k)))
  tree_completes (split {lines = ls} line variable zeros h) c t k =
      (tree_needed c t 0, ((refl, omega arith), subst (λ m. Completes (awaiting c (m + length zeros) 0) ls) (sym (one_less t)) (trees_complete h c t k)))
  tree_completes (values {lines = ls} variable trees h) c t k =
      (tree_needed c t 0, ((refl, omega arith), subst (λ m. Completes (awaiting c (m + trees) 0) ls) (sym (one_less t)) (trees_complete h c t k)))
  tree_completes (close {rest = ls}) c t k = (tree_needed c t 0, ((refl, omega arith), subst (λ m. Completes (awaiting c m 0) ls) (sym (one_less t)) k))

  trees_complete : {n : ℕ} {lines rest : List CertLine} → AreTrees n lines rest → (c t : ℕ) → Completes (awaiting c t 0) rest → Completes (awaiting c (t + n) 0) lines
  trees_complete (no_trees {rest = ls}) c t k = subst (λ m. Completes (awaiting c m 0) ls) (sym (no_more t)) k
  trees_complete (tree {n = n} {lines = ls} h others) c t k =
      subst (λ m. Completes (awaiting c m 0) ls) (sym (one_more t n)) (tree_completes h c (t + n) (trees_complete others c t k))

count_clause : (l : CertLine) (lines : List CertLine) → is_clause l ≡ true → clauses (l ∷ lines) ≡ suc (clauses lines)
count_clause l lines h = sum_by-cons (λ (x : CertLine). cond (is_clause x) 1 0) l lines ∙ rw h (omega arith)

count_other : (l : CertLine) (lines : List CertLine) → is_clause l ≡ false → clauses (l ∷ lines) ≡ clauses lines
count_other l lines h = sum_by-cons (λ (x : CertLine). cond (is_clause x) 1 0) l lines ∙ rw h (omega arith)

steps_count : {n : ℕ} {lines rest : List CertLine} → AreSteps n lines rest → clauses lines ≡ clauses rest
unfolding is_clause
steps_count no_steps = refl
steps_count (step {lines = ls} quotient remainder h) = count_other (Step quotient remainder) ls refl ∙ steps_count h

mutual
  unfolding is_clause

  tree_count : {lines rest : List CertLine} → IsTree lines rest → clauses lines ≡ clauses rest
  tree_count (combine {lines = ls} multiples h) = count_other (Combine multiples) ls refl ∙ tree_count h
  tree_count (with_bits {lines = ls} line chosen polynomial bits h) = count_other (Bits line chosen polynomial bits) ls refl ∙ tree_count h
  tree_count (chain {lines = ls} line variable steps s h) = count_other (Chain line variable steps) ls refl ∙ steps_count s ∙ tree_count h
  tree_count (split {lines = ls} line variable zeros h) = count_other (Split line variable zeros) ls refl ∙ trees_count h
  tree_count (values {lines = ls} variable trees h) = count_other (Values variable trees) ls refl ∙ trees_count h
  tree_count (close {rest = ls}) = count_other Close ls refl

  trees_count : {n : ℕ} {lines rest : List CertLine} → AreTrees n lines rest → clauses lines ≡ clauses rest
  trees_count no_trees = refl
  trees_count (tree h others) = tree_count h ∙ trees_count others

clause_leads : (l : CertLine) (lines : List CertLine) (n : ℕ) → (awaited_after l (awaiting (suc n) 0 0) ≡ awaiting (suc n - 1) 0 0) → IsNext l (awaiting (suc n) 0 0) → Completes (awaiting n 0 0) lines
    → Completes (awaiting (suc n) 0 0) (l ∷ lines)
clause_leads l lines n same next h = (clause_needed n 0 0, (next, subst (λ a. Completes a lines) (sym same) (subst (λ m. Completes (awaiting m 0 0) lines) (sym (one_less n)) h)))

pub clauses_complete : {lines : List CertLine} → AreClauses lines → Completes (awaiting (clauses lines) 0 0) lines
unfolding awaited_after is_clause is_whole
clauses_complete no_clauses = refl
clauses_complete (assume {lines = ls} k h) =
    subst (λ m. Completes (awaiting m 0 0) (Assume k ∷ ls)) (sym (count_clause (Assume k) ls refl)) (clause_leads (Assume k) ls (clauses ls) refl (refl, refl) (clauses_complete h))
clauses_complete (scheme {lines = ls} node number index h) =
    subst (λ m. Completes (awaiting m 0 0) (Scheme node number index ∷ ls)) (sym (count_clause (Scheme node number index) ls refl))
    (clause_leads (Scheme node number index) ls (clauses ls) refl (refl, refl) (clauses_complete h))
clauses_complete (hinted {lines = ls} lits hints h) =
    subst (λ m. Completes (awaiting m 0 0) (Hinted lits hints ∷ ls)) (sym (count_clause (Hinted lits hints) ls refl))
    (clause_leads (Hinted lits hints) ls (clauses ls) refl (refl, refl) (clauses_complete h))
clauses_complete (lemma {lines = ls} {rest = rest} order lits t h) =
    let counted : clauses (Lemma order lits ∷ ls) ≡ suc (clauses rest) = count_clause (Lemma order lits) ls refl ∙ ap suc (tree_count t) in
    subst (λ m. Completes (awaiting m 0 0) (Lemma order lits ∷ ls)) (sym counted)
    (clause_needed (clauses rest) 0 0, ((refl, refl), subst (λ m. Completes (awaiting m 1 0) ls) (sym (one_less (clauses rest))) (tree_completes t (clauses rest) 0 (clauses_complete h))))

-- What the lines are, where they lead so.
record IsShape (s t c : ℕ) (lines : List CertLine) : Type 0 where
  behind : List CertLine
  after : List CertLine
  steps : AreSteps s lines behind
  trees : AreTrees t behind after
  others : AreClauses after
  count : clauses after ≡ c

zero_steps : {lines rest : List CertLine} → AreSteps zero lines rest → rest ≡ lines
zero_steps no_steps = refl

zero_trees : {lines rest : List CertLine} → AreTrees zero lines rest → rest ≡ lines
zero_trees no_trees = refl

record AtTrees (t c : ℕ) (lines : List CertLine) : Type 0 where
  after : List CertLine
  trees : AreTrees t lines after
  others : AreClauses after
  count : clauses after ≡ c

at_trees : (t c : ℕ) (lines : List CertLine) → IsShape zero t c lines → AtTrees t c lines
at_trees t c lines h = record { after = h.after; trees = subst (λ ls. AreTrees t ls h.after) (zero_steps h.steps) h.trees; others = h.others; count = h.count }

with_trees : (t c : ℕ) (lines : List CertLine) → AtTrees t c lines → IsShape zero t c lines
with_trees t c lines h = record { behind = lines; after = h.after; steps = no_steps; trees = h.trees; others = h.others; count = h.count }

record AtClauses (c : ℕ) (lines : List CertLine) : Type 0 where
  others : AreClauses lines
  count : clauses lines ≡ c

at_clauses : (c : ℕ) (lines : List CertLine) → IsShape zero zero c lines → AtClauses c lines
at_clauses c lines h =
    let trees = at_trees zero c lines h in
    let same : trees.after ≡ lines = zero_trees trees.trees in
    record { others = subst AreClauses same trees.others; count = subst (λ ls. clauses ls ≡ c) same trees.count }

with_clauses : (c : ℕ) (lines : List CertLine) → AreClauses lines → clauses lines ≡ c → IsShape zero zero c lines
with_clauses c lines h count = record { behind = lines; after = lines; steps = no_steps; trees = no_trees; others = h; count = count }

record FirstTree (n : ℕ) (lines rest : List CertLine) : Type 0 where
  behind : List CertLine
  first : IsTree lines behind
  others : AreTrees n behind rest

first_tree : {n : ℕ} {lines rest : List CertLine} → AreTrees (suc n) lines rest → FirstTree n lines rest
first_tree (tree {behind = b} h others) = record { behind = b; first = h; others = others }

record TwoParts (k t : ℕ) (lines rest : List CertLine) : Type 0 where
  behind : List CertLine
  first : AreTrees k lines behind
  others : AreTrees t behind rest

two_parts : (k t : ℕ) (lines rest : List CertLine) → AreTrees (t + k) lines rest → TwoParts k t lines rest
two_parts zero t lines rest h = record { behind = lines; first = no_trees; others = subst (λ m. AreTrees m lines rest) (no_more t) h }
two_parts (suc k) t lines rest h =
    let one = first_tree (subst (λ m. AreTrees m lines rest) (one_more t k) h) in
    let more = two_parts k t one.behind rest one.others in
    record { behind = more.behind; first = tree one.first more.first; others = more.others }

-- after a line of a tree, with so many trees for its cases
with_cases : (l : CertLine) (k t c : ℕ) (lines : List CertLine) → ((rest : List CertLine) → AreTrees k lines rest → IsTree (l ∷ lines) rest) → AtTrees (t + k) c lines → AtTrees (suc t) c (l ∷ lines)
with_cases l k t c lines make h =
    let parts = two_parts k t lines h.after h.trees in
    record { after = h.after; trees = tree (make parts.behind parts.first) parts.others; others = h.others; count = h.count }

shape : (lines : List CertLine) (c t s : ℕ) → Completes (awaiting c t s) lines → IsShape s t c lines
unfolding awaited_after is_whole is_clause
shape [] zero zero zero h = record { behind = []; after = []; steps = no_steps; trees = no_trees; others = no_clauses; count = refl }
shape [] zero zero (suc s) h = absurd (let no : true ≡ false = sym h ∙ step_needed s in cc)
shape [] zero (suc t) s h = absurd (let no : true ≡ false = sym h ∙ tree_needed 0 t s in cc)
shape [] (suc c) t s h = absurd (let no : true ≡ false = sym h ∙ clause_needed c t s in cc)
shape (Step quotient remainder ∷ lines) c t zero h = absurd (let no : 0 < 0 = h.1.0 in omega arith)
shape (Step quotient remainder ∷ lines) c t (suc s) h =
    let more = shape lines c t s (subst (λ n. Completes (awaiting c t n) lines) (one_less s) h.1.1) in
    record { behind = more.behind; after = more.after; steps = step quotient remainder more.steps; trees = more.trees; others = more.others; count = more.count }
shape (Combine multiples ∷ lines) c t (suc s) h = absurd (let no : suc s ≡ 0 = h.1.0.0 in cc)
shape (Combine multiples ∷ lines) c zero zero h = absurd (let no : 0 < 0 = h.1.0.1 in omega arith)
shape (Combine multiples ∷ lines) c (suc t) zero h =
    let more = at_trees (suc t) c lines (shape lines c (suc t) zero h.1.1) in
    let one = first_tree more.trees in
    with_trees (suc t) c (Combine multiples ∷ lines) (record { after = more.after; trees = tree (combine multiples one.first) one.others; others = more.others; count = more.count })
shape (Bits line chosen polynomial bits ∷ lines) c t (suc s) h = absurd (let no : suc s ≡ 0 = h.1.0.0 in cc)
shape (Bits line chosen polynomial bits ∷ lines) c zero zero h = absurd (let no : 0 < 0 = h.1.0.1 in omega arith)
shape (Bits line chosen polynomial bits ∷ lines) c (suc t) zero h =
    let more = at_trees (suc t) c lines (shape lines c (suc t) zero h.1.1) in
    let one = first_tree more.trees in
    with_trees (suc t) c (Bits line chosen polynomial bits ∷ lines)
    (record { after = more.after; trees = tree (with_bits line chosen polynomial bits one.first) one.others; others = more.others; count = more.count })
shape (Chain line variable steps ∷ lines) c t (suc s) h = absurd (let no : suc s ≡ 0 = h.1.0.0 in cc)
shape (Chain line variable steps ∷ lines) c zero zero h = absurd (let no : 0 < 0 = h.1.0.1 in omega arith)
shape (Chain line variable steps ∷ lines) c (suc t) zero h =
    let more = shape lines c (suc t) steps h.1.1 in
    let one = first_tree more.trees in
    with_trees (suc t) c (Chain line variable steps ∷ lines) (record { after = more.after; trees = tree (chain line variable steps more.steps one.first) one.others; others = more.others; count = more.count })
shape (Split line variable zeros ∷ lines) c t (suc s) h = absurd (let no : suc s ≡ 0 = h.1.0.0 in cc)
shape (Split line variable zeros ∷ lines) c zero zero h = absurd (let no : 0 < 0 = h.1.0.1 in omega arith)
shape (Split line variable zeros ∷ lines) c (suc t) zero h =
    let more = shape lines c (t + length zeros) zero (subst (λ n. Completes (awaiting c (n + length zeros) 0) lines) (one_less t) h.1.1) in
    with_trees (suc t) c (Split line variable zeros ∷ lines) (with_cases (Split line variable zeros) (length zeros) t c lines (λ rest h. split line variable zeros h) (at_trees (t + length zeros) c lines more))
shape (Values variable trees ∷ lines) c t (suc s) h = absurd (let no : suc s ≡ 0 = h.1.0.0 in cc)
shape (Values variable trees ∷ lines) c zero zero h = absurd (let no : 0 < 0 = h.1.0.1 in omega arith)
shape (Values variable trees ∷ lines) c (suc t) zero h =
    let more = shape lines c (t + trees) zero (subst (λ n. Completes (awaiting c (n + trees) 0) lines) (one_less t) h.1.1) in
    with_trees (suc t) c (Values variable trees ∷ lines) (with_cases (Values variable trees) trees t c lines (λ rest h. values variable trees h) (at_trees (t + trees) c lines more))
shape (Close ∷ lines) c t (suc s) h = absurd (let no : suc s ≡ 0 = h.1.0.0 in cc)
shape (Close ∷ lines) c zero zero h = absurd (let no : 0 < 0 = h.1.0.1 in omega arith)
shape (Close ∷ lines) c (suc t) zero h =
    let more = at_trees t c lines (shape lines c t zero (subst (λ n. Completes (awaiting c n 0) lines) (one_less t) h.1.1)) in
    with_trees (suc t) c (Close ∷ lines) (record { after = more.after; trees = tree close more.trees; others = more.others; count = more.count })
shape (Assume k ∷ lines) c t (suc s) h = absurd (let no : suc s ≡ 0 = h.1.0.0 in cc)
shape (Assume k ∷ lines) c (suc t) zero h = absurd (let no : suc t ≡ 0 = h.1.0.1 in cc)
shape (Assume k ∷ lines) zero zero zero h = absurd (let no : true ≡ false = h.0 in cc)
shape (Assume k ∷ lines) (suc c) zero zero h =
    let more = at_clauses c lines (shape lines c zero zero (subst (λ n. Completes (awaiting n 0 0) lines) (one_less c) h.1.1)) in
    with_clauses (suc c) (Assume k ∷ lines) (assume k more.others) (count_clause (Assume k) lines refl ∙ ap suc more.count)
shape (Scheme node number index ∷ lines) c t (suc s) h = absurd (let no : suc s ≡ 0 = h.1.0.0 in cc)
shape (Scheme node number index ∷ lines) c (suc t) zero h = absurd (let no : suc t ≡ 0 = h.1.0.1 in cc)
shape (Scheme node number index ∷ lines) zero zero zero h = absurd (let no : true ≡ false = h.0 in cc)
shape (Scheme node number index ∷ lines) (suc c) zero zero h =
    let more = at_clauses c lines (shape lines c zero zero (subst (λ n. Completes (awaiting n 0 0) lines) (one_less c) h.1.1)) in
    with_clauses (suc c) (Scheme node number index ∷ lines) (scheme node number index more.others) (count_clause (Scheme node number index) lines refl ∙ ap suc more.count)
shape (Hinted lits hints ∷ lines) c t (suc s) h = absurd (let no : suc s ≡ 0 = h.1.0.0 in cc)
shape (Hinted lits hints ∷ lines) c (suc t) zero h = absurd (let no : suc t ≡ 0 = h.1.0.1 in cc)
shape (Hinted lits hints ∷ lines) zero zero zero h = absurd (let no : true ≡ false = h.0 in cc)
shape (Hinted lits hints ∷ lines) (suc c) zero zero h =
    let more = at_clauses c lines (shape lines c zero zero (subst (λ n. Completes (awaiting n 0 0) lines) (one_less c) h.1.1)) in
    with_clauses (suc c) (Hinted lits hints ∷ lines) (hinted lits hints more.others) (count_clause (Hinted lits hints) lines refl ∙ ap suc more.count)
shape (Lemma order lits ∷ lines) c t (suc s) h = absurd (let no : suc s ≡ 0 = h.1.0.0 in cc)
shape (Lemma order lits ∷ lines) c (suc t) zero h = absurd (let no : suc t ≡ 0 = h.1.0.1 in cc)
shape (Lemma order lits ∷ lines) zero zero zero h = absurd (let no : true ≡ false = h.0 in cc)
shape (Lemma order lits ∷ lines) (suc c) zero zero h =
    let more = at_trees 1 c lines (shape lines c 1 zero (subst (λ n. Completes (awaiting n 1 0) lines) (one_less c) h.1.1)) in
    let one = first_tree more.trees in
    let same : more.after ≡ one.behind = zero_trees one.others in
    with_clauses (suc c) (Lemma order lits ∷ lines) (lemma order lits one.first (subst AreClauses same more.others))
    (count_clause (Lemma order lits) lines refl ∙ ap suc (tree_count one.first ∙ ap clauses (sym same) ∙ more.count))

pub record AreCounted (n : ℕ) (lines : List CertLine) : Type 0 where
  pub order : AreClauses lines
  pub count : clauses lines ≡ n

pub clauses_shape : (n : ℕ) (lines : List CertLine) → Completes (awaiting n 0 0) lines → AreCounted n lines
clauses_shape n lines h = let c = at_clauses n lines (shape lines n 0 0 h) in record { order = c.others; count = c.count }
